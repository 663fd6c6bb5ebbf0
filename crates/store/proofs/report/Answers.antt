-- `report` meets its contract: each test decides which case holds. Assumes nothing.
use mathlib.Core.Path.{sym, ap, ◌∙◌}
use mathlib.Core.List.{List}
use Prim.Native.Nat.{ℕ}
use borrow.Author.Rules.{rules}
use Rattle.octets.specs.Number.{Octets}
use Rattle.store_rules.proofs.Reports.{report-wrong, report-no-time, report-no-cookie, report-absent, report-again, report-done}
use Rattle.store.proofs.report.Goals as goal

pub returns-then-wrong : goal.returns-then-wrong
returns-then-wrong c = report-wrong _ _ _ (sym c.wrong.ensures ∙ c.if-wrong.true)

pub returns-then-time-eq0 : goal.returns-then-time-eq0
returns-then-time-eq0 c = report-no-time _ _ _ (sym c.wrong.ensures ∙ c.if-wrong.false) c.if-time-eq0.true

pub returns-then-cookie-eq0 : goal.returns-then-cookie-eq0
returns-then-cookie-eq0 c =
    let b : Octets c.args.store.now = search rules in
    report-no-cookie _ _ _ (sym c.wrong.ensures ∙ c.if-wrong.false) c.if-time-eq0.false b c.if-cookie-eq0.true

pub returns-then-at-store : goal.returns-then-at-store
returns-then-at-store c =
    let b : Octets c.args.store.now = search rules in
    report-absent _ _ _ (sym c.wrong.ensures ∙ c.if-wrong.false) c.if-time-eq0.false b c.if-cookie-eq0.false _ c.find-at.ensures c.if-at-store.true

pub returns-then-get-ne0 : goal.returns-then-get-ne0
returns-then-get-ne0 c =
    let b : Octets c.args.store.now = search rules in
    report-again _ _ _ (sym c.wrong.ensures ∙ c.if-wrong.false) c.if-time-eq0.false b c.if-cookie-eq0.false _ c.find-at.ensures c.if-at-store.false _ c.get.ensures c.if-get-ne0.true

pub returns : goal.returns
returns c =
    let b : Octets c.args.store.now = search rules in
    ap (λ (l : List ℕ). (0, l)) c.put.ensures
    ∙ report-done _ _ _ (sym c.wrong.ensures ∙ c.if-wrong.false) c.if-time-eq0.false b c.if-cookie-eq0.false _ c.find-at.ensures c.if-at-store.false _ c.get.ensures c.if-get-ne0.false
