-- The first record with cookie 0 gets the cookie; where there is none, the last does once the first has left.
use Rattle.std.proofs.Common.{◌≡◌, ◌-◌, ℕ, List, length, set, refl, sym, ap, ◌∙◌, arith}
use borrow.Author.Tests.{lt-ltb, le-ltb, ltb-true, ltb-false}
use Rattle.std.proofs.lemmas.List.{get_or_read_under}
use Rattle.store_rules.specs.Row.{Record}
use Rattle.records.specs.Records.{records_in, leave_records}
use Rattle.records.specs.declared.Record.{Record as Slot}
use Rattle.records.proofs.Slots.{none, length-in}
use Rattle.records.proofs.Moves.{length-leave}
use Rattle.records.proofs.Joining.{with_cookie, join_free, join-last, join-none, cookie-in}
use Rattle.records.proofs.join.Goals as goal

pub returns-then-free-records : goal.returns-then-free-records
returns-then-free-records c =
    let rs = c.args.records.now in
    cookie-in rs c.find-free.result c.args.cookie
    ∙ sym (join_free (records_in rs) c.args.cookie.0 c.find-free.result c.find-free.ensures (lt-ltb _ _ (omega (arith, length-in rs))))

-- as many records are left
as-many : (rs l : List Slot) → records_in l ≡ leave_records (records_in rs) 0 → length (records_in rs) ≡ length l
as-many rs l e = sym (length-leave (records_in rs) 0) ∙ ap length (sym e) ∙ length-in l

pub returns-in-Some : goal.returns-in-Some
returns-in-Some c =
    let rs = c.args.records.now in
    let l = c.leave.new.records in
    let n = as-many rs l c.leave.ensures in
    let some = ltb-true 0 (length l) (sym c.in-Some.ensures.item.0) in
    let e = get_or_read_under l (length l - 1) (length l) c.in-Some.newest.now none c.in-Some.ensures.item.1 (omega (arith, some)) refl in
    ap (λ (s : Slot). records_in (set l (length l - 1) (record { cookie = c.args.cookie; time = s.time }))) e
    ∙ cookie-in l (length l - 1) c.args.cookie
    ∙ ap (λ (r : List Record). with_cookie r (length l - 1) c.args.cookie.0) c.leave.ensures
    ∙ ap (λ (m : ℕ). with_cookie (leave_records (records_in rs) 0) (m - 1) c.args.cookie.0) (sym n)
    ∙ sym (join-last (records_in rs) c.args.cookie.0 c.find-free.result c.find-free.ensures (le-ltb _ _ (omega (arith, length-in rs))) (omega (arith, n, some)))

pub returns-in_default : goal.returns-in_default
returns-in_default c =
    let rs = c.args.records.now in
    let l = c.leave.new.records in
    let z = ltb-false 0 (length l) (sym c.in_default.ensures.item.0) in
    c.leave.ensures
    ∙ sym (join-none (records_in rs) c.args.cookie.0 c.find-free.result c.find-free.ensures (le-ltb _ _ (omega (arith, length-in rs))) (omega (arith, as-many rs l c.leave.ensures, z)))
