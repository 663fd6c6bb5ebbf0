use mathlib.Core.Path.{ap, ◌∙◌, subst}
use Prim.Native.Nat.{ℕ, ◌-◌, ◌<◌}
use lib.ListN.{length, take, drop}
use Rattle.octets.proofs.Parts.{take_rest}
use Rattle.chain.specs.Chain.{fields_refusal}
use Rattle.chain.proofs.Steps.{reached, stopped}
use Rattle.chain.proofs.Checks.{fields-stop, fields-next, fields-mac}
use Rattle.chain.proofs.Rests.{rest-less}
use Rattle.chain.proofs.+check.Goals as goal

pub returns-in_default : goal.returns-in_default
returns-in_default t c = c.refusal.ensures ∙ fields-stop _ _ c.step-outcome.ensures (stopped _ c.in_default.not-Found)

pub returns-then-field : goal.returns-then-field
returns-then-field t c = c.after_mac.ensures ∙ fields-mac _ _ c.step-outcome.ensures _ _ c.in-Found.is c.if-field.true

pub check-requires : goal.check-requires
check-requires t c =
    let s = c.args.rest.now in
    let n = c.in-Found.next.at in
    let p = reached _ 0 _ _ _ c.step-outcome.ensures c.in-Found.is in
    (subst (λ (j : ℕ). length (take (length s - n) (drop n s)) < j) c.decreases (rest-less s n p.0 p.1), tt)

pub returns : goal.returns
returns t c =
    c.check.ensures ∙ ap fields_refusal (take_rest c.args.rest.now c.in-Found.next.at)
    ∙ fields-next _ _ c.step-outcome.ensures _ _ c.in-Found.is c.if-field.false
