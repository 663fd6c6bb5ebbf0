use mathlib.Core.Path.{◌≡◌, sym, ◌∙◌}
use mathlib.Core.List.{List}
use Prim.Native.Nat.{ℕ, ◌+◌, ◌*◌, ◌<◌}
use native.Mathlib.Omega.{arith}
use borrow.Author.Count.{below_more}
use lib.ListN.{length, get_or, set, length-set}
use lib.Seq.{ext_get_or, get_or-set_same, get_or-set_other}
use mir.Syntax.{w8}
use mir.Val.{Fits}
use Rattle.octets.specs.Number.{Octets}
use Rattle.filter_rules.specs.Positions.{positions}
use Rattle.filter_rules.proofs.Digits.{ten-positions, twelve-bits}
use borrow.Author.Rules.{rules}
use Rattle.filter.proofs.positions.Goals as goal
use Rattle.filter.proofs.positions.Goals.{Start}

-- a list that holds f below k, and f k written at k
filled : (f : ℕ → ℕ) (l : List ℕ) (k v : ℕ) → k < length l → ((j : ℕ) → j < k → get_or l j 0 ≡ f j) → v ≡ f k
    → (j : ℕ) → j < k + 1 → get_or (set l k v) j 0 ≡ f j
filled f l k v h p e =
    below_more (λ (j : ℕ). get_or (set l k v) j 0 ≡ f j) k
    (λ j q. get_or-set_other l k j v 0 (λ r. omega arith) ∙ p j q)
    (get_or-set_same l k v 0 h ∙ e)

-- each octet of the ID is below 256
octets : (c : Start) → Octets c.args.id
octets c i = let h : Fits w8 (get_or c.args.id i 0) = search rules in h.fits

pub loop-g-preserved : goal.loop-g-preserved
loop-g-preserved c =
    let id = c.args.id in
    let g = c.loop-g.g in
    let two-positions = twelve-bits id (octets (goal.at.loop-g-preserved c).Start) g (omega arith) in
    let one = filled (λ j. get_or (positions id) j 0) c.loop-g.out (2 * g) c.upper.result (omega arith) c.loop-g.invariant.2
    (c.upper.ensures ∙ sym two-positions.0) in
    let out = set c.loop-g.out (2 * g) c.upper.result in
    let two = filled (λ j. get_or (positions id) j 0) out (2 * g + 1) c.lower.result (simp length-set (omega arith)) one
    (c.lower.ensures ∙ sym two-positions.1) in
    (search rules, search rules, λ j h. two j (omega arith))

pub returns : goal.returns
returns c =
    let id = c.args.id in
    ext_get_or 0 c.loop-g.out (positions id) (c.loop-g.invariant.1 ∙ sym (ten-positions id).0)
    (λ j h. c.loop-g.invariant.2 j (omega arith))
