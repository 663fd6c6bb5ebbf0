use mathlib.Core.Path.{◌≡◌, sym, ap, ◌∙◌}
use mathlib.Core.Bool.{Bool, true, false, ◌||◌}
use mathlib.Core.List.{List}
use Prim.Native.Nat.{ℕ, ◌+◌, ◌-◌, ◌*◌, ◌<◌, ◌≤◌}
use native.Mathlib.Nat.{add-zero}
use native.Mathlib.Omega.{arith}
use lib.Dec.{eqb}
use lib.ListN.{length, take, drop}
use Rattle.octets.specs.Number.{num}
use Rattle.octets.proofs.Numbers.{num-drop}
use Rattle.octets.proofs.Parts.{take_rest}
use Rattle.store_rules.specs.Row.{held}
use Rattle.store_rules.proofs.Walks.{rest, rest-next, rest_end}
use Rattle.store_check.proofs.held_later.Goals as goal

-- the cookie of what is lent from a place on stands at that place
cookie-at : (s : List ℕ) (at : ℕ) → num (take (length s - at) (drop at s)) 0 8 ≡ num s at 8
cookie-at s at = rw (take_rest s at, num-drop s at 0 8, add-zero at)

-- one record has it, or one of those that are left
held-next : (s : List ℕ) (c at : ℕ) (t : Bool) → at + 16 ≤ length s → t ≡ eqb (num s at 8) c → held c (rest s at) ≡ t || held c (rest s (at + 16))
unfolding held
held-next s c at t h e = ap (held c) (rest-next s at h) ∙ rw (← e)

held-end : (s : List ℕ) (c at : ℕ) → length s < at + 16 → held c (rest s at) ≡ false
unfolding held
held-end s c at h = ap (held c) (rest_end s at h)

-- a turn, with what the code compares
turn : (s : List ℕ) (at k : ℕ) (t : Bool) → k + 16 ≤ length s
    → t ≡ eqb (num (take (length s - k) (drop k s)) 0 8) (num (take (length s - at) (drop at s)) 0 8)
    → held (num s at 8) (rest s k) ≡ t || held (num s at 8) (rest s (k + 16))
turn s at k t h e = held-next s (num s at 8) k t h (e ∙ rw (cookie-at s k, cookie-at s at))

pub returns-then-same_cookie : goal.returns-then-same_cookie
returns-then-same_cookie c =
    let l = c.loop-i in
    let s = c.args.store.now in
    sym (l.invariant ∙ turn s c.args.at (c.args.at + 16 * l.i) true (omega (arith, c.loop-i-test.true, c.requires)) (sym c.if-same_cookie.true ∙ c.same_cookie.ensures))

pub loop-i-preserved : goal.loop-i-preserved
loop-i-preserved c =
    let l = c.loop-i in
    let s = c.args.store.now in
    let k : c.args.at + 16 * l.i + 16 ≡ c.args.at + 16 * (l.i + 1) = omega arith in
    l.invariant
    ∙ turn s c.args.at (c.args.at + 16 * l.i) false (omega (arith, c.loop-i-test.true, c.requires)) (sym c.if-same_cookie.false ∙ c.same_cookie.ensures)
    ∙ ap (λ (n : ℕ). held (num s c.args.at 8) (rest s n)) k

pub returns : goal.returns
returns c =
    let l = c.loop-i in
    let s = c.args.store.now in
    sym (l.invariant ∙ held-end s (num s c.args.at 8) (c.args.at + 16 * l.i) (omega (arith, c.loop-i-test.false, c.requires)))
