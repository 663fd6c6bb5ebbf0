-- A datagram's refusal is one of 1 to 5 and 13, or 0, and the first of two that applies. Assumes nothing.
use mathlib.Core.Path.{◌≡◌}
use mathlib.Core.List.{List, [], ◌∷◌}
use Prim.Native.Nat.{ℕ}
use native.Mathlib.Omega.{arith}
use borrow.Author.Tests.{ne_eqb}
use lib.Dec.{eqb}
use lib.ListN.{drop}
use Rattle.refusal.specs.declared.Refusal.{Refusal}
use Rattle.refusal.specs.Refusal.{refusal_number}
use Rattle.refusal.proofs.Numbers.{number_above_none}
use Rattle.octets.proofs.Tests.{by-test}
use Rattle.header.specs.Header.{refusal}
use Rattle.header.proofs.Refusals.{header-number}
use Rattle.chain.specs.Chain.{step_refusal, walk, chain_refusal, after_mac, after_refusal, or_else, sound_refusal}
use Rattle.chain.specs.declared.cursor.Field.{Field}
use Rattle.chain.specs.declared.cursor.Step.{Step}
use Rattle.chain.specs.declared.cursor.Step.TheVariants.{Found, WrongLength, WrongPadding, End}

-- what holds of them holds of it
pub sound-number : (P : ℕ → Type 0) → P 0 → P 1 → P 2 → P 3 → P 4 → P 5 → P 13 → (s : List ℕ) (wanted : ℕ) → P (sound_refusal s wanted)
unfolding sound_refusal chain_refusal
sound-number P none one two three four five thirteen s wanted =
    by-test P (eqb (refusal s wanted) 0)
    (λ e. by-test P (eqb (step_refusal (walk (drop 48 s) 0).stop) 0) (λ e. mac (after_mac (walk (drop 48 s) 0).fields)) (λ e. stop (walk (drop 48 s) 0).stop))
    (λ e. header-number P none one two three s wanted)
  where
    stop : (t : Step) → P (step_refusal t)
    stop (Found f c) = none
    stop WrongLength = four
    stop WrongPadding = five
    stop End = none

    mac : (fs : List Field) → P (after_refusal fs)
    mac [] = none
    mac (f ∷ fs) = thirteen

-- the first of two refusals, where it applies
pub first-refusal : (r : Refusal) (first second : ℕ) → refusal_number r ≡ first → refusal_number r ≡ or_else first second
first-refusal r first second e = let above = number_above_none r in rw (← e, ne_eqb (refusal_number r) 0 (λ q. omega arith))
