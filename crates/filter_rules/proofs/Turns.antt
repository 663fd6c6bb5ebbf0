-- One turn of each loop over positions or over a filter, of octets or of words. Assumes nothing.
--     add_step, add-end         what is left to add, before a turn and after it
--     contains-all              the test of every position
--     union-step, union-end     what is left to unite
use mathlib.Core.Path.{◌≡◌, refl, ap}
use mathlib.Core.Bool.{Bool, ◌&&◌}
use mathlib.Core.List.{List, [], ◌∷◌}
use Prim.Native.Nat.{ℕ, zero, suc, ◌+◌, ◌≤◌, ◌<◌, min}
use native.Mathlib.Nat.{le_of_suc-le-suc, not-suc-le-zero}
use native.Mathlib.Numerals.{add-one}
use native.Mathlib.Omega.{arith}
use lib.Bits.{bit_or}
use lib.ListN.{length, get_or, set, drop, drop_of_length-le}
use lib.Seq.{drop-cons}
use Rattle.std.specs.List.{list_all}
use Rattle.filter_rules.specs.Filter.{is_set_in, add_position_in, add_all_in, contains_all_in, union}

-- the first of what is left
drop-next : (l : List ℕ) (i : ℕ) → i < length l → drop i l ≡ get_or l i 0 ∷ drop (i + 1) l
drop-next l i h = rw (add-one, drop-cons l i 0)

-- ---- a list of positions, in elements of any width

module _ (width : ℕ) (f ps : List ℕ) (i : ℕ) where
  pub add_step : i < length ps → add_all_in width f (drop i ps) ≡ add_all_in width (add_position_in width f (get_or ps i 0)) (drop (i + 1) ps)
  unfolding add_all_in
  add_step h = ap (add_all_in width f) (drop-next ps i h)

  pub add-end : length ps ≤ i → add_all_in width f (drop i ps) ≡ f
  unfolding add_all_in
  add-end h = ap (add_all_in width f) (drop_of_length-le ps h)

-- the test of every position
pub contains-all : (width : ℕ) (f ps : List ℕ) → contains_all_in width f ps ≡ list_all (is_set_in width f) ps
unfolding contains_all_in
contains-all width f [] = refl
contains-all width f (p ∷ ps) = ap (λ (t : Bool). is_set_in width f p && t) (contains-all width f ps)

-- ---- union

-- the union from element i on: those before i are done
abbrev pub union_from : ℕ → List ℕ → List ℕ → List ℕ
union_from zero f g = union f g
union_from (suc i) [] g = []
union_from (suc i) (a ∷ f) [] = a ∷ f
union_from (suc i) (a ∷ f) (b ∷ g) = a ∷ union_from i f g

union-suc : (f g : List ℕ) (i : ℕ) → i < length f → i < length g
    → union_from (suc i) (set f i (bit_or (get_or f i 0) (get_or g i 0))) g ≡ union_from i f g
unfolding union
union-suc [] g i h k = absurd (not-suc-le-zero h)
union-suc (a ∷ f) [] i h k = absurd (not-suc-le-zero k)
union-suc (a ∷ f) (b ∷ g) zero h k = refl
union-suc (a ∷ f) (b ∷ g) (suc i) h k = ap (λ (l : List ℕ). a ∷ l) (union-suc f g i (le_of_suc-le-suc h) (le_of_suc-le-suc k))

pub union-step : (f g : List ℕ) (i : ℕ) → i < min (length f) (length g)
    → union_from (i + 1) (set f i (bit_or (get_or f i 0) (get_or g i 0))) g ≡ union_from i f g
union-step f g i h = rw add-one (union-suc f g i (omega arith) (omega arith))

pub union-end : (f g : List ℕ) (i : ℕ) → min (length f) (length g) ≤ i → union_from i f g ≡ f
unfolding union
union-end [] g zero h = refl
union-end [] g (suc i) h = refl
union-end (a ∷ f) [] zero h = refl
union-end (a ∷ f) [] (suc i) h = refl
union-end (a ∷ f) (b ∷ g) zero h = absurd (omega arith)
union-end (a ∷ f) (b ∷ g) (suc i) h = ap (λ (l : List ℕ). a ∷ l) (union-end f g i (omega arith))
