-- Parts, places and pieces of a text. Assumes nothing.
use Rattle.std.proofs.Common.{◌≡◌, ℕ, suc, ◌+◌, ◌-◌, ◌<◌, ◌≤◌, Bool, true, false, cond, not, eqb, leb, ltb, List, [], ◌∷◌, length, drop, Some, None, sym, refl, ap, ◌∙◌, arith, length-drop, drop_of_length-le, drop-drop, le-leb, leb-false, leb-true}
use borrow.Author.Tests.{ltb-true, ltb-false}
use Rattle.std.specs.List.{position, position_or_len}
use Rattle.std.specs.Cmp.Lexicographic.{pointwise}
use lib.Seq.{drop-length}
use Rattle.text.specs.Place.{part_of, fits, onward, ahead, octet_place, piece_from, piece_of, same_of}

module _ (octet : ℕ) (same : Bool) where
  onward-end : (s : List ℕ) (i : ℕ) → length s ≤ i → onward octet same (drop i s) ≡ []
  unfolding onward
  onward-end s i h = rw (drop_of_length-le s h)

  -- how many stand before it
  first-place : (s : List ℕ) → position_or_len (fits octet same) s + length (onward octet same s) ≡ length s
  unfolding onward
  first-place [] = refl
  first-place (x ∷ xs) = go (fits octet same x) (first-place xs)
    where
      go : (b : Bool) → position_or_len (fits octet same) xs + length (onward octet same xs) ≡ length xs
          → cond (not b) (1 + position_or_len (fits octet same) xs) 0 + length (cond b (x ∷ xs) (onward octet same xs)) ≡ length (x ∷ xs)
      go true e = omega arith
      go false e = omega arith

  module _ (s t : List ℕ) (at : ℕ) (e : t ≡ drop at s) where
    -- the place is found
    pub place_here : (i : ℕ) → Some i ≡ position (fits octet same) t → (at + i < length s) × (at + i ≡ octet_place s at octet same)
    place_here i f = go (ltb (position_or_len (fits octet same) t) (length t)) refl f
      where
        go : (b : Bool) → ltb (position_or_len (fits octet same) t) (length t) ≡ b → Some i ≡ cond b (Some (position_or_len (fits octet same) t)) None
            → (at + i < length s) × (at + i ≡ octet_place s at octet same)
        go true g h =
            let k : i ≡ position_or_len (fits octet same) t = cc in
            let l = ltb-true (position_or_len (fits octet same) t) (length t) g in
            let m = first-place t in
            let n : length t ≡ length s - at = ap length e ∙ length-drop at s in
            (omega arith, rw (← e) (omega arith))
        go false g h = cc

    -- there is none
    pub place_end : None ≡ position (fits octet same) t → length s ≡ octet_place s at octet same
    place_end f = go (ltb (position_or_len (fits octet same) t) (length t)) refl f
      where
        go : (b : Bool) → ltb (position_or_len (fits octet same) t) (length t) ≡ b → None ≡ cond b (Some (position_or_len (fits octet same) t)) None
            → length s ≡ octet_place s at octet same
        go true g h = cc
        go false g h =
            let l = ltb-false (position_or_len (fits octet same) t) (length t) g in
            let m = first-place t in
            rw (← e) (omega arith)

  -- what is left is no more than there was
  onward-length : (s : List ℕ) → length (onward octet same s) ≤ length s
  unfolding onward
  onward-length [] = omega arith
  onward-length (x ∷ xs) = go (fits octet same x) (onward-length xs)
    where
      go : (b : Bool) → length (onward octet same xs) ≤ length xs → length (cond b (x ∷ xs) (onward octet same xs)) ≤ length (x ∷ xs)
      go true h = omega arith
      go false h = omega arith

  -- and stands at the end
  onward-drop : (s : List ℕ) → drop (length s - length (onward octet same s)) s ≡ onward octet same s
  unfolding onward
  onward-drop [] = refl
  onward-drop (x ∷ xs) = go (fits octet same x) (onward-length xs) (onward-drop xs)
    where
      go : (b : Bool) → length (onward octet same xs) ≤ length xs
          → drop (length xs - length (onward octet same xs)) xs ≡ onward octet same xs
          → drop (length (x ∷ xs) - length (cond b (x ∷ xs) (onward octet same xs))) (x ∷ xs) ≡ cond b (x ∷ xs) (onward octet same xs)
      go true h e =
          let z : suc (length xs) - suc (length xs) ≡ 0 = omega arith in
          rw z
      go false h e =
          let z : suc (length xs) - length (onward octet same xs) ≡ suc (length xs - length (onward octet same xs)) = omega arith in
          rw z e

  -- from the place that is found on
  place-drop : (s : List ℕ) (at : ℕ) → drop (octet_place s at octet same) s ≡ onward octet same (drop at s)
  place-drop s at = go (leb at (length s)) refl
    where
      go : (b : Bool) → leb at (length s) ≡ b → drop (length s - length (onward octet same (drop at s))) s ≡ onward octet same (drop at s)
      go true e =
          let h = leb-true at (length s) e in
          let l = onward-length (drop at s) in
          let d = length-drop at s in
          let z : length s - length (onward octet same (drop at s)) ≡ at + (length (drop at s) - length (onward octet same (drop at s))) = omega arith in
          ap (λ (n : ℕ). drop n s) z ∙ sym (drop-drop (length (drop at s) - length (onward octet same (drop at s))) at s) ∙ onward-drop (drop at s)
      go false e =
          let h = leb-false at (length s) e in
          let z = onward-end s at (omega arith) in
          let n : length s - 0 ≡ length s = omega arith in
          rw (z, n) (drop-length s)

module _ (s : List ℕ) (number separator : ℕ) where
  -- where the first piece begins
  pub piece-first : (at : ℕ) → at ≡ octet_place s 0 separator false
      → piece_from separator (number - 0) (drop at s) ≡ piece_of s number separator
  unfolding piece_of
  piece-first at e = let z : number - 0 ≡ number = omega arith in rw (z, e, place-drop separator false s 0)

  -- where the next one begins
  pub piece-next : (k at to from : ℕ) → k < number → to ≡ octet_place s at separator true → from ≡ octet_place s to separator false
      → piece_from separator (number - (k + 1)) (drop from s) ≡ piece_from separator (number - k) (drop at s)
  unfolding piece_from
  piece-next k at to from h e f =
      let z : number - k ≡ suc (number - (k + 1)) = omega arith in
      rw (z, f, place-drop separator false s to, e, place-drop separator true s at)

  -- the wanted one
  pub piece-last : (k at to : ℕ) → number ≤ k → to ≡ octet_place s at separator true
      → part_of s at to ≡ piece_from separator (number - k) (drop at s)
  unfolding piece_from ahead
  piece-last k at to h e =
      let z : number - k ≡ 0 = omega arith in
      let d = length-drop at s in
      let n : to - at ≡ length (drop at s) - length (onward separator true (drop at s)) = omega arith in
      rw (z, le-leb to (length s) (omega arith), n)

-- the library's test of two texts
pub same_as : (a b : List ℕ) → pointwise eqb a b ≡ same_of a b
unfolding same_of
same_as [] [] = refl
same_as [] (y ∷ ys) = refl
same_as (x ∷ xs) [] = refl
same_as (x ∷ xs) (y ∷ ys) = rw (same_as xs ys)
