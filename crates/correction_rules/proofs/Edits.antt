-- A datagram with the three parts of a Correction field edited: twelve octets in the place of twelve others. Assumes nothing.
use mathlib.Core.Path.{◌≡◌, refl, sym, ap, ◌∙◌}
use mathlib.Core.List.{List, ◌++◌, append_assoc}
use Prim.Native.Nat.{ℕ, ◌+◌, ◌-◌, ◌%◌, ◌^◌, ◌<◌, ◌≤◌}
use native.Mathlib.Omega.{arith}
use lib.IntN.{ℤ}
use lib.ListN.{length, get_or, take, drop, length-append, length-drop, take-append-drop, get_or-append}
use lib.Seq.{length-take-le, take_at, drop_at, drop-drop, get_or-take, get_or-drop}
use mir.Syntax.{w64}
use mir.Val.{of_z}
use Rattle.octets.specs.Number.{Octets, num, octets, put_at}
use Rattle.octets.proofs.Numbers.{length-octets, num-at}
use Rattle.octets.proofs.Parts.{Overwrites, then-part, drop_past}
use Rattle.octets.proofs.Written.{both-octets, take-octets, drop-octets, number-octets}
use Rattle.chain.specs.declared.cursor.Field.{Field}
use Rattle.field_role.specs.Correction.{delay_place, path_place, complement_place}
use Rattle.correction_rules.specs.Sum.{word_sum}
use Rattle.correction_rules.specs.Correct.{edited}
use Rattle.correction_rules.proofs.Sums.{sum-append, sum-replaced, sum_one}

-- the octets of the three parts
abbrev pub twelve : ℤ → ℕ → ℕ → List ℕ
twelve z path k = octets 8 (of_z w64 z) ++ (octets 2 path ++ octets 2 k)

length-twelve : (z : ℤ) (path k : ℕ) → length (twelve z path k) ≡ 12
length-twelve z path k = simp (length-append, length-octets)

-- those that stand in s
abbrev pub old_twelve : Field → List ℕ → List ℕ
old_twelve f s = take 12 (drop (delay_place f) s)

module _ (f : Field) (s : List ℕ) (room : f.start + 24 ≤ length s) where
  abbrev front : List ℕ
  front = take (delay_place f) s

  abbrev rest : List ℕ
  rest = drop (delay_place f + 12) s

  length_front : length front ≡ delay_place f
  length_front = length-take-le (delay_place f) s (omega arith)

  -- as a list
  pub edited-list : (z : ℤ) (path k : ℕ) → edited f z path k s ≡ front ++ (twelve z path k ++ rest)
  unfolding edited
  edited-list z path k =
      let a : path_place f ≡ delay_place f + 8 = omega arith in
      let b : complement_place f ≡ delay_place f + 8 + 2 = omega arith in
      let e : delay_place f + 8 + 2 + 2 ≡ delay_place f + 12 = omega arith in
      let first : Overwrites s front (delay_place f) s = record { content = sym (take-append-drop (delay_place f) s); up_to = length_front } in
      let one = then-part (octets 8 (of_z w64 z)) 8 first (length-octets 8 (of_z w64 z)) (omega arith) refl in
      let two = then-part (octets 2 path) 2 one (length-octets 2 path) (omega arith) refl in
      let three = then-part (octets 2 k) 2 two (length-octets 2 k) (omega arith) refl in
      rw (a, b) (three.content ∙ rw e (simp append_assoc))

  -- what stands before the complement
  module _ (z : ℤ) (path : ℕ) where
    abbrev up_to_path : List ℕ
    up_to_path = front ++ (octets 8 (of_z w64 z) ++ octets 2 path)

    length-path : length up_to_path ≡ complement_place f
    length-path =
        omega (
          arith,
          length-append front (octets 8 (of_z w64 z) ++ octets 2 path),
          length-append (octets 8 (of_z w64 z)) (octets 2 path),
          length_front,
          length-octets 8 (of_z w64 z),
          length-octets 2 path,
        )

    edited-complement : (k : ℕ) → edited f z path k s ≡ up_to_path ++ (octets 2 k ++ rest)
    edited-complement k = edited-list z path k ∙ simp append_assoc

  module _ (z : ℤ) (path k : ℕ) where
    pub edited-length : length (edited f z path k s) ≡ length s
    edited-length =
        ap length (edited-list z path k)
        ∙ omega (arith, length-append front (twelve z path k ++ rest), length-append (twelve z path k) rest, length-twelve z path k, length_front, length-drop (delay_place f + 12) s)

    -- what stands before and after
    pub edited-before : (i : ℕ) → i < delay_place f → get_or (edited f z path k s) i 0 ≡ get_or s i 0
    edited-before i h =
        ap (λ (l : List ℕ). get_or l i 0) (edited-list z path k)
        ∙ get_or-append front (twelve z path k ++ rest) 0 i (omega (arith, length_front))
        ∙ get_or-take (delay_place f) s i 0 h

    edited-rest : drop (delay_place f + 12) (edited f z path k s) ≡ rest
    edited-rest =
        ap (drop (delay_place f + 12)) (edited-list z path k)
        ∙ drop_past front (twelve z path k ++ rest) (delay_place f) 12 length_front
        ∙ drop_at (twelve z path k) rest 12 (length-twelve z path k)

    pub edited-after : (i : ℕ) → delay_place f + 12 ≤ i → get_or (edited f z path k s) i 0 ≡ get_or s i 0
    edited-after i h =
        let n = i - (delay_place f + 12) in
        let e : i ≡ delay_place f + 12 + n = omega arith in
        rw e (sym (get_or-drop (delay_place f + 12) (edited f z path k s) n 0) ∙ ap (λ (l : List ℕ). get_or l n 0) edited-rest ∙ get_or-drop (delay_place f + 12) s n 0)

    edited-front : take (delay_place f) (edited f z path k s) ≡ front
    edited-front = ap (take (delay_place f)) (edited-list z path k) ∙ take_at front (twelve z path k ++ rest) (delay_place f) length_front

    pub edited-octets : Octets s → Octets (edited f z path k s)
    edited-octets b =
        let new : Octets (twelve z path k) =
        both-octets (octets 8 (of_z w64 z)) (octets 2 path ++ octets 2 k) (number-octets 8 (of_z w64 z))
        (both-octets (octets 2 path) (octets 2 k) (number-octets 2 path) (number-octets 2 k)) in
        rw (edited-list z path k) (both-octets front (twelve z path k ++ rest) (take-octets (delay_place f) s b)
        (both-octets (twelve z path k) rest new (drop-octets (delay_place f + 12) s b)))

    -- another complement
    pub complement-put : (k' : ℕ) → put_at (edited f z path k s) (complement_place f) 2 k' ≡ edited f z path k' s
    complement-put k' =
        let t = edited f z path k s in
        let p = up_to_path z path in
        let at = complement_place f in
        let n : at + 2 ≡ delay_place f + 12 = omega arith in
        let e : take at t ≡ p = ap (take at) (edited-complement z path k) ∙ take_at p (octets 2 k ++ rest) at (length-path z path) in
        let w : Overwrites t p at t = record { content = sym (take-append-drop at t) ∙ ap (λ (a : List ℕ). a ++ drop at t) e; up_to = length-path z path } in
        (then-part (octets 2 k') 2 w (length-octets 2 k') (omega (arith, edited-length)) refl).content
        ∙ rw (n, edited-rest, edited-list z path k') (simp append_assoc)

    -- what is read there
    pub delay-read : of_z w64 z < 256 ^ 8 → num (edited f z path k s) (delay_place f) 8 ≡ of_z w64 z
    delay-read h =
        ap (λ (l : List ℕ). num l (delay_place f) 8) (edited-list z path k ∙ ap (λ (l : List ℕ). front ++ l) (append_assoc (octets 8 (of_z w64 z)) _ rest))
        ∙ num-at front ((octets 2 path ++ octets 2 k) ++ rest) (delay_place f) 8 (of_z w64 z) length_front h

    pub path-read : path < 256 ^ 2 → num (edited f z path k s) (path_place f) 2 ≡ path
    path-read h =
        let e : front ++ (twelve z path k ++ rest) ≡ (front ++ octets 8 (of_z w64 z)) ++ (octets 2 path ++ (octets 2 k ++ rest)) = simp append_assoc in
        ap (λ (l : List ℕ). num l (path_place f) 2) (edited-list z path k ∙ e)
        ∙ num-at (front ++ octets 8 (of_z w64 z)) (octets 2 k ++ rest) (path_place f) 2 path
        (omega (arith, length-append front (octets 8 (of_z w64 z)), length_front, length-octets 8 (of_z w64 z))) h

    pub complement-read : k < 256 ^ 2 → num (edited f z path k s) (complement_place f) 2 ≡ k
    complement-read h =
        ap (λ (l : List ℕ). num l (complement_place f) 2) (edited-complement z path k)
        ∙ num-at (up_to_path z path) rest (complement_place f) 2 k (length-path z path) h

  -- its sum, where it starts at a multiple of 4
  module _ (four : f.start % 4 ≡ 0) (z : ℤ) (path : ℕ) where
    apart : s ≡ front ++ (old_twelve f s ++ rest)
    apart =
        sym (take-append-drop (delay_place f) s)
        ∙ ap (λ (l : List ℕ). front ++ l) (sym (take-append-drop 12 (drop (delay_place f) s)) ∙ ap (λ (l : List ℕ). old_twelve f s ++ l) (drop-drop 12 (delay_place f) s))

    length-old : length (old_twelve f s) ≡ 12
    length-old = length-take-le 12 (drop (delay_place f) s) (omega (arith, length-drop (delay_place f) s))

    pub sum-edited : (k : ℕ) → word_sum (edited f z path k s) + word_sum (old_twelve f s) ≡ word_sum s + word_sum (twelve z path k)
    sum-edited k =
        let e = sum-replaced front (old_twelve f s) (twelve z path k) rest (omega (arith, length_front)) (omega (arith, length-old)) (omega (arith, length-twelve z path k)) in
        ap (λ (l : List ℕ). word_sum l + word_sum (old_twelve f s)) (edited-list z path k) ∙ e ∙ ap (λ (l : List ℕ). word_sum l + word_sum (twelve z path k)) (sym apart)

    pub sum-twelve : (k : ℕ) → k < 2 ^ 16 → word_sum (twelve z path k) ≡ word_sum (octets 8 (of_z w64 z)) + word_sum (octets 2 path) + k
    sum-twelve k h =
        omega (
          arith,
          sum-append (octets 8 (of_z w64 z)) (octets 2 path ++ octets 2 k) (omega (arith, length-octets 8 (of_z w64 z))),
          sum-append (octets 2 path) (octets 2 k) (omega (arith, length-octets 2 path)),
          sum_one k h,
        )

    -- the complement counts once
    pub sum-complement : (k : ℕ) → k < 2 ^ 16 → word_sum (edited f z path k s) ≡ word_sum (edited f z path 0 s) + k
    sum-complement k h = omega (arith, sum-edited k, sum-edited 0, sum-twelve k h, sum-twelve 0 (omega arith))

-- edited once more, the later parts are left
pub edited-twice : (f : Field) (s : List ℕ) → f.start + 24 ≤ length s → (z₁ z₂ : ℤ) (p₁ k₁ p₂ k₂ : ℕ)
    → edited f z₂ p₂ k₂ (edited f z₁ p₁ k₁ s) ≡ edited f z₂ p₂ k₂ s
edited-twice f s room z₁ z₂ p₁ k₁ p₂ k₂ =
    let t = edited f z₁ p₁ k₁ s in
    edited-list f t (omega (arith, edited-length f s room z₁ p₁ k₁)) z₂ p₂ k₂
    ∙ rw (edited-front f s room z₁ p₁ k₁, edited-rest f s room z₁ p₁ k₁)
    (sym (edited-list f s room z₂ p₂ k₂))
