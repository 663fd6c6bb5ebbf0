-- Digits and the numbers that they spell. Assumes nothing.
use Rattle.std.proofs.Common.{◌≡◌, ℕ, ◌+◌, ◌-◌, ◌*◌, ◌%◌, ◌^◌, ◌<◌, ◌≤◌, Bool, true, false, cond, ◌&&◌, eqb, leb, ltb, Option, Some, None, List, [], ◌∷◌, length, get_or, take, drop, sym, refl, ap, ◌∙◌, mul-le-mul_left, add-one, arith, drop_of_length-le, drop-cons, le-leb, leb-true, leb-false}
use Rattle.std.specs.Char.{digit_value}
use Rattle.std.specs.Option.{SomeIff, ok_or, is_some}
use Rattle.words.specs.declared.problem.Problem.TheVariants.{OutOfRange}
use Rattle.words.specs.declared.number.Base.{Base}
use Rattle.words.specs.declared.number.Base.TheVariants.{Decimal, Hexadecimal}
use Rattle.words.specs.Wrong.{value_of, radix_of, digit_below, more}
use Rattle.std.proofs.lemmas.Bool.Decides.{nat_tests}
use borrow.Author.Tests.{ltb-true, lt-ltb, le-ltb, ltb-false}
use borrow.Author.Tests.{lt-leb}
use Rattle.std.specs.Cmp.Lexicographic.{pointwise}
use Rattle.octets.specs.Number.{get_at}
use Rattle.octets.proofs.Numbers.{num-one}
use Rattle.words.specs.Numeral.{Value, digit_of, all_digits, number_of, value, at_most, digits_of, unsigned_of, negated, signed_of}

-- the library's digits are these
digit-as : (x : ℕ) → cond (ltb (digit_value x) 16) (digit_value x) 16 ≡ digit_of x
unfolding digit_of
digit-as x = grind (arith, nat_tests)

pub digit_bound : (x : ℕ) → digit_of x ≤ 16
digit_bound x = go (ltb (digit_value x) 16) refl (digit-as x)
  where
    go : (b : Bool) → ltb (digit_value x) 16 ≡ b → cond b (digit_value x) 16 ≡ digit_of x → digit_of x ≤ 16
    go true e f = let h = ltb-true (digit_value x) 16 e in omega arith
    go false e f = omega arith

module _ (x : ℕ) where
  pub digit_some : (d : ℕ) → digit_value x < 16 → d ≡ digit_value x → d ≡ digit_of x
  digit_some d h e = e ∙ rw (lt-ltb (digit_value x) 16 h) at (digit-as x)

  pub digit_none : 16 ≤ digit_value x → 16 ≡ digit_of x
  digit_none h = rw (le-ltb (digit_value x) 16 h) at (digit-as x)

pub radix-positive : (base : Base) → 0 < radix_of base
radix-positive Decimal = omega arith
radix-positive Hexadecimal = omega arith

radix-bound : (base : Base) → radix_of base ≤ 16
radix-bound Decimal = omega arith
radix-bound Hexadecimal = omega arith

-- what the library says of an octet as a digit
pub digit_read_in : (x : ℕ) (base : Base) (r : Option ℕ) → SomeIff r (digit_value x < radix_of base) (digit_value x)
    → r ≡ digit_below (radix_of base) x
digit_read_in x base r h = go (radix_of base) (radix-bound base) r h
  where
    go : (n : ℕ) → n ≤ 16 → (r : Option ℕ) → SomeIff r (digit_value x < n) (digit_value x) → r ≡ digit_below n x
    go n l None h = test (ltb (digit_value x) 16) refl
      where
        test : (b : Bool) → ltb (digit_value x) 16 ≡ b → None ≡ digit_below n x
        test true e =
            let z = digit_some x (digit_value x) (ltb-true (digit_value x) 16 e) refl in
            rw (← z, le-ltb (digit_value x) n (omega arith))
        test false e =
            let z = digit_none x (ltb-false (digit_value x) 16 e) in
            rw (← z, le-ltb 16 n l)
    go n l (Some d) h =
        let z = digit_some x d (omega arith) h.1 in
        rw (← z, lt-ltb d n (omega arith))

-- what an answer says of the digit
pub below_some : (base x d : ℕ) → Some d ≡ digit_below base x → (digit_of x < base) × (d ≡ digit_of x)
below_some base x d h = go (ltb (digit_of x) base) refl h
  where
    go : (b : Bool) → ltb (digit_of x) base ≡ b → Some d ≡ cond b (Some (digit_of x)) None → (digit_of x < base) × (d ≡ digit_of x)
    go true e f = (ltb-true (digit_of x) base e, cc)
    go false e f = cc

pub below_none : (base x : ℕ) → None ≡ digit_below base x → base ≤ digit_of x
below_none base x h = go (ltb (digit_of x) base) refl h
  where
    go : (b : Bool) → ltb (digit_of x) base ≡ b → None ≡ cond b (Some (digit_of x)) None → base ≤ digit_of x
    go true e f = cc
    go false e f = ltb-false (digit_of x) base e

pub no_digit : (x : ℕ) (r : Option ℕ) → r ≡ digit_below 16 x → is_some r ≡ false → 15 < digit_of x
no_digit x None h e = let k = below_none 16 x h in omega arith
no_digit x (Some d) h e = let f : true ≡ false = e in cc

pub some_digit : (x : ℕ) (r : Option ℕ) → r ≡ digit_below 16 x → is_some r ≡ true → digit_of x ≤ 15
some_digit x None h e = let f : false ≡ true = e in cc
some_digit x (Some d) h e = let k = below_some 16 x d h in omega arith

module _ (base : ℕ) (s : List ℕ) (i : ℕ) where
  pub all_pass : i < length s → digit_of (get_or s i 0) < base → all_digits base (drop (i + 1) s) ≡ all_digits base (drop i s)
  unfolding all_digits
  all_pass h l = rw (drop-cons s i 0 h, add-one) (rw (lt-leb base (digit_of (get_or s i 0)) l))

  pub all-fail : i < length s → base ≤ digit_of (get_or s i 0) → false ≡ all_digits base (drop i s)
  unfolding all_digits
  all-fail h l = rw (drop-cons s i 0 h) (rw (le-leb base (digit_of (get_or s i 0)) l))

  pub all_end : length s ≤ i → true ≡ all_digits base (drop i s)
  unfolding all_digits
  all_end h = rw (drop_of_length-le s h)

  pub number-next : (n : ℕ) → i < length s → number_of base (n * base + digit_of (get_or s i 0)) (drop (i + 1) s) ≡ number_of base n (drop i s)
  unfolding number_of
  number-next n h = rw (drop-cons s i 0 h, add-one)

  pub number-end : (n : ℕ) → length s ≤ i → number_of base n (drop i s) ≡ n
  unfolding number_of
  number-end n h = rw (drop_of_length-le s h)

-- further digits make no number smaller
number-grows : (base n : ℕ) (s : List ℕ) → 0 < base → n ≤ number_of base n s
unfolding number_of
number-grows base n [] h = omega arith
number-grows base n (x ∷ xs) h =
    let k : n * 1 ≤ n * base = mul-le-mul_left n h in
    omega (arith, number-grows base (n * base + digit_of x) xs h)

-- WHAT IS READ OF A NUMBER SO FAR, where the whole is m: the digits that are left lead on to it, or it is too large already

abbrev pub SoFar : (base most : ℕ) → List ℕ → (m : ℕ) → Option ℕ → Type 0
SoFar base most rest m (Some n) = (n ≤ most) × (number_of base n rest ≡ m)
SoFar base most rest m None = most < m

pub so_far_next : (base most : ℕ) (s : List ℕ) (i m d : ℕ) (r : Option ℕ) → 0 < base → i < length s → d ≡ digit_of (get_or s i 0)
    → SoFar base most (drop i s) m r → SoFar base most (drop (i + 1) s) m (more base most d r)
so_far_next base most s i m d None b l e h = h
so_far_next base most s i m d (Some n) b l e h = go (leb (n * base + d) most) refl
  where
    z : number_of base (n * base + d) (drop (i + 1) s) ≡ m
    z = rw e (number-next base s i n l) ∙ h.1

    go : (t : Bool) → leb (n * base + d) most ≡ t → SoFar base most (drop (i + 1) s) m (cond t (Some (n * base + d)) None)
    go true f = (leb-true (n * base + d) most f, z)
    go false f =
        let k = leb-false (n * base + d) most f in
        let g = number-grows base (n * base + d) (drop (i + 1) s) b in
        omega (arith, z)

-- the whole number
pub so_far_end : (base most : ℕ) (s : List ℕ) (i m : ℕ) (r : Option ℕ) → length s ≤ i → SoFar base most (drop i s) m r
    → value_of (ok_or r (record { problem = OutOfRange; value = most })) ≡ at_most most m
unfolding at_most
so_far_end base most s i m None l h = rw (lt-leb m most h)
so_far_end base most s i m (Some n) l h =
    let z : n ≡ m = sym (number-end base s i n l) ∙ h.1 in
    rw (← z, le-leb n most h.0)

-- THE PREFIX OF A WORD

pub first_octet : (x : ℕ) (xs : List ℕ) → get_at (x ∷ xs) 0 1 ≡ x
first_octet x xs = rw (le-leb (0 + 1) (length (x ∷ xs)) (omega arith)) (num-one (x ∷ xs) 0)

second_octet : (x y : ℕ) (ys : List ℕ) → get_at (x ∷ y ∷ ys) 1 1 ≡ y
second_octet x y ys = rw (le-leb (1 + 1) (length (x ∷ y ∷ ys)) (omega arith)) (num-one (x ∷ y ∷ ys) 1)

pub and-true : (b : Bool) → (b && true) ≡ b
and-true true = refl
and-true false = refl

pub and-false : (b : Bool) → (b && false) ≡ false
and-false true = refl
and-false false = refl

minus-prefix : (s : List ℕ) → pointwise eqb (take 1 s) (45 ∷ []) ≡ eqb (get_at s 0 1) 45
minus-prefix [] = refl
minus-prefix (x ∷ xs) = rw first_octet (and-true (eqb x 45))

hexadecimal-prefix : (s : List ℕ) → pointwise eqb (take 2 s) (48 ∷ 120 ∷ []) ≡ (eqb (get_at s 0 1) 48 && eqb (get_at s 1 1) 120)
hexadecimal-prefix [] = refl
hexadecimal-prefix (x ∷ []) = rw first_octet
hexadecimal-prefix (x ∷ y ∷ ys) = rw (first_octet, second_octet, and-true (eqb y 120))

module _ (most : ℕ) (s : List ℕ) where
  unsigned-as : cond (pointwise eqb (take 2 s) (48 ∷ 120 ∷ [])) (digits_of 16 most (drop 2 s)) (digits_of 10 most s) ≡ unsigned_of most s
  unfolding unsigned_of
  unsigned-as = rw (hexadecimal-prefix s)

  pub unsigned-hexadecimal : pointwise eqb (take 2 s) (48 ∷ 120 ∷ []) ≡ true → digits_of 16 most (drop 2 s) ≡ unsigned_of most s
  unsigned-hexadecimal t = rw t at unsigned-as

  pub unsigned-decimal : pointwise eqb (take 2 s) (48 ∷ 120 ∷ []) ≡ false → digits_of 10 most s ≡ unsigned_of most s
  unsigned-decimal t = rw t at unsigned-as

  signed-as : cond (pointwise eqb (take 1 s) (45 ∷ [])) (negated (unsigned_of (most + 1) (drop 1 s))) (unsigned_of most s) ≡ signed_of most s
  unfolding signed_of
  signed-as = rw (minus-prefix s)

  pub signed-plain : pointwise eqb (take 1 s) (45 ∷ []) ≡ false → unsigned_of most s ≡ signed_of most s
  signed-plain t = rw t at signed-as

  -- r and the value that the rest reads as are 0 together
  pub signed-minus : (t : List ℕ) (v : Value) (r : ℕ) → pointwise eqb (take 1 s) (45 ∷ []) ≡ true → t ≡ drop 1 s
      → v ≡ unsigned_of (most + 1) t → r < 2 ^ 64 → v.value < 2 ^ 64 → (r + v.value) % 2 ^ 64 ≡ 0 → value r v.problem ≡ signed_of most s
  signed-minus t v r e f g h k l =
      let z : r ≡ (2 ^ 64 - v.value) % 2 ^ 64 = omega arith in
      let y : value r v.problem ≡ negated v = rw z in
      let x : negated (unsigned_of (most + 1) (drop 1 s)) ≡ signed_of most s = rw e at signed-as in
      y ∙ ap negated (g ∙ rw f) ∙ x
