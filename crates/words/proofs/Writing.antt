-- Writing the runs of a word. Assumes nothing.
use Rattle.std.proofs.Common.{◌≡◌, ℕ, zero, suc, ◌+◌, ◌-◌, ◌<◌, ◌≤◌, Bool, true, false, cond, ◌&&◌, eqb, leb, List, [], ◌∷◌, length, drop, replicate, sym, refl, ap, ◌∙◌, arith, le-ltb, lt-ltb, eq-eqb, ne_eqb, leb-true}
use borrow.Author.Tests.{eqb-true, eqb-false}
use Rattle.octets.specs.Number.{get_at, put_at}
use Rattle.words.specs.Numeral.{value}
use Rattle.words.specs.declared.problem.Problem.{Problem}
use Rattle.words.proofs.Problems.{some_problem}
use Rattle.words.specs.Wrong.{problem_number, allowed}
use Rattle.words.specs.OctetWord.{Run, run, wrong, run_of, pair_of, run_problem, fill_from, write_from, write_of, word_octets}
use Rattle.words.specs.Line.{octets_at}
use Rattle.text.specs.Place.{piece_of, same_of}
use Rattle.words.proofs.Numerals.{first_octet, and-true, and-false}

-- one octet more
pub fill-next : (b b' : List ℕ) (from left octet : ℕ) → 0 < left → b' ≡ put_at b (from + (left - 1)) 1 octet
    → fill_from b' from (left - 1) octet ≡ fill_from b from left octet
unfolding fill_from
fill-next b b' from zero octet l f = absurd (omega arith)
fill-next b b' from (suc n) octet l f = let z : suc n - 1 ≡ n = omega arith in rw (f, z)

pub fill_done : (b : List ℕ) (from left octet : ℕ) → left ≤ 0 → fill_from b from left octet ≡ b
unfolding fill_from
fill_done b from left octet h = let z : left ≡ 0 = omega arith in rw z

-- a run that is judged good has room
pub judged-room : (r : Run) (count : ℕ) → count ≤ 4096 → run_problem r count ≡ 0 → count + r.times ≤ 4096
unfolding run_problem
judged-room r count h = go (eqb r.problem 0) refl (leb r.times (4096 - count)) refl
  where
    go : (a : Bool) → eqb r.problem 0 ≡ a → (b : Bool) → leb r.times (4096 - count) ≡ b → cond a (cond b 0 8) r.problem ≡ 0 → count + r.times ≤ 4096
    go true e true f z = let k = leb-true r.times (4096 - count) f in omega arith
    go true e false f z = absurd (omega arith)
    go false e b f z = absurd (eqb-false r.problem 0 e z)

-- WHAT A JUDGED RUN IS

-- a run that is judged good has no problem of its own
good-run : (r : Run) (count : ℕ) → run_problem r count ≡ 0 → r.problem ≡ 0
unfolding run_problem
good-run r count k = test (eqb r.problem 0) refl k
  where
    test : (b : Bool) → eqb r.problem 0 ≡ b → cond b (cond (leb r.times (4096 - count)) 0 8) r.problem ≡ 0 → r.problem ≡ 0
    test true l m = eqb-true r.problem 0 l
    test false l m = m

module _ (r : Run) (count : ℕ) where
  -- a run that is allowed is the run at the text's start
  allowed-right : (times end : ℕ) → run times end ≡ allowed r count → (run times end ≡ r) × (run_problem r count ≡ 0)
  allowed-right times end h = go (eqb (run_problem r count) 0) refl h
    where
      go : (b : Bool) → eqb (run_problem r count) 0 ≡ b → run times end ≡ cond b r (wrong (run_problem r count))
          → (run times end ≡ r) × (run_problem r count ≡ 0)
      go true e f = (f, eqb-true (run_problem r count) 0 e)
      go false e f = absurd (eqb-false (run_problem r count) 0 e (sym (ap (λ (x : Run). x.problem) f)))

  -- and has room
  pub allowed-room : (times end : ℕ) → count ≤ 4096 → run times end ≡ allowed r count → count + times ≤ 4096
  allowed-room times end h e =
      let z = allowed-right times end e in
      let y : times ≡ r.times = ap (λ (x : Run). x.times) z.0 in
      omega (arith, judged-room r count h z.1)

  -- one that is not tells its problem
  pub allowed-wrong : (p : Problem) → wrong (problem_number p) ≡ allowed r count → problem_number p ≡ run_problem r count
  allowed-wrong p h = go (eqb (run_problem r count) 0) refl h
    where
      go : (b : Bool) → eqb (run_problem r count) 0 ≡ b → wrong (problem_number p) ≡ cond b r (wrong (run_problem r count))
          → problem_number p ≡ run_problem r count
      go true e f = absurd (some_problem p (ap (λ (x : Run). x.problem) f ∙ good-run r count (eqb-true (run_problem r count) 0 e)))
      go false e f = ap (λ (x : Run). x.problem) f

module _ (b : List ℕ) (count : ℕ) where
  pub write-turned : (turns : ℕ) (s : List ℕ) → turns ≤ 0 → (value count 0, b) ≡ write_from turns b count s
  unfolding write_from
  write-turned turns s h = let z : turns ≡ 0 = omega arith in rw z

  pub write_done : (turns : ℕ) (s : List ℕ) → length s ≤ 0 → (value count 0, b) ≡ write_from turns b count s
  unfolding write_from
  write_done zero s h = refl
  write_done (suc n) s h = rw (le-ltb 0 (length s) h)

  module _ (s : List ℕ) (some : 0 < length s) where
    pub write-wrong : (turns : ℕ) → 0 < turns → (p : Problem) → wrong (problem_number p) ≡ allowed (run_of s) count
        → (value count (problem_number p), b) ≡ write_from turns b count s
    unfolding write_from
    write-wrong zero h p e = absurd (omega arith)
    write-wrong (suc n) h p e =
        let z = allowed-wrong (run_of s) count p e in
        rw (lt-ltb 0 (length s) some, ← z, ne_eqb (problem_number p) 0 (some_problem p))

    pub write-next : (turns times end : ℕ) → 0 < turns → run times end ≡ allowed (run_of s) count → (b' rest : List ℕ) (octet : ℕ) → octet ≡ pair_of s
        → b' ≡ fill_from b count times octet → rest ≡ drop end s → write_from (turns - 1) b' (count + times) rest ≡ write_from turns b count s
    unfolding write_from
    write-next zero times end h e b' rest octet g k l = absurd (omega arith)
    write-next (suc n) times end h e b' rest octet g k l =
        let z = allowed-right (run_of s) count times end e in
        let y : suc n - 1 ≡ n = omega arith in
        rw (lt-ltb 0 (length s) some, eq-eqb (run_problem (run_of s) count) 0 z.1, y, l, k, g, ← z.0)

-- the one word that is no octets
pub minus-only : (s : List ℕ) → same_of s (45 ∷ []) ≡ (eqb (length s) 1 && eqb (get_at s 0 1) 45)
unfolding same_of
minus-only [] = refl
minus-only (x ∷ []) = rw (first_octet, and-true (eqb x 45))
minus-only (x ∷ y ∷ ys) = rw (ne_eqb (length (x ∷ y ∷ ys)) 1 (λ (e : length (x ∷ y ∷ ys) ≡ 1). omega arith)) (and-false (eqb x 45))

module _ (s b : List ℕ) where
  write-as : cond (same_of s (45 ∷ [])) (value 0 0, b) (write_from (length s) b 0 s) ≡ write_of s b
  unfolding write_of
  write-as = rw (minus-only s)

  pub write-minus : same_of s (45 ∷ []) ≡ true → (value 0 0, b) ≡ write_of s b
  write-minus t = rw t at write-as

  pub write-all : same_of s (45 ∷ []) ≡ false → write_from (length s) b 0 s ≡ write_of s b
  write-all t = rw t at write-as

-- a word of a line, written among zeros
pub octets-at : (line word out : List ℕ) (n : ℕ) → word ≡ piece_of line n 32 → out ≡ word_octets word (replicate 4096 0) → out ≡ octets_at line n
unfolding octets_at
octets-at line word out n e f = f ∙ rw e
