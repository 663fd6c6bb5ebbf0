-- Words taken from octets and octets copied by words: in octets each is a copy. Assumes nothing.
--     word-from, octets-read    the word that is read for word i; the octets of the words that are read
--     octets-paste              words pasted over words are octets pasted over octets
--     taken-words               `take_words` is a copy of octets
--     served-words              `copy_by_words` is a copy of octets
use mathlib.Core.Path.{◌≡◌, refl, sym, ap, ap₂, ◌∙◌}
use mathlib.Core.Bool.{Bool, true, false, cond}
use mathlib.Core.List.{List, [], ◌∷◌, ◌++◌, append_assoc}
use Prim.Native.Nat.{ℕ, zero, suc, ◌+◌, ◌*◌, ◌/◌, ◌%◌, ◌<◌, ◌≤◌}
use native.Mathlib.Nat.{add_assoc, le_refl}
use native.Mathlib.Omega.{arith}
use borrow.Author.Tests.{le-leb, lt-leb, leb-true, leb-false}
use lib.Dec.{leb}
use lib.ListN.{length, get_or, take, drop, length-drop}
use lib.Seq.{paste, take-nil, drop-nil, take-take, take-add, take-append-add, drop-append-add, get_or-drop}
use Rattle.octets.specs.Number.{Octets}
use Rattle.octets.specs.Part.{has_room, overwrite, copy_at}
use Rattle.word_rules.specs.Words.{low_first, low_octets, words_from, octets_of, take_words, by_words, copy_by_words}
use Rattle.word_rules.proofs.Conversion.{length-low, length-octets, word-at, octets-back}

-- ---- reading behind a place

low-drop : (l : List ℕ) (k i n : ℕ) → low_first (drop k l) i n ≡ low_first l (k + i) n
unfolding low_first
low-drop l k i zero = refl
low-drop l k i (suc n) = rw (get_or-drop k l (i + n) 0, low-drop l k i n, add_assoc k i n)

pub word-from : (source : List ℕ) (from n i : ℕ) → i < n → low_first source (from + 8 * i) 8 ≡ get_or (words_from (drop from source) 0 n) i 0
word-from source from n i h = sym (word-at (drop from source) n i h ∙ low-drop source from (8 * i) 8)

octets-from : (source : List ℕ) → Octets source → (from : ℕ) → Octets (drop from source)
octets-from source o from i = rw (get_or-drop from source i 0) (o (from + i))

-- the octets of the words that are read
pub octets-read : (source : List ℕ) → Octets source → (from n : ℕ) → from + 8 * n ≤ length source
    → octets_of (words_from (drop from source) 0 n) ≡ take (8 * n) (drop from source)
octets-read source o from n h = octets-back (drop from source) (octets-from source o from) n (rw length-drop (omega arith))

-- ---- parts of words

octets-append : (vs ws : List ℕ) → octets_of (vs ++ ws) ≡ octets_of vs ++ octets_of ws
unfolding octets_of
octets-append [] ws = refl
octets-append (v ∷ vs) ws = rw (octets-append vs ws) (sym (append_assoc (low_octets 8 v) (octets_of vs) (octets_of ws)))

-- eight times one more, as the octets of one word and the rest
eight-more : (w n : ℕ) → 8 * suc n ≡ length (low_octets 8 w) + 8 * n
eight-more w n = omega (arith, length-low 8 w)

octets-take : (n : ℕ) (ws : List ℕ) → octets_of (take n ws) ≡ take (8 * n) (octets_of ws)
unfolding octets_of
octets-take zero ws = refl
octets-take (suc n) [] = sym (take-nil (8 * suc n))
octets-take (suc n) (w ∷ ws) = rw (octets-take n ws, eight-more w n) (sym (take-append-add (low_octets 8 w) (octets_of ws) (8 * n)))

pub octets-drop : (n : ℕ) (ws : List ℕ) → octets_of (drop n ws) ≡ drop (8 * n) (octets_of ws)
unfolding octets_of
octets-drop zero ws = refl
octets-drop (suc n) [] = sym (drop-nil (8 * suc n))
octets-drop (suc n) (w ∷ ws) = rw (octets-drop n ws, eight-more w n) (sym (drop-append-add (low_octets 8 w) (octets_of ws) (8 * n)))

octets-paste : (ws vs : List ℕ) (at n : ℕ) → octets_of (paste ws at vs n) ≡ paste (octets_of ws) (8 * at) (octets_of vs) (8 * n)
octets-paste ws vs at n =
    let e : 8 * (at + n) ≡ 8 * at + 8 * n = omega arith in
    octets-append (take at ws ++ take n vs) (drop (at + n) ws)
    ∙ ap₂ ◌++◌ (octets-append (take at ws) (take n vs) ∙ ap₂ ◌++◌ (octets-take at ws) (octets-take n vs))
    (octets-drop (at + n) ws ∙ ap (λ (i : ℕ). drop i (octets_of ws)) e)

-- the room test
octets-room : (ws : List ℕ) (at n : ℕ) → has_room (octets_of ws) (8 * at) (8 * n) ≡ has_room ws at n
octets-room ws at n = rw (length-octets ws) (go (has_room ws at n) refl)
  where
    go : (b : Bool) → has_room ws at n ≡ b → leb (8 * at + 8 * n) (8 * length ws) ≡ b
    go true e = let k = leb-true (at + n) (length ws) e in le-leb (8 * at + 8 * n) (8 * length ws) (omega arith)
    go false e = let k = leb-false (at + n) (length ws) e in lt-leb (8 * at + 8 * n) (8 * length ws) (omega arith)

-- ---- the two copies

-- only the first n count
pub paste-taken : (s xs : List ℕ) (at n : ℕ) → paste s at (take n xs) n ≡ paste s at xs n
paste-taken s xs at n = ap (λ (l : List ℕ). take at s ++ l ++ drop (at + n) s) (take-take n n xs (le_refl n))

pub taken-words : (ws source : List ℕ) → Octets source → (at from n : ℕ)
    → octets_of (take_words ws at source from n) ≡ copy_at (octets_of ws) (8 * at) source from (8 * n)
taken-words ws source o at from n = rw (octets-room ws at n) (go (has_room source from (8 * n)) refl (has_room ws at n))
  where
    new : List ℕ
    new = words_from (drop from source) 0 n

    go : (b : Bool) → has_room source from (8 * n) ≡ b → (c : Bool)
        → octets_of (cond b (cond c (paste ws at new n) ws) ws)
        ≡ cond b (cond c (paste (octets_of ws) (8 * at) (drop from source) (8 * n)) (octets_of ws)) (octets_of ws)
    go false e c = refl
    go true e false = refl
    go true e true =
        octets-paste ws new at n ∙ ap (λ (l : List ℕ). paste (octets_of ws) (8 * at) l (8 * n)) (octets-read source o from n (leb-true _ _ e))
        ∙ paste-taken (octets_of ws) (drop from source) (8 * at) (8 * n)

pub paste-words : (out f : List ℕ) → Octets f → (to from n : ℕ) → from + n ≤ length f
    → paste out to (by_words (drop from f) n) n ≡ paste out to (drop from f) n
paste-words out f o to from n h =
    let s = drop from f in
    let m = 8 * (n / 8) in
    let e : m + n % 8 ≡ n = omega arith in
    let read : by_words s n ≡ take n s =
    ap (λ (l : List ℕ). l ++ take (n % 8) (drop m s)) (octets-read f o from (n / 8) (omega arith))
    ∙ sym (take-add m (n % 8) s) ∙ ap (λ (i : ℕ). take i s) e in
    ap (λ (l : List ℕ). paste out to l n) read ∙ paste-taken out s to n

pub served-words : (out f : List ℕ) → Octets f → (to from n : ℕ) → copy_by_words out to f from n ≡ copy_at out to f from n
served-words out f o to from n = go (has_room f from n) refl
  where
    go : (b : Bool) → has_room f from n ≡ b
        → cond b (overwrite out to (by_words (drop from f) n) n) out ≡ cond b (overwrite out to (drop from f) n) out
    go false e = refl
    go true e = ap (λ (l : List ℕ). cond (has_room out to n) l out) (paste-words out f o to from n (leb-true _ _ e))
