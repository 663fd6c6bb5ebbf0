-- Words stored one after the other are octets pasted. Assumes nothing.
--     stored        a word stored
--     store-halves  a word stored by halves
--     turn          a turn of a loop that stores words
--     then-rest     after whole words the octets that are left
--     read          words that were read one by one
use mathlib.Core.Path.{◌≡◌, refl, sym, ap, ◌∙◌}
use mathlib.Core.List.{List, ◌∷◌, ◌++◌}
use Prim.Native.Nat.{ℕ, zero, suc, ◌+◌, ◌*◌, ◌/◌, ◌%◌, ◌^◌, ◌<◌, ◌≤◌}
use native.Mathlib.Nat.{div-one, div-div-eq-div-mul, pow-suc, zero-add, suc-add}
use native.Mathlib.Omega.{arith}
use borrow.Rule.Slice.PartMut.{put_mid}
use lib.ListN.{length, get_or, take, drop, length-drop}
use lib.Pow.{shr-shr, mod-mod-pow, field}
use lib.Seq.{paste, take-add, take_at, drop-drop, drop-cons, length-take-le, length-paste}
use Rattle.std.specs.Int.{bytes_low_first}
use Rattle.std.proofs.lemmas.List.{ext_get_or}
use Rattle.std.proofs.lemmas.Slice.{put_mid-paste}
use borrow.Author.Tests.{le-leb}
use Rattle.octets.specs.Part.{copy_at}
use Rattle.octets.proofs.Bytes.{byte_div}
use Rattle.octets.proofs.Parts.{paste-paste}
use Rattle.word_rules.specs.Words.{low_first, words_from, low_octets, octets_of}
use Rattle.word_rules.proofs.Conversion.{length-low, length-octets, length-words, word-at}
use Rattle.word_rules.proofs.Taking.{octets-drop, paste-taken}

-- ---- a word stored

low-bytes : (i k w : ℕ) → bytes_low_first i k w ≡ low_octets k (w / 256 ^ i)
unfolding low_octets
low-bytes i zero w = refl
low-bytes i (suc k) w =
    let e : w / 256 ^ suc i ≡ w / 256 ^ i / 256 = rw pow-suc (sym (div-div-eq-div-mul w (256 ^ i) 256)) in
    rw (low-bytes (suc i) k w, e, byte_div i w)

-- a part of a slice that got the library's bytes of a word
pub stored : (at k w : ℕ) (s ys : List ℕ) → ys ≡ bytes_low_first 0 8 w → k ≡ 8 → put_mid at k s ys ≡ paste s at (low_octets 8 w) 8
stored at k w s ys e h =
    put_mid-paste at k s ys (low_octets 8 w) 8 (e ∙ low-bytes 0 8 w ∙ ap (low_octets 8) (div-one w)) (sym h) (sym (length-low 8 w))

-- ---- a word stored by halves

low-mod : (n w : ℕ) → low_octets n (w % 2 ^ (8 * n)) ≡ low_octets n w
unfolding low_octets
low-mod zero w = refl
low-mod (suc n) w =
    let e : 8 * suc n ≡ 8 * n + 8 = omega arith in
    rw (e, mod-mod-pow w (8 * n) 8, field w (8 * n) 8, low-mod n (w / 256))

low-add : (m n w : ℕ) → low_octets (m + n) w ≡ low_octets m w ++ low_octets n (w / 2 ^ (8 * m))
unfolding low_octets
low-add zero n w = rw (zero-add, div-one)
low-add (suc m) n w =
    let e : 8 + 8 * m ≡ 8 * suc m = omega arith in
    let q : w / 256 / 2 ^ (8 * m) ≡ w / 2 ^ (8 * suc m) = shr-shr w 8 (8 * m) ∙ ap (λ (k : ℕ). w / 2 ^ k) e in
    ap (λ (k : ℕ). low_octets k w) (suc-add m n)
    ∙ ap (λ (l : List ℕ). w % 256 ∷ l) (low-add m n (w / 256) ∙ ap (λ (v : ℕ). low_octets m (w / 256) ++ low_octets n v) q)

pub store-halves : (s s₁ s₂ : List ℕ) (at n w : ℕ) → at + (n + n) ≤ length s
    → s₁ ≡ paste s at (low_octets n (w % 2 ^ (8 * n))) n → s₂ ≡ paste s₁ (at + n) (low_octets n (w / 2 ^ (8 * n))) n
    → s₂ ≡ paste s at (low_octets (n + n) w) (n + n)
store-halves s s₁ s₂ at n w h e e' =
    e' ∙ ap (λ (l : List ℕ). paste l (at + n) (low_octets n (w / 2 ^ (8 * n))) n) (e ∙ ap (λ (l : List ℕ). paste s at l n) (low-mod n w))
    ∙ paste-paste s (low_octets n w) (low_octets n (w / 2 ^ (8 * n))) at n n (length-low n _) (length-low n _) h
    ∙ ap (λ (l : List ℕ). paste s at l (n + n)) (sym (low-add n n w))

-- ---- a part after a part of one list

paste-on : (s xs : List ℕ) (at m n : ℕ) → at + (m + n) ≤ length s → m + n ≤ length xs
    → paste (paste s at xs m) (at + m) (take n (drop m xs)) n ≡ paste s at xs (m + n)
paste-on s xs at m n h l =
    ap (λ (t : List ℕ). paste t (at + m) (take n (drop m xs)) n) (sym (paste-taken s xs at m))
    ∙ paste-paste s (take m xs) (take n (drop m xs)) at m n (length-take-le m xs (omega arith))
    (length-take-le n (drop m xs) (omega (arith, length-drop m xs))) h
    ∙ ap (λ (q : List ℕ). paste s at q (m + n)) (sym (take-add m n xs))
    ∙ paste-taken s xs at (m + n)

-- the octets of word i
low-of-words : (ws : List ℕ) (i : ℕ) → i < length ws → low_octets 8 (get_or ws i 0) ≡ take 8 (drop (8 * i) (octets_of ws))
unfolding octets_of
low-of-words ws i h =
    let w = get_or ws i 0 in
    sym (ap (take 8) (sym (octets-drop i ws) ∙ ap octets_of (drop-cons ws i 0 h)) ∙ take_at (low_octets 8 w) (octets_of (drop (suc i) ws)) 8 (length-low 8 w))

-- a turn of a loop that stores the words from `at` on
pub turn : (s t t' ws : List ℕ) (at i v : ℕ) → i < length ws → at + 8 * length ws ≤ length s → t ≡ paste s at (octets_of ws) (8 * i)
    → v ≡ get_or ws i 0 → t' ≡ paste t (at + 8 * i) (low_octets 8 v) 8 → t' ≡ paste s at (octets_of ws) (8 * (i + 1))
turn s t t' ws at i v h l e r e' =
    let xs = octets_of ws in
    let q : 8 * i + 8 ≡ 8 * (i + 1) = omega arith in
    e' ∙ rw (e, r, low-of-words ws i h)
    (paste-on s xs at (8 * i) 8 (omega arith) (omega (arith, length-octets ws)) ∙ ap (paste s at xs) q)

-- ---- after whole words the octets that are left

pub then-rest : (s t t' source : List ℕ) (at from n : ℕ) → at + n ≤ length s → from + n ≤ length source
    → t ≡ paste s at (drop from source) (8 * (n / 8)) → t' ≡ copy_at t (at + 8 * (n / 8)) source (from + 8 * (n / 8)) (n % 8)
    → t' ≡ paste s at (drop from source) n
then-rest s t t' source at from n h k e e' =
    let m = 8 * (n / 8) in
    let r = n % 8 in
    let xs = drop from source in
    let q : m + r ≡ n = omega arith in
    let x : n ≤ length xs = rw length-drop (omega arith) in
    let c : length (paste s at xs m) ≡ length s = length-paste s at xs m (omega arith) (omega arith) in
    let room : at + m + r ≤ length (paste s at xs m) = omega (arith, c) in
    let read : from + m + r ≤ length source = omega arith in
    e' ∙ rw (e, le-leb _ _ read, le-leb _ _ room, ← drop-drop m from source)
    (sym (paste-taken (paste s at xs m) (drop m xs) (at + m) r) ∙ paste-on s xs at m r (omega arith) (omega arith) ∙ ap (paste s at xs) q)

-- ---- words read

pub read : (ws f : List ℕ) (n : ℕ) → length ws ≡ n → ((k : ℕ) → k < n → get_or ws k 0 ≡ low_first f (8 * k) 8) → ws ≡ words_from f 0 n
read ws f n e h = ext_get_or 0 ws (words_from f 0 n) (e ∙ sym (length-words f 0 n)) (λ k l. let m : k < n = omega arith in h k m ∙ sym (word-at f n k m))
