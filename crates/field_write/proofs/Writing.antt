-- Octets written over others: none, some after some, one field. Assumes nothing.
use mathlib.Core.Path.{◌≡◌, refl, sym, ap, ◌∙◌}
use mathlib.Core.Bool.{Bool, false}
use mathlib.Core.List.{List, [], ◌∷◌, ◌++◌, append_assoc, append-nil}
use Prim.Native.Nat.{ℕ, ◌+◌, ◌-◌, ◌<◌, ◌≤◌}
use native.Mathlib.Nat.{add_assoc, add-zero}
use native.Mathlib.Omega.{arith}
use borrow.Author.Tests.{le-leb, lt-leb}
use lib.Dec.{leb}
use lib.ListN.{length, take, replicate, length-append, length-replicate, replicate-append-replicate, take-append-drop}
use lib.Seq.{paste, length-paste, take_all, length-take-le}
use Rattle.octets.specs.Number.{Octets, octets, put_at}
use Rattle.octets.specs.Part.{overwrite, zero_at}
use Rattle.octets.proofs.Numbers.{length-octets}
use Rattle.octets.proofs.Parts.{Overwrites, then-part, paste-paste}
use Rattle.word_rules.specs.Words.{copy_by_words}
use Rattle.word_rules.proofs.Taking.{served-words}
use Rattle.chain.specs.Chain.{padded}
use Rattle.chain.specs.Content.{Content, content, content_octets, chain_octets}
use Rattle.chain.proofs.Contents.{size_of, length-content}
use Rattle.field_write.specs.Write.{WrittenAt, put_field}

-- nothing written
pub written_none : (s : List ℕ) (at : ℕ) → WrittenAt s at [] at s
written_none s at = record { place = sym (add-zero at); content = sym (rw (append-nil, add-zero) (take-append-drop at s)) }

-- the length stays
pub length-written : {s xs t : List ℕ} {at next : ℕ} → WrittenAt s at xs next t → at + length xs ≤ length s → length t ≡ length s
length-written {s} {xs} {t} {at} l h = ap length l.content ∙ length-paste s at xs (length xs) h (omega arith)

-- some after some
pub written_next : {s xs t ys u : List ℕ} {at m n : ℕ} → WrittenAt s at xs m t → WrittenAt t m ys n u → n ≤ length s → WrittenAt s at (xs ++ ys) n u
written_next {s} {xs} {t} {ys} {u} {at} {m} {n} a b h =
    let p = a.place in
    let q = b.place in
    record {
      place = q ∙ rw (p, length-append) (add_assoc at (length xs) (length ys));
      content = b.content ∙ rw (p, a.content, length-append) (paste-paste s xs ys at (length xs) (length ys) refl refl (omega arith));
    }

-- what was overwritten right after the part before `at`
pub written-part : {s xs t : List ℕ} {at m : ℕ} → Overwrites s (take at s ++ xs) m t → m ≡ at + length xs → WrittenAt s at xs m t
written-part {s} {xs} {t} {at} {m} w e = record {
  place = e;
  content = w.content ∙ rw (e, take_all (length xs) xs (omega arith));
}

-- a field that is not too long is written, as a chain of one
pub field_put : (s : List ℕ) (at : ℕ) (c : Content) → length c.«data» ≤ 1280 → at + size_of c ≤ length s → {next : ℕ} {t : List ℕ}
    → (next, t) ≡ put_field s at c → WrittenAt s at (chain_octets (c ∷ [])) next t
unfolding put_field chain_octets
field_put s at c long room {next} {t} e =
    let xs = content_octets c in
    let bits : length c.«data» + 4 ≤ 0xFFFF = omega arith in
    let fits : at + length xs ≤ length s = omega (arith, length-content c) in
    let w : ◌≡◌ {A = ℕ × List ℕ} (next, t) (at + length xs, paste s at xs (length xs)) = e ∙ rw (le-leb _ _ bits, le-leb _ _ fits) in
    rw append-nil (record { place = ap (λ (p : ℕ × List ℕ). p.0) w; content = ap (λ (p : ℕ × List ℕ). p.1) w })

-- a field whose data are those of a source, then zeros
module _ (kind zeros at : ℕ) (source s : List ℕ) where
  abbrev field : Content
  field = content kind (source ++ replicate zeros 0)

  data-length : length field.«data» ≡ length source + zeros
  data-length = length-append source (replicate zeros 0) ∙ rw (length-replicate {A = ℕ} zeros 0)

  field-length : length (content_octets field) ≡ 4 + padded (length source + zeros)
  field-length = length-content field ∙ rw data-length

  -- it is too long for its 16 bits
  pub too_long : 0xFFFB < length source + zeros → (at, s) ≡ put_field s at field
  unfolding put_field
  too_long h = let l : 0xFFFF < length field.«data» + 4 = omega (arith, data-length) in rw (lt-leb _ _ l)

  module _ (short : length source + zeros ≤ 0xFFFB) where
    in-bits : length field.«data» + 4 ≤ 0xFFFF
    in-bits = omega (arith, data-length)

    -- there is no room for it
    pub no_room : {b : Bool} → b ≡ leb (at + (4 + padded (length source + zeros))) (length s) → b ≡ false → (at, s) ≡ put_field s at field
    unfolding put_field
    no_room e t = rw (le-leb _ _ in-bits, field-length, ← e, t)

    -- it was written
    pub put_whole : at + (4 + padded (length source + zeros)) ≤ length s → {next : ℕ} {t : List ℕ} → WrittenAt s at (content_octets field) next t
        → (next, t) ≡ put_field s at field
    unfolding put_field
    put_whole room w =
        let fits : at + length (content_octets field) ≤ length s = omega (arith, field-length) in
        rw (le-leb _ _ in-bits, le-leb _ _ fits) (λ i. (w.place i, w.content i))

  -- in four parts: the type, the length, the source's octets, and the zeros of the data with those of the padding
  pub parts-written : Octets source → at + (4 + padded (length source + zeros)) ≤ length s → {s1 s2 s3 s4 : List ℕ} → s1 ≡ put_at s at 2 kind → s2 ≡ put_at s1 (at + 2) 2 (length source + zeros + 4)
      → s3 ≡ copy_by_words s2 (at + 4) source 0 (length source) → s4 ≡ zero_at s3 (at + 4 + length source) (padded (length source + zeros) - length source)
      → WrittenAt s at (content_octets field) (at + 4 + padded (length source + zeros)) s4
  parts-written o room {s1} {s2} e1 e2 e3 e4 =
      let n = length source in
      let size = n + zeros in
      let four : at + 2 + 2 ≡ at + 4 = omega arith in
      let end : at + 4 + n + (padded size - n) ≡ at + 4 + padded size = omega arith in
      let w0 : Overwrites s (take at s) at s = record { content = sym (take-append-drop at s); up_to = length-take-le at s (omega arith) } in
      let w1 = then-part (octets 2 kind) 2 w0 (length-octets 2 _) (omega arith) e1 in
      let w2 : Overwrites s (take at s ++ octets 2 kind ++ octets 2 (size + 4)) (at + 4) s2 =
      rw four at (then-part (octets 2 (size + 4)) 2 w1 (length-octets 2 _) (omega arith) e2) in
      let w3 = then-part source n w2 refl (omega arith) (e3 ∙ copied s2) in
      let w4 = rw end at (then-part (replicate (padded size - n) 0) (padded size - n) w3 (length-replicate _ _) (omega arith) e4) in
      written-part (rw regrouped at w4) (omega (arith, length-content field, data-length))
    where
      copied : (l : List ℕ) → copy_by_words l (at + 4) source 0 (length source) ≡ overwrite l (at + 4) source (length source)
      copied l = served-words l source o (at + 4) 0 (length source) ∙ rw (le-leb (0 + length source) (length source) (omega arith))

      regrouped : take at s ++ octets 2 kind ++ octets 2 (length source + zeros + 4) ++ source ++ replicate (padded (length source + zeros) - length source) 0
          ≡ take at s ++ content_octets field
      regrouped =
          let size = length source + zeros in
          let more : padded size - length source ≡ zeros + (padded size - size) = omega arith in
          rw (data-length, more, ← replicate-append-replicate {A = ℕ} zeros (padded size - size) 0) (simp append_assoc)
