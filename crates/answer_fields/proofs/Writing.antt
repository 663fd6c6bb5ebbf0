-- The answers to fields and the padding, each written as one field. Assumes nothing.
use mathlib.Core.Path.{◌≡◌, refl, sym, ◌∙◌}
use mathlib.Core.Bool.{Bool, true, false}
use mathlib.Core.List.{List, [], ◌∷◌, ◌++◌, append-nil}
use Prim.Native.Nat.{ℕ, ◌+◌, ◌-◌, ◌%◌, ◌<◌, ◌≤◌, min}
use native.Mathlib.Omega.{arith}
use borrow.Author.Tests.{leb-true, leb-false, ne_eqb}
use lib.Dec.{leb}
use lib.ListN.{length, take, drop, replicate, length-drop, length-replicate}
use lib.Seq.{take_all, length-take-le, drop-length}
use Rattle.chain.specs.Chain.{padded}
use Rattle.chain.specs.Content.{content, chain_octets, draft_name}
use Rattle.chain.proofs.Contents.{length-chain-one}
use Rattle.field_write.specs.Write.{WrittenAt, put_field}
use Rattle.field_write.proofs.Writing.{field_put}
use Rattle.responder_rules.specs.Answer.{padding_of}

-- as many octets of our name as are asked, if there are so many
pub name-cut : (k : ℕ) → take (min k 27) draft_name ≡ take k draft_name
unfolding draft_name
name-cut k = go (leb k 27) refl
  where
    go : (b : Bool) → leb k 27 ≡ b → take (min k 27) draft_name ≡ take k draft_name
    go true e =
        let h = leb-true k 27 e in
        let m : min k 27 ≡ k = omega arith in
        rw m
    go false e =
        let h = leb-false k 27 e in
        let m : min k 27 ≡ 27 = omega arith in
        rw m (sym (take_all k draft_name (omega arith)))

-- a field whose data are a source's, with no zeros after them
pub source-written : (s d : List ℕ) (at kind : ℕ) → length d ≤ 512 → at + (4 + padded (length d)) ≤ length s → {next : ℕ} {t : List ℕ}
    → (next, t) ≡ put_field s at (content kind (d ++ replicate 0 0)) → WrittenAt s at (chain_octets (content kind d ∷ [])) next t
source-written s d at kind h room e = field_put s at (content kind d) (omega arith) room (e ∙ rw append-nil)

-- and where they are a part of it
pub part-written : (s source : List ℕ) (at kind from to n : ℕ) → n ≡ to - from → from ≤ to → to ≤ length source → n ≤ 512 → at + (4 + padded n) ≤ length s
    → {next : ℕ} {t : List ℕ} → (next, t) ≡ put_field s at (content kind (take (to - from) (drop from source) ++ replicate 0 0))
    → WrittenAt s at (chain_octets (content kind (take n (drop from source)) ∷ [])) next t
part-written s source at kind from to n size h inside most room e =
    let d = take n (drop from source) in
    let long : length d ≡ n = length-take-le n (drop from source) (rw length-drop (omega arith)) in
    source-written s d at kind (omega arith) (omega arith) (e ∙ rw (← size))

-- what is left filled with one padding field, or with none

module _ (s : List ℕ) (at : ℕ) where
  pub padding_none : length s ≤ at → s ≡ take at s ++ chain_octets (padding_of (length s - at))
  unfolding chain_octets
  padding_none h =
      let z : length s - at ≡ 0 = omega arith in
      rw (z, take_all at s h) (sym (append-nil s))

  pub padding_written : at < length s → length s ≤ 1280 → (length s - at) % 4 ≡ 0 → {next : ℕ} {t : List ℕ}
      → (next, t) ≡ put_field s at (content 0xF501 (replicate (length s - at - 4) 0)) → t ≡ take at s ++ chain_octets (padding_of (length s - at))
  padding_written h most k e =
      let m = length s - at in
      let c = content 0xF501 (replicate (m - 4) 0) in
      let size = length-replicate {A = ℕ} (m - 4) 0 in
      let w = field_put s at c (omega arith) (omega arith) e in
      let end : at + length (chain_octets (c ∷ [])) ≡ length s = omega (arith, length-chain-one c) in
      w.content ∙ rw (end, drop-length s, append-nil, take_all (length (chain_octets (c ∷ []))) (chain_octets (c ∷ [])) (omega arith), ne_eqb m 0 (λ z. absurd (omega arith)))
