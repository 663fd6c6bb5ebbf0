-- An answer written in its two parts: the header, then the fields. Assumes nothing.
use mathlib.Core.Path.{◌≡◌, ap, ◌∙◌}
use mathlib.Core.Bool.{false}
use mathlib.Core.List.{List, ◌++◌}
use Prim.Native.Nat.{ℕ, ◌%◌, ◌≤◌}
use native.Mathlib.Omega.{arith}
use borrow.Author.Tests.{eq-eqb, le-ltb}
use lib.ListN.{length, drop, length-append, length-drop}
use lib.Seq.{take_at}
use Rattle.header.specs.Header.{header_octets}
use Rattle.header.specs.declared.edition.Edition.{Edition}
use Rattle.header.specs.declared.Header.{Header}
use Rattle.header.proofs.Refusals.{passes}
use Rattle.header.proofs.RoundTrip.{length-header}
use Rattle.chain.specs.Chain.{sound_refusal}
use Rattle.chain.specs.Content.{chain_octets}
use Rattle.chain.proofs.Datagrams.{header-passes}
use Rattle.responder_rules.specs.Answer.{answer_fields}
use Rattle.answer_fields.specs.Fields.{wrong_sizes, fields_written}

-- the length of a sound request
pub request-size : (s : List ℕ) → sound_refusal s 3 ≡ 0 → (48 ≤ length s) × (length s ≤ 1280) × (length s % 4 ≡ 0)
request-size s e = let a = passes s 3 (header-passes s 3 e) in (a.low, a.high, a.four)

module _ (h : Header) (s filter information out : List ℕ) (e : sound_refusal s 3 ≡ 0) (same : length out ≡ length s)
    (octets : length filter ≡ 512) (four : length information ≡ 4) {l : List ℕ} (w : l ≡ header_octets h ++ drop 48 out) where
  sizes-right : wrong_sizes s filter information l ≡ false
  sizes-right =
      let size = request-size s e in
      let long : length l ≡ length s = ap length w ∙ simp (length-append, length-header, length-drop) (omega arith) in
      rw (eq-eqb _ _ octets, eq-eqb _ _ four, le-ltb _ _ size.0, le-ltb _ _ size.1, eq-eqb _ _ size.2, eq-eqb _ _ long)

  -- the fields after the header
  pub answer-put : (d : Edition) {n : List ℕ} → n ≡ fields_written d s filter information l → n ≡ header_octets h ++ chain_octets (answer_fields d s filter information)
  unfolding fields_written
  answer-put d q = q ∙ rw (sizes-right, w, take_at (header_octets h) (drop 48 out) 48 (length-header h))
