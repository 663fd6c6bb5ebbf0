-- Sound responses with the same header and the same data in the first 0xF504 are received alike, W209-7. Assumes nothing.
use mathlib.Core.Path.{◌≡◌, refl, sym, ap, ◌∙◌}
use mathlib.Core.List.{List, [], ◌∷◌, ◌++◌}
use Prim.Native.Nat.{ℕ}
use native.Mathlib.Omega.{arith}
use lib.ListN.{get_or-append}
use Rattle.header.specs.Header.{header_of}
use Rattle.header.specs.declared.edition.Edition.{Edition}
use Rattle.header.proofs.Starts.{header-same}
use Rattle.chain.specs.Chain.{sound_refusal}
use Rattle.chain.specs.Field.{fields_of}
use Rattle.chain.specs.Content.{Content, content, contents_of, AllFit}
use Rattle.chain.proofs.Contents.{contents-written}
use Rattle.exchange.specs.Response.{response_of, Response}
use Rattle.exchange.proofs.Alike.{first_data, first-skips, Alike, responses-alike}
use Rattle.state.specs.Event.{Receive}
use Rattle.state.proofs.Alike.{alike-done}
use Rattle.association.specs.Step.{on_numbers}
use Rattle.client_rules.specs.Call.{receive, receive_answer}
use Rattle.client_rules.specs.Step.{event_on, answering}
use Rattle.client_rules.specs.Numbers.{edition_at, at_numbers, step_numbers}
use Rattle.client_rules.specs.Correction.{CorrectionIgnored}

-- the same fields but for one of another type
fields-dropped : (before : List Content) (c : Content) (after : List Content) → AllFit (before ++ (c ∷ after)) → AllFit (before ++ after)
fields-dropped [] c after fits = fits.1
fields-dropped (b ∷ before) c after fits = (fits.0, fields-dropped before c after fits.1)

module _ (a t4 : ℕ) (s t : List ℕ) (table : List ℕ) where
  event-alike : (r q : Response) → Alike r s q t → at_numbers a (Receive r) s table ≡ at_numbers a (Receive q) t table
  unfolding event_on on_numbers
  event-alike r q alike = simp (alike-done r s q t alike)

  -- so that the answer and the table are the same
  pub received-alike : sound_refusal s 4 ≡ 0 → sound_refusal t 4 ≡ 0 → ((e : Edition) → header_of e s ≡ header_of e t)
      → first_data 0xF504 (contents_of s (fields_of s)) ≡ first_data 0xF504 (contents_of t (fields_of t))
      → step_numbers (receive a s t4) table ≡ step_numbers (receive a t t4) table
  received-alike sound sound-too header same =
      let e = edition_at a table in
      ap (answering receive_answer) (event-alike (response_of e s t4) (response_of e t t4) (responses-alike e s t t4 sound sound-too (header e) same))

pub correction-ignored : CorrectionIgnored
correction-ignored a t4 header before after correction table long fits sound sound-too =
    let all = before ++ (content 0xF506 correction ∷ after) in
    let fields = contents-written header all 48 long fits in
    let fields-too = contents-written header (before ++ after) 48 long (fields-dropped before _ after fits) in
    received-alike a t4 _ _ table sound-too sound
    (header-same _ _ (λ i h. get_or-append header _ 0 i (omega arith) ∙ sym (get_or-append header _ 0 i (omega arith))))
    (ap (first_data 0xF504) fields ∙ first-skips 0xF504 before (content 0xF506 correction) after refl ∙ ap (first_data 0xF504) (sym fields-too))
