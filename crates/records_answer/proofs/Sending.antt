-- What is checked and sent beside the records. Assumes nothing.
use mathlib.Core.Path.{◌≡◌, sym, ap, ◌∙◌}
use mathlib.Core.List.{List, [], ◌++◌}
use Prim.Native.Nat.{ℕ, ◌≤◌}
use native.Mathlib.Omega.{arith}
use borrow.Author.Tests.{ltb-false}
use lib.ListN.{length, take, drop}
use lib.Seq.{length-take-le}
use Rattle.std.specs.Prelude.{Result, Ok, Err}
use Rattle.header.specs.Header.{refusal, reading, header_put}
use Rattle.header.specs.declared.Header.{Header}
use Rattle.header.proofs.RoundTrip.{header-put}
use Rattle.chain.specs.Chain.{sound_refusal}
use Rattle.chain.proofs.Datagrams.{header-passes}
use Rattle.answer_fields.specs.Fields.{fields_written}
use Rattle.responder_rules.specs.Answer.{Given, asking, answer_header, wrong_arguments, first_refusal}
use Rattle.responder_rules.proofs.Accepting.{not-given}
use Rattle.responder.proofs.Writing.{request-size, answer-put}
use Rattle.records_answer.specs.Answer.{checked_request, outcome}
use Rattle.records_answer.specs.Sent.{Ready, sent_octets, answer_sent}

-- ---- checking

module _ (g : Given) where
  -- a request's header is read where neither it nor the arguments are refused
  pub sound-reading : 0 ≡ first_refusal g → reading (refusal g.request 3) (asking g) ≡ checked_request g
  sound-reading e =
      let wrong = wrong_arguments g.edition g.server g.filter g.information g.receive g.estimate in
      rw (header-passes g.request 3 (not-given wrong 5 (sound_refusal g.request 3) (sym e)).1, ← e)

-- ---- sending

module _ {checked : Result Header ℕ} (g : Given) (out : List ℕ) (ready : Ready checked g out) where
  pub room : length g.request ≤ length out
  room = ltb-false (length out) (length g.request) ready.room

  -- the header that the code computed
  pub header_is : {asked : Header} → checked ≡ Ok asked → asked ≡ asking g
  header_is {asked} e = ap header (sym e ∙ ready.header)
    where
      header : Result Header ℕ → Header
      header (Ok h) = h
      header (Err n) = asked

  module _ (saved : ℕ) {h asked : Header} (a : asked ≡ asking g) (e : h ≡ answer_header g.server asked g.receive g.estimate g.fresh_cookie saved) where
    -- header and fields stand in the part of the output
    part-sent : {l m : List ℕ} → l ≡ header_put h (take (length g.request) out) → m ≡ fields_written g.edition g.request g.filter g.information l → m ≡ sent_octets g saved
    part-sent {l} {m} w f =
        let part = take (length g.request) out in
        let ok = ready.accepted in
        let same = length-take-le (length g.request) out room in
        let put = w ∙ header-put h part (omega (arith, (request-size _ ok.request).0, same)) in
        answer-put h g.request g.filter g.information part ok.request same ok.filter ok.information put g.edition f ∙ rw (e, a)

    pub all-sent : {l m : List ℕ} → l ≡ header_put h (take (length g.request) out) → m ≡ fields_written g.edition g.request g.filter g.information l
        → outcome (Ok (length g.request)) (m ++ drop (length g.request) out) [] ≡ answer_sent g (record { refusal = 0; saved = saved }) out
    all-sent {l} {m} w f = rw (part-sent w f)
