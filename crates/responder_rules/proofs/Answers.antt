-- An answer is as long as its request and sound, and reads as what went in. Assumes nothing.
use mathlib.Core.Path.{◌≡◌, refl, ap, ◌∙◌, subst}
use mathlib.Core.List.{List, [], ◌++◌, append_assoc}
use Prim.Native.Nat.{ℕ, ◌+◌, ◌-◌, ◌<◌, ◌≤◌, ◌^◌}
use native.Mathlib.Omega.{arith}
use lib.Dec.{eqb, lit<}
use lib.IntN.{ℤ}
use lib.ListN.{length, take, drop, length-append}
use lib.Seq.{drop_at}
use mir.Syntax.{w16}
use mir.Val.{SFits}
use Rattle.octets.proofs.Tests.{by-test, by-outcome}
use Rattle.header.specs.Edition.{Within, most_flags}
use Rattle.header.specs.Header.{header_of, header_octets}
use Rattle.header.specs.declared.edition.Edition.{Edition}
use Rattle.header.specs.declared.edition.Edition.TheVariants.{One, Seven}
use Rattle.header.specs.declared.Header.{Header}
use Rattle.header.specs.Claim.{Passes, OffsetHeld, InRange as HeaderRange}
use Rattle.header.proofs.Refusals.{passes, refusal-none}
use Rattle.header.proofs.RoundTrip.{length-header, read-written, version-written, mode-written, read-in-range}
use Rattle.chain.specs.Chain.{fields_refusal, sound_refusal}
use Rattle.chain.specs.Field.{fields_of, fields_in, first_of}
use Rattle.chain.specs.Content.{Content, chain_octets, AllFit, placed, contents_of}
use Rattle.field_role.specs.Role.{role_of, SizeAllowed}
use Rattle.chain.specs.declared.cursor.Field.{Field}
use Rattle.std.specs.Prelude.{None}
use Rattle.field_role.specs.declared.Role.TheVariants.{FilterRequest}
use Rattle.chain.proofs.Datagrams.{header-passes, sound-datagram, fields-pass}
use Rattle.field_role.proofs.Roles.{good-parts, size-allowed}
use Rattle.chain.proofs.Contents.{NoneOf, none-placed, fit_append, chain-fours, length-chain-append, fields-written, contents-written}
use Rattle.store_rules.specs.Row.{Record}
use Rattle.responder_rules.specs.Answer.{Given, wants_interleaved, saved_time, sent_flags, sent_offset, sent_header, answers_to, padding_of, answer_fields, answer_octets, asking, sent_fields}
use Rattle.responder_rules.specs.Claim.{Accepted, InRange, AnswerClaim}
use Rattle.responder_rules.proofs.NoMac.{fields-no-mac}
use Rattle.responder_rules.proofs.Room.{answers-in, all_fit, padding-size, padding-fits, response-length}

module _ (g : Given) (a : Accepted g) where
  abbrev answers : List Content
  answers = answers_to g.request g.filter g.information [] (fields_in g.edition g.request)

  abbrev left : ℕ
  left = length g.request - (48 + length (chain_octets answers))

  -- none of refusals 1, 2 and 3 applies to the request
  passed : Passes g.request 3
  passed = passes g.request 3 (header-passes g.request 3 a.request)

  -- the answers and the padding fill what stands after the header
  pub fields-size : length (chain_octets (sent_fields g)) ≡ length g.request - 48
  unfolding answer_fields
  fields-size =
      let p = passed in
      let fit = answers-in g.request g.filter g.information a.filter a.information g.edition g.request p.low in
      let fours = chain-fours answers in
      let padding = padding-size left (omega arith) in
      length-chain-append answers (padding_of left) ∙ omega arith

  -- each of them fits in the 16 bits of its length
  fields_fit : AllFit (sent_fields g)
  unfolding answer_fields
  fields_fit =
      let p = passed in
      fit_append answers (padding_of left) (all_fit g.request g.filter g.information a.filter a.information [] (fields_in g.edition g.request)) (padding-fits left (omega arith))

  -- none of them is a MAC
  no-mac : NoneOf 0xF502 (sent_fields g)
  no-mac = fields-no-mac g.request g.filter g.information g.edition

  -- an answer is as long as its request
  pub answer-size : (row : List Record) → length (answer_octets g row) ≡ length g.request
  unfolding answer_octets
  answer-size row =
      let p = passed in
      let h = sent_header g row in
      omega (arith, length-append (header_octets h) (chain_octets (sent_fields g)), length-header h, fields-size)

  -- a filter response is as long as what was asked
  responses : (before : List Field) (f : Field) (offset : ℕ) → role_of g.request before f ≡ FilterRequest offset
      → length (take f.size (drop offset g.filter)) ≡ f.size
  responses before f offset e =
      let good = good-parts offset f.size (subst (SizeAllowed f) e (size-allowed _ g.request f)) in
      response-length g.filter offset f.size a.filter good.inside

  module _ (row : List Record) where
    abbrev sent : Header
    sent = sent_header g row

    -- the fields of an answer are not refused
    sent-pass : fields_refusal (drop 48 (answer_octets g row)) ≡ 0
    unfolding answer_octets
    sent-pass =
        rw (drop_at (header_octets sent) (chain_octets (sent_fields g)) 48 (length-header sent)) (fields-pass (sent_fields g) fields_fit no-mac)

    -- an answer is sound where a response is wanted
    pub answer-sound : sound_refusal (answer_octets g row) 4 ≡ 0
    unfolding answer_octets
    answer-sound =
        let p = passed in
        let leap = a.leap in
        let l = answer-size row in
        sound-datagram (answer_octets g row) 4
        (refusal-none (answer_octets g row) 4 (record {
          low = omega arith;
          high = omega arith;
          four = rw l p.four;
          version = version-written sent (chain_octets (sent_fields g)) (omega arith) (lit< tt);
          mode = mode-written sent (chain_octets (sent_fields g)) (omega arith) (lit< tt);
        }))
        sent-pass

    -- its fields are those of R-16 to R-20 and no others
    pub answer-fields : fields_of (answer_octets g row) ≡ placed 48 (sent_fields g)
    unfolding answer_octets
    answer-fields = fields-written (header_octets sent) (sent_fields g) 48 (length-header sent) fields_fit

    -- none of them is a MAC
    pub answer-no-mac : first_of 0xF502 (fields_of (answer_octets g row)) ≡ None
    answer-no-mac = rw answer-fields (none-placed 0xF502 (sent_fields g) 48 no-mac)

    -- and so are their data
    pub answer-contents : contents_of (answer_octets g row) (fields_of (answer_octets g row)) ≡ sent_fields g
    unfolding answer_octets
    answer-contents = contents-written (header_octets sent) (sent_fields g) 48 (length-header sent) fields_fit

-- the numbers of an answer's header are in range

-- the flags that are sent fit where the server's do
flags-range : (e : Edition) (flags saved : ℕ) → flags ≤ most_flags e → sent_flags e flags saved ≤ most_flags e
flags-range One flags saved h = by-outcome (eqb saved 0) (λ q. rw q (omega arith)) (λ q. rw q (omega arith))
flags-range Seven flags saved h = by-outcome (eqb saved 0) (λ q. rw q (omega arith)) (λ q. rw q (omega arith))

-- so an edition that holds the server's values holds those that are sent
pub sent-within : (e : Edition) {stratum timescale flags : ℕ} (saved : ℕ) → Within e stratum timescale flags → Within e stratum timescale (sent_flags e flags saved)
sent-within e saved w =
    record { stratum-held = w.stratum-held; timescale-held = w.timescale-held; flags-held = flags-range e _ saved w.flags-held }

-- and the timescale offset that is sent
offset-range : (e : Edition) (z : ℤ) → SFits w16 z → OffsetHeld e (sent_offset e z)
offset-range One z s = s
offset-range Seven z s = refl

module _ (g : Given) (row : List Record) (a : Accepted g) (r : InRange g row) where
  saved-range : saved_time (asking g) row < 2 ^ 64
  saved-range = by-test (λ (n : ℕ). n < 2 ^ 64) (wants_interleaved (asking g)) (λ e. r.times _) (λ e. lit< tt)

  -- all of them
  header-range : HeaderRange (sent_header g row)
  unfolding header_of
  header-range =
      let leap = a.leap in
      record {
        leap = omega arith;
        mode = lit< tt;
        within = sent-within g.edition (saved_time (asking g) row) a.limits;
        poll = r.poll;
        precision = r.precision;
        era = r.era;
        offset = offset-range g.edition g.server.timescale_offset r.offset;
        delay = r.delay;
        dispersion = r.dispersion;
        server = by-test (λ (n : ℕ). n < 2 ^ 64) (wants_interleaved (asking g)) (λ e. r.fresh_cookie) (λ e. lit< tt);
        client = (read-in-range g.edition g.request r.request).client;
        receive = r.receive;
        transmit = by-test (λ (n : ℕ). n < 2 ^ 64) (eqb (saved_time (asking g) row) 0) (λ e. r.estimate) (λ e. saved-range);
      }

  -- an answer's header reads as the values that went in
  pub answer-header : header_of g.edition (answer_octets g row) ≡ sent_header g row
  unfolding answer_octets header_of
  answer-header = read-written (sent_header g row) (chain_octets (sent_fields g)) header-range

  -- also where other octets stand after the answer
  pub answer-header-more : (t : List ℕ) → header_of g.edition (answer_octets g row ++ t) ≡ sent_header g row
  unfolding answer_octets header_of
  answer-header-more t =
      let h = sent_header g row in
      ap (header_of g.edition) (append_assoc (header_octets h) (chain_octets (sent_fields g)) t) ∙ read-written h (chain_octets (sent_fields g) ++ t) header-range

  pub answer-claim : AnswerClaim g row (answer_octets g row)
  answer-claim = record {
    long = answer-size g a row;
    sound = answer-sound g a row;
    header = answer-header;
    fields = answer-fields g a row;
    no-mac = answer-no-mac g a row;
    contents = answer-contents g a row;
    responses = responses g a;
  }
