-- What holds of calls to which no refusal applies: of answers, D-4, and of reports, R-3. Each claim is about any responder,
-- `EveryAnswerFor step` and so on, and made of ours, `EveryAnswer`; specs/Idle.antt has responders of which they are false.
use Rattle.std.specs.Prelude.{◌≡◌, None, true, false, List, [], ℕ, ◌<◌, ◌≤◌, ◌^◌, length, take, drop}
use Rattle.std.specs.Int.{w8, w16}
use Rattle.std.proofs.Common.{SFits}
use Rattle.octets.specs.Number.{Octets}
use Rattle.header.specs.Edition.{Within}
use Rattle.header.specs.Header.{header_of}
use Rattle.chain.specs.Chain.{sound_refusal}
use Rattle.chain.specs.Field.{fields_of, first_of}
use Rattle.chain.specs.Content.{placed, contents_of}
use Rattle.field_role.specs.Role.{role_of}
use Rattle.chain.specs.declared.cursor.Field.{Field}
use Rattle.field_role.specs.declared.Role.TheVariants.{FilterRequest}
use Rattle.store_rules.specs.Row.{Record, held, time_of, with_time, store_octets, size_of, row_of, wrong_store}
use Rattle.responder_rules.specs.Answer.{Given, Outcome, asking, wants_interleaved, sent_header, sent_fields, row_after}
use Rattle.responder_rules.specs.Call.{Call, clear, report, answer, Responder, step_store}

-- ---- the arguments

-- the request is sound (F-8, W205-3), and the filter, the server information and the server's values are not refused by N-11, N-12, N-7
-- and W204-15
pub record Accepted (g : Given) : Type 0 where
  pub request : sound_refusal g.request 3 ≡ 0
  pub filter : length g.filter ≡ 512
  pub information : length g.information ≡ 4
  pub leap : g.server.leap ≤ 3
  pub limits : Within g.edition g.server.stratum g.server.timescale g.server.flags

-- each number is one that its type in the call holds, and the row's times are of 64 bits
pub record InRange (g : Given) (row : List Record) : Type 0 where
  pub request : Octets g.request
  pub receive : g.receive < 2 ^ 64
  pub estimate : g.estimate < 2 ^ 64
  pub fresh_cookie : g.fresh_cookie < 2 ^ 64
  pub stratum : g.server.stratum < 2 ^ 8
  pub poll : SFits w8 g.server.poll
  pub precision : SFits w8 g.server.precision
  pub timescale : g.server.timescale < 2 ^ 8
  pub era : g.server.era < 2 ^ 8
  pub offset : SFits w16 g.server.timescale_offset
  pub flags : g.server.flags < 2 ^ 16
  pub delay : g.server.root_delay < 2 ^ 32
  pub dispersion : g.server.root_dispersion < 2 ^ 32
  pub times : (cookie : ℕ) → time_of cookie row < 2 ^ 64

-- the arguments are of their types; nothing is asked of the store's row
abbrev pub Typed : Call → Type 0
Typed clear = Unit {0}
Typed (report c t) = (c < 2 ^ 64) × (t < 2 ^ 64)
Typed (answer g out) = InRange g []

-- ---- an answer

-- what is sent in answer to a request, where the store holds a row
pub record AnswerClaim (g : Given) (row : List Record) (sent : List ℕ) : Type 0 where
  -- R-20: an answer is as long as its request
  pub long : length sent ≡ length g.request
  -- it is sound where a response is wanted
  pub sound : sound_refusal sent 4 ≡ 0
  -- R-5 to R-12, W204-13: its header reads, in the answer's edition, as the values that went in
  pub header : header_of g.edition sent ≡ sent_header g row
  -- its fields are those of R-16 to R-20, each right after the one before it, and no others
  pub fields : fields_of sent ≡ placed 48 (sent_fields g)
  -- their types and data are those of R-16 to R-20
  pub contents : contents_of sent (fields_of sent) ≡ sent_fields g
  -- W205-9: none of them is a MAC
  pub no-mac : first_of 0xF502 (fields_of sent) ≡ None
  -- R-17: a filter response is as long as the filter request that it answers
  pub responses : (before : List Field) (f : Field) (offset : ℕ) → role_of g.request before f ≡ FilterRequest offset
      → length (take f.size (drop offset g.filter)) ≡ f.size

-- none of the refusals that concern an answer applies
pub record Answerable (g : Given) (store out : List ℕ) : Type 0 where
  -- N-10, N-14
  pub right : wrong_store store ≡ false
  -- N-1 to N-5, N-7, N-11, N-12, W205-4, W204-15
  pub accepted : Accepted g
  -- N-16
  pub receive : g.receive ≡ 0 → ⊥
  pub estimate : g.estimate ≡ 0 → ⊥
  -- R-8
  pub fresh : wants_interleaved (asking g) ≡ true → (g.fresh_cookie ≡ 0 → ⊥) × (held g.fresh_cookie (row_of store) ≡ false)
  -- N-23
  pub room : length g.request ≤ length out

-- all that an answer then returns and leaves
pub record AnswerSent (g : Given) (store out : List ℕ) (w : Outcome) : Type 0 where
  pub refusal : w.refusal ≡ 0
  pub size : w.size ≡ length g.request
  -- the octets that are written
  pub sent : AnswerClaim g (row_of store) (take w.size w.out)
  -- N-29
  pub rest : drop w.size w.out ≡ drop w.size out
  -- R-7, R-10, R-12 to R-14: the store holds the row after the answer
  pub stored : w.store ≡ store_octets (size_of store) (row_after (asking g) g.fresh_cookie (size_of store) (row_of store))

-- D-4: a request is answered exactly when no refusal applies
pub record AnswerExact (step : Responder) (g : Given) (store out : List ℕ) : Type 0 where
  pub only-answerable : (step (answer g out) store).refusal ≡ 0 → Answerable g store out
  pub all-answerable : Answerable g store out → AnswerSent g store out (step (answer g out) store)

-- for any octets lent as a store, of any size
abbrev pub EveryAnswerFor : Responder → Type 0
EveryAnswerFor step = (g : Given) (store out : List ℕ) → Typed (answer g out) → Octets store → AnswerExact step g store out

abbrev pub EveryAnswer : Type 0
EveryAnswer = EveryAnswerFor step_store

-- ---- a report

-- none of the refusals that concern a report applies
pub record Reportable (c t : ℕ) (store : List ℕ) : Type 0 where
  -- N-10, N-14
  pub right : wrong_store store ≡ false
  -- N-16
  pub time : t ≡ 0 → ⊥
  -- N-24
  pub in_row : held c (row_of store) ≡ true
  pub unreported : time_of c (row_of store) ≡ 0

-- R-3: a time is taken exactly when no refusal applies, and then its cookie has it
pub record ReportExact (step : Responder) (c t : ℕ) (store : List ℕ) : Type 0 where
  pub only-reportable : (step (report c t) store).refusal ≡ 0 → Reportable c t store
  pub all-reportable : Reportable c t store
      → step (report c t) store ≡ record { refusal = 0; size = 0; out = []; store = store_octets (size_of store) (with_time c t (row_of store)) }

abbrev pub EveryReportFor : Responder → Type 0
EveryReportFor step = (c t : ℕ) (store : List ℕ) → ReportExact step c t store

abbrev pub EveryReport : Type 0
EveryReport = EveryReportFor step_store
