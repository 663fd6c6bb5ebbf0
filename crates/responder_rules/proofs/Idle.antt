-- The idle responders are rejected, each by the smallest calls that show it. Assumes nothing.
use mathlib.Core.Path.{◌≡◌, refl, sym, ap, ◌∙◌}
use mathlib.Core.Bool.{Bool, true, false, cond, true≢false, false≢true}
use mathlib.Core.List.{List, [], ◌∷◌, ◌++◌}
use Prim.Native.Nat.{ℕ, ◌<◌, ◌^◌}
use native.Mathlib.Omega.{arith}
use lib.Dec.{eqb, lit<}
use lib.IntN.{pos}
use lib.ListN.{get_or, take, replicate}
use Rattle.octets.specs.Number.{Octets, num, octets}
use Rattle.octets.specs.Piece.{spelled}
use Rattle.octets.proofs.Written.{small-octets, zeros-octets}
use Rattle.header.specs.Header.{header_of, header_octets, refusal}
use Rattle.header.specs.declared.edition.Edition.TheVariants.{Seven}
use Rattle.chain.specs.Chain.{all_zero, step_at, walk_for, walk, chain_refusal, sound_refusal}
use Rattle.chain.specs.Content.{chain_octets}
use Rattle.store_rules.specs.Row.{Record, held, time_of, with_time, without, row_octets, store_octets, size_of, row_of, records_from, all_unused, used_of, sound_records, wrong_store, cleared, reporting}
use Rattle.responder_rules.specs.declared.Server.{Server}
use Rattle.responder_rules.specs.Answer.{Given, Outcome, asking, row_after, answers_to, answer_fields, answer_octets, answer_refusal, answer_of}
use Rattle.responder_rules.specs.Call.{Call, clear, report, answer, Responder}
use Rattle.responder_rules.specs.Claim.{InRange, Answerable, AnswerSent, EveryAnswerFor, Reportable, EveryReportFor}
use Rattle.responder_rules.specs.Refused.{RefusalsFor}
use Rattle.responder_rules.specs.Once.{AllTyped, Observed, observations, clears, other, reports, sends, cleared_by, each_sent_once, OnceFor}
use Rattle.responder_rules.specs.Idle.{refuses_requests, RefusesRequests, RefusesReports, does_nothing, WritesNothing, StoresNothing, answers_from_one, SentOnceFor, IdleRejected, HoldsOfRefusing}
use Rattle.responder_rules.proofs.Exact.{every-report}
use Rattle.responder_rules.proofs.Refused.{refusals}
use Rattle.responder_rules.proofs.SentOnce.{LeavesStores, step-holds, calls-hold, cleared-holds, right-store, sent-twice}

-- ---- one record, requests of 48 octets

-- a request for an interleaved answer with a server cookie of one octet
abbrev request : ℕ → List ℕ
request cookie = 0x2B ∷ (replicate 6 0 ++ (2 ∷ (replicate 15 0 ++ (cookie ∷ replicate 24 0))))

abbrev server : Server
server = record {
  leap = 0;
  stratum = 1;
  poll = pos 0;
  precision = pos 0;
  timescale = 0;
  era = 0;
  timescale_offset = pos 0;
  flags = 0;
  root_delay = 0;
  root_dispersion = 0;
}

abbrev given : (cookie fresh_cookie : ℕ) → Given
given cookie fresh_cookie = record {
  edition = Seven;
  request = request cookie;
  receive = 3;
  estimate = 4;
  fresh_cookie = fresh_cookie;
  server = server;
  filter = replicate 512 0;
  information = replicate 4 0;
}

abbrev room : List ℕ
room = replicate 48 0

-- a cleared store
abbrev zeros : List ℕ
zeros = replicate 16 0

given-typed : (cookie fresh_cookie : ℕ) → Octets (request cookie) → fresh_cookie < 2 ^ 64 → InRange (given cookie fresh_cookie) []
unfolding time_of
given-typed cookie fresh_cookie o h = record {
  request = o;
  receive = lit< tt;
  estimate = lit< tt;
  fresh_cookie = h;
  stratum = lit< tt;
  poll = record { sfits = omega arith };
  precision = record { sfits = omega arith };
  timescale = lit< tt;
  era = lit< tt;
  offset = record { sfits = omega arith };
  flags = lit< tt;
  delay = lit< tt;
  dispersion = lit< tt;
  times = λ c. lit< tt;
}

-- ---- by one answer

first : Answerable (given 0 1) zeros room
unfolding wrong_store sound_records all_unused used_of records_from num held header_of refusal sound_refusal chain_refusal walk walk_for step_at
first = record {
  right = refl;
  accepted = record {
    request = refl;
    filter = refl;
    information = refl;
    leap = omega arith;
    limits = record { stratum-held = omega arith; timescale-held = omega arith; flags-held = omega arith };
  };
  receive = λ z. omega arith;
  estimate = λ z. omega arith;
  fresh = λ e. (λ z. omega arith, refl);
  room = omega arith;
}

-- no response
zeros-unsound : sound_refusal (take 48 room) 4 ≡ 2
unfolding num refusal sound_refusal
zeros-unsound = refl

-- the fresh cookie is the store's first
joined-octet : get_or (store_octets (size_of zeros) (row_after (asking (given 0 1)) 1 (size_of zeros) (row_of zeros))) 7 0 ≡ 1
unfolding store_octets row_octets octets used_of records_from num header_of time_of
joined-octet = refl

module _ (step : Responder) where
  answered : EveryAnswerFor step → AnswerSent (given 0 1) zeros room (step (answer (given 0 1) room) zeros)
  answered d = (d (given 0 1) zeros room (given-typed 0 1 (small-octets (request 0) refl) (lit< tt)) (zeros-octets 16)).all-answerable first

  all-refusing : RefusesRequests step → EveryAnswerFor step → ⊥
  all-refusing r d = r (given 0 1) room zeros (answered d).refusal

  all-writing-nothing : WritesNothing step → EveryAnswerFor step → ⊥
  all-writing-nothing w d =
      let a = answered d in
      let size = a.size in
      let out = w (given 0 1) room zeros in
      let z : ◌≡◌ {A = ℕ} 2 0 = sym zeros-unsound ∙ sym (λ i. sound_refusal (take (size i) (out i)) 4) ∙ a.sent.sound in
      omega arith

  all-storing-nothing : StoresNothing step → EveryAnswerFor step → ⊥
  all-storing-nothing n d =
      let z : ◌≡◌ {A = ℕ} 0 1 = ap (λ (s : List ℕ). get_or s 7 0) (sym (n (given 0 1) room zeros) ∙ (answered d).stored) ∙ joined-octet in
      omega arith

-- ---- by one report

-- a store that holds cookie 1
abbrev one : List ℕ
one = replicate 7 0 ++ (1 ∷ replicate 8 0)

one-reportable : Reportable 1 5 one
unfolding wrong_store sound_records used_of records_from num held time_of
one-reportable = record { right = refl; time = λ z. omega arith; in_row = refl; unreported = refl }

all-refusing-reports : (step : Responder) → RefusesReports step → EveryReportFor step → ⊥
all-refusing-reports step r d = r 1 5 one (ap (λ (w : Outcome). w.refusal) ((d 1 5 one).all-reportable one-reportable))

-- ---- by a time that is sent twice

abbrev asked : ℕ → ℕ → Call
asked cookie fresh_cookie = answer (given cookie fresh_cookie) room

abbrev calls : List Call
calls = asked 0 1 ∷ report 1 5 ∷ asked 1 2 ∷ asked 1 2 ∷ []

calls-typed : AllTyped calls
calls-typed =
    let again = given-typed 1 2 (small-octets (request 1) refl) (lit< tt) in
    (given-typed 0 1 (small-octets (request 0) refl) (lit< tt), ((lit< tt, lit< tt), (again, (again, tt))))

observed : observations answers_from_one calls (cleared_by answers_from_one zeros) ≡ other ∷ reports 1 5 ∷ sends 1 5 ∷ sends 1 5 ∷ []
unfolding observations answer_of answer_refusal wrong_store sound_records all_unused used_of records_from num header_of refusal sound_refusal chain_refusal walk walk_for step_at all_zero answer_octets answer_fields answers_to chain_octets header_octets spelled octets store_octets row_octets held time_of with_time without cleared reporting
observed = refl

sending-twice : SentOnceFor answers_from_one → ⊥
unfolding each_sent_once
sending-twice d = true≢false (sym (d zeros refl calls calls-typed) ∙ ap (each_sent_once []) observed ∙ sent-twice 1 5 5 [])

pub idle-rejected : IdleRejected
idle-rejected = record {
  refusing = all-refusing refuses_requests (λ g out s z. omega arith);
  all-refusing = all-refusing;
  idling = all-writing-nothing does_nothing (λ g out s. refl);
  all-writing-nothing = all-writing-nothing;
  all-storing-nothing = all-storing-nothing;
  all-refusing-reports = all-refusing-reports;
  answering-from-one = λ d. sending-twice (λ s h cs t. (d s h cs t).sent-once);
  sending-twice = sending-twice;
}

-- ---- what holds of the responder that refuses every request

-- an accepted call is observed as an event, a refused one as none
if-accepted : (b : Bool) (e : Observed) (unsent : List Record) (es : List Observed) → each_sent_once unsent (e ∷ es) ≡ true → each_sent_once unsent es ≡ true
    → each_sent_once unsent (cond b e other ∷ es) ≡ true
unfolding each_sent_once
if-accepted true e unsent es h k = h
if-accepted false e unsent es h k = k

-- it sends no time
none-sent : (cs : List Call) (unsent : List Record) (s : List ℕ) → each_sent_once unsent (observations refuses_requests cs s) ≡ true
unfolding each_sent_once observations
none-sent [] unsent s = refl
none-sent (clear ∷ cs) unsent s =
    let t = (cleared s).1 in
    if-accepted (eqb (cleared s).0 0) clears unsent (observations refuses_requests cs t) (none-sent cs [] t) (none-sent cs unsent t)
none-sent (report c t ∷ cs) unsent s =
    let u = (reporting s c t).1 in
    if-accepted (eqb (reporting s c t).0 0) (reports c t) unsent (observations refuses_requests cs u)
    (none-sent cs (record { cookie = c; time = t } ∷ without c unsent) u) (none-sent cs unsent u)
none-sent (answer g out ∷ cs) unsent s = none-sent cs unsent s

refusing-holds : LeavesStores refuses_requests
refusing-holds clear s n t h = step-holds clear s n t h
refusing-holds (report c t) s n k h = step-holds (report c t) s n k h
refusing-holds (answer g out) s n r h = h

refusing-once : OnceFor refuses_requests
refusing-once s h cs t = record {
  sent-once = none-sent cs [] _;
  store-right = right-store (calls-hold refuses_requests refusing-holds cs (cleared s).1 (size_of s) t (cleared-holds s h)).stores;
  record-left = λ g out r e. absurd (false≢true e);
}

refusing-refusals : RefusalsFor refuses_requests
refusing-refusals clear s = refusals clear s
refusing-refusals (report c t) s = refusals (report c t) s
refusing-refusals (answer g out) s = λ z. record { store = refl; out = refl; size = refl; number = refl }

pub holds-of-refusing : HoldsOfRefusing
holds-of-refusing = record {
  once = refusing-once;
  reports = λ c t s. let e = every-report c t s in record { only-reportable = e.only-reportable; all-reportable = e.all-reportable };
  refusals = refusing-refusals;
}
