-- The idle programs are rejected, each by the smallest exchange that shows it. Assumes nothing.
use mathlib.Core.Path.{◌≡◌, refl, sym, ap, ◌∙◌}
use mathlib.Core.Bool.{true}
use mathlib.Core.List.{List, [], ◌∷◌}
use Prim.Native.Nat.{ℕ}
use native.Mathlib.Omega.{arith}
use lib.ListN.{get_or}
use Rattle.octets.specs.Among.{among}
use Rattle.octets.proofs.Written.{zeros-octets}
use Rattle.header.specs.declared.edition.Edition.TheVariants.{Seven}
use Rattle.state.specs.Plain.{Place, closed, opened, newly_opened, place_do}
use Rattle.order.specs.Order.{TaggedCall, after, Independent}
use Rattle.order.proofs.Reorder.{reordered-answers, reordered-end}
use Rattle.client_rules.specs.Call.{Call, clear_table, open_one, close_one, poll, sent, receive, loop_verdict, publish, Typed, Answer, names}
use Rattle.client_rules.specs.Step.{event_on}
use Rattle.client_rules.specs.Plain.{closed_table, step_plain}
use Rattle.client_rules.specs.Claim.{Client, cleared_by, reached_by, refusal_by, Demand2For, NothingLostFor, FirstPollFor}
use Rattle.client_rules.specs.Refused.{refusals_of}
use Rattle.client_rules.specs.Idle.{refuses_all, does_nothing, RefusesAll, StoresNothing, WritesNothing, IdleRejected, HoldsOfRefusing, OursAlone}
use Rattle.client_rules.proofs.Exchange.{zeros, size, datagram, datagram-octets, room, tagged, asking, asking-typed, acceptable, not_yet}
use Rattle.client_rules.proofs.Demand3.{demand3}
use Rattle.client_rules.proofs.FirstChunk.{placing-first}

abbrev answering : Call
answering = receive 0 (datagram 1 0) 1

-- the plain table shows an opening
opening-shows : after step_plain (tagged 0 (open_one 0 7 0 16) ∷ []) closed_table ≡ after step_plain [] closed_table → ⊥
unfolding after event_on place_do
opening-shows e =
    let p : opened (newly_opened Seven 0 16) ≡ closed = ap (λ (ps : List Place). get_or ps 0 closed) e in
    let f : ◌≡◌ {A = ℕ} 0 1 = cc in
    omega arith

module _ (step : Client) where
  -- demand 2 has the response accepted after the poll, and not before
  accepted : Demand2For step → refusal_by step answering (reached_by step zeros asking) ≡ 0
  accepted d =
      (d zeros size asking asking-typed 0 (omega arith) (datagram 1 0) datagram-octets.0 1 (omega arith) (omega arith)
      ).all-acceptable acceptable

  not-accepted : Demand2For step → refusal_by step answering (reached_by step zeros []) ≡ 0 → ⊥
  not-accepted d z =
      not_yet ((d zeros size [] tt 0 (omega arith) (datagram 1 0) datagram-octets.0 1 (omega arith) (omega arith)
      ).only-acceptable z)

  all-refusing : RefusesAll step → Demand2For step → ⊥
  all-refusing r d = r answering (reached_by step zeros asking) (accepted d)

  stays : StoresNothing step → (cs : List (TaggedCall Call)) (t : List ℕ) → after step cs t ≡ t
  unfolding after
  stays s [] t = refl
  stays s (x ∷ cs) t = ap (after step cs) (s x.call t) ∙ stays s cs t

  all-storing-nothing : StoresNothing step → Demand2For step → ⊥
  all-storing-nothing s d =
      not-accepted d (ap (refusal_by step answering) (stays s [] (cleared_by step zeros) ∙ sym (stays s asking (cleared_by step zeros))) ∙ accepted d)

  all-refusing-poll : RefusesAll step → FirstPollFor step → ⊥
  all-refusing-poll r f = r _ _ (ap (λ (w : Answer). w.refusal) (f zeros size 0 (omega arith) room (zeros-octets 100) (omega arith)))

  all-writing-nothing : WritesNothing step → FirstPollFor step → ⊥
  all-writing-nothing w f =
      let e : room ≡ _ = sym (w _ _) ∙ ap (λ (x : Answer). x.out) (f zeros size 0 (omega arith) room (zeros-octets 100) (omega arith)) in
      let z : ◌≡◌ {A = ℕ} 0 0x2B = ap (λ (l : List ℕ). get_or l 0 0) e in
      omega arith

  -- opening leaves the table as it was, and so would no opening
  losing-all : StoresNothing step → NothingLostFor step → ⊥
  losing-all s f =
      let opening = tagged 0 (open_one 0 7 0 16) ∷ [] in
      let same : reached_by step zeros opening ≡ reached_by step zeros [] = stays s opening (cleared_by step zeros) ∙ sym (stays s [] (cleared_by step zeros)) in
      opening-shows (f zeros zeros size size opening [] ((omega arith, omega arith, omega arith, omega arith), tt) tt same)

pub idle-rejected : IdleRejected
idle-rejected =
    let nothing : StoresNothing does_nothing = λ c t. refl in
    let always : RefusesAll refuses_all = λ c t z. omega arith in
    record {
      refusing = all-refusing refuses_all always;
      refusing-poll = all-refusing-poll refuses_all always;
      idling = all-storing-nothing does_nothing nothing;
      idling-poll = all-writing-nothing does_nothing (λ c t. refl);
      all-refusing = all-refusing;
      all-refusing-poll = all-refusing-poll;
      all-storing-nothing = all-storing-nothing;
      all-writing-nothing = all-writing-nothing;
      placing-first = placing-first;
      placing-first-whole = λ d. placing-first (λ t e cs ty n. (d t e cs ty n).filters);
      losing-all = losing-all;
    }

-- a client whose answers and table do not turn on the table
unchanging : Independent 16 names refuses_all Typed (λ t. Unit {0})
unchanging = record { invariant = λ c t ty g. tt; commute = λ x y t n tx ty g. record { first = refl; second = refl; end = refl } }

-- 6 concerns every call
six : (c : Call) → among 6 (refusals_of c) ≡ true
six clear_table = refl
six (open_one a edition timescale c) = refl
six (close_one a) = refl
six (poll a cookie exponent interleaved out) = refl
six (sent a t1) = refl
six (receive a datagram t4) = refl
six (loop_verdict a id) = refl
six (publish selected id out) = refl

pub holds-of-refusing : HoldsOfRefusing
holds-of-refusing = record {
  reordered = λ t e cs ty d. record {
    answers-kept = λ ds o tag. reordered-answers unchanging o d ty t tt tag;
    ends-kept = λ ds o. reordered-end unchanging o d ty t tt;
  };
  refusals = λ c t n. record { table_kept = refl; zeros = refl; number = six c };
  publications = λ t e cs ty selected id out h z. absurd (omega arith);
}

-- both are what the plain table says
pub ours-alone : OursAlone
ours-alone step d t e cs ty n =
    let theirs = d t e cs ty n in
    let ours = demand3 t e cs ty n in
    record { same-answers = theirs.answers-plain ∙ sym ours.answers-plain; same_end = theirs.ends-plain ∙ sym ours.ends-plain }
