-- Tables that mix both editions, W204-9, W204-10 and W204-12: an association has the edition that its opening named, and one of edition 1
-- takes no octet, over every list of calls on one cleared table.
use Rattle.std.specs.Prelude.{◌≡◌, true, cond, List, [], ◌∷◌, ℕ, ◌<◌, length}
use Rattle.octets.specs.Number.{Octets}
use Rattle.filter_rules.specs.Publishing.{bit}
use Rattle.header.specs.Edition.{edition_number}
use Rattle.state.specs.Plain.{Opened, opened}
use Rattle.order.specs.Order.{TaggedCall, EveryCall}
use Rattle.client_rules.specs.Call.{Call, clear_table, open_one, close_one, poll, sent, receive, loop_verdict, publish, Typed, Answer, plain_answer, verdict_answer}
use Rattle.client_rules.specs.Select.{verdict_incomplete}
use Rattle.client_rules.specs.Numbers.{table_size, filter_octet, step_numbers}
use Rattle.client_rules.specs.Observe.{Observation, succeeded}
use Rattle.client_rules.specs.Claim.{Client, reached_by, refusal_by, place_after}
use Rattle.client_rules.specs.Missed.{seen_by}

-- THE OBSERVER

-- the edition that the last accepted opening of a named
abbrev pub edition_by : ℕ → Call → Answer → ℕ → ℕ
edition_by a clear_table w before = before
edition_by a (open_one b edition timescale c) w before = cond (succeeded a b w) edition before
edition_by a (close_one b) w before = before
edition_by a (poll b cookie exponent interleaved out) w before = before
edition_by a (sent b t1) w before = before
edition_by a (receive b datagram t4) w before = before
edition_by a (loop_verdict b id) w before = before
edition_by a (publish selected id out) w before = before

unfoldable pub observed_edition : ℕ → List Observation → ℕ
observed_edition a [] = 0
observed_edition a (e ∷ before) = edition_by a e.call e.answer (observed_edition a before)

-- THE CLAIM

-- what holds of an association of edition 1 after calls
pub record NoOctetTaken (step : Client) (t : List ℕ) (cs : List (TaggedCall Call)) (a : ℕ) : Type 0 where
  pub filter : (i : ℕ) → i < 512 → filter_octet a i (reached_by step t cs) ≡ 0
  -- W204-9: the chunk of a response that is accepted is absent, whatever its fields are
  pub chunk : (datagram : List ℕ) (t4 : ℕ) → Typed (receive a datagram t4) → refusal_by step (receive a datagram t4) (reached_by step t cs) ≡ 0
      → (step (receive a datagram t4) (reached_by step t cs)).0.chunk ≡ 2
  -- W204-10: the verdict on any ID is incomplete, and publishing is refused
  pub verdict : (id : List ℕ) → Octets id → length id ≡ 15 → (step (loop_verdict a id) (reached_by step t cs)).0 ≡ verdict_answer verdict_incomplete
  pub published : (selected : ℕ) (id out : List ℕ) → Typed (publish selected id out) → length id ≡ 15 → bit a selected ≡ true
      → (step (publish selected id out) (reached_by step t cs)).0 ≡ plain_answer 7 out

pub record Editions (step : Client) (t : List ℕ) (cs : List (TaggedCall Call)) (a : ℕ) (o : Opened) : Type 0 where
  pub named : edition_number o.edition ≡ observed_edition a (seen_by step t cs)
  pub first : observed_edition a (seen_by step t cs) ≡ 1 → NoOctetTaken step t cs a

abbrev pub MixedEditionsFor : Client → Type 0
MixedEditionsFor step = (t : List ℕ) → length t ≡ table_size → (cs : List (TaggedCall Call)) → EveryCall Typed cs
    → (a : ℕ) → a < 16 → (o : Opened) → place_after cs a ≡ opened o → Editions step t cs a o

abbrev pub MixedEditions : Type 0
MixedEditions = MixedEditionsFor step_numbers
