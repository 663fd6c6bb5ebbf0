-- What holds of every trace, W-208. Octets are written as records and read back; a replay is the calls made directly; joined traces; a wrong
-- record; demand 3 of a replay.
use Rattle.std.specs.Prelude.{◌≡◌, ◌↔◌, List, [], ◌++◌, ℕ, suc, ◌+◌, ◌<◌, length, drop}
use Rattle.octets.specs.Number.{Octets}
use Rattle.state.specs.Plain.{Opened, opened}
use Rattle.order.specs.Order.{after, answers}
use Rattle.client_rules.specs.Numbers.{table_size, filter_octet, step_numbers}
use Rattle.client_rules.specs.Observe.{watched, observed_octet}
use Rattle.client_rules.specs.Claim as client
use Rattle.trace_rules.specs.Record.{found_in}
use Rattle.trace_rules.specs.Written.{Entry, trace_octets, EntriesFit, entry_calls}
use Rattle.trace_rules.specs.Trace.{listing, calls_in, Sound}
use Rattle.trace_rules.specs.Replay.{replay_at, Run, replay}
use Rattle.trace_rules.specs.declared.Fault.{Fault}
use Rattle.trace_rules.specs.declared.Fault.TheVariants.{Cut}
use Rattle.trace_rules.specs.declared.Found.TheVariants.{End, Wrong}

-- WRITTEN AND READ

-- W208-1 to W208-5, W208-8: records as they are written, with any time where it is not looked at, are read as their calls in their order,
-- and then what follows them is read
abbrev pub RecordsRead : Type 0
RecordsRead = (n : ℕ) (lend : ℕ → List ℕ) (es : List Entry) (rest : List ℕ) → EntriesFit es
    → listing n lend (trace_octets es ++ rest) ≡ record {
      calls = entry_calls n lend es ++ (listing (length es + n) lend rest).calls;
      stop = (listing (length es + n) lend rest).stop;
    }

-- octets that are records as they are written, and others after them
pub record Begins (s : List ℕ) : Type 0 where
  pub entries : List Entry
  pub rest : List ℕ
  pub whole : s ≡ trace_octets entries ++ rest
  pub fit : EntriesFit entries

-- W208-6, W208-9: a trace is sound exactly if it is records as they are written and nothing else
abbrev pub SoundTraces : Type 0
SoundTraces = (s : List ℕ) → Octets s → Sound s ↔ ((b : Begins s) × (b.rest ≡ []))

-- and every other one is such records and then, at once, a wrong one
abbrev pub OtherTraces : Type 0
OtherTraces = (s : List ℕ) → Octets s → (Sound s → ⊥) → (b : Begins s) × (f : Fault) × (found_in b.rest ≡ Wrong f)

-- REPLAYED

-- W208-10: what the calls of a trace answer and leave, made directly, is what its replay answers and leaves; the record that ended it is
-- the one after them
abbrev pub made_directly : (lend : ℕ → List ℕ) (trace t : List ℕ) → Run
made_directly lend trace t = record {
  answers = answers step_numbers (calls_in lend trace) t;
  number = suc (length (calls_in lend trace));
  stop = (listing 1 lend trace).stop;
  table = after step_numbers (calls_in lend trace) t;
}

abbrev pub Replays : Type 0
Replays = (lend : ℕ → List ℕ) (trace t : List ℕ) → replay lend trace t ≡ made_directly lend trace t

-- W208-12: two traces joined, the first of them sound. The calls are those of the first and then those of the second, whose numbers go on; the
-- second's end is that of both; and the table is the one that the second's own replay leaves on the table that the first left
pub record Joining (lend : ℕ → List ℕ) (s u t : List ℕ) : Type 0 where
  pub calls : calls_in lend (s ++ u) ≡ calls_in lend s ++ (listing (suc (length (calls_in lend s))) lend u).calls
  pub stop : (listing 1 lend (s ++ u)).stop ≡ (listing 1 lend u).stop
  pub table : (replay lend (s ++ u) t).table ≡ (replay (λ k. lend (length (calls_in lend s) + k)) u (replay lend s t).table).table

abbrev pub JoinedTraces : Type 0
JoinedTraces = (lend : ℕ → List ℕ) (s u t : List ℕ) → Octets s → Sound s → Joining lend s u t

-- so that two sound traces are a sound one
abbrev pub SoundJoined : Type 0
SoundJoined = (s u : List ℕ) → Octets s → Sound s → Sound u → Sound (s ++ u)

-- W208-11: where a wrong record follows a sound trace, the calls before it are made and none after it, and it is named by its number, the
-- one that the next record of the sound trace would have
abbrev pub WrongRecord : Type 0
WrongRecord = (lend : ℕ → List ℕ) (s rest t : List ℕ) (f : Fault) → Octets s → Sound s → found_in rest ≡ Wrong f
    → replay lend (s ++ rest) t ≡ record {
      answers = (replay lend s t).answers;
      number = (replay lend s t).number;
      stop = Wrong f;
      table = (replay lend s t).table;
    }

-- W208-14: what a record in the octets that were read already answers and leaves is what it does in the whole trace, whatever that has behind
-- them; only the end, or a cut record, may be otherwise there. So a program may replay a trace that it reads piece by piece
abbrev pub ReadInPieces : Type 0
ReadInPieces = (s u : List ℕ) (at : ℕ) (out t : List ℕ) → Octets s → (found_in (drop at s) ≡ End → ⊥) → (found_in (drop at s) ≡ Wrong Cut → ⊥)
    → replay_at (s ++ u) at out t ≡ replay_at s at out t

-- DEMAND 3 OF A REPLAY

-- D-3, W208-15: all that holds of a list of calls holds of those of a trace, reorderings too; and after a replay on a cleared table each
-- filter octet of an open association is what the trace's own records and their answers say
pub record Demand3Replayed (lend : ℕ → List ℕ) (trace t : List ℕ) : Type 0 where
  pub demand3 : client.Claim step_numbers t (calls_in lend trace)
  pub filters : (a : ℕ) → a < 16 → (o : Opened) → client.place_after (calls_in lend trace) a ≡ opened o → (i : ℕ) → i < 512
      → filter_octet a i (replay lend trace (client.cleared t)).table
      ≡ observed_octet a i (watched step_numbers (calls_in lend trace) (client.cleared t) [])

abbrev pub ReplaysDemand3 : Type 0
ReplaysDemand3 = (lend : ℕ → List ℕ) → ((k : ℕ) → Octets (lend k)) → (trace t : List ℕ) → Octets trace → length t ≡ table_size
    → Demand3Replayed lend trace t
