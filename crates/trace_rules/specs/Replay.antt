-- The replay of a trace on a table, W208-10: one record at a place, and records one after another.
use Rattle.std.specs.Prelude.{List, [], ◌∷◌, ℕ, zero, suc, ◌+◌, length, drop}
use Rattle.order.specs.Order.{TaggedAnswer}
use Rattle.client_rules.specs.Call.{Answer, plain_answer}
use Rattle.client_rules.specs.Numbers.{step_numbers}
use Rattle.trace_rules.specs.Record.{head_length, found_in, data_in, action_call, lent_after}
use Rattle.trace_rules.specs.declared.Record.{Record}
use Rattle.trace_rules.specs.declared.Found.{Found}
use Rattle.trace_rules.specs.declared.Found.TheVariants.{Call, End, Wrong}

-- what is found at a place, where the next record begins, what its call answers, and what it leaves
pub record Replayed : Type 0 where
  pub found : Found
  pub next : ℕ
  pub answer : Answer
  pub out : List ℕ
  pub table : List ℕ

-- a place where no call is made
abbrev pub not_made : Found → (at : ℕ) (out t : List ℕ) → Replayed
not_made f at out t = record { found = f; next = at; answer = plain_answer 0 []; out = out; table = t }

-- a record's call, with its datagram and the place after it
abbrev pub made_by : Record → (datagram : List ℕ) (next : ℕ) (out t : List ℕ) → Replayed
made_by r datagram next out t = record {
  found = Call r;
  next = next;
  answer = (step_numbers (action_call out datagram r.association r.action) t).0;
  out = lent_after out r.action (step_numbers (action_call out datagram r.association r.action) t).0;
  table = (step_numbers (action_call out datagram r.association r.action) t).1;
}

-- the call of what s begins with
abbrev pub replay_found : (s : List ℕ) → Found → (at : ℕ) (out t : List ℕ) → Replayed
replay_found s (Call r) at out t = made_by r (data_in s r) (at + (head_length + r.size)) out t
replay_found s End at out t = not_made End at out t
replay_found s (Wrong f) at out t = not_made (Wrong f) at out t

-- one record, at a place; past the end there is none
unfoldable pub replay_at : (trace : List ℕ) (at : ℕ) (out t : List ℕ) → Replayed
replay_at trace at out t = replay_found (drop at trace) (found_in (drop at trace)) at out t

-- W208-10, W208-11: what records answered, the number of the record that ended them or would be next, what that was, and the table that
-- is left
pub record Run : Type 0 where
  pub answers : List (TaggedAnswer Answer)
  pub number : ℕ
  pub stop : Found
  pub table : List ℕ

abbrev pub stopped : (n : ℕ) → Found → (t : List ℕ) → Run
stopped n f t = record { answers = []; number = n; stop = f; table = t }

abbrev pub on_replayed : (n : ℕ) → Found → Replayed → ((next : ℕ) (t : List ℕ) → Run) → Run
on_replayed n (Call r) p rest = record {
  answers = record { tag = n; answer = p.answer } ∷ (rest p.next p.table).answers;
  number = (rest p.next p.table).number;
  stop = (rest p.next p.table).stop;
  table = (rest p.next p.table).table;
}
on_replayed n End p rest = stopped n End p.table
on_replayed n (Wrong f) p rest = stopped n (Wrong f) p.table

-- record n at a place, and those after it, at most `turns`; `lend k` is what record k lends
unfoldable pub replay_for : (turns n : ℕ) (lend : ℕ → List ℕ) (trace : List ℕ) (at : ℕ) (t : List ℕ) → Run
replay_for zero n lend trace at t = stopped n End t
replay_for (suc turns) n lend trace at t =
    on_replayed n (replay_at trace at (lend n) t).found (replay_at trace at (lend n) t) (replay_for turns (suc n) lend trace)

-- W208-11: a whole trace, from its first record on, number 1
unfoldable pub replay : (lend : ℕ → List ℕ) (trace : List ℕ) (t : List ℕ) → Run
replay lend trace t = replay_for (length trace) 1 lend trace 0 t
