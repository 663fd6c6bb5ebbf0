-- A replayed record as C is given it, W208-13.
use Rattle.std.specs.Prelude.{List, ℕ, pos}
use Rattle.client_rules.specs.Call.{Answer}
use Rattle.trace_rules.specs.Replay as rules
use Rattle.trace_rules.specs.Written.{kind_of}
use Rattle.trace_rules.specs.declared.Record.{Record}
use Rattle.trace_rules.specs.declared.Fault.{Fault}
use Rattle.trace_rules.specs.declared.Fault.TheVariants.{Mark, Kind, Length, Cut}
use Rattle.trace_rules.specs.declared.Found.{Found}
use Rattle.trace_rules.specs.declared.Found.TheVariants.{Call, End, Wrong}
use Rattle.c_structs.specs.declared.replayed.Replayed.{Replayed}

abbrev pub fault_number : Fault → ℕ
fault_number Mark = 2
fault_number Kind = 3
fault_number Length = 4
fault_number Cut = 5

-- where no call was made
abbrev pub not_made_numbers : (state next : ℕ) → Replayed
not_made_numbers state next = record {
  state = state;
  kind = 0;
  association = 0;
  next = next;
  refusal = 0;
  judgement = 0;
  chunk = 0;
  length = 0;
  offset = pos 0;
  delay = 0;
}

-- a call that was made, what it answered, and how many octets it wrote
abbrev pub made_numbers : Record → (next : ℕ) → Answer → (length : ℕ) → Replayed
made_numbers r next w length = record {
  state = 1;
  kind = kind_of r.action;
  association = r.association;
  next = next;
  refusal = w.refusal;
  judgement = w.judgement;
  chunk = w.chunk;
  length = length;
  offset = w.offset;
  delay = w.delay;
}

abbrev pub found_numbers : Found → (next : ℕ) → Answer → Replayed
found_numbers (Call r) next w = made_numbers r next w w.size
found_numbers End next w = not_made_numbers 0 next
found_numbers (Wrong f) next w = not_made_numbers (fault_number f) next

abbrev pub replayed_numbers : rules.Replayed → Replayed
replayed_numbers p = found_numbers p.found p.next p.answer

-- and what the record leaves: the output buffer and the table
abbrev pub replay_left : rules.Replayed → Replayed × List ℕ × List ℕ
replay_left p = (replayed_numbers p, p.out, p.table)
