-- `ntp5_replay` meets its contract: what is found at the place is the rules', and so is its call. Assumes nothing.
use mathlib.Core.Path.{◌≡◌, sym, ap, ◌∙◌}
use mathlib.Core.List.{List}
use Prim.Native.Nat.{ℕ, ◌+◌, ◌-◌, ◌≤◌}
use native.Mathlib.Omega.{arith}
use lib.ListN.{length, take, drop, length-take, length-drop}
use Rattle.octets.proofs.Parts.{take_rest}
use Rattle.trace_rules.specs.Record.{head_length, found_in}
use Rattle.trace_rules.specs.Replay.{made_by}
use Rattle.trace_rules.specs.declared.Found.{Found}
use Rattle.trace_rules.specs.declared.Found.TheVariants.{Call, End}
use Rattle.trace_rules.specs.declared.Record.{Record}
use Rattle.trace_rules.proofs.Faults.{end-no-call, call-room}
use Rattle.c_structs.specs.Replayed.{replay_left}
use Rattle.ntp5.proofs.Replaying.{call-made, none_made, past_end}
use Rattle.ntp5.proofs.trace_calls.ntp5_replay.Goals as goal
use Rattle.ntp5.proofs.trace_calls.ntp5_replay.Goals.{In-Call}

pub returns-then-trace-at : goal.returns-then-trace-at
returns-then-trace-at c =
    let a = c.args in
    none_made a.trace.now a.at a.out.now a.table.now End _ (past_end a.trace.now a.at c.if-trace-at.true) (λ r. end-no-call) c.not_made.ensures

module _ (trace : List ℕ) (at : ℕ) (f : Found) (e : f ≡ found_in (take (length trace - at) (drop at trace))) where
  -- what is found, in the trace from the place on
  found : found_in (drop at trace) ≡ f
  found = sym (e ∙ ap found_in (take_rest trace at))

  -- the record that was found is there whole
  room : (r : Record) → at ≤ length trace → f ≡ Call r → at + (head_length + r.size) ≤ length trace
  room r l q = omega (arith, call-room _ _ (found ∙ q), length-drop at trace)

pub returns-in_default : goal.returns-in_default
returns-in_default c =
    let a = c.args in
    none_made a.trace.now a.at a.out.now a.table.now c.read-found.result _ (found a.trace.now a.at _ c.read-found.ensures) c.in_default.not-Call c.not_made-in_default.ensures

-- so is the record whose call is made
room-here : (c : In-Call) → c.args.at + (head_length + c.in-Call.record.size) ≤ length c.args.trace.now
room-here c = room c.args.trace.now c.args.at _ c.read-found.ensures c.in-Call.record (omega (arith, c.if-trace-at.false)) c.in-Call.is

pub overflow_add-end : goal.overflow_add-end
overflow_add-end c = record { fits = omega (arith, room-here (goal.at.overflow_add-end c).In-Call) }

pub overflow_add-next : goal.overflow_add-next
overflow_add-next c = record { fits = omega (arith, room-here (goal.at.overflow_add-next c).In-Call) }

pub slice_bounds-make-end : goal.slice_bounds-make-end
slice_bounds-make-end c =
    simp (length-take, length-drop) (omega (arith, room-here (goal.at.slice_bounds-make-end c).In-Call))

pub returns : goal.returns
returns c =
    let a = c.args in
    let r = c.in-Call.record in
    let n : head_length + r.size - head_length ≡ r.size = omega arith in
    call-made a.trace.now a.at a.out.now a.table.now r _ (found a.trace.now a.at _ c.read-found.ensures ∙ c.in-Call.is)
    (c.make.ensures
    ∙ ap (λ (d : List ℕ). replay_left (made_by r d (a.at + (head_length + r.size)) a.out.now a.table.now))
    (ap (λ (s : List ℕ). take (head_length + r.size - head_length) (drop head_length s)) (take_rest a.trace.now a.at)
    ∙ ap (λ (k : ℕ). take k (drop head_length (drop a.at a.trace.now))) n))
