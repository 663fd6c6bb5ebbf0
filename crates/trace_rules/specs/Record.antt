-- A record of a trace, W208-1 to W208-6: what is found at the start of a trace, and the call that it is.
use Rattle.std.specs.Prelude.{Bool, cond, not, ◌&&◌, List, ℕ, ◌+◌, eqb, ltb, length, take, drop}
use Rattle.std.specs.Int.{w8}
use Rattle.std.proofs.Common.{to_z}
use Rattle.octets.specs.Number.{num}
use Rattle.client_rules.specs.Call as calls
use Rattle.client_rules.specs.Call.{Answer}
use Rattle.trace_rules.specs.declared.Action.{Action}
use Rattle.trace_rules.specs.declared.Action.TheVariants.{Open, Poll, Sent, Receive, Close}
use Rattle.trace_rules.specs.declared.Record.{Record}
use Rattle.trace_rules.specs.declared.Fault.TheVariants.{Mark, Kind, Length, Cut}
use Rattle.trace_rules.specs.declared.Found.{Found}
use Rattle.trace_rules.specs.declared.Found.TheVariants.{Call, End, Wrong}

-- W208-1: the two octets that lead a record
abbrev pub mark : ℕ
mark = 0x4E35

-- W208-2: what stands before the data
abbrev pub head_length : ℕ
head_length = 14

-- W208-3: 1 open, 2 poll, 3 sent, 4 receive, 5 close
abbrev pub is_kind : ℕ → Bool
is_kind kind = ltb 0 kind && ltb kind 6

-- W208-4: how many octets the data of a kind has, where `size` of them are said: receive's has any number
abbrev pub data_size : (kind size : ℕ) → ℕ
data_size kind size = cond (eqb kind 1) 4 (cond (eqb kind 2) 10 (cond (eqb kind 4) size 0))

-- W208-4: a poll's mode that is neither 0 nor 1
abbrev pub wrong_mode : (kind : ℕ) → List ℕ → Bool
wrong_mode kind s = eqb kind 2 && ltb 1 (num s 23 1)

-- W208-4, W208-5: the call of a kind. The time is T1 or T4, else not looked at
abbrev pub action_of : (kind : ℕ) → List ℕ → Action
action_of kind s =
    cond (eqb kind 1) (Open (num s 14 1) (num s 15 1) (num s 16 2))
    (cond (eqb kind 2) (Poll (record { 0 = num s 14 8 }) (to_z w8 (num s 22 1)) (eqb (num s 23 1) 1))
    (cond (eqb kind 3) (Sent (num s 6 8))
    (cond (eqb kind 4) (Receive (num s 6 8))
    Close)))

-- W208-6, W208-7: the first fault of a record whose head is there and has the mark, or its call
abbrev pub found_of_kind : (kind size : ℕ) → List ℕ → Found
found_of_kind kind size s =
    cond (not (is_kind kind)) (Wrong Kind)
    (cond (not (eqb size (data_size kind size))) (Wrong Length)
    (cond (ltb (length s) (head_length + size)) (Wrong Cut)
    (cond (wrong_mode kind s) (Wrong Kind)
    (Call (record { association = num s 3 1; action = action_of kind s; size = size })))))

-- W208-2, W208-6, W208-7: what a trace begins with
unfoldable pub found_in : List ℕ → Found
found_in s =
    cond (eqb (length s) 0) End
    (cond (ltb (length s) head_length) (Wrong Cut)
    (cond (not (eqb (num s 0 2) mark)) (Wrong Mark)
    (found_of_kind (num s 2 1) (num s 4 2) s)))

-- the data of the record that s begins with, and what follows it
abbrev pub data_in : List ℕ → Record → List ℕ
data_in s r = take r.size (drop head_length s)

abbrev pub rest_after : List ℕ → Record → List ℕ
rest_after s r = drop (head_length + r.size) s

-- W208-4: the call, where a poll is lent `out`
abbrev pub action_call : (out datagram : List ℕ) (association : ℕ) → Action → calls.Call
action_call out datagram a (Open edition timescale c) = calls.open_one a edition timescale c
action_call out datagram a (Poll cookie exponent interleaved) = calls.poll a cookie.0 exponent interleaved out
action_call out datagram a (Sent t1) = calls.sent a t1
action_call out datagram a (Receive t4) = calls.receive a datagram t4
action_call out datagram a Close = calls.close_one a

-- of the record that s begins with
abbrev pub record_call : (out s : List ℕ) → Record → calls.Call
record_call out s r = action_call out (data_in s r) r.association r.action

-- the output buffer after a call that answered w: only a poll is lent it
abbrev pub lent_after : (out : List ℕ) → Action → Answer → List ℕ
lent_after out (Open edition timescale c) w = out
lent_after out (Poll cookie exponent interleaved) w = w.out
lent_after out (Sent t1) w = out
lent_after out (Receive t4) w = out
lent_after out Close w = out
