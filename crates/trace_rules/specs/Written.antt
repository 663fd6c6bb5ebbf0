-- A record as it is written, W208-1 to W208-5, and the octets of a row of them.
use Rattle.std.specs.Prelude.{cond, List, [], ◌∷◌, ◌++◌, ℕ, suc, ◌<◌, ◌^◌, length}
use Rattle.std.specs.Int.{w8}
use Rattle.std.proofs.Common.{of_z, SFits}
use Rattle.octets.specs.Number.{Octets}
use Rattle.octets.specs.Piece.{Piece, piece, spelled}
use Rattle.order.specs.Order.{TaggedCall, Every}
use Rattle.client_rules.specs.Call.{Call}
use Rattle.trace_rules.specs.Record.{mark, action_call}
use Rattle.trace_rules.specs.declared.Action.{Action}
use Rattle.trace_rules.specs.declared.Action.TheVariants.{Open, Poll, Sent, Receive, Close}

-- `time` stands in the records whose time is not looked at, and `datagram` in those of a receive
pub record Entry : Type 0 where
  pub association : ℕ
  pub action : Action
  pub time : ℕ
  pub datagram : List ℕ

-- W208-3
abbrev pub kind_of : Action → ℕ
kind_of (Open edition timescale c) = 1
kind_of (Poll cookie exponent interleaved) = 2
kind_of (Sent t1) = 3
kind_of (Receive t4) = 4
kind_of Close = 5

-- W208-5
abbrev pub time_field : (time : ℕ) → Action → ℕ
time_field time (Open edition timescale c) = time
time_field time (Poll cookie exponent interleaved) = time
time_field time (Sent t1) = t1
time_field time (Receive t4) = t4
time_field time Close = time

-- W208-4
abbrev pub data_of : (datagram : List ℕ) → Action → List ℕ
data_of datagram (Open edition timescale c) = spelled (piece 1 edition ∷ piece 1 timescale ∷ piece 2 c ∷ [])
data_of datagram (Poll cookie exponent interleaved) = spelled (piece 8 cookie.0 ∷ piece 1 (of_z w8 exponent) ∷ piece 1 (cond interleaved 1 0) ∷ [])
data_of datagram (Sent t1) = []
data_of datagram (Receive t4) = datagram
data_of datagram Close = []

-- W208-1, W208-2
abbrev pub head_pieces : (association time : ℕ) (size : ℕ) → Action → List Piece
head_pieces a time size action = piece 2 mark ∷ piece 1 (kind_of action) ∷ piece 1 a ∷ piece 2 size ∷ piece 8 (time_field time action) ∷ []

abbrev pub entry_data : Entry → List ℕ
entry_data e = data_of e.datagram e.action

abbrev pub entry_octets : Entry → List ℕ
entry_octets e = spelled (head_pieces e.association e.time (length (entry_data e)) e.action) ++ entry_data e

unfoldable pub trace_octets : List Entry → List ℕ
trace_octets [] = []
trace_octets (e ∷ es) = entry_octets e ++ trace_octets es

-- the numbers of a call are of their types
abbrev pub ActionFits : Action → Type 0
ActionFits (Open edition timescale c) = (edition < 2 ^ 8) × (timescale < 2 ^ 8) × (c < 2 ^ 16)
ActionFits (Poll cookie exponent interleaved) = (cookie.0 < 2 ^ 64) × SFits w8 exponent
ActionFits (Sent t1) = t1 < 2 ^ 64
ActionFits (Receive t4) = t4 < 2 ^ 64
ActionFits Close = Unit {0}

-- and so are those beside it
pub record EntryFits (e : Entry) : Type 0 where
  pub association : e.association < 2 ^ 8
  pub action : ActionFits e.action
  pub time : e.time < 2 ^ 64
  pub datagram : Octets e.datagram
  pub size : length e.datagram < 2 ^ 16

abbrev pub EntriesFit : List Entry → Type 0
EntriesFit es = Every EntryFits es

-- the calls of such records, from number n on; `lend k` is what record k lends, if it is a poll
unfoldable pub entry_calls : (n : ℕ) (lend : ℕ → List ℕ) → List Entry → List (TaggedCall Call)
entry_calls n lend [] = []
entry_calls n lend (e ∷ es) = record { tag = n; call = action_call (lend n) e.datagram e.association e.action } ∷ entry_calls (suc n) lend es
