-- A record as it is written is found as its call, and a call that is found is a record as it is written. Assumes nothing.
use mathlib.Core.Path.{◌≡◌, refl, ap, ◌∙◌}
use mathlib.Core.Bool.{Bool, true, false, cond}
use mathlib.Core.List.{List, ◌++◌, append_assoc}
use Prim.Native.Nat.{ℕ, ◌+◌, ◌<◌, ◌^◌}
use native.Mathlib.Omega.{arith}
use lib.Dec.{eqb, ltb}
use lib.ListN.{length, length-append}
use lib.Seq.{take_at, drop_at}
use mir.Syntax.{w8}
use mir.Val.{to_z, of_z}
use mir.Facts.{to_z-of_z, Fits-of_z}
use Rattle.octets.specs.Number.{num, octets}
use Rattle.octets.specs.Piece.{spelled}
use Rattle.octets.proofs.Numbers.{num-octets}
use Rattle.octets.proofs.Parts.{drop_past}
use Rattle.trace_rules.specs.Record.{mark, head_length, is_kind, data_size, wrong_mode, action_of, found_in, data_in, rest_after}
use Rattle.trace_rules.specs.Written.{Entry, kind_of, time_field, data_of, head_pieces, entry_data, entry_octets, ActionFits, EntryFits}
use Rattle.trace_rules.specs.declared.Action.{Action}
use Rattle.trace_rules.specs.declared.Action.TheVariants.{Open, Poll, Sent, Receive, Close}
use Rattle.trace_rules.specs.declared.Record.{Record}
use Rattle.trace_rules.specs.declared.Found.TheVariants.{Call}
use Rattle.trace_rules.proofs.Faults.{Faultless, at_call}

-- ---- written and found

kind-small : (action : Action) → kind_of action < 256
kind-small (Open edition timescale c) = omega arith
kind-small (Poll cookie exponent interleaved) = omega arith
kind-small (Sent t1) = omega arith
kind-small (Receive t4) = omega arith
kind-small Close = omega arith

time-small : (time : ℕ) (action : Action) → time < 2 ^ 64 → ActionFits action → time_field time action < 256 ^ 8
time-small time (Open edition timescale c) t f = t
time-small time (Poll cookie exponent interleaved) t f = t
time-small time (Sent t1) t f = f
time-small time (Receive t4) t f = f
time-small time Close t f = t

-- the numbers of a head that was written
module _ (a time size : ℕ) (action : Action) (q : List ℕ) where
  abbrev headed : List ℕ
  headed = spelled (head_pieces a time size action) ++ q

  pub length-headed : length headed ≡ head_length + length q
  unfolding spelled octets
  length-headed = omega arith

  pub head-mark : num headed 0 2 ≡ mark
  unfolding spelled octets num
  head-mark = refl

  pub head-kind : num headed 2 1 ≡ kind_of action
  unfolding spelled octets num
  head-kind = num-octets 1 (kind_of action) (kind-small action)

  pub head-association : a < 2 ^ 8 → num headed 3 1 ≡ a
  unfolding spelled octets num
  head-association h = num-octets 1 a h

  pub head-size : size < 2 ^ 16 → num headed 4 2 ≡ size
  unfolding spelled octets num
  head-size h = num-octets 2 size h

  pub head-time : time_field time action < 256 ^ 8 → num headed 6 8 ≡ time_field time action
  unfolding spelled octets num
  head-time h = num-octets 8 (time_field time action) h

mode-back : (b : Bool) → eqb (cond b 1 0) 1 ≡ b
mode-back true = refl
mode-back false = refl

mode_small : (b : Bool) → cond b 1 0 < 256
mode_small true = omega arith
mode_small false = omega arith

mode-right : (b : Bool) → ltb 1 (cond b 1 0) ≡ false
mode-right true = refl
mode-right false = refl

-- what its data says
action-back : (a time : ℕ) (d : List ℕ) (action : Action) (u : List ℕ) → time < 2 ^ 64 → ActionFits action
    → action_of (kind_of action) (headed a time (length (data_of d action)) action (data_of d action ++ u)) ≡ action
unfolding spelled octets num
action-back a time d (Open edition timescale c) u t f =
    λ i. Open (num-octets 1 edition f.0 i) (num-octets 1 timescale f.1 i) (num-octets 2 c f.2 i)
action-back a time d (Poll cookie exponent interleaved) u t f =
    let back = ap (to_z w8) (num-octets 1 (of_z w8 exponent) (Fits-of_z f.1).fits) ∙ to_z-of_z f.1 in
    let mode = ap (λ (x : ℕ). eqb x 1) (num-octets 1 (cond interleaved 1 0) (mode_small interleaved)) ∙ mode-back interleaved in
    λ i. Poll (record { 0 = num-octets 8 cookie.0 f.0 i }) (back i) (mode i)
action-back a time d (Sent t1) u t f = λ i. Sent (num-octets 8 t1 f i)
action-back a time d (Receive t4) u t f = λ i. Receive (num-octets 8 t4 f i)
action-back a time d Close u t f = refl

size-right : (d : List ℕ) (action : Action) → length (data_of d action) ≡ data_size (kind_of action) (length (data_of d action))
unfolding spelled octets
size-right d (Open edition timescale c) = refl
size-right d (Poll cookie exponent interleaved) = refl
size-right d (Sent t1) = refl
size-right d (Receive t4) = refl
size-right d Close = refl

size_small : (d : List ℕ) (action : Action) → length d < 2 ^ 16 → length (data_of d action) < 2 ^ 16
unfolding spelled octets
size_small d (Open edition timescale c) h = omega arith
size_small d (Poll cookie exponent interleaved) h = omega arith
size_small d (Sent t1) h = omega arith
size_small d (Receive t4) h = h
size_small d Close h = omega arith

is-kind : (action : Action) → is_kind (kind_of action) ≡ true
is-kind (Open edition timescale c) = refl
is-kind (Poll cookie exponent interleaved) = refl
is-kind (Sent t1) = refl
is-kind (Receive t4) = refl
is-kind Close = refl

is-mode : (a time : ℕ) (d : List ℕ) (action : Action) (u : List ℕ)
    → wrong_mode (kind_of action) (headed a time (length (data_of d action)) action (data_of d action ++ u)) ≡ false
unfolding spelled octets num
is-mode a time d (Open edition timescale c) u = refl
is-mode a time d (Poll cookie exponent interleaved) u =
    ap (λ (x : ℕ). ltb 1 x) (num-octets 1 (cond interleaved 1 0) (mode_small interleaved)) ∙ mode-right interleaved
is-mode a time d (Sent t1) u = refl
is-mode a time d (Receive t4) u = refl
is-mode a time d Close u = refl

-- the record of an entry
abbrev pub entry_record : Entry → Record
entry_record e = record { association = e.association; action = e.action; size = length (entry_data e) }

module _ (e : Entry) (f : EntryFits e) (u : List ℕ) where
  abbrev own : List ℕ
  own = entry_data e

  abbrev written : List ℕ
  written = headed e.association e.time (length own) e.action (own ++ u)

  pub entry-after : entry_octets e ++ u ≡ written
  entry-after = append_assoc (spelled (head_pieces e.association e.time (length own) e.action)) own u

  small : length own < 2 ^ 16
  small = size_small e.datagram e.action f.size

  entry-faultless : Faultless (kind_of e.action) (length own) written
  entry-faultless =
      let long = length-headed e.association e.time (length own) e.action (own ++ u) in
      record {
        room = omega (arith, long, length-append own u);
        marked = head-mark e.association e.time (length own) e.action (own ++ u);
        is-kind = is-kind e.action;
        is-size = size-right e.datagram e.action;
        is-mode = is-mode e.association e.time e.datagram e.action u;
      }

  written-found : found_in written ≡ Call (entry_record e)
  written-found =
      at_call (kind_of e.action) (length own) written
      (head-kind e.association e.time (length own) e.action (own ++ u))
      (head-size e.association e.time (length own) e.action (own ++ u) small)
      entry-faultless
      ∙ (λ i. Call (record {
        association = head-association e.association e.time (length own) e.action (own ++ u) f.association i;
        action = action-back e.association e.time e.datagram e.action u f.time f.action i;
        size = length own;
      }))

  pub entry_found : found_in (entry_octets e ++ u) ≡ Call (entry_record e)
  entry_found = ap found_in entry-after ∙ written-found

  pub entry-data : data_in (entry_octets e ++ u) (entry_record e) ≡ own
  unfolding spelled octets
  entry-data = ap (λ (s : List ℕ). data_in s (entry_record e)) entry-after ∙ take_at own u (length own) refl

  pub entry-rest : rest_after (entry_octets e ++ u) (entry_record e) ≡ u
  unfolding spelled octets
  entry-rest =
      ap (λ (s : List ℕ). rest_after s (entry_record e)) entry-after
      ∙ drop_past (spelled (head_pieces e.association e.time (length own) e.action)) (own ++ u) head_length (length own) refl
      ∙ drop_at own u (length own) refl
