-- Demand 3 of a replay: the calls of a trace are of their types, and no two have one number. Assumes nothing.
use mathlib.Core.Path.{◌≡◌, refl, ap, ◌∙◌}
use mathlib.Core.List.{List, [], ◌∷◌}
use Prim.Native.Nat.{ℕ, zero, suc, ◌+◌, ◌<◌, ◌≤◌, ◌^◌}
use native.Mathlib.Omega.{arith}
use lib.ListN.{length}
use Rattle.octets.specs.Number.{Octets}
use Rattle.octets.proofs.Written.{drop-octets}
use Rattle.order.specs.Order.{TaggedCall, Every, EveryCall, Fresh, Distinct}
use Rattle.client_rules.specs.Call as calls
use Rattle.client_rules.specs.Call.{Typed}
use Rattle.client_rules.specs.Numbers.{filter_octet}
use Rattle.client_rules.specs.Claim.{cleared}
use Rattle.client_rules.proofs.Demand3.{demand3}
use Rattle.trace_rules.specs.Record.{found_in, data_in, rest_after, action_call}
use Rattle.trace_rules.specs.Written.{ActionFits}
use Rattle.trace_rules.specs.Trace.{on_found, list_for, listing, calls_in}
use Rattle.trace_rules.specs.Replay.{Run}
use Rattle.trace_rules.specs.Claim.{ReplaysDemand3}
use Rattle.trace_rules.specs.declared.Action.{Action}
use Rattle.trace_rules.specs.declared.Action.TheVariants.{Open, Poll, Sent, Receive, Close}
use Rattle.trace_rules.specs.declared.Found.{Found}
use Rattle.trace_rules.specs.declared.Found.TheVariants.{Call, End, Wrong}
use Rattle.trace_rules.proofs.Recorded.{found-recorded}
use Rattle.trace_rules.proofs.Replays.{replays}

typed : (out d : List ℕ) (a : ℕ) (action : Action) → Octets out → Octets d → a < 2 ^ 8 → ActionFits action → Typed (action_call out d a action)
typed out d a (Open edition timescale c) o b l f = (l, f.0, f.1, f.2)
typed out d a (Poll cookie exponent interleaved) o b l f = (l, f.0, f.1, o)
typed out d a (Sent t1) o b l f = (l, f)
typed out d a (Receive t4) o b l f = (l, b, f)
typed out d a Close o b l f = l

module _ (lend : ℕ → List ℕ) (lent : (k : ℕ) → Octets (lend k)) where
  all_typed : (m n : ℕ) (s : List ℕ) → Octets s → EveryCall Typed (list_for m n lend s).calls
  unfolding list_for
  all_typed zero n s b = tt
  all_typed (suc m) n s b = go (found_in s) refl (λ u c. all_typed m (suc n) u c)
    where
      go : (f : Found) → found_in s ≡ f → ((u : List ℕ) → Octets u → EveryCall Typed (list_for m (suc n) lend u).calls)
          → EveryCall Typed (on_found n lend s f (list_for m (suc n) lend)).calls
      go (Call r) e h =
          let own = found-recorded s r b e in
          let fit = own.fit in
          (typed (lend n) (data_in s r) r.association r.action (lent n) fit.datagram fit.association fit.action, h (rest_after s r) (drop-octets (14 + r.size) s b))
      go End e h = tt
      go (Wrong f) e h = tt

-- numbers from k on
abbrev From : ℕ → List (TaggedCall calls.Call) → Type 0
From k cs = Every (λ x. k ≤ x.tag) cs

from-fresh : (k : ℕ) (cs : List (TaggedCall calls.Call)) → From (suc k) cs → Fresh k cs
from-fresh k [] f = tt
from-fresh k (x ∷ cs) f = (λ e. omega (arith, f.0), from-fresh k cs f.1)

from_less : (k : ℕ) (cs : List (TaggedCall calls.Call)) → From (suc k) cs → From k cs
from_less k [] f = tt
from_less k (x ∷ cs) f = (omega (arith, f.0), from_less k cs f.1)

module _ (lend : ℕ → List ℕ) where
  numbers : (m n : ℕ) (s : List ℕ) → From n (list_for m n lend s).calls
  unfolding list_for
  numbers zero n s = tt
  numbers (suc m) n s = go (found_in s) (λ u. numbers m (suc n) u)
    where
      go : (f : Found) → ((u : List ℕ) → From (suc n) (list_for m (suc n) lend u).calls) → From n (on_found n lend s f (list_for m (suc n) lend)).calls
      go (Call r) h = (omega arith, from_less n (list_for m (suc n) lend (rest_after s r)).calls (h (rest_after s r)))
      go End h = tt
      go (Wrong f) h = tt

  distinct : (m n : ℕ) (s : List ℕ) → Distinct (list_for m n lend s).calls
  unfolding list_for
  distinct zero n s = tt
  distinct (suc m) n s = go (found_in s) (λ u. distinct m (suc n) u)
    where
      go : (f : Found) → ((u : List ℕ) → Distinct (list_for m (suc n) lend u).calls) → Distinct (on_found n lend s f (list_for m (suc n) lend)).calls
      go (Call r) h = (from-fresh n (list_for m (suc n) lend (rest_after s r)).calls (numbers m (suc n) (rest_after s r)), h (rest_after s r))
      go End h = tt
      go (Wrong f) h = tt

pub replays-demand3 : ReplaysDemand3
unfolding listing
replays-demand3 lend lent trace t b size =
    let w = demand3 t size (calls_in lend trace) (all_typed lend lent (length trace) 1 trace b) (distinct lend (length trace) 1 trace) in
    record {
      demand3 = w;
      filters = λ a l o e i h. ap (λ (x : Run). filter_octet a i x.table) (replays lend trace (cleared t)) ∙ w.filters a l o e i h;
    }
