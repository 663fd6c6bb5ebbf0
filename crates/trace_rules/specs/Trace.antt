-- The calls that a trace is, W208-8, and whether it is sound, W208-9.
use Rattle.std.specs.Prelude.{◌≡◌, List, [], ◌∷◌, ℕ, zero, suc, length}
use Rattle.order.specs.Order.{TaggedCall}
use Rattle.client_rules.specs.Call as calls
use Rattle.trace_rules.specs.Record.{found_in, rest_after, record_call}
use Rattle.trace_rules.specs.declared.Found.{Found}
use Rattle.trace_rules.specs.declared.Found.TheVariants.{Call, End, Wrong}

-- the calls of a trace up to its end or its first wrong record, each tagged with its record's number, and which of the two it was
pub record Listing : Type 0 where
  pub calls : List (TaggedCall calls.Call)
  pub stop : Found

-- W208-11: a wrong record ends the trace
abbrev pub on_found : (n : ℕ) (lend : ℕ → List ℕ) (s : List ℕ) → Found → (List ℕ → Listing) → Listing
on_found n lend s (Call r) rest =
    record { calls = record { tag = n; call = record_call (lend n) s r } ∷ (rest (rest_after s r)).calls; stop = (rest (rest_after s r)).stop }
on_found n lend s End rest = record { calls = []; stop = End }
on_found n lend s (Wrong f) rest = record { calls = []; stop = Wrong f }

-- at most `turns` records
unfoldable pub list_for : (turns n : ℕ) (lend : ℕ → List ℕ) → List ℕ → Listing
list_for zero n lend s = record { calls = []; stop = End }
list_for (suc turns) n lend s = on_found n lend s (found_in s) (list_for turns (suc n) lend)

-- the records of s, from number n on; `lend k` is what record k lends, if it is a poll. A record has octets, so that as many turns as s has
-- octets are enough
unfoldable pub listing : (n : ℕ) (lend : ℕ → List ℕ) → List ℕ → Listing
listing n lend s = list_for (length s) n lend s

-- W208-8: the calls that a trace is
abbrev pub calls_in : (lend : ℕ → List ℕ) → List ℕ → List (TaggedCall calls.Call)
calls_in lend s = (listing 1 lend s).calls

-- W208-9: without a wrong record. What is lent plays no part
abbrev pub Sound : List ℕ → Type 0
Sound s = (listing 1 (λ k. []) s).stop ≡ End
