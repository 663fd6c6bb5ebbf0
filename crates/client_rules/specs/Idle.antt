-- The idle programs (P-4) of the client, P-5, P-6 and P-8: the claim that the rule names is false of each.
use Rattle.std.specs.Prelude.{◌≡◌, cond, List, ◌++◌, ℕ, eqb, take, drop}
use Rattle.association.specs.Record.{head_of, head_size}
use Rattle.order.specs.Order.{TaggedCall, answers}
use Rattle.client_rules.specs.Call.{Call, clear_table, open_one, close_one, poll, sent, receive, loop_verdict, publish, plain_answer}
use Rattle.client_rules.specs.Numbers.{part, put_part, step_numbers}
use Rattle.client_rules.specs.Claim.{Client, cleared_by, cleared, reached_by, reached, Reordered, Filters, ForEveryList, Demand3For, NothingLostFor, Demand2For, PublicationsFor, FirstPollFor}
use Rattle.client_rules.specs.Refused.{lent, RefusalsFor}

-- P-5: refuses everything; and every client that does, whatever else it answers and leaves
abbrev pub refuses_all : Client
refuses_all c t = (plain_answer 6 (lent c), t)

abbrev pub RefusesAll : Client → Type 0
RefusesAll step = (c : Call) (t : List ℕ) → (step c t).0.refusal ≡ 0 → ⊥

-- P-6: does nothing, and answers success; and every client that stores nothing, or writes nothing, whatever else it does
abbrev pub does_nothing : Client
does_nothing c t = (plain_answer 0 (lent c), t)

abbrev pub StoresNothing : Client → Type 0
StoresNothing step = (c : Call) (t : List ℕ) → (step c t).1 ≡ t

abbrev pub WritesNothing : Client → Type 0
WritesNothing step = (c : Call) (t : List ℕ) → (step c t).0.out ≡ lent c

-- P-8: places only the first chunk: the numbers u, with the filter that a had in t, where a chunk had been taken
unfoldable pub with_filter : ℕ → List ℕ → List ℕ → List ℕ
with_filter a t u = put_part a u (take head_size (part a u) ++ drop head_size (part a t))

abbrev pub first_placed : Call → List ℕ → List ℕ → List ℕ
first_placed clear_table t u = u
first_placed (open_one a edition timescale c) t u = u
first_placed (close_one a) t u = u
first_placed (poll a cookie exponent interleaved out) t u = u
first_placed (sent a t1) t u = u
first_placed (receive a datagram t4) t u = cond (eqb (head_of (part a t)).taken 0) u (with_filter a t u)
first_placed (loop_verdict a id) t u = u
first_placed (publish selected id out) t u = u

-- ours but for that: it answers what ours answers, so that a later chunk is answered as taken, and counted
abbrev pub places_first : Client
places_first c t = ((step_numbers c t).0, first_placed c t (step_numbers c t).1)

pub record IdleRejected : Type 0 where
  -- demand 2's acceptance and the whole first poll, M-13
  pub refusing : Demand2For refuses_all → ⊥
  pub refusing-poll : FirstPollFor refuses_all → ⊥
  pub idling : Demand2For does_nothing → ⊥
  pub idling-poll : FirstPollFor does_nothing → ⊥
  -- of every client of these kinds
  pub all-refusing : (step : Client) → RefusesAll step → Demand2For step → ⊥
  pub all-refusing-poll : (step : Client) → RefusesAll step → FirstPollFor step → ⊥
  pub all-storing-nothing : (step : Client) → StoresNothing step → Demand2For step → ⊥
  pub all-writing-nothing : (step : Client) → WritesNothing step → FirstPollFor step → ⊥
  -- demand 3, by its filter octets alone
  pub placing-first : ForEveryList (Filters places_first) → ⊥
  pub placing-first-whole : Demand3For places_first → ⊥
  -- nothing lost
  pub losing-all : (step : Client) → StoresNothing step → NothingLostFor step → ⊥

-- what holds of a client that refuses everything, and so says too little alone
pub record HoldsOfRefusing : Type 0 where
  pub reordered : ForEveryList (Reordered refuses_all)
  pub refusals : RefusalsFor refuses_all
  pub publications : PublicationsFor refuses_all

-- P-10: demand 3 holds of no other client than ours: one that keeps it answers and leaves, after every list of calls, what ours does
pub record SameAsOurs (step : Client) (t : List ℕ) (cs : List (TaggedCall Call)) : Type 0 where
  pub same-answers : answers step cs (cleared_by step t) ≡ answers step_numbers cs (cleared t)
  pub same_end : reached_by step t cs ≡ reached t cs

abbrev pub OursAlone : Type 0
OursAlone = (step : Client) → Demand3For step → ForEveryList (SameAsOurs step)
