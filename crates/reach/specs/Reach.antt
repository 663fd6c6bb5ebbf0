-- N-13: a head is in range exactly if calls on a cleared table lead to it.
use Rattle.std.specs.Prelude.{◌≡◌, true, List, ℕ, ◌<◌, length}
use Rattle.state.specs.Range.{in_range}
use Rattle.state.specs.Numbers.{HeadFits}
use Rattle.state.specs.declared.head.Head.{Head}
use Rattle.association.specs.Record.{head_of}
use Rattle.order.specs.Order.{TaggedCall, EveryCall}
use Rattle.client_rules.specs.Call.{Call, Typed}
use Rattle.client_rules.specs.Numbers.{table_size, part}
use Rattle.client_rules.specs.Claim.{reached}

-- the head of an association after calls
abbrev pub head_after : List ℕ → List (TaggedCall Call) → ℕ → Head
head_after t cs a = head_of (part a (reached t cs))

-- calls lead only to heads in range
abbrev pub OnlyInRange : Type 0
OnlyInRange = (t : List ℕ) → length t ≡ table_size → (cs : List (TaggedCall Call)) → EveryCall Typed cs → (a : ℕ) → a < 16 → in_range (head_after t cs a) ≡ true

-- calls that lead association a of any table to this head
pub record LeadsTo (a : ℕ) (h : Head) : Type 0 where
  pub calls : List (TaggedCall Call)
  pub typed : EveryCall Typed calls
  pub leads : (t : List ℕ) → length t ≡ table_size → head_after t calls a ≡ h

-- and to every one whose numbers have 64 bits, as those of a record have
abbrev pub EveryInRange : Type 0
EveryInRange = (a : ℕ) → a < 16 → (h : Head) → HeadFits h → in_range h ≡ true → LeadsTo a h
