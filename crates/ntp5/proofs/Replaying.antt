-- A place where a record's call was made, and one where none was. Assumes nothing.
use mathlib.Core.Path.{◌≡◌, refl, sym, ap, ◌∙◌}
use mathlib.Core.List.{List, []}
use Prim.Native.Nat.{ℕ, ◌+◌, ◌≤◌}
use native.Mathlib.Omega.{arith}
use lib.ListN.{length, drop, length-drop}
use Rattle.trace_rules.specs.Record.{head_length, found_in, data_in}
use Rattle.trace_rules.specs.Replay.{not_made, made_by, replay_found, replay_at}
use Rattle.trace_rules.specs.declared.Record.{Record}
use Rattle.trace_rules.specs.declared.Found.{Found}
use Rattle.trace_rules.specs.declared.Found.TheVariants.{Call, End, Wrong}
use Rattle.trace_rules.proofs.Listings.{at-end}
use Rattle.c_structs.specs.Replayed.{replayed_numbers, replay_left}
use Rattle.c_structs.specs.declared.replayed.Replayed.{Replayed}

abbrev Left : Type 0
Left = Replayed × List ℕ × List ℕ

module _ (trace : List ℕ) (at : ℕ) (out t : List ℕ) where
  pub call-made : (r : Record) (w : Left) → found_in (drop at trace) ≡ Call r
      → w ≡ replay_left (made_by r (data_in (drop at trace) r) (at + (head_length + r.size)) out t) → w ≡ replay_left (replay_at trace at out t)
  unfolding replay_at
  call-made r w e m = m ∙ sym (ap (λ (f : Found). replay_left (replay_found (drop at trace) f at out t)) e)

  pub none_made : (f : Found) (r : Replayed) → found_in (drop at trace) ≡ f → ((q : Record) → f ≡ Call q → ⊥) → r ≡ replayed_numbers (not_made f at [] [])
      → ◌≡◌ {A = Left} (r, out, t) (replay_left (replay_at trace at out t))
  unfolding replay_at
  none_made f r e h n = ap (λ (x : Replayed). (x, out, t)) n ∙ go f h ∙ sym (ap (λ (f : Found). replay_left (replay_found (drop at trace) f at out t)) e)
    where
      go : (f : Found) → ((q : Record) → f ≡ Call q → ⊥)
          → ◌≡◌ {A = Left} (replayed_numbers (not_made f at [] []), out, t) (replay_left (replay_found (drop at trace) f at out t))
      go (Call r) h = absurd (h r refl)
      go End h = refl
      go (Wrong w) h = refl

-- past the end of a trace nothing is found
pub past_end : (trace : List ℕ) (at : ℕ) → length trace ≤ at → found_in (drop at trace) ≡ End
past_end trace at h = at-end (drop at trace) (length-drop at trace ∙ omega arith)
