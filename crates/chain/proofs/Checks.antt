-- The refusal of the fields by what a step tells: up to the first MAC, and after it. Assumes nothing.
use mathlib.Core.Path.{◌≡◌, refl, sym, ap, ◌∙◌}
use mathlib.Core.List.{List}
use Prim.Native.Nat.{ℕ, zero, suc, ◌<◌, ◌≤◌}
use native.Mathlib.Omega.{arith}
use borrow.Author.Tests.{eq-eqb, ne_eqb}
use lib.ListN.{length, drop}
use Rattle.chain.specs.Chain.{step_at, step_refusal, Walk, walk, chain_refusal, after_refusal, or_else, fields_refusal}
use Rattle.chain.specs.Field.{fields_from}
use Rattle.chain.specs.declared.cursor.Cursor.{Cursor}
use Rattle.chain.specs.declared.cursor.Field.{Field}
use Rattle.chain.specs.declared.cursor.Step.{Step}
use Rattle.chain.specs.declared.cursor.Step.TheVariants.{Found}
use Rattle.chain.proofs.Steps.{View, ended, cut, few, past, nonzero, sound, view, Stopped, wrong-length, wrong-padding}
use Rattle.chain.proofs.Walks.{walk-ended, walk-stop, walk-next, chain-stop, chain_next}
use Rattle.chain.proofs.Fields.{no_field, next_field}
use Rattle.chain.proofs.Macs.{mac-from}

-- the refusal of the fields, by the first step

first_alone : (n : ℕ) → n ≡ or_else n 0
first_alone zero = refl
first_alone (suc n) = rw (ne_eqb (suc n) 0 (λ e. omega arith))

module _ (s : List ℕ) (t : Step) (e : t ≡ step_at s 0) where
  pub fields-stop : Stopped t → step_refusal t ≡ fields_refusal s
  fields-stop o = chain-stop s t e o ∙ first_alone (chain_refusal s) ∙ rw (no_field s 0 t e o)

  module _ (f : Field) (c : Cursor) (q : t ≡ Found f c) where
    pub fields-next : (f.kind ≡ 0xF502 → ⊥) → fields_refusal (drop c.at s) ≡ fields_refusal s
    fields-next other =
        rw (chain_next s t e f c q, ← mac-from s c.at, next_field s 0 t e f c q, ne_eqb f.kind 0xF502 other)

    pub fields-mac : f.kind ≡ 0xF502 → or_else (step_refusal (walk s c.at).stop) (after_refusal (fields_from s c.at)) ≡ fields_refusal s
    unfolding chain_refusal
    fields-mac mac = rw (walk-next s 0 t e f c q, next_field s 0 t e f c q, eq-eqb f.kind 0xF502 mac)

-- what stands at a place after the first MAC: nothing, or, before the end of the datagram, a field or something wrong

pub end_after : (s : List ℕ) (at : ℕ) → length s ≤ at → 0 ≡ or_else (step_refusal (walk s at).stop) (after_refusal (fields_from s at))
end_after s at h = sym (ap (λ (w : Walk). or_else (step_refusal w.stop) (after_refusal w.fields)) (walk-ended s at h))

module _ (s : List ℕ) (at : ℕ) (inside : at < length s) where
  -- all that follows is sound: there is a field
  pub field-after : step_refusal (walk s at).stop ≡ 0 → 13 ≡ or_else (step_refusal (walk s at).stop) (after_refusal (fields_from s at))
  field-after e = rw (eq-eqb _ _ e) (sym (go (step_at s at) (view s at) refl))
    where
      go : (t : Step) → View s at t → t ≡ step_at s at → after_refusal (fields_from s at) ≡ 13
      go t (ended h) q = absurd (omega arith)
      go t (cut h i) q = let z = walk-stop s at t q wrong-length in absurd (omega arith)
      go t (few h i) q = let z = walk-stop s at t q wrong-length in absurd (omega arith)
      go t (past h i j) q = let z = walk-stop s at t q wrong-length in absurd (omega arith)
      go t (nonzero h i j d) q = let z = walk-stop s at t q wrong-padding in absurd (omega arith)
      go t (sound h i j d) q = ap after_refusal (next_field s at t q _ _ refl)
