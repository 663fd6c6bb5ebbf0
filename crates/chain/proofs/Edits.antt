-- Where the fields stand: at multiples of 4, apart from one another. So other data in one of them change nothing of the chain. Assumes nothing.
use mathlib.Core.Path.{◌≡◌, refl, sym, ap, ◌∙◌}
use mathlib.Core.Bool.{Bool, true, false, cond}
use mathlib.Core.List.Memᴰ
use mathlib.Core.List.{List, [], ◌∷◌, Memᴰ}
use mathlib.Core.Logic.{◌⊎◌, inl, inr, ⊎_elim}
use Prim.Native.Nat.{ℕ, zero, suc, ◌+◌, ◌-◌, ◌%◌, ◌<◌, ◌≤◌}
use native.Mathlib.Omega.{arith}
use lib.Dec.{eqb}
use lib.ListN.{length, get_or, drop, length-take, length-drop}
use lib.Seq.{ext_get_or, get_or-take, get_or-drop}
use Rattle.octets.specs.Number.{num}
use Rattle.octets.proofs.Numbers.{num-same}
use Rattle.header.proofs.Starts.{mode-same, refusal-same}
use Rattle.chain.specs.Chain.{padded, all_zero, step_at, step_refusal, Walk, on_step, walk_for, walk, after_mac, after_refusal, or_else, fields_refusal, sound_refusal, either_refusal}
use Rattle.chain.specs.Field.{first_of, data_of, DataChanged}
use Rattle.chain.specs.Claim.{FieldsAligned, DataEdited}
use Rattle.chain.specs.declared.cursor.Field.{Field}
use Rattle.chain.specs.declared.cursor.Step.{Step}
use Rattle.std.specs.Prelude.{Some}
use Rattle.chain.proofs.Steps.{length_at, View, ended, cut, few, past, nonzero, sound, view}
use Rattle.chain.proofs.Walks.{later, chain-from}
use Rattle.chain.proofs.Macs.{mac-from}

-- the first field of a type is one of the fields
pub first-in : (kind : ℕ) (fs : List Field) (f : Field) → first_of kind fs ≡ Some f → Memᴰ f fs
unfolding first_of
first-in kind [] f e = let z : ◌≡◌ {A = ℕ} 0 1 = cc in absurd (omega arith)
first-in kind (g ∷ fs) f e = go (eqb g.kind kind) (first-in kind fs f) e
  where
    go : (b : Bool) → (first_of kind fs ≡ Some f → Memᴰ f fs) → cond b (Some g) (first_of kind fs) ≡ Some f → Memᴰ f (g ∷ fs)
    go true later q = let e : f ≡ g = cc in Memᴰ.head e
    go false later q = Memᴰ.tail (later q)

-- the field that a step finds at a place, if it finds one
abbrev field_here : List ℕ → ℕ → Field
field_here s at = record { kind = num s at 2; start = at + 4; size = length_at s at - 4 }

-- and the place after it
abbrev place_after : List ℕ → ℕ → ℕ
place_after s at = at + padded (length_at s at)

abbrev start_of : Field → ℕ
start_of f = f.start

abbrev size_of : Field → ℕ
size_of f = f.size

-- by where a field of a walk was found: at its first step, or later
module _ (s : List ℕ) (at : ℕ) (rest : ℕ → Walk) (f : Field) (P : Type 0)
    (here : 4 ≤ length_at s at → f ≡ field_here s at → P)
    (further : 4 ≤ length_at s at → Memᴰ f (rest (place_after s at)).fields → P) where
  by_place : (t : Step) → View s at t → Memᴰ f (on_step t rest).fields → P
  by_place t (ended h) m = absurd (Memᴰ.not-nil m)
  by_place t (cut h i) m = absurd (Memᴰ.not-nil m)
  by_place t (few h i) m = absurd (Memᴰ.not-nil m)
  by_place t (past h i j) m = absurd (Memᴰ.not-nil m)
  by_place t (nonzero h i j d) m = absurd (Memᴰ.not-nil m)
  by_place t (sound h i j d) m = ⊎_elim (here i) (further i) (Memᴰ.cases_cons m)

-- a field of the walk from a place on stands after that place, and at a multiple of 4 where the place is one
stands : (m : ℕ) (s : List ℕ) (at : ℕ) (f : Field) → Memᴰ f (walk_for m s at).fields → (at + 4 ≤ f.start) × (at % 4 ≡ 0 → f.start % 4 ≡ 0)
unfolding walk_for
stands zero s at f h = absurd (Memᴰ.not-nil h)
stands (suc m) s at f h =
    by_place s at (walk_for m s) f ((at + 4 ≤ f.start) × (at % 4 ≡ 0 → f.start % 4 ≡ 0))
    (λ n e. let p : f.start ≡ at + 4 = ap start_of e in (omega arith, λ a. omega arith))
    (λ n l. let p = stands m s (place_after s at) f l in (omega arith, λ a. p.1 (omega arith)))
    (step_at s at) (view s at) h

pub fields-aligned : FieldsAligned
unfolding walk
fields-aligned s at f a h = let p = stands (length s) s at f h in (p.1 a, p.0)

-- two fields of it are one, or stand apart
abbrev Apart : Field → Field → Type 0
Apart f g = (g.start + g.size ≤ f.start) ⊎ (f.start + f.size ≤ g.start)

apart : (m : ℕ) (s : List ℕ) (at : ℕ) (f g : Field) → Memᴰ f (walk_for m s at).fields → Memᴰ g (walk_for m s at).fields → (g ≡ f) ⊎ Apart f g
unfolding walk_for
apart zero s at f g h k = absurd (Memᴰ.not-nil h)
apart (suc m) s at f g h k =
    by_place s at (walk_for m s) f ((g ≡ f) ⊎ Apart f g)
    (λ n e.
    let p : f.start ≡ at + 4 = ap start_of e in
    let q : f.size ≡ length_at s at - 4 = ap size_of e in
    by_place s at (walk_for m s) g ((g ≡ f) ⊎ Apart f g)
    (λ n d. inl (d ∙ sym e))
    (λ n l. let b = stands m s (place_after s at) g l in inr (inr (omega arith)))
    (step_at s at) (view s at) k)
    (λ n l.
    by_place s at (walk_for m s) g ((g ≡ f) ⊎ Apart f g)
    (λ n d.
    let p : g.start ≡ at + 4 = ap start_of d in
    let q : g.size ≡ length_at s at - 4 = ap size_of d in
    let b = stands m s (place_after s at) f l in
    inr (inl (omega arith)))
    (λ n r. apart m s (place_after s at) f g l r)
    (step_at s at) (view s at) k)
    (step_at s at) (view s at) h

-- ---- a change of data

zeros-same : (s t : List ℕ) (at n : ℕ) → ((i : ℕ) → at ≤ i → i < at + n → get_or t i 0 ≡ get_or s i 0) → all_zero t at n ≡ all_zero s at n
unfolding all_zero
zeros-same s t at zero h = refl
zeros-same s t at (suc n) h = rw (h at (omega arith) (omega arith), zeros-same s t (at + 1) n (λ i a b. h i (omega arith) (omega arith)))

-- a step looks at the field's header and at its padding
step_same : (s t : List ℕ) (at : ℕ) → length t ≡ length s → ((i : ℕ) → at ≤ i → i < at + 4 → get_or t i 0 ≡ get_or s i 0)
    → ((i : ℕ) → at + length_at s at ≤ i → i < place_after s at → get_or t i 0 ≡ get_or s i 0) → step_at t at ≡ step_at s at
unfolding step_at
step_same s t at long head padding =
    let n = length_at s at in
    rw (
      long,
      num-same s t (at + 2) 2 (λ i a b. head i (omega arith) (omega arith)),
      num-same s t at 2 (λ i a b. head i a (omega arith)),
      zeros-same s t (at + n) (padded n - n) (λ i a b. padding i a (omega arith)),
    )

module _ (s t : List ℕ) (f : Field) (c : DataChanged f s t) where
  -- what is left of the walk from a place on: f is behind it, or found on it
  abbrev Left : ℕ → ℕ → Type 0
  Left m at = (f.start + f.size ≤ at) ⊎ Memᴰ f (walk_for m s at).fields

  -- a turn of it
  module _ (m at : ℕ) (again : Left m (place_after s at) → walk_for m t (place_after s at) ≡ walk_for m s (place_after s at)) where
    abbrev Same : Type 0
    Same = on_step (step_at t at) (walk_for m t) ≡ on_step (step_at s at) (walk_for m s)

    on : step_at t at ≡ step_at s at → Left m (place_after s at) → Same
    on e w = rw e (later s at (walk_for m t) (walk_for m s) (λ a b. again w) (step_at s at) (view s at))

    passed : f.start + f.size ≤ at → Same
    passed h = on (step_same s t at c.long (λ i a b. c.after i (omega arith)) (λ i a b. c.after i (omega arith))) (inl (omega arith))

    found : 4 ≤ length_at s at → f ≡ field_here s at → Same
    found n e =
        let p : f.start ≡ at + 4 = ap start_of e in
        let q : f.size ≡ length_at s at - 4 = ap size_of e in
        on (step_same s t at c.long (λ i a b. c.before i (omega arith)) (λ i a b. c.after i (omega arith))) (inl (omega arith))

    ahead : 4 ≤ length_at s at → Memᴰ f (walk_for m s (place_after s at)).fields → Same
    ahead n l =
        let p = stands m s (place_after s at) f l in
        on (step_same s t at c.long (λ i a b. c.before i (omega arith)) (λ i a b. c.before i (omega arith))) (inr l)

    turn : (f.start + f.size ≤ at) ⊎ Memᴰ f (on_step (step_at s at) (walk_for m s)).fields → Same
    turn w = ⊎_elim passed (by_place s at (walk_for m s) f Same found ahead (step_at s at) (view s at)) w

  walk_same : (m at : ℕ) → Left m at → walk_for m t at ≡ walk_for m s at
  unfolding walk_for
  walk_same zero at w = refl
  walk_same (suc m) at w = turn m at (walk_same m (place_after s at)) w

  -- the data of a field that stands apart
  data-same : (g : Field) → Apart f g → data_of t g ≡ data_of s g
  data-same g w =
      let long = c.long in
      ext_get_or 0 _ _ (simp (length-take, length-drop) (omega arith)) (λ i h.
      let l : i < g.size = omega (arith, length-take g.size (drop g.start t)) in
      rw (get_or-take, get_or-take, get_or-drop, get_or-drop) (⊎_elim (λ p. c.before (g.start + i) (omega arith)) (λ p. c.after (g.start + i) (omega arith)) w))

-- what the fields refuse, by the walk over the whole datagram
abbrev walk_refusal : Walk → ℕ
walk_refusal w = or_else (step_refusal w.stop) (after_refusal (after_mac w.fields))

fields-by-walk : (s : List ℕ) → fields_refusal (drop 48 s) ≡ walk_refusal (walk s 48)
fields-by-walk s = rw (chain-from s 48, mac-from s 48)

pub data-edited : DataEdited
unfolding walk sound_refusal either_refusal
data-edited s t f h c = record {
  fields = ap (λ (w : Walk). w.fields) same;
  others = λ g k d. ⊎_elim (λ e. absurd (d e)) (data-same s t f c g) (apart (length s) s 48 f g h k);
  refused = refused;
  either = rw (mode-same s t start) (refused _);
}
  where
    start : (i : ℕ) → i < 48 → get_or t i 0 ≡ get_or s i 0
    start i b = let p = stands (length s) s 48 f h in c.before i (omega arith)

    same : walk t 48 ≡ walk s 48
    same = ap (λ (n : ℕ). walk_for n t 48) c.long ∙ walk_same s t f c (length s) 48 (inr h)

    refused : (wanted : ℕ) → sound_refusal t wanted ≡ sound_refusal s wanted
    refused wanted = rw (refusal-same s t start c.long wanted, fields-by-walk t ∙ ap walk_refusal same ∙ sym (fields-by-walk s))
