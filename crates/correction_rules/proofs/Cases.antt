-- When a datagram is corrected, and by which number it is refused. Assumes nothing.
use mathlib.Core.Path.{◌≡◌, refl, sym, ap, ◌∙◌}
use mathlib.Core.Bool.{Bool, true, false, cond}
use mathlib.Core.List.{List, Memᴰ}
use Prim.Native.Nat.{ℕ, ◌+◌, ◌%◌, ◌^◌, ◌≤◌}
use native.Mathlib.Omega.{arith}
use borrow.Author.Tests.{eq-eqb, ne_eqb, eqb-true, eqb-false, lt-ltb, ltb-true}
use lib.Dec.{eqb}
use lib.IntN.{ℤ, pos, negsuc}
use lib.ListN.{length}
use mir.Syntax.{w64}
use mir.Val.{SFits}
use Rattle.octets.proofs.Tests.{by-test}
use Rattle.chain.specs.Chain.{either_refusal}
use Rattle.chain.specs.Field.{fields_of, first_of}
use Rattle.chain.specs.declared.cursor.Field.{Field}
use Rattle.std.specs.Prelude.{Option, Some, None}
use Rattle.chain.proofs.Fields.{fields-inside, first-is}
use Rattle.chain.proofs.Datagrams.{either-sound}
use Rattle.chain.proofs.Edits.{first-in, fields-aligned}
use Rattle.field_role.specs.Correction.{good_correction}
use Rattle.correction_rules.specs.Correct.{good_only, correction_of, is_signed64, delay_after, path_after, with_parts, corrected_at, corrected}
use Rattle.correction_rules.specs.Claim.{Correctable, CorrectedExactly, Refusals}

-- ---- the good field

good-first : (o : Option Field) (f : Field) → good_only o ≡ Some f → (o ≡ Some f) × (f.size ≡ 24)
good-first (Some g) f e = go (good_correction g.size) refl e
  where
    go : (b : Bool) → good_correction g.size ≡ b → cond b (Some g) None ≡ Some f → (Some g ≡ Some f) × (f.size ≡ 24)
    go true q e = let w : g ≡ f = cc in (e, rw (← w) (eqb-true g.size 24 q))
    go false q e = let z : ◌≡◌ {A = ℕ} 0 1 = cc in absurd (omega arith)
good-first None f e = let z : ◌≡◌ {A = ℕ} 0 1 = cc in absurd (omega arith)

-- where it stands
pub record Standing (f : Field) (s : List ℕ) : Type 0 where
  pub kind : f.kind ≡ 0xF506
  pub member : Memᴰ f (fields_of s)
  pub size : f.size ≡ 24
  pub late : 52 ≤ f.start
  pub four : f.start % 4 ≡ 0
  pub room : f.start + 24 ≤ length s

pub standing : (s : List ℕ) (f : Field) → correction_of s ≡ Some f → Standing f s
unfolding correction_of
standing s f e =
    let g = good-first (first_of 0xF506 (fields_of s)) f e in
    let m = first-in 0xF506 (fields_of s) f g.0 in
    let a = fields-aligned s 48 f refl m in
    let i = first-is s 0xF506 (fields_of s) f (fields-inside s 48) g.0 in
    let size = g.1 in
    record { kind = i.0; member = m; size = size; late = a.1; four = a.0; room = omega arith }

-- ---- the range

pub signed-fits : (z : ℤ) → is_signed64 z ≡ true → SFits w64 z
signed-fits (pos n) e = record { sfits = ltb-true n (2 ^ 63) e }
signed-fits (negsuc n) e = record { sfits = ltb-true n (2 ^ 63) e }

pub fits_signed : (z : ℤ) → SFits w64 z → is_signed64 z ≡ true
fits_signed (pos n) f = lt-ltb n (2 ^ 63) f.sfits
fits_signed (negsuc n) f = lt-ltb n (2 ^ 63) f.sfits

not-signed : (z : ℤ) → (SFits w64 z → ⊥) → is_signed64 z ≡ false
not-signed z n = go (is_signed64 z) refl
  where
    go : (b : Bool) → is_signed64 z ≡ b → b ≡ false
    go true e = absurd (n (signed-fits z e))
    go false e = refl

-- ---- the cases

module _ (d : ℤ) (i e : ℕ) (s : List ℕ) where
  pub is-unsound : (either_refusal s ≡ 0 → ⊥) → corrected d i e s ≡ (either_refusal s, s)
  unfolding corrected
  is-unsound n = rw (ne_eqb _ _ n)

  module _ (sound : either_refusal s ≡ 0) where
    pub by_field : corrected d i e s ≡ corrected_at (correction_of s) d i e s
    unfolding corrected
    by_field = rw (eq-eqb _ _ sound)

    module _ (f : Field) (good : correction_of s ≡ Some f) where
      at_field : corrected d i e s ≡ corrected_at (Some f) d i e s
      at_field = by_field ∙ ap (λ (o : Option Field). corrected_at o d i e s) good

      pub is-outside : (SFits w64 (delay_after f d s) → ⊥) → corrected d i e s ≡ (6, s)
      is-outside n = at_field ∙ rw (not-signed (delay_after f d s) n)

      pub is-done : SFits w64 (delay_after f d s) → corrected d i e s ≡ (0, with_parts f (delay_after f d s) (path_after f i e s) s)
      is-done h = at_field ∙ rw (fits_signed (delay_after f d s) h)

    pub is-absent : correction_of s ≡ None → corrected d i e s ≡ (12, s)
    is-absent a = by_field ∙ ap (λ (o : Option Field). corrected_at o d i e s) a

  -- what a call that is not refused says
  accepted-at : (f : Field) → SFits w64 (delay_after f d s) → correction_of s ≡ Some f → either_refusal s ≡ 0 → Correctable d s
  accepted-at f h g a = record { sound = (either-sound s).0 a; field = f; good = g; fits = h }

  pub accepted : (corrected d i e s).0 ≡ 0 → Correctable d s
  unfolding corrected
  accepted =
      by-test (λ (w : ℕ × List ℕ). w.0 ≡ 0 → Correctable d s) (eqb (either_refusal s) 0)
      (λ q. at (correction_of s) refl (eqb-true _ _ q))
      (λ q z. absurd (eqb-false _ _ q z))
    where
      at : (o : Option Field) → correction_of s ≡ o → either_refusal s ≡ 0 → (corrected_at o d i e s).0 ≡ 0 → Correctable d s
      at (Some f) g a =
          by-test (λ (w : ℕ × List ℕ). w.0 ≡ 0 → Correctable d s) (is_signed64 (delay_after f d s))
          (λ q z. accepted-at f (signed-fits (delay_after f d s) q) g a)
          (λ q z. absurd (omega arith))
      at None g a = λ z. absurd (omega arith)

  pub unchanged : ((corrected d i e s).0 ≡ 0 → ⊥) → (corrected d i e s).1 ≡ s
  unfolding corrected
  unchanged = by-test Left (eqb (either_refusal s) 0) (λ q. at (correction_of s)) (λ q n. refl)
    where
      Left : ℕ × List ℕ → Type 0
      Left w = (w.0 ≡ 0 → ⊥) → w.1 ≡ s

      at : (o : Option Field) → Left (corrected_at o d i e s)
      at (Some f) = by-test Left (is_signed64 (delay_after f d s)) (λ q n. absurd (n refl)) (λ q n. refl)
      at None = λ n. refl

  pub done : (f : Field) → correction_of s ≡ Some f → (corrected d i e s).0 ≡ 0
      → SFits w64 (delay_after f d s) × (corrected d i e s ≡ (0, with_parts f (delay_after f d s) (path_after f i e s) s))
  done f g z =
      let a = accepted z in
      let same : Some a.field ≡ Some f = sym a.good ∙ g in
      let w : a.field ≡ f = cc in
      let h : SFits w64 (delay_after f d s) = rw w at a.fits in
      (h, is-done ((either-sound s).1 a.sound) f g h)

pub corrected-exactly : CorrectedExactly
corrected-exactly d i e s = (
  accepted d i e s,
  λ a. ap (λ (w : ℕ × List ℕ). w.0) (is-done d i e s ((either-sound s).1 a.sound) a.field a.good a.fits),
)

pub refusals : Refusals
refusals d i e s = record {
  unsound = is-unsound d i e s;
  no_field = is-absent d i e s;
  outside = λ f a g. is-outside d i e s a f g;
  unchanged = unchanged d i e s;
}
