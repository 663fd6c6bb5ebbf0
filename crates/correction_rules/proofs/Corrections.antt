-- What a switch call does, and what it leaves as it was. Assumes nothing.
use mathlib.Core.Path.{◌≡◌, sym, ap, subst, ◌∙◌}
use mathlib.Core.List.{List}
use Prim.Native.Nat.{ℕ, ◌+◌, ◌-◌, ◌%◌, ◌≤◌}
use native.Mathlib.Omega.{arith}
use lib.IntN.{ℤ}
use mir.Syntax.{w64}
use mir.Val.{SFits, to_z}
use mir.Facts.{to_z-of_z, Fits-of_z}
use Rattle.octets.specs.Number.{put_at}
use Rattle.header.proofs.Starts.{header-same}
use Rattle.chain.specs.declared.cursor.Field.{Field}
use Rattle.std.specs.Prelude.{Some}
use Rattle.chain.proofs.Edits.{data-edited}
use Rattle.field_role.specs.Correction.{complement_place}
use Rattle.correction_rules.specs.Sum.{word_sum}
use Rattle.correction_rules.specs.Correct.{correction_of, delay_of, path_of, complement_of, edited, complement_for, with_parts, delay_after, path_after}
use Rattle.correction_rules.specs.Claim.{Kept, Corrected, SwitchCall}
use Rattle.correction_rules.proofs.Edits.{edited-length, edited-before, edited-after, edited-octets, delay-read, path-read, complement-read, complement-put, sum-complement}
use Rattle.correction_rules.proofs.Cases.{standing, done}

-- modulo 65,535: the complement that is due makes up the sum, and no other does

keeps : (a b : ℕ) → (b + (a + (65535 - b % 65535)) % 65535) % 65535 ≡ a % 65535
keeps a b = omega arith

only_one : (a b k j : ℕ) → k ≤ 65534 → j ≤ 65534 → (b + k) % 65535 ≡ a % 65535 → (b + j) % 65535 ≡ a % 65535 → k ≡ j
only_one a b k j hk hj e q = omega arith

module _ (s : List ℕ) (f : Field) (good : correction_of s ≡ Some f) (z : ℤ) (path : ℕ) where
  due-small : complement_for f z path s ≤ 65534
  due-small = omega arith

  sum-with : (k : ℕ) → k ≤ 65534 → word_sum (edited f z path k s) ≡ word_sum (edited f z path 0 s) + k
  sum-with k h = let p = standing s f good in sum-complement f s p.room p.four z path k (omega arith)

  pub sum_kept : word_sum (with_parts f z path s) % 65535 ≡ word_sum s % 65535
  sum_kept = ap (λ (n : ℕ). n % 65535) (sum-with (complement_for f z path s) due-small) ∙ keeps (word_sum s) (word_sum (edited f z path 0 s))

  pub parts-kept : Kept f s (with_parts f z path s)
  unfolding correction_of
  parts-kept =
      let p = standing s f good in
      let k = complement_for f z path s in
      let t = with_parts f z path s in
      let size = p.size in
      let late = p.late in
      let long = edited-length f s p.room z path k in
      let before = edited-before f s p.room z path k in
      let after = edited-after f s p.room z path k in
      let chain = data-edited s t f p.member (record { long = long; before = λ i h. before i (omega arith); after = λ i h. after i (omega arith) }) in
      record {
        long = long;
        before = before;
        after = after;
        octets = edited-octets f s p.room z path k;
        sum = sum_kept;
        header = header-same s t (λ i h. before i (omega arith));
        chain = chain;
        found = rw chain.fields good;
      }

  pub complement-due : complement_of f (with_parts f z path s) ≡ complement_for f z path s
  complement-due = let p = standing s f good in complement-read f s p.room z path (complement_for f z path s) (omega arith)

  complement-only : (k : ℕ) → k ≤ 65534 → word_sum (put_at (with_parts f z path s) (complement_place f) 2 k) % 65535 ≡ word_sum s % 65535 → k ≡ complement_for f z path s
  complement-only k h e =
      let p = standing s f good in
      let c = complement_for f z path s in
      let put = complement-put f s p.room z path c k in
      only_one (word_sum s) (word_sum (edited f z path 0 s)) k c h due-small
      (ap (λ (n : ℕ). n % 65535) (sym (ap word_sum put ∙ sum-with k h)) ∙ e)
      (keeps (word_sum s) (word_sum (edited f z path 0 s)))

  pub delay-is : SFits w64 z → delay_of f (with_parts f z path s) ≡ z
  delay-is h =
      let p = standing s f good in
      ap (to_z w64) (delay-read f s p.room z path (complement_for f z path s) (Fits-of_z h).fits) ∙ to_z-of_z h

  pub path-is : path ≤ 65535 → path_of f (with_parts f z path s) ≡ path
  path-is h = let p = standing s f good in path-read f s p.room z path (complement_for f z path s) (omega arith)

pub switch-call : SwitchCall
switch-call d i e s f a good =
    let h = done d i e s f good a in
    let z = delay_after f d s in
    let path = path_after f i e s in
    let due = complement-due s f good z path in
    let made : Corrected d i e f s (with_parts f z path s) = record {
      kept = parts-kept s f good z path;
      delayed = delay-is s f good z path h.0;
      path = path-is s f good z path (omega arith);
      complement = rw due (omega arith);
      only = λ k l q. complement-only s f good z path k l q ∙ sym due;
    } in
    subst (Corrected d i e f s) (sym (ap (λ (w : ℕ × List ℕ). w.1) h.1)) made
