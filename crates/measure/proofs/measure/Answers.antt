-- `measure::measure` meets its contract: where each difference has a sign, offset and delay are of the four. Assumes nothing.
use Rattle.std.proofs.Common.{◌≡◌, ℕ, ◌^◌, ◌<◌, ℤ, Some, sym, ◌∙◌, ap₂}
use lib.Signed.{mag}
use Rattle.measure.specs.Measure.{difference, offset, delay, measurement}
use Rattle.measure.proofs.Whole.{symmetric-size, size-mag}
use Rattle.measure.proofs.Reading.{reread, read_back}
use Rattle.measure.proofs.Eras.{difference-exactly}
use Rattle.measure.proofs.Exact.{four-differences}
use Rattle.measure.proofs.measure.Goals as goal

number-back : (a b : ℕ) (z : ℤ) → Some z ≡ difference a b → reread z ≡ z
number-back a b z e = read_back z (size-mag z (symmetric-size z ((difference-exactly a b z).0 (sym e)).0))

-- all four are numbers
module _ (t1 t2 t3 t4 : ℕ) (o b w i : ℤ) (so : Some o ≡ difference t2 t1) (sb : Some b ≡ difference t3 t4) (sw : Some w ≡ difference t4 t1) (si : Some i ≡ difference t3 t2) where
  answered : (x : ℤ) (n : ℕ) → mag x < 2 ^ 63 → x ≡ offset (reread o) (reread b) → n ≡ delay (reread w) (reread i)
      → record { judgement = 0; offset = reread x; delay = n } ≡ measurement t1 t2 t3 t4
  answered x n h e f =
      let first = read_back x h ∙ e ∙ ap₂ offset (number-back t2 t1 o so) (number-back t3 t4 b sb) in
      let second = f ∙ ap₂ delay (number-back t4 t1 w sw) (number-back t3 t2 i si) in
      ap₂ (λ (y : ℤ) (m : ℕ). record { judgement = 0; offset = y; delay = m }) first second
      ∙ sym ((four-differences t1 t2 t3 t4).signed o b w i (sym so) (sym sb) (sym sw) (sym si))

pub returns : goal.returns
returns c =
    let t = c.args in
    answered t.t1 t.t2 t.t3 t.t4 _ _ _ _ c.in_ok-outward.ensures c.in_ok-back.ensures c.in_ok-whole.ensures c.in_ok-inside.ensures
    c.offset.result c.delay.result c.offset.type_inv c.offset.ensures c.delay.ensures
