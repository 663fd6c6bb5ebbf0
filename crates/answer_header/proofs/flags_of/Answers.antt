-- `flags_of` meets its contract: a bit that is cleared or set, as a sum. Assumes nothing.
use mathlib.Core.Path.{◌≡◌, sym, ap, ◌∙◌}
use Prim.Native.Nat.{ℕ, ◌+◌, ◌-◌, ◌*◌, ◌/◌, ◌%◌, ◌<◌, ◌^◌}
use native.Mathlib.Nat.{add-zero}
use native.Mathlib.Omega.{arith}
use borrow.Author.Tests.{eq-eqb, ne_eqb}
use lib.Dec.{lit<}
use lib.Bits.{bit_and, bit_or, and_comm, and_high, or_add_and}
use Rattle.std.proofs.lemmas.Nat.{and-not}
use Rattle.header.specs.Edition.{interleaved_bit}
use Rattle.header.specs.declared.edition.Edition.{Edition}
use Rattle.header.specs.declared.edition.Edition.TheVariants.{One, Seven}
use Rattle.answer_header.proofs.flags_of.Goals as goal

cleared : (e : Edition) (n : ℕ) → n < 2 ^ 16 → bit_and n (65535 - interleaved_bit e) ≡ n - n / interleaved_bit e % 2 * interleaved_bit e
cleared One n h = omega (arith, and-not 16 4 n (lit< tt) h, and_comm 4 n, and_comm 65531 n, and_high n 1 2)
cleared Seven n h = omega (arith, and-not 16 2 n (lit< tt) h, and_comm 2 n, and_comm 65533 n, and_high n 1 1)

put : (e : Edition) (n : ℕ) → bit_or n (interleaved_bit e) ≡ n - n / interleaved_bit e % 2 * interleaved_bit e + interleaved_bit e
put One n = omega (arith, or_add_and n 4, and_high n 1 2)
put Seven n = omega (arith, or_add_and n 2, and_high n 1 1)

pub returns-then-saved-eq0 : goal.returns-then-saved-eq0
returns-then-saved-eq0 c =
    let a = c.args in
    rw (eq-eqb _ 0 c.if-saved-eq0.true)
    (ap (λ (b : ℕ). bit_and a.flags (65535 - b)) c.interleaved_bit-bit.ensures ∙ cleared a.edition a.flags c.ranges.flags.fits ∙ sym (add-zero _))

pub returns-else-saved-eq0 : goal.returns-else-saved-eq0
returns-else-saved-eq0 c =
    let a = c.args in
    rw (ne_eqb _ 0 c.if-saved-eq0.false) (ap (bit_or a.flags) c.interleaved_bit-bit.ensures ∙ put a.edition a.flags)
