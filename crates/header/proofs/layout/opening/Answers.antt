-- `opening` meets its contract: its bytes are the octets of its pieces. Assumes nothing.
use mathlib.Core.Path.{refl, sym, ap, ◌∙◌}
use mathlib.Core.List.{List}
use Prim.Native.Nat.{ℕ, ◌/◌, ◌%◌}
use native.Mathlib.Omega.{arith}
use lib.ListN.{get_or}
use mir.Syntax.{w8, w16}
use mir.Val.{of_z}
use mir.Facts.{to_z-of_z}
use borrow.Author.Rules.{rules}
use Rattle.std.proofs.lemmas.Nat.{be_bytes_8}
use Rattle.octets.specs.Number.{octets}
use Rattle.octets.specs.Piece.{spelled}
use Rattle.octets.proofs.Bytes.{bytes_octets}
use Rattle.octets.proofs.Written.{spelled-octets}
use Rattle.header.specs.Header.{word6_of, opening_of}
use Rattle.header.proofs.layout.opening.Goals as goal

pub returns : goal.returns
unfolding spelled octets
returns c =
    let h = c.args.h in
    let octet1 = ap (λ (x : ℕ). x % 256) c.octet1_of-octet1.ensures in
    let octet4 = ap (λ (x : ℕ). x % 256) c.octet4_of-octet4.ensures in
    let poll = c.cast_unsigned.ensures ∙ ap (of_z w8) (to_z-of_z {w = w8} {z = h.poll} (record { sfits = search rules })) in
    let precision = c.cast_unsigned-2.ensures ∙ ap (of_z w8) (to_z-of_z {w = w8} {z = h.precision} (record { sfits = search rules })) in
    let word6 = c.word6_of-word6.ensures ∙ ap (word6_of h.edition h.flags) (to_z-of_z {w = w16} {z = h.timescale_offset} (record { sfits = search rules })) in
    let high = ap (λ (xs : List ℕ). get_or xs 0 0) c.to_be_bytes.ensures ∙ ap (λ (w : ℕ). w / 256 % 256) word6 in
    let low = ap (λ (xs : List ℕ). get_or xs 1 0) c.to_be_bytes.ensures ∙ ap (λ (w : ℕ). w % 256) word6 in
    sym (bytes_octets 8 _)
    ∙ be_bytes_8 (spelled (opening_of h)) _ refl (spelled-octets (opening_of h)) (omega (arith, octet1, octet4, poll, precision, high, low, c.from_be_bytes.ensures, c.cast_unsigned.type_inv, c.cast_unsigned-2.type_inv))
