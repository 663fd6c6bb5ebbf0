-- `fields_of` meets its contract: each number is read within the 48 octets. Assumes nothing.
use mathlib.Core.Path.{◌≡◌, ap, ap₂, ◌∙◌}
use mathlib.Core.List.{List}
use Prim.Native.Nat.{ℕ, ◌/◌, ◌%◌, ◌<◌}
use native.Mathlib.Nat.{zero-add}
use native.Mathlib.Omega.{arith}
use lib.ListN.{get_or}
use mir.Syntax.{w8, w16}
use mir.Val.{to_z}
use mir.Facts.{to_z-of_z}
use Rattle.std.specs.Int.{bytes_high_first}
use Rattle.octets.specs.Number.{num}
use Rattle.octets.proofs.Bytes.{byte_read}
use Rattle.octets.proofs.Numbers.{got, num-add}
use Rattle.header.specs.Header.{stratum_in, timescale_in, flags_in, offset_in, header_of}
use Rattle.header.proofs.layout.fields_of.Goals as goal
use Rattle.header.proofs.layout.fields_of.Goals.{After-to_be_bytes-opening}

-- the octet in place i of the first eight
octet : (c : After-to_be_bytes-opening) (i : ℕ) → i < 8 → get_or c.to_be_bytes-opening.result i 0 ≡ num c.args.s.now i 1
octet c i l =
    let s = c.args.s.now in
    let h = c.requires in
    ap (λ (xs : List ℕ). get_or xs i 0) (c.to_be_bytes-opening.ensures ∙ ap (bytes_high_first 8) (got s 0 8 _ (omega arith) c.get.ensures))
    ∙ byte_read s 0 8 i (λ j. (c.type_inv.s j).fits) (omega arith) l ∙ ap (λ (k : ℕ). num s k 1) (zero-add i)

pub returns : goal.returns
unfolding header_of
returns c =
    let s = c.args.s.now in
    let h = c.requires in
    let e = c.args.edition in
    let d = (goal.at.returns c).After-to_be_bytes-opening in
    let first = octet d 0 (omega arith) in
    let octet1 = octet d 1 (omega arith) in
    let octet4 = octet d 4 (omega arith) in
    let word6 : c.from_be_bytes-word6.result ≡ num s 6 2 = omega (arith, c.from_be_bytes-word6.ensures, octet d 6 (omega arith), octet d 7 (omega arith), num-add s 6 1 1) in
    let stratum = c.stratum_in-stratum.ensures ∙ ap (stratum_in e) octet1 in
    let poll = to_z-of_z {w = w8} (record { sfits = c.cast_signed.type_inv }) ∙ c.cast_signed.ensures ∙ ap (to_z w8) (octet d 2 (omega arith)) in
    let precision = to_z-of_z {w = w8} (record { sfits = c.cast_signed-2.type_inv }) ∙ c.cast_signed-2.ensures ∙ ap (to_z w8) (octet d 3 (omega arith)) in
    let timescale = c.timescale_in-timescale.ensures ∙ ap₂ (timescale_in e) octet1 octet4 in
    let offset = to_z-of_z {w = w16} (record { sfits = c.offset_in-timescale_offset.type_inv }) ∙ c.offset_in-timescale_offset.ensures ∙ ap (offset_in e) word6 in
    let flags = c.flags_in-flags.ensures ∙ ap₂ (flags_in e) octet4 word6 in
    let era = octet d 5 (omega arith) in
    λ i. record {
      edition = e;
      leap = first i / 64;
      mode = first i % 8;
      stratum = stratum i;
      poll = poll i;
      precision = precision i;
      timescale = timescale i;
      era = era i;
      timescale_offset = offset i;
      flags = flags i;
      root_delay = got s 8 4 _ (omega arith) c.get-root_delay.ensures i;
      root_dispersion = got s 12 4 _ (omega arith) c.get-root_dispersion.ensures i;
      server_cookie = record { 0 = got s 16 8 _ (omega arith) c.get-2.ensures i };
      client_cookie = record { 0 = got s 24 8 _ (omega arith) c.get-3.ensures i };
      receive = got s 32 8 _ (omega arith) c.get-receive.ensures i;
      transmit = got s 40 8 _ (omega arith) c.get-transmit.ensures i;
    }
