-- What differs between the editions: the limits, and the octets that hold stratum, timescale, flags and timescale offset, W204-2. Assumes nothing.
use mathlib.Core.Path.{◌≡◌, refl, sym}
use mathlib.Core.Bool.{false, ◌||◌}
use mathlib.Core.List.{List, []}
use Prim.Native.Nat.{ℕ, ◌<◌, ◌≤◌, ◌^◌}
use native.Mathlib.Omega.{arith}
use lib.Dec.{ltb}
use lib.IntN.{ℤ, pos}
use lib.ListN.{length, replicate}
use mir.Syntax.{w16}
use mir.Facts.{to_z-of_z, of_z-to_z, Fits-of_z, sfits_to_z}
use borrow.Author.Tests.{le-ltb, ltb-false}
use Rattle.octets.specs.Number.{num}
use Rattle.octets.proofs.Tests.{or-none}
use Rattle.header.specs.Edition.{most_stratum, most_timescale, most_flags, over_limits, Within}
use Rattle.header.specs.Header.{stratum_in, timescale_in, flags_in, offset_in, octet1_of, octet4_of, word6_of, header_of, header_at}
use Rattle.header.specs.Claim.{OffsetHeld}
use Rattle.header.specs.declared.edition.Edition.{Edition}
use Rattle.header.specs.declared.edition.Edition.TheVariants.{One, Seven}

-- ---- limits

module _ (e : Edition) {stratum timescale flags : ℕ} where
  pub within : over_limits e stratum timescale flags ≡ false → Within e stratum timescale flags
  within z =
      let a = or-none (ltb (most_stratum e) stratum || ltb (most_timescale e) timescale) (ltb (most_flags e) flags) z in
      let b = or-none (ltb (most_stratum e) stratum) (ltb (most_timescale e) timescale) a.0 in
      record { stratum-held = ltb-false _ _ b.0; timescale-held = ltb-false _ _ b.1; flags-held = ltb-false _ _ a.1 }

  pub not-over : Within e stratum timescale flags → over_limits e stratum timescale flags ≡ false
  not-over w = rw (le-ltb _ _ w.stratum-held, le-ltb _ _ w.timescale-held, le-ltb _ _ w.flags-held)

-- ---- fields in their octets

module _ {stratum timescale flags : ℕ} where
  pub octet1-fits : (e : Edition) → Within e stratum timescale flags → octet1_of e stratum timescale < 256
  octet1-fits One w = let a = w.stratum-held in let b = w.timescale-held in omega arith
  octet1-fits Seven w = let a = w.stratum-held in omega arith

  pub octet4-fits : (e : Edition) → Within e stratum timescale flags → octet4_of e timescale flags < 256
  octet4-fits One w = let a = w.flags-held in omega arith
  octet4-fits Seven w = let a = w.timescale-held in omega arith

  pub word6-fits : (e : Edition) (z : ℤ) → Within e stratum timescale flags → OffsetHeld e z → word6_of e flags z < 256 ^ 2
  word6-fits One z w s = (Fits-of_z s).fits
  word6-fits Seven z w s = let a = w.flags-held in omega arith

  pub stratum-back : (e : Edition) → Within e stratum timescale flags → stratum_in e (octet1_of e stratum timescale) ≡ stratum
  stratum-back One w = let a = w.stratum-held in omega arith
  stratum-back Seven w = refl

  pub timescale-back : (e : Edition) → Within e stratum timescale flags → timescale_in e (octet1_of e stratum timescale) (octet4_of e timescale flags) ≡ timescale
  timescale-back One w = let a = w.stratum-held in omega arith
  timescale-back Seven w = refl

pub flags-back : (e : Edition) (timescale flags : ℕ) (z : ℤ) → flags_in e (octet4_of e timescale flags) (word6_of e flags z) ≡ flags
flags-back One timescale flags z = refl
flags-back Seven timescale flags z = refl

pub offset-back : (e : Edition) (flags : ℕ) (z : ℤ) → OffsetHeld e z → offset_in e (word6_of e flags z) ≡ z
offset-back One flags z s = to_z-of_z s
offset-back Seven flags z s = sym s

-- ---- octets in their fields

pub no-octets : (e : Edition) → header_of e [] ≡ record {
  edition = e;
  leap = 0;
  mode = 0;
  stratum = 0;
  poll = pos 0;
  precision = pos 0;
  timescale = 0;
  era = 0;
  timescale_offset = pos 0;
  flags = 0;
  root_delay = 0;
  root_dispersion = 0;
  server_cookie = record { 0 = 0 };
  client_cookie = record { 0 = 0 };
  receive = 0;
  transmit = 0;
}
unfolding header_of num
no-octets One = refl
no-octets Seven = refl

-- a header of 48 zeros
pub zero-octets : (e : Edition) → header_of e (replicate 48 0) ≡ header_of e []
unfolding header_of num
zero-octets One = refl
zero-octets Seven = refl

pub header-at : (e : Edition) (s : List ℕ) → 48 ≤ length s → header_at e s ≡ header_of e s
header-at e s room = rw (le-ltb _ _ room)

module _ {x y w : ℕ} (a : x < 256) (b : y < 256) (c : w < 256 ^ 2) where
  pub octet1-back : (e : Edition) → octet1_of e (stratum_in e x) (timescale_in e x y) ≡ x
  octet1-back One = omega arith
  octet1-back Seven = refl

  pub octet4-back : (e : Edition) → octet4_of e (timescale_in e x y) (flags_in e y w) ≡ y
  octet4-back One = refl
  octet4-back Seven = refl

  pub word6-back : (e : Edition) → word6_of e (flags_in e y w) (offset_in e w) ≡ w
  word6-back One = of_z-to_z {w = w16} (record { fits = c })
  word6-back Seven = refl

  pub read-within : (e : Edition) → Within e (stratum_in e x) (timescale_in e x y) (flags_in e y w)
  read-within One = record { stratum-held = omega arith; timescale-held = omega arith; flags-held = omega arith }
  read-within Seven = record { stratum-held = omega arith; timescale-held = omega arith; flags-held = omega arith }

  pub read-offset : (e : Edition) → OffsetHeld e (offset_in e w)
  read-offset One = sfits_to_z {w = w16} (record { fits = c })
  read-offset Seven = refl
