-- The laws of the header, for any octets, any fields and either edition: what passes, both round trips of the definitions, W204-6, and
-- both of the calls; and a whole header of edition 1.
use Rattle.std.specs.Prelude.{◌≡◌, true, false, List, [], ◌∷◌, ◌++◌, ◌↔◌, ℕ, ◌%◌, ◌^◌, ◌<◌, ◌≤◌, ℤ, pos, negsuc, length, take, drop}
use Rattle.std.specs.Int.{w8, w16}
use Rattle.std.proofs.Common.{SFits}
use Rattle.octets.specs.Number.{Octets}
use Rattle.header.specs.Header.{version_of, mode_of, header_of, header_octets, refusal, reading, written}
use Rattle.header.specs.Edition.{Within, interleaved_flag}
use Rattle.header.specs.declared.edition.Edition.{Edition}
use Rattle.header.specs.declared.edition.Edition.TheVariants.{One, Seven}
use Rattle.header.specs.declared.Header.{Header}
use Rattle.std.specs.Prelude.{Ok}

-- WHAT PASSES

-- a datagram to which none of N-1 to N-3 applies
pub record Passes (s : List ℕ) (wanted : ℕ) : Type 0 where
  pub low : 48 ≤ length s
  pub high : length s ≤ 1280
  pub four : length s % 4 ≡ 0
  pub version : version_of s ≡ 5
  pub mode : mode_of s ≡ wanted

abbrev pub Passing : Type 0
Passing = (s : List ℕ) (wanted : ℕ) → refusal s wanted ≡ 0 ↔ Passes s wanted

-- THE DEFINITIONS

-- H-1: 48 octets
abbrev pub HeaderSize : Type 0
HeaderSize = (h : Header) → length (header_octets h) ≡ 48

-- W204-3: the timescale offsets that an edition holds
abbrev pub OffsetHeld : Edition → ℤ → Type 0
OffsetHeld One z = SFits w16 z
OffsetHeld Seven z = z ≡ pos 0

-- each field is in the range of its bits or octets, so that its edition can hold it
pub record InRange (h : Header) : Type 0 where
  pub leap : h.leap < 4
  pub mode : h.mode < 8
  pub within : Within h.edition h.stratum h.timescale h.flags
  pub poll : SFits w8 h.poll
  pub precision : SFits w8 h.precision
  pub era : h.era < 256
  pub offset : OffsetHeld h.edition h.timescale_offset
  pub delay : h.root_delay < 256 ^ 4
  pub dispersion : h.root_dispersion < 256 ^ 4
  pub server : h.server_cookie.0 < 256 ^ 8
  pub client : h.client_cookie.0 < 256 ^ 8
  pub receive : h.receive < 256 ^ 8
  pub transmit : h.transmit < 256 ^ 8

-- H-12, whatever octets follow
abbrev pub ReadWritten : Type 0
ReadWritten = (h : Header) (rest : List ℕ) → InRange h → header_of h.edition (header_octets h ++ rest) ≡ h

-- H-13
abbrev pub WrittenRead : Type 0
WrittenRead = (e : Edition) (s : List ℕ) → Octets s → 48 ≤ length s → version_of s ≡ 5 → header_octets (header_of e s) ≡ take 48 s

-- THE CALLS

-- H-12: a header that is written to a buffer of a datagram's size is not refused, and the buffer is then read as that header
abbrev pub ReadAfterWrite : Type 0
ReadAfterWrite = (h : Header) (out : List ℕ) → InRange h → 3 ≤ h.mode → h.mode ≤ 4 → 48 ≤ length out → length out ≤ 1280 → length out % 4 ≡ 0
    → ((written h out).0 ≡ 0) × (reading (refusal (written h out).1 h.mode) (header_of h.edition (written h out).1) ≡ Ok h)

-- H-13: a request or response that was read is written as it was: not refused, the same 48 octets, and those after them kept
abbrev pub WriteAfterRead : Type 0
WriteAfterRead = (e : Edition) (s out : List ℕ) (wanted : ℕ) (h : Header) → Octets s → 3 ≤ wanted → wanted ≤ 4 → 48 ≤ length out
    → reading (refusal s wanted) (header_of e s) ≡ Ok h → written h out ≡ (0, take 48 s ++ drop 48 out)

-- EDITION 1

-- a header of edition 1, no two of whose fields are alike
abbrev pub december : Header
december = record {
  edition = One;
  leap = 1;
  mode = 4;
  stratum = 2;
  poll = pos 6;
  precision = negsuc 19;
  timescale = 3;
  era = 7;
  timescale_offset = negsuc 36;
  flags = 0x85;
  root_delay = 0x11121314;
  root_dispersion = 0x21222324;
  server_cookie = record { 0 = 0x3132333435363738 };
  client_cookie = record { 0 = 0x4142434445464748 };
  receive = 0x5152535455565758;
  transmit = 0x6162636465666768;
}

-- its octets by the figure of source 002, a row of which is four octets here
abbrev pub december_octets : List ℕ
december_octets =
    (0x6C ∷ 0x32 ∷ 0x06 ∷ 0xEC ∷ [])  -- leap, version, mode; timescale, stratum; poll; precision
    ++ (0x85 ∷ 0x07 ∷ 0xFF ∷ 0xDB ∷ [])  -- flags; era; timescale offset, -37
    ++ (0x11 ∷ 0x12 ∷ 0x13 ∷ 0x14 ∷ [])
    ++ (0x21 ∷ 0x22 ∷ 0x23 ∷ 0x24 ∷ [])
    ++ (0x31 ∷ 0x32 ∷ 0x33 ∷ 0x34 ∷ []) ++ (0x35 ∷ 0x36 ∷ 0x37 ∷ 0x38 ∷ [])
    ++ (0x41 ∷ 0x42 ∷ 0x43 ∷ 0x44 ∷ []) ++ (0x45 ∷ 0x46 ∷ 0x47 ∷ 0x48 ∷ [])
    ++ (0x51 ∷ 0x52 ∷ 0x53 ∷ 0x54 ∷ []) ++ (0x55 ∷ 0x56 ∷ 0x57 ∷ 0x58 ∷ [])
    ++ (0x61 ∷ 0x62 ∷ 0x63 ∷ 0x64 ∷ []) ++ (0x65 ∷ 0x66 ∷ 0x67 ∷ 0x68 ∷ [])

-- W204-2, written and read; W204-4: its flags have 0x4 and not 0x2
pub record December : Type 0 where
  pub is-written : header_octets december ≡ december_octets
  pub is_read : header_of One december_octets ≡ december
  pub interleaved-one : interleaved_flag One december.flags ≡ true
  pub not-seven : interleaved_flag Seven december.flags ≡ false
