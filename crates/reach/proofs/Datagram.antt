-- A response datagram of an edition that has a head's saved numbers, and that it reads back as them. Assumes nothing.
use mathlib.Core.Path.{◌≡◌, refl, ◌∙◌}
use mathlib.Core.Bool.{false}
use mathlib.Core.List.{List, [], ◌++◌}
use Prim.Native.Nat.{ℕ, ◌+◌, ◌≤◌, ◌<◌, ◌^◌}
use native.Mathlib.Omega.{arith}
use borrow.Author.Rules.{rules}
use lib.Dec.{lit<}
use lib.IntN.{pos}
use lib.ListN.{length, length-append}
use lib.Seq.{drop_at}
use Rattle.octets.specs.Number.{Octets}
use Rattle.octets.proofs.Written.{both-octets, spelled-octets}
use Rattle.header.specs.Edition.{most_timescale, interleaved_flag}
use Rattle.header.specs.Header.{header_octets, layout}
use Rattle.header.specs.Claim.{InRange}
use Rattle.header.specs.declared.edition.Edition.{Edition}
use Rattle.header.specs.declared.edition.Edition.TheVariants.{One, Seven}
use Rattle.header.specs.declared.Header.{Header}
use Rattle.header.proofs.Refusals.{refusal-none}
use Rattle.header.proofs.RoundTrip.{length-header, read-written, version-written, mode-written}
use Rattle.chain.specs.Chain.{sound_refusal}
use Rattle.chain.specs.Field.{fields_in, first_of}
use Rattle.chain.specs.Content.{Content, chain_octets, AllFit, placed}
use Rattle.chain.specs.declared.cursor.Field.{Field}
use Rattle.std.specs.Prelude.{None}
use Rattle.chain.proofs.Contents.{NoneOf, AllOctets, chain-fours, chain-octets, fields-written}
use Rattle.chain.proofs.Datagrams.{sound-datagram, fields-pass}
use Rattle.exchange.specs.Response.{with_chunk, response_of}
use Rattle.exchange.proofs.Responses.{response-accepted}
use Rattle.state.specs.Numbers.{HeadFits}
use Rattle.state.specs.declared.head.Head.{Head}
use Rattle.state.specs.declared.head.Saved.{Saved}

-- the header of a basic response to client cookie k
abbrev pub response_header : Edition → Saved → ℕ → Header
response_header e v k = record {
  edition = e;
  leap = 0;
  mode = 4;
  stratum = 1;
  poll = pos 0;
  precision = pos 0;
  timescale = v.timescale;
  era = 0;
  timescale_offset = pos 0;
  flags = 0;
  root_delay = 0;
  root_dispersion = 0;
  server_cookie = v.server;
  client_cookie = record { 0 = k };
  receive = v.t2;
  transmit = v.t3;
}

abbrev pub response_datagram : Edition → Saved → ℕ → List Content → List ℕ
response_datagram e v k cs = header_octets (response_header e v k) ++ chain_octets cs

-- those of its fields that are looked at, W204-9
abbrev pub looked_at : Edition → List Content → List Field
looked_at One cs = []
looked_at Seven cs = placed 48 cs

-- without fields there is no chunk
pub none_found : (e : Edition) → first_of 0xF504 (looked_at e []) ≡ None
unfolding first_of placed
none_found One = refl
none_found Seven = refl

-- without flags it is not interleaved
pub not-interleaved : (e : Edition) → interleaved_flag e 0 ≡ false
not-interleaved One = refl
not-interleaved Seven = refl

pub response-octets : (e : Edition) (v : Saved) (k : ℕ) (cs : List Content) → AllOctets cs → Octets (response_datagram e v k cs)
unfolding header_octets
response-octets e v k cs o = both-octets (header_octets (response_header e v k)) (chain_octets cs) (spelled-octets (layout (response_header e v k))) (chain-octets cs o)

header-in-range : (e : Edition) (h : Head) → HeadFits h → h.saved.timescale ≤ most_timescale e → (k : ℕ) → k < 2 ^ 64 → InRange (response_header e h.saved k)
header-in-range One h fits timescale k client = search rules
header-in-range Seven h fits timescale k client = search rules

fields-looked-at : (e : Edition) (v : Saved) (k : ℕ) (cs : List Content) → AllFit cs → fields_in e (response_datagram e v k cs) ≡ looked_at e cs
fields-looked-at One v k cs fit = refl
fields-looked-at Seven v k cs fit = fields-written (header_octets (response_header Seven v k)) cs 48 (length-header (response_header Seven v k)) fit

sound-response : (e : Edition) (v : Saved) (k : ℕ) (cs : List Content) → AllFit cs → NoneOf 0xF502 cs → length (chain_octets cs) ≤ 1232
    → sound_refusal (response_datagram e v k cs) 4 ≡ 0
sound-response e v k cs fit none room =
    let q = response_header e v k in
    let l : length (response_datagram e v k cs) ≡ 48 + length (chain_octets cs) = omega (arith, length-append (header_octets q) (chain_octets cs), length-header q) in
    sound-datagram (response_datagram e v k cs) 4
    (refusal-none (response_datagram e v k cs) 4 (omega (arith, chain-fours cs, version-written q (chain_octets cs) (lit< tt) (lit< tt), mode-written q (chain_octets cs) (lit< tt) (lit< tt))))
    (rw (drop_at (header_octets q) (chain_octets cs) 48 (length-header q)) (fields-pass cs fit none))

pub response-read : (e : Edition) (h : Head) → HeadFits h → h.saved.timescale ≤ most_timescale e → (k : ℕ) → k < 2 ^ 64
    → (cs : List Content) → AllFit cs → NoneOf 0xF502 cs → length (chain_octets cs) ≤ 1232
    → (t4 : ℕ) → response_of e (response_datagram e h.saved k cs) t4 ≡ with_chunk (first_of 0xF504 (looked_at e cs)) (response_header e h.saved k) t4
response-read e h fits timescale k client cs fit none room t4 =
    let q = response_header e h.saved k in
    response-accepted e (response_datagram e h.saved k cs) t4 (sound-response e h.saved k cs fit none room)
    ∙ rw (fields-looked-at e h.saved k cs fit, read-written q (chain_octets cs) (header-in-range e h fits timescale k client))
