-- Datagrams that a client reads alike, W209-7: all that it takes from a sound response are the header and the data of the first 0xF504.
-- Assumes nothing.
use mathlib.Core.Path.{◌≡◌, refl, sym, ap, ◌∙◌}
use mathlib.Core.Bool.{Bool, true, false, cond}
use mathlib.Core.List.{List, [], ◌∷◌, ◌++◌}
use Prim.Native.Nat.{ℕ, ◌+◌, ◌≤◌}
use native.Mathlib.Omega.{arith}
use lib.Dec.{eqb}
use lib.ListN.{length, take, drop, length-drop}
use lib.Seq.{length-take-le}
use Rattle.header.specs.Header.{header_of}
use Rattle.header.specs.declared.edition.Edition.{Edition}
use Rattle.header.specs.declared.edition.Edition.TheVariants.{One, Seven}
use Rattle.header.specs.declared.Header.{Header}
use Rattle.chain.specs.Chain.{sound_refusal}
use Rattle.chain.specs.Field.{fields_of, fields_in, AllInside, first_of}
use Rattle.chain.specs.Content.{Content, contents_of}
use Rattle.chain.specs.declared.cursor.Field.{Field}
use Rattle.std.specs.Prelude.{Option, Some, None}
use Rattle.chain.proofs.Fields.{fields-inside}
use Rattle.exchange.specs.Response.{with_chunk, response_of, Response}
use Rattle.exchange.proofs.Responses.{response-accepted}

-- the data of the first field of a type
unfoldable pub first_data : ℕ → List Content → Option (List ℕ)
first_data kind [] = None
first_data kind (c ∷ cs) = cond (eqb c.kind kind) (Some c.«data») (first_data kind cs)

-- a field of another type changes nothing of it
pub first-skips : (kind : ℕ) (before : List Content) (c : Content) (after : List Content) → eqb c.kind kind ≡ false
    → first_data kind (before ++ (c ∷ after)) ≡ first_data kind (before ++ after)
unfolding first_data
first-skips kind [] c after other = rw other
first-skips kind (b ∷ before) c after other =
    ap (cond (eqb b.kind kind) (Some b.«data»)) (first-skips kind before c after other)

-- an occurrence in s, and its data
data Holds (s : List ℕ) : Option Field → Option (List ℕ) → Type 0 where
  absent : Holds s None None
  present : (f : Field) → f.start + f.size ≤ length s → Holds s (Some f) (Some (take f.size (drop f.start s)))

holds : (s : List ℕ) (kind : ℕ) (fs : List Field) → AllInside s fs → Holds s (first_of kind fs) (first_data kind (contents_of s fs))
unfolding first_of first_data contents_of
holds s kind [] inside = absent
holds s kind (f ∷ fs) inside = go (holds s kind fs inside.1) (eqb f.kind kind)
  where
    go : Holds s (first_of kind fs) (first_data kind (contents_of s fs)) → (b : Bool)
        → Holds s (cond b (Some f) (first_of kind fs)) (cond b (Some (take f.size (drop f.start s))) (first_data kind (contents_of s fs)))
    go later true = present f inside.0
    go later false = later

-- r, but for where its chunk starts
abbrev pub starting_at : ℕ → Response → Response
starting_at start r = record {
  refusal = r.refusal;
  leap = r.leap;
  stratum = r.stratum;
  timescale = r.timescale;
  interleaved = r.interleaved;
  server = r.server;
  client = r.client;
  receive = r.receive;
  transmit = r.transmit;
  present = r.present;
  start = start;
  size = r.size;
  t4 = r.t4;
}

-- r, read in s, and q, read in t, differ at most in where their chunk starts, and the chunks are the same octets
pub record Alike (r : Response) (s : List ℕ) (q : Response) (t : List ℕ) : Type 0 where
  pub same : q ≡ starting_at q.start r
  pub inside : r.start + r.size ≤ length s
  pub inside_too : q.start + r.size ≤ length t
  pub chunk : take r.size (drop r.start s) ≡ take r.size (drop q.start t)

module _ (s t : List ℕ) (h : Header) (t4 : ℕ) where
  chunk-alike : {o u : Option Field} {d d' : Option (List ℕ)} → Holds s o d → Holds t u d' → d ≡ d' → Alike (with_chunk o h t4) s (with_chunk u h t4) t
  chunk-alike absent absent e = record { same = refl; inside = omega arith; inside_too = omega arith; chunk = refl }
  chunk-alike absent (present g j) e = let z : ◌≡◌ {A = ℕ} 0 1 = cc in absurd (omega arith)
  chunk-alike (present f i) absent e = let z : ◌≡◌ {A = ℕ} 0 1 = cc in absurd (omega arith)
  chunk-alike (present f i) (present g j) e =
      let octets : take f.size (drop f.start s) ≡ take g.size (drop g.start t) = cc in
      let long = length-take-le f.size (drop f.start s) (rw length-drop (omega arith)) in
      let long-too = length-take-le g.size (drop g.start t) (rw length-drop (omega arith)) in
      let size : g.size ≡ f.size = sym long-too ∙ ap length (sym octets) ∙ long in
      record {
        same = ap (λ (n : ℕ). with_chunk (Some (record { kind = g.kind; start = g.start; size = n })) h t4) size;
        inside = i;
        inside_too = omega arith;
        chunk = octets ∙ ap (λ (n : ℕ). take n (drop g.start t)) size;
      }

  -- both hold the same data in the first 0xF504
  first_alike : (e : Edition) → first_data 0xF504 (contents_of s (fields_of s)) ≡ first_data 0xF504 (contents_of t (fields_of t))
      → Alike (with_chunk (first_of 0xF504 (fields_in e s)) h t4) s (with_chunk (first_of 0xF504 (fields_in e t)) h t4) t
  unfolding first_of
  first_alike One same = chunk-alike absent absent refl
  first_alike Seven same = chunk-alike (holds s 0xF504 (fields_of s) (fields-inside s 48)) (holds t 0xF504 (fields_of t) (fields-inside t 48)) same

-- sound responses with the same header and the same data in the first 0xF504 are read alike
pub responses-alike : (e : Edition) (s t : List ℕ) (t4 : ℕ) → sound_refusal s 4 ≡ 0 → sound_refusal t 4 ≡ 0 → header_of e s ≡ header_of e t
    → first_data 0xF504 (contents_of s (fields_of s)) ≡ first_data 0xF504 (contents_of t (fields_of t)) → Alike (response_of e s t4) s (response_of e t t4) t
responses-alike e s t t4 sound sound-too header same =
    rw (response-accepted e s t4 sound, response-accepted e t t4 sound-too, ← header) (first_alike s t (header_of e s) t4 e same)
