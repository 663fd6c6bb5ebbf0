-- What a response that was read from a datagram gives: numbers that fit, and a chunk of octets that lies in it. Assumes nothing.
use mathlib.Core.Path.{◌≡◌, refl, sym, ◌∙◌}
use mathlib.Core.Bool.{Bool, true, false, cond, true≢false}
use mathlib.Core.List.{List, ◌++◌}
use Prim.Native.Nat.{ℕ, ◌+◌, ◌^◌, ◌≤◌, ◌<◌}
use native.Mathlib.Omega.{arith}
use borrow.Author.Tests.{eqb-true, le-leb, leb-true}
use lib.Dec.{eqb, leb}
use lib.ListN.{length, take, drop, length-take, length-drop}
use lib.Seq.{paste, length-paste, take-take}
use Rattle.octets.specs.Number.{Octets}
use Rattle.octets.specs.Part.{copy_at}
use Rattle.octets.proofs.Parts.{overwritten}
use Rattle.octets.proofs.Written.{both-octets, take-octets, drop-octets}
use Rattle.header.specs.Edition.{most_timescale}
use Rattle.header.specs.declared.edition.Edition.{Edition}
use Rattle.header.specs.declared.edition.Edition.TheVariants.{One, Seven}
use Rattle.exchange.specs.Judging.{outcome_of}
use Rattle.exchange.specs.Response.{Response}
use Rattle.octets.proofs.Tests.{by-test}

-- a response's timescale is one that the edition holds, its server cookie fits, and its chunk lies in the datagram, which is of octets; in
-- edition 1 there is none
pub record GoodResponse (e : Edition) (r : Response) (datagram : List ℕ) : Type 0 where
  pub timescale : r.timescale ≤ most_timescale e
  pub absent : e ≡ One → r.present ≡ false
  pub server : r.server.0 < 2 ^ 64
  pub inside : r.start + r.size ≤ length datagram
  pub octets : Octets datagram

-- a chunk is taken exactly where the first 0xF504 has c data octets
pub taken-length : (r : Response) (c : ℕ) → eqb (outcome_of r c) 1 ≡ true → r.size ≡ c
taken-length r c = go r.present (eqb r.size c) refl
  where
    go : (p b : Bool) → eqb r.size c ≡ b → eqb (cond p (cond b 1 3) 2) 1 ≡ true → r.size ≡ c
    go true true e t = eqb-true r.size c e
    go true false e t = let z : ◌≡◌ {A = ℕ} 0 1 = cc in absurd (omega arith)
    go false b e t = let z : ◌≡◌ {A = ℕ} 0 1 = cc in absurd (omega arith)

-- and in edition 7 alone, W204-9
pub seven-takes : (e : Edition) (r : Response) (datagram : List ℕ) (c : ℕ) → GoodResponse e r datagram → eqb (outcome_of r c) 1 ≡ true → e ≡ Seven
seven-takes Seven r datagram c k t = refl
seven-takes One r datagram c k t = let z : ◌≡◌ {A = Bool} false true = rw (k.absent refl) at t in absurd (true≢false (sym z))

-- the response's chunk: its data octets
abbrev pub chunk_octets : Response → List ℕ → List ℕ
chunk_octets r datagram = take r.size (drop r.start datagram)

pub length-chunk : {e : Edition} (r : Response) (datagram : List ℕ) → GoodResponse e r datagram → length (chunk_octets r datagram) ≡ r.size
length-chunk r datagram h =
    let i = h.inside in
    length-take r.size (drop r.start datagram) ∙ omega (arith, length-drop r.start datagram)

-- the chunk goes to the offset of the request
pub copied : {e : Edition} (r : Response) (datagram f : List ℕ) (at c : ℕ) → length f ≡ 512 → at + c ≤ 512 → GoodResponse e r datagram → r.size ≡ c
    → copy_at f at datagram r.start c ≡ paste f at (chunk_octets r datagram) c
copied r datagram f at c l h g e =
    let i = g.inside in
    let s : r.start + c ≤ length datagram = omega arith in
    let t : take c (take r.size (drop r.start datagram)) ≡ take c (drop r.start datagram) = take-take c r.size (drop r.start datagram) (omega arith) in
    rw (le-leb _ _ s, overwritten f at (drop r.start datagram) c (omega arith), t)

pub length-copied : (s : List ℕ) (to : ℕ) (source : List ℕ) (from n : ℕ) → length (copy_at s to source from n) ≡ length s
length-copied s to source from n =
    by-test Same (leb (from + n) (length source))
    (λ t. by-test Same (leb (to + n) (length s))
    (λ u. let x = leb-true (from + n) (length source) t in let y = leb-true (to + n) (length s) u in
    length-paste s to (drop from source) n (omega arith) (omega (arith, length-drop from source)))
    (λ u. refl))
    (λ t. refl)
  where
    Same : List ℕ → Type 0
    Same l = length l ≡ length s

pub octets-copied : (s : List ℕ) (to : ℕ) (source : List ℕ) (from n : ℕ) → Octets s → Octets source → Octets (copy_at s to source from n)
octets-copied s to source from n f g =
    by-test Octets (leb (from + n) (length source))
    (λ t. by-test Octets (leb (to + n) (length s))
    (λ u. both-octets (take to s ++ take n (drop from source)) (drop (to + n) s)
    (both-octets (take to s) (take n (drop from source)) (take-octets to s f) (take-octets n (drop from source) (drop-octets from source g)))
    (drop-octets (to + n) s f))
    (λ u. f))
    (λ t. f)
