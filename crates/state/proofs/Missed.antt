-- The number of missed polls and the server cookie of a poll, by how many polls were accepted since the last accepted response or the
-- opening, W211-1 to W211-5. Assumes nothing.
use mathlib.Core.Path.{◌≡◌, refl, ap, ◌∙◌}
use mathlib.Core.Bool.{Bool, cond, ◌&&◌}
use mathlib.Core.List.{List}
use mathlib.Core.Option.{some}
use Prim.Native.Nat.{ℕ, ◌+◌, ◌-◌, min}
use native.Mathlib.Omega.{arith}
use lib.Dec.{eqb, ltb}
use Rattle.octets.proofs.Tests.{by-test}
use Rattle.header.specs.declared.edition.Edition.{Edition}
use Rattle.exchange.specs.Judging.{outcome_of}
use Rattle.exchange.specs.Response.{Response}
use Rattle.state.specs.Plain.{Outstanding, Opened, newly_opened, missed_counted, saved_server, sent_cookie, polled, reported, received}

-- so many polls were accepted since; the server cookie is that of the last accepted response since the opening, or 0
pub record Counted (o : Opened) (polls server : ℕ) : Type 0 where
  -- all but the latest were replaced
  pub missed : o.missed ≡ min 8 (polls - 1)
  -- one poll more replaces them all
  pub counted : missed_counted o ≡ min 8 polls
  pub saved : saved_server o.saved ≡ server

pub counted-fresh : (e : Edition) (timescale c : ℕ) → Counted (newly_opened e timescale c) 0 0
counted-fresh e timescale c = record { missed = refl; counted = refl; saved = refl }

pub counted-polled : (cookie : ℕ) (interleaved : Bool) (o : Opened) {polls server : ℕ} → Counted o polls server
    → Counted (polled cookie interleaved o) (polls + 1) server
counted-polled cookie interleaved o h = record { missed = h.counted ∙ omega arith; counted = rw h.counted (omega arith); saved = h.saved }

pub counted-reported : (t1 : ℕ) (o : Opened) (q : Outstanding) {polls server : ℕ} → o.outstanding ≡ some q → Counted o polls server
    → Counted (reported t1 o q) polls server
counted-reported t1 o q e h = record { missed = h.missed; counted = rw e at h.counted; saved = h.saved }

pub counted-received : (r : Response) (datagram : List ℕ) (o : Opened) (q : Outstanding) → Counted (received r datagram o q) 0 r.server.0
counted-received r datagram o q =
    by-test (λ (x : Opened). Counted x 0 r.server.0) (eqb (outcome_of r o.chunk) 1)
    (λ t. record { missed = refl; counted = refl; saved = refl })
    (λ t. record { missed = refl; counted = refl; saved = refl })

-- the cookie that a poll sends then
pub counted-cookie : (interleaved : Bool) (o : Opened) {polls server : ℕ} → Counted o polls server
    → sent_cookie interleaved o ≡ cond (interleaved && ltb (min 8 polls) 4) server 0
counted-cookie interleaved o {polls} h =
    ap (λ (n : ℕ). cond (interleaved && ltb n 4) (saved_server o.saved) 0) h.counted
    ∙ ap (λ (k : ℕ). cond (interleaved && ltb (min 8 polls) 4) k 0) h.saved
