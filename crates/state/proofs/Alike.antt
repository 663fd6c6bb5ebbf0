-- Responses that are read alike do the same to a place, W209-7. Assumes nothing.
use mathlib.Core.Path.{◌≡◌, refl, sym, ap, ◌∙◌}
use mathlib.Core.Bool.{Bool, true, false, cond, not, ◌&&◌, true≢false}
use mathlib.Core.List.{List, ◌++◌}
use mathlib.Core.Option.{Option, none, some}
use Prim.Native.Nat.{ℕ, ◌+◌, ◌≤◌}
use borrow.Author.Tests.{eqb-true, le-leb}
use lib.Dec.{eqb}
use lib.ListN.{length, take, drop}
use Rattle.octets.specs.Part.{has_room, copy_at}
use Rattle.exchange.specs.Judging.{outcome_of}
use Rattle.exchange.specs.Response.{Response}
use Rattle.exchange.proofs.Alike.{starting_at, Alike}
use Rattle.state.specs.Plain.{Opened, Outstanding, Place, closed, opened, received, on_request, reply_of, refuse_at, place_do}
use Rattle.state.specs.Event.{Receive}
use Rattle.state.specs.Reply.{Reply}

-- a copy is by the octets that are copied
copies-alike : (f : List ℕ) (to : ℕ) (s t : List ℕ) (from from' n : ℕ) → from + n ≤ length s → from' + n ≤ length t
    → take n (drop from s) ≡ take n (drop from' t) → copy_at f to s from n ≡ copy_at f to t from' n
copies-alike f to s t from from' n inside inside' same =
    rw (le-leb _ _ inside, le-leb _ _ inside')
    (ap (λ (xs : List ℕ). cond (has_room f to n) (take to f ++ xs ++ drop (to + n) f) f) same)

-- the chunk is taken
taken-size : (r : Response) (c : ℕ) → eqb (outcome_of r c) 1 ≡ true → r.size ≡ c
taken-size r c e = go r.present (eqb r.size c) refl e
  where
    go : (p b : Bool) → eqb r.size c ≡ b → eqb (cond p (cond b 1 3) 2) 1 ≡ true → r.size ≡ c
    go true true q e = eqb-true _ _ q
    go true false q e = absurd (true≢false (sym e))
    go false b q e = absurd (true≢false (sym e))

module _ (r : Response) (s t : List ℕ) (start : ℕ) (inside : r.start + r.size ≤ length s) (inside_too : start + r.size ≤ length t)
    (chunk : take r.size (drop r.start s) ≡ take r.size (drop start t)) where
  received-alike : (o : Opened) (k : Outstanding) → received r s o k ≡ received (starting_at start r) t o k
  received-alike o k = go (eqb (outcome_of r o.chunk) 1) refl
    where
      go : (b : Bool) → eqb (outcome_of r o.chunk) 1 ≡ b → received r s o k ≡ received (starting_at start r) t o k
      go true e =
          let size = taken-size r o.chunk e in
          let copied : copy_at o.filter k.offset s r.start o.chunk ≡ copy_at o.filter k.offset t start o.chunk =
          rw (← size) (copies-alike o.filter k.offset s t r.start start r.size inside inside_too chunk) in
          rw (e, copied)
      go false e = rw e

  module _ (o : Opened) where
    abbrev on_response : Response → List ℕ → Outstanding → Reply × Place
    on_response q datagram k =
        cond (not (eqb q.client.0 k.client)) (refuse_at 9 (opened o))
        (cond (q.interleaved && eqb k.server 0) (refuse_at 10 (opened o))
        (reply_of q o k, opened (received q datagram o k)))

    on-request : (u : Option Outstanding) → on_request u (refuse_at 9 (opened o)) (on_response r s) ≡ on_request u (refuse_at 9 (opened o)) (on_response (starting_at start r) t)
    on-request none = refl
    on-request (some k) = rw (received-alike o k)

  place-alike : (p : Place) → place_do (Receive r) s p ≡ place_do (Receive (starting_at start r)) t p
  unfolding place_do
  place-alike closed = refl
  place-alike (opened o) =
      ap (λ (w : Reply × Place). cond (eqb r.t4 0) (refuse_at 6 (opened o)) (cond (not (eqb r.refusal 0)) (refuse_at r.refusal (opened o)) w)) (on-request o o.outstanding)

-- what is answered and left is the same, in every place
pub alike-done : (r : Response) (s : List ℕ) (q : Response) (t : List ℕ) → Alike r s q t → (p : Place) → place_do (Receive r) s p ≡ place_do (Receive q) t p
alike-done r s q t a p = place-alike r s t q.start a.inside a.inside_too a.chunk p ∙ ap (λ (w : Response). place_do (Receive w) t p) (sym a.same)
