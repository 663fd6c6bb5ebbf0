-- Numbers in range come back from the place that they stand for. Assumes nothing.
use mathlib.Core.Path.{◌≡◌, refl, sym, subst⁻¹}
use mathlib.Core.Bool.{Bool, true, false, cond, ◌||◌, and-eq-true_iff}
use mathlib.Core.List.{List}
use mathlib.Core.Option.{Option, none, some}
use Prim.Native.Nat.{ℕ}
use lib.Dec.{eqb}
use lib.ListN.{replicate}
use lib.Seq.{paste}
use borrow.Author.Tests.{eqb-true, eqb-false}
use Rattle.state.specs.Range.{in_range, request_absent, saved_absent, request_in_range, timescale_in_range, saved_in_range}
use Rattle.state.specs.Plain.{Exchange, closed, opened, is_last, previous, saved_server}
use Rattle.state.specs.Numbers.{none_saved, first_taken, count_taken, opened_in, request_in, outstanding_in, cookie_in, exchange_in, saved_in, cookie_of, outstanding_of, request_of, saved_of, place_head, HeadsBack}
use Rattle.state.specs.Change.{taken_after}
use Rattle.state.specs.declared.head.Saved.{Saved}
use Rattle.state.specs.declared.head.Head.{Head}
use Rattle.state.proofs.Ranges.{none-saved, none-asked, closed-back, edition-back, OpenRanges, open-ranges, asked-ranges}
use Rattle.state.proofs.Flags.{count-first, onward}

pub cookie-back : (k : ℕ) → cookie_of (cookie_in k) ≡ k
cookie-back k = go (eqb k 0) refl
  where
    go : (b : Bool) → eqb k 0 ≡ b → cookie_of (cond b none (some k)) ≡ k
    go true e = sym (eqb-true k 0 e)
    go false e = refl

-- the cookie of the last request, or none, is compared as its number is once 0 is refused
pub is-last : (cookie last : ℕ) → eqb cookie 0 || is_last cookie (cookie_in last) ≡ eqb cookie 0 || eqb cookie last
is-last cookie last = go (eqb last 0) refl
  where
    or_same : (a : Bool) → a || false ≡ a || a
    or_same true = refl
    or_same false = refl

    go : (b : Bool) → eqb last 0 ≡ b → eqb cookie 0 || is_last cookie (cond b none (some last)) ≡ eqb cookie 0 || eqb cookie last
    go true e = rw (eqb-true last 0 e) (or_same (eqb cookie 0))
    go false e = refl

-- what was saved, or zeros
module _ (h : Head) (g : saved_in_range h ≡ true) where
  abbrev v : Saved
  v = h.saved

  by-saved : (P : Option Exchange → Saved → Type 0) → P none none_saved → P (some (exchange_in v)) v → P (saved_in v) v
  by-saved P a b = go (eqb v.t4 0) g
    where
      go : (t : Bool) → cond t (saved_absent v) (timescale_in_range h v.timescale) ≡ true → P (cond t none (some (exchange_in v))) v
      go true k = subst⁻¹ (P none) (none-saved v k) a
      go false k = b

  pub saved-back : saved_of (saved_in v) ≡ v
  saved-back = by-saved (λ o w. saved_of o ≡ w) refl refl

  pub previous-back : previous (saved_in v) ≡ exchange_in v
  previous-back = by-saved (λ o w. previous o ≡ exchange_in w) refl refl

  pub server-back : saved_server (saved_in v) ≡ v.server.0
  server-back = by-saved (λ o w. saved_server o ≡ w.server.0) refl refl

-- the outstanding request, or zeros
request-back : (h : Head) → request_in_range h ≡ true → (outstanding_of (outstanding_in h) ≡ h.outstanding) × (request_of (outstanding_in h) ≡ h.request)
request-back h g = go (eqb h.outstanding 0) refl
  where
    go : (b : Bool) → eqb h.outstanding 0 ≡ b → (outstanding_of (cond b none (some (request_in h))) ≡ h.outstanding) × (request_of (cond b none (some (request_in h))) ≡ h.request)
    go true e = (sym (eqb-true _ _ e), sym (none-asked h.request ((and-eq-true_iff (request_absent h.request) (eqb h.missed 0)).0 (rw e at g)).0))
    go false e = (sym (asked-ranges h g (eqb-false _ _ e)).one, refl)

-- open numbers in range come back from their place
pub head-back : (h : Head) (f : List ℕ) → OpenRanges h → place_head (opened (opened_in h f)) ≡ h
head-back h f o =
    let q = request-back h o.request in
    λ i. record {
      state = edition-back h.state o.edition i;
      timescale = h.timescale;
      chunk = h.chunk;
      next = h.next;
      taken = count-first h.taken i;
      last = record { 0 = cookie-back h.last.0 i };
      outstanding = q.0 i;
      request = q.1 i;
      saved = saved-back h o.saved i;
      missed = h.missed;
    }

-- all numbers in range come back from their place
pub heads-back : HeadsBack
unfolding in_range
heads-back h f g = go (eqb h.state 0) refl
  where
    go : (b : Bool) → eqb h.state 0 ≡ b → place_head (cond b closed (opened (opened_in h f))) ≡ h
    go true e = closed-back h e (rw e at g)
    go false e = head-back h f (open-ranges h g (eqb-false _ _ e))

-- with one more chunk, as many octets were taken as the number says
pub count-onward : (h : Head) → OpenRanges h → h.request.offset ≡ h.next
    → taken_after h.taken h.chunk ≡ count_taken (paste (first_taken h.taken) h.request.offset (replicate h.chunk true) h.chunk)
count-onward h o e =
    rw (e, onward h.taken h.next h.chunk o.next-ends o.next o.taken, count-first (taken_after h.taken h.chunk))
