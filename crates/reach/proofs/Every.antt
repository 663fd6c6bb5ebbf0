-- Calls lead to every head in range. Assumes nothing.
use mathlib.Core.Path.{◌≡◌, refl, sym, ap, ◌∙◌, subst⁻¹}
use mathlib.Core.Bool.{Bool, true, false, cond, ◌&&◌, or-false, and-eq-true_iff}
use mathlib.Core.List.{List, []}
use mathlib.Core.Logic.{⊎_elim}
use mathlib.Core.Option.{Option, none, some}
use Prim.Native.Nat.{ℕ, zero, suc, ◌+◌, ◌≤◌, ◌<◌, min}
use native.Mathlib.Omega.{arith}
use borrow.Author.Tests.{eqb-true, eqb-false, ne_eqb, le-leb, leb-true}
use lib.Dec.{eqb, ltb, lit<}
use lib.ListN.{replicate}
use Rattle.header.specs.Edition.{edition_of, most_timescale}
use Rattle.chain.specs.Content.{chain_octets}
use Rattle.std.specs.Prelude.{None}
use Rattle.state.specs.Range.{in_range}
use Rattle.state.specs.Plain.{Outstanding, Opened, closed, opened, newly_opened, is_last, counted_by, saved_server, exchanged, place_do}
use Rattle.state.specs.Numbers.{HeadFits, place_head, cookie_in, saved_in, opened_in}
use Rattle.state.specs.declared.head.Head.{Head}
use Rattle.state.proofs.Chunks.{or_cases}
use Rattle.state.proofs.Ranges.{which, OpenRanges, open-ranges, AskedRanges, asked-ranges, none-missed}
use Rattle.state.proofs.Numbers.{head-back, heads-back, server-back}
use Rattle.state.specs.Event.{Open}
use Rattle.order.specs.Order.{after}
use Rattle.client_rules.specs.Call.{open_one}
use Rattle.client_rules.specs.Plain.{closed_table}
use Rattle.octets.proofs.Parts.{replicate-at}
use Rattle.reach.specs.Reach.{EveryInRange}
use Rattle.client_rules.proofs.Demand3.{head-reached}
use Rattle.reach.proofs.Datagram.{none_found}
use Rattle.reach.proofs.Calls.{From, call, Polls, ask, round}
use Rattle.reach.proofs.Rounds.{choose, none_outstanding, Leads, rounds}
use Rattle.octets.proofs.Tests.{by-outcome, same_test}

module _ {a : ℕ} (inside : a < 16) (h : Head) (fits : HeadFits h) (r : OpenRanges h) where
  -- the last cookie is 0 exactly if nothing is outstanding and nothing was saved
  last-test : eqb h.last.0 0 ≡ eqb h.outstanding 0 && eqb h.saved.t4 0
  last-test = same_test _ _ r.last

  -- else it may be polled with
  last-polls : {last : Option ℕ} → eqb h.outstanding 0 && eqb h.saved.t4 0 ≡ false → is_last h.last.0 last ≡ false → Polls h.last.0 last
  last-polls e n = record { nonzero = eqb-false h.last.0 0 (last-test ∙ e); fits = fits.last; another = n }

  -- calls lead to the head from its place as it was before the last request
  abbrev Before : List ℕ → Option ℕ → Type 0
  Before f last = From a (opened (none_outstanding h h.next h.taken f last (saved_in h.saved))) h

  -- no call is left
  there : (o : Opened) (f : List ℕ) → o ≡ opened_in h f → From a (opened o) h
  unfolding after
  there o f e = record { calls = []; typed = tt; leads = λ ps n at. ap place_head at ∙ ap (λ (p : Opened). place_head (opened p)) e ∙ head-back h f r }

  -- the place with a request q outstanding, or none, after n missed polls
  abbrev unanswered : List ℕ → Option ℕ → Option Outstanding → ℕ → Opened
  unanswered f last q n = exchanged (none_outstanding h h.next h.taken f last (saved_in h.saved)) last q (saved_in h.saved) n

  -- nothing is outstanding
  none_left : (f : List ℕ) (last : Option ℕ) → eqb h.outstanding 0 ≡ true → cookie_in h.last.0 ≡ last → From a (opened (unanswered f last none 0)) h
  none_left f last t e = there _ f (rw (t, e, none-missed h r.request (eqb-true _ _ t)))

  module _ (e : eqb h.outstanding 0 ≡ false) where
    abbrev asked : AskedRanges h
    asked = asked-ranges h r.request (eqb-false _ _ e)

    -- the request that is outstanding, which sent server cookie 0 or the saved one
    last-poll : (f : List ℕ) (last : Option ℕ) (q : Option Outstanding) (n : ℕ) → is_last h.last.0 last ≡ false → counted_by q n ≡ h.missed
        → From a (opened (unanswered f last q n)) h
    last-poll f last q n z m =
        let p = last-polls {last = last} (rw e) z in
        let by : (i : Bool) → cond (i && ltb h.missed 4) (saved_server (saved_in h.saved)) 0 ≡ h.request.server.0 → From a (opened (unanswered f last q n)) h =
        λ i s. ask inside h _ h.last.0 h.request.t1 i p fits.t1 (there _ f (rw (e, ne_eqb h.last.0 0 p.nonzero, asked.offset, m, s))) in
        or_cases (eqb h.request.server.0 0) _
        (λ s. by false (sym (eqb-true _ _ s)))
        (λ s. let few = (and-eq-true_iff (eqb h.request.server.0 h.saved.server.0) (ltb h.missed 4)).0 s in
        by true (rw few.1 (server-back h r.saved ∙ sym (eqb-true _ _ few.0))))
        asked.server

    -- n polls were missed, and d more are with the one that is outstanding
    missing : (d n : ℕ) → n + 1 + d ≡ h.missed → (f : List ℕ) (last : Option ℕ) (q : Outstanding) → is_last h.last.0 last ≡ false
        → From a (opened (unanswered f last (some q) n)) h
    missing zero n m f last q z = last-poll f last (some q) n z (omega (arith, asked.missed))
    missing (suc d) n m f last q z =
        let k = choose h.last.0 last in
        let more : min 8 (n + 1) ≡ n + 1 = omega (arith, asked.missed) in
        ask inside h _ k.cookie 0 false k.polls (lit< tt) (rw more (missing d (n + 1) (omega arith) f (some k.cookie) _ k.before))

    asking : (f : List ℕ) (last : Option ℕ) → is_last h.last.0 last ≡ false → Before f last
    asking f last z = go h.missed refl
      where
        go : (n : ℕ) → h.missed ≡ n → Before f last
        go zero m = last-poll f last none 0 z (sym m)
        go (suc n) m =
            let k = choose h.last.0 last in
            ask inside h _ k.cookie 0 false k.polls (lit< tt) (missing n 0 (omega arith) f (some k.cookie) _ k.before)

  -- nothing was saved, so that nothing was taken
  unsaved : eqb h.saved.t4 0 ≡ true → From a (opened (newly_opened (edition_of h.state) h.timescale h.chunk)) h
  unsaved e =
      let taken = eqb-true h.taken 0 (rw (e, or-false) at r.taken-saved) in
      let next : h.next ≡ 0 = ⊎_elim (λ k. omega arith) (λ k. omega arith) r.taken in
      let same : newly_opened (edition_of h.state) h.timescale h.chunk ≡ none_outstanding h h.next h.taken (replicate 512 0) none (saved_in h.saved) = rw (next, taken, e) in
      subst⁻¹ (λ (o : Opened). From a (opened o) h) same
      (by-outcome (eqb h.outstanding 0) (λ t. none_left (replicate 512 0) none t (rw (last-test, t, e))) (λ t. asking t _ none refl))

  -- something was saved: rounds that each take a chunk, and one without, by the last cookie if no request is outstanding
  saved : eqb h.saved.t4 0 ≡ false → From a (opened (newly_opened (edition_of h.state) h.timescale h.chunk)) h
  unfolding chain_octets
  saved e = rounds inside h fits r timescale nonzero ends (replicate 512 0) none none refl
    where
      timescale : h.saved.timescale ≤ most_timescale (edition_of h.state)
      timescale = leb-true _ _ (rw e at r.saved)

      nonzero : h.saved.t4 ≡ 0 → ⊥
      nonzero = eqb-false _ _ e

      ends : Leads a h h.next h.taken
      ends f last v n =
          let once : (k : ℕ) → Polls k last → Before f (some k) → From a (opened (none_outstanding h h.next h.taken f last v)) h =
          λ k p l. round inside h fits nonzero (none_outstanding h h.next h.taken f last v) timescale k p [] tt tt tt (omega arith) None (none_found (edition_of h.state)) (rw e at l) in
          by-outcome (eqb h.outstanding 0)
          (λ t. let z = last-polls (rw (t, e)) n in once h.last.0 z (none_left f _ t (rw (ne_eqb h.last.0 0 z.nonzero))))
          (λ t. let k = choose h.last.0 last in once k.cookie k.polls (asking t f _ k.before))

  open-from-closed : From a closed h
  unfolding place_do
  open-from-closed =
      let high = r.chunk-high in
      let edition : h.state < 256 = ⊎_elim (λ k. omega arith) (λ k. omega arith) (which h.state 1 7 r.edition) in
      call inside (open_one a h.state h.timescale h.chunk) (Open h.state h.timescale h.chunk) [] (omega arith, edition, r.timescale-octet, omega arith) (λ ps at. refl)
      (rw (r.edition, le-leb _ _ r.timescale, r.chunk))
      (by-outcome (eqb h.saved.t4 0) unsaved saved)

-- an open head or a closed one
head-from-closed : {a : ℕ} → a < 16 → (h : Head) → HeadFits h → in_range h ≡ true → From a closed h
unfolding after
head-from-closed inside h fits g =
    by-outcome (eqb h.state 0)
    (λ e. record { calls = []; typed = tt; leads = λ ps n at. ap place_head at ∙ rw e at (heads-back h [] g) })
    (λ e. open-from-closed inside h fits (open-ranges h g (eqb-false _ _ e)))

pub every-in-range : EveryInRange
every-in-range a inside h fits g =
    let l = head-from-closed inside h fits g in
    record {
      calls = l.calls;
      typed = l.typed;
      leads = λ t n. head-reached t n l.calls l.typed a inside ∙ l.leads closed_table refl (replicate-at 16 a closed);
    }
