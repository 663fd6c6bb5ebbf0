-- `poll` meets its contract: the tests say which case holds, and open numbers in range fit and come back from their place. Assumes nothing.
use mathlib.Core.Path.{◌≡◌, refl, sym, ap, ◌∙◌}
use mathlib.Core.Bool.{Bool, true, false, ◌||◌}
use lib.Dec.{eqb}
use mathlib.Core.List.{[]}
use native.Mathlib.Omega.{arith}
use borrow.Author.Tests.{lt-ltb, le-ltb, eq-eqb, ne_eqb}
use Rattle.header.specs.Edition.{edition_of}
use Rattle.header.specs.declared.edition.Edition.{Edition}
use Rattle.poll_request.specs.Request.{poll_length}
use Rattle.state.specs.Rules.{poll_reply}
use Rattle.state.specs.Plain.{opened, polled, sent_cookie, place_do}
use Rattle.state.specs.Numbers.{opened_in}
use Rattle.state.proofs.Ranges.{edition-back, OpenRanges, open-ranges}
use Rattle.state.proofs.Flags.{count-first}
use Rattle.state.proofs.Numbers.{is-last, saved-back}
use Rattle.state.proofs.Changes.{refused, done}
use Rattle.events.proofs.poll.Goals as goal
use Rattle.events.proofs.poll.Goals.{After-poll_length, Then-cookie-eq, Else-cookie-eq}

pub returns-then-h-eq0 : goal.returns-then-h-eq0
unfolding place_do
returns-then-h-eq0 c = record { does = refused 7 refl refl (λ datagram f. rw (eq-eqb _ _ c.if-h-eq0.true)); kind = refl }

-- the test of the cookie, in numbers
last_again : (c : Then-cookie-eq) → eqb c.args.cookie.0 0 || eqb c.args.cookie.0 c.args.h.last.0 ≡ true
last_again c = ap (λ (b : Bool). eqb c.args.cookie.0 0 || b) (sym c.eq.ensures) ∙ c.if-cookie-eq.true

another : (c : Else-cookie-eq) → eqb c.args.cookie.0 0 || eqb c.args.cookie.0 c.args.h.last.0 ≡ false
another c = ap (λ (b : Bool). eqb c.args.cookie.0 0 || b) (sym c.eq.ensures) ∙ c.if-cookie-eq.false

pub returns-then-cookie-eq : goal.returns-then-cookie-eq
unfolding place_do
returns-then-cookie-eq c =
    record { does = refused 8 refl refl (λ datagram f. rw (ne_eqb _ _ c.if-h-eq0.false, is-last c.args.cookie.0 c.args.h.last.0, last_again c)); kind = refl }

-- the numbers are those of an open association
opened-at : (c : Else-cookie-eq) → OpenRanges c.args.h
opened-at c = open-ranges c.args.h c.requires c.if-h-eq0.false

pub overflow_cast-h : goal.overflow_cast-h
overflow_cast-h c = let o = opened-at (goal.at.overflow_cast-h c).Else-cookie-eq in omega arith

-- a poll's length, by the place's edition
length_at : (c : After-poll_length) → let h = c.args.h in c.poll_length.result ≡ poll_length (edition_of h.state) h.chunk
length_at c = let h = c.args.h in c.poll_length.ensures ∙ ap (λ (e : Edition). poll_length e h.chunk) c.edition_of-edition.ensures

pub returns-then-room-poll_length : goal.returns-then-room-poll_length
unfolding place_do
returns-then-room-poll_length c =
    let a = c.args in
    record { does = refused 11 refl refl (λ datagram f. rw (ne_eqb _ _ c.if-h-eq0.false, is-last a.cookie.0 a.h.last.0, another (goal.at.returns-then-room-poll_length c).Else-cookie-eq, ← length_at (goal.at.returns-then-room-poll_length c).After-poll_length, lt-ltb _ _ c.if-room-poll_length.true)); kind = refl }

pub sent_server-server-requires : goal.sent_server-server-requires
sent_server-server-requires c = ((opened-at (goal.at.sent_server-server-requires c).Else-cookie-eq).saved, c.missed_counted-missed.ensures)

pub overflow_cast-asked : goal.overflow_cast-asked
overflow_cast-asked c = let o = opened-at (goal.at.overflow_cast-asked c).Else-cookie-eq in omega arith

pub overflow_cast-asked-2 : goal.overflow_cast-asked-2
overflow_cast-asked-2 c = let o = opened-at (goal.at.overflow_cast-asked-2 c).Else-cookie-eq in omega arith

pub overflow_cast-asked-3 : goal.overflow_cast-asked-3
overflow_cast-asked-3 c = let o = opened-at (goal.at.overflow_cast-asked-3 c).Else-cookie-eq in omega arith

pub returns : goal.returns
unfolding place_do
returns c =
    let a = c.args in
    let h = a.h in
    let o = opened-at (goal.at.returns c).Else-cookie-eq in
    record {
      does =
          done {a = poll_reply (record { edition = edition_of h.state; timescale = h.timescale; chunk = h.chunk; offset = h.next; server = record { 0 = sent_cookie a.interleaved (opened_in h []) } })} {p = λ datagram f. opened (polled a.cookie.0 a.interleaved (opened_in h f))}
          (record { leaves = λ datagram f. rw (count-first h.taken, saved-back h o.saved, edition-back h.state o.edition, ← c.sent_server-server.ensures, ← c.missed_counted-missed.ensures, c.edition_of-edition.ensures) })
          (λ datagram f. rw (ne_eqb _ _ c.if-h-eq0.false, is-last a.cookie.0 h.last.0, another (goal.at.returns c).Else-cookie-eq, ← length_at (goal.at.returns c).After-poll_length, le-ltb _ _ c.if-room-poll_length.false))
          refl;
      kind = refl;
    }
