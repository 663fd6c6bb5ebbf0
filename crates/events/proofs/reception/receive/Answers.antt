-- `receive` meets its contract: the tests say which case holds. Assumes nothing.
use mathlib.Core.Path.{◌≡◌, refl, sym, ap, ◌∙◌}
use mathlib.Core.Bool.{Bool, true, false, cond, not, ◌||◌}
use Prim.Native.Nat.{ℕ}
use lib.Dec.{eqb}
use borrow.Author.Tests.{ne_eqb, eqb-false}
use Rattle.exchange.specs.Response.{response_as}
use Rattle.state.proofs.Changes.{refused, done}
use Rattle.events.proofs.Placed.{asked, untimed, not-open, unread-by, unread-refuses}
use Rattle.octets.proofs.Tests.{or-none}
use Rattle.events.proofs.reception.receive.Goals as goal
use Rattle.events.proofs.reception.receive.Goals.{Then-h-ne, Else-h-ne}
use Rattle.events.proofs.reception.receive.Given.{Over}
use Rattle.state.specs.Change.{refuse}
use Rattle.state.specs.declared.head.Head.{Head}
use Rattle.state.proofs.Ranges.{open-ranges}

module _ (g : Over) where
  abbrev number : g.row.R.Denot → ℕ
  number = g.R.RefusedBy.as_number

  -- what refuses has the refusal's number, and 0 is none
  abbrev refuses : {x n : ℕ} (h : Head) → x ≡ n → refuse x h ≡ refuse n h
  refuses h e = ap (λ (n : ℕ). refuse n h) e

  abbrev told : {x n : ℕ} → x ≡ n → not (eqb x 0) ≡ not (eqb n 0)
  told e = ap (λ (n : ℕ). not (eqb n 0)) e

  -- the test of the request and its cookie, in numbers
  other_request : (c : Then-h-ne g) → eqb c.args.h.outstanding 0 || not (eqb c.in-Ok.r.client.0 c.args.h.last.0) ≡ true
  other_request c = ap (λ (b : Bool). eqb c.args.h.outstanding 0 || b) (sym c.ne.ensures) ∙ c.if-h-ne.true

  same-request : (c : Else-h-ne g) → eqb c.args.h.outstanding 0 || not (eqb c.in-Ok.r.client.0 c.args.h.last.0) ≡ false
  same-request c = ap (λ (b : Bool). eqb c.args.h.outstanding 0 || b) (sym c.ne.ensures) ∙ c.if-h-ne.false

pub returns-then-t4-eq0 : goal.returns-then-t4-eq0
returns-then-t4-eq0 g c =
    let a = c.args in
    (record { does = refused 6 (refuses g a.h c.«of».ensures) refl (λ datagram f. untimed (number g) a.response a.t4 a.h datagram f c.if-t4-eq0.true); kind = refl }, told g c.«of».ensures)

pub returns-then-h-eq0 : goal.returns-then-h-eq0
returns-then-h-eq0 g c =
    let a = c.args in
    (record { does = refused 7 (refuses g a.h c.of-then-h-eq0.ensures) refl (λ datagram f. not-open (number g) a.response a.t4 a.h datagram f c.if-t4-eq0.false c.if-h-eq0.true); kind = refl }, told g c.of-then-h-eq0.ensures)

pub returns-in-Err : goal.returns-in-Err
returns-in-Err g c =
    let a = c.args in
    let n = number g c.in-Err.by in
    let o = open-ranges a.h c.requires c.if-h-eq0.false in
    let not-0 = unread-refuses n in
    rw c.in-Err.is
    (record { does = refused (cond (eqb n 0) 9 n) (refuses g a.h c.datagram_refusal.ensures) not-0 (λ datagram f. unread-by n a.t4 a.h datagram f c.if-t4-eq0.false c.if-h-eq0.false o.last); kind = refl }, told g c.datagram_refusal.ensures ∙ ap not not-0)

pub returns-then-h-ne : goal.returns-then-h-ne
returns-then-h-ne g c =
    let a = c.args in
    rw c.in-Ok.is (
      record {
        does = refused 9 (refuses g a.h c.of-then-h-ne.ensures) refl (λ datagram f. asked (response_as c.in-Ok.r a.t4) a.h datagram f c.if-t4-eq0.false c.if-h-eq0.false refl
            ∙ rw (other_request g (goal.at.returns-then-h-ne g c).Then-h-ne, ne_eqb _ _ c.if-h-eq0.false));
        kind = refl;
      },
      told g c.of-then-h-ne.ensures,
    )

pub returns-then-r-server : goal.returns-then-r-server
returns-then-r-server g c =
    let a = c.args in
    rw c.in-Ok.is (
      record {
        does = refused 10 (refuses g a.h c.of-then-r-server.ensures) refl (λ datagram f. asked (response_as c.in-Ok.r a.t4) a.h datagram f c.if-t4-eq0.false c.if-h-eq0.false refl
            ∙ rw (same-request g (goal.at.returns-then-r-server g c).Else-h-ne, c.if-r-server.true, ne_eqb _ _ c.if-h-eq0.false));
        kind = refl;
      },
      told g c.of-then-r-server.ensures,
    )

pub accept-requires : goal.accept-requires
accept-requires g c = (c.requires, c.if-h-eq0.false, eqb-false _ _ (or-none _ _ c.if-h-ne.false).0)

pub returns : goal.returns
returns g c =
    let a = c.args in
    rw c.in-Ok.is (
      record {
        does = done c.accept.ensures.0 (λ datagram f. asked (response_as c.in-Ok.r a.t4) a.h datagram f c.if-t4-eq0.false c.if-h-eq0.false refl
            ∙ rw (same-request g (goal.at.returns g c).Else-h-ne, c.if-r-server.false)) refl;
        kind = c.accept.ensures.1;
      },
      refl,
    )
