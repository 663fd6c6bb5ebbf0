-- `answer` meets its contract: each test is one of the definition's, and what is left is written. Assumes nothing.
use mathlib.Core.Path.{◌≡◌, sym, ap, ◌∙◌}
use mathlib.Core.Bool.{Bool, false}
use mathlib.Core.List.{List, [], ◌++◌}
use Prim.Native.Nat.{ℕ}
use lib.ListN.{length, drop}
use Rattle.std.proofs.lemmas.Result.{err_from_is_err_and}
use Rattle.header.specs.declared.Header.{Header}
use Rattle.header.specs.Header.{header_at}
use Rattle.header.proofs.Layouts.{header-at}
use Rattle.store_rules.specs.Row.{row_of, size_of, store_octets, wrong_store}
use Rattle.responder_rules.specs.Answer.{given_as, Given, asking, row_after, first_refusal, wrong_fresh}
use Rattle.responder_rules.specs.Claim.{Accepted}
use Rattle.responder_rules.proofs.Accepting.{first-pass}
use Rattle.responder.proofs.Writing.{request-size}
use Rattle.responder.proofs.Deciding.{refused-first, right-store, refused-fresh, refused-room, answered, lent-size, lent_back, header-held, octets-sent}
use borrow.Author.Rules.{rules}
use Rattle.responder.proofs.answer.Goals as goal
use Rattle.responder.proofs.answer.Goals.{In_ok-check_with_store}

-- what the call is given
abbrev given_at : In_ok-check_with_store → Given
given_at c = given_as c.args.given c.args.edition

-- none of the first refusals holds: the store is right, and so are the arguments and the request
right : (c : In_ok-check_with_store) → wrong_store c.args.store.now ≡ false
right c = right-store (given_at c) _ [] c.in_ok-check_with_store.ensures

zero : (c : In_ok-check_with_store) → first_refusal (given_at c) ≡ 0
zero c = sym (c.in_ok-check_with_store.ensures ∙ rw (right c))

passed : (c : In_ok-check_with_store) → Accepted (given_at c)
passed c = (first-pass (given_at c) (zero c)).accepted

-- the header read is the request's
asked_is : (c : In_ok-check_with_store) → header_at c.args.edition c.args.given.request.now ≡ asking (given_at c)
asked_is c = header-at _ _ (request-size _ (passed c).request).0

-- so that 8 is tested as the definition has it
fresh-test : (c : In_ok-check_with_store) {asked : Header} {wrong : Bool} → asked ≡ header_at c.args.edition c.args.given.request.now
    → wrong ≡ wrong_fresh asked c.args.given.fresh_cookie.0 (row_of c.args.store.now)
    → wrong_fresh (asking (given_at c)) c.args.given.fresh_cookie.0 (row_of c.args.store.now) ≡ wrong
fresh-test c a w = sym (w ∙ ap (λ (h : Header). wrong_fresh h c.args.given.fresh_cookie.0 (row_of c.args.store.now)) (a ∙ asked_is c))

pub returns-in_err-check_with_store : goal.returns-in_err-check_with_store
returns-in_err-check_with_store c =
    let p = err_from_is_err_and c.from_residual.result c.from_residual.ensures.1 in
    rw (p.1, p.2) (refused-first (given_as c.args.given c.args.edition) _ _ c.in_err-check_with_store.field-0.0 c.in_err-check_with_store.ensures)

pub returns-then-wrong_fresh : goal.returns-then-wrong_fresh
returns-then-wrong_fresh c =
    let first = (goal.at.returns-then-wrong_fresh c).In_ok-check_with_store in
    refused-fresh (given_at first) _ _ (right first) (zero first) (fresh-test first c.fields-asked.ensures c.wrong_fresh.ensures ∙ c.if-wrong_fresh.true)

pub returns-then-out-n : goal.returns-then-out-n
returns-then-out-n c =
    let first = (goal.at.returns-then-out-n c).In_ok-check_with_store in
    refused-room (given_at first) _ _ (right first) (zero first) (fresh-test first c.fields-asked.ensures c.wrong_fresh.ensures ∙ c.if-wrong_fresh.false) c.if-out-n.true

pub write-requires : goal.write-requires
write-requires c =
    let first = (goal.at.write-requires c).In_ok-check_with_store in
    let ok = passed first in
    let held = header-held (given_at first) c.time-time.result ok (c.fields-asked.ensures ∙ asked_is first) c.header_of-header.ensures in
    (ok.request, ok.filter, ok.information, lent-size c.args.out.now (length c.args.given.request.now) c.if-out-n.false, rw c.header_of-header.ensures ok.leap, rw c.header_of-header.ensures, held)

pub overflow_cast-result : goal.overflow_cast-result
overflow_cast-result c =
    let size = request-size _ (passed (goal.at.overflow_cast-result c).In_ok-check_with_store).request in
    search rules

pub returns : goal.returns
returns c =
    let first = (goal.at.returns c).In_ok-check_with_store in
    let asked = c.fields-asked.ensures ∙ asked_is first in
    let a = c.args in
    let g = given_at first in
    let sent = octets-sent g (row_of a.store.now) asked c.time-time.ensures c.header_of-header.ensures c.write.ensures in
    answered g a.store.now a.out.now (right first) (zero first) (fresh-test first c.fields-asked.ensures c.wrong_fresh.ensures ∙ c.if-wrong_fresh.false) c.if-out-n.false
    (lent_back a.out.now c.write.new.out (length a.given.request.now) ∙ ap (λ (l : List ℕ). l ++ drop (length a.given.request.now) a.out.now) sent)
    (c.keep.ensures ∙ ap (λ (h : Header). store_octets (size_of a.store.now) (row_after h a.given.fresh_cookie.0 (size_of a.store.now) (row_of a.store.now))) asked)
