-- `answer_to` meets its contract: what each role is answered with is one field, or none. Assumes nothing.
use mathlib.Core.Path.{◌≡◌, subst}
use Prim.Native.Nat.{◌+◌}
use native.Mathlib.Omega.{arith}
use lib.ListN.{length, take}
use lib.Seq.{length-take-le}
use Rattle.chain.specs.Content.{chain_octets, draft_name}
use Rattle.field_role.specs.Role.{SizeAllowed}
use Rattle.field_role.proofs.Roles.{good-parts}
use Rattle.field_write.proofs.Writing.{written_none}
use Rattle.answer_fields.proofs.Writing.{name-cut, source-written, part-written}
use Rattle.answer_fields.proofs.answer_to.Goals as goal

pub returns-in-FilterRequest : goal.returns-in-FilterRequest
returns-in-FilterRequest c =
    let a = c.args in
    let from = c.in-FilterRequest.offset in
    let n = a.field.size in
    -- a filter request that is answered is good
    let inside = (good-parts from n (subst (SizeAllowed a.field) c.in-FilterRequest.is c.requires.0)).inside in
    let filter = c.requires.1.filter in
    rw c.in-FilterRequest.is (part-written a.out.now a.given.filter.now a.at 0xF504 from (from + n) n (omega arith) (omega arith) (omega arith) (omega arith) c.requires.2 c.put.ensures)

pub returns-in-Information : goal.returns-in-Information
returns-in-Information c =
    let a = c.args in
    let four = subst (SizeAllowed a.field) c.in-Information.is c.requires.0 in
    let information = c.requires.1.information in
    rw c.in-Information.is (source-written a.out.now a.given.information.now a.at 0xF505 (omega arith) (omega arith) c.put-in-Information.ensures)

pub returns-in-DraftName : goal.returns-in-DraftName
unfolding draft_name
returns-in-DraftName c =
    let a = c.args in
    let k = c.min-k.result in
    let e = c.min-k.ensures in
    let long : length (take k draft_name) ≡ k = length-take-le k draft_name (omega arith) in
    rw (c.in-DraftName.is, ← name-cut, ← e) (source-written a.out.now (take k draft_name) a.at 0xF5FF (omega arith) (omega arith) c.put-in-DraftName.ensures)

pub returns-in-Unknown : goal.returns-in-Unknown
unfolding chain_octets
returns-in-Unknown c = rw c.in-Unknown.is (written_none _ _)
