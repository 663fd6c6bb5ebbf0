-- The records before the first that has the cookie are passed.
use Rattle.std.proofs.Common.{◌≡◌, ◌-◌, List, length, take, drop, arith, sym, ap, ◌∙◌, rules}
use borrow.Author.Tests.{tests}
use lib.Seq.{take_all}
use lib.ListN.{length-drop}
use Rattle.std.specs.Option.{unwrap_or}
use Rattle.std.proofs.lemmas.Iterator.{YieldsList-from_slice}
use Rattle.std.proofs.lemmas.Iterator.Search.{position_from_yields_List}
use Rattle.records.specs.declared.Record.{Record as Slot}
use Rattle.records.proofs.Slots.{has_cookie, place_after, place_end}
use Rattle.records.proofs.find.Goals as goal

pub returns-then-records-from : goal.returns-then-records-from
returns-then-records-from c = sym (place_end c.args.records.now c.args.cookie.0 c.args.from (omega arith))

pub returns : goal.returns
returns c =
    let a = c.args in
    let rs = a.records.now in
    let e : take (length rs - a.from) (drop a.from rs) ≡ drop a.from rs = take_all (length rs - a.from) (drop a.from rs) (omega (arith, length-drop a.from rs)) in
    place_after rs a.cookie.0 a.from c.position-passed.result c.unwrap_or.result
    (position_from_yields_List (has_cookie a.cookie.0) _ _ c.position-passed.result c.position-passed.ensures.ran (YieldsList-from_slice (drop a.from rs) (c.iter.ensures.rest ∙ e)) (λ x b q k. search (rules, tests)))
    (c.unwrap_or.ensures ∙ ap (λ (l : List Slot). unwrap_or c.position-passed.result (length l)) e)
