-- `find` meets its contract: the place is where the first such octet stands. Assumes nothing.
use Rattle.std.proofs.Common.{◌<◌, ◌+◌, length, sym, ◌∙◌, arith}
use Rattle.text.proofs.Places.{place_here, place_end}
use Rattle.text.proofs.find.Goals as goal

pub overflow_add-result : goal.overflow_add-result
overflow_add-result c =
    let a = c.args in
    let h : a.at + c.in-Some.i < length a.text.now = (place_here _ _ _ _ _ c.rest.ensures _ (sym c.in-Some.is ∙ c.first.ensures)).0 in
    omega arith

pub returns-in-Some : goal.returns-in-Some
returns-in-Some c =
    (place_here _ _ _ _ _ c.rest.ensures _ (sym c.in-Some.is ∙ c.first.ensures)).1

pub returns-in-None : goal.returns-in-None
returns-in-None c = place_end _ _ _ _ _ c.rest.ensures (sym c.in-None.is ∙ c.first.ensures)
