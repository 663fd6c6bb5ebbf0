use Rattle.std.proofs.Common.{◌≡◌, ◌+◌, ◌-◌, ◌≤◌, length, sym, ◌∙◌, arith, eqb-true}
use borrow.Author.Tests.{eqb-false}
use Rattle.words.proofs.Writing.{allowed-room, write-turned, write_done, write-wrong, write-next}
use Rattle.words.proofs.octet_word.write_runs.Goals as goal
use Rattle.words.proofs.octet_word.write_runs.Goals.{In-Ok}

pub loop-turn-init : goal.loop-turn-init
loop-turn-init c = let a = c.args in let z : length a.word.now - 0 ≡ length a.word.now = omega arith in (omega arith, rw z)

pub returns-then-is_empty : goal.returns-then-is_empty
returns-then-is_empty c =
    let l = c.loop-turn in
    let h = eqb-true (length l.text.now) 0 (sym c.is_empty.ensures ∙ c.if-is_empty.true) in
    write_done l.buffer l.count _ l.text.now (omega arith) ∙ l.invariant.1

-- a run that is written has room
room : (c : In-Ok) → c.loop-turn.count + c.in-Ok.run'.times ≤ 4096
room c = allowed-room _ _ _ _ c.loop-turn.invariant.0 c.in-Ok.ensures

pub returns-in-Err : goal.returns-in-Err
returns-in-Err c =
    let l = c.loop-turn in
    let h = eqb-false (length l.text.now) 0 (sym c.is_empty.ensures ∙ c.if-is_empty.false) in
    write-wrong l.buffer l.count l.text.now (omega arith) _ (omega arith) _ c.in-Err.ensures ∙ l.invariant.1

pub fill-requires : goal.fill-requires
fill-requires c = room (goal.at.fill-requires c).In-Ok

pub overflow_add-count : goal.overflow_add-count
overflow_add-count c = omega (arith, room (goal.at.overflow_add-count c).In-Ok)

pub loop-turn-preserved : goal.loop-turn-preserved
loop-turn-preserved c =
    let l = c.loop-turn in
    let h = eqb-false (length l.text.now) 0 (sym c.is_empty.ensures ∙ c.if-is_empty.false) in
    let z : length c.args.word.now - (l.turn + 1) ≡ (length c.args.word.now - l.turn) - 1 = omega arith in (
      room (goal.at.loop-turn-preserved c).In-Ok,
      rw z (write-next l.buffer l.count l.text.now (omega arith) _ _ _ (omega arith) c.in-Ok.ensures _ _ _ c.pair.ensures c.fill.ensures c.rest-text.ensures) ∙ l.invariant.1,
    )

pub returns : goal.returns
returns c =
    let l = c.loop-turn in
    write-turned l.buffer l.count _ l.text.now (omega arith) ∙ l.invariant.1
