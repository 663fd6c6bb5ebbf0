use mathlib.Core.Path.{refl, ◌∙◌}
use native.Mathlib.Omega.{arith}
use Rattle.words.proofs.Problems.{some_problem}
use Rattle.rows.proofs.Finding.{fault-first, fault-here, fault-next, fault-none}
use Rattle.rows.proofs.check.Goals as goal

pub loop-i-init : goal.loop-i-init
loop-i-init c = let a = c.args in λ call. fault-first call a.line.now a.signature.now

pub returns-in-Err : goal.returns-in-Err
returns-in-Err c =
    λ call. fault-here call c.loop-i.i _ _ _ (c.in-Err.ensures ∙ rw (c.get.ensures, c.piece-word.ensures)) _ (omega arith) (some_problem _)
    ∙ c.loop-i.invariant call

pub loop-i-preserved : goal.loop-i-preserved
loop-i-preserved c =
    λ call. fault-next call c.loop-i.i _ _ _ (c.in_default.ensures ∙ rw (c.get.ensures, c.piece-word.ensures)) _ _ (omega arith) refl
    ∙ c.loop-i.invariant call

pub returns : goal.returns
returns c = λ call. fault-none call c.loop-i.i _ _ _ (omega arith) ∙ c.loop-i.invariant call
