-- What an event answers.
use Rattle.std.specs.Prelude.{Bool, ℕ}
use Rattle.poll_request.specs.declared.Asked.{Asked}
use Rattle.exchange.specs.declared.judging.Times.{Times}

-- what it does not speak of is 0
pub record Reply : Type 0 where
  pub refusal : ℕ
  -- of a poll
  pub asked : Asked
  -- of a response: its judgement, the chunk's outcome, and the times of its measurement
  pub judgement : ℕ
  pub outcome : ℕ
  pub times : Times
  -- of a look: whether the filter is complete
  pub complete : Bool
