-- What a response's judgement 5 says, W206-5 and W206-6, whatever the response, the timescales and the times.
use Rattle.std.specs.Prelude.{◌≡◌, true, ◌↔◌, ℕ, ◌≤◌}
use Rattle.measure.specs.Measure.{measurement}
use Rattle.exchange.specs.Judging.{judged}
use Rattle.exchange.specs.Response.{Response}
use Rattle.exchange.specs.declared.judging.Times.{Times}

-- none of the reasons C-23 to C-26 applies, and one of the four differences is half an era, W206-3
pub record HalfEraFirst (r : Response) (timescale previous : ℕ) (t : Times) : Type 0 where
  pub synchronized : r.leap ≡ 3 → ⊥
  pub stratum : (1 ≤ r.stratum) × (r.stratum ≤ 15)
  pub same-timescale : (r.timescale ≡ timescale) × (r.interleaved ≡ true → previous ≡ timescale)
  pub known : (t.t1 ≡ 0 → ⊥) × (t.t2 ≡ 0 → ⊥) × (t.t3 ≡ 0 → ⊥) × (t.t4 ≡ 0 → ⊥)
  pub apart : (measurement t.t1 t.t2 t.t3 t.t4).judgement ≡ 5

-- W206-6
abbrev pub HalfEraJudged : Type 0
HalfEraJudged = (r : Response) (timescale previous : ℕ) (t : Times) → judged r timescale previous t ≡ 5 ↔ HalfEraFirst r timescale previous t
