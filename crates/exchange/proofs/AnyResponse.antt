-- Times, judgement and outcome look at no refusal, and at no place beside no chunk. Assumes nothing.
use mathlib.Core.Path.{◌≡◌, refl}
use mathlib.Core.Bool.{Bool, true, false, cond}
use Prim.Native.Nat.{ℕ}
use lib.Dec.{eqb}
use Rattle.std.specs.Prelude.{Option, Some, None}
use Rattle.chain.specs.declared.cursor.Field.{Field}
use Rattle.exchange.specs.AnyResponse.{AnyJudged, response_read}
use Rattle.exchange.specs.Response.{Response, response_as, is_there, size_of}
use Rattle.exchange.specs.Judging.{outcome_of}

-- with its chunk, or with none
same-outcome : (r : Response) (t4 chunk : ℕ) → outcome_of (response_as (response_read r) t4) chunk ≡ outcome_of r chunk
same-outcome r t4 chunk = go r.present
  where
    field : Bool → Option Field
    field b = cond b (Some (record { kind = 0xF504; start = r.start; size = r.size })) None

    go : (b : Bool) → ◌≡◌ {A = ℕ} (cond (is_there (field b)) (cond (eqb (size_of (field b)) chunk) 1 3) 2) (cond b (cond (eqb r.size chunk) 1 3) 2)
    go true = refl
    go false = refl

pub any-judged : AnyJudged
any-judged r = record { times = λ t1 p1 p2 p4. refl; judgement = λ t4 timescale previous t. refl; outcome = same-outcome r }
