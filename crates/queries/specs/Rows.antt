-- The calls by the numbers of their rows.
use Rattle.std.specs.Prelude.{ℕ, eqb, cond, Option, Some, None}
use Rattle.std.specs.Option.{unwrap_or}
use Rattle.queries.specs.declared.Query.{Query}
use Rattle.queries.specs.declared.Query.TheVariants.{Header, Write, Sound, Add, Union, Weight, Measure, Verdict, Publish}

abbrev pub query_at : ℕ → Option Query
query_at n =
    cond (eqb n 0) (Some Header)
    (cond (eqb n 1) (Some Write)
    (cond (eqb n 2) (Some Sound)
    (cond (eqb n 3) (Some Add)
    (cond (eqb n 4) (Some Union)
    (cond (eqb n 5) (Some Weight)
    (cond (eqb n 6) (Some Measure)
    (cond (eqb n 13) (Some Verdict)
    (cond (eqb n 14) (Some Publish)
    None))))))))

-- the call of any number: a verdict where it is that of no row
abbrev pub query_for : ℕ → Query
query_for n = unwrap_or (query_at n) Verdict
