-- What a step decides, by value. The contracts of the calls do not cite it.
use Rattle.std.specs.Prelude.{Result, Ok, Err, Bool, true, false, cond, not, ◌&&◌, ◌||◌, ℕ, eqb, ltb}
use Rattle.header.specs.declared.Header.{Header}
use Rattle.header.specs.declared.ServerCookie.{ServerCookie}
use Rattle.responder_rules.specs.Answer.{wants_interleaved, refused_answer}
use Rattle.std.specs.Option.{is_some, unwrap_or}
use Rattle.answer_plan.specs.Step.{AnswerStep}
use Rattle.answer_plan.specs.declared.Plan as code
use Rattle.answer_plan.specs.declared.Plan.TheVariants.{Basic, Interleaved}

-- what a step returns, and whether the records stay; if not, the place of the record that leaves (past the end, none) before the fresh cookie joins
pub record Plan : Type 0 where
  pub step : AnswerStep
  pub unchanged : Bool
  pub leaving : ℕ

-- the server cookie of a request; 0 where it is refused
abbrev pub request_cookie : {E : Type 0} → Result Header E → ServerCookie
request_cookie (Ok asked) = asked.server_cookie
request_cookie (Err n) = record { 0 = 0 }

-- the records stay, of which there are n: a refusal, or a basic answer that is not refused
abbrev pub unchanged_plan : (refusal n : ℕ) → Plan
unchanged_plan refusal n = record { step = record { refusal = refusal; saved = 0 }; unchanged = true; leaving = n }

-- what the code plans on n records
abbrev pub plan_as : (n : ℕ) → Result code.Plan ℕ → Plan
plan_as n (Err refusal) = unchanged_plan refusal n
plan_as n (Ok Basic) = unchanged_plan 0 n
plan_as n (Ok (Interleaved saved leaving)) = record { step = record { refusal = 0; saved = saved }; unchanged = false; leaving = unwrap_or leaving n }

-- and whether a record is to leave: `plan_as` makes one of none and of a record past the end
abbrev pub leaves : Result code.Plan ℕ → Bool
leaves (Err refusal) = false
leaves (Ok Basic) = false
leaves (Ok (Interleaved saved leaving)) = is_some leaving

-- what an answer that is not refused does, with the place and the time of the request's cookie
abbrev pub keeping_plan : (wants : Bool) (n at time : ℕ) → Plan
keeping_plan true n at time = record { step = record { refusal = 0; saved = time }; unchanged = false; leaving = cond (eqb time 0) n at }
keeping_plan false n at time = unchanged_plan 0 n

-- a request with its header: the fresh cookie and the request's stand at `fresh_at` and `at` of n records, or past the end
abbrev pub plan_for : (wrong : Bool) (asked : Header) (short : Bool) (fresh_cookie : ServerCookie) (n fresh_at at time : ℕ) → Plan
plan_for wrong asked short fresh_cookie n fresh_at at time =
    let refusal = refused_answer wrong 0 (wants_interleaved asked && (eqb fresh_cookie.0 0 || ltb fresh_at n)) short in
    cond (eqb refusal 0) (keeping_plan (wants_interleaved asked) n at time) (unchanged_plan refusal n)

-- any request
abbrev pub plan_of : (wrong : Bool) (request : Result Header ℕ) (short : Bool) (fresh_cookie : ServerCookie) (n fresh_at at time : ℕ) → Plan
plan_of wrong (Ok asked) short fresh_cookie n fresh_at at time = plan_for wrong asked short fresh_cookie n fresh_at at time
plan_of wrong (Err number) short fresh_cookie n fresh_at at time = unchanged_plan (refused_answer wrong number false false) n

-- a plan, and whether a record is to leave in it: the one whose saved time is sent
abbrev pub planned : Plan → Plan × Bool
planned p = (p, not (eqb p.step.saved 0))
