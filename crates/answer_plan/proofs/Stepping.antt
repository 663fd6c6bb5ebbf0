-- What a step decides by value, done to the records, is the step. Assumes nothing.
use mathlib.Core.Path.{◌≡◌, refl, sym, ap, ◌∙◌}
use mathlib.Core.Bool.{Bool, true, false, cond, ◌&&◌, ◌||◌}
use mathlib.Core.List.{List}
use Prim.Native.Nat.{ℕ, ◌≤◌}
use native.Mathlib.Omega.{arith}
use borrow.Author.Tests.{eqb-false, ltb-false}
use lib.Dec.{eqb, ltb}
use lib.ListN.{length}
use Rattle.header.specs.declared.Header.{Header}
use Rattle.header.specs.declared.ServerCookie.{ServerCookie}
use Rattle.std.specs.Prelude.{Result, Ok, Err}
use Rattle.store_rules.specs.Row.{Record, held, time_of, without, joined, used_of}
use Rattle.store_rules.specs.Place.{index_of}
use Rattle.octets.proofs.Tests.{or-none}
use Rattle.store_rules.proofs.Rows.{held-index, time-held}
use Rattle.store_rules.proofs.Kept.{length_without, without-absent}
use Rattle.records.specs.Records.{time_at, wrong_records, leave_records, join_records}
use Rattle.records.proofs.Moves.{leave-past}
use Rattle.records.proofs.Sounds.{Sound, held-row, time-row, time-at, right-sound}
use Rattle.responder_rules.specs.Answer.{wants_interleaved, saved_time, row_after, wrong_fresh, refused_answer}
use Rattle.answer_plan.specs.Step.{Stepped, stepped, row_in_records, refused_step, answer_step}
use Rattle.answer_plan.specs.Value.{Plan, request_cookie, unchanged_plan, keeping_plan, plan_for, plan_of}
use Rattle.answer_plan.proofs.RowInRecords.{row-most, right-row, leave-row, join-row}

module _ (rs : List Record) (fresh_cookie : ServerCookie) where
  -- the records after a plan: they stay, or a record leaves and then the fresh cookie joins
  abbrev pub kept_by : Plan → List Record
  kept_by p = cond p.unchanged rs (join_records (leave_records rs p.leaving) fresh_cookie.0)

  abbrev pub step_by : Plan → Stepped
  step_by p = stepped p.step (kept_by p)

  -- none leaves
  stays : leave_records rs (length rs) ≡ rs
  stays = leave-past rs (length rs) (omega arith)

  module _ (right : wrong_records rs ≡ false) (asked : Header) where
    w : Sound rs
    w = right-sound rs right

    low : 1 ≤ length rs
    unfolding wrong_records
    low = ltb-false (length rs) 1 (or-none _ _ (or-none _ _ right).0).0

    abbrev f : ℕ
    f = fresh_cookie.0

    abbrev n : ℕ
    n = length rs

    abbrev row : List Record
    row = used_of rs

    abbrev cookie : ℕ
    cookie = asked.server_cookie.0

    abbrev time : ℕ
    time = time_at rs (index_of cookie rs)

    -- 8 is tested as the row has it
    fresh-test : wants_interleaved asked && (eqb f 0 || ltb (index_of f rs) n) ≡ wrong_fresh asked f row
    fresh-test = ap (λ (b : Bool). wants_interleaved asked && b) (go (eqb f 0) refl)
      where
        go : (b : Bool) → eqb f 0 ≡ b → b || ltb (index_of f rs) n ≡ b || held f row
        go true e = refl
        go false e = sym (held-row f rs w (eqb-false f 0 e) ∙ held-index f rs)

    -- the time found is the row's
    time-found : time_of cookie row ≡ time
    time-found = time-row cookie rs w ∙ time-at cookie rs

    -- the record whose time is sent leaves
    leaves : held cookie row ≡ true → leave_records rs (index_of cookie rs) ≡ row_in_records n (without cookie row)
    leaves h = ap (λ (l : List Record). leave_records l (index_of cookie l)) (right-row rs w) ∙ leave-row n cookie row h (row-most rs w)

    -- then the fresh cookie joins
    joins : (none : Bool) → eqb time 0 ≡ none → join_records (leave_records rs (cond none n (index_of cookie rs))) f ≡ row_in_records n (joined n f (cond none row (without cookie row)))
    joins true e = ap (λ (l : List Record). join_records l f) (stays ∙ right-row rs w) ∙ join-row n f row w.used low (row-most rs w)
    joins false e =
        let h = time-held cookie row (λ q. eqb-false time 0 e (sym time-found ∙ q)) in
        let most : length (without cookie row) ≤ n = omega (arith, length_without cookie row, row-most rs w) in
        ap (λ (l : List Record). join_records l f) (leaves h) ∙ join-row n f (without cookie row) (without-absent cookie 0 row w.used) low most

    abbrev done : Stepped
    done = record { refusal = 0; saved = saved_time asked row; records = row_in_records n (row_after asked f n row) }

    keeps : step_by (keeping_plan (wants_interleaved asked) n (index_of cookie rs) time) ≡ done
    keeps = go (wants_interleaved asked)
      where
        go : (b : Bool) → step_by (keeping_plan b n (index_of cookie rs) time)
            ≡ record { refusal = 0; saved = cond b (time_of cookie row) 0; records = row_in_records n (cond b (joined n f (cond (eqb (cond b (time_of cookie row) 0) 0) row (without cookie row))) row) }
        go true = rw time-found (ap (λ (l : List Record). record { refusal = 0; saved = time; records = l }) (joins (eqb time 0) refl))
        go false = ap (refused_step 0) (right-row rs w)

    -- what a refusal makes of the plan, and of the step
    planned : (refusal : ℕ) → step_by (cond (eqb refusal 0) (keeping_plan (wants_interleaved asked) n (index_of cookie rs) time) (unchanged_plan refusal n)) ≡ cond (eqb refusal 0) done (refused_step refusal rs)
    planned refusal = go (eqb refusal 0)
      where
        go : (b : Bool) → step_by (cond b (keeping_plan (wants_interleaved asked) n (index_of cookie rs) time) (unchanged_plan refusal n)) ≡ cond b done (refused_step refusal rs)
        go true = keeps
        go false = refl

  -- what was found in the records
  abbrev pub plan_on : Result Header ℕ → (short : Bool) → Plan
  plan_on request short =
      let at = index_of (request_cookie request).0 rs in
      plan_of (wrong_records rs) request short fresh_cookie (length rs) (index_of fresh_cookie.0 rs) at (time_at rs at)

  pub plan-steps : (request : Result Header ℕ) (short : Bool) → step_by (plan_on request short) ≡ answer_step request short fresh_cookie.0 rs
  unfolding answer_step
  plan-steps (Err number) short = refl
  plan-steps (Ok asked) short = go (wrong_records rs) refl
    where
      at : ℕ
      at = index_of asked.server_cookie.0 rs

      go : (six : Bool) → wrong_records rs ≡ six → step_by (plan_for six asked short fresh_cookie (length rs) (index_of fresh_cookie.0 rs) at (time_at rs at))
          ≡ let n = refused_answer six 0 (wrong_fresh asked fresh_cookie.0 (used_of rs)) short in
          cond (eqb n 0) (record { refusal = 0; saved = saved_time asked (used_of rs); records = row_in_records (length rs) (row_after asked fresh_cookie.0 (length rs) (used_of rs)) }) (refused_step n rs)
      go true e = refl
      go false e = rw (fresh-test e asked) (planned e asked (refused_answer false 0 (wrong_fresh asked fresh_cookie.0 (used_of rs)) short))
