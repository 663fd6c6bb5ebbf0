-- The one step that an answer makes on the records, for any records lent. The row's rules are those of `store_rules` and `responder_rules`.
use Rattle.std.specs.Prelude.{Result, Ok, Err, Bool, false, cond, List, ◌++◌, ℕ, ◌-◌, eqb, length, replicate}
use Rattle.header.specs.declared.Header.{Header}
use Rattle.store_rules.specs.Row.{Record, used_of}
use Rattle.records.specs.Records.{unused_record, wrong_records}
use Rattle.responder_rules.specs.Answer.{saved_time, row_after, wrong_fresh, refused_answer}

-- a row in n records: the used ones first
abbrev pub row_in_records : ℕ → List Record → List Record
row_in_records n row = row ++ replicate (n - length row) unused_record

-- the refusal, the saved time that is sent (0 in a basic answer and in a refusal), and the records after the step
pub record Stepped : Type 0 where
  pub refusal : ℕ
  pub saved : ℕ
  pub records : List Record

-- what the step of an answer returns: its refusal, and the saved time that is sent, 0 in a basic answer
pub record AnswerStep : Type 0 where
  pub refusal : ℕ
  pub saved : ℕ

-- the same of what the code returns: the saved time, or the refusal
abbrev pub step_as : Result ℕ ℕ → AnswerStep
step_as (Ok saved) = record { refusal = 0; saved = saved }
step_as (Err n) = record { refusal = n; saved = 0 }

-- what the call returns and leaves, as such
abbrev pub stepped : AnswerStep → List Record → Stepped
stepped r rs = record { refusal = r.refusal; saved = r.saved; records = rs }

-- N-28: a refusal leaves the records
abbrev pub refused_step : ℕ → List Record → Stepped
refused_step n rs = record { refusal = n; saved = 0; records = rs }

-- `request` is its header, or what it or the arguments are refused by (6, then 1 to 5 and 13): then 8 and 11 are not looked at. `short`: the
-- output is shorter than the answer. The records change only where nothing refuses
unfoldable pub answer_step : (request : Result Header ℕ) (short : Bool) (fresh_cookie : ℕ) → List Record → Stepped
answer_step (Err n) short fresh_cookie rs = refused_step (refused_answer (wrong_records rs) n false false) rs
answer_step (Ok asked) short fresh_cookie rs =
    let n = refused_answer (wrong_records rs) 0 (wrong_fresh asked fresh_cookie (used_of rs)) short in
    cond (eqb n 0)
    (record {
      refusal = 0;
      saved = saved_time asked (used_of rs);
      records = row_in_records (length rs) (row_after asked fresh_cookie (length rs) (used_of rs));
    })
    (refused_step n rs)
