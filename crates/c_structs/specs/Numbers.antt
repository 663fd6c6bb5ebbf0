-- The structs of the C interface, S-4: what each says in the core's terms. What it does not speak of is 0.
use Rattle.std.specs.Prelude.{Result, Ok, Err, List, [], ℕ, pos}
use Rattle.client_rules.specs.Call.{Answer, plain_answer, measured_answer}
use Rattle.responder_rules.specs.Answer.{Outcome}
use Rattle.c_structs.specs.declared.answers.Written.{Written}
use Rattle.c_structs.specs.declared.answers.Received.{Received}
use Rattle.c_structs.specs.declared.answers.Verdict.{Verdict}
use Rattle.c_structs.specs.declared.answers.Weight.{Weight}
use Rattle.c_structs.specs.declared.answers.Measurement as c
use Rattle.c_structs.specs.declared.answers.Accepted.{Accepted}
use Rattle.measure.specs.Measure.{Measurement}
use Rattle.measure.specs.declared.Measurement as core

abbrev pub written_numbers : Written → (out : List ℕ) → Answer
written_numbers r out = record {
  refusal = r.refusal;
  size = r.length;
  judgement = 0;
  chunk = 0;
  offset = pos 0;
  delay = 0;
  verdict = 0;
  out = out;
}

abbrev pub received_numbers : Received → Answer
received_numbers r = record {
  refusal = r.refusal;
  size = 0;
  judgement = r.judgement;
  chunk = r.chunk;
  offset = r.offset;
  delay = r.delay;
  verdict = 0;
  out = [];
}

-- of an accepted response its numbers, whatever they are; of a refused one the refusal's
abbrev pub accepted_numbers : Accepted → Answer
accepted_numbers a = measured_answer a.measurement.judgement a.chunk a.measurement.offset a.measurement.delay

abbrev pub accepted_by : {R : Type 0} → (number : R → ℕ) → Result Accepted R → Answer
accepted_by number (Ok a) = accepted_numbers a
accepted_by number (Err r) = plain_answer (number r) []

abbrev pub verdict_numbers : Verdict → Answer
verdict_numbers r = record {
  refusal = r.refusal;
  size = 0;
  judgement = 0;
  chunk = 0;
  offset = pos 0;
  delay = 0;
  verdict = r.verdict;
  out = [];
}

abbrev pub outcome_numbers : Written → (out store : List ℕ) → Outcome
outcome_numbers r out store = record { refusal = r.refusal; size = r.length; out = out; store = store }

abbrev pub weight_numbers : Weight → ℕ × ℕ
weight_numbers r = (r.refusal, r.weight)

abbrev pub measurement_numbers : c.Measurement → Measurement
measurement_numbers r = record { judgement = r.judgement; offset = r.offset; delay = r.delay }

-- a judgement, with the offset and the delay that stand beside it
abbrev pub judged_measurement : ℕ → core.Measurement → Measurement
judged_measurement judgement m = record { judgement = judgement; offset = m.offset; delay = m.delay }
