-- The calls on one datagram or one filter as one step, by the definitions that their contracts cite. The measurement is not among them:
-- it has no refusal.
use Rattle.std.specs.Prelude.{List, [], ℕ, Result, Ok, Err}
use Rattle.std.proofs.Math.Option.{Option, none, some}
use Rattle.header.specs.Header.{read_named, written_named}
use Rattle.header.specs.declared.Header.{Header}
use Rattle.chain.specs.Chain.{sound_refusal}
use Rattle.filter_rules.specs.Calls.{add_id, unite}
use Rattle.filter_weight.specs.Weighing.{weighing, numbers}

pub data Call : Type 0 where
  header_read : (edition : ℕ) (datagram : List ℕ) (wanted : ℕ) → Call
  header_write : (edition : ℕ) (fields : Header) (out : List ℕ) → Call
  sound : (datagram : List ℕ) (wanted : ℕ) → Call
  filter_add : (filter id : List ℕ) → Call
  filter_union : (into other : List ℕ) → Call
  filter_weight : (filter : List ℕ) → Call

-- the octets that a call is lent to write to; the others are lent only to be read
abbrev pub lent : Call → List ℕ
lent (header_read edition datagram wanted) = []
lent (header_write edition fields out) = out
lent (sound datagram wanted) = []
lent (filter_add filter id) = filter
lent (filter_union into other) = into
lent (filter_weight filter) = []

-- all that a call returns and leaves
pub record Answer : Type 0 where
  pub refusal : ℕ
  -- the fields of the header that was read
  pub fields : Option Header
  pub weight : ℕ
  -- the octets that it was lent to write to
  pub left : List ℕ

abbrev pub plain_answer : ℕ → List ℕ → Answer
plain_answer n l = record { refusal = n; fields = none; weight = 0; left = l }

-- the case of a refusal carries its number alone
abbrev pub read_answer : Result Header ℕ → Answer
read_answer (Ok h) = record { refusal = 0; fields = some h; weight = 0; left = [] }
read_answer (Err n) = plain_answer n []

abbrev pub output_answer : ℕ × List ℕ → Answer
output_answer w = plain_answer w.0 w.1

abbrev pub weight_answer : ℕ × ℕ → Answer
weight_answer w = record { refusal = w.0; fields = none; weight = w.1; left = [] }

abbrev pub step : Call → Answer
step (header_read edition datagram wanted) = read_answer (read_named edition datagram wanted)
step (header_write edition fields out) = output_answer (written_named edition fields out)
step (sound datagram wanted) = plain_answer (sound_refusal datagram wanted) []
step (filter_add filter id) = output_answer (add_id filter id)
step (filter_union into other) = output_answer (unite into other)
step (filter_weight filter) = weight_answer (numbers (weighing filter))
