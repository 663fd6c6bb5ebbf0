-- What is seen and what is left decide as all the records do.
use Rattle.std.proofs.Common.{◌≡◌, drop}
use Rattle.records.specs.Records.{records_in, wrong_records}
use Rattle.records.proofs.Judging.{verdict}
use Rattle.records.proofs.wrong.Given as goal

abbrev pub invariant-loop-at : goal.invariant-loop-at
invariant-loop-at l = verdict l.seen (drop l.at (records_in l.records)) ≡ wrong_records (records_in l.records)
