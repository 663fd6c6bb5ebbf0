-- `answers_in` meets its contract: in edition 1 nothing is written. Assumes nothing.
use Rattle.chain.specs.Content.{chain_octets}
use Rattle.field_write.proofs.Writing.{written_none}
use Rattle.answer_fields.specs.Pass.{answers_with}
use Rattle.answer_fields.proofs.answers_in.Goals as goal

pub returns-in-One : goal.returns-in-One
unfolding answers_with chain_octets
returns-in-One c = rw c.in-One.is (record { written = written_none c.args.out.now 48; most = c.requires.header })
