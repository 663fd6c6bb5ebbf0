-- `fields` meets its contract: the octets are there, or not. Assumes nothing.
use mathlib.Core.Path.{◌∙◌}
use borrow.Author.Tests.{lt-ltb}
use Rattle.header.proofs.Layouts.{zero-octets}
use Rattle.header.proofs.layout.fields.Goals as goal

pub returns-then-s-lt48 : goal.returns-then-s-lt48
returns-then-s-lt48 c = rw (lt-ltb _ _ c.if-s-lt48.true) (c.fields_of.ensures ∙ zero-octets c.args.edition)
