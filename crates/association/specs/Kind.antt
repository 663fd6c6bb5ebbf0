-- An event on a record's numbers, and the kind of its reply.
use Rattle.std.specs.Prelude.{List, ℕ}
use Rattle.state.specs.Event.{Event}
use Rattle.state.specs.Reply.{Reply}
use Rattle.state.specs.Kind.{Kind, kind_for}
use Rattle.association.specs.Step.{on_numbers}

abbrev pub on_numbers_in_kind : Event → List ℕ → List ℕ → (Reply × List ℕ) × Kind
on_numbers_in_kind e datagram l = (on_numbers e datagram l, kind_for e)
