-- What a change does to an association's numbers and filter, and what it has to do: what the event does to the place that they stand for.
use Rattle.std.specs.Prelude.{◌≡◌, cond, List, ℕ, ◌+◌, ◌*◌, ◌/◌, eqb, replicate}
use Rattle.octets.specs.Part.{copy_at}
use Rattle.state.specs.Rules.{plain_reply}
use Rattle.state.specs.Plain.{Place, place_filter, place_do}
use Rattle.state.specs.Range.{in_range}
use Rattle.state.specs.Numbers.{place_in, place_head}
use Rattle.state.specs.Event.{Event}
use Rattle.state.specs.Reply.{Reply}
use Rattle.state.specs.declared.head.Head.{Head}
use Rattle.state.specs.declared.head.Filling.{Filling}
use Rattle.state.specs.declared.head.Filling.TheVariants.{Keep, Clear, Take}

pub record Change : Type 0 where
  pub reply : Reply
  pub head : Head
  pub filling : Filling

abbrev pub change : Reply → Head → Filling → Change
change a h f = record { reply = a; head = h; filling = f }

-- N-27, N-28
abbrev pub refuse : ℕ → Head → Change
refuse n h = change (plain_reply n) h Keep

-- the filter after a change of numbers h; a chunk goes where C-18 says, in whole words of eight octets. That its place and its size are
-- multiples of eight is a law
abbrev pub filled : Filling → Head → List ℕ → List ℕ → List ℕ
filled Keep h datagram f = f
filled Clear h datagram f = replicate 512 0
filled (Take start) h datagram f = copy_at f (8 * (h.request.offset / 8)) datagram start (8 * (h.chunk / 8))

-- the count of taken octets with a chunk, for the code: once all 512 were taken they stay taken. That it is what the flags become is a law
abbrev pub taken_after : ℕ → ℕ → ℕ
taken_after taken c = cond (eqb taken 512) 512 (taken + c)

-- what a change of numbers h answers, and the numbers and the filter that it leaves, of any datagram and filter
unfoldable pub applied : Change → Head → (datagram filter : List ℕ) → Reply × (Head × List ℕ)
applied d h datagram f = (d.reply, (d.head, filled d.filling h datagram f))

-- an answer, and what is left; a refusal leaves what was there (N-28)
abbrev pub unless_refused : {A : Type 0} → Reply → (done kept : A) → Reply × A
unless_refused a done kept = (a, cond (eqb a.refusal 0) done kept)

-- the event on the place that numbers and a filter stand for, in numbers
unfoldable pub on_head : Event → Head → (datagram filter : List ℕ) → Reply × (Head × List ℕ)
on_head e h datagram f =
    unless_refused (place_do e datagram (place_in h f)).0
    (place_head (place_do e datagram (place_in h f)).1, place_filter (place_do e datagram (place_in h f)).1) (h, f)

-- 6 by N-13
unfoldable pub changed : Event → Head → (datagram filter : List ℕ) → Reply × (Head × List ℕ)
changed e h datagram f = cond (in_range h) (on_head e h datagram f) (plain_reply 6, (h, f))

-- the change does what the event does, whatever the datagram is and the filter holds
pub record Does (e : Event) (h : Head) (d : Change) : Type 0 where
  pub does : (datagram f : List ℕ) → applied d h datagram f ≡ on_head e h datagram f

-- the change answers a and leaves the place p; `applied` is written out, so that what a function computed can be rewritten in it
pub record Leaves (h : Head) (d : Change) (a : Reply) (p : (datagram filter : List ℕ) → Place) : Type 0 where
  pub leaves : (datagram f : List ℕ) → ◌≡◌ {A = Reply × (Head × List ℕ)} (d.reply, (d.head, filled d.filling h datagram f)) (a, (place_head (p datagram f), place_filter (p datagram f)))
