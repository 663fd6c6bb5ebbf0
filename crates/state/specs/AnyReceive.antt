-- Any response of the definitions, one that is refused by any number too, has an event of the code that does what receiving it does. So the
-- code's events leave out no response.
use Rattle.std.specs.Prelude.{◌≡◌, Ok, Err, cond, List, ℕ, eqb}
use Rattle.exchange.specs.Response.{Response}
use Rattle.exchange.specs.AnyResponse.{response_read}
use Rattle.state.specs.Event.{Receive}
use Rattle.state.specs.Change.{changed}
use Rattle.state.specs.Code.{event_by}
use Rattle.state.specs.declared.event.Event as code
use Rattle.state.specs.declared.event.Event.TheVariants as event
use Rattle.state.specs.declared.head.Head.{Head}

-- refused by its number, or read
abbrev pub receive_of : Response → code.Event ℕ
receive_of r = event.Receive (cond (eqb r.refusal 0) (Ok (response_read r)) (Err r.refusal)) r.t4

abbrev pub AnyReceive : Type 0
AnyReceive = (r : Response) (h : Head) (datagram f : List ℕ) → changed (event_by (λ n. n) (receive_of r)) h datagram f ≡ changed (Receive r) h datagram f
