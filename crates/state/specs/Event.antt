-- What happens to an association.
use Rattle.std.specs.Prelude.{Bool, ℕ}
use Rattle.header.specs.declared.ClientCookie.{ClientCookie}
use Rattle.exchange.specs.Response.{Response}

pub data Event : Type 0 where
  Open : (edition timescale chunk : ℕ) → Event
  Close : Event
  -- the client cookie, whether interleaved mode is wanted, and the room for the request
  Poll : (cookie : ClientCookie) (interleaved : Bool) (room : ℕ) → Event
  Sent : (t1 : ℕ) → Event
  Receive : Response → Event
  -- a call that only reads
  Look : Event
