-- An event looks at no number beside a refusal, and at no place beside no chunk. Assumes nothing.
use mathlib.Core.Path.{◌≡◌, refl, ap}
use mathlib.Core.Bool.{Bool, true, false, cond, not, ◌&&◌}
use mathlib.Core.List.{List}
use mathlib.Core.Option.{Option, none, some}
use Prim.Native.Nat.{ℕ}
use lib.Dec.{eqb}
use Rattle.std.specs.Prelude.{Ok, Err, Some, None}
use Rattle.exchange.specs.Response.{Response, response_as, responded_by}
use Rattle.exchange.specs.AnyResponse.{response_read}
use Rattle.exchange.specs.declared.response.Response as code
use Rattle.state.specs.Event.{Receive}
use Rattle.state.specs.Reply.{Reply}
use Rattle.state.specs.Plain.{Outstanding, Opened, Place, closed, opened, received, reply_of, refuse_at, on_request, place_do}
use Rattle.state.specs.Numbers.{place_in}
use Rattle.state.specs.Change.{on_head, changed}
use Rattle.state.specs.AnyReceive.{AnyReceive}

same-request : (q : Option Outstanding) (a : Reply × Place) (x y : Outstanding → Reply × Place) → ((k : Outstanding) → x k ≡ y k) → on_request q a x ≡ on_request q a y
same-request none a x y e = refl
same-request (some k) a x y e = e k

module _ (r : Response) (datagram : List ℕ) where
  -- with its chunk, or with none
  abbrev numbers : Bool → code.Response
  numbers b = record {
    leap = r.leap;
    stratum = r.stratum;
    timescale = r.timescale;
    interleaved = r.interleaved;
    server = r.server;
    client = r.client;
    receive = r.receive;
    transmit = r.transmit;
    chunk = cond b (Some (record { kind = 0xF504; start = r.start; size = r.size })) None;
  }

  abbrev present : Bool → Response
  present b = record {
    refusal = r.refusal;
    leap = r.leap;
    stratum = r.stratum;
    timescale = r.timescale;
    interleaved = r.interleaved;
    server = r.server;
    client = r.client;
    receive = r.receive;
    transmit = r.transmit;
    present = b;
    start = r.start;
    size = r.size;
    t4 = r.t4;
  }

  abbrev taken : Response → Opened → Outstanding → Reply × Place
  taken x o k = (reply_of x o k, opened (received x datagram o k))

  same-taken : (o : Opened) (k : Outstanding) (b : Bool) → taken (response_as (numbers b) r.t4) o k ≡ taken (present b) o k
  same-taken o k true = refl
  same-taken o k false = refl

  abbrev event_response : Bool → Response
  event_response b = responded_by (λ n. n) (cond b (Ok (response_read r)) (Err r.refusal)) r.t4

  same-place : (b : Bool) → eqb r.refusal 0 ≡ b → (p : Place) → place_do (Receive (event_response b)) datagram p ≡ place_do (Receive r) datagram p
  unfolding place_do
  same-place true e closed = refl
  same-place false e closed = refl
  same-place false e (opened o) = rw e refl
  same-place true e (opened o) =
      rw e
      (ap (cond (eqb r.t4 0) (refuse_at 6 (opened o)))
      (same-request o.outstanding (refuse_at 9 (opened o)) _ _
      (λ k. ap (λ (w : Reply × Place). cond (not (eqb r.client.0 k.client)) (refuse_at 9 (opened o)) (cond (r.interleaved && eqb k.server 0) (refuse_at 10 (opened o)) w)) (same-taken o k r.present))))

pub any-receive : AnyReceive
unfolding changed on_head
any-receive r h datagram f = rw (same-place r datagram (eqb r.refusal 0) refl (place_in h f)) refl
