-- Any response of the definitions, one with a refusal, or with a place beside no chunk, too, has a response of the code of which times,
-- judgement and outcome are the same: they look at no refusal, and at no place beside no chunk.
use Rattle.std.specs.Prelude.{◌≡◌, Some, None, cond, ℕ}
use Rattle.exchange.specs.Response.{Response, response_as}
use Rattle.exchange.specs.Judging.{times_of, judged, outcome_of}
use Rattle.exchange.specs.declared.judging.Times.{Times}
use Rattle.exchange.specs.declared.response.Response as code

-- the code's response with the same fields
abbrev pub response_read : Response → code.Response
response_read r = record {
  leap = r.leap;
  stratum = r.stratum;
  timescale = r.timescale;
  interleaved = r.interleaved;
  server = r.server;
  client = r.client;
  receive = r.receive;
  transmit = r.transmit;
  chunk = cond r.present (Some (record { kind = 0xF504; start = r.start; size = r.size })) None;
}

-- only the times depend on T4
pub record SameJudged (r : Response) : Type 0 where
  pub times : (t1 p1 p2 p4 : ℕ) → times_of (response_as (response_read r) r.t4) t1 p1 p2 p4 ≡ times_of r t1 p1 p2 p4
  pub judgement : (t4 timescale previous : ℕ) (t : Times) → judged (response_as (response_read r) t4) timescale previous t ≡ judged r timescale previous t
  pub outcome : (t4 chunk : ℕ) → outcome_of (response_as (response_read r) t4) chunk ≡ outcome_of r chunk

abbrev pub AnyJudged : Type 0
AnyJudged = (r : Response) → SameJudged r
