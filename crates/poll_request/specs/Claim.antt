-- What is read from a poll, C-9 to C-12 and W204-8, for whatever is asked in either edition.
use Rattle.std.specs.Prelude.{◌≡◌, Bool, List, ℕ, ◌%◌, ◌^◌, ◌<◌, ◌≤◌, ℤ, length}
use Rattle.std.specs.Int.{w8}
use Rattle.std.proofs.Common.{SFits}
use Rattle.octets.specs.Number.{num}
use Rattle.header.specs.Edition.{most_timescale}
use Rattle.header.specs.Header.{header_of}
use Rattle.header.specs.declared.edition.Edition.TheVariants.{Seven}
use Rattle.chain.specs.Chain.{sound_refusal}
use Rattle.chain.specs.Field.{fields_of}
use Rattle.chain.specs.Content.{contents_of}
use Rattle.poll_request.specs.Request.{poll_header, poll_fields, poll_octets, offset_place, poll_length}
use Rattle.poll_request.specs.declared.Asked.{Asked}

-- what is asked is of its types, the edition holds the timescale, and c is a multiple of 4 from 4 to 512
pub record InRange (q : Asked) : Type 0 where
  pub timescale : q.timescale ≤ most_timescale q.edition
  pub least : 4 ≤ q.chunk
  pub most : q.chunk ≤ 512
  pub four : q.chunk % 4 ≡ 0
  pub offset : q.offset < 2 ^ 16
  pub server : q.server.0 < 2 ^ 64

pub record PollClaim (q : Asked) (cookie : ℕ) (exponent : ℤ) (interleaved : Bool) (poll : List ℕ) : Type 0 where
  pub long : length poll ≡ poll_length q.edition q.chunk
  -- it is sound where a request is wanted
  pub sound : sound_refusal poll 3 ≡ 0
  -- C-9, C-10: its header is as asked
  pub header_read : header_of q.edition poll ≡ poll_header q cookie exponent interleaved
  -- C-11, C-12: its fields, and in edition 7 the offset, with which the filter request's data begin
  pub contents : contents_of poll (fields_of poll) ≡ poll_fields q
  pub offset : q.edition ≡ Seven → num poll offset_place 2 ≡ q.offset

abbrev pub EveryPoll : Type 0
EveryPoll = (q : Asked) (cookie : ℕ) (exponent : ℤ) (interleaved : Bool) → InRange q → cookie < 2 ^ 64 → SFits w8 exponent
    → PollClaim q cookie exponent interleaved (poll_octets q cookie exponent interleaved)
