-- All that reading a datagram returns: what it says as a response, and the field of its chunk, of which `responded` leaves out the kind.
use Rattle.std.specs.Prelude.{Result, Ok, Err, Option, None, cond, List, ℕ, eqb}
use Rattle.refusal.specs.declared.Refusal.{Refusal}
use Rattle.header.specs.declared.edition.Edition.{Edition}
use Rattle.chain.specs.Chain.{sound_refusal}
use Rattle.chain.specs.Field.{fields_in, first_of}
use Rattle.chain.specs.declared.cursor.Field.{Field}
use Rattle.exchange.specs.Response.{Response, response_of}
use Rattle.exchange.specs.declared.response.Response as code

-- the field that the code read
abbrev pub chunk_read : Result code.Response Refusal → Option Field
chunk_read (Ok r) = r.chunk
chunk_read (Err e) = None

-- the first 0xF504, C-17, where the datagram is not refused
abbrev pub chunk_of : Edition → List ℕ → Option Field
chunk_of e s = cond (eqb (sound_refusal s 4) 0) (first_of 0xF504 (fields_in e s)) None

abbrev pub read_as : Edition → List ℕ → (t4 : ℕ) → Response × Option Field
read_as e s t4 = (response_of e s t4, chunk_of e s)
