-- What the words of an `answer` line give the responder. The first names the edition.
use Rattle.std.specs.Prelude.{List, ℕ}
use Rattle.header.specs.declared.edition.Edition.{Edition}
use Rattle.words.specs.Line.{number_at, bits_at, signed_at, signed16_at, octets_at}
use Rattle.responder_rules.specs.Answer.{Given, given}
use Rattle.responder_rules.specs.declared.Server.{Server}

-- the server's values, from the sixth word on; the timescale offset is the last
abbrev pub server_of : List ℕ → Server
server_of line = record {
  leap = bits_at 8 line 6;
  stratum = bits_at 8 line 7;
  poll = signed_at line 8;
  precision = signed_at line 9;
  timescale = bits_at 8 line 10;
  era = bits_at 8 line 11;
  timescale_offset = signed16_at line 15;
  flags = bits_at 16 line 12;
  root_delay = bits_at 32 line 13;
  root_dispersion = bits_at 32 line 14;
}

-- the third, fourth and fifth word, and octets
abbrev pub given_from : (line request filter information : List ℕ) → Edition → Given
given_from line request filter information = given request (number_at line 3) (number_at line 4) (number_at line 5) (server_of line) filter information

-- the octets are the second, the sixteenth and the seventeenth word
abbrev pub given_of : List ℕ → Edition → Given
given_of line = given_from line (octets_at line 2) (octets_at line 16) (octets_at line 17)
