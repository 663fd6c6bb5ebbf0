-- A header of the C interface and the core's, field by field.
use Rattle.std.specs.Prelude.{Result, Ok, Err, ℕ, pos}
use Rattle.header.specs.Edition.{edition_of}
use Rattle.header.specs.declared.Header as core
use Rattle.c_structs.specs.declared.headers.Header.{Header}
use Rattle.c_structs.specs.declared.headers.Read.{Read}

abbrev pub of_header : core.Header → Header
of_header h = record {
  leap = h.leap;
  mode = h.mode;
  stratum = h.stratum;
  poll = h.poll;
  precision = h.precision;
  timescale = h.timescale;
  era = h.era;
  timescale_offset = h.timescale_offset;
  flags = h.flags;
  root_delay = h.root_delay;
  root_dispersion = h.root_dispersion;
  server_cookie = h.server_cookie.0;
  client_cookie = h.client_cookie.0;
  receive = h.receive;
  transmit = h.transmit;
}

-- N-27: the header of a refusal
abbrev pub no_header : Header
no_header = record {
  leap = 0;
  mode = 0;
  stratum = 0;
  poll = pos 0;
  precision = pos 0;
  timescale = 0;
  era = 0;
  timescale_offset = pos 0;
  flags = 0;
  root_delay = 0;
  root_dispersion = 0;
  server_cookie = 0;
  client_cookie = 0;
  receive = 0;
  transmit = 0;
}

abbrev pub read_of : Result core.Header ℕ → Read
read_of (Ok h) = record { refusal = 0; header = of_header h }
read_of (Err n) = record { refusal = n; header = no_header }

-- of the edition of a number
abbrev pub core_header : ℕ → Header → core.Header
core_header n h = record {
  edition = edition_of n;
  leap = h.leap;
  mode = h.mode;
  stratum = h.stratum;
  poll = h.poll;
  precision = h.precision;
  timescale = h.timescale;
  era = h.era;
  timescale_offset = h.timescale_offset;
  flags = h.flags;
  root_delay = h.root_delay;
  root_dispersion = h.root_dispersion;
  server_cookie = record { 0 = h.server_cookie };
  client_cookie = record { 0 = h.client_cookie };
  receive = h.receive;
  transmit = h.transmit;
}
