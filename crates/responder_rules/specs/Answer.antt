-- The answer to a request, R-4 to R-20, in either edition, W204-13 to W204-15: its octets, and what it leaves in the store.
use Rattle.std.specs.Prelude.{Result, Ok, Err, Bool, cond, not, ◌&&◌, ◌||◌, List, [], ◌∷◌, ◌++◌, ℕ, ◌+◌, ◌-◌, ◌*◌, ◌/◌, ◌%◌, eqb, ltb, length, take, drop, replicate, ℤ, pos}
use Rattle.header.specs.Edition.{is_edition, edition_of, over_limits, interleaved_bit, interleaved_flag}
use Rattle.header.specs.Header.{header_of, header_octets}
use Rattle.header.specs.declared.edition.Edition.{Edition}
use Rattle.header.specs.declared.edition.Edition.TheVariants.{One, Seven}
use Rattle.header.specs.declared.Header.{Header}
use Rattle.chain.specs.Chain.{sound_refusal}
use Rattle.chain.specs.Field.{fields_in}
use Rattle.chain.specs.Content.{Content, content, chain_octets, draft_name}
use Rattle.field_role.specs.Role.{role_of}
use Rattle.chain.specs.declared.cursor.Field.{Field}
use Rattle.field_role.specs.declared.Role.{Role}
use Rattle.field_role.specs.declared.Role.TheVariants.{FilterRequest, Information, DraftName, Unknown}
use Rattle.store_rules.specs.Row.{Record, held, time_of, without, joined, store_octets, size_of, row_of, wrong_store}
use Rattle.responder_rules.specs.declared.Server.{Server}
use Rattle.responder_rules.specs.declared.Given as code

-- R-4, W204-13: what an answer takes beside the store and the output
pub record Given : Type 0 where
  pub edition : Edition
  pub request : List ℕ
  pub receive : ℕ
  pub estimate : ℕ
  pub fresh_cookie : ℕ
  pub server : Server
  pub filter : List ℕ
  pub information : List ℕ

abbrev pub given : (request : List ℕ) (receive estimate fresh_cookie : ℕ) → Server → (filter information : List ℕ) → Edition → Given
given request receive estimate fresh_cookie server filter information e = record {
  edition = e;
  request = request;
  receive = receive;
  estimate = estimate;
  fresh_cookie = fresh_cookie;
  server = server;
  filter = filter;
  information = information;
}

-- what the code is given, in an edition
abbrev pub given_as : code.Given → Edition → Given
given_as g e = given g.request.now g.receive g.estimate g.fresh_cookie.0 g.server g.filter.now g.information.now e

-- the header of the request, read in the answer's edition
abbrev pub asking : Given → Header
asking g = header_of g.edition g.request

-- H-8, W204-4: the request's interleaved flag
abbrev pub wants_interleaved : Header → Bool
wants_interleaved asked = interleaved_flag asked.edition asked.flags

-- R-9: the time saved for the request's server cookie; 0 where the answer is basic, R-7 or R-11
abbrev pub saved_time : Header → List Record → ℕ
saved_time asked row = cond (wants_interleaved asked) (time_of asked.server_cookie.0 row) 0

-- R-6, R-9, H-9: the server's flags without the interleaved one, which is set where a saved time is sent. W204-4 has its bit
abbrev pub sent_flags : Edition → (flags saved : ℕ) → ℕ
sent_flags e flags saved = flags - flags / interleaved_bit e % 2 * interleaved_bit e + cond (eqb saved 0) 0 (interleaved_bit e)

-- W204-13
abbrev pub sent_offset : Edition → ℤ → ℤ
sent_offset One z = z
sent_offset Seven z = pos 0

-- R-5; the answer is basic where `saved` is 0
abbrev pub answer_header : Server → (asked : Header) (receive estimate fresh_cookie saved : ℕ) → Header
answer_header server asked receive estimate fresh_cookie saved = record {
  edition = asked.edition;
  leap = server.leap;
  mode = 4;  -- H-6
  stratum = server.stratum;
  poll = server.poll;
  precision = server.precision;
  timescale = server.timescale;
  era = server.era;
  timescale_offset = sent_offset asked.edition server.timescale_offset;
  flags = sent_flags asked.edition server.flags saved;
  root_delay = server.root_delay;
  root_dispersion = server.root_dispersion;
  server_cookie = record { 0 = cond (wants_interleaved asked) fresh_cookie 0 };  -- R-7, R-12
  client_cookie = asked.client_cookie;
  receive = receive;
  transmit = cond (eqb saved 0) estimate saved;  -- R-7, R-9, R-11
}

-- what answers a field, by its role
abbrev pub answer_to : (filter information : List ℕ) → Field → Role → List Content
answer_to filter information f (FilterRequest offset) = content 0xF504 (take f.size (drop offset filter)) ∷ []  -- R-17, F-11
answer_to filter information f Information = content 0xF505 information ∷ []  -- R-18, F-12
answer_to filter information f DraftName = content 0xF5FF (take f.size draft_name) ∷ []  -- R-19
answer_to filter information f Unknown = []  -- F-16

-- R-16: the answers to fields of the request, where some stand before
unfoldable pub answers_to : (request filter information : List ℕ) (before fs : List Field) → List Content
answers_to request filter information before [] = []
answers_to request filter information before (f ∷ fs) =
    answer_to filter information f (role_of request before f) ++ answers_to request filter information (before ++ (f ∷ [])) fs

-- R-20: what fills n octets that are left
abbrev pub padding_of : ℕ → List Content
padding_of n = cond (eqb n 0) [] (content 0xF501 (replicate (n - 4) 0) ∷ [])

-- W204-14: in edition 1 no field is answered
unfoldable pub answer_fields : Edition → (request filter information : List ℕ) → List Content
answer_fields e request filter information =
    let answers = answers_to request filter information [] (fields_in e request) in
    answers ++ padding_of (length request - (48 + length (chain_octets answers)))

-- the header and the fields of an answer
abbrev pub sent_header : Given → List Record → Header
sent_header g row = answer_header g.server (asking g) g.receive g.estimate g.fresh_cookie (saved_time (asking g) row)

abbrev pub sent_fields : Given → List Content
sent_fields g = answer_fields g.edition g.request g.filter g.information

unfoldable pub answer_octets : Given → List Record → List ℕ
answer_octets g row = header_octets (sent_header g row) ++ chain_octets (sent_fields g)

-- N-29: the output after an answer
abbrev pub output_after : Given → List Record → (out : List ℕ) → List ℕ
output_after g row out = answer_octets g row ++ drop (length g.request) out

-- the row after an answer: R-10, then R-12 to R-14; R-7 where the interleaved flag is clear
abbrev pub row_after : (asked : Header) (fresh_cookie n : ℕ) → List Record → List Record
row_after asked fresh_cookie n row =
    cond (wants_interleaved asked)
    (joined n fresh_cookie (cond (eqb (saved_time asked row) 0) row (without asked.server_cookie.0 row)))
    row

-- 6 by W204-15, N-11, N-12, N-7 and N-16
abbrev pub wrong_arguments : Edition → Server → (filter information : List ℕ) (receive estimate : ℕ) → Bool
wrong_arguments e server filter information receive estimate =
    over_limits e server.stratum server.timescale server.flags
    || not (eqb (length filter) 512) || not (eqb (length information) 4) || ltb 3 server.leap || eqb receive 0 || eqb estimate 0

-- what the arguments and the request are refused by: 6, then 1 to 5 and 13, so that 13 comes before 8 (W205-6)
abbrev pub arguments_refusal : Edition → Server → (request filter information : List ℕ) (receive estimate : ℕ) → ℕ
arguments_refusal e server request filter information receive estimate =
    cond (wrong_arguments e server filter information receive estimate) 6 (sound_refusal request 3)

-- the same of what an answer is given
abbrev pub first_refusal : Given → ℕ
first_refusal g = arguments_refusal g.edition g.server g.request g.filter g.information g.receive g.estimate

-- N-20 by R-8; by R-7 not where the interleaved flag is clear
abbrev pub wrong_fresh : (asked : Header) (fresh_cookie : ℕ) → List Record → Bool
wrong_fresh asked fresh_cookie row = wants_interleaved asked && (eqb fresh_cookie 0 || held fresh_cookie row)

-- N-23: the output is shorter than the answer
abbrev pub short_output : Given → (out : List ℕ) → Bool
short_output g out = ltb (length out) (length g.request)

-- the refusals in the order of N-26: the store's 6, what the arguments and the request are refused by, 8, 11
abbrev pub refused_answer : (wrong : Bool) (first : ℕ) (wrong_cookie short : Bool) → ℕ
refused_answer wrong first wrong_cookie short =
    cond wrong 6
    (cond (not (eqb first 0)) first
    (cond wrong_cookie 8
    (cond short 11
    0)))

unfoldable pub answer_refusal : Given → (store out : List ℕ) → ℕ
answer_refusal g store out =
    refused_answer (wrong_store store) (first_refusal g) (wrong_fresh (asking g) g.fresh_cookie (row_of store)) (short_output g out)

-- G-11: the refusal number and the number of octets that a call's answer says
abbrev pub numbers_of : Result ℕ ℕ → ℕ × ℕ
numbers_of (Ok n) = (0, n)
numbers_of (Err n) = (n, 0)

-- all that an answer returns and leaves
pub record Outcome : Type 0 where
  pub refusal : ℕ
  pub size : ℕ
  pub out : List ℕ
  pub store : List ℕ

abbrev pub outcome : Result ℕ ℕ → (out store : List ℕ) → Outcome
outcome r out store = record { refusal = (numbers_of r).0; size = (numbers_of r).1; out = out; store = store }

-- a refusal by N-27 and N-28
unfoldable pub answer_of : Given → (store out : List ℕ) → Outcome
answer_of g store out =
    cond (eqb (answer_refusal g store out) 0)
    (record {
      refusal = 0;
      size = length g.request;
      out = output_after g (row_of store) out;
      store = store_octets (size_of store) (row_after (asking g) g.fresh_cookie (size_of store) (row_of store));
    })
    (record { refusal = answer_refusal g store out; size = 0; out = out; store = store })

-- W204-1: where the edition is named by a number, and 6 for one that names none
unfoldable pub answer_named : (edition : ℕ) → (Edition → Given) → (store out : List ℕ) → Outcome
answer_named n g store out =
    cond (is_edition n) (answer_of (g (edition_of n)) store out) (outcome (Err 6) out store)
