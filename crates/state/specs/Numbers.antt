-- A place of the plain table as an association's numbers and filter, and the place that numbers and a filter stand for.
use Rattle.std.specs.Prelude.{◌≡◌, Bool, true, false, cond, List, [], ◌∷◌, ◌++◌, ℕ, ◌+◌, ◌-◌, ◌^◌, ◌<◌, eqb, replicate}
use Rattle.std.proofs.Math.Option.{Option, none, some}
use Rattle.header.specs.Edition.{edition_number, edition_of}
use Rattle.state.specs.Plain.{Outstanding, Exchange, Opened, Place, closed, opened}
use Rattle.state.specs.Range.{in_range}
use Rattle.state.specs.declared.head.Request.{Request}
use Rattle.state.specs.declared.head.Saved.{Saved}
use Rattle.state.specs.declared.head.Head.{Head}

-- FROM A PLACE TO NUMBERS: what is absent is 0

abbrev pub no_request : Request
no_request = record { server = record { 0 = 0 }; offset = 0; t1 = 0 }

abbrev pub none_saved : Saved
none_saved = record { timescale = 0; t1 = 0; t2 = 0; t3 = 0; t4 = 0; server = record { 0 = 0 } }

abbrev pub closed_head : Head
closed_head = record {
  state = 0;
  timescale = 0;
  chunk = 0;
  next = 0;
  taken = 0;
  last = record { 0 = 0 };
  outstanding = 0;
  request = no_request;
  saved = none_saved;
  missed = 0;
}

-- how many octets were taken; those that were are always the first ones, so that the number tells which
unfoldable pub count_taken : List Bool → ℕ
count_taken [] = 0
count_taken (b ∷ bs) = cond b 1 0 + count_taken bs

abbrev pub cookie_of : Option ℕ → ℕ
cookie_of none = 0
cookie_of (some k) = k

abbrev pub outstanding_of : Option Outstanding → ℕ
outstanding_of none = 0
outstanding_of (some q) = 1

-- its client cookie is the last request's
abbrev pub request_of : Option Outstanding → Request
request_of none = no_request
request_of (some q) = record { server = record { 0 = q.server }; offset = q.offset; t1 = q.t1 }

abbrev pub saved_of : Option Exchange → Saved
saved_of none = none_saved
saved_of (some v) = record {
  timescale = v.timescale;
  t1 = v.t1;
  t2 = v.t2;
  t3 = v.t3;
  t4 = v.t4;
  server = record { 0 = v.server };
}

abbrev pub place_head : Place → Head
place_head closed = closed_head
place_head (opened o) = record {
  state = edition_number o.edition;
  timescale = o.timescale;
  chunk = o.chunk;
  next = o.next;
  taken = count_taken o.taken;
  last = record { 0 = cookie_of o.last };
  outstanding = outstanding_of o.outstanding;
  request = request_of o.outstanding;
  saved = saved_of o.saved;
  missed = o.missed;
}

-- FROM NUMBERS TO A PLACE: what is 0 is absent

-- the first k octets were taken
abbrev pub first_taken : ℕ → List Bool
first_taken k = replicate k true ++ replicate (512 - k) false

abbrev pub cookie_in : ℕ → Option ℕ
cookie_in k = cond (eqb k 0) none (some k)

abbrev pub request_in : Head → Outstanding
request_in h = record { client = h.last.0; server = h.request.server.0; offset = h.request.offset; t1 = h.request.t1 }

abbrev pub outstanding_in : Head → Option Outstanding
outstanding_in h = cond (eqb h.outstanding 0) none (some (request_in h))

abbrev pub exchange_in : Saved → Exchange
exchange_in v = record { timescale = v.timescale; t1 = v.t1; t2 = v.t2; t3 = v.t3; t4 = v.t4; server = v.server.0 }

abbrev pub saved_in : Saved → Option Exchange
saved_in v = cond (eqb v.t4 0) none (some (exchange_in v))

abbrev pub opened_in : Head → List ℕ → Opened
opened_in h f = record {
  edition = edition_of h.state;
  timescale = h.timescale;
  chunk = h.chunk;
  next = h.next;
  filter = f;
  taken = first_taken h.taken;
  last = cookie_in h.last.0;
  outstanding = outstanding_in h;
  saved = saved_in h.saved;
  missed = h.missed;
}

abbrev pub place_in : Head → List ℕ → Place
place_in h f = cond (eqb h.state 0) closed (opened (opened_in h f))

-- each number is one of 64 bits
pub record HeadFits (h : Head) : Type 0 where
  pub state : h.state < 2 ^ 64
  pub timescale : h.timescale < 2 ^ 64
  pub chunk : h.chunk < 2 ^ 64
  pub next : h.next < 2 ^ 64
  pub taken : h.taken < 2 ^ 64
  pub last : h.last.0 < 2 ^ 64
  pub outstanding : h.outstanding < 2 ^ 64
  pub server : h.request.server.0 < 2 ^ 64
  pub offset : h.request.offset < 2 ^ 64
  pub t1 : h.request.t1 < 2 ^ 64
  pub saved-timescale : h.saved.timescale < 2 ^ 64
  pub saved-t1 : h.saved.t1 < 2 ^ 64
  pub saved-t2 : h.saved.t2 < 2 ^ 64
  pub saved-t3 : h.saved.t3 < 2 ^ 64
  pub saved-t4 : h.saved.t4 < 2 ^ 64
  pub saved-server : h.saved.server.0 < 2 ^ 64
  pub missed : h.missed < 2 ^ 64

-- NOTHING IS LOST: numbers in range come back from the place that they stand for

abbrev pub HeadsBack : Type 0
HeadsBack = (h : Head) (f : List ℕ) → in_range h ≡ true → place_head (place_in h f) ≡ h
