-- Missed polls, W211-1 to W211-5: the number that an association keeps, and the server cookie that a poll sends, are what the observer
-- says, over every list of calls on one cleared table.
use Rattle.std.specs.Prelude.{◌≡◌, Bool, cond, ◌&&◌, List, [], ◌∷◌, ℕ, ◌+◌, ◌-◌, ◌<◌, min, ltb, ℤ, length}
use Rattle.header.specs.Header.{server_cookie_of}
use Rattle.state.specs.Plain.{Opened, opened}
use Rattle.association.specs.Record.{head_of}
use Rattle.order.specs.Order.{TaggedCall, EveryCall}
use Rattle.client_rules.specs.Call.{Call, clear_table, open_one, close_one, poll, sent, receive, loop_verdict, publish, Typed, Answer}
use Rattle.client_rules.specs.Numbers.{table_size, part, step_numbers}
use Rattle.client_rules.specs.Observe.{Observation, succeeded, watched}
use Rattle.client_rules.specs.Claim.{Client, cleared_by, reached_by, refusal_by, place_after, written_by}

-- THE OBSERVER

-- how many polls of a were accepted since its last accepted response or its opening
abbrev pub polls_by : ℕ → Call → Answer → ℕ → ℕ
polls_by a clear_table w before = before
polls_by a (open_one b edition timescale c) w before = cond (succeeded a b w) 0 before
polls_by a (close_one b) w before = before
polls_by a (poll b cookie exponent interleaved out) w before = cond (succeeded a b w) (before + 1) before
polls_by a (sent b t1) w before = before
polls_by a (receive b datagram t4) w before = cond (succeeded a b w) 0 before
polls_by a (loop_verdict b id) w before = before
polls_by a (publish selected id out) w before = before

unfoldable pub polls_since : ℕ → List Observation → ℕ
polls_since a [] = 0
polls_since a (e ∷ before) = polls_by a e.call e.answer (polls_since a before)

-- W211-1 to W211-3: all of these but the latest were replaced unanswered; at most 8
abbrev pub observed_missed : ℕ → List Observation → ℕ
observed_missed a seen = min 8 (polls_since a seen - 1)

-- C-10: the server cookie of a's last accepted response since its opening; 0 if there is none
abbrev pub server_by : ℕ → Call → Answer → ℕ → ℕ
server_by a clear_table w before = before
server_by a (open_one b edition timescale c) w before = cond (succeeded a b w) 0 before
server_by a (close_one b) w before = before
server_by a (poll b cookie exponent interleaved out) w before = before
server_by a (sent b t1) w before = before
server_by a (receive b datagram t4) w before = cond (succeeded a b w) (server_cookie_of datagram) before
server_by a (loop_verdict b id) w before = before
server_by a (publish selected id out) w before = before

unfoldable pub observed_server : ℕ → List Observation → ℕ
observed_server a [] = 0
observed_server a (e ∷ before) = server_by a e.call e.answer (observed_server a before)

-- THE CLAIM

-- what the observer has seen after calls on a cleared table
abbrev pub seen_by : Client → List ℕ → List (TaggedCall Call) → List Observation
seen_by step t cs = watched step cs (cleared_by step t) []

-- the number in a's record
abbrev pub missed_number : ℕ → List ℕ → ℕ
missed_number a t = (head_of (part a t)).missed

-- a poll after calls, and what it answers
abbrev pub poll_after : Client → List ℕ → List (TaggedCall Call) → Call → Observation
poll_after step t cs c = record { call = c; answer = (step c (reached_by step t cs)).0 }

pub record Missed (step : Client) (t : List ℕ) (cs : List (TaggedCall Call)) (a : ℕ) : Type 0 where
  -- the number of an open association
  pub number : (o : Opened) → place_after cs a ≡ opened o → missed_number a (reached_by step t cs) ≡ observed_missed a (seen_by step t cs)
  -- W211-4, W211-5: a poll that is not refused sends the saved server cookie exactly if interleaved is wanted and that number, the
  -- request that it replaces counted, is below 4
  pub cookie : (k : ℕ) (exponent : ℤ) (interleaved : Bool) (out : List ℕ) → Typed (poll a k exponent interleaved out)
      → refusal_by step (poll a k exponent interleaved out) (reached_by step t cs) ≡ 0
      → server_cookie_of (written_by (step (poll a k exponent interleaved out) (reached_by step t cs)).0)
      ≡ cond (interleaved && ltb (observed_missed a (poll_after step t cs (poll a k exponent interleaved out) ∷ seen_by step t cs)) 4)
      (observed_server a (seen_by step t cs)) 0

abbrev pub MissedPollsFor : Client → Type 0
MissedPollsFor step = (t : List ℕ) → length t ≡ table_size → (cs : List (TaggedCall Call)) → EveryCall Typed cs → (a : ℕ) → a < 16 → Missed step t cs a

abbrev pub MissedPolls : Type 0
MissedPolls = MissedPollsFor step_numbers
