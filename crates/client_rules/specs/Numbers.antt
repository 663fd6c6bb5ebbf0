-- A lent table's numbers as a table that calls are made on, W210-2.
use Rattle.std.specs.Prelude.{List, [], ◌∷◌, ◌++◌, ℕ, ◌+◌, ◌*◌, ◌≤◌, eqb, length, get_or, take, drop, replicate}
use Rattle.word_rules.specs.Words.{octets_of}
use Rattle.header.specs.Edition.{edition_of}
use Rattle.header.specs.declared.edition.Edition.{Edition}
use Rattle.state.specs.Plain.{Place}
use Rattle.association.specs.Record.{head_size, record_size}
use Rattle.association.specs.Encode.{encode}
use Rattle.association.specs.Step.{on_numbers}
use Rattle.state.specs.Event.{Event}
use Rattle.state.specs.Reply.{Reply}
use Rattle.client_rules.specs.Call.{Call, Answer}
use Rattle.client_rules.specs.Select.{Seen}
use Rattle.client_rules.specs.Step.{Table, event_on, seen, step}

-- C-1: sixteen records
abbrev pub table_size : ℕ
table_size = 16 * record_size

-- C-1: at most 16 KiB, eight octets a number
abbrev pub TableBound : Type 0
TableBound = 8 * table_size ≤ 16384

-- the record of an association
abbrev pub part : ℕ → List ℕ → List ℕ
part a t = take record_size (drop (a * record_size) t)

abbrev pub put_part : ℕ → List ℕ → List ℕ → List ℕ
put_part a t l = take (a * record_size) t ++ (l ++ drop (a * record_size + record_size) t)

-- its edition, by the first number of its record
abbrev pub edition_at : ℕ → List ℕ → Edition
edition_at a t = edition_of (get_or t (a * record_size) 0)

-- the words of its filter
abbrev pub filter_words : ℕ → List ℕ → List ℕ
filter_words a t = drop head_size (part a t)

-- W210-3: octet i of its filter, out of the words
abbrev pub filter_octet : (a i : ℕ) → List ℕ → ℕ
filter_octet a i t = get_or (octets_of (filter_words a t)) i 0

abbrev pub put_back : ℕ → List ℕ → Reply × List ℕ → Reply × List ℕ
put_back a t w = (w.0, put_part a t w.1)

abbrev pub numbers_table : Table (List ℕ)
numbers_table = record {
  right_size = λ t. eqb (length t) table_size;  -- N-9
  cleared = replicate table_size 0;  -- C-2
  event = λ a e datagram t. put_back a t (on_numbers e datagram (part a t));
  filter = λ t a. octets_of (filter_words a t);
  edition = λ t a. edition_at a t;
}

abbrev pub at_numbers : ℕ → Event → List ℕ → List ℕ → Reply × List ℕ
at_numbers a e datagram t = event_on numbers_table a e datagram t

abbrev pub seen_numbers : List ℕ → ℕ → Seen
seen_numbers t a = seen numbers_table t a

-- P-1, P-2: what the contract of a call on a table cites
abbrev pub step_numbers : Call → List ℕ → Answer × List ℕ
step_numbers c t = step numbers_table c t

-- the numbers of the plain table
unfoldable pub encode_all : List Place → List ℕ
encode_all [] = []
encode_all (p ∷ ps) = encode p ++ encode_all ps
