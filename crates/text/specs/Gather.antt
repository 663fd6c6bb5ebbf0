-- A line gathered from the pieces of a text: # begins a comment, which goes to the end of the line.
use Rattle.std.specs.Prelude.{ℕ, ◌+◌, ◌%◌, ◌^◌, Bool, true, cond, ◌||◌, List, length, nat_lt}
use Rattle.octets.specs.Part.{copy_at}
use Rattle.text.specs.declared.gather.Line.{Line}
use Rattle.text.specs.Place.{part_of, octet_place}

-- how many octets go to the line
unfoldable pub taken_of : List ℕ → ℕ → ℕ → Bool → ℕ
taken_of s at stop comment = cond comment 0 (length (part_of s at stop))

-- the line, and its buffer, where its end and its comment's begin are known
unfoldable pub gathered_to : List ℕ → Line → List ℕ → ℕ → ℕ → Line × List ℕ
gathered_to s l buffer end stop = (
  record {
    number = l.number;
    size = (l.size + taken_of s l.at stop l.comment) % 2 ^ 64;
    comment = l.comment || nat_lt stop end;
    ended = l.ended || nat_lt end (length s);
    count = l.count;
    at = end + 1;
    last = l.last;
  },
  copy_at buffer l.size s l.at (taken_of s l.at stop l.comment),
)

-- the line goes to the next line feed or the end, and its comment begins at the first # before that
unfoldable pub gathered : List ℕ → Line → List ℕ → Line × List ℕ
gathered s l buffer =
    gathered_to s l buffer (octet_place s l.at 10 true) (octet_place (part_of s 0 (octet_place s l.at 10 true)) l.at 35 true)
