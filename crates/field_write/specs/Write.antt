-- What writing one field leaves, whatever it is given.
use Rattle.std.specs.Prelude.{◌≡◌, cond, ◌&&◌, List, ℕ, ◌+◌, leb, length}
use Rattle.std.proofs.Math.Seq.{paste}
use Rattle.chain.specs.Content.{Content, content_octets}

-- the octets xs were written over s from `at` on, which gives t, and `next` is the place after them
pub record WrittenAt (s : List ℕ) (at : ℕ) (xs : List ℕ) (next : ℕ) (t : List ℕ) : Type 0 where
  pub place : next ≡ at + length xs
  pub content : t ≡ paste s at xs (length xs)

-- the place after a field that is written over s from `at` on, and what that gives. Ours, so that the call is total: where the length
-- does not fit in its 16 bits, or s has too few octets from `at` on, nothing is written and the place stays
unfoldable pub put_field : List ℕ → ℕ → Content → ℕ × List ℕ
put_field s at c =
    let xs = content_octets c in
    cond (leb (length c.«data» + 4) 0xFFFF && leb (at + length xs) (length s)) (at + length xs, paste s at xs (length xs)) (at, s)
