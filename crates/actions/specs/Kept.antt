-- The octets that keep the store of a case file: its length, two octets, and then its octets. A call's number is that of its row, from 0 on.
use Rattle.std.specs.Prelude.{cond, List, ◌++◌, ℕ, ◌*◌, ◌%◌, eqb, ltb, length, take, drop}
use Rattle.octets.specs.Number.{get_at, put_at}
use Rattle.octets.specs.Part.{copy_at}
use Rattle.words.specs.Line.{number_at, bits_at, octets_at}
use Rattle.store_rules.specs.Row.{cleared, reporting}
use Rattle.responder_rules.specs.Answer.{answer_named}
use Rattle.actions.specs.Given.{given_of}

-- the remainder only says that the store has its place
abbrev pub length_of : List ℕ → ℕ
length_of kept = get_at kept 0 2 % 4097

-- a store of n octets
abbrev pub store_of : ℕ → List ℕ → List ℕ
store_of n kept = take n (drop 2 kept)

-- the octets with another in its place
abbrev pub with_store : ℕ → List ℕ → List ℕ → List ℕ
with_store n kept store = take 2 kept ++ (store ++ drop n (drop 2 kept))

-- report COOKIE TIME
unfoldable pub store_reported : List ℕ → List ℕ → List ℕ
store_reported line store = (reporting store (number_at line 1) (number_at line 2)).1

-- answer EDITION REQUEST RECEIVE ESTIMATE FRESH, the server's values, FILTER INFORMATION OUTPUT; W204-1
unfoldable pub store_answered : List ℕ → List ℕ → List ℕ
store_answered line store = (answer_named (bits_at 8 line 1) (given_of line) store (octets_at line 18)).store

unfoldable pub store_after : ℕ → List ℕ → List ℕ → List ℕ
store_after call line store = cond (eqb call 17) (store_reported line store) (store_answered line store)

-- store N: n octets cleared; where that is refused, the store stays the one before
unfoldable pub kept_cleared : ℕ → List ℕ → ℕ × List ℕ
kept_cleared n kept =
    cond (eqb (cleared (store_of n kept)).0 0)
    (0, put_at (with_store n kept (cleared (store_of n kept)).1) 0 2 n)
    ((cleared (store_of n kept)).0, kept)

-- lend OCTETS: they are the store as they are
unfoldable pub kept_lent : List ℕ → List ℕ → List ℕ
kept_lent octets kept = copy_at (put_at kept 0 2 (length octets % 4097)) 2 octets 0 (length octets % 4097)

-- octets too few for the longest store stay as they are
unfoldable pub kept_after : ℕ → List ℕ → List ℕ → List ℕ
kept_after call line kept =
    cond (ltb (length kept) 4098) kept
    (cond (eqb call 15) (kept_cleared (bits_at 8 line 1 * 16) kept).1
    (cond (eqb call 16) (kept_lent (octets_at line 1) kept)
    (with_store (length_of kept) kept (store_after call line (store_of (length_of kept) kept)))))
