-- A whole trace as octets, from the words of W208-1 to W208-5, and the calls that it is.
use Rattle.std.specs.Prelude.{◌≡◌, true, List, [], ◌∷◌, ◌++◌, ℕ, negsuc}
use Rattle.order.specs.Order.{TaggedCall}
use Rattle.client_rules.specs.Call.{Call, open_one, close_one, poll, sent, receive}
use Rattle.trace_rules.specs.Trace.{listing}
use Rattle.trace_rules.specs.declared.Found.TheVariants.{End}

-- each line: mark, kind, association, data length; time; data
unfoldable pub worked_trace : List ℕ
worked_trace =
    (0x4E ∷ 0x35 ∷ 1 ∷ 3 ∷ 0 ∷ 4 ∷ []) ++ (9 ∷ 9 ∷ 9 ∷ 9 ∷ 9 ∷ 9 ∷ 9 ∷ 9 ∷ []) ++ (7 ∷ 2 ∷ 0x01 ∷ 0x00 ∷ [])
    ++ (0x4E ∷ 0x35 ∷ 2 ∷ 3 ∷ 0 ∷ 10 ∷ []) ++ (9 ∷ 9 ∷ 9 ∷ 9 ∷ 9 ∷ 9 ∷ 9 ∷ 9 ∷ []) ++ (1 ∷ 2 ∷ 3 ∷ 4 ∷ 5 ∷ 6 ∷ 7 ∷ 8 ∷ 0xFF ∷ 1 ∷ [])
    ++ (0x4E ∷ 0x35 ∷ 3 ∷ 3 ∷ 0 ∷ 0 ∷ []) ++ (0 ∷ 0 ∷ 0 ∷ 0 ∷ 0 ∷ 1 ∷ 0 ∷ 2 ∷ [])
    ++ (0x4E ∷ 0x35 ∷ 4 ∷ 3 ∷ 0 ∷ 2 ∷ []) ++ (0 ∷ 0 ∷ 0 ∷ 0 ∷ 0 ∷ 1 ∷ 0 ∷ 3 ∷ []) ++ (0xAB ∷ 0xCD ∷ [])
    ++ (0x4E ∷ 0x35 ∷ 5 ∷ 3 ∷ 0 ∷ 0 ∷ []) ++ (9 ∷ 9 ∷ 9 ∷ 9 ∷ 9 ∷ 9 ∷ 9 ∷ 9 ∷ [])

abbrev numbered : ℕ → Call → TaggedCall Call
numbered n c = record { tag = n; call = c }

-- -1 is the poll's exponent
abbrev pub WorkedTrace : Type 0
WorkedTrace = (lend : ℕ → List ℕ) → listing 1 lend worked_trace ≡ record {
  calls =
      numbered 1 (open_one 3 7 2 256)
      ∷ numbered 2 (poll 3 0x0102030405060708 (negsuc 0) true (lend 2))
      ∷ numbered 3 (sent 3 0x10002)
      ∷ numbered 4 (receive 3 (0xAB ∷ 0xCD ∷ []) 0x10003)
      ∷ numbered 5 (close_one 3)
      ∷ [];
  stop = End;
}
