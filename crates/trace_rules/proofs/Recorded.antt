-- A call that is found in a trace is a record as it is written, with the rest of the trace after it. Assumes nothing.
use mathlib.Core.Path.{◌≡◌, refl, sym, ap, ◌∙◌, subst⁻¹}
use mathlib.Core.Bool.{true, false, cond}
use mathlib.Core.List.{List, [], ◌∷◌, ◌++◌, append_assoc}
use Prim.Native.Nat.{ℕ, zero, suc, ◌+◌, ◌≤◌}
use native.Mathlib.Omega.{arith}
use borrow.Author.Tests.{ltb-false, lt-ltb, le-ltb}
use lib.Dec.{eqb, ltb}
use lib.ListN.{length, take, drop, take-append-drop, length-drop}
use lib.Seq.{drop-drop, length-take-le}
use mir.Syntax.{w8}
use mir.Val.{to_z, of_z}
use mir.Facts.{of_z-to_z, sfits_to_z}
use Rattle.octets.specs.Number.{Octets, num}
use Rattle.octets.specs.Piece.{spelled, piece, width_of}
use Rattle.octets.proofs.Numbers.{num-lt}
use Rattle.octets.proofs.Pieces.{spelled-read}
use Rattle.octets.proofs.Written.{take-octets, drop-octets}
use Rattle.trace_rules.specs.Record.{head_length, is_kind, action_of, found_in, data_in, rest_after}
use Rattle.trace_rules.specs.Written.{Entry, kind_of, time_field, data_of, head_pieces, entry_data, entry_octets, ActionFits, EntryFits}
use Rattle.trace_rules.specs.declared.Record.{Record}
use Rattle.trace_rules.specs.declared.Found.TheVariants.{Call}
use Rattle.trace_rules.proofs.Faults.{record_in, Faultless, found-call}

data Kind : ℕ → Type 0 where
  open-kind : Kind 1
  poll-kind : Kind 2
  sent-kind : Kind 3
  receive-kind : Kind 4
  close-kind : Kind 5

kind-view : (k : ℕ) → is_kind k ≡ true → Kind k
kind-view zero e = absurd (let z : ◌≡◌ {A = ℕ} 0 1 = cc in omega arith)
kind-view (suc zero) e = open-kind
kind-view (suc (suc zero)) e = poll-kind
kind-view (suc (suc (suc zero))) e = sent-kind
kind-view (suc (suc (suc (suc zero)))) e = receive-kind
kind-view (suc (suc (suc (suc (suc zero))))) e = close-kind
kind-view (suc (suc (suc (suc (suc (suc k)))))) e =
    let n = suc (suc (suc (suc (suc (suc k))))) in
    let above : ltb n 6 ≡ false = le-ltb n 6 (omega arith) in
    let some : ltb 0 n ≡ true = lt-ltb 0 n (omega arith) in
    absurd (let z : ◌≡◌ {A = ℕ} 0 1 = cc in omega arith)

-- the record that was found, as an entry
abbrev pub entry_in : List ℕ → Record → Entry
entry_in s r = record { association = r.association; action = r.action; time = num s 6 8; datagram = data_in s r }

mode-octet : (x : ℕ) → x ≤ 1 → cond (eqb x 1) 1 0 ≡ x
mode-octet zero h = refl
mode-octet (suc zero) h = refl
mode-octet (suc (suc x)) h = absurd (omega arith)

-- what a kind fixes
pub record Fixed (kind size : ℕ) (s : List ℕ) : Type 0 where
  pub same-data : data_of (take size (drop head_length s)) (action_of kind s) ≡ take size (drop head_length s)
  pub same_kind : kind_of (action_of kind s) ≡ kind
  pub same-time : time_field (num s 6 8) (action_of kind s) ≡ num s 6 8
  pub fits : ActionFits (action_of kind s)

fixed : (kind size : ℕ) (s : List ℕ) → Octets s → Faultless kind size s → Kind kind → Fixed kind size s
unfolding width_of
fixed kind size s b g open-kind =
    let n : size ≡ 4 = g.is-size in
    let room : head_length + 4 ≤ length s = let r = g.room in omega arith in
    record {
      same-data = rw n (spelled-read s 14 (piece 1 (num s 14 1) ∷ piece 1 (num s 15 1) ∷ piece 2 (num s 16 2) ∷ []) b room (refl, (refl, (refl, tt))));
      same_kind = refl;
      same-time = refl;
      fits = (num-lt s 14 1 b, num-lt s 15 1 b, num-lt s 16 2 b);
    }
fixed kind size s b g poll-kind =
    let n : size ≡ 10 = g.is-size in
    let room : head_length + 10 ≤ length s = let r = g.room in omega arith in
    let mode = mode-octet (num s 23 1) (ltb-false _ _ g.is-mode) in
    let exponent = of_z-to_z {w = w8} (record { fits = num-lt s 22 1 b }) in
    record {
      same-data =
          rw n (spelled-read s 14 (piece 8 (num s 14 8) ∷ piece 1 (of_z w8 (to_z w8 (num s 22 1))) ∷ piece 1 (cond (eqb (num s 23 1) 1) 1 0) ∷ []) b room
          (refl, (exponent, (mode, tt))));
      same_kind = refl;
      same-time = refl;
      fits = (num-lt s 14 8 b, sfits_to_z (record { fits = num-lt s 22 1 b }));
    }
fixed kind size s b g sent-kind =
    let n : size ≡ 0 = g.is-size in
    record { same-data = rw n refl; same_kind = refl; same-time = refl; fits = num-lt s 6 8 b }
fixed kind size s b g receive-kind = record { same-data = refl; same_kind = refl; same-time = refl; fits = num-lt s 6 8 b }
fixed kind size s b g close-kind =
    let n : size ≡ 0 = g.is-size in
    record { same-data = rw n refl; same_kind = refl; same-time = refl; fits = tt }

-- a call that was found, as it is written
pub record Recorded (s : List ℕ) (r : Record) : Type 0 where
  pub fit : EntryFits (entry_in s r)
  pub size : length (entry_data (entry_in s r)) ≡ r.size
  pub whole : entry_octets (entry_in s r) ++ rest_after s r ≡ s

module _ (s : List ℕ) (b : Octets s) (g : Faultless (num s 2 1) (num s 4 2) s) where
  abbrev kind : ℕ
  kind = num s 2 1

  abbrev size : ℕ
  size = num s 4 2

  abbrev own : List ℕ
  own = take size (drop head_length s)

  abbrev entry : Entry
  entry = entry_in s (record_in kind size s)

  own_fixed : Fixed kind size s
  own_fixed = fixed kind size s b g (kind-view kind g.is-kind)

  length-own : length own ≡ size
  length-own = length-take-le size (drop head_length s) (omega (arith, g.room, length-drop head_length s))

  length-data : length (entry_data entry) ≡ size
  length-data = ap length own_fixed.same-data ∙ length-own

  head-octets : spelled (head_pieces (num s 3 1) (num s 6 8) (length (entry_data entry)) (action_of kind s)) ≡ take head_length s
  unfolding width_of
  head-octets =
      spelled-read s 0 (head_pieces (num s 3 1) (num s 6 8) (length (entry_data entry)) (action_of kind s)) b (omega (arith, g.room))
      (sym g.marked, (own_fixed.same_kind, (refl, (length-data, (own_fixed.same-time, tt)))))

  recorded : Recorded s (record_in kind size s)
  recorded = record {
    fit = record {
      association = num-lt s 3 1 b;
      action = own_fixed.fits;
      time = num-lt s 6 8 b;
      datagram = take-octets size (drop head_length s) (drop-octets head_length s b);
      size = omega (arith, length-own, num-lt s 4 2 b);
    };
    size = length-data;
    whole =
        rw (head-octets, own_fixed.same-data, ← drop-drop size head_length s, append_assoc (take head_length s) own (drop size (drop head_length s)))
        (rw (take-append-drop size (drop head_length s)) (take-append-drop head_length s));
  }

pub found-recorded : (s : List ℕ) (r : Record) → Octets s → found_in s ≡ Call r → Recorded s r
found-recorded s r b e = let c = found-call s r e in subst⁻¹ (Recorded s) c.is-record (recorded s b c.faultless)
