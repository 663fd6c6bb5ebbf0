-- What is found in the octets that were read already is found in the whole trace. Assumes nothing.
use mathlib.Core.Path.{◌≡◌, refl, sym, ap, ◌∙◌}
use mathlib.Core.Bool.{Bool, true, false, cond, not, ◌&&◌}
use mathlib.Core.List.{List, ◌++◌, append_assoc}
use Prim.Native.Nat.{ℕ, ◌+◌, ◌<◌, ◌≤◌}
use native.Mathlib.Omega.{arith}
use borrow.Author.Tests.{le-ltb, ltb-false, leb-true, leb-false, eqb-true, ne_eqb, not-false}
use lib.Dec.{eqb, ltb, leb}
use lib.ListN.{length, drop, length-append, length-drop}
use lib.Seq.{drop-append-le}
use Rattle.octets.specs.Number.{Octets, num}
use Rattle.octets.proofs.Numbers.{num-left}
use Rattle.octets.proofs.Tests.{by-test, by-outcome}
use Rattle.octets.proofs.Written.{drop-octets}
use Rattle.trace_rules.specs.Record.{mark, head_length, is_kind, data_size, wrong_mode, found_of_kind, found_in, data_in, rest_after}
use Rattle.trace_rules.specs.Written.{entry_octets}
use Rattle.trace_rules.specs.Replay.{replay_found, replay_at}
use Rattle.trace_rules.specs.Claim.{ReadInPieces}
use Rattle.trace_rules.specs.declared.Record.{Record}
use Rattle.trace_rules.specs.declared.Fault.{Fault}
use Rattle.trace_rules.specs.declared.Fault.TheVariants.{Mark, Cut}
use Rattle.trace_rules.specs.declared.Found.{Found}
use Rattle.trace_rules.specs.declared.Found.TheVariants.{Call, End, Wrong}
use Rattle.trace_rules.proofs.Entries.{entry_record, entry_found, entry-data}
use Rattle.trace_rules.proofs.Recorded.{entry_in, found-recorded}
use Rattle.trace_rules.proofs.Listings.{at-end}

-- ---- a wrong record

-- more octets leave the head as it is
module _ (s u : List ℕ) (head : head_length ≤ length s) where
  pub head-found : found_in (s ++ u) ≡ cond (not (eqb (num s 0 2) mark)) (Wrong Mark) (found_of_kind (num s 2 1) (num s 4 2) (s ++ u))
  unfolding found_in
  head-found =
      let long = length-append s u in
      let some : length (s ++ u) ≡ 0 → ⊥ = λ z. omega arith in
      let room : head_length ≤ length (s ++ u) = omega arith in
      rw (ne_eqb _ _ some, le-ltb _ _ room, num-left s u 0 2 (omega arith), num-left s u 2 1 (omega arith), num-left s u 4 2 (omega arith))

-- and the mode, where the data is there
same-mode : (kind size : ℕ) (s u : List ℕ) → size ≡ data_size kind size → head_length + size ≤ length s → wrong_mode kind (s ++ u) ≡ wrong_mode kind s
same-mode kind size s u n room = go (eqb kind 2) refl
  where
    go : (b : Bool) → eqb kind 2 ≡ b → b && ltb 1 (num (s ++ u) 23 1) ≡ b && ltb 1 (num s 23 1)
    go false e = refl
    go true e =
        let k = eqb-true kind 2 e in
        let ten : size ≡ 10 = n ∙ rw k in
        ap (λ (x : ℕ). ltb 1 x) (num-left s u 23 1 (omega arith))

fault_found : Found → Fault → Fault
fault_found (Call r) g = g
fault_found End g = g
fault_found (Wrong f) g = f

end-no-wrong : {f : Fault} → End ≡ Wrong f → ⊥
end-no-wrong q = let z : ◌≡◌ {A = ℕ} 0 1 = cc in omega arith

call-no-wrong : {r : Record} {f : Fault} → Call r ≡ Wrong f → ⊥
call-no-wrong q = let z : ◌≡◌ {A = ℕ} 0 1 = cc in omega arith

-- what is wrong with a record, but for its being cut, stays wrong
wrong_stays : (s u : List ℕ) (f : Fault) → (f ≡ Cut → ⊥) → found_in s ≡ Wrong f → found_in (s ++ u) ≡ Wrong f
unfolding found_in fault_found
wrong_stays s u f h =
    by-test P (eqb (length s) 0) (λ t q. absurd (end-no-wrong q)) (λ t.
    by-test P (ltb (length s) head_length) (λ w q. cut q) (λ w.
    let head = ltb-false _ _ w in
    by-test P (not (eqb (num s 0 2) mark)) (λ m q. head-found s u head ∙ rw m q) (λ m.
    by-test P (not (is_kind (num s 2 1))) (λ k q. head-found s u head ∙ rw (m, k) q) (λ k.
    by-test P (not (eqb (num s 4 2) (data_size (num s 2 1) (num s 4 2)))) (λ n q. head-found s u head ∙ rw (m, k, n) q) (λ n.
    by-test P (ltb (length s) (head_length + num s 4 2)) (λ c q. cut q) (λ c.
    by-test P (wrong_mode (num s 2 1) s)
    (λ o q.
    let room = ltb-false _ _ c in
    let more : head_length + num s 4 2 ≤ length (s ++ u) = omega (arith, length-append s u) in
    let same = same-mode (num s 2 1) (num s 4 2) s u (eqb-true _ _ (not-false _ n)) room in
    head-found s u head ∙ rw (m, k, n, le-ltb _ _ more, same, o) q)
    (λ o q. absurd (call-no-wrong q))))))))
  where
    P : Found → Type 0
    P w = w ≡ Wrong f → found_in (s ++ u) ≡ Wrong f

    cut : Wrong Cut ≡ Wrong f → found_in (s ++ u) ≡ Wrong f
    cut q = absurd (h (sym (ap (λ (w : Found). fault_found w f) q)))

-- ---- a call

module _ (s u : List ℕ) (b : Octets s) (r : Record) (e : found_in s ≡ Call r) where
  abbrev rest : List ℕ
  rest = rest_after s r

  same-record : entry_record (entry_in s r) ≡ r
  same-record = let own = found-recorded s r b e in λ i. record { association = r.association; action = r.action; size = own.size i }

  whole : s ++ u ≡ entry_octets (entry_in s r) ++ (rest ++ u)
  whole = let own = found-recorded s r b e in ap (λ (x : List ℕ). x ++ u) (sym own.whole) ∙ append_assoc (entry_octets (entry_in s r)) rest u

  call_stays : found_in (s ++ u) ≡ Call r
  call_stays = let own = found-recorded s r b e in ap found_in whole ∙ entry_found (entry_in s r) own.fit (rest ++ u) ∙ ap (λ (x : Record). Call x) same-record

  data-stays : data_in (s ++ u) r ≡ data_in s r
  data-stays =
      let own = found-recorded s r b e in
      let f = own.fit in
      ap (data_in (s ++ u)) (sym same-record)
      ∙ ap (λ (x : List ℕ). data_in x (entry_record (entry_in s r))) whole
      ∙ entry-data (entry_in s r) f (rest ++ u)
      ∙ sym (entry-data (entry_in s r) f rest)
      ∙ ap (λ (x : List ℕ). data_in x (entry_record (entry_in s r))) own.whole
      ∙ ap (data_in s) same-record

-- ---- whatever it is

found-stays : (s u : List ℕ) (at : ℕ) (out t : List ℕ) → Octets s → (found_in s ≡ End → ⊥) → (found_in s ≡ Wrong Cut → ⊥)
    → replay_found (s ++ u) (found_in (s ++ u)) at out t ≡ replay_found s (found_in s) at out t
found-stays s u at out t b not_end not-cut = go (found_in s) refl
  where
    go : (f : Found) → found_in s ≡ f → replay_found (s ++ u) (found_in (s ++ u)) at out t ≡ replay_found s (found_in s) at out t
    go (Call r) e = rw (call_stays s u b r e, e, data-stays s u b r e)
    go End e = absurd (not_end e)
    go (Wrong f) e = rw (wrong_stays s u f (λ q. not-cut (e ∙ ap (λ (g : Fault). Wrong g) q)) e, e)

pub read-in-pieces : ReadInPieces
unfolding replay_at
read-in-pieces s u at out t b not_end not-cut = by-outcome (leb at (length s)) (λ h. inside (leb-true _ _ h)) (λ h. absurd (not_end (past (leb-false _ _ h))))
  where
    past : length s < at → found_in (drop at s) ≡ End
    past l = at-end (drop at s) (length-drop at s ∙ omega arith)

    inside : at ≤ length s → replay_found (drop at (s ++ u)) (found_in (drop at (s ++ u))) at out t ≡ replay_found (drop at s) (found_in (drop at s)) at out t
    inside l = rw (drop-append-le at s u l) (found-stays (drop at s) u at out t (drop-octets at s b) not_end not-cut)
