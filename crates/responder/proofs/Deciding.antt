-- Which case of the answer holds, test by test. Assumes nothing.
use mathlib.Core.Path.{◌≡◌, refl, sym, ap, ◌∙◌}
use mathlib.Core.Bool.{Bool, true, false, cond}
use mathlib.Core.List.{List, ◌++◌}
use Prim.Native.Nat.{ℕ, ◌-◌, ◌<◌, ◌≤◌}
use native.Mathlib.Nat.{sub-zero}
use native.Mathlib.Omega.{arith}
use borrow.Rule.Slice.PartMut.{put_mid}
use borrow.Author.Tests.{ne_eqb, lt-ltb, le-ltb}
use lib.ListN.{length, take, drop}
use lib.Seq.{length-take-le}
use Rattle.refusal.specs.declared.Refusal.{Refusal}
use Rattle.refusal.specs.Refusal.{refusal_number}
use Rattle.refusal.proofs.Numbers.{number_above_none}
use Rattle.header.specs.Edition.{Within}
use Rattle.header.specs.Header.{header_of, header_octets}
use Rattle.header.specs.declared.Header.{Header}
use Rattle.chain.specs.Content.{chain_octets}
use Rattle.store_rules.specs.Row.{Record, store_octets, size_of, row_of, wrong_store}
use Rattle.responder_rules.specs.Answer.{Given, asking, saved_time, answer_header, sent_header, answer_fields, answer_octets, output_after, row_after, first_refusal, wrong_fresh, short_output, refused_answer, answer_refusal, outcome, answer_of}
use Rattle.std.specs.Prelude.{Ok, Err}
use Rattle.responder_rules.specs.Claim.{Accepted}
use Rattle.responder_rules.proofs.Answers.{sent-within}
use Rattle.responder_rules.proofs.Accepting.{answer-written, answer-refused}

module _ (g : Given) (store out : List ℕ) where
  abbrev fresh : Bool
  fresh = wrong_fresh (asking g) g.fresh_cookie (row_of store)

  refused : (n : ℕ) → (n ≡ 0 → ⊥) → answer_refusal g store out ≡ n → outcome (Err n) out store ≡ answer_of g store out
  refused n z e = sym (answer-refused g store out (λ k. z (sym e ∙ k)) ∙ rw e)

  -- what the store, the arguments and the request are refused by
  pub refused-first : (r : Refusal) → refusal_number r ≡ cond (wrong_store store) 6 (first_refusal g)
      → outcome (Err (refusal_number r)) out store ≡ answer_of g store out
  unfolding answer_refusal
  refused-first r e = refused (refusal_number r) not_none (by (wrong_store store) e)
    where
      not_none : refusal_number r ≡ 0 → ⊥
      not_none q = let above = number_above_none r in omega arith

      by : (wrong : Bool) → refusal_number r ≡ cond wrong 6 (first_refusal g)
          → refused_answer wrong (first_refusal g) fresh (short_output g out) ≡ refusal_number r
      by true e = sym e
      by false e = rw (← e, ne_eqb (refusal_number r) 0 not_none)

  pub right-store : 0 ≡ cond (wrong_store store) 6 (first_refusal g) → wrong_store store ≡ false
  right-store e = by (wrong_store store) e
    where
      by : (wrong : Bool) → 0 ≡ cond wrong 6 (first_refusal g) → wrong ≡ false
      by true e = absurd (omega arith)
      by false e = refl

  module _ (right : wrong_store store ≡ false) where
    module _ (z : first_refusal g ≡ 0) where
      later : answer_refusal g store out ≡ cond fresh 8 (cond (short_output g out) 11 0)
      unfolding answer_refusal
      later = rw (right, z)

      pub refused-fresh : fresh ≡ true → outcome (Err 8) out store ≡ answer_of g store out
      refused-fresh e = refused 8 (λ q. absurd (omega arith)) (later ∙ rw e)

      module _ (e : fresh ≡ false) where
        pub refused-room : length out < length g.request → outcome (Err 11) out store ≡ answer_of g store out
        refused-room h = refused 11 (λ q. absurd (omega arith)) (later ∙ rw (e, lt-ltb _ _ h))

        pub answered : length g.request ≤ length out → {o s : List ℕ} → o ≡ output_after g (row_of store) out
            → s ≡ store_octets (size_of store) (row_after (asking g) g.fresh_cookie (size_of store) (row_of store))
            → outcome (Ok (length g.request)) o s ≡ answer_of g store out
        answered h p q = rw (p, q) (sym (answer-written g store out (later ∙ rw (e, le-ltb _ _ h))))

-- a part of the output is lent, and comes back

pub lent-size : (out : List ℕ) (n : ℕ) → n ≤ length out → length (take (n - 0) (drop 0 out)) ≡ n
lent-size out n h = rw (sub-zero n) (length-take-le n out h)

pub lent_back : (out l : List ℕ) (n : ℕ) → put_mid 0 (n - 0) out l ≡ l ++ drop n out
lent_back out l n = rw (sub-zero n)

-- the edition holds the header that the code computed
pub header-held : (g : Given) {asked h : Header} (time : ℕ) → Accepted g → asked ≡ asking g
    → h ≡ answer_header g.server asked g.receive g.estimate g.fresh_cookie time → Within h.edition h.stratum h.timescale h.flags
unfolding header_of
header-held g time ok a e = rw (e, a) (sent-within g.edition time ok.limits)

-- an answer's octets, by the header and the time that the code computed
module _ (g : Given) (row : List Record) {asked h : Header} {time : ℕ} (a : asked ≡ asking g) (t : time ≡ saved_time asked row)
    (e : h ≡ answer_header g.server asked g.receive g.estimate g.fresh_cookie time) where
  pub header-sent : h ≡ sent_header g row
  header-sent = e ∙ rw (t, a)

  pub octets-sent : {l : List ℕ} → l ≡ header_octets h ++ chain_octets (answer_fields h.edition g.request g.filter g.information) → l ≡ answer_octets g row
  unfolding answer_octets header_of
  octets-sent q = q ∙ ap (λ (k : Header). header_octets k ++ chain_octets (answer_fields k.edition g.request g.filter g.information)) header-sent
