-- The answers to a request's fields and the padding fill what stands after the header. Assumes nothing.
use mathlib.Core.Path.{◌≡◌, ◌∙◌}
use mathlib.Core.Bool.{false}
use mathlib.Core.List.{List, [], ◌++◌, append_assoc}
use Prim.Native.Nat.{ℕ, ◌-◌, ◌%◌, ◌≤◌}
use native.Mathlib.Omega.{arith}
use borrow.Author.Tests.{eqb-true, ltb-false, not-false}
use lib.ListN.{length, take, length-append}
use lib.Seq.{take_all, take_at, length-take-le}
use Rattle.chain.specs.Content.{Content, chain_octets}
use Rattle.header.specs.declared.edition.Edition.{Edition}
use Rattle.chain.specs.Field.{fields_in}
use Rattle.field_role.specs.Role.{none_met}
use Rattle.chain.proofs.Contents.{chain-append, chain-fours}
use Rattle.field_role.proofs.Roles.{met-none}
use Rattle.octets.proofs.Tests.{or-none}
use Rattle.responder_rules.specs.Answer.{answers_to, padding_of, answer_fields}
use Rattle.answer_fields.specs.Fields.{wrong_sizes, fields_written}
use Rattle.answer_fields.specs.Pass.{answers_with, Sizes, AnswersWritten}
use Rattle.field_write.proofs.Writing.{length-written}
use Rattle.answer_fields.proofs.Passes.{pass-answers}

-- sizes that are not wrong
pub record Right (s f i o : List ℕ) : Type 0 where
  pub sizes : Sizes s f i o
  pub high : length s ≤ 1280
  pub four : length s % 4 ≡ 0
  pub same : length o ≡ length s

module _ (s filter information out : List ℕ) (right : wrong_sizes s filter information out ≡ false) where
  pub right_sizes : Right s filter information out
  right_sizes =
      let three = or-none _ _ right in
      let two = or-none _ _ three.0 in
      let one = or-none _ _ two.0 in
      let fours = or-none _ _ two.1 in
      let ends = or-none _ _ fours.0 in
      let same = eqb-true (length out) (length s) (not-false _ three.1) in
      record {
        sizes = record {
          parts = record { filter = eqb-true _ _ (not-false _ one.0); information = eqb-true _ _ (not-false _ one.1) };
          header = ltb-false _ _ ends.0;
          room = omega arith;
        };
        high = ltb-false _ _ ends.1;
        four = eqb-true _ _ (not-false _ fours.1);
        same = same;
      }

  abbrev answers : Edition → List Content
  answers e = answers_with s filter information none_met (fields_in e s)

  module _ (e : Edition) {m : List ℕ} {at : ℕ} (a : AnswersWritten s filter information (fields_in e s) out at m) where
    pub length-answered : length m ≡ length s
    length-answered =
        let p = a.written.place in
        let most = a.most in
        let z = right_sizes in
        length-written a.written (omega arith) ∙ z.same

    -- what is left is a multiple of four octets
    pub left-fours : (length s - at) % 4 ≡ 0
    left-fours =
        let p = a.written.place in
        let z = right_sizes in
        let f = chain-fours (answers e) in
        omega arith

    before-padding : take at m ≡ take 48 out ++ chain_octets (answers e)
    before-padding =
        let p = a.written.place in
        let z = right_sizes in
        let header = z.sizes.header in
        let head = take 48 out in
        let xs = chain_octets (answers e) in
        let long : length head ≡ 48 = length-take-le 48 out (omega arith) in
        rw (a.written.content, take_all (length xs) xs (omega arith)) (take_at (head ++ xs) _ at (length-append head xs ∙ rw (long, p)))

    pub filled : {n : List ℕ} → n ≡ take at m ++ chain_octets (padding_of (length m - at)) → n ≡ fields_written e s filter information out
    unfolding answer_fields fields_written
    filled q =
        let flags : answers e ≡ answers_to s filter information [] (fields_in e s) = rw (← met-none) (pass-answers s filter information [] (fields_in e s)) in
        q ∙ rw (right, before-padding, length-answered, a.written.place, ← flags, chain-append) (append_assoc (take 48 out) (chain_octets (answers e)) _)
