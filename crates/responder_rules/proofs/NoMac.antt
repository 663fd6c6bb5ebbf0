-- No field of an answer is a MAC. Assumes nothing.
use mathlib.Core.Path.{refl}
use mathlib.Core.List.{List, [], ◌∷◌, ◌++◌}
use Prim.Native.Nat.{ℕ, ◌+◌, ◌-◌}
use lib.Dec.{eqb}
use lib.ListN.{length}
use Rattle.octets.proofs.Tests.{by-test}
use Rattle.header.specs.declared.edition.Edition.{Edition}
use Rattle.chain.specs.Field.{fields_in}
use Rattle.chain.specs.Content.{chain_octets}
use Rattle.chain.specs.declared.cursor.Field.{Field}
use Rattle.chain.proofs.Contents.{NoneOf, none-append}
use Rattle.field_role.specs.Role.{role_of}
use Rattle.field_role.specs.declared.Role.{Role}
use Rattle.field_role.specs.declared.Role.TheVariants.{FilterRequest, Information, DraftName, Unknown}
use Rattle.responder_rules.specs.Answer.{answer_to, answers_to, padding_of, answer_fields}

padding-no-mac : (n : ℕ) → NoneOf 0xF502 (padding_of n)
padding-no-mac n = by-test (NoneOf 0xF502) (eqb n 0) (λ e. tt) (λ e. (refl, tt))

module _ (request filter information : List ℕ) where
  role-no-mac : (f : Field) (r : Role) → NoneOf 0xF502 (answer_to filter information f r)
  role-no-mac f (FilterRequest offset) = (refl, tt)
  role-no-mac f Information = (refl, tt)
  role-no-mac f DraftName = (refl, tt)
  role-no-mac f Unknown = tt

  answers-no-mac : (before fs : List Field) → NoneOf 0xF502 (answers_to request filter information before fs)
  unfolding answers_to
  answers-no-mac before [] = tt
  answers-no-mac before (f ∷ fs) =
      let r = role_of request before f in
      none-append 0xF502 (answer_to filter information f r) (answers_to request filter information (before ++ (f ∷ [])) fs)
      (role-no-mac f r) (answers-no-mac (before ++ (f ∷ [])) fs)

  pub fields-no-mac : (e : Edition) → NoneOf 0xF502 (answer_fields e request filter information)
  unfolding answer_fields
  fields-no-mac e =
      let answers = answers_to request filter information [] (fields_in e request) in
      let left = length request - (48 + length (chain_octets answers)) in
      none-append 0xF502 answers (padding_of left) (answers-no-mac [] (fields_in e request)) (padding-no-mac left)
