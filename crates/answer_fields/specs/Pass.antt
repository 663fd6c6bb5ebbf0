-- The one pass over a request's fields that writes their answers, as the code makes it.
use Rattle.std.specs.Prelude.{◌≡◌, List, [], ◌∷◌, ◌++◌, ℕ, ◌≤◌, length}
use Rattle.chain.specs.Content.{Content, chain_octets}
use Rattle.field_role.specs.Role.{none_met, met_after, role_with}
use Rattle.chain.specs.declared.cursor.Field.{Field}
use Rattle.field_role.specs.declared.Met.{Met}
use Rattle.field_write.specs.Write.{WrittenAt}
use Rattle.responder_rules.specs.Answer.{answer_to}

-- the answers to fields, from three flags instead of the fields before
unfoldable pub answers_with : (request filter information : List ℕ) → Met → List Field → List Content
answers_with request filter information met [] = []
answers_with request filter information met (f ∷ fs) =
    answer_to filter information f (role_with request f met) ++ answers_with request filter information (met_after met f.kind) fs

-- the sizes of a filter and of server information, from which answers are taken
pub record Parts (f i : List ℕ) : Type 0 where
  pub filter : length f ≡ 512
  pub information : length i ≡ 4

-- and of a request, which has a header and for whose length the output has the room
pub record Sizes (s f i out : List ℕ) : Type 0 where
  pub parts : Parts f i
  pub header : 48 ≤ length s
  pub room : length s ≤ length out

-- the answers to fields of a request were written over s after the header, which gives t, and `next` is the place after them
pub record AnswersWritten (request filter information : List ℕ) (fs : List Field) (s : List ℕ) (next : ℕ) (t : List ℕ) : Type 0 where
  pub written : WrittenAt s 48 (chain_octets (answers_with request filter information none_met fs)) next t
  pub most : next ≤ length request
