-- What writing an answer's fields leaves, whatever it is given.
use Rattle.std.specs.Prelude.{Bool, cond, not, ◌||◌, List, ◌++◌, ℕ, eqb, length, take}
use Rattle.header.specs.Header.{wrong_length}
use Rattle.header.specs.declared.edition.Edition.{Edition}
use Rattle.chain.specs.Content.{chain_octets}
use Rattle.responder_rules.specs.Answer.{answer_fields}

-- the filter or the server information of wrong size, a request of wrong length, or an output not as long
abbrev pub wrong_sizes : (request filter information out : List ℕ) → Bool
wrong_sizes request filter information out =
    not (eqb (length filter) 512) || not (eqb (length information) 4) || wrong_length request || not (eqb (length out) (length request))

-- nothing is written where a size is wrong; else the fields stand after what the header's 48 octets held
unfoldable pub fields_written : Edition → (request filter information out : List ℕ) → List ℕ
fields_written e request filter information out =
    cond (wrong_sizes request filter information out) out (take 48 out ++ chain_octets (answer_fields e request filter information))
