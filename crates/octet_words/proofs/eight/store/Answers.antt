-- `store`: the library's bytes of a word, lowest first, are its octets.
use mathlib.Core.Path.{◌∙◌}
use native.Mathlib.Omega.{arith}
use Rattle.octet_words.proofs.Storing.{stored}
use Rattle.octet_words.proofs.eight.store.Goals as goal

pub returns : goal.returns
returns c = stored _ _ _ _ _ (c.copy_from_slice.ensures.after ∙ c.to_le_bytes.ensures) (omega arith)
