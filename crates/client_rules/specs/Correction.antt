-- W209-7: receiving ignores a Correction field.
use Rattle.std.specs.Prelude.{◌≡◌, List, ◌∷◌, ◌++◌, ℕ, length}
use Rattle.chain.specs.Chain.{sound_refusal}
use Rattle.chain.specs.Content.{Content, content, chain_octets, AllFit}
use Rattle.client_rules.specs.Call.{receive}
use Rattle.client_rules.specs.Numbers.{step_numbers}

-- a response with a header and fields, and the same with a Correction field of any data among them
abbrev pub without : (header : List ℕ) (before after : List Content) → List ℕ
without header before after = header ++ chain_octets (before ++ after)

abbrev pub with : (header : List ℕ) (before : List Content) (correction : List ℕ) (after : List Content) → List ℕ
with header before correction after = header ++ chain_octets (before ++ (content 0xF506 correction ∷ after))

-- where both are sound, receiving either answers the same, so measures the same, and leaves the same numbers, of any table lent
abbrev pub CorrectionIgnored : Type 0
CorrectionIgnored = (a t4 : ℕ) (header : List ℕ) (before after : List Content) (correction table : List ℕ) → length header ≡ 48 → AllFit (before ++ (content 0xF506 correction ∷ after))
    → sound_refusal (without header before after) 4 ≡ 0 → sound_refusal (with header before correction after) 4 ≡ 0
    → step_numbers (receive a (with header before correction after) t4) table ≡ step_numbers (receive a (without header before after) t4) table
