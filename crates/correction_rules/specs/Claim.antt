-- What holds of the switch call, W209-8 to W209-16, of any octets, delays and ports.
use Rattle.std.specs.Prelude.{◌≡◌, List, ◌↔◌, ◌⊎◌, ℕ, ◌+◌, ◌%◌, ◌^◌, ◌<◌, ◌≤◌, ℤ, ◌+ℤ◌, length, get_or, Some, None}
use Rattle.std.specs.Int.{w64}
use Rattle.std.proofs.Common.{SFits}
use Rattle.octets.specs.Number.{Octets, put_at}
use Rattle.header.specs.Header.{header_of}
use Rattle.header.specs.declared.edition.Edition.{Edition}
use Rattle.chain.specs.Chain.{sound_refusal, either_refusal}
use Rattle.chain.specs.Field.{ChainKept}
use Rattle.chain.specs.declared.cursor.Field.{Field}
use Rattle.field_role.specs.Correction.{delay_place, complement_place}
use Rattle.correction_rules.specs.Sum.{word_sum}
use Rattle.correction_rules.specs.Correct.{correction_of, delay_of, path_of, complement_of, corrected}
use Rattle.correction_rules.specs.Passage.{Passage, through, added_delay, added_ports}

-- WHEN

-- a request or a response with a good field, and a sum that fits
pub record Correctable (delay : ℤ) (s : List ℕ) : Type 0 where
  pub sound : (sound_refusal s 3 ≡ 0) ⊎ (sound_refusal s 4 ≡ 0)
  pub field : Field
  pub good : correction_of s ≡ Some field
  pub fits : SFits w64 (delay_of field s +ℤ delay)

-- W209-8 to W209-10: accepted exactly then
abbrev pub CorrectedExactly : Type 0
CorrectedExactly = (delay : ℤ) (ingress egress : ℕ) (s : List ℕ) → (corrected delay ingress egress s).0 ≡ 0 ↔ Correctable delay s

-- the refusals in their order; each leaves the datagram, W209-14
pub record RefusedInOrder (delay : ℤ) (ingress egress : ℕ) (s : List ℕ) : Type 0 where
  pub unsound : (either_refusal s ≡ 0 → ⊥) → corrected delay ingress egress s ≡ (either_refusal s, s)
  pub no_field : either_refusal s ≡ 0 → correction_of s ≡ None → corrected delay ingress egress s ≡ (12, s)
  pub outside : (f : Field) → either_refusal s ≡ 0 → correction_of s ≡ Some f → (SFits w64 (delay_of f s +ℤ delay) → ⊥)
      → corrected delay ingress egress s ≡ (6, s)
  pub unchanged : ((corrected delay ingress egress s).0 ≡ 0 → ⊥) → (corrected delay ingress egress s).1 ≡ s

abbrev pub Refusals : Type 0
Refusals = (delay : ℤ) (ingress egress : ℕ) (s : List ℕ) → RefusedInOrder delay ingress egress s

-- WHAT

-- what stays: all but twelve octets of f, the sum, header, fields and refusals
pub record Kept (f : Field) (s t : List ℕ) : Type 0 where
  pub long : length t ≡ length s
  -- W209-14
  pub before : (i : ℕ) → i < delay_place f → get_or t i 0 ≡ get_or s i 0
  pub after : (i : ℕ) → delay_place f + 12 ≤ i → get_or t i 0 ≡ get_or s i 0
  pub octets : Octets s → Octets t
  -- W209-13
  pub sum : word_sum t % 65535 ≡ word_sum s % 65535
  -- W209-15
  pub header : (e : Edition) → header_of e t ≡ header_of e s
  pub chain : ChainKept f s t
  pub found : correction_of t ≡ Some f

-- what a switch call that is not refused does
pub record Corrected (delay : ℤ) (ingress egress : ℕ) (f : Field) (s t : List ℕ) : Type 0 where
  pub kept : Kept f s t
  -- W209-11, W209-12
  pub delayed : delay_of f t ≡ delay_of f s +ℤ delay
  pub path : path_of f t ≡ (path_of f s + ingress + egress) % 2 ^ 16
  -- W209-13: the one number in its range that keeps the sum
  pub complement : complement_of f t ≤ 65534
  pub only : (k : ℕ) → k ≤ 65534 → word_sum (put_at t (complement_place f) 2 k) % 65535 ≡ word_sum s % 65535 → k ≡ complement_of f t

abbrev pub SwitchCall : Type 0
SwitchCall = (delay : ℤ) (ingress egress : ℕ) (s : List ℕ) (f : Field) → (corrected delay ingress egress s).0 ≡ 0 → correction_of s ≡ Some f
    → Corrected delay ingress egress f s (corrected delay ingress egress s).1

-- W209-16: two after one another are one with the sums
abbrev pub TwoAddUp : Type 0
TwoAddUp = (delay₁ delay₂ : ℤ) (ingress₁ egress₁ ingress₂ egress₂ : ℕ) (s t u : List ℕ)
    → corrected delay₁ ingress₁ egress₁ s ≡ (0, t) → corrected delay₂ ingress₂ egress₂ t ≡ (0, u)
    → corrected (delay₁ +ℤ delay₂) (ingress₁ + ingress₂) (egress₁ + egress₂) s ≡ (0, u)

-- any list of them, refused or not
pub record Carried (ps : List Passage) (f : Field) (s : List ℕ) : Type 0 where
  pub kept : Kept f s (through ps s)
  pub delayed : delay_of f (through ps s) ≡ delay_of f s +ℤ added_delay ps s
  pub path : path_of f (through ps s) ≡ (path_of f s + added_ports ps s) % 2 ^ 16

abbrev pub AnyPassages : Type 0
AnyPassages = (ps : List Passage) (s : List ℕ) (f : Field) → Octets s → correction_of s ≡ Some f → Carried ps f s
