-- What a header's octets say is said by the first 48 alone. Assumes nothing.
use mathlib.Core.Path.{◌≡◌}
use mathlib.Core.List.{List}
use Prim.Native.Nat.{ℕ, ◌+◌, ◌<◌, ◌≤◌}
use native.Mathlib.Omega.{arith}
use lib.ListN.{length, get_or}
use Rattle.octets.specs.Number.{num}
use Rattle.octets.proofs.Numbers.{num-same}
use Rattle.header.specs.Header.{mode_of, header_of, refusal}
use Rattle.header.specs.declared.edition.Edition.{Edition}

module _ (s t : List ℕ) (same : (i : ℕ) → i < 48 → get_or t i 0 ≡ get_or s i 0) where
  number : (at n : ℕ) → at + n ≤ 48 → num t at n ≡ num s at n
  number at n h = num-same s t at n (λ i a b. same i (omega arith))

  pub mode-same : mode_of t ≡ mode_of s
  mode-same = rw (number 0 1 (omega arith))

  pub header-same : (e : Edition) → header_of e t ≡ header_of e s
  unfolding header_of
  header-same e = rw (
    number 0 1 (omega arith),
    number 1 1 (omega arith),
    number 2 1 (omega arith),
    number 3 1 (omega arith),
    number 4 1 (omega arith),
    number 5 1 (omega arith),
    number 6 2 (omega arith),
    number 8 4 (omega arith),
    number 12 4 (omega arith),
    number 16 8 (omega arith),
    number 24 8 (omega arith),
    number 32 8 (omega arith),
    number 40 8 (omega arith),
  )

  pub refusal-same : length t ≡ length s → (wanted : ℕ) → refusal t wanted ≡ refusal s wanted
  unfolding refusal
  refusal-same long wanted = rw (long, number 0 1 (omega arith))
