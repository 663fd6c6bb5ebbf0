-- The library's bytes of a number, highest first, are its octets. Assumes nothing.
use mathlib.Core.Path.{◌≡◌, refl, sym, ap, ◌∙◌}
use mathlib.Core.List.{List}
use Prim.Native.Nat.{ℕ, zero, suc, ◌%◌, ◌/◌, ◌^◌}
use native.Mathlib.Nat.{add-zero, div-one}
use native.Mathlib.Numerals.{one-add}
use lib.Seq.{paste}
use borrow.Rule.Slice.PartMut.{put_mid}
use Rattle.std.specs.Int.{byte_at, bytes_high_first}
use Rattle.std.proofs.Common.{◌+◌, ◌<◌, ◌≤◌, length, get_or, get_or-take, get_or-drop, arith}
use Rattle.std.proofs.lemmas.Slice.{put_mid-paste}
use Rattle.octets.proofs.Numbers.{octets-add, octets-low, octets-num, length-octets}
use Rattle.octets.specs.Number.{Octets, num, octets}

-- the library's byte k, counted from the lowest
pub byte_div : (k v : ℕ) → byte_at k v ≡ v / 256 ^ k % 256
byte_div zero v = rw div-one
byte_div (suc k) v = refl

pub bytes_octets : (k v : ℕ) → bytes_high_first k v ≡ octets k v
unfolding octets
bytes_octets zero v = refl
bytes_octets (suc k) v =
    rw (byte_div k v, bytes_octets k v, ← octets-low k v) (sym (octets-add 1 k v) ∙ rw one-add)

-- a part of a slice that got them
pub stored : (at k n v : ℕ) (s ys : List ℕ) → ys ≡ bytes_high_first n v → k ≡ n → put_mid at k s ys ≡ paste s at (octets n v) n
stored at k n v s ys e h = put_mid-paste at k s ys (octets n v) n (e ∙ bytes_octets n v) (sym h) (sym (length-octets n v))

-- one of the bytes of a number that was read is the octet in its place
pub byte_read : (s : List ℕ) (at n i : ℕ) → Octets s → at + n ≤ length s → i < n → get_or (bytes_high_first n (num s at n)) i 0 ≡ num s (at + i) 1
unfolding num
byte_read s at n i b h l =
    ap (λ (xs : List ℕ). get_or xs i 0) (bytes_octets n (num s at n) ∙ octets-num s at n b h)
    ∙ rw (get_or-take, get_or-drop, add-zero) (omega arith)
