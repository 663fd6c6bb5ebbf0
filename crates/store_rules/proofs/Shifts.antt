-- A record that leaves: the octets after it have moved up, and zeros stand at the end. Assumes nothing.
use mathlib.Core.Path.{◌≡◌, refl, sym, ap, ◌∙◌}
use mathlib.Core.List.{List, [], ◌++◌, append-nil}
use Prim.Native.Nat.{ℕ, ◌+◌, ◌-◌, ◌*◌, ◌≤◌}
use native.Mathlib.Omega.{arith}
use borrow.Author.Tests.{le-ltb}
use lib.ListN.{length, drop, replicate, length-drop, length-append, drop_of_length-le}
use Rattle.std.specs.List.{copy_within}
use lib.Seq.{paste}
use Rattle.octets.proofs.Parts.{pasted, paste-paste}
use Rattle.store_rules.specs.Row.{row_octets, store_octets, size_of}
use Rattle.store_rules.specs.Place.{removed}

-- they have moved, and zeros stand after them
pub shift_zero : (s : List ℕ) (at : ℕ) → at + 16 ≤ length s → paste (copy_within s (at + 16) (length s) at) (length s - 16) (replicate 16 0) 16 ≡ removed s at
unfolding removed
shift_zero s at h =
    let xs = drop (at + 16) s in
    let m = length s - (at + 16) in
    let p : at + m ≡ length s - 16 = omega arith in
    let x : length xs ≡ m = length-drop (at + 16) s in
    let zs : List ℕ = replicate 16 0 in
    let z : length zs ≡ 16 = refl in
    let y : length (xs ++ zs) ≡ m + 16 = length-append xs zs ∙ rw (x, z) in
    let d : drop (at + (m + 16)) s ≡ [] = drop_of_length-le s {i = at + (m + 16)} (omega arith) in
    rw (le-ltb (length s) (at + 16) h)
    (ap (λ (i : ℕ). paste (paste s at xs m) i zs 16) (sym p)
    ∙ paste-paste s xs zs at m 16 x z (omega arith)
    ∙ pasted s (xs ++ zs) at (m + 16) y
    ∙ rw (d, append-nil))

-- a cleared store
pub clear-all : (s : List ℕ) → length s ≡ 16 * size_of s → replicate (length s) 0 ≡ store_octets (size_of s) []
unfolding store_octets row_octets
clear-all s h = let e : 16 * (size_of s - 0) ≡ length s = omega arith in rw e
