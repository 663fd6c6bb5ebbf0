-- `remove` meets its contract: the octets after the record move up, and zeros follow. Assumes nothing.
use mathlib.Core.Path.{◌≡◌, refl, sym, ap, ◌∙◌}
use mathlib.Core.List.{List}
use Prim.Native.Nat.{ℕ, ◌+◌, ◌-◌, ◌≤◌}
use native.Mathlib.Omega.{arith}
use borrow.Author.Tests.{leb-false, lt-ltb}
use lib.ListN.{length, take, drop, replicate, length-take, length-drop}
use Rattle.std.proofs.lemmas.Slice.{put_mid-paste}
use lib.Seq.{paste}
use Rattle.octets.proofs.Parts.{room}
use Rattle.store_rules.specs.Place.{removed}
use Rattle.store_rules.proofs.Shifts.{shift_zero}
use Rattle.store_row.proofs.remove.Goals as goal

pub returns-then-has_room : goal.returns-then-has_room
returns-then-has_room c =
    let a = c.args in
    let s = a.store.now in
    let l = c.copy_within.new.self in
    let h : a.at + 16 ≤ length s = room _ _ c.has_room.ensures c.if-has_room.true in
    let k : length l ≡ length s = c.copy_within.ensures.len in
    let n : 16 ≡ length l - (length s - 16) = omega (arith, h, k) in
    let part : length (take (length l - (length s - 16)) (drop (length s - 16) l)) ≡ 16 = length-take (length l - (length s - 16)) (drop (length s - 16) l) ∙ omega (arith, length-drop (length s - 16) l, n) in
    let zeros : c.fill.new.self ≡ replicate 16 0 = c.fill.ensures.after (λ y e. e) ∙ ap (λ (n : ℕ). replicate n 0) part in
    put_mid-paste (length s - 16) (length l - (length s - 16)) l c.fill.new.self (replicate 16 0) 16 zeros n refl
    ∙ ap (λ (l : List ℕ). paste l (length s - 16) (replicate 16 0) 16) c.copy_within.ensures.after
    ∙ shift_zero s a.at h

pub returns-else-has_room : goal.returns-else-has_room
unfolding removed
returns-else-has_room c =
    let a = c.args in
    let h = leb-false _ _ (sym c.has_room.ensures ∙ c.if-has_room.false) in
    rw (lt-ltb (length a.store.now) (a.at + 16) h)
