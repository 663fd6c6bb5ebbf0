-- One turn of `union`, at any element. Assumes nothing.
use Rattle.std.proofs.Common.{◌≡◌, ℕ, ◌+◌, ◌<◌, List, length, get_or, set, min, sym, ap, ap₂, ◌∙◌, arith}
use Rattle.std.specs.Int.Bits.{bit_or}
use Rattle.filter_rules.proofs.Turns.{union_from, union-step}
use Rattle.filter.specs.Elements.{Elements}

module _ {E : Type 0} {value : E → ℕ} {values : List E → List ℕ} (n : Elements value values) where
  pub turn : (f h : List E) (i : ℕ) (x y z : E) → i < min (length f) (length h) → x ≡ get_or f i x → y ≡ get_or h i y
      → value z ≡ bit_or (value x) (value y)
      → union_from (i + 1) (values (set f i z)) (values h) ≡ union_from i (values f) (values h)
  turn f h i x y z w p q e =
      let joined : value z ≡ bit_or (get_or (values f) i 0) (get_or (values h) i 0) =
      e ∙ ap₂ bit_or (ap value p ∙ sym (n.read f i x (omega arith))) (ap value q ∙ sym (n.read h i y (omega arith))) in
      ap (λ k. union_from (i + 1) k (values h)) (n.written f i z ∙ ap (set (values f) i) joined)
      ∙ union-step (values f) (values h) i (simp (n.length_same) w)
