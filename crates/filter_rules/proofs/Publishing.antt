-- Publishing in any order, and one association after another. Assumes nothing.
--     publishing-order              any order of joining gives the published filter
--     joined-kept, length-joined    joining keeps what is set, and the size
--     joined-next                   the first association is joined if it is selected
use mathlib.Core.Path.{◌≡◌, refl, sym, ap, ◌∙◌}
use mathlib.Core.Bool.{Bool, true, false, cond}
use mathlib.Core.List.{List, [], ◌∷◌, ◌++◌}
use Prim.Native.Nat.{ℕ, zero, suc, ◌+◌, ◌<◌}
use native.Mathlib.Omega.{arith}
use lib.ListN.{length}
use Rattle.order.specs.Order.{Every, Permutation, nil, insert}
use Rattle.order.proofs.Permutations.{every-middle}
use Rattle.filter_rules.specs.Positions.{positions}
use Rattle.filter_rules.specs.Filter.{fresh_filter, is_set, add_all, union}
use Rattle.filter_rules.specs.Publishing.{bit, selected_from, joined}
use Rattle.filter_rules.specs.Laws.{PublishingOrder}
use Rattle.filter_rules.proofs.Adding.{length-fresh}
use Rattle.filter_rules.proofs.Uniting.{union-order, union-grouping, length_union, is_set-union}

-- ---- any order

module _ (filter_of : ℕ → List ℕ) where
  -- its filter has 512 octets
  abbrev Sized : ℕ → Type 0
  Sized a = length (filter_of a) ≡ 512

  -- of two associations either may be joined first
  swapped : (f : List ℕ) (a b : ℕ) → length f ≡ 512 → Sized a → Sized b
      → union (union f (filter_of a)) (filter_of b) ≡ union (union f (filter_of b)) (filter_of a)
  swapped f a b e h k =
      let x = filter_of a in
      let y = filter_of b in
      union-grouping f x y (e ∙ sym h) ∙ ap (union f) (union-order x y (h ∙ sym k)) ∙ sym (union-grouping f y x (e ∙ sym k))

  -- a may be joined first
  joined-first : (f : List ℕ) (l r : List ℕ) (a : ℕ) → length f ≡ 512 → Sized a → Every Sized (l ++ r)
      → joined filter_of (union f (filter_of a)) (l ++ r) ≡ joined filter_of f (l ++ (a ∷ r))
  unfolding joined
  joined-first f [] r a e h s = refl
  joined-first f (b ∷ l) r a e h s =
      ap (λ (g : List ℕ). joined filter_of g (l ++ r)) (swapped f a b e h s.0)
      ∙ joined-first (union f (filter_of b)) l r a (length_union f (filter_of b) ∙ e) h s.1

  joined-permuted : (f : List ℕ) {xs ys : List ℕ} → length f ≡ 512 → Every Sized ys → Permutation xs ys
      → joined filter_of f xs ≡ joined filter_of f ys
  unfolding joined
  joined-permuted f e s nil = refl
  joined-permuted f e s (insert {x = a} l r p) =
      let m = every-middle Sized l r a s in
      joined-permuted (union f (filter_of a)) (length_union f (filter_of a) ∙ e) m.1 p ∙ joined-first f l r a e m.0 m.1

-- what holds of each below a + n holds of each that is selected
every-from : (P : ℕ → Type 0) (selected n a : ℕ) → ((b : ℕ) → b < a + n → P b) → Every P (selected_from selected n a)
unfolding selected_from
every-from P selected zero a h = tt
every-from P selected (suc n) a h = go (bit a selected) (every-from P selected n (suc a) (λ b l. h b (omega arith)))
  where
    rest : List ℕ
    rest = selected_from selected n (suc a)

    go : (b : Bool) → Every P rest → Every P (cond b (a ∷ rest) rest)
    go true later = (h a (omega arith), later)
    go false later = later

pub publishing-order : PublishingOrder
publishing-order filter_of sized selected id order p =
    ap (λ (f : List ℕ). add_all f (positions id))
    (joined-permuted filter_of fresh_filter length-fresh (every-from (λ (a : ℕ). length (filter_of a) ≡ 512) selected 16 0 sized) p)

-- ---- one association after another

pub joined-kept : (filter_of : ℕ → List ℕ) → ((a : ℕ) → length (filter_of a) ≡ 512) → (f xs : List ℕ) (p : ℕ) → length f ≡ 512
    → is_set f p ≡ true → is_set (joined filter_of f xs) p ≡ true
unfolding joined
joined-kept filter_of sized f [] p e h = h
joined-kept filter_of sized f (a ∷ xs) p e h =
    joined-kept filter_of sized (union f (filter_of a)) xs p (length_union f (filter_of a) ∙ e)
    (is_set-union f (filter_of a) p (e ∙ sym (sized a)) ∙ rw h)

pub length-joined : (filter_of : ℕ → List ℕ) (f xs : List ℕ) → length (joined filter_of f xs) ≡ length f
unfolding joined
length-joined filter_of f [] = refl
length-joined filter_of f (a ∷ xs) = length-joined filter_of (union f (filter_of a)) xs ∙ length_union f (filter_of a)

pub joined-next : (filter_of : ℕ → List ℕ) (f : List ℕ) (selected n a : ℕ) → joined filter_of f (selected_from selected (suc n) a)
    ≡ joined filter_of (cond (bit a selected) (union f (filter_of a)) f) (selected_from selected n (suc a))
unfolding joined selected_from
joined-next filter_of f selected n a = go (bit a selected)
  where
    rest : List ℕ
    rest = selected_from selected n (suc a)

    go : (b : Bool) → joined filter_of f (cond b (a ∷ rest) rest) ≡ joined filter_of (cond b (union f (filter_of a)) f) rest
    go true = refl
    go false = refl
