-- What publishing writes, B-8, B-10 and B-11.
use Rattle.std.specs.Prelude.{Bool, cond, List, [], ◌∷◌, ℕ, zero, suc, ◌/◌, ◌%◌, ◌^◌, eqb}
use Rattle.filter_rules.specs.Positions.{positions}
use Rattle.filter_rules.specs.Filter.{fresh_filter, add_all, union}

-- bit 2^a of a number
abbrev pub bit : ℕ → ℕ → Bool
bit a selected = eqb (selected / 2 ^ a % 2) 1

-- the selected ones of the n associations from a on
unfoldable pub selected_from : (selected n a : ℕ) → List ℕ
selected_from selected zero a = []
selected_from selected (suc n) a = cond (bit a selected) (a ∷ selected_from selected n (suc a)) (selected_from selected n (suc a))

-- B-8: the selected ones of all sixteen
abbrev pub selected_associations : ℕ → List ℕ
selected_associations selected = selected_from selected 16 0

-- f joined with the filters of associations, one after the other; filter_of a is association a's
unfoldable pub joined : (ℕ → List ℕ) → List ℕ → List ℕ → List ℕ
joined filter_of f [] = f
joined filter_of f (a ∷ rest) = joined filter_of (union f (filter_of a)) rest

-- B-8, B-10, B-11: the selected ones' filters, joined from a fresh one on, and the own ID added
abbrev pub published_filter : (ℕ → List ℕ) → ℕ → List ℕ → List ℕ
published_filter filter_of selected id = add_all (joined filter_of fresh_filter (selected_associations selected)) (positions id)
