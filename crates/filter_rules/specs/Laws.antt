-- The laws of filters for a safety review: each of the rules W207-1 to W207-7 once, in their order.
--
-- How to read them: a line with `Type 0` names a law, and the next one states it. `(f g : List ℕ) → L` is ∀ f g: L. `A → L` is "L, if A".
-- `×` is "and". f, g and h are filters, lists of octets; `length f` is how many octets f has. A law that needs sizes asks for 512 octets,
-- or only that two filters have the same size. `add_all f (positions id)` is f with an ID added. All words are those of the contracts;
-- Filter.antt and Publishing.antt beside this file define them.
use Rattle.std.specs.Prelude.{◌≡◌, List, ℕ, ◌+◌, ◌<◌, ◌≤◌, min, max, length}
use Rattle.order.specs.Order.{Permutation}
use Rattle.filter_rules.specs.Positions.{positions}
use Rattle.filter_rules.specs.Filter.{fresh_filter, add_all, union, weight}
use Rattle.filter_rules.specs.Publishing.{selected_associations, joined, published_filter}

-- W207-1: the order of two
abbrev pub UnionOrder : Type 0
UnionOrder = (f g : List ℕ) → length f ≡ length g → union f g ≡ union g f

-- W207-2: the grouping of three
abbrev pub UnionGrouping : Type 0
UnionGrouping = (f g h : List ℕ) → length f ≡ length g → union (union f g) h ≡ union f (union g h)

-- W207-3: a filter and itself
abbrev pub UnionItself : Type 0
UnionItself = (f : List ℕ) → union f f ≡ f

-- W207-4: the fresh filter, on either side
abbrev pub UnionFresh : Type 0
UnionFresh = (f : List ℕ) → length f ≡ 512 → (union f fresh_filter ≡ f) × (union fresh_filter f ≡ f)

-- W207-5: adding an ID to the one side, and to the other
abbrev pub UnionAdding : Type 0
UnionAdding = (f g id : List ℕ) → length f ≡ length g
    → (union (add_all f (positions id)) g ≡ add_all (union f g) (positions id))
    × (union f (add_all g (positions id)) ≡ add_all (union f g) (positions id))

-- W207-6: the weight's bounds
abbrev pub UnionWeight : Type 0
UnionWeight = (f g : List ℕ) → length f ≡ length g
    → (max (weight f) (weight g) ≤ weight (union f g)) × (weight (union f g) ≤ min 4096 (weight f + weight g))

-- W207-7: publishing. `filter_of a` is the filter of association a, and `order` has the selected associations in any order
abbrev pub PublishingOrder : Type 0
PublishingOrder = (filter_of : ℕ → List ℕ) → ((a : ℕ) → a < 16 → length (filter_of a) ≡ 512)
    → (selected : ℕ) (id order : List ℕ) → Permutation order (selected_associations selected)
    → add_all (joined filter_of fresh_filter order) (positions id) ≡ published_filter filter_of selected id
