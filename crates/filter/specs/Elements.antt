-- The elements of a filter as numbers: `value` of one of them, `values` of a list.
use Rattle.std.specs.Prelude.{◌≡◌, List, ℕ, ◌<◌, length, get_or, set, refl}
use Rattle.std.proofs.lemmas.List.{get_or_default}

pub record Elements {E : Type 0} (value : E → ℕ) (values : List E → List ℕ) : Type 0 where
  pub length_same : (l : List E) → length (values l) ≡ length l
  pub read : (l : List E) (i : ℕ) (d : E) → i < length l → get_or (values l) i 0 ≡ value (get_or l i d)
  pub written : (l : List E) (i : ℕ) (x : E) → values (set l i x) ≡ set (values l) i (value x)

-- octets and words are their own numbers
pub plain : Elements {E = ℕ} (λ x. x) (λ l. l)
plain = record {
  length_same = λ l. refl;
  read = λ l i d h. get_or_default l i 0 d h;
  written = λ l i x. refl;
}
