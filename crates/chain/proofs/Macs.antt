-- What stands after the first MAC: the definition is the sentence, and tells the same of fields counted from an earlier place. Assumes nothing.
use mathlib.Core.Path.{◌≡◌, refl, sym, ap, ◌∙◌}
use mathlib.Core.Bool.{Bool, true, false, cond}
use mathlib.Core.List.{List, [], ◌∷◌, ◌++◌}
use mathlib.Core.Logic.{◌↔◌}
use Prim.Native.Nat.{ℕ}
use native.Mathlib.Omega.{arith}
use borrow.Author.Tests.{eq-eqb, eqb-true}
use lib.Dec.{eqb}
use lib.ListN.{drop}
use Rattle.octets.proofs.Tests.{by-test, by-outcome}
use Rattle.chain.specs.Chain.{after_mac, after_refusal}
use Rattle.chain.specs.Field.{fields_from, first_of, NothingAfterMac}
use Rattle.chain.specs.declared.cursor.Field.{Field}
use Rattle.std.specs.Prelude.{Some, None}
use Rattle.chain.proofs.Walks.{shifted_fields, fields-from}

-- neither the first field is a MAC nor any of the rest
absent-parts : (f : Field) (fs : List Field) → first_of 0xF502 (f ∷ fs) ≡ None → (eqb f.kind 0xF502 ≡ false) × (first_of 0xF502 fs ≡ None)
unfolding first_of
absent-parts f fs n = go (eqb f.kind 0xF502) n
  where
    go : (b : Bool) → cond b (Some f) (first_of 0xF502 fs) ≡ None → (b ≡ false) × (first_of 0xF502 fs ≡ None)
    go true n = let z : ◌≡◌ {A = ℕ} 0 1 = cc in absurd (omega arith)
    go false n = (refl, n)

-- the fields after a MAC that has none before it
after_first : (before after : List Field) (mac : Field) → first_of 0xF502 before ≡ None → mac.kind ≡ 0xF502 → after_mac (before ++ (mac ∷ after)) ≡ after
after_first [] after mac none e = rw (eq-eqb _ _ e)
after_first (f ∷ before) after mac none e = let p = absent-parts f before none in rw p.0 (after_first before after mac p.1 e)

none_after : (fs : List Field) → NothingAfterMac fs → after_mac fs ≡ []
unfolding first_of
none_after [] h = refl
none_after (f ∷ fs) h =
    by-test (λ (l : List Field). l ≡ []) (eqb f.kind 0xF502)
    (λ e. h [] fs f refl refl (eqb-true _ _ e))
    (λ e. none_after fs (λ before after mac q none k. h (f ∷ before) after mac (ap (λ (l : List Field). f ∷ l) q) (rw e none) k))

-- the definition is the sentence
pub nothing-after : (fs : List Field) → after_mac fs ≡ [] ↔ NothingAfterMac fs
nothing-after fs = (λ h before after mac q none e. sym (after_first before after mac none e) ∙ ap after_mac (sym q) ∙ h, none_after fs)

-- where no field is a MAC, none stands after one
pub absent-after : (fs : List Field) → first_of 0xF502 fs ≡ None → after_mac fs ≡ []
absent-after [] n = refl
absent-after (f ∷ fs) n = let p = absent-parts f fs n in rw p.0 (absent-after fs p.1)

-- counted from n octets before, it is the same

all-shifted : (n : ℕ) (fs : List Field) → after_refusal (shifted_fields n fs) ≡ after_refusal fs
all-shifted n [] = refl
all-shifted n (f ∷ fs) = refl

mac-shifted : (n : ℕ) (fs : List Field) → after_refusal (after_mac (shifted_fields n fs)) ≡ after_refusal (after_mac fs)
mac-shifted n [] = refl
mac-shifted n (f ∷ fs) = by-outcome (eqb f.kind 0xF502) (λ e. rw e (all-shifted n fs)) (λ e. rw e (mac-shifted n fs))

pub mac-from : (s : List ℕ) (n : ℕ) → after_refusal (after_mac (fields_from s n)) ≡ after_refusal (after_mac (fields_from (drop n s) 0))
mac-from s n = ap (λ (fs : List Field). after_refusal (after_mac fs)) (fields-from s n) ∙ mac-shifted n (fields_from (drop n s) 0)
