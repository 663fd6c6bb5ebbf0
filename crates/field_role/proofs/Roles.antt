-- Three flags are all that a responder has to know of the fields before, and each field has the size that its role allows. Assumes nothing.
use mathlib.Core.Path.{◌≡◌, refl, sym, ap, ◌∙◌}
use mathlib.Core.Bool.{Bool, true, false, cond, ◌||◌, false≢true, or_assoc, or-false, and-eq-true_iff}
use mathlib.Core.List.{List, [], ◌∷◌, ◌++◌}
use Prim.Native.Nat.{ℕ, ◌+◌, ◌%◌, ◌≤◌}
use native.Mathlib.Omega.{arith}
use borrow.Author.Tests.{eq-eqb, eqb-true, le-leb, leb-true}
use lib.Dec.{eqb}
use Rattle.octets.specs.Number.{get_at}
use Rattle.field_role.specs.Role.{good_request, request_role, already_met, role_given, role_of, none_met, met_after, role_with, is_answered, SizeAllowed}
use Rattle.chain.specs.declared.cursor.Field.{Field}
use Rattle.field_role.specs.declared.Met.{Met}
use Rattle.field_role.specs.declared.Role.{Role}
use Rattle.field_role.specs.declared.Role.TheVariants.{FilterRequest, Information, DraftName, Unknown}

-- the flags of a list of fields
abbrev pub met_of : List Field → Met
met_of before = record {
  request = already_met 0xF503 before;
  information = already_met 0xF505 before;
  name = already_met 0xF5FF before;
}

pub met-none : met_of [] ≡ none_met
unfolding already_met
met-none = refl

met-last : (kind : ℕ) (before : List Field) (f : Field) → already_met kind (before ++ (f ∷ [])) ≡ already_met kind before || eqb f.kind kind
unfolding already_met
met-last kind [] f = or-false (eqb f.kind kind)
met-last kind (g ∷ before) f =
    ap (λ (b : Bool). eqb g.kind kind || b) (met-last kind before f)
    ∙ sym (or_assoc (eqb g.kind kind) (already_met kind before) (eqb f.kind kind))

-- one field more
pub met_next : (before : List Field) (f : Field) → met_after (met_of before) f.kind ≡ met_of (before ++ (f ∷ []))
met_next before f = λ i. record {
  request = sym (met-last 0xF503 before f) i;
  information = sym (met-last 0xF505 before f) i;
  name = sym (met-last 0xF5FF before f) i;
}

both-unknown : (b : Bool) → Unknown ≡ cond b Unknown Unknown
both-unknown true = refl
both-unknown false = refl

-- by the flag of its type or by whether its type was met, a field means the same: a field of a type without a flag is unknown in any case
at-type : (kind : ℕ) (met : ℕ → Bool) (x y z : Role) (a b c : Bool) → (a ≡ true → kind ≡ 0xF503) → (b ≡ true → kind ≡ 0xF505) → (c ≡ true → kind ≡ 0xF5FF)
    → cond (cond a (met 0xF503) (cond b (met 0xF505) (cond c (met 0xF5FF) false))) Unknown (cond a x (cond b y (cond c z Unknown)))
    ≡ cond (met kind) Unknown (cond a x (cond b y (cond c z Unknown)))
at-type kind met x y z true b c p q r = rw (p refl)
at-type kind met x y z false true c p q r = rw (q refl)
at-type kind met x y z false false true p q r = rw (r refl)
at-type kind met x y z false false false p q r = both-unknown (met kind)

-- the role by the flags is the role by the fields before
pub role-met : (s : List ℕ) (before : List Field) (f : Field) → role_with s f (met_of before) ≡ role_of s before f
unfolding role_given
role-met s before f =
    at-type f.kind (λ (k : ℕ). already_met k before) _ _ _ (eqb f.kind 0xF503) (eqb f.kind 0xF505) (eqb f.kind 0xF5FF)
    (eqb-true _ _) (eqb-true _ _) (eqb-true _ _)

none_of : (a b c : Bool) → a || b || c ≡ false → (a ≡ false) × (b ≡ false) × (c ≡ false)
none_of true b c e = absurd (false≢true (sym e))
none_of false true c e = absurd (false≢true (sym e))
none_of false false c e = (refl, refl, e)

-- a field of a type that is not answered is unknown, and leaves the flags as they are
module _ (f : Field) (m : Met) (e : is_answered f.kind ≡ false) where
  others : (eqb f.kind 0xF503 ≡ false) × (eqb f.kind 0xF505 ≡ false) × (eqb f.kind 0xF5FF ≡ false)
  others = none_of (eqb f.kind 0xF503) (eqb f.kind 0xF505) (eqb f.kind 0xF5FF) e

  pub unanswered-role : (s : List ℕ) → Unknown ≡ role_with s f m
  unfolding role_given
  unanswered-role s = rw (others.0, others.1, others.2)

  pub unanswered-met : m ≡ met_after m f.kind
  unanswered-met = rw (others.0, others.1, others.2) (λ i. record {
    request = sym (or-false m.request) i;
    information = sym (or-false m.information) i;
    name = sym (or-false m.name) i;
  })

-- a good filter request
pub record Good (offset n : ℕ) : Type 0 where
  pub four : n % 4 ≡ 0
  pub least : 4 ≤ n
  pub inside : offset + n ≤ 512

pub good-parts : (offset n : ℕ) → good_request offset n ≡ true → Good offset n
good-parts offset n e =
    let three = (and-eq-true_iff _ _).0 e in
    let two = (and-eq-true_iff _ _).0 three.0 in
    let one = (and-eq-true_iff _ _).0 two.0 in
    record { four = eqb-true _ _ one.0; least = leb-true _ _ one.1; inside = leb-true _ _ three.1 }

-- it has its role
pub good-role : (offset n : ℕ) → Good offset n → request_role offset n ≡ FilterRequest offset
good-role offset n g =
    let inside = g.inside in
    rw (eq-eqb _ _ g.four, le-leb _ _ g.least, le-leb n 512 (omega arith), le-leb _ _ inside)

-- each field has the size that its role allows
pub size-allowed : (met : Bool) (s : List ℕ) (f : Field) → SizeAllowed f (role_given met s f)
unfolding role_given
size-allowed true s f = tt
size-allowed false s f = by_kind (eqb f.kind 0xF503) (eqb f.kind 0xF505) (eqb f.size 4) (eqb f.kind 0xF5FF) refl
  where
    request : (offset : ℕ) (b : Bool) → good_request offset f.size ≡ b → SizeAllowed f (cond b (FilterRequest offset) Unknown)
    request offset true e = e
    request offset false e = tt

    by_kind : (a b c d : Bool) → eqb f.size 4 ≡ c
        → SizeAllowed f (cond a (request_role (get_at s f.start 2) f.size) (cond b (cond c Information Unknown) (cond d DraftName Unknown)))
    by_kind true b c d e = request (get_at s f.start 2) (good_request (get_at s f.start 2) f.size) refl
    by_kind false true true d e = eqb-true _ _ e
    by_kind false true false d e = tt
    by_kind false false c true e = tt
    by_kind false false c false e = tt
