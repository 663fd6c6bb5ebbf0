-- Switch calls after one another: two add up, and any list carries what those that were not refused added. Assumes nothing.
use mathlib.Core.Path.{◌≡◌, refl, sym, ap, subst, ◌∙◌}
use mathlib.Core.Bool.{cond}
use mathlib.Core.List.{List, [], ◌∷◌, Memᴰ}
use Prim.Native.Nat.{ℕ, ◌+◌, ◌-◌, ◌%◌, ◌^◌, ◌<◌}
use native.Mathlib.Omega.{arith}
use borrow.Author.Tests.{eqb-true, eqb-false}
use lib.Dec.{eqb}
use lib.IntN.{ℤ, pos, ◌+ℤ◌, +ℤ_assoc, +ℤ_idr}
use mir.Syntax.{w64}
use mir.Val.{SFits}
use Rattle.octets.proofs.Numbers.{num-lt}
use Rattle.octets.proofs.Tests.{by-outcome}
use Rattle.chain.specs.Field.{ChainKept}
use Rattle.chain.specs.declared.cursor.Field.{Field}
use Rattle.std.specs.Prelude.{Some, None}
use Rattle.chain.proofs.Datagrams.{either-sound}
use Rattle.field_role.specs.Correction.{path_place}
use Rattle.correction_rules.specs.Sum.{word_sum}
use Rattle.correction_rules.specs.Correct.{correction_of, delay_of, path_of, edited, complement_for, with_parts, delay_after, path_after}
use Rattle.correction_rules.specs.Passage.{Passage, passed, through, added_delay, added_ports}
use Rattle.correction_rules.specs.Claim.{Kept, TwoAddUp, AnyPassages}
use Rattle.correction_rules.proofs.Edits.{edited-twice}
use Rattle.correction_rules.proofs.Cases.{standing, accepted, done, is-done, unchanged}
use Rattle.correction_rules.proofs.Corrections.{parts-kept, delay-is, path-is, switch-call}

-- ---- two calls

-- the parts that a second call writes are those that it would write to the first datagram
shift : (a b c : ℕ) → b % 65535 ≡ a % 65535 → (b + c) % 65535 ≡ (a + c) % 65535
shift a b c e = omega arith

parts_again : (s : List ℕ) (f : Field) → correction_of s ≡ Some f → (z₁ z : ℤ) (path₁ path : ℕ) → with_parts f z path (with_parts f z₁ path₁ s) ≡ with_parts f z path s
parts_again s f good z₁ z path₁ path =
    let t = with_parts f z₁ path₁ s in
    let k₁ = complement_for f z₁ path₁ s in
    let room = (standing s f good).room in
    let again : (k : ℕ) → edited f z path k t ≡ edited f z path k s = λ k. edited-twice f s room z₁ z path₁ k₁ path k in
    let due : complement_for f z path t ≡ complement_for f z path s =
    ap (λ (l : List ℕ). (word_sum t + (65535 - word_sum l % 65535)) % 65535) (again 0)
    ∙ shift (word_sum s) (word_sum t) (65535 - word_sum (edited f z path 0 s) % 65535) (parts-kept s f good z₁ path₁).sum in
    again (complement_for f z path t) ∙ ap (λ (k : ℕ). edited f z path k s) due

path-sum : (a i₁ e₁ i₂ e₂ : ℕ) → ((a + i₁ + e₁) % 2 ^ 16 + i₂ + e₂) % 2 ^ 16 ≡ (a + (i₁ + i₂) + (e₁ + e₂)) % 2 ^ 16
path-sum a i₁ e₁ i₂ e₂ = omega arith

pub two-add-up : TwoAddUp
two-add-up d₁ d₂ i₁ e₁ i₂ e₂ s t u a b =
    let c = accepted d₁ i₁ e₁ s (ap first a) in
    let f = c.field in
    let one = done d₁ i₁ e₁ s f c.good (ap first a) in
    let z₁ = delay_after f d₁ s in
    let path₁ = path_after f i₁ e₁ s in
    let made : t ≡ with_parts f z₁ path₁ s = ap second (sym a ∙ one.1) in
    let good : correction_of t ≡ Some f = ap correction_of made ∙ (parts-kept s f c.good z₁ path₁).found in
    let two = done d₂ i₂ e₂ t f good (ap first b) in
    let delay : delay_after f d₂ t ≡ delay_after f (d₁ +ℤ d₂) s =
    ap (λ (x : ℤ). x +ℤ d₂) (ap (delay_of f) made ∙ delay-is s f c.good z₁ path₁ one.0) ∙ +ℤ_assoc (delay_of f s) d₁ d₂ in
    let path : path_after f i₂ e₂ t ≡ path_after f (i₁ + i₂) (e₁ + e₂) s =
    ap (λ (n : ℕ). (n + i₂ + e₂) % 2 ^ 16) (ap (path_of f) made ∙ path-is s f c.good z₁ path₁ (omega arith)) ∙ path-sum (path_of f s) i₁ e₁ i₂ e₂ in
    let left : u ≡ with_parts f (delay_after f (d₁ +ℤ d₂) s) (path_after f (i₁ + i₂) (e₁ + e₂) s) s =
    ap second (sym b ∙ two.1)
    ∙ ap (λ (x : ℤ). with_parts f x (path_after f i₂ e₂ t) t) delay
    ∙ ap (λ (n : ℕ). with_parts f (delay_after f (d₁ +ℤ d₂) s) n t) path
    ∙ ap (with_parts f (delay_after f (d₁ +ℤ d₂) s) (path_after f (i₁ + i₂) (e₁ + e₂) s)) made
    ∙ parts_again s f c.good z₁ (delay_after f (d₁ +ℤ d₂) s) path₁ (path_after f (i₁ + i₂) (e₁ + e₂) s) in
    is-done (d₁ +ℤ d₂) (i₁ + i₂) (e₁ + e₂) s ((either-sound s).1 c.sound) f c.good (subst (SFits w64) delay two.0)
    ∙ ap (λ (l : List ℕ). (0, l)) (sym left)
  where
    first : ℕ × List ℕ → ℕ
    first w = w.0

    second : ℕ × List ℕ → List ℕ
    second w = w.1

-- ---- any list

chain-none : (f : Field) (s : List ℕ) → ChainKept f s s
chain-none f s = record { fields = refl; others = λ g m n. refl; refused = λ w. refl; either = refl }

kept-none : (f : Field) (s : List ℕ) → correction_of s ≡ Some f → Kept f s s
kept-none f s good = record {
  long = refl;
  before = λ i h. refl;
  after = λ i h. refl;
  octets = λ b. b;
  sum = refl;
  header = λ e. refl;
  chain = chain-none f s;
  found = good;
}

chain-then : (f : Field) (s t u : List ℕ) → ChainKept f s t → ChainKept f t u → ChainKept f s u
chain-then f s t u a b = record {
  fields = b.fields ∙ a.fields;
  others = λ g m n. b.others g (subst (Memᴰ g) (sym a.fields) m) n ∙ a.others g m n;
  refused = λ w. b.refused w ∙ a.refused w;
  either = b.either ∙ a.either;
}

kept_then : (f : Field) (s t u : List ℕ) → Kept f s t → Kept f t u → Kept f s u
kept_then f s t u a b = record {
  long = b.long ∙ a.long;
  before = λ i h. b.before i h ∙ a.before i h;
  after = λ i h. b.after i h ∙ a.after i h;
  octets = λ o. b.octets (a.octets o);
  sum = b.sum ∙ a.sum;
  header = λ e. b.header e ∙ a.header e;
  chain = chain-then f s t u a.chain b.chain;
  found = b.found;
}

-- what one call does, refused or not
record Added (f : Field) (s t : List ℕ) (delay : ℤ) (ports : ℕ) : Type 0 where
  kept : Kept f s t
  delayed : delay_of f t ≡ delay_of f s +ℤ delay
  path : path_of f t ≡ (path_of f s + ports) % 2 ^ 16

nothing-added : (f : Field) (s : List ℕ) → path_of f s < 2 ^ 16 → correction_of s ≡ Some f → Added f s s (pos 0) 0
nothing-added f s h good = record { kept = kept-none f s good; delayed = sym (+ℤ_idr (delay_of f s)); path = omega arith }

group : (a i e : ℕ) → (a + i + e) % 2 ^ 16 ≡ (a + (i + e)) % 2 ^ 16
group a i e = omega arith

one-added : (p : Passage) (s : List ℕ) (f : Field) → path_of f s < 2 ^ 16 → correction_of s ≡ Some f
    → Added f s (passed p s).1 (cond (eqb (passed p s).0 0) p.delay (pos 0)) (cond (eqb (passed p s).0 0) (p.ingress + p.egress) 0)
one-added p s f h good =
    by-outcome (eqb (passed p s).0 0)
    (λ q.
    let c = switch-call p.delay p.ingress p.egress s f (eqb-true _ _ q) good in
    rw q (record { kept = c.kept; delayed = c.delayed; path = c.path ∙ group (path_of f s) p.ingress p.egress }))
    (λ q.
    rw (q, unchanged p.delay p.ingress p.egress s (eqb-false _ _ q)) (nothing-added f s h good))

added_then : (a b c d e : ℕ) → b ≡ (a + c) % 2 ^ 16 → e ≡ (b + d) % 2 ^ 16 → e ≡ (a + (c + d)) % 2 ^ 16
added_then a b c d e p q = omega arith

all-added : (ps : List Passage) (s : List ℕ) (f : Field) → path_of f s < 2 ^ 16 → correction_of s ≡ Some f → Added f s (through ps s) (added_delay ps s) (added_ports ps s)
unfolding through added_delay added_ports
all-added [] s f h good = nothing-added f s h good
all-added (p ∷ ps) s f h good =
    let t = (passed p s).1 in
    let one = one-added p s f h good in
    let small : path_of f t < 2 ^ 16 = rw one.path (omega arith) in
    let more = all-added ps t f small one.kept.found in
    record {
      kept = kept_then f s t (through ps t) one.kept more.kept;
      delayed = more.delayed ∙ ap (λ (x : ℤ). x +ℤ added_delay ps t) one.delayed ∙ +ℤ_assoc (delay_of f s) _ (added_delay ps t);
      path = added_then (path_of f s) (path_of f t) _ (added_ports ps t) _ one.path more.path;
    }

pub any-passages : AnyPassages
any-passages ps s f b good =
    let a = all-added ps s f (num-lt s (path_place f) 2 b) good in
    record { kept = a.kept; delayed = a.delayed; path = a.path }

-- a datagram without a good field is left as it is
pub through-none : (ps : List Passage) (s : List ℕ) → correction_of s ≡ None → through ps s ≡ s
unfolding through
through-none [] s none = refl
through-none (p ∷ ps) s none =
    let left = unchanged p.delay p.ingress p.egress s (λ z. let c = accepted p.delay p.ingress p.egress s z in let f : ◌≡◌ {A = ℕ} 0 1 = cc in omega arith) in
    ap (through ps) left ∙ through-none ps s none
