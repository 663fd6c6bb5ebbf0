-- The pass over a request's fields: its steps, and that its three flags stand for the fields before. Assumes nothing.
use mathlib.Core.Path.{◌≡◌, refl, sym, ap, subst⁻¹, ◌∙◌}
use mathlib.Core.Bool.{false}
use mathlib.Core.List.{List, [], ◌∷◌, ◌++◌}
use Prim.Native.Nat.{ℕ, ◌+◌, ◌≤◌}
use native.Mathlib.Omega.{arith}
use lib.ListN.{length}
use Rattle.chain.specs.Chain.{padded, step_at}
use Rattle.chain.specs.Content.{Content, chain_octets}
use Rattle.chain.specs.Field.{fields_from, fields_of}
use Rattle.field_role.specs.Role.{role_of, none_met, met_after, role_with, is_answered, SizeAllowed}
use Rattle.chain.specs.declared.cursor.Cursor.{Cursor}
use Rattle.chain.specs.declared.cursor.Field.{Field}
use Rattle.chain.specs.declared.cursor.Step.{Step}
use Rattle.chain.specs.declared.cursor.Step.TheVariants.{Found}
use Rattle.field_role.specs.declared.Met.{Met}
use Rattle.field_role.specs.declared.Role.{Role}
use Rattle.chain.proofs.Steps.{Stopped, reached, place-reached}
use Rattle.chain.proofs.Contents.{chain-append}
use Rattle.chain.proofs.Fields.{no_field, next_field}
use Rattle.field_role.proofs.Roles.{size-allowed, met_of, met_next, role-met, unanswered-role, unanswered-met}
use Rattle.responder_rules.specs.Answer.{answer_to, answers_to}
use Rattle.answer_fields.specs.Pass.{answers_with, Parts, Sizes, AnswersWritten}
use Rattle.field_write.specs.Write.{WrittenAt}
use Rattle.field_write.proofs.Writing.{written_none, written_next, length-written}
use Rattle.responder_rules.proofs.Room.{answer-size}

module _ (s filter information : List ℕ) where
  module _ (at : ℕ) (t : Step) (e : t ≡ step_at s at) (m : Met) where
    -- no field is found
    pub pass-ended : Stopped t → answers_with s filter information m (fields_from s at) ≡ []
    unfolding answers_with
    pass-ended o = ap (answers_with s filter information m) (no_field s at t e o)

    -- a field is found: its answer, and those to the fields after it
    pub pass-next : (f : Field) (c : Cursor) → t ≡ Found f c → answers_with s filter information m (fields_from s at)
        ≡ answer_to filter information f (role_with s f m) ++ answers_with s filter information (met_after m f.kind) (fields_from s c.at)
    unfolding answers_with
    pass-next f c q = ap (answers_with s filter information m) (next_field s at t e f c q)

  -- the flags stand for the fields before
  pub pass-answers : (before fs : List Field) → answers_with s filter information (met_of before) fs ≡ answers_to s filter information before fs
  unfolding answers_with answers_to
  pass-answers before [] = refl
  pass-answers before (f ∷ fs) =
      rw (role-met s before f, met_next before f) (ap (λ (cs : List Content). answer_to filter information f (role_of s before f) ++ cs) (pass-answers (before ++ (f ∷ [])) fs))

  -- an answer that was written over octets with room for the field that it answers
  pub answer-written : Parts filter information → (f : Field) (r : Role) → SizeAllowed f r → {o t : List ℕ} {at next : ℕ}
      → WrittenAt o at (chain_octets (answer_to filter information f r)) next t → at + (4 + padded f.size) ≤ length o
      → (length t ≡ length o) × (next ≤ at + (4 + padded f.size))
  answer-written p f r k l h =
      let size = answer-size s filter information p.filter p.information f r k in
      let place = l.place in
      (length-written l (omega arith), omega arith)

-- a pass that has come to a place: once the rest is written, all is
pub record Passing (s filter information out₀ : List ℕ) (place : ℕ) (m : Met) (at : ℕ) (out : List ℕ) : Type 0 where
  pub same : length out ≡ length out₀
  pub low : at ≤ place
  pub high : place ≤ length s
  pub rest : (r : ℕ) (t : List ℕ) → WrittenAt out at (chain_octets (answers_with s filter information m (fields_from s place))) r t → r ≤ length s
      → WrittenAt out₀ 48 (chain_octets (answers_with s filter information none_met (fields_from s 48))) r t

module _ (s filter information out₀ : List ℕ) where
  pub pass-begins : 48 ≤ length s → Passing s filter information out₀ 48 none_met 48 out₀
  pass-begins h = record { same = refl; low = omega arith; high = h; rest = λ r t l k. l }

  module _ {place : ℕ} {m : Met} {at : ℕ} {out : List ℕ} (p : Passing s filter information out₀ place m at out) where
    -- no field is left
    pub pass-stops : (t : Step) → t ≡ step_at s place → Stopped t → AnswersWritten s filter information (fields_of s) out₀ at out
    unfolding chain_octets
    pass-stops t e o =
        let a = p.low in
        let b = p.high in
        record { written = p.rest at out (rw (pass-ended s filter information place t e m o) (written_none out at)) (omega arith); most = omega arith }

    -- a field is found, and its answer is written
    module _ (z : Sizes s filter information out₀) (t : Step) (e : t ≡ step_at s place) (f : Field) (c : Cursor) (q : t ≡ Found f c) where
      pub pass-room : at + (4 + padded f.size) ≤ length out
      pass-room =
          let a = p.low in
          let b = p.same in
          let room = z.room in
          let r = reached s place t f c e q in
          omega (arith, (place-reached s place f c (sym e ∙ q)).0)

      pub pass-goes-on : {role : Role} {next : ℕ} {out' : List ℕ} {m' : Met} → role ≡ role_with s f m → m' ≡ met_after m f.kind
          → WrittenAt out at (chain_octets (answer_to filter information f role)) next out' → Passing s filter information out₀ c.at m' next out'
      pass-goes-on {role} {next} {out'} {m'} er em l =
          let written = answer-written s filter information z.parts f role (subst⁻¹ (SizeAllowed f) er (size-allowed _ s f)) l pass-room in
          let a = p.low in
          let b = p.same in
          let room = z.room in
          let r = reached s place t f c e q in
          record {
            same = written.0 ∙ b;
            low = omega (arith, (place-reached s place f c (sym e ∙ q)).0);
            high = r.1;
            rest = λ end u rest k. p.rest end u (rw (pass-next s filter information place t e m f c q, chain-append, ← er, ← em) (written_next l rest (omega arith))) k;
          }

      -- a field of a type that is not answered is passed over
      pub pass-skips : is_answered f.kind ≡ false → Passing s filter information out₀ c.at m at out
      unfolding chain_octets
      pass-skips u = pass-goes-on (unanswered-role f m u s) (unanswered-met f m u) (written_none out at)
