-- The answers to a request's fields fit where those fields stand, and each fits in the 16 bits of its length. Assumes nothing.
use mathlib.Core.Path.{◌≡◌, refl}
use mathlib.Core.Bool.{Bool, true, false, cond}
use mathlib.Core.List.{List, [], ◌∷◌, ◌++◌}
use Prim.Native.Nat.{ℕ, zero, suc, ◌+◌, ◌-◌, ◌%◌, ◌≤◌}
use native.Mathlib.Omega.{arith}
use borrow.Author.Tests.{eqb-true, eqb-false}
use lib.Dec.{eqb, lit<}
use lib.ListN.{length, take, drop, replicate, length-take, length-drop, length-replicate}
use Rattle.chain.specs.Chain.{padded, step_at, Walk, on_step, walk_for, walk}
use Rattle.header.specs.declared.edition.Edition.{Edition}
use Rattle.header.specs.declared.edition.Edition.TheVariants.{One, Seven}
use Rattle.chain.specs.Field.{fields_from, fields_in}
use Rattle.chain.specs.Content.{content, chain_octets, AllFit, draft_name}
use Rattle.field_role.specs.Role.{role_of, SizeAllowed}
use Rattle.chain.specs.declared.cursor.Field.{Field}
use Rattle.chain.specs.declared.cursor.Step.{Step}
use Rattle.field_role.specs.declared.Role.{Role}
use Rattle.field_role.specs.declared.Role.TheVariants.{FilterRequest, Information, DraftName, Unknown}
use Rattle.chain.proofs.Steps.{length_at, View, ended, cut, few, past, nonzero, sound, view}
use Rattle.field_role.proofs.Roles.{good-parts, size-allowed}
use Rattle.chain.proofs.Contents.{fit_append, length-chain-one, length-chain-append}
use Rattle.responder_rules.specs.Answer.{answer_to, answers_to, padding_of}

empty-chain : length (chain_octets []) ≡ 0
unfolding chain_octets
empty-chain = refl

-- a filter response has as many octets as were asked
pub response-length : (filter : List ℕ) (offset n : ℕ) → length filter ≡ 512 → offset + n ≤ 512 → length (take n (drop offset filter)) ≡ n
response-length filter offset n e h = simp (length-take, length-drop) (omega arith)

-- our name has 27 octets, and no more of them are sent than the client's name has

pub name-long : (n : ℕ) → length (take n draft_name) ≤ 27
unfolding draft_name
name-long n = rw length-take (omega arith)

pub name-length : (n : ℕ) → length (take n draft_name) ≤ n
name-length n = rw length-take (omega arith)

module _ (request filter information : List ℕ) (octets : length filter ≡ 512) (four : length information ≡ 4) where
  -- what answers a field of a size that its role allows takes no more than the field
  pub answer-size : (f : Field) (r : Role) → SizeAllowed f r → length (chain_octets (answer_to filter information f r)) ≤ 4 + padded f.size
  answer-size f (FilterRequest offset) h =
      let inside = (good-parts offset f.size h).inside in
      omega (arith, length-chain-one (content 0xF504 (take f.size (drop offset filter))), response-length filter offset f.size octets inside)
  answer-size f Information h = omega (arith, length-chain-one (content 0xF505 information))
  answer-size f DraftName h = omega (arith, length-chain-one (content 0xF5FF (take f.size draft_name)), name-length f.size)
  answer-size f Unknown h = omega (arith, empty-chain)

  pub answer-fits : (s : List ℕ) (before : List Field) (f : Field) → length (chain_octets (answer_to filter information f (role_of s before f))) ≤ 4 + padded f.size
  answer-fits s before f = answer-size f (role_of s before f) (size-allowed _ s f)

  -- a field and those after it
  more : (before : List Field) (f : Field) (fs : List Field) (at n size : ℕ) → n ≡ at + 4 + padded f.size
      → length (chain_octets (answers_to request filter information (before ++ (f ∷ [])) fs)) + n ≤ size → length (chain_octets (answers_to request filter information before (f ∷ fs))) + at ≤ size
  unfolding answers_to
  more before f fs at n size e h =
      omega (arith, answer-fits request before f, length-chain-append (answer_to filter information f (role_of request before f)) (answers_to request filter information (before ++ (f ∷ [])) fs))

  none : (before : List Field) (at size : ℕ) → at ≤ size → length (chain_octets (answers_to request filter information before [])) + at ≤ size
  unfolding answers_to
  none before at size h = omega (arith, empty-chain)

  by-step : (s : List ℕ) (before : List Field) (at : ℕ) (rest : ℕ → Walk) → at ≤ length s
      → ((later : List Field) (n : ℕ) → n ≤ length s → length (chain_octets (answers_to request filter information later (rest n).fields)) + n ≤ length s)
      → (t : Step) → View s at t → length (chain_octets (answers_to request filter information before (on_step t rest).fields)) + at ≤ length s
  by-step s before at rest h k t (ended a) = none before at _ h
  by-step s before at rest h k t (cut a b) = none before at _ h
  by-step s before at rest h k t (few a b) = none before at _ h
  by-step s before at rest h k t (past a b i) = none before at _ h
  by-step s before at rest h k t (nonzero a b i e) = none before at _ h
  by-step s before at rest h k t (sound a b i e) =
      more before _ _ at (at + padded (length_at s at)) (length s) (omega arith) (k _ (at + padded (length_at s at)) (omega arith))

  in_turns : (m : ℕ) (s : List ℕ) (before : List Field) (at : ℕ) → at ≤ length s
      → length (chain_octets (answers_to request filter information before (walk_for m s at).fields)) + at ≤ length s
  unfolding walk_for
  in_turns zero s before at h = none before at _ h
  in_turns (suc m) s before at h = by-step s before at (walk_for m s) h (λ later n l. in_turns m s later n l) (step_at s at) (view s at)

  -- the answers to all the fields from a place on
  pub answers-fit : (s : List ℕ) (before : List Field) (at : ℕ) → at ≤ length s
      → length (chain_octets (answers_to request filter information before (fields_from s at))) + at ≤ length s
  unfolding walk
  answers-fit s before at h = in_turns (length s) s before at h

  -- those to the fields that an edition looks at
  pub answers-in : (e : Edition) (s : List ℕ) → 48 ≤ length s → length (chain_octets (answers_to request filter information [] (fields_in e s))) + 48 ≤ length s
  answers-in One s h = none [] 48 _ h
  answers-in Seven s h = answers-fit s [] 48 h

  fit-role : (f : Field) (r : Role) → SizeAllowed f r → AllFit (answer_to filter information f r)
  fit-role f (FilterRequest offset) h =
      let inside = (good-parts offset f.size h).inside in
      (record { kind = lit< tt; long = omega (arith, response-length filter offset f.size octets inside) }, tt)
  fit-role f Information h = (record { kind = lit< tt; long = omega arith }, tt)
  fit-role f DraftName h = (record { kind = lit< tt; long = omega (arith, name-long f.size) }, tt)
  fit-role f Unknown h = tt

  -- each answer fits in the 16 bits of its length
  pub all_fit : (before fs : List Field) → AllFit (answers_to request filter information before fs)
  unfolding answers_to
  all_fit before [] = tt
  all_fit before (f ∷ fs) =
      let r = role_of request before f in
      fit_append (answer_to filter information f r) (answers_to request filter information (before ++ (f ∷ [])) fs)
      (fit-role f r (size-allowed _ request f)) (all_fit (before ++ (f ∷ [])) fs)

-- the padding field fills what is left, a multiple of four

pub padding-size : (n : ℕ) → n % 4 ≡ 0 → length (chain_octets (padding_of n)) ≡ n
padding-size n h = go (eqb n 0) refl
  where
    go : (b : Bool) → eqb n 0 ≡ b → length (chain_octets (cond b [] (content 0xF501 (replicate (n - 4) 0) ∷ []))) ≡ n
    go true e = omega (arith, empty-chain, eqb-true n 0 e)
    go false e =
        let z = eqb-false n 0 e in
        omega (arith, z, length-chain-one (content 0xF501 (replicate (n - 4) 0)), length-replicate {A = ℕ} (n - 4) 0)

pub padding-fits : (n : ℕ) → n ≤ 1280 → AllFit (padding_of n)
padding-fits n h = go (eqb n 0)
  where
    go : (b : Bool) → AllFit (cond b [] (content 0xF501 (replicate (n - 4) 0) ∷ []))
    go true = tt
    go false = (record { kind = lit< tt; long = omega (arith, length-replicate {A = ℕ} (n - 4) 0) }, tt)
