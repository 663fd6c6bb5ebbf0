-- Rounds that each take a chunk: where calls lead to a head from its next offset, they do from offset 0. Assumes nothing.
use mathlib.Core.Path.{◌≡◌, refl, ap, subst}
use mathlib.Core.Bool.{Bool, true, false, cond, and-eq-true_iff}
use mathlib.Core.List.{List, [], ◌∷◌}
use mathlib.Core.Logic.{◌⊎◌, inl, inr}
use mathlib.Core.Option.{Option, none, some}
use Prim.Native.Nat.{ℕ, zero, suc, ◌+◌, ◌*◌, ◌/◌, ◌≤◌, ◌<◌}
use native.Mathlib.Nat.{div-add-mod', zero-mul, suc-mul}
use native.Mathlib.Omega.{arith}
use borrow.Author.Tests.{eq-eqb, ne_eqb, eqb-true, ltb-true, ltb-false}
use lib.Dec.{eqb, ltb, lit<}
use lib.ListN.{replicate, length-replicate}
use lib.Seq.{paste}
use Rattle.octets.proofs.Written.{zeros-octets}
use Rattle.header.specs.Edition.{edition_of, most_timescale}
use Rattle.header.specs.declared.edition.Edition.{Edition}
use Rattle.header.specs.declared.edition.Edition.TheVariants.{Seven}
use Rattle.chain.specs.Field.{first_of}
use Rattle.chain.specs.Content.{content, placed}
use Rattle.chain.proofs.Contents.{length-chain-one}
use Rattle.state.specs.Rules.{advanced}
use Rattle.state.specs.Plain.{Exchange, Opened, opened, is_last}
use Rattle.state.specs.Numbers.{HeadFits, first_taken, exchange_in}
use Rattle.state.specs.declared.head.Head.{Head}
use Rattle.state.proofs.Chunks.{chunk-size}
use Rattle.state.proofs.Flags.{more-taken, still-taken}
use Rattle.state.proofs.Ranges.{OpenRanges}
use Rattle.reach.proofs.Datagram.{looked_at}
use Rattle.reach.proofs.Calls.{From, Polls, round}
use Rattle.octets.proofs.Tests.{by-outcome}

-- a cookie to poll with after the last one and before z
pub record Cookie (z : ℕ) (last : Option ℕ) : Type 0 where
  pub cookie : ℕ
  pub polls : Polls cookie last
  pub before : is_last z (some cookie) ≡ false

after_last : (k : ℕ) (last : Option ℕ) → is_last k last ≡ true → is_last (suc k) last ≡ false
after_last k none e = refl
after_last k (some m) e = ne_eqb (suc k) m (λ p. omega (arith, eqb-true k m e))

-- of 3 and 4, or of 1 and 2, neither is z, and one is not the last
pub choose : (z : ℕ) (last : Option ℕ) → Cookie z last
choose z last =
    by-outcome (ltb z 3)
    (λ t. let low = ltb-true z 3 t in either 2 (lit< tt) (λ q. omega arith) (λ q. omega arith))
    (λ t. let high = ltb-false z 3 t in either 0 (lit< tt) (λ q. omega arith) (λ q. omega arith))
  where
    this : (k : ℕ) → k < 4 → (z ≡ suc k → ⊥) → is_last (suc k) last ≡ false → Cookie z last
    this k h f e = record { cookie = suc k; polls = record { nonzero = λ q. omega arith; fits = omega arith; another = e }; before = ne_eqb z (suc k) f }

    either : (k : ℕ) → k < 3 → (z ≡ suc k → ⊥) → (z ≡ suc (suc k) → ⊥) → Cookie z last
    either k h f g = by-outcome (is_last (suc k) last) (λ e. this (suc k) (omega arith) g (after_last (suc k) last e)) (this k (omega arith) f)

-- an open place with the head's edition, timescale and chunk size where no request is outstanding
abbrev pub none_outstanding : Head → (next taken : ℕ) → List ℕ → Option ℕ → Option Exchange → Opened
none_outstanding h next taken f last v = record {
  edition = edition_of h.state;
  timescale = h.timescale;
  chunk = h.chunk;
  next = next;
  filter = f;
  taken = first_taken taken;
  last = last;
  outstanding = none;
  saved = v;
  missed = 0;
}

-- calls lead to the head from each such place whose last cookie isn't the head's
abbrev pub Leads : ℕ → Head → (next taken : ℕ) → Type 0
Leads a h next taken = (f : List ℕ) (last : Option ℕ) (v : Option Exchange) → is_last h.last.0 last ≡ false → From a (opened (none_outstanding h next taken f last v)) h

-- a chunk at offset n, where those before it were taken, or all
one_more : (all : Bool) (n c : ℕ) → n + c ≤ 512 → paste (first_taken (cond all 512 n)) n (replicate c true) c ≡ first_taken (cond all 512 (n + c))
one_more true = still-taken
one_more false = more-taken

module _ {a : ℕ} (inside : a < 16) (h : Head) (fits : HeadFits h) (r : OpenRanges h) (timescale : h.saved.timescale ≤ most_timescale (edition_of h.state))
    (nonzero : h.saved.t4 ≡ 0 → ⊥) where
  abbrev c : ℕ
  c = h.chunk

  -- only edition 7 takes chunks
  module _ (seven : edition_of h.state ≡ Seven) where
    -- a round with a chunk
    chunk-round : (all : Bool) (n : ℕ) → n + c ≤ 512 → Leads a h (advanced n c) (cond all 512 (n + c)) → Leads a h n (cond all 512 n)
    unfolding first_of placed
    chunk-round all n b l f last v e =
        let high = r.chunk-high in
        let k = choose h.last.0 last in
        let zeros = content 0xF504 (replicate c 0) in
        let size = length-replicate {A = ℕ} c 0 in
        round inside h fits nonzero (none_outstanding h n (cond all 512 n) f last v) timescale k.cookie k.polls
        (zeros ∷ []) (record { kind = lit< tt; long = omega arith }, tt) (refl, tt) (zeros-octets c, tt) (omega (arith, length-chain-one zeros))
        (first_of 0xF504 (placed 48 (zeros ∷ []))) (ap (λ (d : Edition). first_of 0xF504 (looked_at d (zeros ∷ []))) seven)
        (rw (size, eq-eqb c c refl, one_more all n c b) (l _ (some k.cookie) (some (exchange_in h.saved)) k.before))

    -- m rounds, until all octets were taken or since
    chunks : (all : Bool) (m : ℕ) → m * c < 512 → Leads a h (m * c) (cond all 512 (m * c)) → Leads a h 0 (cond all 512 0)
    chunks all zero f l = rw zero-mul at l
    chunks all (suc m) f l =
        let s = suc-mul m c in
        chunks all m (omega arith) (chunk-round all (m * c) (omega arith) (rw (ne_eqb (m * c + c) 512 (λ e. omega arith), ← s) l))

    -- all 512 octets, and back to offset 0
    all-chunks : Leads a h 0 512 → Leads a h 0 0
    all-chunks l = go (512 / c) (omega (arith, div-add-mod' 512 c, (chunk-size c r.chunk).whole))
      where
        go : (m : ℕ) → m * c ≡ 512 → Leads a h 0 0
        go zero e = absurd (omega (arith, zero-mul c))
        go (suc m) e =
            let low = r.chunk-low in
            let end : m * c + c ≡ 512 = omega (arith, suc-mul m c) in
            chunks false m (omega arith) (chunk-round false (m * c) (omega arith) (rw end l))

    chunk-rounds : Leads a h h.next h.taken → Leads a h 0 0
    chunk-rounds l = go r.taken
      where
        up-to-next : (all : Bool) → Leads a h h.next (cond all 512 h.next) → Leads a h 0 (cond all 512 0)
        up-to-next all k =
            let next = r.next in
            let whole : h.next / c * c ≡ h.next = omega (arith, div-add-mod' h.next c, r.next-whole) in
            chunks all (h.next / c) (omega arith) (rw whole k)

        go : (h.taken ≡ h.next) ⊎ (h.taken ≡ 512) → Leads a h 0 0
        go (inl e) = up-to-next false (subst (Leads a h h.next) e l)
        go (inr e) = all-chunks (up-to-next true (subst (Leads a h h.next) e l))

  -- in edition 1 no octet is asked or taken, W204-11
  pub rounds : Leads a h h.next h.taken → Leads a h 0 0
  rounds l =
      by-outcome (eqb h.state 1)
      (λ e. let zeros = (and-eq-true_iff (eqb h.next 0) (eqb h.taken 0)).0 (rw e at r.chunks) in
      let taken = eqb-true h.taken 0 zeros.1 in
      subst (λ (n : ℕ). Leads a h n 0) (eqb-true h.next 0 zeros.0) (subst (Leads a h h.next) taken l))
      (λ e. chunk-rounds (rw e) l)
