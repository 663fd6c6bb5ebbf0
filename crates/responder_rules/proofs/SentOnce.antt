-- The once-only rule: over every list of clears, reports and answers on a cleared store. Assumes nothing.
use mathlib.Core.Path.{◌≡◌, refl, sym, subst, ◌∙◌}
use mathlib.Core.Bool.{Bool, true, false, cond}
use mathlib.Core.List.{List, [], ◌∷◌}
use Prim.Native.Nat.{ℕ, ◌<◌, ◌^◌}
use borrow.Author.Tests.{eq-eqb, eqb-true, eqb-false}
use lib.Dec.{eqb}
use Rattle.store_rules.specs.Row.{Record, held, time_of, with_time, without, joined, size_of, wrong_size, wrong_store, cleared, report_refusal}
use Rattle.octets.proofs.Tests.{or-none}
use Rattle.store_rules.proofs.Rows.{time-held}
use Rattle.store_rules.proofs.Stores.{Stores, stores-right, stores_row, stores-size}
use Rattle.store_rules.proofs.Kept.{sound-without, without_gone, without-absent}
use Rattle.responder_rules.specs.Answer.{Given, asking, wants_interleaved, saved_time, row_after, answer_refusal, answer_of}
use Rattle.responder_rules.specs.Call.{Call, clear, report, answer, Responder, step_store}
use Rattle.responder_rules.specs.Claim.{InRange, Typed}
use Rattle.responder_rules.specs.Once.{AllTyped, store_after_calls, asked_cookie, Observed, reports, sends, observed_of, observations, each_sent_once, Right, Once}
use Rattle.responder_rules.proofs.Accepting.{answer-refused}
use Rattle.responder_rules.proofs.Leaving.{is-saved, answer-result, answer-stores, fresh-new}
use Rattle.responder_rules.proofs.Reported.{clear-result, clear-stores, report-refused, report-held, report-result, report-stores}
use Rattle.responder_rules.proofs.Unsent.{TimesUnsent, unsent-empty, unsent-row, unsent-joined, unsent-without, unsent-reported}
use Rattle.responder_rules.proofs.Observed.{refused-observed, output-header, accepted-observed, interleaved-left}

-- what a call leads to: the row that its store then holds, and the times that were reported and not sent since
record Next (c : Call) (s : List ℕ) (n : ℕ) (unsent : List Record) : Type 0 where
  pub row : List Record
  pub unsent-after : List Record
  pub stores : Stores (step_store c s).store n row
  pub times : TimesUnsent unsent-after row
  pub continues : (es : List Observed) → each_sent_once unsent (observed_of c (step_store c s).refusal (step_store c s).out ∷ es) ≡ each_sent_once unsent-after es

-- ---- each call

module _ {s : List ℕ} {n : ℕ} {unsent row : List Record} (w : Stores s n row) (o : TimesUnsent unsent row) where
  -- a clear empties the row, and no time is unsent
  next-clear : Next clear s n unsent
  unfolding wrong_store each_sent_once
  next-clear =
      let h = (or-none (wrong_size s) _ (stores-right w)).0 in
      record {
        row = [];
        unsent-after = [];
        stores = subst (λ (k : ℕ). Stores (cleared s).1 k []) (stores-size w) (clear-stores s h);
        times = unsent-empty [];
        continues = λ es. rw (clear-result s h);
      }

  -- a report that is accepted gives its cookie the time, which is then unsent
  next-report : (c t : ℕ) → t < 2 ^ 64 → Next (report c t) s n unsent
  unfolding each_sent_once
  next-report c t small = go (eqb (report_refusal s c t) 0) refl
    where
      go : (b : Bool) → eqb (report_refusal s c t) 0 ≡ b → Next (report c t) s n unsent
      go true q =
          let e = eqb-true (report_refusal s c t) 0 q in
          record {
            row = with_time c t row;
            unsent-after = record { cookie = c; time = t } ∷ without c unsent;
            stores = rw (report-result w c t e) (report-stores w c t e small);
            times = unsent-reported c t (report-held w c t e) o;
            continues = λ es. rw (report-result w c t e);
          }
      go false q =
          let e = report-refused s c t (eqb-false (report_refusal s c t) 0 q) in
          record { row = row; unsent-after = unsent; stores = rw e w; times = o; continues = λ es. rw (e, q) }

  module _ (g : Given) (r : InRange g []) (out : List ℕ) where
    -- a refused answer
    next-refused : (answer_refusal g s out ≡ 0 → ⊥) → Next (answer g out) s n unsent
    unfolding each_sent_once
    next-refused h = record {
      row = row;
      unsent-after = unsent;
      stores = rw (answer-refused g s out h) w;
      times = o;
      continues = λ es. rw (refused-observed w g r out h);
    }

    module _ (e : answer_refusal g s out ≡ 0) where
      abbrev after : List Record
      after = row_after (asking g) g.fresh_cookie n row

      -- the store of the row after it
      stores-after : Stores (answer_of g s out).store n after
      stores-after = rw (answer-result w g out e) (answer-stores w g out r.fresh_cookie e)

      -- a basic answer: no record leaves but the oldest
      unsent-basic : eqb (saved_time (asking g) row) 0 ≡ true → TimesUnsent unsent after
      unsent-basic q = rw q (go (wants_interleaved (asking g)) (fresh-new w g out e))
        where
          go : (b : Bool) → (b ≡ true → (g.fresh_cookie ≡ 0 → ⊥) × (held g.fresh_cookie row ≡ false)) → TimesUnsent unsent (cond b (joined n g.fresh_cookie row) row)
          go true new = unsent-joined n g.fresh_cookie w.sound (new refl).1 o
          go false new = o

      -- it sends no reported time
      next-basic : eqb (saved_time (asking g) row) 0 ≡ true → Next (answer g out) s n unsent
      unfolding each_sent_once
      next-basic q = record {
        row = after;
        unsent-after = unsent;
        stores = stores-after;
        times = unsent-basic q;
        continues = λ es. rw (accepted-observed w g r out e, q);
      }

      -- an interleaved one: the time that it sends is unsent for its request's cookie, and the cookie's record leaves
      next-interleaved : eqb (saved_time (asking g) row) 0 ≡ false → Next (answer g out) s n unsent
      unfolding each_sent_once
      next-interleaved q =
          let c = asked_cookie g in
          let k = is-saved g row q in
          let same = o.same-time c k.some in
          let fresh_cookie = (fresh-new w g out e k.wanted).1 in
          record {
            row = after;
            unsent-after = without c unsent;
            stores = stores-after;
            times = rw (k.row-after n) (unsent-joined n g.fresh_cookie (sound-without c row w.sound) (without-absent c g.fresh_cookie row fresh_cookie) (unsent-without c w.sound o));
            continues = λ es. rw (accepted-observed w g r out e, q, output-header w g r out e, q, k.its-time, time-held c unsent (λ z. k.some (sym same ∙ z)), eq-eqb (time_of c unsent) (time_of c row) same);
          }

    -- an answer is one of the three
    next-answer : Next (answer g out) s n unsent
    next-answer = go (eqb (answer_refusal g s out) 0) refl
      where
        accepted : (b : Bool) → eqb (saved_time (asking g) row) 0 ≡ b → answer_refusal g s out ≡ 0 → Next (answer g out) s n unsent
        accepted true q e = next-basic e q
        accepted false q e = next-interleaved e q

        go : (b : Bool) → eqb (answer_refusal g s out) 0 ≡ b → Next (answer g out) s n unsent
        go true q = accepted (eqb (saved_time (asking g) row) 0) refl (eqb-true (answer_refusal g s out) 0 q)
        go false q = next-refused (eqb-false (answer_refusal g s out) 0 q)

  -- a call with arguments of their types
  next : (c : Call) → Typed c → Next c s n unsent
  next clear t = next-clear
  next (report c t) k = next-report c t k.1
  next (answer g out) r = next-answer g r out

-- ---- all calls

-- each time is sent at most once
all-sent-once : {s : List ℕ} {n : ℕ} {unsent row : List Record} (cs : List Call) → AllTyped cs → Stores s n row → TimesUnsent unsent row → each_sent_once unsent (observations step_store cs s) ≡ true
unfolding each_sent_once observations
all-sent-once [] t w o = refl
all-sent-once {s} {n} (c ∷ cs) t w o =
    let p = next w o c t.0 in
    p.continues (observations step_store cs (step_store c s).store)
    ∙ all-sent-once {s = (step_store c s).store} {n = n} {unsent = p.unsent-after} {row = p.row} cs t.1 p.stores p.times

-- a store that holds some row
pub record Holds (s : List ℕ) (n : ℕ) : Type 0 where
  pub row : List Record
  pub stores : Stores s n row

-- each call of a responder leaves such a store
abbrev pub LeavesStores : Responder → Type 0
LeavesStores step = (c : Call) (s : List ℕ) (n : ℕ) → Typed c → Holds s n → Holds (step c s).store n

pub step-holds : LeavesStores step_store
step-holds c s n t h = let p = next h.stores (unsent-row h.row) c t in record { row = p.row; stores = p.stores }

-- and so does then a list of calls
pub calls-hold : (step : Responder) → LeavesStores step → (cs : List Call) (s : List ℕ) (n : ℕ) → AllTyped cs → Holds s n → Holds (store_after_calls step cs s) n
unfolding store_after_calls
calls-hold step leaves [] s n t h = h
calls-hold step leaves (c ∷ cs) s n t h = calls-hold step leaves cs (step c s).store n t.1 (leaves c s n t.0 h)

-- a cleared store holds an empty row
pub cleared-holds : (s : List ℕ) → wrong_size s ≡ false → Holds (cleared s).1 (size_of s)
cleared-holds s h = record { row = []; stores = clear-stores s h }

-- a store that holds a row is right
pub right-store : {s : List ℕ} {n : ℕ} {row : List Record} → Stores s n row → Right n s
right-store {s} {n} {row} w = record {
  right = stores-right w;
  size = stores-size w;
  within = rw (stores_row w) w.within;
  distinct = λ c. rw (stores_row w) (without_gone c row w.sound);
}

-- the claim
pub once-only : Once
once-only s h cs t =
    let w = (calls-hold step_store step-holds cs (cleared s).1 (size_of s) t (cleared-holds s h)).stores in
    record {
      sent-once = all-sent-once cs t (clear-stores s h) (unsent-empty []);
      store-right = right-store w;
      record-left = λ g out r. interleaved-left w g r out;
    }

-- `each_sent_once` rules out a time that was reported once and is sent twice
pub sent-twice : (c t u : ℕ) (es : List Observed) → each_sent_once [] (reports c t ∷ sends c t ∷ sends c u ∷ es) ≡ false
unfolding each_sent_once held time_of without
sent-twice c t u es = rw (eq-eqb c c refl, eq-eqb t t refl)
