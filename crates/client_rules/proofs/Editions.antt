-- Tables that mix both editions: an association's edition is what the observer says, and one of edition 1 takes no octet. Assumes nothing.
use mathlib.Core.Path.{◌≡◌, refl, sym, ap, ◌∙◌, subst, subst⁻¹}
use mathlib.Core.Bool.{Bool, true, false, cond, not, ◌&&◌}
use mathlib.Core.List.{List, [], ◌∷◌}
use Prim.Native.Nat.{ℕ, zero, suc, ◌+◌, ◌*◌, ◌<◌, ◌≤◌, min}
use native.Mathlib.Decide.{ℕ_discrete}
use native.Mathlib.Nat.{suc-mul}
use native.Mathlib.Omega.{arith}
use borrow.Author.Tests.{eq-eqb, eqb-false, not-true}
use lib.Dec.{eqb}
use lib.ListN.{get_or}
use Rattle.filter_rules.specs.Publishing.{bit}
use Rattle.header.specs.Edition.{edition_number}
use Rattle.header.specs.declared.edition.Edition.{Edition}
use Rattle.header.specs.declared.edition.Edition.TheVariants.{One, Seven}
use Rattle.exchange.specs.Response.{response_of}
use Rattle.exchange.proofs.Responses.{none-present}
use Rattle.state.specs.Plain.{Opened, Place, closed, opened, place_filter, place_edition, all_taken, place_do}
use Rattle.state.specs.Numbers.{count_taken}
use Rattle.state.specs.Event.{Receive, Look}
use Rattle.state.specs.Reply.{Reply}
use Rattle.state.proofs.Flags.{all_first}
use Rattle.state.proofs.Refused.{by-request}
use Rattle.association.proofs.Reached.{GoodPlace, GoodOpened, ranges, flags-back, none-taken}
use Rattle.octets.proofs.Tests.{by-test}
use Rattle.order.specs.Order.{after}
use Rattle.client_rules.specs.Call.{Call, clear_table, open_one, close_one, poll, sent, receive, loop_verdict, publish, Answer, receive_answer}
use Rattle.client_rules.specs.Select.{Seen, all_selected, in_range_seen, complete_seen, verdict_for}
use Rattle.client_rules.specs.Step.{publishing}
use Rattle.client_rules.specs.Plain.{closed_table, step_plain}
use Rattle.client_rules.specs.Numbers.{step_numbers, filter_octet}
use Rattle.client_rules.specs.Observe.{Observation, took_chunk, succeeded, observed_octet, chunks_taken, watched}
use Rattle.client_rules.specs.Claim.{reached}
use Rattle.client_rules.specs.Edition.{observed_edition, MixedEditions}
use Rattle.client_rules.proofs.Tables.{good_start, good-at, filter-holds, seen_place, at_place}
use Rattle.client_rules.proofs.Simulate.{at_in}
use Rattle.client_rules.proofs.Observed.{Watching, Watched}
use Rattle.client_rules.proofs.Demand2.{refused-number}
use Rattle.client_rules.proofs.Demand3.{good-reached, reached-plain, watched-reached, call-reached, run-watched, closed-watched}

-- ---- the observer

-- where no chunk was taken since the opening, every octet is zero: of one call more
none-by : (a i : ℕ) (seen : List Observation) → (chunks_taken a seen ≡ 0 → observed_octet a i seen ≡ 0) → (c : Call) (w : Answer)
    → chunks_taken a (record { call = c; answer = w } ∷ seen) ≡ 0 → observed_octet a i (record { call = c; answer = w } ∷ seen) ≡ 0
unfolding chunks_taken observed_octet
none-by a i seen h clear_table w z = h z
none-by a i seen h (open_one b edition timescale c) w z = go (succeeded a b w) z
  where
    go : (t : Bool) → cond t 0 (chunks_taken a seen) ≡ 0 → cond t 0 (observed_octet a i seen) ≡ 0
    go true z = refl
    go false z = h z
none-by a i seen h (close_one b) w z = h z
none-by a i seen h (poll b cookie exponent interleaved out) w z = h z
none-by a i seen h (sent b t1) w z = h z
none-by a i seen h (receive b datagram t4) w z = go (took_chunk a b w) _ z
  where
    -- a chunk that is taken is counted
    go : (t : Bool) (x : ℕ) → cond t (chunks_taken a seen + 1) (chunks_taken a seen) ≡ 0 → cond t x (observed_octet a i seen) ≡ 0
    go true x z = absurd (omega arith)
    go false x z = h z
none-by a i seen h (loop_verdict b id) w z = h z
none-by a i seen h (publish selected id out) w z = h z

none-observed : (a i : ℕ) (seen : List Observation) → chunks_taken a seen ≡ 0 → observed_octet a i seen ≡ 0
unfolding observed_octet
none-observed a i [] z = refl
none-observed a i (e ∷ seen) z = none-by a i seen (none-observed a i seen) e.call e.answer z

first-edition : (e : Edition) → edition_number e ≡ 1 → e ≡ One
first-edition One z = refl
first-edition Seven z = absurd (omega arith)

-- ---- a response

-- what is accepted in edition 1 has no chunk
absent-chunk : (o : Opened) (datagram : List ℕ) (t4 : ℕ) → o.edition ≡ One
    → let w = receive_answer (place_do (Receive (response_of o.edition datagram t4)) datagram (opened o)).0 in w.refusal ≡ 0 → w.chunk ≡ 2
unfolding place_do
absent-chunk o datagram t4 one =
    let r = response_of o.edition datagram t4 in
    let P : Reply × Place → Type 0 = λ w. (receive_answer w.0).refusal ≡ 0 → (receive_answer w.0).chunk ≡ 2 in
    by-test P (eqb r.t4 0) (λ t z. absurd (omega arith))
    (λ t. by-test P (not (eqb r.refusal 0)) (λ u z. absurd (eqb-false r.refusal 0 (not-true _ u) (sym (refused-number r.refusal) ∙ z)))
    (λ u. by-request P o.outstanding _ (λ z. absurd (omega arith))
    (λ k e. by-test P (not (eqb r.client.0 k.client)) (λ v z. absurd (omega arith))
    (λ v. by-test P (r.interleaved && eqb k.server 0) (λ w z. absurd (omega arith))
    (λ w z. ap (λ (b : Bool). cond b (cond (eqb r.size o.chunk) 1 3) 2) (ap (λ (d : Edition). (response_of d datagram t4).present) one ∙ none-present datagram t4))))))

-- ---- publishing

-- one that is not complete
not-all : (see : ℕ → Seen) (selected b : ℕ) → bit b selected ≡ true → complete_seen (see b) ≡ false → (n a : ℕ) → a ≤ b → b < a + n
    → all_selected complete_seen see selected n a ≡ false
unfolding all_selected
not-all see selected b named less zero a l m = absurd (omega arith)
not-all see selected b named less (suc n) a l m = go (ℕ_discrete a b) (λ z. not-all see selected b named less n (suc a) (omega (arith, z)) (omega arith))
  where
    here : cond (bit b selected) (complete_seen (see b)) true ≡ false
    here = rw (named, less)

    go : Dec (a ≡ b) → ((a ≡ b → ⊥) → all_selected complete_seen see selected n (suc a) ≡ false) → cond (bit a selected) (complete_seen (see a)) true && all_selected complete_seen see selected n (suc a) ≡ false
    go (yes z) later = ap (λ (t : Bool). t && all_selected complete_seen see selected n (suc a)) (subst⁻¹ (λ (x : ℕ). cond (bit x selected) (complete_seen (see x)) true ≡ false) z here)
    go (no z) later = rw (later z) (both (cond (bit a selected) (complete_seen (see a)) true))
      where
        both : (t : Bool) → t && false ≡ false
        both true = refl
        both false = refl

-- none of the plain table's places is out of range
all-in-range : (ps : List Place) (selected n a : ℕ) → a + n ≤ 16 → all_selected in_range_seen (seen_place ps) selected n a ≡ true
unfolding all_selected place_do
all-in-range ps selected zero a l = refl
all-in-range ps selected (suc n) a l =
    ap (λ (t : Bool). cond (bit a selected) (in_range_seen (seen_place ps a)) true && t) (all-in-range ps selected n (suc a) (omega arith)) ∙ go (bit a selected)
  where
    looked : (p : Place) → not (eqb (place_do Look [] p).0.refusal 6) ≡ true
    looked closed = refl
    looked (opened o) = refl

    go : (t : Bool) → cond t (in_range_seen (seen_place ps a)) true && true ≡ true
    go true = ap (λ (b : Bool). b && true) (ap (λ (v : Reply × List Place). not (eqb v.0.refusal 6)) (at_in a Look [] ps (omega arith)) ∙ looked (get_or ps a closed))
    go false = refl

-- ---- the claim

pub mixed-editions : MixedEditions
unfolding place_do publishing
mixed-editions t e cs ty a l o q =
    let ps = after step_plain cs closed_table in
    let good = good-reached cs ty in
    let seen = watched step_plain cs closed_table [] in
    let w : Watching o a seen = subst (λ (p : Place). Watched p a seen) q (run-watched cs closed_table [] ty good_start (closed-watched []) a l) in
    let g : GoodOpened o = subst GoodPlace q (good-at ps a good.all) in
    let named = w.edition ∙ ap (observed_edition a) (sym (watched-reached t e cs ty)) in
    record {
      named = named;
      first = λ f.
          let one = first-edition o.edition (named ∙ f) in
          let none = (none-taken o g one).1 in
          let chunks : chunks_taken a seen ≡ 0 = no_chunk (chunks_taken a seen) o.chunk (ranges o g).chunk-low (sym w.chunks ∙ none) in
          let incomplete : all_taken o.taken ≡ false = ap all_taken (sym (flags-back o g)) ∙ all_first (count_taken o.taken) (ranges o g).taken-high ∙ ap (λ (n : ℕ). eqb n 512) none in
          let looked : (at_place a Look [] ps).0 ≡ (place_do Look [] (opened o)).0 = ap (λ (v : Reply × List Place). v.0) (at_in a Look [] ps l) ∙ ap (λ (p : Place). (place_do Look [] p).0) q in
          let shown : complete_seen (seen_place ps a) ≡ false = ap (λ (r : Reply). eqb r.refusal 0 && r.complete) looked ∙ incomplete in
          record {
            filter = λ i m. ap (filter_octet a i) (reached-plain t e cs ty) ∙ ap (λ (x : List ℕ). get_or x i 0) (filter-holds ps a good l ∙ ap place_filter q) ∙ w.octets i m ∙ none-observed a i seen chunks;
            chunk = λ datagram t4 h z.
                let c = receive a datagram t4 in
                let same : (step_numbers c (reached t cs)).0 ≡ receive_answer (place_do (Receive (response_of o.edition datagram t4)) datagram (opened o)).0 =
                ap (λ (x : Answer × List ℕ). x.0) (call-reached t e cs ty c h)
                ∙ ap (λ (x : Reply × List Place). receive_answer x.0) (at_in a (Receive (response_of (place_edition (get_or ps a closed)) datagram t4)) datagram ps l)
                ∙ ap (λ (p : Place). receive_answer (place_do (Receive (response_of (place_edition p) datagram t4)) datagram p).0) q in
                ap (λ (x : Answer). x.chunk) same ∙ absent-chunk o datagram t4 one (sym (ap (λ (x : Answer). x.refusal) same) ∙ z);
            verdict = λ id octets long.
                ap (λ (x : Answer × List ℕ). x.0) (call-reached t e cs ty (loop_verdict a id) (omega arith, octets))
                ∙ ap (λ (r : Reply). verdict_for id (record { refusal = r.refusal; complete = r.complete; filter = place_filter (get_or ps a closed) })) looked
                ∙ rw (incomplete, eq-eqb _ _ long);
            published = λ selected id out h long picked.
                ap (λ (x : Answer × List ℕ). x.0) (call-reached t e cs ty (publish selected id out) h)
                ∙ rw (eq-eqb _ _ long, all-in-range ps selected 16 0 (omega arith), not-all (seen_place ps) selected a picked shown 16 0 (omega arith) (omega arith));
          };
    }
  where
    no_chunk : (n c : ℕ) → 16 ≤ c → min 512 (n * c) ≡ 0 → n ≡ 0
    no_chunk zero c l z = refl
    no_chunk (suc n) c l z = absurd (omega (arith, suc-mul n c))
