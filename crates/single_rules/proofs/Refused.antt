-- A refusal of a call on one datagram or one filter changes nothing, by the cases of each definition. Assumes nothing.
use mathlib.Core.Path.{◌≡◌, refl}
use mathlib.Core.Bool.{Bool, true, false, cond, not, ◌&&◌, ◌||◌}
use mathlib.Core.List.{List}
use Prim.Native.Nat.{ℕ}
use lib.Dec.{eqb, ltb}
use lib.ListN.{length}
use Rattle.header.specs.Edition.{is_edition, edition_of, over_limits}
use Rattle.header.specs.Header.{header_of, reading, written, read_named, written_named}
use Rattle.header.specs.declared.Header.{Header}
use Rattle.std.specs.Prelude.{Result}
use Rattle.octets.specs.Among.{among}
use Rattle.header.proofs.Refusals.{header-number}
use Rattle.chain.proofs.Refusals.{sound-number}
use Rattle.filter_rules.specs.Calls.{is_filter, is_id}
use Rattle.filter_weight.specs.Weighing.{numbers}
use Rattle.single_rules.specs.Single.{Call, header_read, header_write, sound, filter_add, filter_union, filter_weight, lent, Answer, plain_answer, read_answer, output_answer, weight_answer}
use Rattle.single_rules.specs.Refused.{refusals_of, RefusedCall, Refusals}

-- what holds of both choices holds of the one that is taken
either : {A : Type 0} (P : A → Type 0) (b : Bool) {x y : A} → P x → P y → P (cond b x y)
either P true p q = p
either P false p q = q

-- an answer that, where it is a refusal, is as the claim says
abbrev IfRefused : Call → Answer → Type 0
IfRefused c w = (w.refusal ≡ 0 → ⊥) → RefusedCall c w

accepted : (c : Call) (w : Answer) → w.refusal ≡ 0 → IfRefused c w
accepted c w e f = absurd (f e)

refused : (c : Call) (n : ℕ) → among n (refusals_of c) ≡ true → IfRefused c (plain_answer n (lent c))
refused c n e f = record { unchanged = refl; number = e }

pub refusals : Refusals
unfolding written read_named written_named
refusals (header_read n s wanted) =
    let c = header_read n s wanted in
    either (λ (r : Result Header ℕ). IfRefused c (read_answer r)) (is_edition n)
    (header-number (λ k. IfRefused c (read_answer (reading k (header_of (edition_of n) s)))) (accepted c _ refl) (refused c 1 refl) (refused c 2 refl) (refused c 3 refl) s wanted)
    (refused c 6 refl)
refusals (header_write n h out) =
    let c = header_write n h out in
    let P : ℕ × List ℕ → Type 0 = λ w. IfRefused c (output_answer w) in
    either P (is_edition n)
    (either P (ltb 3 h.leap || not (eqb h.mode 3 || eqb h.mode 4) || over_limits h.edition h.stratum h.timescale h.flags) (refused c 6 refl)
    (either P (ltb (length out) 48) (refused c 11 refl) (accepted c _ refl)))
    (refused c 6 refl)
refusals (sound s wanted) =
    let c = sound s wanted in
    let P : ℕ → Type 0 = λ n. IfRefused c (plain_answer n (lent c)) in
    sound-number P (accepted c _ refl) (refused c 1 refl) (refused c 2 refl) (refused c 3 refl) (refused c 4 refl) (refused c 5 refl) (refused c 13 refl) s wanted
refusals (filter_add filter id) =
    let c = filter_add filter id in
    either (λ (w : ℕ × List ℕ). IfRefused c (output_answer w)) (is_filter filter && is_id id) (accepted c _ refl) (refused c 6 refl)
refusals (filter_union into other) =
    let c = filter_union into other in
    either (λ (w : ℕ × List ℕ). IfRefused c (output_answer w)) (is_filter into && is_filter other) (accepted c _ refl) (refused c 6 refl)
refusals (filter_weight filter) =
    let c = filter_weight filter in
    either (λ (w : Result ℕ ℕ). IfRefused c (weight_answer (numbers w))) (is_filter filter) (accepted c _ refl) (refused c 6 refl)
