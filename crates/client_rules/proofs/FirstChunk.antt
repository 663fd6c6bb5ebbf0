-- A client that places only the first chunk of an association does not keep demand 3's filter octets. Assumes nothing.
use mathlib.Core.Path.{◌≡◌, refl, sym, ap, ◌∙◌, subst}
use mathlib.Core.Bool.{Bool, false, cond}
use mathlib.Core.List.{List, [], ◌∷◌, ◌++◌}
use Prim.Native.Nat.{ℕ, ◌<◌}
use native.Mathlib.Omega.{arith}
use borrow.Author.Tests.{eq-eqb, ne_eqb}
use lib.Dec.{eqb}
use lib.IntN.{pos}
use lib.ListN.{length, get_or, take, drop, length-append, length-take, length-drop}
use lib.Seq.{take_at, drop_at}
use Rattle.octets.specs.Number.{num}
use Rattle.octets.proofs.Written.{zeros-octets}
use Rattle.header.specs.Header.{header_of, refusal}
use Rattle.header.specs.declared.edition.Edition.TheVariants.{Seven}
use Rattle.chain.specs.Chain.{all_zero, step_at, walk_for, walk, chain_refusal, sound_refusal}
use Rattle.chain.specs.Field.{first_of}
use Rattle.exchange.specs.Response.{response_of}
use Rattle.word_rules.specs.Words.{octets_of}
use Rattle.association.specs.Record.{head_of, head_size, record_size}
use Rattle.association.proofs.Encoding.{head-encode, length-encode}
use Rattle.state.specs.Plain.{Outstanding, Opened, Place, closed, opened, newly_opened, polled, received, place_do, place_filter}
use Rattle.state.specs.Numbers.{count_taken, place_head}
use Rattle.state.specs.declared.head.Head.{Head}
use Rattle.order.specs.Order.{TaggedCall, after, EveryCall, Distinct}
use Rattle.client_rules.specs.Call.{Call, clear_table, open_one, close_one, poll, sent, receive, loop_verdict, publish, Typed, Answer}
use Rattle.client_rules.specs.Step.{event_on}
use Rattle.client_rules.specs.Numbers.{part, filter_words, filter_octet, encode_all, step_numbers}
use Rattle.client_rules.specs.Plain.{closed_table, step_plain}
use Rattle.client_rules.specs.Observe.{Observation, observed_octet, watched}
use Rattle.client_rules.specs.Claim.{place_after, Filters, ForEveryList}
use Rattle.client_rules.specs.Idle.{with_filter, first_placed, places_first}
use Rattle.client_rules.proofs.Tables.{GoodTable, part-all, filter-holds, good_start}
use Rattle.client_rules.proofs.Observed.{Watching, Watched, entry}
use Rattle.client_rules.proofs.Demand3.{simulates, run-watched, closed-watched, cleared-is, good-reached}
use Rattle.client_rules.proofs.Exchange.{zeros, size, datagram, datagram-octets, room, tagged}

-- a call that is done as ours does it: no response to an association that took a chunk
abbrev AsOurs : Call → List Place → Type 0
AsOurs clear_table ps = Unit {0}
AsOurs (open_one a edition timescale c) ps = Unit {0}
AsOurs (close_one a) ps = Unit {0}
AsOurs (poll a cookie exponent interleaved out) ps = Unit {0}
AsOurs (sent a t1) ps = Unit {0}
AsOurs (receive a datagram t4) ps = (a < 16) × ((place_head (get_or ps a closed)).taken ≡ 0)
AsOurs (loop_verdict a id) ps = Unit {0}
AsOurs (publish selected id out) ps = Unit {0}

abbrev AllAsOurs : List (TaggedCall Call) → List Place → Type 0
AllAsOurs [] ps = Unit {0}
AllAsOurs (x ∷ cs) ps = AsOurs x.call ps × AllAsOurs cs (step_plain x.call ps).1

-- the number of octets taken, read from the table
taken_at : (ps : List Place) (a : ℕ) → GoodTable ps → a < 16 → (head_of (part a (encode_all ps))).taken ≡ (place_head (get_or ps a closed)).taken
taken_at ps a g h =
    let l : a < length ps = omega (arith, g.sixteen) in
    ap (λ (x : List ℕ). (head_of x).taken) (part-all ps a l) ∙ ap (λ (x : Head). x.taken) (head-encode (get_or ps a closed))

as-ours : (c : Call) (ps : List Place) (u : List ℕ) → GoodTable ps → AsOurs c ps → first_placed c (encode_all ps) u ≡ u
as-ours clear_table ps u g h = refl
as-ours (open_one a edition timescale c) ps u g h = refl
as-ours (close_one a) ps u g h = refl
as-ours (poll a cookie exponent interleaved out) ps u g h = refl
as-ours (sent a t1) ps u g h = refl
as-ours (receive a datagram t4) ps u g h = rw (eq-eqb _ _ (taken_at ps a g h.0 ∙ h.1))
as-ours (loop_verdict a id) ps u g h = refl
as-ours (publish selected id out) ps u g h = refl

step-ours : (c : Call) (ps : List Place) → Typed c → GoodTable ps → AsOurs c ps → (places_first c (encode_all ps)).1 ≡ encode_all (step_plain c ps).1
step-ours c ps t g h = as-ours c ps _ g h ∙ ap (λ (w : Answer × List ℕ). w.1) (simulates.agrees c ps t g)

-- calls that are done as ours does them, and one more: the table that is left, and what is seen
module _ (x : TaggedCall Call) where
  end-ours : (cs : List (TaggedCall Call)) (ps : List Place) → EveryCall Typed cs → GoodTable ps → AllAsOurs cs ps
      → after places_first (cs ++ (x ∷ [])) (encode_all ps) ≡ (places_first x.call (encode_all (after step_plain cs ps))).1
  unfolding after
  end-ours [] ps t g h = refl
  end-ours (y ∷ cs) ps t g h =
      ap (after places_first (cs ++ (x ∷ []))) (step-ours y.call ps t.0 g h.0)
      ∙ end-ours cs (step_plain y.call ps).1 t.1 (simulates.invariant y.call ps t.0 g) h.1

  seen-ours : (cs : List (TaggedCall Call)) (ps : List Place) (seen : List Observation) → EveryCall Typed cs → Typed x.call → GoodTable ps
      → AllAsOurs cs ps → watched places_first (cs ++ (x ∷ [])) (encode_all ps) seen ≡ watched step_plain (cs ++ (x ∷ [])) ps seen
  unfolding watched
  seen-ours [] ps seen t k g h = ap (λ (w : Answer × List ℕ). entry x.call w.0 ∷ seen) (simulates.agrees x.call ps k g)
  seen-ours (y ∷ cs) ps seen t k g h =
      ap (λ (u : List ℕ). watched places_first (cs ++ (x ∷ [])) u (entry y.call (step_numbers y.call (encode_all ps)).0 ∷ seen)) (step-ours y.call ps t.0 g h.0)
      ∙ ap (λ (w : Answer × List ℕ). watched places_first (cs ++ (x ∷ [])) (encode_all (step_plain y.call ps).1) (entry y.call w.0 ∷ seen)) (simulates.agrees y.call ps t.0 g)
      ∙ seen-ours cs (step_plain y.call ps).1 _ t.1 k (simulates.invariant y.call ps t.0 g) h.1

-- the filter of association 0 is then the one from before
filter-kept : (ps qs : List Place) → GoodTable ps → GoodTable qs
    → octets_of (filter_words 0 (with_filter 0 (encode_all ps) (encode_all qs))) ≡ place_filter (get_or ps 0 closed)
unfolding with_filter
filter-kept ps qs g k =
    let head = take head_size (part 0 (encode_all qs)) in
    let words = filter_words 0 (encode_all ps) in
    let m : length (part 0 (encode_all ps)) ≡ record_size = ap length (part-all ps 0 (omega (arith, g.sixteen))) ∙ length-encode _ in
    let n : length (part 0 (encode_all qs)) ≡ record_size = ap length (part-all qs 0 (omega (arith, k.sixteen))) ∙ length-encode _ in
    let u : length head ≡ head_size = omega (arith, length-take head_size (part 0 (encode_all qs))) in
    let v : length words ≡ 64 = omega (arith, length-drop head_size (part 0 (encode_all ps))) in
    ap (λ (l : List ℕ). octets_of (drop head_size l)) (take_at (head ++ words) (drop record_size (encode_all qs)) record_size (omega (arith, length-append head words)))
    ∙ ap octets_of (drop_at head words head_size u) ∙ filter-holds ps 0 g (omega arith)

-- two polls and their responses; the second one's chunk begins with 1, and goes to offset 16
abbrev before : List (TaggedCall Call)
before =
    tagged 0 (open_one 0 7 0 16) ∷ tagged 1 (poll 0 1 (pos 0) false room) ∷ tagged 2 (receive 0 (datagram 1 0) 1) ∷ tagged 3 (poll 0 2 (pos 0) false room) ∷ []

abbrev second : TaggedCall Call
second = tagged 4 (receive 0 (datagram 2 1) 1)

abbrev request : ℕ → ℕ → Outstanding
request cookie at = record { client = cookie; server = 0; offset = at; t1 = 0 }

abbrev once : Opened
once = received (response_of Seven (datagram 1 0) 1) (datagram 1 0) (polled 1 false (newly_opened Seven 0 16)) (request 1 0)

abbrev twice : Opened
twice = received (response_of Seven (datagram 2 1) 1) (datagram 2 1) (polled 2 false once) (request 2 16)

before-place : place_after before 0 ≡ opened (polled 2 false once)
unfolding after event_on place_do num header_of refusal all_zero step_at walk_for walk chain_refusal sound_refusal first_of response_of
before-place = refl

second-place : place_after (before ++ (second ∷ [])) 0 ≡ opened twice
unfolding after event_on place_do num header_of refusal all_zero step_at walk_for walk chain_refusal sound_refusal first_of response_of
second-place = refl

-- so many octets were taken before each response
before-ours : AllAsOurs before closed_table
unfolding event_on place_do count_taken
before-ours = (tt, (tt, ((omega arith, refl), (tt, tt))))

once-taken : (place_head (place_after before 0)).taken ≡ 16
unfolding after event_on place_do count_taken num header_of refusal all_zero step_at walk_for walk chain_refusal sound_refusal first_of response_of
once-taken = refl

-- octet 16 of the filter before and after
once-octet : get_or once.filter 16 0 ≡ 0
unfolding num header_of refusal all_zero step_at walk_for walk chain_refusal sound_refusal first_of response_of
once-octet = refl

twice-octet : get_or twice.filter 16 0 ≡ 1
unfolding num header_of refusal all_zero step_at walk_for walk chain_refusal sound_refusal first_of response_of
twice-octet = refl

poll-typed : (cookie : ℕ) → cookie < 256 → Typed (poll 0 cookie (pos 0) false room)
poll-typed cookie h = (omega arith, omega arith, record { sfits = omega arith }, zeros-octets 100)

before-typed : EveryCall Typed before
before-typed =
    ((omega arith, omega arith, omega arith, omega arith), (poll-typed 1 (omega arith), ((omega arith, datagram-octets.0, omega arith), (poll-typed 2 (omega arith), tt))))

second-typed : Typed second.call
second-typed = (omega arith, datagram-octets.1, omega arith)

all_typed : EveryCall Typed (before ++ (second ∷ []))
all_typed = (before-typed.0, (before-typed.1.0, (before-typed.1.1.0, (before-typed.1.1.1.0, (second-typed, tt)))))

all-distinct : Distinct (before ++ (second ∷ []))
all-distinct = omega arith

abbrev ps : List Place
ps = after step_plain before closed_table

-- the table has the octet from before there
octet-left : filter_octet 0 16 (after places_first (before ++ (second ∷ [])) (encode_all closed_table)) ≡ 0
octet-left =
    let good = good-reached before before-typed in
    let c = second.call in
    let taken : (head_of (part 0 (encode_all ps))).taken ≡ 16 = taken_at ps 0 good (omega arith) ∙ once-taken in
    let same : (step_numbers c (encode_all ps)).1 ≡ encode_all (step_plain c ps).1 = ap (λ (w : Answer × List ℕ). w.1) (simulates.agrees c ps second-typed good) in
    let later : eqb (head_of (part 0 (encode_all ps))).taken 0 ≡ false = ne_eqb (head_of (part 0 (encode_all ps))).taken 0 (λ z. omega arith) in
    let end : (places_first c (encode_all ps)).1 ≡ with_filter 0 (encode_all ps) (encode_all (step_plain c ps).1) =
    ap (λ (b : Bool). cond b (step_numbers c (encode_all ps)).1 (with_filter 0 (encode_all ps) (step_numbers c (encode_all ps)).1)) later ∙ ap (with_filter 0 (encode_all ps)) same in
    ap (filter_octet 0 16) (end-ours second before closed_table before-typed good_start before-ours ∙ end)
    ∙ ap (λ (f : List ℕ). get_or f 16 0) (filter-kept ps (step_plain c ps).1 good (simulates.invariant c ps second-typed good) ∙ ap place_filter before-place)
    ∙ once-octet

-- the observer saw a chunk taken there
octet-seen : observed_octet 0 16 (watched places_first (before ++ (second ∷ [])) (encode_all closed_table) []) ≡ 1
octet-seen =
    let cs = before ++ (second ∷ []) in
    let w : Watching twice 0 (watched step_plain cs closed_table []) =
    subst (λ (p : Place). Watched p 0 (watched step_plain cs closed_table [])) second-place (run-watched cs closed_table [] all_typed good_start (closed-watched []) 0 (omega arith)) in
    ap (observed_octet 0 16) (seen-ours second before closed_table [] before-typed second-typed good_start before-ours)
    ∙ sym (w.octets 16 (omega arith)) ∙ twice-octet

pub placing-first : ForEveryList (Filters places_first) → ⊥
placing-first d =
    let cs = before ++ (second ∷ []) in
    let e = d zeros size cs all_typed all-distinct 0 (omega arith) twice second-place 16 (omega arith) in
    let f = rw (cleared-is zeros size) at e in
    let z : ◌≡◌ {A = ℕ} 0 1 = sym octet-left ∙ f ∙ octet-seen in
    omega arith
