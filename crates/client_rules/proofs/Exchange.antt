-- The smallest exchanges that show an idle client: association 0, c = 16, a poll and its response of 68 octets. Assumes nothing.
use mathlib.Core.Path.{◌≡◌, refl}
use mathlib.Core.Bool.{false}
use mathlib.Core.List.{List, [], ◌∷◌, ◌++◌}
use Prim.Native.Nat.{ℕ}
use native.Mathlib.Omega.{arith}
use lib.IntN.{pos}
use lib.ListN.{length, replicate}
use Rattle.octets.specs.Number.{Octets, num}
use Rattle.octets.proofs.Written.{zeros-octets, small-octets}
use Rattle.header.specs.Header.{header_of, refusal}
use Rattle.header.specs.declared.edition.Edition.TheVariants.{Seven}
use Rattle.chain.specs.Chain.{all_zero, step_at, walk_for, walk, chain_refusal, sound_refusal}
use Rattle.state.specs.Plain.{newly_opened, polled, place_do}
use Rattle.order.specs.Order.{TaggedCall, after, EveryCall}
use Rattle.client_rules.specs.Call.{Call, open_one, poll, Typed}
use Rattle.client_rules.specs.Step.{event_on}
use Rattle.client_rules.specs.Numbers.{table_size, encode_all}
use Rattle.client_rules.specs.Plain.{closed_table}
use Rattle.client_rules.specs.Claim.{place_after, Acceptable}
use Rattle.client_rules.proofs.Tables.{length-table, good_start}

-- a table of the right size; nobody looks at its numbers
abbrev pub zeros : List ℕ
zeros = encode_all closed_table

pub size : length zeros ≡ table_size
size = length-table closed_table good_start

-- a response with a client cookie of one octet and a chunk of 16 octets, the first of them given
abbrev pub datagram : ℕ → ℕ → List ℕ
datagram cookie x = 0x2C ∷ (replicate 30 0 ++ (cookie ∷ (replicate 16 0 ++ (0xF5 ∷ 0x04 ∷ 0x00 ∷ 0x14 ∷ x ∷ replicate 15 0))))

pub datagram-octets : Octets (datagram 1 0) × Octets (datagram 2 1)
datagram-octets = (small-octets (datagram 1 0) refl, small-octets (datagram 2 1) refl)

abbrev pub room : List ℕ
room = replicate 100 0

abbrev pub tagged : ℕ → Call → TaggedCall Call
tagged n c = record { tag = n; call = c }

-- opening and a poll
abbrev pub asking : List (TaggedCall Call)
asking = tagged 0 (open_one 0 7 0 16) ∷ tagged 1 (poll 0 1 (pos 0) false room) ∷ []

pub asking-typed : EveryCall Typed asking
asking-typed = ((omega arith, omega arith, omega arith, omega arith), ((omega arith, omega arith, record { sfits = omega arith }, zeros-octets 100), tt))

-- whose response may be accepted
pub acceptable : Acceptable (place_after asking 0) (datagram 1 0)
unfolding after event_on place_do num header_of refusal all_zero step_at walk_for walk chain_refusal sound_refusal
acceptable = record {
  place = polled 1 false (newly_opened Seven 0 16);
  open-sender = refl;
  request = record { client = 1; server = 0; offset = 0; t1 = 0 };
  outstanding = refl;
  sound = refl;
  repeats = refl;
  interleaved = λ e z. let f : ◌≡◌ {A = ℕ} 0 1 = cc in omega arith;
}

-- before the poll it may not
pub not_yet : Acceptable (place_after [] 0) (datagram 1 0) → ⊥
unfolding after
not_yet h = let e = h.open-sender in let f : ◌≡◌ {A = ℕ} 0 1 = cc in omega arith
