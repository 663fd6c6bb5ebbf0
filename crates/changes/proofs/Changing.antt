-- A call with the values of a line's words is the line's call. Assumes nothing.
use mathlib.Core.Path.{◌≡◌, refl, ap, ◌∙◌}
use mathlib.Core.Bool.{Bool}
use mathlib.Core.List.{List}
use Prim.Native.Nat.{ℕ}
use lib.IntN.{ℤ}
use Rattle.changes.specs.declared.Change.{Change}
use Rattle.changes.specs.declared.Change.TheVariants.{Clear, Open, Close, Poll, Sent, Receive}
use Rattle.changes.specs.Rows.{row_number}
use Rattle.words.specs.Line.{number_at, bits_at, signed_at, octets_at}
use Rattle.client_rules.specs.Call.{Call, Answer, clear_table, open_one, close_one, poll, sent, receive}
use Rattle.client_rules.specs.Numbers.{step_numbers}
use Rattle.changes.specs.Change.{interleaved_at, poll_of, receive_of, change_of, call_of, table_after}

module _ (line : List ℕ) where
  pub poll-as : (a cookie : ℕ) (e : ℤ) (i : Bool) (out : List ℕ)
      → a ≡ bits_at 8 line 1 → cookie ≡ number_at line 2 → e ≡ signed_at line 3 → i ≡ interleaved_at line 4 → out ≡ octets_at line 5
      → poll a cookie e i out ≡ poll_of line
  unfolding poll_of
  poll-as a cookie e i out f g h k l = rw (f, g, h, k, l)

  pub receive-as : (a : ℕ) (datagram : List ℕ) (t4 : ℕ)
      → a ≡ bits_at 8 line 1 → datagram ≡ octets_at line 3 → t4 ≡ number_at line 2 → receive a datagram t4 ≡ receive_of line
  unfolding receive_of
  receive-as a datagram t4 f g h = rw (f, g, h)

-- the call of each row; of these three and of a send the answer is a refusal or nothing
module _ (line : List ℕ) (change : Change) where
  pub change-clear : change ≡ Clear → clear_table ≡ change_of (row_number change) line
  unfolding change_of
  change-clear k = rw k

  pub change-open : (a edition timescale c : ℕ) → change ≡ Open → a ≡ bits_at 8 line 1 → edition ≡ bits_at 8 line 2 → timescale ≡ bits_at 8 line 3
      → c ≡ bits_at 16 line 4 → open_one a edition timescale c ≡ change_of (row_number change) line
  unfolding change_of
  change-open a edition timescale c k f e g h = rw (k, f, e, g, h)

  pub change-close : (a : ℕ) → change ≡ Close → a ≡ bits_at 8 line 1 → close_one a ≡ change_of (row_number change) line
  unfolding change_of
  change-close a k f = rw (k, f)

  pub change-poll : change ≡ Poll → poll_of line ≡ call_of (row_number change) line
  change-poll k = rw k

  pub change-receive : change ≡ Receive → receive_of line ≡ call_of (row_number change) line
  change-receive k = rw k

pub change-sent : (line : List ℕ) (change : Change) (a t1 : ℕ) → (change ≡ Clear → ⊥) → (change ≡ Open → ⊥) → (change ≡ Close → ⊥)
    → a ≡ bits_at 8 line 1 → t1 ≡ number_at line 2 → sent a t1 ≡ change_of (row_number change) line
unfolding change_of
change-sent line Clear a t1 k l m f g = absurd (k refl)
change-sent line Open a t1 k l m f g = absurd (l refl)
change-sent line Close a t1 k l m f g = absurd (m refl)
change-sent line Poll a t1 k l m f g = rw (f, g)
change-sent line Sent a t1 k l m f g = rw (f, g)
change-sent line Receive a t1 k l m f g = rw (f, g)

pub change-plain : (line : List ℕ) (change : Change) → (change ≡ Poll → ⊥) → (change ≡ Receive → ⊥)
    → change_of (row_number change) line ≡ call_of (row_number change) line
change-plain line Clear k l = refl
change-plain line Open k l = refl
change-plain line Close k l = refl
change-plain line Poll k l = absurd (k refl)
change-plain line Sent k l = refl
change-plain line Receive k l = absurd (l refl)

-- the table that a call leaves, where it is another call's
pub left : (r : Answer) (t t' : List ℕ) (x y : Call) → x ≡ y → (r, t') ≡ step_numbers x t → t' ≡ (step_numbers y t).1
left r t t' x y e z = ap (λ (w : Answer × List ℕ). w.1) z ∙ ap (λ (v : Call). (step_numbers v t).1) e

pub after : (line t t' : List ℕ) (call : ℕ) (x : Call) → x ≡ call_of call line → t' ≡ (step_numbers x t).1 → t' ≡ table_after call line t
unfolding table_after
after line t t' call x e z = z ∙ ap (λ (v : Call). (step_numbers v t).1) e

pub after_step : (line t t' : List ℕ) (call : ℕ) (x : Call) (r : Answer) → x ≡ call_of call line → (r, t') ≡ step_numbers x t → t' ≡ table_after call line t
after_step line t t' call x r e z = after line t t' call x e (ap (λ (w : Answer × List ℕ). w.1) z)
