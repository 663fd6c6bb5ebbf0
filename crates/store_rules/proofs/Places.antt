-- One record among the octets of a row: read, overwritten, removed. Assumes nothing.
use mathlib.Core.Path.{◌≡◌, sym, ap, ◌∙◌}
use mathlib.Core.Bool.{Bool, true, false, cond}
use mathlib.Core.List.{List, [], ◌∷◌, ◌++◌, append_assoc}
use Prim.Native.Nat.{ℕ, zero, suc, ◌+◌, ◌*◌, ◌≤◌}
use native.Mathlib.Omega.{arith}
use borrow.Author.Tests.{le-ltb, le-leb, lt-leb}
use lib.Dec.{eqb}
use lib.ListN.{length, drop, length-append}
use lib.Seq.{take_at, drop_at}
use Rattle.octets.specs.Number.{num, octets, get_at, put_at}
use Rattle.octets.specs.Part.{overwrite}
use Rattle.octets.proofs.Numbers.{length-octets}
use Rattle.octets.proofs.Parts.{overwritten, pasted}
use Rattle.store_rules.specs.Row.{Record, time_of, record_octets, row_octets, records_from}
use Rattle.store_rules.specs.Place.{index_of, removed}
use Rattle.store_rules.proofs.Rows.{unused_record}
use Rattle.store_rules.proofs.Written.{length-record, length-row, row-append}

-- a part in the middle gives way to another of its length
over : (p x q y : List ℕ) (at n : ℕ) → length p ≡ at → length x ≡ n → length y ≡ n → overwrite (p ++ (x ++ q)) at y n ≡ p ++ (y ++ q)
over p x q y at n h hx hy =
    let l : at + n ≤ length (p ++ (x ++ q)) = omega (arith, length-append p (x ++ q), length-append x q) in
    let k : length (p ++ x) ≡ at + n = length-append p x ∙ rw (h, hx) in
    let d : drop (at + n) (p ++ (x ++ q)) ≡ q = ap (drop (at + n)) (sym (append_assoc p x q)) ∙ drop_at (p ++ x) q (at + n) k in
    overwritten (p ++ (x ++ q)) at y n l ∙ pasted (p ++ (x ++ q)) y at n hy ∙ rw (take_at p (x ++ q) at h, d)

-- the octets of the record r, after a and before b
row-parts : (a : List Record) (r : Record) (b : List Record) → row_octets (a ++ (r ∷ b)) ≡ row_octets a ++ (octets 8 r.cookie ++ (octets 8 r.time ++ row_octets b))
unfolding row_octets
row-parts a r b = row-append a (r ∷ b) ∙ ap (λ (l : List ℕ). row_octets a ++ l) (append_assoc (octets 8 r.cookie) (octets 8 r.time) (row_octets b))

-- its cookie is overwritten
pub put-cookie : (a : List Record) (r : Record) (b : List Record) (c : ℕ)
    → put_at (row_octets (a ++ (r ∷ b))) (16 * length a) 8 c ≡ row_octets (a ++ (record { cookie = c; time = r.time } ∷ b))
put-cookie a r b c =
    let q = octets 8 r.time ++ row_octets b in
    ap (λ (l : List ℕ). put_at l (16 * length a) 8 c) (row-parts a r b)
    ∙ over (row_octets a) (octets 8 r.cookie) q (octets 8 c) (16 * length a) 8 (length-row a) (length-octets 8 r.cookie) (length-octets 8 c)
    ∙ sym (row-parts a (record { cookie = c; time = r.time }) b)

-- its time is
pub put-time : (a : List Record) (r : Record) (b : List Record) (t : ℕ)
    → put_at (row_octets (a ++ (r ∷ b))) (16 * length a + 8) 8 t ≡ row_octets (a ++ (record { cookie = r.cookie; time = t } ∷ b))
put-time a r b t =
    let p = row_octets a in
    let x = octets 8 r.cookie in
    let k : length (p ++ x) ≡ 16 * length a + 8 = length-append p x ∙ rw (length-row a, length-octets 8 r.cookie) in
    ap (λ (l : List ℕ). put_at l (16 * length a + 8) 8 t) (row-parts a r b ∙ sym (append_assoc p x (octets 8 r.time ++ row_octets b)))
    ∙ over (p ++ x) (octets 8 r.time) (row_octets b) (octets 8 t) (16 * length a + 8) 8 k (length-octets 8 r.time) (length-octets 8 t)
    ∙ append_assoc p x (octets 8 t ++ row_octets b)
    ∙ sym (row-parts a (record { cookie = r.cookie; time = t }) b)

-- it leaves, and an unused one stands at the end
pub remove-record : (a : List Record) (r : Record) (b : List Record)
    → removed (row_octets (a ++ (r ∷ b))) (16 * length a) ≡ row_octets (a ++ (b ++ (unused_record ∷ [])))
unfolding removed row_octets octets
remove-record a r b =
    let p = row_octets a in
    let x = record_octets r in
    let q = row_octets b in
    let at = 16 * length a in
    let l : length (row_octets (a ++ (r ∷ b))) ≡ 16 * (length a + suc (length b)) = length-row (a ++ (r ∷ b)) ∙ rw (length-append a (r ∷ b)) in
    let t = le-ltb (length (row_octets (a ++ (r ∷ b)))) (at + 16) (omega arith) in
    let e : row_octets (a ++ (r ∷ b)) ≡ p ++ (x ++ q) = row-append a (r ∷ b) in
    let k : length (p ++ x) ≡ at + 16 = length-append p x ∙ rw (length-row a, length-record r) in
    let d : drop (at + 16) (p ++ (x ++ q)) ≡ q = ap (drop (at + 16)) (sym (append_assoc p x q)) ∙ drop_at (p ++ x) q (at + 16) k in
    rw (t, e, take_at p (x ++ q) at (length-row a), d)
    (sym (row-append a (b ++ (unused_record ∷ [])) ∙ ap (λ (l : List ℕ). p ++ l) (row-append b (unused_record ∷ []))))

-- the time of a cookie is read after it; past the end there is none
pub time-read : (c n : ℕ) (s : List ℕ) (at : ℕ) → at + 16 * n ≡ length s
    → time_of c (records_from n s at) ≡ get_at s (at + 16 * index_of c (records_from n s at) + 8) 8
unfolding records_from time_of index_of
time-read c zero s at h = sym (rw (lt-leb (at + 16 * 0 + 8 + 8) (length s) (omega arith)))
time-read c (suc n) s at h = go (eqb (num s at 8) c) (time-read c n s (at + 16) (omega arith))
  where
    i : ℕ
    i = index_of c (records_from n s (at + 16))

    go : (b : Bool) → time_of c (records_from n s (at + 16)) ≡ get_at s (at + 16 + 16 * i + 8) 8
        → cond b (num s (at + 8) 8) (time_of c (records_from n s (at + 16))) ≡ get_at s (at + 16 * cond b 0 (1 + i) + 8) 8
    go true e =
        let z : at + 16 * 0 + 8 ≡ at + 8 = omega arith in
        sym (rw z (rw (le-leb (at + 8 + 8) (length s) (omega arith))))
    go false e =
        let z : at + 16 + 16 * i + 8 ≡ at + 16 * (1 + i) + 8 = omega arith in
        e ∙ ap (λ (k : ℕ). get_at s k 8) z
