-- `put` meets its contract: each number is put in its turn. Assumes nothing.
use mathlib.Core.Path.{ap, ◌∙◌}
use mathlib.Core.List.{List}
use Prim.Native.Nat.{ℕ}
use Rattle.octets.specs.Part.{overwrite}
use Rattle.octets.specs.Piece.{put_all}
use Rattle.octets.proofs.Pieces.{then-put}
use Rattle.header.specs.Header.{header_put}
use Rattle.header.proofs.layout.put.Goals as goal

pub returns : goal.returns
unfolding header_put put_all
returns c =
    let h = c.args.h in
    let s = c.args.s.now in
    let e0 = c.put.ensures ∙ ap (λ (xs : List ℕ). overwrite s 0 xs 8) c.opening-opening.ensures in
    let e1 = then-put 8 4 h.root_delay e0 c.put-2.ensures in
    let e2 = then-put 12 4 h.root_dispersion e1 c.put-3.ensures in
    let e3 = then-put 16 8 h.server_cookie.0 e2 c.put-4.ensures in
    let e4 = then-put 24 8 h.client_cookie.0 e3 c.put-5.ensures in
    let e5 = then-put 32 8 h.receive e4 c.put-6.ensures in
    then-put 40 8 h.transmit e5 c.put-7.ensures
