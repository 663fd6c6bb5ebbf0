-- `write_fields` meets its contract: the two fields are written one after the other, or in edition 1 none is. Assumes nothing.
use mathlib.Core.Path.{sym}
use lib.ListN.{take-append-drop}
use Rattle.chain.specs.Content.{chain_octets, draft_name}
use Rattle.poll_request.proofs.Requests.{fields-written}
use Rattle.poll_request.proofs.write_fields.Goals as goal

pub returns-in-One : goal.returns-in-One
unfolding chain_octets
returns-in-One c = rw c.in-One.is (sym (take-append-drop 48 c.args.out.now))

pub returns-in-Seven : goal.returns-in-Seven
unfolding draft_name
returns-in-Seven c =
    let a = c.args in
    fields-written a.asked c.in-Seven.is a.out.now c.requires c.put-at.ensures c.to_be_bytes.ensures c.put.ensures
