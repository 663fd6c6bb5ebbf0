-- `accept` meets its contract: a chunk is taken from where its data start, and is whole words. Assumes nothing.
use native.Mathlib.Omega.{arith}
use Rattle.state.proofs.Ranges.{open-ranges, asked-ranges, whole_words, sums-fit}
use Rattle.state.proofs.Numbers.{count-onward}
use Rattle.events.proofs.Placed.{started}
use Rattle.events.proofs.reception.accept.Goals as goal

pub reply_to-reply-requires : goal.reply_to-reply-requires
reply_to-reply-requires c = (open-ranges c.args.h c.requires.0 c.requires.1).saved

pub used_head-used-requires : goal.used_head-used-requires
used_head-used-requires c = (open-ranges c.args.h c.requires.0 c.requires.1).edition

pub returns : goal.returns
returns c =
    let o = open-ranges c.args.h c.requires.0 c.requires.1 in
    let q = asked-ranges c.args.h o.request c.requires.2 in
    let w = whole_words c.args.h o q in
    let s = started _ c.in-Some.ensures in
    (record { leaves = λ datagram f. rw (w.offset, w.chunk, s.0, s.1, c.reply_to-reply.ensures.0, c.used_head-used.ensures, c.advance.ensures, c.taken_after.ensures, count-onward c.args.h o q.offset) }, c.reply_to-reply.ensures.1)

pub advance-requires : goal.advance-requires
advance-requires c = let s = sums-fit c.args.h c.requires.0 in omega arith

pub taken_after-requires : goal.taken_after-requires
taken_after-requires c = let s = sums-fit c.args.h c.requires.0 in omega arith
