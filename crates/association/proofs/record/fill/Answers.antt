-- `fill` meets its contract: each arm leaves the head and changes the filter. Assumes nothing.
use mathlib.Core.Path.{◌≡◌, refl, sym, ap, ◌∙◌}
use mathlib.Core.List.{List}
use Prim.Native.Nat.{ℕ, ◌/◌}
use native.Mathlib.Omega.{arith}
use lib.ListN.{length, drop, replicate, take-append-drop, length-drop}
use Rattle.word_rules.specs.Words.{octets_of, take_words}
use Rattle.word_rules.proofs.Taking.{taken-words}
use Rattle.filter_words.proofs.Through.{fresh-in-words}
use Rattle.association.specs.Record.{head_size}
use Rattle.association.proofs.Records.{filter-lent, filter-left}
use borrow.Author.Rules.{rules}
use Rattle.association.proofs.record.fill.Goals as goal

pub returns-in-Keep : goal.returns-in-Keep
returns-in-Keep c =
    let l = c.args.numbers.now in
    rw c.in-Keep.is
    (filter-left l l (drop head_size l) (octets_of (drop head_size l)) (λ j. (c.type_inv.numbers j).fits) c.requires refl (sym (take-append-drop head_size l)) refl)

pub returns-in-Clear : goal.returns-in-Clear
returns-in-Clear c =
    let l = c.args.numbers.now in
    let n : length (drop head_size l) ≡ 64 = omega (arith, length-drop head_size l) in
    let e = filter-lent (λ (ws : List ℕ). replicate (length ws) 0) l _ c.requires c.zero.ensures in
    rw c.in-Clear.is
    (filter-left l _ (replicate (length (drop head_size l)) 0) (replicate 512 0) (λ j. (c.type_inv.numbers j).fits) c.requires (search rules) e (ap (λ (k : ℕ). octets_of (replicate k 0)) n ∙ fresh-in-words))

pub returns-in-Take : goal.returns-in-Take
returns-in-Take c =
    let a = c.args in
    let l = a.numbers.now in
    let s = c.in-Take.start in
    let take : List ℕ → List ℕ = λ (ws : List ℕ). take_words ws (a.h.request.offset / 8) a.datagram.now s (a.h.chunk / 8) in
    let e = filter-lent take l _ c.requires c.take.ensures in
    rw c.in-Take.is
    (filter-left l _ (take (drop head_size l)) _ (λ j. (c.type_inv.numbers j).fits) c.requires (search rules) e
    (taken-words (drop head_size l) a.datagram.now (λ j. (c.type_inv.datagram j).fits) (a.h.request.offset / 8) s (a.h.chunk / 8)))
