use Rattle.std.proofs.Common.{map, arith, take_all}
use Rattle.std.proofs.lemmas.List.{length-map}
use Rattle.td_source.proofs.Keeping.{found_all, found_next, none_next}
use Rattle.td_source.proofs.outputs.places_of.Goals as goal

pub returns-in_default-clause-none : goal.returns-in_default-clause-none
returns-in_default-clause-none c =
    none_next c.args.netlist.now c.args.words.now c.loop-word.word-index _ c.loop-word-test.true (rw c.in_default.is at c.in_ok-place.ensures.none)

pub loop-word-preserved : goal.loop-word-preserved
loop-word-preserved c =
    found_next c.args.netlist.now c.args.words.now c.loop-word.word-index _ c.in-Some.place c.loop-word.places.items _ c.loop-word-test.true
    (rw c.in-Some.is at c.in_ok-place.ensures.some) c.in_ok-push.ensures.items c.loop-word.invariant

pub returns-clause-some : goal.returns-clause-some
returns-clause-some c =
    found_all c.args.netlist.now (map (λ word. word.now) c.args.words.now) c.loop-word.word-index c.loop-word.places.items
    (take_all c.loop-word.word-index (map (λ word. word.now) c.args.words.now)
    (omega (arith, c.loop-word-test.false, length-map c.args.words.now (λ word. word.now)))) c.loop-word.invariant
