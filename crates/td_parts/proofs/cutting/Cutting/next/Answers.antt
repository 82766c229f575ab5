use Rattle.std.proofs.Common.{◌≡◌, ◌<◌, length, sym, subst, refl, arith, suc}
use Rattle.std.specs.Prelude.{All}
use Rattle.std.proofs.lemmas.List.Sorted.{length_permutation}
use Rattle.std.proofs.lemmas.Option.{slice_get_read}
use Rattle.td_parts.specs.Queues.{places_of, AreBelow}
use Rattle.td_parts.specs.Sharing.{IsFreeIn}
use Rattle.td_parts.specs.Splits.{IsSplitFree, cubes_of}
use Rattle.td_parts.proofs.Waiting.{taken_below, taken_waits, passed_waits, none_below, none_waits, free_at}
use Rattle.td_parts.proofs.cutting.Cutting.next.Goals as goal

pub index-requires : goal.index-requires
index-requires c =
    let parts = c.loop-place.self.parts in
    let taken = taken_below (length parts.items) c.in-Some.place c.loop-place.self.queue c.pop.new.self c.in-Some.ensures c.loop-place.invariant.queued in
    subst (λ n. c.in-Some.place < n) (sym parts.ok.0) taken.0

pub returns-in-Some-split-clause-place : goal.returns-in-Some-split-clause-place
returns-in-Some-split-clause-place c =
    let parts = c.loop-place.self.parts in
    let taken = taken_below (length parts.items) c.in-Some.place c.loop-place.self.queue c.pop.new.self c.in-Some.ensures c.loop-place.invariant.queued in
    subst (λ p. c.in-Some.place < length p.items) c.loop-place.invariant.parts taken.0

pub returns-in-Some-split-clause-free : goal.returns-in-Some-split-clause-free
returns-in-Some-split-clause-free c =
    let parts = c.loop-place.self.parts in
    let taken = taken_below (length parts.items) c.in-Some.place c.loop-place.self.queue c.pop.new.self c.in-Some.ensures c.loop-place.invariant.queued in
    let at = slice_get_read parts.items (length parts.items) c.in-Some.place c.index.result.now refl taken.0 c.index.ensures in
    subst (λ p. IsFreeIn (cubes_of p.items) c.in-Some.place c.in-Some-split.split.position) c.loop-place.invariant.parts
    (free_at parts.items c.in-Some.place c.index.result.now c.in-Some-split.split
    (subst (λ p. All IsSplitFree p.items) (sym c.loop-place.invariant.parts) c.requires.splits) at c.in-Some-split.is)

pub returns-in-Some-split-clause-queued : goal.returns-in-Some-split-clause-queued
returns-in-Some-split-clause-queued c =
    let parts = c.loop-place.self.parts in
    let taken = taken_below (length parts.items) c.in-Some.place c.loop-place.self.queue c.pop.new.self c.in-Some.ensures c.loop-place.invariant.queued in
    subst (λ p. AreBelow (length p.items) c.pop.new.self) c.loop-place.invariant.parts taken.1

pub returns-in-Some-split-clause-waiting : goal.returns-in-Some-split-clause-waiting
returns-in-Some-split-clause-waiting c =
    taken_waits c.loop-place.self.parts.items c.in-Some.place c.loop-place.self.queue c.pop.new.self c.loop-place.invariant.waiting c.in-Some.ensures

pub loop-place-smaller : goal.loop-place-smaller
loop-place-smaller c =
    let long : suc (length (places_of c.pop.new.self)) ≡ length (places_of c.loop-place.self.queue) =
    length_permutation (places_of c.loop-place.self.queue) _ c.in-Some.ensures in
    omega (arith, long)

pub loop-place-preserved : goal.loop-place-preserved
loop-place-preserved c =
    let parts = c.loop-place.self.parts in
    let taken = taken_below (length parts.items) c.in-Some.place c.loop-place.self.queue c.pop.new.self c.in-Some.ensures c.loop-place.invariant.queued in
    let at = slice_get_read parts.items (length parts.items) c.in-Some.place c.index.result.now refl taken.0 c.index.ensures in
    record {
      parts = c.loop-place.invariant.parts;
      queued = taken.1;
      waiting = passed_waits parts.items c.in-Some.place c.index.result.now c.pop.new.self
          (taken_waits parts.items c.in-Some.place c.loop-place.self.queue c.pop.new.self c.loop-place.invariant.waiting c.in-Some.ensures) at c.in-None.is;
    }

pub returns-clause-queued : goal.returns-clause-queued
returns-clause-queued c = none_below (length c.args.self.now.parts.items) c.pop.new.self c.in_default.ensures.1

pub returns-clause-waiting : goal.returns-clause-waiting
returns-clause-waiting c = none_waits c.loop-place.self.parts.items c.loop-place.self.queue c.loop-place.invariant.waiting c.in_default.ensures.0
