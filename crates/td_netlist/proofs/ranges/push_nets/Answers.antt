use Rattle.std.proofs.Common.{◌++◌, ◌<◌, ◌≤◌, List, Some, ap, map, arith}
use Rattle.std.proofs.lemmas.List.{map_push}
use Rattle.td_nets.specs.Netlist.{Name}
use Rattle.td_netlist.specs.Ranges.{width_of, nets_of}
use Rattle.td_netlist.specs.NameViews.{name_ref_of}
use Rattle.td_netlist.proofs.Bits.{at_begin, goes, ends}
use Rattle.td_netlist.proofs.ranges.push_nets.Goals as goal

pub loop-place-init : goal.loop-place-init
loop-place-init c = ap (λ (xs : List Name). map name_ref_of c.args.nets.now.items ++ xs) (at_begin c.args.text.now c.in-Some.range)

pub loop-place-preserved : goal.loop-place-preserved
loop-place-preserved c =
    let r = c.in-Some.range in
    let text = c.args.text.now in
    let front = map name_ref_of c.loop-place.nets.items in
    let total = map name_ref_of c.args.nets.now.items ++ nets_of text (Some r) in
    let lt : c.loop-place.place < width_of (Some r) = omega (arith, c.loop-place-test.true, c.width_of-place-end.ensures) in
    let pushed = map_push name_ref_of c.loop-place.nets.items (record { text = c.args.text; bit = Some c.bit_at.result }) in
    rw (c.in_ok-push-2.ensures.items, pushed, c.bit_at.ensures) (goes text r c.loop-place.place front total lt c.loop-place.invariant)

pub returns : goal.returns
returns c =
    let r = c.in-Some.range in
    let front = map name_ref_of c.loop-place.nets.items in
    let total = map name_ref_of c.args.nets.now.items ++ nets_of c.args.text.now (Some r) in
    let le : width_of (Some r) ≤ c.loop-place.place = omega (arith, c.loop-place-test.false, c.width_of-place-end.ensures) in
    rw c.in-Some.is (ends c.args.text.now r c.loop-place.place front total le c.loop-place.invariant)
