use Rattle.std.proofs.Common.{◌<◌, ◌^◌, refl, arith}
use Rattle.td_circuit.specs.Numbering.{setting}
use Rattle.td_worst.specs.Leaves.{leaf_of}
use Rattle.td_worst.proofs.KeptLeaves.{if_some, steps_certified, edges_certified, search_certified}
use Rattle.td_worst.proofs.evidence.tree_of_high.Goals as goal

pub returns-in-Some : goal.returns-in-Some
returns-in-Some c =
    let small : c.args.high < 10 ^ 15 = omega (arith, c.if-high-ge-MOMENTS.false) in
    search_certified (setting c.args.question.circuit.now) c.args.question.admit.now c.args.question.keep.now
    (record {
      sizes = record {
        inputs = c.gates-gates.ensures.numbering.well_formed.few_inputs;
        gates = c.gates-gates.ensures.numbering.well_formed.few_gates;
        held = c.requires.held;
        pins = c.pins-pins.ensures.fit;
        moments = c.moments-moments.ensures.fit;
      };
      helds = c.requires.held;
      fit = c.requires.fit;
    })
    c.args.best.now c.args.high c.requires.ordered small c.requires.timed (c.if-not-are_told.ensures.told refl) (c.if-not-are_told.ensures.few refl) c.in-Some.tree
    (rw c.in-Some.is at c.tree_within.ensures (setting c.args.question.circuit.now) c.args.question.admit.now c.requires.shown.tree)

pub returns-in-Some-tree_by_edges : goal.returns-in-Some-tree_by_edges
returns-in-Some-tree_by_edges c =
    let small : c.args.high < 10 ^ 15 = omega (arith, c.if-high-ge-MOMENTS.false) in
    let is = rw (c.in-Some-tree_by_edges.is, c.pins-pins.ensures.pins) at c.tree_by_edges.ensures in
    edges_certified (setting c.args.question.circuit.now) c.args.question.admit.now c.args.question.keep.now
    (record {
      sizes = record {
        inputs = c.gates-gates.ensures.numbering.well_formed.few_inputs;
        gates = c.gates-gates.ensures.numbering.well_formed.few_gates;
        held = c.requires.held;
        pins = c.pins-pins.ensures.fit;
        moments = c.moments-moments.ensures.fit;
      };
      helds = c.requires.held;
      fit = c.requires.fit;
    })
    c.args.best.now c.args.high c.requires.ordered small c.requires.timed
    is.0 is.2 is.3 (c.if-not-are_told.ensures.told refl) (c.if-not-are_told.ensures.few refl) c.in-Some-tree_by_edges.tree is.1

pub returns : goal.returns
returns c =
    let small : c.args.high < 10 ^ 15 = omega (arith, c.if-high-ge-MOMENTS.false) in
    if_some _ _ (λ tree is.
    steps_certified (setting c.args.question.circuit.now) c.args.question.admit.now c.args.question.keep.now
    (record {
      sizes = record {
        inputs = c.gates-gates.ensures.numbering.well_formed.few_inputs;
        gates = c.gates-gates.ensures.numbering.well_formed.few_gates;
        held = c.requires.held;
        pins = c.pins-pins.ensures.fit;
        moments = c.moments-moments.ensures.fit;
      };
      helds = c.requires.held;
      fit = c.requires.fit;
    })
    c.args.best.now c.args.high c.requires.ordered small c.requires.timed (leaf_of is.0) is.0.bound refl is.2 (rw is.1 at c.requires.shown.steps).steps tree is.3)
    c.tree_by_steps.result c.tree_by_steps.ensures
