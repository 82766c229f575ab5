use Rattle.td_nets.specs.Views.{name_of}
use Rattle.td_source.proofs.Asked.{chosen_at, name_next, nets_more}
use Rattle.td_source.proofs.asking.choose.Goals as goal

pub name-requires-clause-constant : goal.name-requires-clause-constant
name-requires-clause-constant c =
    (chosen_at c.args.circuit.now c.gates-gates.ensures.numbering c.args.numbers.now c.loop-number.number-index c.outputs-outputs.result.now c.net_at-net.result
    c.requires c.loop-number-test.true c.outputs-outputs.ensures c.net_at-net.ensures).no_constant

pub name-requires-clause-net : goal.name-requires-clause-net
name-requires-clause-net c =
    (chosen_at c.args.circuit.now c.gates-gates.ensures.numbering c.args.numbers.now c.loop-number.number-index c.outputs-outputs.result.now c.net_at-net.result
    c.requires c.loop-number-test.true c.outputs-outputs.ensures c.net_at-net.ensures).below

pub loop-number-preserved : goal.loop-number-preserved
loop-number-preserved c =
    let chosen = chosen_at c.args.circuit.now c.gates-gates.ensures.numbering c.args.numbers.now c.loop-number.number-index c.outputs-outputs.result.now
    c.net_at-net.result c.requires c.loop-number-test.true c.outputs-outputs.ensures c.net_at-net.ensures in (
      name_next c.args.circuit.now c.gates-gates.ensures.numbering c.args.numbers.now c.loop-number.number-index c.net_at-net.result chosen c.loop-number.names.items
          c.push.new.self.items c.in_ok-name.name (name_of c.name.result.now) c.name.ensures c.in_ok-name.ensures c.in_ok-push.ensures.items c.loop-number.invariant.0,
      nets_more c.args.circuit.now c.args.numbers.now c.loop-number.number-index _ c.loop-number.nets.items c.push-in-loop-number.new.self.items c.net_at-net.result
          chosen.at chosen.is c.in_ok-push-2.ensures.items c.loop-number.invariant.1,
    )
