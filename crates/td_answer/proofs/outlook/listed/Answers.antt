use Rattle.std.proofs.Common.{◌<◌, length, get_or, refl, arith}
use Rattle.td_gates.proofs.Places.{get-slice_get}
use Rattle.td_circuit.specs.Numbering.{setting}
use Rattle.td_source.specs.Each.{alone}
use Rattle.td_answer.specs.Outlooks.{IsTrueOutlook}
use Rattle.td_answer.proofs.OutputNets.{output_at}
use Rattle.td_answer.proofs.Outlooks.{true_outlook, pins_long, wave_within, sampled}
use Rattle.td_answer.proofs.Zips.{zip_next}
use Rattle.td_answer.proofs.outlook.listed.Goals as goal

pub outlook_at-outlook-requires-clause-net : goal.outlook_at-outlook-requires-clause-net
outlook_at-outlook-requires-clause-net c =
    let circuit = c.args.circuit.now in
    let within : c.loop-net.net-index < length circuit.outputs = rw c.outputs-net-items.ensures at c.loop-net-test.true in
    let out = output_at circuit c.gates-gates.ensures.numbering c.loop-net.net-index within in
    rw c.outputs-net-items.ensures (omega (arith, c.requires.all, out.within))

pub outlook_at-outlook-requires-clause-run : goal.outlook_at-outlook-requires-clause-run
outlook_at-outlook-requires-clause-run c =
    let circuit = c.args.circuit.now in
    let within : c.loop-net.net-index < length circuit.outputs = rw c.outputs-net-items.ensures at c.loop-net-test.true in
    let out = output_at circuit c.gates-gates.ensures.numbering c.loop-net.net-index within in
    rw c.outputs-net-items.ensures (wave_within circuit c.args.admit.now c.args.sample.now (get_or circuit.outputs c.loop-net.net-index 0) c.requires.sample out.within)

pub loop-net-preserved : goal.loop-net-preserved
loop-net-preserved c =
    let circuit = c.args.circuit.now in
    let admit = c.args.admit.now in
    let numbering = c.gates-gates.ensures.numbering in
    let i = c.loop-net.net-index in
    let within : i < length circuit.outputs = rw c.outputs-net-items.ensures at c.loop-net-test.true in
    let out = output_at circuit numbering i within in
    let number = get_or circuit.outputs i 0 in
    let stands = get-slice_get circuit.outputs i 0 number within refl in
    let shown = rw c.outputs-net-items.ensures at c.outlook_at-outlook.ensures in
    let is = true_outlook circuit numbering i out.name number out.at stands c.moments-moments.ensures.fit admit
    (pins_long admit.pins admit.held c.pins-pins.ensures.fit c.requires.held) c.args.signals.now c.requires.all c.requires.front
    c.args.sample.now (sampled circuit admit c.args.sample.now c.requires.sample) shown.signal shown.at c.outlook_at-outlook.result shown.edges shown.low shown.pair in
    rw c.in_ok-push.ensures.items
    (zip_next (λ output. IsTrueOutlook (alone (setting circuit) output) admit) circuit.netlist.outputs c.loop-net.outlooks.items i out.name c.outlook_at-outlook.result out.at
    c.loop-net.invariant is)
