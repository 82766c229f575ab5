use Rattle.std.proofs.Common.{◌≡◌, Some, refl, ◌∙◌}
use Rattle.td_circuit.specs.Numbering.{nets}
use Rattle.td_circuit.proofs.Nets.{numbers-below}
use Rattle.td_edges.specs.EdgeSignals.{edge_functions, last_of as edges_last_of}
use Rattle.td_edges.specs.Coverage.{span_reach}
use Rattle.td_domain.proofs.GreatestLemmas.{greatest_at}
use Rattle.td_domain.proofs.Soundness.{front-bound}
use Rattle.td_search.proofs.OpenEnds.{open-is-both}
use Rattle.td_search.proofs.leading.open_output.Goals as goal

pub open_end-requires : goal.open_end-requires
open_end-requires c =
    rw (c.outputs.ensures, c.signals.ensures.numbered, c.requires.sheet.page.count)
    (numbers-below (nets c.args.circuit.now) c.args.circuit.now.outputs _ c.requires.sheet.numbering.outputs)

pub returns-clause-bound : goal.returns-clause-bound
returns-clause-bound c =
    let found : greatest_at edges_last_of c.args.edges.now.signals c.args.circuit.now.outputs ≡ Some c.in_ok-bound.bound =
    c.bound.ensures.only c.args.circuit.now c.requires.sheet _
    (front-bound edge_functions (λ signal. span_reach signal.changes) c.args.circuit.now c.requires.sheet.numbering c.args.edges.now.cube c.args.edges.now.signals
    c.requires.sheet.page.count c.requires.sheet.page.front (greatest_at edges_last_of c.args.edges.now.signals c.args.circuit.now.outputs) refl) ∙ c.in_ok-bound.was in
    open-is-both edge_functions (λ signal. span_reach signal.changes) (λ signal. signal.finish) (λ first second moment. refl) (λ one. refl) (λ kind delay signals. refl)
    c.args.circuit.now c.requires.sheet.numbering c.requires.sheet.fit c.args.edges.now.cube c.requires.sheet.page.positions c.args.edges.now.signals c.requires.sheet.page.count
    c.requires.sheet.page.front c.in_ok-bound.bound found (rw (c.signals.ensures.numbered, c.outputs.ensures) at c.in_ok-output.ensures.end)

pub returns-clause-sound : goal.returns-clause-sound
returns-clause-sound c = c.bound.ensures.sound c.args.circuit.now c.requires.sheet c.in_ok-bound.bound c.in_ok-bound.was
