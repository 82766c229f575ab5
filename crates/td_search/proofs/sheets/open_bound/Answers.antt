use Rattle.std.proofs.Common.{◌≡◌, Some, refl, ◌∙◌}
use Rattle.td_circuit.specs.Numbering.{nets}
use Rattle.td_circuit.proofs.Nets.{numbers-below}
use Rattle.td_arrival.specs.Arrivals.{arrival_functions, last_of as arrival_last_of}
use Rattle.td_arrival.specs.Coverage.{span_reach}
use Rattle.td_domain.proofs.GreatestLemmas.{greatest_at}
use Rattle.td_domain.proofs.Soundness.{front-bound}
use Rattle.td_search.proofs.OpenEnds.{open-is-both}
use Rattle.td_search.proofs.sheets.open_bound.Goals as goal

pub has_open_end-requires : goal.has_open_end-requires
has_open_end-requires c =
    rw (c.outputs.ensures, c.signals.ensures.numbered, c.requires.sheet.page.count)
    (numbers-below (nets c.args.circuit.now) c.args.circuit.now.outputs _ c.requires.sheet.numbering.outputs)

pub returns-then-has_open_end-clause-bound : goal.returns-then-has_open_end-clause-bound
returns-then-has_open_end-clause-bound c =
    let found : greatest_at arrival_last_of c.args.arrival.now.signals c.args.circuit.now.outputs ≡ Some c.in_ok-bound.bound =
    c.bound.ensures.only c.args.circuit.now c.requires.sheet _
    (front-bound arrival_functions (λ signal. span_reach signal.changes) c.args.circuit.now c.requires.sheet.numbering c.args.arrival.now.cube c.args.arrival.now.signals
    c.requires.sheet.page.count c.requires.sheet.page.front (greatest_at arrival_last_of c.args.arrival.now.signals c.args.circuit.now.outputs) refl) ∙ c.in_ok-bound.was in
    open-is-both arrival_functions (λ signal. span_reach signal.changes) (λ signal. signal.finish) (λ first second moment. refl) (λ one. refl) (λ kind delay signals. refl)
    c.args.circuit.now c.requires.sheet.numbering c.requires.sheet.fit c.args.arrival.now.cube c.requires.sheet.page.positions c.args.arrival.now.signals c.requires.sheet.page.count
    c.requires.sheet.page.front c.in_ok-bound.bound found (rw (c.signals.ensures.numbered, c.outputs.ensures) at (c.if-has_open_end.ensures refl))

pub returns-then-has_open_end-clause-sound : goal.returns-then-has_open_end-clause-sound
returns-then-has_open_end-clause-sound c = c.bound.ensures.sound c.args.circuit.now c.requires.sheet c.in_ok-bound.bound c.in_ok-bound.was
