use Rattle.std.proofs.Common.{ℕ, Bool, subst}
use Rattle.std.specs.Prelude.{IsTrue, ◌↔◌, not}
use Rattle.td_circuit.specs.Views.{gate_of}
use Rattle.td_spans.specs.Targets.{steps_to}
use Rattle.td_spans.specs.Clauses.{IsSureOf}
use Rattle.td_spans.proofs.Tellings.{known_pieces, sorted_few}
use Rattle.td_spans.proofs.long_clauses.is_sure_by_pieces.Goals as goal

pub counts_pieces-requires : goal.counts_pieces-requires
counts_pieces-requires c =
    sorted_few c.args.gate.now.inputs.items c.in_ok-nets.nets.items c.deref-3.result.now (rw c.deref.ensures.value at c.in_ok-nets.ensures) c.deref-3.ensures.value c.requires.few

pub returns : goal.returns
returns c =
    subst (λ (known : ℕ → Bool). IsTrue c.is_sure_in.result ↔ IsSureOf known (steps_to c.args.gate.now.delay c.args.saying.level) (steps_to c.args.gate.now.delay (not c.args.saying.level)) c.args.saying)
    (known_pieces c.args.variables.now c.args.times.now (gate_of c.args.gate.now) c.args.body.now c.args.saying.level c.in_ok-said.said.items c.in_ok-nets.nets.items c.in_ok-pieces.pieces.items c.requires.takes
    c.in_ok-said.ensures (rw c.deref.ensures.value at c.in_ok-nets.ensures)
    (rw (c.deref-2.ensures.value, c.deref-3.ensures.value) at c.in_ok-pieces.ensures))
    (rw c.deref-4.ensures.value at c.is_sure_in.ensures)
