use Rattle.td_command.proofs.CommandLines.{only_bound}
use Rattle.td_command.proofs.requests.bound.Goals as goal

pub returns-in_err-edges : goal.returns-in_err-edges
returns-in_err-edges c = rw c.from_residual.ensures (only_bound (λ asked has. c.in_err-edges.ensures _ has.edges))

pub returns-in_err-outputs : goal.returns-in_err-outputs
returns-in_err-outputs c = rw c.from_residual-in_err-outputs.ensures (only_bound (λ asked has. c.in_err-outputs.ensures _ has.outputs))

pub returns-in_err-earliest : goal.returns-in_err-earliest
returns-in_err-earliest c = rw c.from_residual-in_err-earliest.ensures (only_bound (λ asked has. c.in_err-earliest.ensures _ has.earliest))

pub returns-in_err-flips : goal.returns-in_err-flips
returns-in_err-flips c = rw c.from_residual-in_err-flips.ensures (only_bound (λ asked has. c.in_err-flips.ensures _ has.flips))

pub returns-in_err-required : goal.returns-in_err-required
returns-in_err-required c = rw c.from_residual-in_err-required.ensures (only_bound (λ asked has. c.in_err-required.ensures _ has.required))
