use Rattle.td_command.proofs.options.whole_reading.Goals as goal

pub returns-in_err-default : goal.returns-in_err-default
returns-in_err-default c = rw c.from_residual.ensures (λ asked has. c.in_err-default.ensures _ has.default)

pub returns : goal.returns
returns c = record {
  default = rw c.whole.ensures.default c.in_ok-default.ensures;
  outputs = c.whole.ensures.outputs;
}
