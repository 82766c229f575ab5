use Rattle.td_command.proofs.options.reading.Goals as goal

pub returns-in_default : goal.returns-in_default
returns-in_default c = λ asked has. c.in_default.ensures _ has.default

pub returns : goal.returns
returns c = record { default = c.in-Some.ensures; outputs = c.in_ok-outputs.ensures }
