use Rattle.clap.specs.Words.{found_of, rows_of}
use Rattle.td_command.specs.CommandLine.{behind}
use Rattle.td_command.specs.Saying.{strategy_word}
use Rattle.td_command.proofs.Choices.{no_strategy}
use Rattle.td_command.proofs.requests.strategy.Goals as goal

pub returns-in_err-name : goal.returns-in_err-name
returns-in_err-name c = rw c.from_residual.ensures (λ asked has. c.in_err-name.ensures (behind (strategy_word asked)) has)

pub returns-in_default : goal.returns-in_default
returns-in_default c = no_strategy (rows_of (found_of c.args.matches.now)) _ c.in_ok-name.ensures
    c.in_default.not-least c.in_default.not-lead c.in_default.not-refute c.in_default.not-auto
