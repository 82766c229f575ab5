use Rattle.std.proofs.Common.{rules, ◌≡◌, OnOk, subst}
use Rattle.clap.specs.Words.{Rule, rule_of}
use Rattle.td_command.specs.CommandLine.{nets_rule}
use Rattle.td_command.specs.Telling.{TellsRule}
use Rattle.td_command.proofs.arguments.Arguments.nets.Goals as goal

pub returns : goal.returns
returns c =
    let is : rule_of c.action.result ≡ nets_rule = search rules in
    subst (λ (rule : Rule). OnOk c.add.result (TellsRule rule c.args.self.now c.add.new.self)) is c.add.ensures
