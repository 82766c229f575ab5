use Rattle.std.proofs.Common.{◌∙◌, Some, ap, sym}
use Rattle.clap.specs.Words.{found_of}
use Rattle.clap.specs.declared.parser.matches.ValueSource.{ValueSource}
use Rattle.td_command.specs.CommandLine.{is_of_words}
use Rattle.td_command.proofs.Sources.{source_is}
use Rattle.td_command.proofs.options.is_told.Goals as goal

pub returns-in-Some-CommandLine : goal.returns-in-Some-CommandLine
returns-in-Some-CommandLine c =
    sym (ap (λ (source : ValueSource). is_of_words (Some source)) c.in-Some-CommandLine.field-0-is)
    ∙ ap is_of_words (sym c.in-Some-CommandLine.is ∙ c.value_source.ensures ∙ source_is (found_of c.args.matches.now) c.args.id.now)

pub returns-in-Some-DefaultValue : goal.returns-in-Some-DefaultValue
returns-in-Some-DefaultValue c =
    sym (ap (λ (source : ValueSource). is_of_words (Some source)) c.in-Some-DefaultValue.field-0-is)
    ∙ ap is_of_words (sym c.in-Some-DefaultValue.is ∙ c.value_source.ensures ∙ source_is (found_of c.args.matches.now) c.args.id.now)

pub returns-in-None : goal.returns-in-None
returns-in-None c = ap is_of_words (sym c.in-None.is ∙ c.value_source.ensures ∙ source_is (found_of c.args.matches.now) c.args.id.now)
