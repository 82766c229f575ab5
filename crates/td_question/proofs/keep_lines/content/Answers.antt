use Rattle.std.proofs.Common.{◌∙◌, refl, ap}
use Rattle.std.proofs.lemmas.Str.Ascii.{trim_ascii_is}
use Rattle.td_question.specs.KeepLines.{trimmed}
use Rattle.td_question.proofs.keep_lines.content.Goals as goal

pub returns : goal.returns
returns c = trim_ascii_is _ _ _ refl c.trim_ascii.ensures.value ∙ ap trimmed c.comment_start.ensures.front
