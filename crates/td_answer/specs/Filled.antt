-- Commands whose questions have the text of their file of conditions.
use Rattle.std.specs.Prelude.{ℕ, List, Option}
use Rattle.std.specs.Borrow.{Bor}
use Rattle.td_request.specs.declared.question.Question.{Question}
use Rattle.td_request.specs.declared.request.Command.{Command}
use Rattle.td_request.specs.declared.request.Command.TheVariants as command
use Rattle.td_request.specs.declared.request.Join.{Join}
use Rattle.td_request.specs.declared.request.Parts.{Parts}
use Rattle.td_request.specs.declared.request.Search.{Search}

-- a question with the text of its file of conditions
abbrev pub with_text : Option (Bor (List ℕ)) → Question → Question
with_text text question = record question { keep_text = text }

abbrev pub filled_search : Option (Bor (List ℕ)) → Search → Search
filled_search text search = record search { question = with_text text search.question }

abbrev pub filled_parts : Option (Bor (List ℕ)) → Parts → Parts
filled_parts text asked = record asked { question = with_text text asked.question }

abbrev pub filled_join : Option (Bor (List ℕ)) → Join → Join
filled_join text asked = record asked { question = with_text text asked.question }

-- a command whose question, where it has one, has the text of its file of conditions
abbrev pub filled : Option (Bor (List ℕ)) → Command → Command
filled text (command.Worst search) = command.Worst (filled_search text search)
filled text (command.Parts asked) = command.Parts (filled_parts text asked)
filled text (command.Join asked) = command.Join (filled_join text asked)
filled text other = other
