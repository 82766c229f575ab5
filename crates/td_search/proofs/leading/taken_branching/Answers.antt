use Rattle.std.proofs.Common.{◌∙◌, sym}
use Rattle.td_search.proofs.leading.taken_branching.Goals as goal

pub returns-in-Some-clause-taken : goal.returns-in-Some-clause-taken
returns-in-Some-clause-taken c = c.requires.branching c.in-Some.there (sym c.replace.ensures.value ∙ c.in-Some.is)
