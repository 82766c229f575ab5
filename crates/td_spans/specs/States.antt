-- States: what a refutation by spans has.
use Rattle.std.specs.Prelude.{ℕ, List}
use Rattle.td_propagation.specs.declared.literal.Literal.{Literal}
use Rattle.td_spans.specs.Hints.{clauses_of, variables_of}
use Rattle.td_spans.specs.declared.spans.Spans.{Spans}
use Rattle.td_spans.specs.declared.times.Times.{Times}
use Rattle.td_spans.specs.declared.variable.Variable.{Variable}

-- the variables
abbrev pub variables_in : Spans → List Variable
variables_in spans = spans.variables

-- the times of all nets
abbrev pub times_in : Spans → List Times
times_in spans = spans.times.items

-- the clauses, in order
abbrev pub clauses_in : Spans → List (List Literal)
clauses_in spans = clauses_of spans.clauses

-- how many variables hints may mark
abbrev pub count_in : Spans → ℕ
count_in spans = variables_of spans.clauses
