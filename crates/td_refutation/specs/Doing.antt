-- Doing: which lines are good, and what they lead to.
use Rattle.std.specs.Prelude.{◌≡◌, ◌<◌, Bool, true, false, List, [], ◌∷◌, ◌++◌, length, Result, Ok, Err}
use Rattle.td_circuit.specs.Numbering.{Numbered}
use Rattle.td_domain.specs.declared.cubes.Trit.{Trit}
use Rattle.td_propagation.specs.declared.literal.Literal.{Literal}
use Rattle.td_propagation.specs.declared.clauses.Outcome.TheVariants.{Shown}
use Rattle.td_spans.specs.declared.fault.Fault as span_fault
use Rattle.td_spans.specs.declared.fault.Fault.TheVariants as span
use Rattle.td_spans.specs.declared.times.Times.{Times}
use Rattle.td_spans.specs.declared.variable.Variable.{Variable}
use Rattle.td_spans.specs.Conditions.{Asked}
use Rattle.td_spans.specs.Hints.{shown_at}
use Rattle.td_spans.specs.Lookups.{IsDriven, driver}
use Rattle.td_spans.specs.Lowering.{lower, are_at_rest, again}
use Rattle.td_spans.specs.Named.{has_variables, IsNamed}
use Rattle.td_spans.specs.Signals.{first_times}
use Rattle.td_spans.specs.States.{variables_in, times_in, clauses_in}
use Rattle.td_refutation.specs.declared.flaw.Flaw.{Flaw}
use Rattle.td_refutation.specs.declared.flaw.Flaw.TheVariants.{WrongNumbers, LateVariable, NotGood}
use Rattle.td_refutation.specs.declared.flaw.StepError.{StepError}
use Rattle.td_refutation.specs.declared.flaw.StepError.TheVariants as error
use Rattle.td_refutation.specs.declared.refutation.Refutation.{Refutation}
use Rattle.td_refutation.specs.Lines.{Deed, NoDeed, Having, Naming, Showing, Lowering, Retaking, Step, deed_of}

abbrev pub error_of : span_fault.Fault → StepError
error_of span.OutOfMemory = error.OutOfMemory
error_of span.NotGood = error.Flaw NotGood

-- What lines have led to: the variables, whether a step was done, the times of all nets, and the
-- clauses.
pub record State : Type 0 where
  pub variables : List Variable
  pub begun : Bool
  pub times : List Times
  pub clauses : List (List Literal)

abbrev pub state_of : Refutation → State
state_of refutation = record {
  variables = variables_in refutation.spans;
  begun = refutation.begun;
  times = times_in refutation.spans;
  clauses = clauses_in refutation.spans;
}

-- the state before all lines
abbrev pub first_state : Numbered → Asked → List Trit → State
first_state circuit asked cube = record { variables = []; begun = false; times = first_times circuit asked.admit cube; clauses = [] }

-- whether what a line says holds
abbrev pub IsGood : Numbered → Asked → List Trit → State → Deed → Type 0
IsGood circuit asked cube state NoDeed = ⊥
IsGood circuit asked cube state (Having new) = state.begun ≡ false
IsGood circuit asked cube state (Naming why clause) = IsNamed circuit asked cube state.variables state.times why clause
IsGood circuit asked cube state (Showing clause hints) =
    (has_variables state.variables clause ≡ true) × (shown_at state.clauses (length state.variables) clause hints ≡ Shown)
IsGood circuit asked cube state (Lowering net level place clause hints) =
    (net < length state.times) × (are_at_rest state.variables net level place clause ≡ true)
    × (shown_at state.clauses (length state.variables) clause hints ≡ Shown)
IsGood circuit asked cube state (Retaking net) = IsDriven circuit net × (net < length state.times)

abbrev pub with_variable : State → Variable → State
with_variable state new = record { variables = state.variables ++ new ∷ []; begun = state.begun; times = state.times; clauses = state.clauses }

abbrev pub with_clause : State → List Literal → State
with_clause state clause = record { variables = state.variables; begun = true; times = state.times; clauses = state.clauses ++ clause ∷ [] }

abbrev pub with_times : State → List Times → State
with_times state times = record { variables = state.variables; begun = true; times = times; clauses = state.clauses }

-- the state after a good line
abbrev pub after : Numbered → State → Deed → State
after circuit state NoDeed = state
after circuit state (Having new) = with_variable state new
after circuit state (Naming why clause) = with_clause state clause
after circuit state (Showing clause hints) = with_clause state clause
after circuit state (Lowering net level place clause hints) = with_times state (lower state.times net level place)
after circuit state (Retaking net) = with_times state (again state.times net (driver circuit net))

-- why a line isn't good
abbrev pub flaw_of : Deed → Flaw
flaw_of NoDeed = WrongNumbers
flaw_of (Having new) = LateVariable
flaw_of deed = NotGood

-- The line isn't good, and this is why; nothing is said where memory ran out.
abbrev pub IsRefused : Numbered → Asked → List Trit → State → Deed → StepError → Type 0
IsRefused circuit asked cube state deed error.OutOfMemory = Unit {0}
IsRefused circuit asked cube state deed (error.Flaw flaw) = (IsGood circuit asked cube state deed → ⊥) × (flaw ≡ flaw_of deed)

-- What a line did: it is good and was done, or it was refused and changed nothing.
abbrev pub IsDone : Numbered → Asked → List Trit → State → State → Deed → Result (Unit {0}) StepError → Type 0
IsDone circuit asked cube old new deed (Ok unit) = IsGood circuit asked cube old deed × (new ≡ after circuit old deed)
IsDone circuit asked cube old new deed (Err why) = IsRefused circuit asked cube old deed why × (new ≡ old)

-- ---- lines

-- each line is good where those before it were done
abbrev pub AreGood : Numbered → Asked → List Trit → State → List Step → Type 0
AreGood circuit asked cube state [] = Unit {0}
AreGood circuit asked cube state (step ∷ steps) = IsGood circuit asked cube state (deed_of circuit step.kind step.numbers)
    × AreGood circuit asked cube (after circuit state (deed_of circuit step.kind step.numbers)) steps

-- the state after good lines
abbrev pub state_to : Numbered → State → List Step → State
state_to circuit state [] = state
state_to circuit state (step ∷ steps) = state_to circuit (after circuit state (deed_of circuit step.kind step.numbers)) steps
