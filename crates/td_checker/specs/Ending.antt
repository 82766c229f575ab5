-- Internal: what is found at the end of a leaf whose steps are good.
use Rattle.std.specs.Prelude.{ℕ, ◌+◌, nat_lt, Bool, true, false, Option, Some, None, if◌then◌else◌}
use Rattle.td_circuit.specs.Numbering.{Numbered}
use Rattle.td_spans.specs.Endings.{ends_empty}
use Rattle.td_spans.specs.Lowering.{latest_of}
use Rattle.td_refutation.specs.Doing.{State}
use Rattle.td_checker.specs.declared.judging.Flaw.TheVariants as code
use Rattle.td_checker.specs.declared.judging.Judged.{Judged}
use Rattle.td_checker.specs.declared.judging.Judged.TheVariants as judged

-- where the steps are to show a bound, and this is the latest moment at which an output may change
abbrev pub found_at : Option ℕ → ℕ → ℕ → ℕ → Judged
found_at None bound latest count = judged.Bad code.NotEmpty (1 + count)
found_at (Some most) bound latest count =
    if nat_lt bound latest then judged.Bad code.WrongNumber (1 + count) else (
    if nat_lt most bound then judged.Bad code.AboveTime (1 + count) else judged.Good (2 + count))

-- where this says whether the last clause is empty
abbrev pub found_by : Option ℕ → Option ℕ → Bool → ℕ → ℕ → Judged
found_by most None true latest count = judged.Good (2 + count)
found_by most None false latest count = judged.Bad code.NotEmpty (1 + count)
found_by most (Some bound) empty latest count = found_at most bound latest count

abbrev pub found_after : Numbered → Option ℕ → Option ℕ → State → ℕ → Judged
found_after circuit most bound state count = found_by most bound (ends_empty state.clauses) (latest_of state.times circuit.outputs) count
