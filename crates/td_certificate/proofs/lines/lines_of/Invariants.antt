use Rattle.std.proofs.Common.{◌≡◌, take}
use Rattle.std.specs.List.{AllByRecursion}
use Rattle.std.specs.Prelude.{map, string_bytes}
use Rattle.td_refutation.specs.Whole.{step_of}
use Rattle.td_certificate.specs.Steps.{steps_text, IsStep}
use Rattle.td_certificate.proofs.lines.lines_of.Given as goal

abbrev pub invariant-loop-step : goal.invariant-loop-step
invariant-loop-step l =
    (string_bytes l.text ≡ steps_text (map step_of (take l.step-index l.steps))) × AllByRecursion IsStep (map step_of (take l.step-index l.steps))
