-- Reports of runs, line by line.
use Rattle.std.proofs.Common.{◌≡◌, ◌∙◌, ℕ, Bool, List, [], ◌∷◌, ◌++◌, map, ap, subst, append_assoc}
use Rattle.td_gates.specs.Wave.{Wave}
use Rattle.td_nets.specs.Netlist.{Net, Named, Netlist}
use Rattle.td_circuit.specs.Run.{latest_change}
use Rattle.td_lines.specs.declared.line.Last.{Last}
use Rattle.td_lines.specs.declared.line.Line.{Line}
use Rattle.td_lines.specs.declared.line.Line.TheVariants as line
use Rattle.td_answer.specs.Heads.{head_lines}
use Rattle.td_answer.specs.Runs.{last_of, AreLasts, TellsLast}
use Rattle.td_answer.specs.Additions.{AddsLines}
use Rattle.td_answer.specs.Simulations.{IsRunReport}

pub run_report : (outputs : Bool) (netlist : Netlist) (waves : Net → Wave) (rows : List Last) (time : ℕ) (one two three four : List Line)
    → one ≡ head_lines netlist → AddsLines (AreLasts rows) one two → rows ≡ map (last_of waves) netlist.outputs
    → three ≡ two ++ line.Time time ∷ [] → time ≡ latest_change (map (λ name. waves (Named name)) netlist.outputs)
    → AddsLines (TellsLast outputs netlist waves) three four → IsRunReport outputs netlist waves four
run_report outputs netlist waves rows time one two three four is_one lasts are is_three latest named = record {
  lasts = lasts.0;
  are_lasts = subst (λ (rs : List Last). AreLasts rs lasts.0) are lasts.2;
  named = named.0;
  tells = named.2;
  is = named.1
      ∙ ap (λ (lines : List Line). lines ++ named.0)
      (is_three ∙ ap (λ (lines : List Line). lines ++ line.Time time ∷ []) (lasts.1 ∙ ap (λ (lines : List Line). lines ++ lasts.0) is_one))
      ∙ append_assoc (head_lines netlist ++ lasts.0) (line.Time time ∷ []) named.0
      ∙ ap (λ (t : ℕ). head_lines netlist ++ lasts.0 ++ line.Time t ∷ named.0) latest;
}
