-- What has gone out of a dump, part by part.
use Rattle.std.proofs.Common.{◌≡◌, ℕ, List, ◌++◌, length, refl, sym, ap, ◌∙◌}
use Rattle.std.specs.Prelude.{codes}
use Rattle.td_gates.specs.Wave.{Wave}
use Rattle.td_nets.specs.Netlist.{Name, Netlist}
use Rattle.td_circuit.specs.Numbering.{Numbered, nets, IsNumbering}
use Rattle.td_circuit.specs.NetValues.{net_wave}
use Rattle.td_run.specs.Runs.{NetWaves}
use Rattle.td_run.specs.Waves.{waves_of}
use Rattle.td_vcd.specs.declared.events.Event.{Event}
use Rattle.td_vcd.specs.Text.{Line, numeral, text_of, dump_head, numbered, declaration, start_line, dump_begins, events_from, change_lines, named_dump, variable_waves}
use Rattle.td_vcd.specs.Chosen.{names_of}
use Rattle.td_vcd.specs.Walks.{AreVariables, lines_from, begins_text, body_text}
use Rattle.td_vcd.specs.Writes.{dump_of}
use Rattle.td_vcd.proofs.Nets.{names_are, waves_are}
use Rattle.td_vcd.proofs.Steps.{dump_parts}

begins_is : text_of dump_begins ≡ begins_text
unfolding numeral
begins_is = refl

-- the dump of variables with these names and waves
text_is : (netlist : Netlist) (names : List Name) (waves : List Wave) (events : List Event)
    → lines_from 0 events ≡ change_lines (events_from 0 waves)
    → named_dump netlist names waves ≡ text_of (dump_head netlist) ++ body_text names waves events
text_is netlist names waves events lines =
    let head : List ℕ = text_of (dump_head netlist) in
    let declared : List ℕ = text_of (numbered declaration 0 names) in
    let starts : List ℕ = text_of (numbered start_line 0 waves) in
    dump_parts netlist names waves
    ∙ ap (λ (t : List ℕ). head ++ (declared ++ (t ++ (starts ++ (codes "$end\n" ++ text_of (change_lines (events_from 0 waves))))))) begins_is
    ∙ ap (λ (ls : List Line). head ++ (declared ++ (begins_text ++ (starts ++ (codes "$end\n" ++ text_of ls))))) (sym lines)

-- the same, by slices
pub whole_is : (netlist : Netlist) (names : List Name) (waves : List Wave) (events those : List Event) (head : List ℕ) → those ≡ events
    → lines_from 0 events ≡ change_lines (events_from 0 waves) → head ≡ text_of (dump_head netlist)
    → head ++ body_text names waves those ≡ named_dump netlist names waves
whole_is netlist names waves events those head again lines is =
    ap (λ (t : List ℕ). t ++ body_text names waves those) is
    ∙ ap (λ (es : List Event). text_of (dump_head netlist) ++ body_text names waves es) again
    ∙ sym (text_is netlist names waves events lines)

-- the dump of a circuit's run
pub run_is : (circuit : Numbered) (run : NetWaves) (numbers these : List ℕ) (waves : List Wave) → IsNumbering circuit → AreVariables circuit numbers
    → length run.waves ≡ length (nets circuit) → these ≡ numbers → waves ≡ waves_of run.waves these
    → named_dump circuit.netlist (names_of circuit these) waves ≡ dump_of circuit run
run_is circuit run numbers these waves numbering are long same is =
    ap (λ (ws : List Wave). named_dump circuit.netlist (names_of circuit these) ws)
    (is ∙ ap (λ (ns : List ℕ). waves_of run.waves ns) same ∙ sym (waves_are circuit numbers run.waves numbering are long))
    ∙ ap (λ (names : List Name). named_dump circuit.netlist names (variable_waves circuit.netlist (net_wave (nets circuit) run.waves)))
    (ap (λ (ns : List ℕ). names_of circuit ns) same ∙ names_are circuit numbers are)
