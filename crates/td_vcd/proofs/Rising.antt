-- The numbers of a dump rise.
use Rattle.std.proofs.Common.{◌≡◌, ℕ, suc, List, [], ◌∷◌, ◌++◌, map, refl, arith, sym, ap, ◌∙◌, subst}
use Rattle.std.specs.List.{flat_map}
use Rattle.td_gates.specs.Wave.{Wave}
use Rattle.td_nets.specs.Netlist.{Name, Netlist}
use Rattle.td_run.proofs.Sampling.{IsIncreasingFrom}
use Rattle.td_vcd.specs.declared.events.Event.{Event}
use Rattle.td_vcd.specs.Text.{Line, numbered, start_line, declaration, events_from, events_at, event_line, moment_of, moment_lines, rising, change_lines, dump_lines, dump_head, dump_begins, dump_ends}
use Rattle.td_vcd.specs.Says.{numbers, AreRisingFrom}
use Rattle.td_vcd.proofs.Moments.{rising-increasing}
use Rattle.td_vcd.proofs.Steps.{regroup}

declarations_none : (j : ℕ) (names : List Name) (later : List Line) → numbers (numbered declaration j names ++ later) ≡ numbers later
declarations_none j [] later = refl
declarations_none j (name ∷ names) later = declarations_none (suc j) names later

starts_none : (j : ℕ) (waves : List Wave) (later : List Line) → numbers (numbered start_line j waves ++ later) ≡ numbers later
starts_none j [] later = refl
starts_none j (wave ∷ waves) later = starts_none (suc j) waves later

events_none : (events : List Event) (later : List Line) → numbers (map event_line events ++ later) ≡ numbers later
events_none [] later = refl
events_none (event ∷ events) later = events_none events later

of_moments : (events : List Event) (moments : List ℕ) → numbers (flat_map (moment_lines events) moments) ≡ map suc moments
of_moments events [] = refl
of_moments events (t ∷ moments) =
    ap (λ (ns : List ℕ). suc t ∷ ns) (events_none (events_at t events) (flat_map (moment_lines events) moments) ∙ of_moments events moments)

of_dump : (netlist : Netlist) (names : List Name) (waves : List Wave) → numbers (dump_lines netlist names waves) ≡ 0 ∷ map suc (rising (map moment_of (events_from 0 waves)))
of_dump netlist names waves =
    let starts : List Line = numbered start_line 0 waves in
    let changes : List Line = change_lines (events_from 0 waves) in
    ap (λ (ls : List Line). numbers ls)
    (regroup (dump_head netlist) (numbered declaration 0 names) dump_begins starts dump_ends changes)
    ∙ declarations_none 0 names (dump_begins ++ (starts ++ (dump_ends ++ changes)))
    ∙ ap (λ (ns : List ℕ). 0 ∷ ns) (starts_none 0 waves (dump_ends ++ changes)
    ∙ of_moments (events_from 0 waves) (rising (map moment_of (events_from 0 waves))))

rise : (n : ℕ) (moments : List ℕ) → IsIncreasingFrom n moments → AreRisingFrom (suc n) (map suc moments)
rise n [] increasing = tt
rise n (t ∷ moments) increasing = (omega (arith, increasing.0), rise (suc t) moments increasing.1)

pub dump_rises : (netlist : Netlist) (names : List Name) (waves : List Wave) → AreRisingFrom 0 (numbers (dump_lines netlist names waves))
dump_rises netlist names waves =
    subst (λ (ns : List ℕ). AreRisingFrom 0 ns) (sym (of_dump netlist names waves))
    (omega arith, rise 0 (rising (map moment_of (events_from 0 waves))) (rising-increasing (map moment_of (events_from 0 waves))))
