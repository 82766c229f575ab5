-- A dump declares a variable for each name.
use Rattle.std.proofs.Common.{◌≡◌, ℕ, suc, ◌+◌, Bool, true, false, List, [], ◌∷◌, ◌++◌, length, map, refl, ap, arith}
use Rattle.std.specs.Prelude.{if◌then◌else◌}
use Rattle.std.specs.List.{flat_map}
use Rattle.td_gates.specs.Wave.{Wave}
use Rattle.td_nets.specs.Netlist.{Name, Netlist}
use Rattle.td_vcd.specs.declared.events.Event.{Event}
use Rattle.td_vcd.specs.Text.{Line, numbered, start_line, declaration, events_from, events_at, event_line, moment_of, moment_lines, rising, change_lines, dump_lines, dump_head, dump_begins, dump_ends}
use Rattle.td_vcd.specs.Says.{declares, declared}

step : (is : Bool) (all front back : ℕ) → all ≡ front + back → (if is then suc all else all) ≡ (if is then suc front else front) + back
step true all front back sum = omega (arith, sum)
step false all front back sum = sum

both : (xs ys : List Line) → declared (xs ++ ys) ≡ declared xs + declared ys
both [] ys = omega arith
both (x ∷ xs) ys = step (declares x) (declared (xs ++ ys)) (declared xs) (declared ys) (both xs ys)

declarations : (j : ℕ) (names : List Name) → declared (numbered declaration j names) ≡ length names
declarations j [] = refl
declarations j (name ∷ names) = ap suc (declarations (suc j) names)

starts : (j : ℕ) (waves : List Wave) → declared (numbered start_line j waves) ≡ 0
starts j [] = refl
starts j (wave ∷ waves) = starts (suc j) waves

sets : (events : List Event) → declared (map event_line events) ≡ 0
sets [] = refl
sets (event ∷ later) = sets later

moments : (events : List Event) (times : List ℕ) → declared (flat_map (moment_lines events) times) ≡ 0
moments events [] = refl
moments events (t ∷ times) =
    let all = both (moment_lines events t) (flat_map (moment_lines events) times) in
    let now = sets (events_at t events) in let later = moments events times in omega (arith, all, now, later)

head : (netlist : Netlist) → declared (dump_head netlist) ≡ 0
head netlist = refl

pub dump_declares : (netlist : Netlist) (all : List Name) (waves : List Wave) → declared (dump_lines netlist all waves) ≡ length all
dump_declares netlist all waves =
    let names : List Line = numbered declaration 0 all in
    let begun : List Line = numbered start_line 0 waves in
    let changes : List Line = change_lines (events_from 0 waves) in
    let five = both ((((dump_head netlist ++ names) ++ dump_begins) ++ begun) ++ dump_ends) changes in
    let four = both (((dump_head netlist ++ names) ++ dump_begins) ++ begun) dump_ends in
    let three = both ((dump_head netlist ++ names) ++ dump_begins) begun in
    let two = both (dump_head netlist ++ names) dump_begins in
    let one = both (dump_head netlist) names in
    let none = moments (events_from 0 waves) (rising (map moment_of (events_from 0 waves))) in
    let still = starts 0 waves in
    let each = declarations 0 all in
    let first = head netlist in
    omega (arith, five, four, three, two, one, none, still, each, first)
