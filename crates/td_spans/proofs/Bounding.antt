-- Bounding: no output changes after its ends.
use Rattle.std.proofs.Common.{◌≡◌, ℕ, zero, suc, ◌+◌, ◌*◌, ◌<◌, ◌≤◌, max, Bool, true, List, [], ◌∷◌, ◌++◌, length, map, get_or, refl, arith, Option, Some, None, ap, ◌∙◌, sym, inl, inr}
use Rattle.std.specs.Prelude.{slice_get, unwrap_or}
use Rattle.std.specs.List.{AllByRecursion, Contains}
use Rattle.std.proofs.lemmas.Option.{none-some}
use Rattle.std.proofs.lemmas.Bool.{cases_lt, le-leb, lt-leb}
use Rattle.std.proofs.lemmas.List.{length-map}
use Rattle.std.proofs.lemmas.List.Elements.{recursion_from_All}
use Rattle.td_gates.specs.declared.primitives.Level.{Level}
use Rattle.td_gates.specs.declared.timing.Change.{Change}
use Rattle.td_gates.specs.Table.{level_from}
use Rattle.td_gates.specs.Wave.{Wave, at, level_after, last_of, last, IsRising, IsWave}
use Rattle.td_gates.proofs.Places.{slice_get-some, slice_get-within, slice_get-map_some, Contains-slice_get, All-from_contains}
use Rattle.td_nets.specs.Netlist.{Name, Named}
use Rattle.td_circuit.specs.Settings.{AreMoments}
use Rattle.td_circuit.specs.Numbering.{Numbered, nets, IsNumbering}
use Rattle.td_circuit.specs.Run.{latest_change}
use Rattle.td_circuit.specs.NetValues.{net_wave}
use Rattle.td_run.proofs.Existence.{run_exists}
use Rattle.td_run.proofs.Named.{is_run}
use Rattle.td_domain.specs.Cubes.{AllowsBits}
use Rattle.td_propagation.specs.Literals.{clause_true}
use Rattle.td_domain.specs.declared.cubes.Trit.{Trit}
use Rattle.td_spans.specs.Conditions.{Asked}
use Rattle.td_domain.specs.Waves.{IsQuietAfter}
use Rattle.td_propagation.specs.declared.literal.Literal.{Literal}
use Rattle.td_spans.specs.Timing.{level_bits}
use Rattle.td_spans.specs.Bounds.{IsUpperBoundOf, AreQuietAfter, HasNone}
use Rattle.td_spans.specs.Endings.{is_nil, ends_empty}
use Rattle.td_spans.proofs.Running.{level_is}
use Rattle.td_spans.specs.declared.times.Times.{Times}
use Rattle.td_spans.specs.declared.variable.Variable.{Variable}
use Rattle.td_spans.specs.Rules.{no_times}
use Rattle.td_spans.specs.Lowering.{latest_of}
use Rattle.td_spans.specs.Refuting.{Refutes}
use Rattle.td_spans.proofs.Lowered.{latest_right}

-- the last change of a wave that is quiet after a moment
rising-last : (level : Level) (n : ℕ) (changes : List Change) (last : ℕ) → IsRising n level changes → last_of changes ≡ Some last → n ≤ last
rising-last level n [] last rising is = absurd (none-some last is)
rising-last level n (change ∷ []) last rising is = let same : change.moment ≡ last = cc in omega (arith, rising.0)
rising-last level n (change ∷ next ∷ changes) last rising is =
    omega (arith, rising.0, rising-last change.level (suc change.moment) (next ∷ changes) last rising.2 is)

level_after-quiet : (level : Level) (n : ℕ) (changes : List Change) (last moment : ℕ) → IsRising n level changes → last_of changes ≡ Some last
    → moment < last → ((t : ℕ) → moment ≤ t → level_after level changes t ≡ level_after level changes moment) → ⊥
level_after-quiet level n [] last moment rising is later quiet = none-some last is
level_after-quiet level n (change ∷ []) last moment rising is later quiet =
    let same : change.moment ≡ last = cc in
    let now : level_after level (change ∷ []) last ≡ change.level = rw (le-leb change.moment last (omega arith)) in
    let under : level_after level (change ∷ []) moment ≡ level = rw (lt-leb change.moment moment (omega arith)) in
    rising.1 (sym under ∙ sym (quiet last (omega arith)) ∙ now)
level_after-quiet level n (change ∷ next ∷ changes) last moment rising is later quiet =
    let after : change.moment < last = rising-last change.level (suc change.moment) (next ∷ changes) last rising.2 is in
    let on : (t : ℕ) → change.moment ≤ t → level_after level (change ∷ next ∷ changes) t ≡ level_after change.level (next ∷ changes) t =
    λ t h. rw (le-leb change.moment t h) in
    let low : max moment change.moment < last = omega arith in
    level_after-quiet change.level (suc change.moment) (next ∷ changes) last (max moment change.moment) rising.2 is low
    (λ t h. sym (on t (omega arith)) ∙ quiet t (omega arith) ∙ sym (quiet (max moment change.moment) (omega arith))
    ∙ on (max moment change.moment) (omega arith))

last-within : (wave : Wave) (moment b : ℕ) → IsWave wave → IsQuietAfter moment wave → moment ≤ b → unwrap_or (last wave) 0 ≤ b
last-within wave moment b is_wave quiet low = go (last wave) refl
  where
    go : (o : Option ℕ) → last wave ≡ o → unwrap_or o 0 ≤ b
    go None is = omega arith
    go (Some m) is = elim (cases_lt moment m) [
      | inl later ↦ absurd (level_after-quiet wave.start 0 wave.changes m moment is_wave is later quiet)
      | inr early ↦ omega arith
    ]

latest_within : {A : Type 0} (wave : A → Wave) (b : ℕ) (xs : List A) → AllByRecursion (λ x. unwrap_or (last (wave x)) 0 ≤ b) xs
    → latest_change (map wave xs) ≤ b
latest_within wave b [] h = omega arith
latest_within wave b (x ∷ xs) h = let rest = latest_within wave b xs h.1 in let here = h.0 in omega arith

latest-at : (times : List Times) (outputs : List ℕ) (i net : ℕ) → slice_get outputs i ≡ Some net
    → max (get_or times net no_times).ends.zero (get_or times net no_times).ends.one ≤ latest_of times outputs + 1
latest-at times [] i net at = absurd (none-some net at)
latest-at times (n ∷ outputs) zero net at = (let same : n ≡ net = cc in rw (← same) (omega arith))
latest-at times (n ∷ outputs) (suc i) net at = (let rest = latest-at times outputs i net at in omega arith)

module _ (circuit : Numbered) (numbering : IsNumbering circuit) (fit : AreMoments circuit.netlist circuit.moments) (cube : List Trit)
    (count : length cube ≡ 2 * length circuit.netlist.inputs) (asked : Asked) (variables : List Variable) (times : List Times)
    (clauses : List (List Literal)) (refutes : Refutes circuit asked cube variables times clauses) where
  -- No net changes after its ends in the run of a pair that is asked about.
  pub nets_quiet : (numbers : List ℕ) → AreQuietAfter circuit asked cube numbers (latest_of times numbers)
  nets_quiet numbers pair waves admitted is_in runs i number net at at_net =
      let held = refutes pair waves admitted is_in runs in
      let holds = held.1 in
      let low : number < length times = omega (arith, slice_get-some (nets circuit) number net at_net, held.0) in
      let level = level_is circuit numbering fit cube count asked.admit pair is_in admitted.admitted waves runs number net at_net in
      let most : ℕ = latest_of times numbers in
      let ends = latest-at times numbers i number at in
      let rests : (t : ℕ) → most + 1 ≤ t → level_bits circuit waves number t ≡ holds.final number =
      λ t late. latest_right (level_bits circuit waves) holds.final times holds.right number t low (omega (arith, ends, late)) in
      λ t late. sym (level (suc t)) ∙ ap level_from (rests (suc t) (omega arith) ∙ sym (rests (suc most) (omega arith))) ∙ level (suc most)

  -- No pair that is asked about has a delay above the latest moment by the outputs' ends.
  pub latest_bounds : IsUpperBoundOf circuit asked cube (latest_of times circuit.outputs)
  latest_bounds pair delay admitted is_in is_delay =
      let most : ℕ = latest_of times circuit.outputs in
      let each : (name : Name) → Contains circuit.netlist.outputs name → unwrap_or (last (is_delay.waves (Named name))) 0 ≤ latest_of times circuit.outputs =
      λ name has. (
      let here = Contains-slice_get circuit.netlist.outputs name has in
      let below = slice_get-some circuit.netlist.outputs here.0 name here.1 in
      let named = slice_get-map_some (λ n. Named n) circuit.netlist.outputs here.0 name here.1 in
      let number = slice_get-within circuit.outputs here.0
      (omega (arith, below, numbering.outputs.count, length-map circuit.netlist.outputs (λ (n : Name). Named n))) in
      let at_net : slice_get (nets circuit) number.0 ≡ Some (Named name) = numbering.outputs.each here.0 number.0 (Named name) number.1 named in
      last-within (is_delay.waves (Named name)) most most (is_delay.runs.are_waves (Named name))
      (nets_quiet circuit.outputs pair is_delay.waves admitted is_in is_delay.runs here.0 number.0 (Named name) number.1 at_net) (omega arith)) in
      rw is_delay.is_latest (latest_within (λ name. is_delay.waves (Named name)) (latest_of times circuit.outputs) circuit.netlist.outputs
      (recursion_from_All (λ name. unwrap_or (last (is_delay.waves (Named name))) 0 ≤ latest_of times circuit.outputs) circuit.netlist.outputs
      (All-from_contains (λ name. unwrap_or (last (is_delay.waves (Named name))) 0 ≤ latest_of times circuit.outputs) circuit.netlist.outputs each)))

in_lengths : (cube : List Trit) (before after : List Bool) → AllowsBits cube before after → (length cube ≡ 2 * length before) × (length cube ≡ 2 * length after)
in_lengths [] [] [] allows = (refl, refl)
in_lengths [] [] (b ∷ after) allows = absurd allows
in_lengths [] (a ∷ before) after allows = absurd allows
in_lengths (p ∷ []) before after allows = absurd allows
in_lengths (p ∷ q ∷ cube) [] after allows = absurd allows
in_lengths (p ∷ q ∷ cube) (a ∷ before) [] allows = absurd allows
in_lengths (p ∷ q ∷ cube) (a ∷ before) (b ∷ after) allows =
    let rest = in_lengths cube before after allows.2 in
    (omega (arith, rest.0), omega (arith, rest.1))

-- the empty clause that ends a list
empty_last : (clauses : List (List Literal)) → ends_empty clauses ≡ true → (k : ℕ) × (k < length clauses) × (get_or clauses k [] ≡ [])
empty_last [] is = cc
empty_last ([] ∷ []) is = (0, omega arith, refl)
empty_last ((literal ∷ clause) ∷ []) is = cc
empty_last (clause ∷ next ∷ clauses) is = let rest = empty_last (next ∷ clauses) is in (suc rest.0, omega (arith, rest.1), rest.2)

-- Where the last clause is empty, no pair of the cube is asked about.
pub empty_none : (circuit : Numbered) → IsNumbering circuit → AreMoments circuit.netlist circuit.moments → (cube : List Trit)
    → length cube ≡ 2 * length circuit.netlist.inputs → (asked : Asked) (variables : List Variable) (times : List Times)
    (clauses : List (List Literal)) → Refutes circuit asked cube variables times clauses → ends_empty clauses ≡ true → HasNone circuit asked cube
empty_none circuit numbering fit cube count asked variables times clauses refutes is pair admitted is_in =
    let long = in_lengths cube pair.first pair.second is_in in
    let firsts : length (map level_from pair.first) ≡ length circuit.netlist.inputs = omega (arith, long.0, count, length-map pair.first level_from) in
    let seconds : length (map level_from pair.second) ≡ length circuit.netlist.inputs = omega (arith, long.1, count, length-map pair.second level_from) in
    let made = run_exists circuit (map level_from pair.first) (map level_from pair.second) numbering fit firsts seconds (length circuit.gates) (omega arith) in
    let runs = is_run circuit (map level_from pair.first) (map level_from pair.second) numbering fit firsts seconds made.0 made.1 made.2 in
    let held = refutes pair (net_wave (nets circuit) made.0) admitted is_in runs in
    let last = empty_last clauses is in
    let so : clause_true held.1.valuation (get_or clauses last.0 []) ≡ true = held.1.true last.0 [] last.1 in
    let none : clause_true held.1.valuation [] ≡ true = ap (clause_true held.1.valuation) (sym last.2) ∙ so in
    cc

-- a list ends empty where the clause that was added last is empty
pub last_ends : (clauses after : List (List Literal)) (clause : List Literal) → after ≡ clauses ++ clause ∷ [] → ends_empty after ≡ is_nil clause
last_ends clauses after clause is = rw is (go clauses)
  where
    go : (clauses : List (List Literal)) → ends_empty (clauses ++ clause ∷ []) ≡ is_nil clause
    go [] = refl
    go (first ∷ []) = refl
    go (first ∷ next ∷ clauses) = go (next ∷ clauses)
