-- Runs of which chosen waves are kept, and their dumps.
use Rattle.std.proofs.Common.{◌≡◌, ◌∙◌, ℕ, zero, suc, ◌+◌, ◌<◌, ◌==◌, Bool, true, false, List, [], ◌∷◌, ◌++◌, length, map, take, get_or, set, refl, arith, sym, ap, subst, Some, None, get_or-set_same}
use Rattle.std.specs.Prelude.{slice_get, Option, Result, Ok, Err, IfOk, IfSome, if◌then◌else◌}
use Rattle.std.specs.List.{All, list_any}
use Rattle.std.proofs.lemmas.List.{take_more}
use Rattle.std.proofs.lemmas.List.Elements.{All-push, All-nil, All-weaker}
use Rattle.std.proofs.lemmas.Option.{slice_get-get_or}
use Rattle.td_gates.specs.declared.primitives.Level.{Level}
use Rattle.td_gates.specs.Wave.{Wave}
use Rattle.td_gates.proofs.Places.{slice_get-some, slice_get-map_some}
use Rattle.td_nets.specs.Netlist.{Net, Low}
use Rattle.td_circuit.specs.Settings.{Setting}
use Rattle.td_circuit.specs.Numbering.{Numbered, nets, setting}
use Rattle.td_circuit.specs.Run.{Runs}
use Rattle.td_run.specs.Waves.{AreWithin}
use Rattle.td_run.specs.Keeping.{KeptWaves, IsKeptOf}
use Rattle.td_run.proofs.Choosing.{wanted_there}
use Rattle.td_vcd.specs.Chosen.{IsKeptFor, CanBeChosen}
use Rattle.td_question.specs.Choosing.{with_net, NamesNet, AreAdded, AreChosen}
use Rattle.td_answer.specs.declared.outcome.Waves.{Waves}
use Rattle.td_answer.specs.declared.outcome.ChosenWaves.{ChosenWaves}
use Rattle.td_answer.specs.declared.outcome.Dump.{Dump}
use Rattle.td_answer.specs.declared.outcome.Dump.TheVariants.{Whole, Chosen}
use Rattle.td_answer.specs.Dumps.{IsDump, IsDumpOf, IsChosenDump, IsKeptWith, AreWavesOf, CanBeDumped, is_whole}
use Rattle.td_answer.specs.Writing.{HasKept, HasDump}
use Rattle.td_answer.proofs.OutputNets.{named_number}

-- ---- which nets are wanted

set_true : (wanted : List Bool) (net other : ℕ) → get_or wanted other false ≡ true → get_or (set wanted net true) other false ≡ true
set_true [] net other is = is
set_true (w ∷ wanted) zero zero is = refl
set_true (w ∷ wanted) zero (suc other) is = is
set_true (w ∷ wanted) (suc net) zero is = is
set_true (w ∷ wanted) (suc net) (suc other) is = set_true wanted net other is

-- one more of the nets
pub wanted_more : (wanted : List Bool) (chosen : List ℕ) (i : ℕ) → i < length chosen → get_or chosen i 0 < length wanted
    → All (λ net. get_or wanted net false ≡ true) (take i chosen)
    → All (λ net. get_or (set wanted (get_or chosen i 0) true) net false ≡ true) (take (i + 1) chosen)
wanted_more wanted chosen i inside there all =
    let P : ℕ → Type 0 = λ net. get_or wanted net false ≡ true in
    let Q : ℕ → Type 0 = λ net. get_or (set wanted (get_or chosen i 0) true) net false ≡ true in
    rw (take_more chosen i 0 inside)
    (All-push Q (take i chosen) (get_or chosen i 0)
    (All-weaker P Q (λ net h. set_true wanted (get_or chosen i 0) net h) (take i chosen) all)
    (get_or-set_same wanted (get_or chosen i 0) true false there))

-- ---- what is kept

-- the kept waves of the wanted nets are those of the run
pub waves_are : (circuit : Numbered) (run : Net → Wave) (wanted : List Bool) (chosen : List ℕ) (kept : KeptWaves) → length wanted ≡ length (nets circuit)
    → All (λ net. net < length (nets circuit)) chosen → All (λ net. get_or wanted net false ≡ true) chosen
    → IsKeptOf (nets circuit) run wanted kept → AreWavesOf circuit run kept chosen
waves_are circuit run wanted chosen kept long low these is = λ k d h.
    let inside = low k d h in
    ap (λ (ws : List (Option Wave)). slice_get ws (get_or chosen k d)) is.waves
    ∙ wanted_there wanted (map run (nets circuit)) (get_or chosen k d) false (run (get_or (nets circuit) (get_or chosen k d) Low))
    (omega (arith, inside, long)) (these k d h)
    (slice_get-map_some run (nets circuit) (get_or chosen k d) (get_or (nets circuit) (get_or chosen k d) Low)
    (slice_get-get_or (nets circuit) (get_or chosen k d) Low inside))

-- so they can be written
pub can_be_dumped : (circuit : Numbered) (run : Net → Wave) (kept : KeptWaves) (chosen : List ℕ) → IsKeptFor circuit kept
    → All (λ net. 1 < net) chosen → AreWavesOf circuit run kept chosen → CanBeDumped circuit kept chosen
can_be_dumped circuit run kept chosen fits named waves = record {
  kept_for = fits;
  each = λ k d h. record {
    above = named k d h;
    wave = run (get_or (nets circuit) (get_or chosen k d) Low);
    there = waves k d h;
  };
}

-- the same of what may be stopped, or run out of memory
pub kept_some : {E : Type 0} (circuit : Numbered) (first second : List Level) (wanted : List Bool) (chosen : List ℕ) (result : Result (Option KeptWaves) E)
    → length wanted ≡ length (nets circuit) → All (λ net. net < length (nets circuit)) chosen → All (λ net. get_or wanted net false ≡ true) chosen
    → IfOk result (λ kept. IfSome kept (λ kept. (run : Net → Wave) × Runs (setting circuit) first second run × IsKeptOf (nets circuit) run wanted kept))
    → IfOk result (λ kept. IfSome kept (λ kept. (run : Net → Wave) × Runs (setting circuit) first second run × IsKeptWith circuit chosen run kept))
kept_some circuit first second wanted chosen (Ok (Some kept)) long low these is =
    (is.0, is.1, record { waves = waves_are circuit is.0 wanted chosen kept long low these is.2; lasts = is.2.lasts })
kept_some circuit first second wanted chosen (Ok None) long low these is = tt
kept_some circuit first second wanted chosen (Err error) long low these is = tt

pub dumped_some : {E : Type 0} (circuit : Numbered) (first second : List Level) (chosen : List ℕ) (result : Result (Option KeptWaves) E) → All (λ net. 1 < net) chosen
    → IfOk result (λ kept. IfSome kept (λ kept. (run : Net → Wave) × Runs (setting circuit) first second run × IsKeptWith circuit chosen run kept))
    → IfOk result (λ kept. IfSome kept (λ kept. length kept.waves ≡ length (nets circuit)))
    → IfOk result (λ kept. IfSome kept (λ kept. (net : ℕ) (wave : Wave) → slice_get kept.waves net ≡ Some (Some wave) → AreWithin 200001000000000 wave.changes))
    → IfOk result (λ kept. IfSome kept (λ kept. CanBeDumped circuit kept chosen))
dumped_some circuit first second chosen (Ok (Some kept)) named is count small =
    can_be_dumped circuit is.0 kept chosen (record { count = count; within = small }) named is.2.waves
dumped_some circuit first second chosen (Ok None) named is count small = tt
dumped_some circuit first second chosen (Err error) named is count small = tt

-- ---- the nets of words

with_all : (P : ℕ → Type 0) (before : List ℕ) (net : ℕ) → All P before → P net → All P (with_net before net)
with_all P before net all own = by_any (list_any (λ number. number == net) before)
  where
    by_any : (b : Bool) → All P (if b then before else (before ++ net ∷ []))
    by_any true = all
    by_any false = All-push P before net all own

added_all : (P : ℕ → Type 0) (circuit : Numbered) → ((word : List ℕ) (net : ℕ) → NamesNet circuit word net → P net) → (words : List (List ℕ))
    (before numbers : List ℕ) → All P before → AreAdded circuit before words numbers → All P numbers
added_all P circuit each [] before numbers all are = subst (All P) (sym are) all
added_all P circuit each (word ∷ words) before numbers all are =
    added_all P circuit each words (with_net before are.0) numbers (with_all P before are.0 all (each word are.0 are.1)) are.2

pub chosen_low : (circuit : Numbered) (words : List (List ℕ)) (chosen : List ℕ) → AreChosen circuit words chosen → All (λ net. net < length (nets circuit)) chosen
chosen_low circuit words chosen are =
    added_all (λ net. net < length (nets circuit)) circuit (λ word net names. (named_number circuit net names.first.net names.stands).1)
    words [] chosen (All-nil (λ net. net < length (nets circuit))) are

pub chosen_named : (circuit : Numbered) (words : List (List ℕ)) (chosen : List ℕ) → AreChosen circuit words chosen → All (λ net. 1 < net) chosen
chosen_named circuit words chosen are =
    added_all (λ net. 1 < net) circuit (λ word net names. (named_number circuit net names.first.net names.stands).0)
    words [] chosen (All-nil (λ net. 1 < net)) are

-- ---- dumps

pub whole_dump : (is_asked : Bool) (words : List (List ℕ)) (asked : Setting) (IsRun : (Net → Wave) → Type 0) (waves : Waves) → is_whole is_asked words ≡ true
    → IsDump asked IsRun waves → IsDumpOf is_asked words asked IsRun (Some (Whole waves))
whole_dump false words asked IsRun waves whole is = absurd cc
whole_dump true [] asked IsRun waves whole is = is
whole_dump true (word ∷ words) asked IsRun waves whole is = absurd cc

pub chosen_dump : (is_asked : Bool) (words : List (List ℕ)) (asked : Setting) (IsRun : (Net → Wave) → Type 0) (dump : ChosenWaves)
    → is_whole is_asked words ≡ false → IsChosenDump words asked IsRun dump
    → IsDumpOf is_asked words asked IsRun (if is_asked then Some (Chosen dump) else None)
chosen_dump false words asked IsRun dump whole is = refl
chosen_dump true [] asked IsRun dump whole is = absurd cc
chosen_dump true (word ∷ words) asked IsRun dump whole is = is

pub chosen_written : (is_asked : Bool) (dump : ChosenWaves) → HasKept dump → IfSome (if is_asked then Some (Chosen dump) else None) HasDump
chosen_written false dump has = tt
chosen_written true dump has = has

-- a dump of one kind of run is one of another that holds of it
pub dump_as : (is_asked : Bool) (words : List (List ℕ)) (asked : Setting) (IsOne IsOther : (Net → Wave) → Type 0)
    → ((waves : Net → Wave) → IsOne waves → IsOther waves) → (dump : Option Dump)
    → IsDumpOf is_asked words asked IsOne dump → IsDumpOf is_asked words asked IsOther dump
dump_as false words asked IsOne IsOther each dump is = is
dump_as true [] asked IsOne IsOther each None is = absurd is
dump_as true [] asked IsOne IsOther each (Some (Whole dump)) is = record { of = is.of; runs = each _ is.runs; has = is.has }
dump_as true [] asked IsOne IsOther each (Some (Chosen dump)) is = absurd is
dump_as true (word ∷ words) asked IsOne IsOther each None is = absurd is
dump_as true (word ∷ words) asked IsOne IsOther each (Some (Whole dump)) is = absurd is
dump_as true (word ∷ words) asked IsOne IsOther each (Some (Chosen dump)) is = record {
  of = is.of;
  chosen = is.chosen;
  run = is.run;
  runs = each is.run is.runs;
  waves = is.waves;
  has = is.has;
}
