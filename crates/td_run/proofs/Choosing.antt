-- The waves that are kept are those of each run of the netlist.
use Rattle.std.proofs.Common.{◌≡◌, ℕ, zero, suc, ◌<◌, List, [], ◌∷◌, length, map, get_or, refl, arith, sym, ap, ◌∙◌, subst, Bool, true, false, Option, Some, None}
use Rattle.std.specs.Prelude.{slice_get}
use Rattle.std.specs.List.{All}
use Rattle.std.proofs.lemmas.List.{length-map}
use Rattle.std.proofs.lemmas.List.Elements.{All-head, All-tail}
use Rattle.td_gates.specs.declared.primitives.Level.{Level}
use Rattle.td_gates.specs.declared.primitives.Level.TheVariants.{X}
use Rattle.td_gates.specs.Wave.{Wave, last}
use Rattle.td_gates.proofs.Places.{none-some, some-same, map-fuse}
use Rattle.td_nets.specs.Netlist.{Net}
use Rattle.td_circuit.specs.Settings.{AreMoments}
use Rattle.td_circuit.specs.Numbering.{Numbered, nets, setting, IsNumbering}
use Rattle.td_circuit.specs.Run.{Runs}
use Rattle.td_circuit.specs.NetValues.{net_wave}
use Rattle.td_circuit.proofs.Nets.{few_gates}
use Rattle.td_run.specs.Waves.{AreWithin, constant}
use Rattle.td_run.specs.Keeping.{wanted_waves, IsKeptOf, AreLater, AreEnds, IsLeftUpTo}
use Rattle.td_run.proofs.Named.{is_run, only_numbers, same_length}
use Rattle.td_run.proofs.Gates.{all_small}
use Rattle.td_run.proofs.Dropping.{left_within}

-- values by name are values by number
of_names : (f : Net → Wave) (ns : List Net) (ws : List Wave) → length ns ≡ length ws
    → ((i : ℕ) (net : Net) → slice_get ns i ≡ Some net → f net ≡ get_or ws i (constant X)) → map f ns ≡ ws
of_names f [] [] long each = refl
of_names f [] (w ∷ ws) long each = absurd (omega arith)
of_names f (n ∷ ns) [] long each = absurd (omega arith)
of_names f (n ∷ ns) (w ∷ ws) long each =
    ap (λ (x : Wave). x ∷ map f ns) (each 0 n refl)
    ∙ ap (λ (xs : List Wave). w ∷ xs) (of_names f ns ws (omega arith) (λ i net at. each (suc i) net at))

-- waves that are the same where they are wanted
wanted_same : (wanted : List Bool) (xs ys : List Wave) → length xs ≡ length ys
    → ((n : ℕ) → get_or wanted n false ≡ true → get_or xs n (constant X) ≡ get_or ys n (constant X))
    → wanted_waves wanted xs ≡ wanted_waves wanted ys
wanted_same [] xs ys long same = refl
wanted_same (w ∷ wanted) [] [] long same = refl
wanted_same (w ∷ wanted) [] (y ∷ ys) long same = absurd (omega arith)
wanted_same (w ∷ wanted) (x ∷ xs) [] long same = absurd (omega arith)
wanted_same (true ∷ wanted) (x ∷ xs) (y ∷ ys) long same =
    ap (λ (z : Wave). Some z ∷ wanted_waves wanted xs) (same 0 refl)
    ∙ ap (λ (zs : List (Option Wave)). Some y ∷ zs) (wanted_same wanted xs ys (omega arith) (λ n is. same (suc n) is))
wanted_same (false ∷ wanted) (x ∷ xs) (y ∷ ys) long same =
    ap (λ (zs : List (Option Wave)). None ∷ zs) (wanted_same wanted xs ys (omega arith) (λ n is. same (suc n) is))

pub length-wanted : (wanted : List Bool) (waves : List Wave) → length waves ≡ length wanted → length (wanted_waves wanted waves) ≡ length wanted
length-wanted [] waves long = refl
length-wanted (w ∷ wanted) [] long = absurd (omega arith)
length-wanted (w ∷ wanted) (x ∷ waves) long = let rest = length-wanted wanted waves (omega arith) in omega arith

-- what holds of each wave holds of the wanted ones
pub wanted_each : (P : Wave → Type 0) (wanted : List Bool) (waves : List Wave) (n : ℕ) (wave : Wave) → All P waves
    → slice_get (wanted_waves wanted waves) n ≡ Some (Some wave) → P wave
wanted_each P [] waves n wave all is = absurd (none-some (Some wave) is)
wanted_each P (w ∷ wanted) [] n wave all is = absurd (none-some (Some wave) is)
wanted_each P (true ∷ wanted) (x ∷ waves) zero wave all is =
    subst P (some-same x wave (some-same (Some x) (Some wave) is)) (All-head P x waves all)
wanted_each P (false ∷ wanted) (x ∷ waves) zero wave all is = absurd (none-some wave (some-same None (Some wave) is))
wanted_each P (w ∷ wanted) (x ∷ waves) (suc n) wave all is = wanted_each P wanted waves n wave (All-tail P x waves all) is

-- a wanted wave is there
pub wanted_there : (wanted : List Bool) (waves : List Wave) (n : ℕ) (d : Bool) (wave : Wave) → n < length wanted → get_or wanted n d ≡ true
    → slice_get waves n ≡ Some wave → slice_get (wanted_waves wanted waves) n ≡ Some (Some wave)
wanted_there [] waves n d wave inside is at = absurd (omega arith)
wanted_there (w ∷ wanted) [] n d wave inside is at = absurd (none-some wave at)
wanted_there (true ∷ wanted) (x ∷ waves) zero d wave inside is at = ap (λ (o : Option Wave). Some o) at
wanted_there (false ∷ wanted) (x ∷ waves) zero d wave inside is at = absurd cc
wanted_there (w ∷ wanted) (x ∷ waves) (suc n) d wave inside is at = wanted_there wanted waves n d wave (omega arith) is at

-- and another isn't
pub wanted_not : (wanted : List Bool) (waves : List Wave) (n : ℕ) (d : Bool) → n < length wanted → n < length waves → get_or wanted n d ≡ false
    → slice_get (wanted_waves wanted waves) n ≡ Some None
wanted_not [] waves n d inside below is = absurd (omega arith)
wanted_not (w ∷ wanted) [] n d inside below is = absurd (omega arith)
wanted_not (true ∷ wanted) (x ∷ waves) zero d inside below is = absurd cc
wanted_not (false ∷ wanted) (x ∷ waves) zero d inside below is = refl
wanted_not (w ∷ wanted) (x ∷ waves) (suc n) d inside below is = wanted_not wanted waves n d (omega arith) (omega arith) is

module _ (circuit : Numbered) (firsts seconds : List Level) (numbering : IsNumbering circuit) (fit : AreMoments circuit.netlist circuit.moments)
    (first_fits : length firsts ≡ length circuit.netlist.inputs) (second_fits : length seconds ≡ length circuit.netlist.inputs)
    (ends : List ℕ) (are : AreEnds circuit ends) (wanted : List Bool) (later : AreLater wanted (length circuit.gates) ends)
    (waves : List Wave) (moments : List (Option ℕ)) (so : IsLeftUpTo circuit firsts seconds ends (length circuit.gates) waves moments) where
  all_long : length so.all ≡ length (nets circuit)
  all_long = same_length circuit firsts seconds numbering fit first_fits second_fits so.all so.outs so.run

  pub left_long : length waves ≡ length (nets circuit)
  left_long = so.left.count ∙ all_long

  pub lasts_long : length moments ≡ length (nets circuit)
  lasts_long = ap length so.lasts ∙ length-map so.all last ∙ all_long

  -- each run has what is kept
  pub only_kept : (other : Net → Wave) → Runs (setting circuit) firsts seconds other
      → IsKeptOf (nets circuit) other wanted (record { waves = wanted_waves wanted waves; lasts = moments })
  only_kept other runs =
      let named : map other (nets circuit) ≡ so.all = of_names other (nets circuit) so.all (sym all_long)
      (λ i net at. only_numbers circuit firsts seconds numbering fit first_fits second_fits so.all so.outs so.run other runs i net at) in
      record {
        waves = wanted_same wanted waves so.all so.left.count (λ n is. so.left.same n (later n is))
            ∙ ap (λ (ws : List Wave). wanted_waves wanted ws) (sym named);
        lasts = so.lasts ∙ ap (λ (ws : List Wave). map last ws) (sym named) ∙ map-fuse other last (nets circuit);
      }

  -- and there is one
  pub some_kept : (run : Net → Wave) × Runs (setting circuit) firsts seconds run
      × IsKeptOf (nets circuit) run wanted (record { waves = wanted_waves wanted waves; lasts = moments })
  some_kept =
      let run = is_run circuit firsts seconds numbering fit first_fits second_fits so.all so.outs so.run in
      (net_wave (nets circuit) so.all, run, only_kept (net_wave (nets circuit) so.all) run)

  pub kept_small : (n : ℕ) (wave : Wave) → slice_get (wanted_waves wanted waves) n ≡ Some (Some wave) → AreWithin 200001000000000 wave.changes
  kept_small n wave at = wanted_each (λ (w : Wave). AreWithin 200001000000000 w.changes) wanted waves n wave
      (all_small (length circuit.gates) waves (few_gates circuit numbering)
      (left_within circuit firsts seconds numbering fit first_fits second_fits ends are (length circuit.gates) waves moments so))
      at
