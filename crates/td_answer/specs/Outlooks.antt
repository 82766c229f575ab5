-- What is known of an output before it is searched.
use Rattle.std.specs.Prelude.{◌≡◌, ℕ, List, length, map, slice_get, unwrap_or, Option, Some, None, option_map}
use Rattle.std.specs.Borrow.{Bor}
use Rattle.td_gates.specs.Table.{level_from}
use Rattle.td_gates.specs.Wave.{Wave, last}
use Rattle.td_circuit.specs.Settings.{Setting}
use Rattle.td_circuit.specs.Numbering.{Numbered, nets, setting}
use Rattle.td_circuit.specs.NetValues.{net_wave}
use Rattle.td_circuit.specs.Run.{Runs}
use Rattle.td_domain.specs.Pairs.{Pair}
use Rattle.td_domain.specs.Admits.{Admitted, IsAdmitted}
use Rattle.td_edges.specs.declared.signals.Signal.{Signal}
use Rattle.td_edges.specs.EdgeSignals.{edge_functions}
use Rattle.td_refutation.specs.Asking.{all_admitted}
use Rattle.td_answer.specs.Tables.{IsTrueBound, SomeHas}
use Rattle.td_answer.specs.Sightings.{PairHas}
use Rattle.td_answer.specs.declared.outlook.Outlook.{Outlook}
use Rattle.td_answer.specs.declared.sample.Sample.{Sample}

-- it is an admitted pair, and its run
pub record IsSample (circuit : Numbered) (admit : Admitted) (sample : Sample) : Type 0 where
  pub admitted : IsAdmitted admit sample.pair
  pub runs : Runs (setting circuit) (map level_from sample.pair.first) (map level_from sample.pair.second) (net_wave (nets circuit) sample.run.waves)
  pub whole : length sample.run.waves ≡ length (nets circuit)

-- this is when the net changes last in the run of a sample, if there is one: 0 where it never does
abbrev pub IsLow : Option Sample → ℕ → Option ℕ → Type 0
IsLow None net low = low ≡ None
IsLow (Some sample) net low = (wave : Wave) × (slice_get sample.run.waves net ≡ Some wave) × (low ≡ Some (unwrap_or (last wave) 0))

-- the pair, if there is one
abbrev pub shown : Option (Bor Pair) → Option Pair
shown pair = option_map (λ pair. pair.now) pair

-- it is what the signal of a net and a sample say of it
pub record IsOutlookAt (signals : List Signal) (sample : Option Sample) (net : ℕ) (outlook : Outlook) : Type 0 where
  pub signal : Signal
  pub at : slice_get signals net ≡ Some signal
  pub edges : outlook.edges ≡ edge_functions.last_of signal
  pub low : IsLow sample net outlook.low
  pub pair : shown outlook.pair ≡ option_map (λ sample. sample.pair) sample

-- some admitted pair has this delay, where one is given
abbrev pub IsTrueLow : Setting → Admitted → Option ℕ → Type 0
IsTrueLow setting admit low = (moment : ℕ) → low ≡ Some moment → SomeHas setting (all_admitted admit) moment

-- and the pair does
abbrev pub HasLow : Setting → Admitted → Option Pair → Option ℕ → Type 0
HasLow setting admit pair low = (moment : ℕ) → low ≡ Some moment → PairHas setting (all_admitted admit) moment pair

-- what is known of an output is true of the admitted pairs
pub record IsTrueOutlook (setting : Setting) (admit : Admitted) (outlook : Outlook) : Type 0 where
  pub bound : IsTrueBound setting admit outlook.edges
  pub low : IsTrueLow setting admit outlook.low
  pub pair : HasLow setting admit (shown outlook.pair) outlook.low
