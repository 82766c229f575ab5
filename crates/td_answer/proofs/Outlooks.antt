-- What is known of an output before it is searched is true of it alone.
use Rattle.std.proofs.Common.{◌≡◌, ◌≤◌, ◌<◌, ◌*◌, ℕ, zero, suc, ◌∙◌, Bool, false, true, List, [], ◌∷◌, length, map, refl, sym, ap, subst, arith, Option, Some, None}
use Rattle.std.specs.Prelude.{slice_get, unwrap_or, option_map, IfSome}
use Rattle.std.proofs.lemmas.Option.{none-some}
use Rattle.td_gates.specs.Table.{level_from}
use Rattle.td_gates.specs.Wave.{Wave, last}
use Rattle.td_gates.specs.declared.primitives.Level.TheVariants.{X}
use Rattle.td_gates.proofs.Places.{some-same, slice_get-map_some, slice_get-get}
use Rattle.td_nets.specs.Netlist.{Name, Net, Named}
use Rattle.td_circuit.specs.Settings.{Setting, AreMoments}
use Rattle.td_circuit.specs.Run.{Runs, IsDelayOfBits}
use Rattle.td_circuit.specs.Numbering.{Numbered, setting, nets, with_named_outputs, CanBeAsked, IsNumbering}
use Rattle.td_circuit.specs.NetValues.{net_value, net_wave}
use Rattle.td_circuit.proofs.Values.{value_at}
use Rattle.td_circuit.proofs.Moments.{numbering_asked}
use Rattle.td_domain.specs.declared.cubes.Trit.{Trit}
use Rattle.td_domain.specs.Pairs.{Pair}
use Rattle.td_domain.specs.Cubes.{AllowsBits}
use Rattle.td_domain.specs.Bounds.{AreSignals, greater, greatest_bound, IsUpperBoundIn}
use Rattle.td_domain.specs.FirstSignals.{AreFirstSignals}
use Rattle.td_domain.specs.Admits.{Admitted, IsAdmitted}
use Rattle.td_domain.proofs.Soundness.{front-values, no_later}
use Rattle.td_source.specs.Each.{alone}
use Rattle.td_source.proofs.OneOutput.{one_can}
use Rattle.td_edges.specs.declared.signals.Signal.{Signal}
use Rattle.td_edges.specs.Coverage.{EdgesCover, span_reach}
use Rattle.td_edges.specs.EdgeSignals.{edge_functions}
use Rattle.td_edges.specs.EdgeLaws.{covers_input, covers_constant, covers_gate, quiet_after_last}
use Rattle.td_refutation.specs.declared.conditions.NamedCondition.{NamedCondition}
use Rattle.td_refutation.specs.Asking.{Asking, all_admitted}
use Rattle.td_refutation.proofs.Asking.{nothing_kept}
use Rattle.td_answer.specs.Outlooks.{HasLow, IsSample, IsLow, IsTrueLow, IsTrueOutlook, shown}
use Rattle.td_refute.specs.Kept.{IsBoundAmong}
use Rattle.td_lines.specs.declared.line.Found.TheVariants as found
use Rattle.td_certificate.specs.declared.tree.BoundedBy.TheVariants as by
use Rattle.td_answer.specs.Bounds.{IsSoundBound}
use Rattle.td_answer.specs.Findings.{IsTrueFound}
use Rattle.td_answer.specs.Tables.{IsTrueBound}
use Rattle.td_answer.specs.declared.outlook.Outlook.{Outlook}
use Rattle.td_answer.specs.declared.sample.Sample.{Sample}
use Rattle.td_answer.proofs.Sighted.{some_has}

only : (a : Option ℕ) → a ≡ greater a (Some 0)
only None = refl
only (Some a) = ap (λ (m : ℕ). Some m) (omega arith)

-- vectors that a cube allows have a bit for each input
pub as_long : (n : ℕ) (cube : List Trit) (first second : List Bool) → length cube ≡ 2 * n → AllowsBits cube first second
    → (length first ≡ n) × (length second ≡ n)
as_long n [] [] [] size allows = (omega (arith, size), omega (arith, size))
as_long n [] [] (b ∷ second) size allows = absurd allows
as_long n [] (a ∷ first) second size allows = absurd allows
as_long n (p ∷ []) first second size allows = absurd allows
as_long n (p ∷ q ∷ cube) [] second size allows = absurd allows
as_long n (p ∷ q ∷ cube) (a ∷ first) [] size allows = absurd allows
as_long zero (p ∷ q ∷ cube) (a ∷ first) (b ∷ second) size allows = absurd (omega (arith, size))
as_long (suc n) (p ∷ q ∷ cube) (a ∷ first) (b ∷ second) size allows =
    let rest = as_long n cube first second (omega (arith, size)) allows.2 in (omega (arith, rest.0), omega (arith, rest.1))

-- a bound of the pins is one of all that are asked about
pub bound_among : (given : Setting) (asking : Asking) (high : ℕ) → IsUpperBoundIn given asking.admit.pins high → IsBoundAmong given asking high
bound_among given asking high is = λ pair delay among has. is pair delay among.admitted.pinned has

-- what the figures say of the pairs that are asked about
module _ (given : Setting) (admit : Admitted) (high : ℕ) (bound : IsTrueBound given admit (Some high)) where
  pub at_most : (keep : List NamedCondition) → IsTrueFound given (record { admit = admit; keep = keep }) (found.AtMost high)
  at_most keep = bound_among given (record { admit = admit; keep = keep }) high (bound.sound high refl)

  module _ (low : ℕ) (is_low : IsTrueLow given admit (Some low)) where
    pub exact : high ≤ low → IsTrueFound given (all_admitted admit) (found.Exact low)
    exact less =
        let some = is_low low refl in (
          (some.0, some.1.asked, some.1.delays),
          λ pair delay among has. (let below = bound.sound high refl pair delay among.admitted.pinned has in omega (arith, below, less)),
        )

    pub between : low ≤ high → IsTrueFound given (all_admitted admit) (found.Between low high)
    between less =
        let some = is_low low refl in
        record { pair = some.0; has = some.1; greatest = bound_among given (all_admitted admit) high (bound.sound high refl); ordered = less }

-- as many positions as two for each input
pub pins_long : {n : ℕ} (pins : List Trit) (held : List Bool) → length pins ≡ 2 * length held → length held ≡ n → length pins ≡ 2 * n
pins_long pins held fit count = omega (arith, fit, count)

-- an admitted pair has a bit for each input
pub pair_long : (circuit : Numbered) (admit : Admitted) (pair : Pair) → length admit.pins ≡ 2 * length admit.held
    → length admit.held ≡ length circuit.netlist.inputs → IsAdmitted admit pair
    → (length pair.first ≡ length circuit.netlist.inputs) × (length pair.second ≡ length circuit.netlist.inputs)
pair_long circuit admit pair fit held is =
    as_long (length circuit.netlist.inputs) admit.pins pair.first pair.second (pins_long admit.pins admit.held fit held) is.pinned

-- what is there is a sample, and its run has a wave for each net
pub sampled : (circuit : Numbered) (admit : Admitted) (sample : Option Sample) → IfSome sample (IsSample circuit admit)
    → (found : Sample) → sample ≡ Some found → IsSample circuit admit found
sampled circuit admit sample is found e = rw e at is

pub wave_within : (circuit : Numbered) (admit : Admitted) (sample : Option Sample) (net : ℕ) → IfSome sample (IsSample circuit admit)
    → net < length (nets circuit) → IfSome sample (λ found. net < length found.run.waves)
wave_within circuit admit None net is less = tt
wave_within circuit admit (Some sample) net is less = omega (arith, is.whole, less)

module _ (circuit : Numbered) (numbering : IsNumbering circuit) where
  asked_now : CanBeAsked circuit circuit.netlist.outputs circuit.outputs
  asked_now = record {
    outputs = record { driven = numbering.well_formed.outputs; distinct = numbering.well_formed.distinct_outputs };
    named = numbering.outputs;
  }

  module _ (place : ℕ) (name : Name) (net : ℕ) (at_name : slice_get circuit.netlist.outputs place ≡ Some name)
      (at_net : slice_get circuit.outputs place ≡ Some net) where
    there : slice_get (nets circuit) net ≡ Some (Named name)
    there = numbering.outputs.each place net (Named name) at_net (slice_get-map_some (λ n. Named n) circuit.netlist.outputs place name at_name)

    -- the bound by edges of an output alone is that of its signal
    pub bound_alone : (fit : AreMoments circuit.netlist circuit.moments) (cube : List Trit) (count : length cube ≡ 2 * length circuit.netlist.inputs)
        (front : List Signal) (whole : length front ≡ length (nets circuit))
        (is_front : AreFirstSignals edge_functions (λ signal. span_reach signal.changes) circuit cube front)
        (signal : Signal) → slice_get front net ≡ Some signal → IsSoundBound by.Edges (alone (setting circuit) name) cube (edge_functions.last_of signal)
    bound_alone fit cube count front whole is_front signal at_front =
        let asked = with_named_outputs circuit (name ∷ []) (net ∷ []) in
        let can = one_can circuit circuit.netlist.outputs circuit.outputs place name net asked_now at_name at_net in
        let signals = λ (n : Net). net_value (edge_functions.constant_of false) (nets circuit) front n in
        let given = front-values edge_functions (λ signal. span_reach signal.changes) circuit numbering cube front whole is_front in
        let are : AreSignals edge_functions (setting asked) cube signals =
        record { low = given.low; high = given.high; inputs = given.inputs; gates = given.gates } in
        let is : signals (Named name) ≡ signal =
        value_at (edge_functions.constant_of false) circuit numbering front whole net (Named name) there
        ∙ slice_get-get front net signal (edge_functions.constant_of false) at_front in
        let greatest : edge_functions.last_of signal ≡ greatest_bound (map (λ n. edge_functions.last_of (signals (Named n))) (name ∷ [])) =
        sym (ap edge_functions.last_of is) ∙ only (edge_functions.last_of (signals (Named name))) in
        record {
          is = record { signals = signals; are_signals = are; is_greatest = greatest };
          sound = λ moment last pair delay is_in has. (let latest = no_later EdgesCover edge_functions covers_input covers_constant covers_gate asked
              (numbering_asked circuit (name ∷ []) (net ∷ []) can numbering) (record { count = fit.count; within = fit.within }) cube count
              signals are pair is_in has.waves has.runs quiet_after_last moment (sym greatest ∙ last) in rw has.is_latest latest);
        }

    -- its last change in a run is the pair's delay
    pub delay_alone : (pair : Pair) (waves : List Wave) → length waves ≡ length (nets circuit)
        → Runs (setting circuit) (map level_from pair.first) (map level_from pair.second) (net_wave (nets circuit) waves)
        → (wave : Wave) → slice_get waves net ≡ Some wave
        → IsDelayOfBits (alone (setting circuit) name) pair.first pair.second (unwrap_or (last wave) 0)
    delay_alone pair waves whole runs wave at_wave =
        let none : Wave = record { start = X; changes = [] } in
        let is : net_wave (nets circuit) waves (Named name) ≡ wave =
        value_at none circuit numbering waves whole net (Named name) there ∙ slice_get-get waves net wave none at_wave in
        let same : unwrap_or (last (net_wave (nets circuit) waves (Named name))) 0 ≡ unwrap_or (last wave) 0 =
        ap (λ (w : Wave). unwrap_or (last w) 0) is in
        record {
          waves = net_wave (nets circuit) waves;
          runs = record {
            are_waves = runs.are_waves;
            settled = record { low = runs.settled.low; high = runs.settled.high; inputs = runs.settled.inputs; gates = runs.settled.gates };
            inputs = runs.inputs;
            low = runs.low;
            high = runs.high;
            gates = runs.gates;
          };
          is_latest = omega (arith, same);
        }

    -- so it has that delay of the admitted pair
    pub low_alone : (admit : Admitted) (sample : Option Sample) → ((found : Sample) → sample ≡ Some found → IsSample circuit admit found)
        → (low : Option ℕ) → IsLow sample net low → HasLow (alone (setting circuit) name) admit (option_map (λ sample. sample.pair) sample) low
    low_alone admit None is_sample low is moment e = absurd (none-some moment (sym is ∙ e))
    low_alone admit (Some sample) is_sample low is moment e =
        let known = is_sample sample refl in
        let same : unwrap_or (last is.0) 0 ≡ moment = some-same _ _ (sym is.2 ∙ e) in
        record {
          asked = record { admitted = known.admitted; kept = nothing_kept (alone (setting circuit) name).netlist sample.pair };
          delays = subst (λ (delay : ℕ). IsDelayOfBits (alone (setting circuit) name) sample.pair.first sample.pair.second delay) same
              (delay_alone sample.pair sample.run.waves known.whole known.runs is.0 is.1);
        }

    -- what is known of the output
    pub true_outlook : (fit : AreMoments circuit.netlist circuit.moments) (admit : Admitted) (count : length admit.pins ≡ 2 * length circuit.netlist.inputs)
        (front : List Signal) → length front ≡ length (nets circuit)
        → AreFirstSignals edge_functions (λ signal. span_reach signal.changes) circuit admit.pins front
        → (sample : Option Sample) → ((found : Sample) → sample ≡ Some found → IsSample circuit admit found)
        → (signal : Signal) → slice_get front net ≡ Some signal → (outlook : Outlook) → outlook.edges ≡ edge_functions.last_of signal
        → IsLow sample net outlook.low → shown outlook.pair ≡ option_map (λ sample. sample.pair) sample
        → IsTrueOutlook (alone (setting circuit) name) admit outlook
    true_outlook fit admit count front whole is_front sample is_sample signal at_front outlook last low pair =
        let has : HasLow (alone (setting circuit) name) admit (shown outlook.pair) outlook.low = rw pair (low_alone admit sample is_sample outlook.low low) in record {
          bound = subst (λ (e : Option ℕ). IsTrueBound (alone (setting circuit) name) admit e) (sym last)
              (bound_alone fit admit.pins count front whole is_front signal at_front);
          low = λ moment is. some_has (alone (setting circuit) name) (all_admitted admit) moment (shown outlook.pair) (has moment is);
          pair = has;
        }
