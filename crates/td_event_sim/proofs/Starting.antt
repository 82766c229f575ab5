-- The state before moment 0.
use Rattle.std.proofs.Common.{◌≡◌, ℕ, ◌+◌, ◌-◌, ◌^◌, ◌<◌, ◌≤◌, Bool, true, false, List, length, map, get_or, refl, arith, inl, inr, sym, ap, subst, ◌∙◌}
use Rattle.std.proofs.lemmas.Bool.{cases_lt}
use Rattle.std.proofs.lemmas.List.{length-map}
use Rattle.td_gates.specs.Table.{level_from}
use Rattle.td_gates.specs.Schedule.{GateState}
use Rattle.td_gates.specs.Wave.{Wave}
use Rattle.td_gates.proofs.Places.{slice_get-within}
use Rattle.td_circuit.specs.Numbering.{Numbered, nets, first_output, IsNumbering}
use Rattle.td_circuit.specs.Settings.{AreMoments}
use Rattle.td_circuit.proofs.Nets.{length-nets}
use Rattle.td_run.specs.Runs.{IsRunUpTo}
use Rattle.td_event_sim.specs.Bits.{bit_at}
use Rattle.td_event_sim.specs.Settling.{AreSettled}
use Rattle.td_event_sim.specs.Moment.{event_of, AreScheduled, IsInputEvent}
use Rattle.td_event_sim.specs.State.{IsStateBefore}
use Rattle.td_event_sim.proofs.Steps.{some-event, no-event}
use Rattle.td_event_sim.proofs.Settles.{starts-are}
use Rattle.td_event_sim.proofs.Runs.{event_to, input_state, net_state, early-input, constant-state, input-state, output-state}

input-event : (first second : Bool) (moment when : ℕ) → moment < 2 ^ 64 - 1 → IsInputEvent first second moment when
    → event_of first when ≡ event_to first second moment
input-event true true moment when h (inl is) = no-event true when (omega (arith, is.1))
input-event true true moment when h (inr is) = absurd (is.0 refl)
input-event true false moment when h (inl is) = (let e : true ≡ false = is.0 in absurd cc)
input-event true false moment when h (inr is) = ap (event_of true) is.1 ∙ some-event true moment h
input-event false true moment when h (inl is) = (let e : false ≡ true = is.0 in absurd cc)
input-event false true moment when h (inr is) = ap (event_of false) is.1 ∙ some-event false moment h
input-event false false moment when h (inl is) = no-event false when (omega (arith, is.1))
input-event false false moment when h (inr is) = absurd (is.0 refl)

module _ (circuit : Numbered) (first second : List Bool) (numbering : IsNumbering circuit) (fit : AreMoments circuit.netlist circuit.moments)
    (f : length (map level_from first) ≡ length circuit.netlist.inputs) (s : length (map level_from second) ≡ length circuit.netlist.inputs)
    (waves outs : List Wave) (run : IsRunUpTo circuit (map level_from first) (map level_from second) (length circuit.gates) waves outs)
    (levels : List Bool) (whens latest : List ℕ) (long : length levels ≡ length (nets circuit)) (settled : AreSettled circuit first (length circuit.gates) levels)
    (whens_fit : length whens ≡ length (nets circuit)) (latest_fit : length latest ≡ length (nets circuit))
    (scheduled : AreScheduled (length first) circuit.moments first second whens) (zeros : (net : ℕ) → net < length latest → get_or latest net 0 ≡ 0) where
  few : length first ≡ length circuit.netlist.inputs
  few = sym (length-map first level_from) ∙ f

  limit : (i : ℕ) → i < length circuit.netlist.inputs → get_or circuit.moments i 0 < 2 ^ 64 - 1
  limit i h = (let small : get_or circuit.moments i 0 ≤ 1000000000 = fit.within i 0 (omega (arith, fit.count)) in omega arith)

  input-events : (i : ℕ) → i < length circuit.netlist.inputs
      → event_of (bit_at levels (i + 2)) (get_or whens (i + 2) 0) ≡ (input_state (bit_at first i) (bit_at second i) (get_or circuit.moments i 0) 0).scheduled
  input-events i h =
      let few_is = few in
      ap (λ (b : Bool). event_of b (get_or whens (i + 2) 0)) (settled.first.inputs i (omega arith))
      ∙ input-event (bit_at first i) (bit_at second i) (get_or circuit.moments i 0) (get_or whens (i + 2) 0) (limit i h) (scheduled.inputs i (omega arith))
      ∙ sym (ap (λ (state : GateState). state.scheduled) (early-input (bit_at first i) (bit_at second i) (get_or circuit.moments i 0) 0 (omega arith)))

  events : (net : ℕ) → net < length (nets circuit) → event_of (bit_at levels net) (get_or whens net 0) ≡ (net_state circuit circuit.moments first second waves net 0).scheduled
  events net inside =
      let few_is = few in
      let count = length-nets circuit numbering in
      elim (cases_lt net 2) [
        | inl low ↦
            let never : get_or whens net 0 ≡ 2 ^ 64 - 1 = scheduled.others net (omega arith) (inl low) in
            no-event (bit_at levels net) (get_or whens net 0) (omega arith)
            ∙ sym (ap (λ (state : GateState). state.scheduled) (constant-state circuit circuit.moments first second waves net 0 low))
        | inr high ↦ elim (cases_lt net (first_output circuit)) [
          | inl input ↦
              let i : ℕ = net - 2 in
              let is : net ≡ i + 2 = omega arith in
              subst (λ (n : ℕ). event_of (bit_at levels n) (get_or whens n 0) ≡ (input_state (bit_at first i) (bit_at second i) (get_or circuit.moments i 0) 0).scheduled)
              (sym is) (input-events i (omega arith))
              ∙ sym (ap (λ (state : GateState). state.scheduled) (input-state circuit circuit.moments first second waves net 0 high input))
          | inr output ↦
              let place : ℕ = net - first_output circuit in
              let is : net ≡ first_output circuit + place = omega arith in
              let found = slice_get-within circuit.gates place (omega arith) in
              let never : get_or whens net 0 ≡ 2 ^ 64 - 1 = scheduled.others net (omega arith) (inr (omega arith)) in
              no-event (bit_at levels net) (get_or whens net 0) (omega arith)
              ∙ sym (ap (λ (n : ℕ). (net_state circuit circuit.moments first second waves n 0).scheduled) is
              ∙ ap (λ (state : GateState). state.scheduled) (output-state circuit circuit.moments first second waves place 0 found.0 found.1))
        ]
      ]

  pub at-start : IsStateBefore circuit waves (net_state circuit circuit.moments first second waves) 0 levels whens latest
  at-start = record {
    same_levels = long;
    same_whens = whens_fit;
    same_latest = latest_fit;
    levels_are = starts-are circuit first second numbering fit f s waves outs run levels long settled;
    events_are = events;
    latest_are = λ net inside. zeros net (omega arith);
  }
