use Rattle.std.proofs.Common.{◌≡◌, ◌∙◌, ℕ, List, max}
use Rattle.std.specs.Prelude.{filter_map, slice_get}
use Rattle.std.proofs.lemmas.Result.{IfOk-weaker}
use Rattle.td_gates.specs.Delays.{IsInRange}
use Rattle.td_gates.specs.Wave.{Wave, before}
use Rattle.td_run.specs.Waves.{waves_of}
use Rattle.td_ternary.specs.Possibles.{possible, capped, gate_signal}
use Rattle.td_ternary.proofs.Computing.{picked-inputs, inputs-within, computed}
use Rattle.td_ternary.proofs.gates.output.Goals as goal

pub uncapped-requires-clause-within : goal.uncapped-requires-clause-within
uncapped-requires-clause-within c =
    rw (← picked-inputs c.args.all.now c.args.ins.now c.requires.places) (inputs-within (max c.args.delay.rise c.args.delay.fall) _ c.requires.within)

pub returns : goal.returns
returns c =
    let signals : List Wave = filter_map (slice_get c.args.all.now) c.args.ins.now in
    let picked : signals ≡ waves_of c.args.all.now c.args.ins.now = picked-inputs c.args.all.now c.args.ins.now c.requires.places in
    let shows : (n : ℕ) → before c.in_ok-signal.signal n ≡ possible c.args.kind c.args.delay signals n = rw picked c.in_ok-signal.ensures.shows in
    let fits : IsInRange c.args.delay = rw c.delay.view_is at c.delay.invariant in
    let given : Wave = record { start = c.in_ok-signal.signal.start; changes = capped c.in_ok-signal.signal.start c.in_ok-signal.signal.changes } in
    IfOk-weaker c.capped.result (λ (wave : Wave). wave ≡ given) (λ (wave : Wave). wave ≡ gate_signal c.args.kind c.args.delay signals)
    (λ (wave : Wave) (is : wave ≡ given). is ∙ computed c.args.kind c.args.delay fits signals c.in_ok-signal.signal c.in_ok-signal.ensures.wave shows)
    c.capped.ensures
