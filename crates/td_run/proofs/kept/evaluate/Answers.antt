use Rattle.std.proofs.Common.{◌≡◌, ◌+◌, ◌++◌, ◌∷◌, ◌∙◌, ℕ, [], List, ap, sym, subst, arith, map, take, drop, length, suc, Option}
use Rattle.std.proofs.lemmas.List.{length_push}
use Rattle.td_gates.specs.Wave.{Wave, last}
use Rattle.td_circuit.specs.Views.{gate_of}
use Rattle.td_circuit.proofs.Nets.{lower-at}
use Rattle.td_run.specs.Runs.{first_waves}
use Rattle.td_run.specs.Keeping.{HasLeft, IsLeftUpTo}
use Rattle.td_run.proofs.Placed.{count_same, gate_at_place}
use Rattle.td_run.proofs.Dropping.{written, left_start, left_count, left_room, left_end, left_step}
use Rattle.td_run.proofs.kept.evaluate.Goals as goal

pub loop-place-init : goal.loop-place-init
loop-place-init c = left_start c.args.circuit.now c.args.first.now c.args.second.now c.gates-gates.ensures.numbering c.moments-moments.ensures.fit c.requires.first_fits c.requires.second_fits c.args.ends.now c.requires.ends
    c.in_ok-waves.waves.items c.in_ok-lasts.lasts.items
    (c.in_ok-waves.ensures ∙ ap (λ moments. first_waves c.args.first.now c.args.second.now moments) c.moments-moments.ensures.moments)
    (c.in_ok-lasts.ensures ∙ ap (λ (ws : List Wave). map last ws) c.deref.ensures.value)

pub next_wave-requires-clause-count : goal.next_wave-requires-clause-count
next_wave-requires-clause-count c = rw c.deref-in-loop-place.ensures.value (left_count c.args.circuit.now c.args.first.now c.args.second.now c.gates-gates.ensures.numbering c.moments-moments.ensures.fit c.requires.first_fits c.requires.second_fits c.args.ends.now c.requires.ends
    c.loop-place.place c.loop-place.waves.items c.loop-place.lasts.items c.loop-place.invariant)

pub drop_waves-requires-clause-waves : goal.drop_waves-requires-clause-waves
drop_waves-requires-clause-waves c =
    let count = count_same c.gates-gates.result.now c.args.circuit.now.gates c.gates-gates.ensures.gates in
    let placed = gate_at_place c.gates-gates.result.now c.args.circuit.now.gates c.loop-place.place c.index-gates-place.result c.gates-gates.ensures.gates (omega (arith, count, c.loop-place-test.true)) c.index-gates-place.is in
    let long = left_count c.args.circuit.now c.args.first.now c.args.second.now c.gates-gates.ensures.numbering c.moments-moments.ensures.fit c.requires.first_fits c.requires.second_fits c.args.ends.now c.requires.ends c.loop-place.place c.loop-place.waves.items c.loop-place.lasts.items c.loop-place.invariant in
    let now : length c.deref_mut.result.now ≡ length c.loop-place.waves.items + 1 =
    ap length (c.deref_mut.ensures.value ∙ c.in_ok-push-2.ensures.items) ∙ length_push c.loop-place.waves.items c.in_ok-wave.wave in
    rw c.deref-in-loop-place-2.ensures.value
    (λ k d h. let low = lower-at c.args.circuit.now c.gates-gates.ensures.numbering c.loop-place.place (gate_of c.index-gates-place.result) placed k d h in omega (arith, low, long, now))

pub drop_waves-requires-clause-ends : goal.drop_waves-requires-clause-ends
drop_waves-requires-clause-ends c =
    let count = count_same c.gates-gates.result.now c.args.circuit.now.gates c.gates-gates.ensures.gates in
    let room = left_room c.args.circuit.now c.args.first.now c.args.second.now c.gates-gates.ensures.numbering c.moments-moments.ensures.fit c.requires.first_fits c.requires.second_fits c.args.ends.now c.requires.ends c.loop-place.place c.loop-place.waves.items c.loop-place.lasts.items c.loop-place.invariant (omega (arith, count, c.loop-place-test.true)) in
    let now : length c.deref_mut.result.now ≡ length c.loop-place.waves.items + 1 =
    ap length (c.deref_mut.ensures.value ∙ c.in_ok-push-2.ensures.items) ∙ length_push c.loop-place.waves.items c.in_ok-wave.wave in
    omega (arith, room, now)

pub drop_wave-requires-clause-end : goal.drop_wave-requires-clause-end
drop_wave-requires-clause-end c =
    let count = count_same c.gates-gates.result.now c.args.circuit.now.gates c.gates-gates.ensures.gates in
    let room = left_room c.args.circuit.now c.args.first.now c.args.second.now c.gates-gates.ensures.numbering c.moments-moments.ensures.fit c.requires.first_fits c.requires.second_fits c.args.ends.now c.requires.ends c.loop-place.place c.loop-place.waves.items c.loop-place.lasts.items c.loop-place.invariant (omega (arith, count, c.loop-place-test.true)) in
    omega (arith, room, c.len-net.ensures)

pub loop-place-preserved : goal.loop-place-preserved
loop-place-preserved c =
    let next : c.loop-place.place + 1 ≡ suc c.loop-place.place = omega arith in
    let count = count_same c.gates-gates.result.now c.args.circuit.now.gates c.gates-gates.ensures.gates in
    let placed = gate_at_place c.gates-gates.result.now c.args.circuit.now.gates c.loop-place.place c.index-gates-place.result c.gates-gates.ensures.gates (omega (arith, count, c.loop-place-test.true)) c.index-gates-place.is in
    let wave = c.in_ok-wave.wave in
    let pushed : c.deref_mut.result.now ≡ c.loop-place.waves.items ++ wave ∷ [] = c.deref_mut.ensures.value ∙ c.in_ok-push-2.ensures.items in
    let some : take c.push-in-loop-place.new.self.len (c.drop_waves.new.waves ++ drop (length c.drop_waves.new.waves) c.push-in-loop-place.new.self.items) ≡ c.drop_waves.new.waves =
    written c.drop_waves.new.waves c.push-in-loop-place.new.self.items c.push-in-loop-place.new.self.len
    (c.drop_waves.ensures.count ∙ ap length c.deref_mut.ensures.value) (omega (arith, c.deref_mut.ensures.len, ap length c.deref_mut.ensures.value)) in
    let again : c.deref_mut-in-loop-place.result.now ≡ c.drop_waves.new.waves = c.deref_mut-in-loop-place.ensures.value ∙ some in
    let rest : take c.push-in-loop-place.new.self.len (c.drop_wave.new.waves ++ drop (length c.drop_wave.new.waves) (take c.push-in-loop-place.new.self.len (c.drop_waves.new.waves ++ drop (length c.drop_waves.new.waves) c.push-in-loop-place.new.self.items))) ≡ c.drop_wave.new.waves =
    ap (λ (ws : List Wave). take c.push-in-loop-place.new.self.len (c.drop_wave.new.waves ++ drop (length c.drop_wave.new.waves) ws)) some
    ∙ written c.drop_wave.new.waves c.drop_waves.new.waves c.push-in-loop-place.new.self.len
    (c.drop_wave.ensures.count ∙ ap length again)
    (omega (arith, c.deref_mut.ensures.len, c.drop_waves.ensures.count)) in
    let told : c.push.new.self.items ≡ c.loop-place.lasts.items ++ last wave ∷ [] =
    c.in_ok-push.ensures.items ∙ ap (λ (m : Option ℕ). c.loop-place.lasts.items ++ m ∷ []) c.last.ensures in
    let first : HasLeft c.args.ends.now (c.loop-place.place + 1) (c.loop-place.waves.items ++ wave ∷ []) c.drop_waves.new.waves =
    subst (λ (ws : List Wave). HasLeft c.args.ends.now (c.loop-place.place + 1) ws c.drop_waves.new.waves) pushed c.drop_waves.ensures in
    let second : HasLeft c.args.ends.now (c.loop-place.place + 1) c.drop_waves.new.waves c.drop_wave.new.waves =
    subst (λ (ws : List Wave). HasLeft c.args.ends.now (c.loop-place.place + 1) ws c.drop_wave.new.waves) again c.drop_wave.ensures in
    let now = left_step c.args.circuit.now c.args.first.now c.args.second.now c.gates-gates.ensures.numbering c.moments-moments.ensures.fit c.requires.first_fits c.requires.second_fits c.args.ends.now c.requires.ends
    c.loop-place.place (c.loop-place.place + 1) c.loop-place.waves.items c.loop-place.lasts.items (gate_of c.index-gates-place.result) wave c.drop_waves.new.waves c.drop_wave.new.waves next
    c.loop-place.invariant placed
    (rw c.deref-in-loop-place.ensures.value at (c.in_ok-wave.ensures.obeys (gate_of c.index-gates-place.result) placed))
    c.in_ok-wave.ensures.wave c.in_ok-wave.ensures.within first second in
    subst (λ (ws : List Wave). IsLeftUpTo c.args.circuit.now c.args.first.now c.args.second.now c.args.ends.now (c.loop-place.place + 1) ws c.push.new.self.items) (sym rest)
    (subst (λ (ms : List (Option ℕ)). IsLeftUpTo c.args.circuit.now c.args.first.now c.args.second.now c.args.ends.now (c.loop-place.place + 1) c.drop_wave.new.waves ms) (sym told) now)

pub returns-clause-left : goal.returns-clause-left
returns-clause-left c =
    let count = count_same c.gates-gates.result.now c.args.circuit.now.gates c.gates-gates.ensures.gates in
    let all : c.loop-place.place ≡ length c.args.circuit.now.gates = omega (arith, count, c.loop-place-test.false, c.loop-place.auto.place-end) in
    left_end c.args.circuit.now c.args.first.now c.args.second.now c.gates-gates.ensures.numbering c.moments-moments.ensures.fit c.requires.first_fits c.requires.second_fits c.args.ends.now c.requires.ends c.loop-place.place c.loop-place.waves.items c.loop-place.lasts.items all c.loop-place.invariant
