use Rattle.std.proofs.Common.{rules, ◌∙◌, ◌*◌, ℕ, length, refl, ap}
use Rattle.std.proofs.lemmas.Option.{slice_get_read}
use Rattle.td_circuit.specs.Numbering.{setting}
use Rattle.td_domain.specs.declared.cubes.Trit.TheVariants.{Zero, One}
use Rattle.td_join.proofs.Weights.{zero_is, one_is}
use Rattle.td_parts.proofs.Steps.{half_fits, high_kept, low_kept, both_kept, one_smaller, both_smaller}
use Rattle.td_parts.proofs.cutting.Cutting.halve.Goals as goal

pub any-requires : goal.any-requires
any-requires g c =
    half_fits c.args.task.now.problem.now.strategy (setting c.args.task.now.problem.now.circuit.now) c.args.task.now.problem.now.admit.now c.args.self.now c.args.place c.index.result.now c.args.position c.requires.cutting
    (slice_get_read c.args.self.now.parts.items (length c.args.self.now.parts.items) c.args.place c.index.result.now refl c.requires.place c.index.ensures) c.requires.free Zero c.in_ok-low.low c.in_ok-low.ensures.low

pub any-requires-2 : goal.any-requires-2
any-requires-2 g c =
    half_fits c.args.task.now.problem.now.strategy (setting c.args.task.now.problem.now.circuit.now) c.args.task.now.problem.now.admit.now c.args.self.now c.args.place c.index.result.now c.args.position c.requires.cutting
    (slice_get_read c.args.self.now.parts.items (length c.args.self.now.parts.items) c.args.place c.index.result.now refl c.requires.place c.index.ensures) c.requires.free One c.in_ok-low.high c.in_ok-low.ensures.high

pub narrow-requires-clause-positions : goal.narrow-requires-clause-positions
narrow-requires-clause-positions g c = λ κ l.
    half_fits c.args.task.now.problem.now.strategy (setting c.args.task.now.problem.now.circuit.now) c.args.task.now.problem.now.admit.now c.args.self.now c.args.place c.index.result.now c.args.position c.requires.cutting
    (slice_get_read c.args.self.now.parts.items (length c.args.self.now.parts.items) c.args.place c.index.result.now refl c.requires.place c.index.ensures) c.requires.free One c.in_ok-low.high c.in_ok-low.ensures.high
    ∙ c.pins-fit.ensures.fit ∙ ap (λ (n : ℕ). 2 * n) c.args.task.now.problem.now.held

pub narrow-requires-2-clause-positions : goal.narrow-requires-2-clause-positions
narrow-requires-2-clause-positions g c = λ κ l.
    half_fits c.args.task.now.problem.now.strategy (setting c.args.task.now.problem.now.circuit.now) c.args.task.now.problem.now.admit.now c.args.self.now c.args.place c.index.result.now c.args.position c.requires.cutting
    (slice_get_read c.args.self.now.parts.items (length c.args.self.now.parts.items) c.args.place c.index.result.now refl c.requires.place c.index.ensures) c.requires.free Zero c.in_ok-low.low c.in_ok-low.ensures.low
    ∙ c.pins-fit.ensures.fit ∙ ap (λ (n : ℕ). 2 * n) c.args.task.now.problem.now.held

pub add-requires-clause-positions : goal.add-requires-clause-positions
add-requires-clause-positions g c = λ κ l.
    half_fits c.args.task.now.problem.now.strategy (setting c.args.task.now.problem.now.circuit.now) c.args.task.now.problem.now.admit.now c.args.self.now c.args.place c.index.result.now c.args.position c.requires.cutting
    (slice_get_read c.args.self.now.parts.items (length c.args.self.now.parts.items) c.args.place c.index.result.now refl c.requires.place c.index.ensures) c.requires.free One c.in_ok-low.high c.in_ok-low.ensures.high
    ∙ c.pins-fit.ensures.fit ∙ ap (λ (n : ℕ). 2 * n) c.args.task.now.problem.now.held

pub returns-then-not-any-clause-cutting : goal.returns-then-not-any-clause-cutting
returns-then-not-any-clause-cutting g c =
    high_kept c.args.task.now.problem.now.strategy (setting c.args.task.now.problem.now.circuit.now) c.args.task.now.problem.now.admit.now c.args.self.now c.args.place c.index.result.now c.args.position c.requires.cutting
    (slice_get_read c.args.self.now.parts.items (length c.args.self.now.parts.items) c.args.place c.index.result.now refl c.requires.place c.index.ensures) c.requires.free c.narrow.new.self c.in_ok-low.low c.in_ok-low.high c.in_ok-low.ensures.low c.in_ok-low.ensures.high (search rules)
    c.in_ok-narrow.ensures.cubes (c.in_ok-narrow.ensures.splits c.requires.cutting.splits) (c.in_ok-narrow.ensures.queued c.requires.cutting.queued)

pub returns-then-not-any-clause-smaller : goal.returns-then-not-any-clause-smaller
returns-then-not-any-clause-smaller g c =
    one_smaller c.args.task.now.problem.now.strategy (setting c.args.task.now.problem.now.circuit.now) c.args.task.now.problem.now.admit.now c.args.self.now c.args.place c.index.result.now c.args.position c.requires.cutting
    (slice_get_read c.args.self.now.parts.items (length c.args.self.now.parts.items) c.args.place c.index.result.now refl c.requires.place c.index.ensures) c.requires.free One one_is c.narrow.new.self c.in_ok-low.high c.in_ok-low.ensures.high c.in_ok-narrow.ensures.cubes

pub returns-then-not-any-2-clause-cutting : goal.returns-then-not-any-2-clause-cutting
returns-then-not-any-2-clause-cutting g c =
    low_kept c.args.task.now.problem.now.strategy (setting c.args.task.now.problem.now.circuit.now) c.args.task.now.problem.now.admit.now c.args.self.now c.args.place c.index.result.now c.args.position c.requires.cutting
    (slice_get_read c.args.self.now.parts.items (length c.args.self.now.parts.items) c.args.place c.index.result.now refl c.requires.place c.index.ensures) c.requires.free c.narrow-2.new.self c.in_ok-low.low c.in_ok-low.high c.in_ok-low.ensures.low c.in_ok-low.ensures.high (search rules) (search rules)
    c.in_ok-narrow-2.ensures.cubes (c.in_ok-narrow-2.ensures.splits c.requires.cutting.splits) (c.in_ok-narrow-2.ensures.queued c.requires.cutting.queued)

pub returns-then-not-any-2-clause-smaller : goal.returns-then-not-any-2-clause-smaller
returns-then-not-any-2-clause-smaller g c =
    one_smaller c.args.task.now.problem.now.strategy (setting c.args.task.now.problem.now.circuit.now) c.args.task.now.problem.now.admit.now c.args.self.now c.args.place c.index.result.now c.args.position c.requires.cutting
    (slice_get_read c.args.self.now.parts.items (length c.args.self.now.parts.items) c.args.place c.index.result.now refl c.requires.place c.index.ensures) c.requires.free Zero zero_is c.narrow-2.new.self c.in_ok-low.low c.in_ok-low.ensures.low c.in_ok-narrow-2.ensures.cubes

pub returns-clause-cutting : goal.returns-clause-cutting
returns-clause-cutting g c =
    both_kept c.args.task.now.problem.now.strategy (setting c.args.task.now.problem.now.circuit.now) c.args.task.now.problem.now.admit.now c.args.self.now c.args.place c.index.result.now c.args.position c.requires.cutting
    (slice_get_read c.args.self.now.parts.items (length c.args.self.now.parts.items) c.args.place c.index.result.now refl c.requires.place c.index.ensures) c.requires.free c.narrow-2.new.self c.add.new.self c.in_ok-low.low c.in_ok-low.high c.in_ok-low.ensures.low c.in_ok-low.ensures.high (search rules) (search rules)
    c.in_ok-narrow-2.ensures.cubes c.in_ok-add.ensures.cubes (c.in_ok-add.ensures.splits (c.in_ok-narrow-2.ensures.splits c.requires.cutting.splits))
    (c.in_ok-narrow-2.ensures.queued c.requires.cutting.queued) c.in_ok-add.ensures.queued

pub returns-clause-smaller : goal.returns-clause-smaller
returns-clause-smaller g c =
    both_smaller c.args.task.now.problem.now.strategy (setting c.args.task.now.problem.now.circuit.now) c.args.task.now.problem.now.admit.now c.args.self.now c.args.place c.index.result.now c.args.position c.requires.cutting
    (slice_get_read c.args.self.now.parts.items (length c.args.self.now.parts.items) c.args.place c.index.result.now refl c.requires.place c.index.ensures) c.requires.free c.narrow-2.new.self c.add.new.self c.in_ok-low.low c.in_ok-low.high c.in_ok-low.ensures.low c.in_ok-low.ensures.high c.in_ok-narrow-2.ensures.cubes c.in_ok-add.ensures.cubes

pub returns-then-not-any-clause-waiting : goal.returns-then-not-any-clause-waiting
returns-then-not-any-clause-waiting g c = c.in_ok-narrow.ensures.waiting c.requires.waiting

pub returns-then-not-any-2-clause-waiting : goal.returns-then-not-any-2-clause-waiting
returns-then-not-any-2-clause-waiting g c = c.in_ok-narrow-2.ensures.waiting c.requires.waiting

pub returns-clause-waiting : goal.returns-clause-waiting
returns-clause-waiting g c = c.in_ok-add.ensures.waiting (c.in_ok-narrow-2.ensures.waiting c.requires.waiting)
