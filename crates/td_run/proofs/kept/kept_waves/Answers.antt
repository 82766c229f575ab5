use Rattle.std.proofs.Common.{◌≡◌, ◌∙◌, ◌++◌, ℕ, List, Bool, Some, ap, sym, subst, length}
use Rattle.std.specs.Prelude.{slice_get}
use Rattle.td_circuit.specs.Numbering.{nets}
use Rattle.td_run.specs.Keeping.{wanted_waves, IsKeptOf, IsLeftUpTo}
use Rattle.td_run.proofs.Choosing.{length-wanted, left_long, lasts_long, only_kept, some_kept, kept_small}
use Rattle.td_run.proofs.kept.kept_waves.Goals as goal

pub invariant_of-result : goal.invariant_of-result
invariant_of-result c =
    let so : IsLeftUpTo c.args.circuit.now c.args.first.now c.args.second.now c.in_ok-ends.ends.items (length c.args.circuit.now.gates) c.in-Some.left.waves.items c.in-Some.left.lasts.items =
    subst (λ (es : List ℕ). IsLeftUpTo c.args.circuit.now c.args.first.now c.args.second.now es (length c.args.circuit.now.gates) c.in-Some.left.waves.items c.in-Some.left.lasts.items)
    c.deref.ensures.value (rw c.in-Some.is at c.in_ok-left.ensures.left) in
    let own : c.extend_from_slice.new.self.items ≡ c.args.wanted.now =
    c.in_ok-extend_from_slice.ensures.items ∙ ap (λ (ws : List Bool). ws ++ c.args.wanted.now) c.new-own.ensures.items in
    left_long c.args.circuit.now c.args.first.now c.args.second.now c.in_ok-left.ensures.numbering c.in_ok-left.ensures.fit c.requires.first_fits c.requires.second_fits
    c.in_ok-ends.ends.items c.in_ok-ends.ensures.ends c.args.wanted.now c.in_ok-ends.ensures.wanted c.in-Some.left.waves.items c.in-Some.left.lasts.items so
    ∙ sym c.requires.wanted ∙ sym (ap length own)

pub returns-clause-runs : goal.returns-clause-runs
returns-clause-runs c =
    let so : IsLeftUpTo c.args.circuit.now c.args.first.now c.args.second.now c.in_ok-ends.ends.items (length c.args.circuit.now.gates) c.in-Some.left.waves.items c.in-Some.left.lasts.items =
    subst (λ (es : List ℕ). IsLeftUpTo c.args.circuit.now c.args.first.now c.args.second.now es (length c.args.circuit.now.gates) c.in-Some.left.waves.items c.in-Some.left.lasts.items)
    c.deref.ensures.value (rw c.in-Some.is at c.in_ok-left.ensures.left) in
    let own : c.extend_from_slice.new.self.items ≡ c.args.wanted.now =
    c.in_ok-extend_from_slice.ensures.items ∙ ap (λ (ws : List Bool). ws ++ c.args.wanted.now) c.new-own.ensures.items in
    let some = some_kept c.args.circuit.now c.args.first.now c.args.second.now c.in_ok-left.ensures.numbering c.in_ok-left.ensures.fit c.requires.first_fits c.requires.second_fits
    c.in_ok-ends.ends.items c.in_ok-ends.ensures.ends c.args.wanted.now c.in_ok-ends.ensures.wanted c.in-Some.left.waves.items c.in-Some.left.lasts.items so in (
      some.0,
      some.1,
      subst (λ (ws : List Bool). IsKeptOf (nets c.args.circuit.now) some.0 c.args.wanted.now (record { waves = wanted_waves ws c.in-Some.left.waves.items; lasts = c.in-Some.left.lasts.items })) (sym own) some.2,
    )

pub returns-clause-only : goal.returns-clause-only
returns-clause-only c = λ other runs.
    let so : IsLeftUpTo c.args.circuit.now c.args.first.now c.args.second.now c.in_ok-ends.ends.items (length c.args.circuit.now.gates) c.in-Some.left.waves.items c.in-Some.left.lasts.items =
    subst (λ (es : List ℕ). IsLeftUpTo c.args.circuit.now c.args.first.now c.args.second.now es (length c.args.circuit.now.gates) c.in-Some.left.waves.items c.in-Some.left.lasts.items)
    c.deref.ensures.value (rw c.in-Some.is at c.in_ok-left.ensures.left) in
    let own : c.extend_from_slice.new.self.items ≡ c.args.wanted.now =
    c.in_ok-extend_from_slice.ensures.items ∙ ap (λ (ws : List Bool). ws ++ c.args.wanted.now) c.new-own.ensures.items in
    subst (λ (ws : List Bool). IsKeptOf (nets c.args.circuit.now) other c.args.wanted.now (record { waves = wanted_waves ws c.in-Some.left.waves.items; lasts = c.in-Some.left.lasts.items })) (sym own)
    (only_kept c.args.circuit.now c.args.first.now c.args.second.now c.in_ok-left.ensures.numbering c.in_ok-left.ensures.fit c.requires.first_fits c.requires.second_fits
    c.in_ok-ends.ends.items c.in_ok-ends.ensures.ends c.args.wanted.now c.in_ok-ends.ensures.wanted c.in-Some.left.waves.items c.in-Some.left.lasts.items so other runs)

pub returns-clause-small : goal.returns-clause-small
returns-clause-small c = λ net wave at.
    let so : IsLeftUpTo c.args.circuit.now c.args.first.now c.args.second.now c.in_ok-ends.ends.items (length c.args.circuit.now.gates) c.in-Some.left.waves.items c.in-Some.left.lasts.items =
    subst (λ (es : List ℕ). IsLeftUpTo c.args.circuit.now c.args.first.now c.args.second.now es (length c.args.circuit.now.gates) c.in-Some.left.waves.items c.in-Some.left.lasts.items)
    c.deref.ensures.value (rw c.in-Some.is at c.in_ok-left.ensures.left) in
    let own : c.extend_from_slice.new.self.items ≡ c.args.wanted.now =
    c.in_ok-extend_from_slice.ensures.items ∙ ap (λ (ws : List Bool). ws ++ c.args.wanted.now) c.new-own.ensures.items in
    kept_small c.args.circuit.now c.args.first.now c.args.second.now c.in_ok-left.ensures.numbering c.in_ok-left.ensures.fit c.requires.first_fits c.requires.second_fits
    c.in_ok-ends.ends.items c.in_ok-ends.ensures.ends c.args.wanted.now c.in_ok-ends.ensures.wanted c.in-Some.left.waves.items c.in-Some.left.lasts.items so net wave
    (subst (λ (ws : List Bool). slice_get (wanted_waves ws c.in-Some.left.waves.items) net ≡ Some (Some wave)) own at)

pub returns-clause-count : goal.returns-clause-count
returns-clause-count c =
    let so : IsLeftUpTo c.args.circuit.now c.args.first.now c.args.second.now c.in_ok-ends.ends.items (length c.args.circuit.now.gates) c.in-Some.left.waves.items c.in-Some.left.lasts.items =
    subst (λ (es : List ℕ). IsLeftUpTo c.args.circuit.now c.args.first.now c.args.second.now es (length c.args.circuit.now.gates) c.in-Some.left.waves.items c.in-Some.left.lasts.items)
    c.deref.ensures.value (rw c.in-Some.is at c.in_ok-left.ensures.left) in
    let own : c.extend_from_slice.new.self.items ≡ c.args.wanted.now =
    c.in_ok-extend_from_slice.ensures.items ∙ ap (λ (ws : List Bool). ws ++ c.args.wanted.now) c.new-own.ensures.items in
    let long = left_long c.args.circuit.now c.args.first.now c.args.second.now c.in_ok-left.ensures.numbering c.in_ok-left.ensures.fit c.requires.first_fits c.requires.second_fits
    c.in_ok-ends.ends.items c.in_ok-ends.ensures.ends c.args.wanted.now c.in_ok-ends.ensures.wanted c.in-Some.left.waves.items c.in-Some.left.lasts.items so in
    ap (λ (ws : List Bool). length (wanted_waves ws c.in-Some.left.waves.items)) own
    ∙ length-wanted c.args.wanted.now c.in-Some.left.waves.items (long ∙ sym c.requires.wanted) ∙ c.requires.wanted

pub returns-clause-lasts_count : goal.returns-clause-lasts_count
returns-clause-lasts_count c =
    let so : IsLeftUpTo c.args.circuit.now c.args.first.now c.args.second.now c.in_ok-ends.ends.items (length c.args.circuit.now.gates) c.in-Some.left.waves.items c.in-Some.left.lasts.items =
    subst (λ (es : List ℕ). IsLeftUpTo c.args.circuit.now c.args.first.now c.args.second.now es (length c.args.circuit.now.gates) c.in-Some.left.waves.items c.in-Some.left.lasts.items)
    c.deref.ensures.value (rw c.in-Some.is at c.in_ok-left.ensures.left) in
    lasts_long c.args.circuit.now c.args.first.now c.args.second.now c.in_ok-left.ensures.numbering c.in_ok-left.ensures.fit c.requires.first_fits c.requires.second_fits
    c.in_ok-ends.ends.items c.in_ok-ends.ensures.ends c.args.wanted.now c.in_ok-ends.ensures.wanted c.in-Some.left.waves.items c.in-Some.left.lasts.items so
