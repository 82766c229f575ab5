use Rattle.std.proofs.Common.{◌≡◌, ◌<◌, ◌∙◌, ap, sym, refl, arith, rules, length}
use Rattle.std.specs.Prelude.{slice_get}
use Rattle.std.proofs.lemmas.Option.{slice_get_read}
use Rattle.td_run.specs.Keeping.{KeptWaves}
use Rattle.td_run.proofs.Choosing.{length-wanted, wanted_there, wanted_not}
use Rattle.td_run.proofs.kept.Kept.wave.Goals as goal

pub index-requires : goal.index-requires
index-requires c =
    let count : length c.args.self.now.waves ≡ length c.self.inside.wanted.items =
    ap (λ (k : KeptWaves). length k.waves) (sym c.self.view_is) ∙ length-wanted c.self.inside.wanted.items c.self.inside.waves.items c.self.invariant in
    let here : c.args.net < length c.self.inside.wanted.items = omega (arith, count, c.requires) in
    search (rules, here)

pub index-requires-then-index : goal.index-requires-then-index
index-requires-then-index c =
    let count : length c.args.self.now.waves ≡ length c.self.inside.wanted.items =
    ap (λ (k : KeptWaves). length k.waves) (sym c.self.view_is) ∙ length-wanted c.self.inside.wanted.items c.self.inside.waves.items c.self.invariant in
    let here : c.args.net < length c.self.inside.waves.items = omega (arith, count, c.requires, c.self.invariant) in
    search (rules, here)

pub returns-then-index : goal.returns-then-index
returns-then-index c =
    let count : length c.args.self.now.waves ≡ length c.self.inside.wanted.items =
    ap (λ (k : KeptWaves). length k.waves) (sym c.self.view_is) ∙ length-wanted c.self.inside.wanted.items c.self.inside.waves.items c.self.invariant in
    let here : c.args.net < length c.self.inside.waves.items = omega (arith, count, c.requires, c.self.invariant) in
    ap (λ (k : KeptWaves). slice_get k.waves c.args.net) (sym c.self.view_is)
    ∙ wanted_there c.self.inside.wanted.items c.self.inside.waves.items c.args.net c.index.result.now c.index-then-index.result.now
    (omega (arith, count, c.requires)) (sym c.index.ensures ∙ c.if-index.true)
    (slice_get_read c.self.inside.waves.items (length c.self.inside.waves.items) c.args.net c.index-then-index.result.now refl here c.index-then-index.ensures)

pub returns-else-index : goal.returns-else-index
returns-else-index c =
    let count : length c.args.self.now.waves ≡ length c.self.inside.wanted.items =
    ap (λ (k : KeptWaves). length k.waves) (sym c.self.view_is) ∙ length-wanted c.self.inside.wanted.items c.self.inside.waves.items c.self.invariant in
    ap (λ (k : KeptWaves). slice_get k.waves c.args.net) (sym c.self.view_is)
    ∙ wanted_not c.self.inside.wanted.items c.self.inside.waves.items c.args.net c.index.result.now
    (omega (arith, count, c.requires)) (omega (arith, count, c.requires, c.self.invariant)) (sym c.index.ensures ∙ c.if-index.false)
