use Rattle.std.proofs.Common.{◌≡◌, ◌∙◌, ap, ℕ, List, [], ◌∷◌}
use Rattle.std.proofs.lemmas.Result.{IfOk-weaker}
use Rattle.td_gates.specs.declared.primitives.Level.TheVariants.{One}
use Rattle.td_gates.specs.declared.timing.Change.{Change}
use Rattle.td_gates.specs.Wave.{Wave, before}
use Rattle.td_ternary.specs.Possibles.{possible}
use Rattle.td_ternary.proofs.Ahead.{possible-beside}
use Rattle.td_ternary.proofs.merging.output_of_one.Goals as goal

abbrev starting_high : List Change → Wave
starting_high changes = record { start = One; changes = changes }

pub returns-clause-shows : goal.returns-clause-shows
returns-clause-shows c = IfOk-weaker c.output_of_two.result
    (λ (wave : Wave). (n : ℕ) → before wave n ≡ possible c.beside_one.result c.args.delay (c.args.input.now ∷ c.from_changes-ones.result ∷ []) n)
    (λ (wave : Wave). (n : ℕ) → before wave n ≡ possible c.args.kind c.args.delay (c.args.input.now ∷ []) n)
    (λ (wave : Wave) (shows : (n : ℕ) → before wave n ≡ possible c.beside_one.result c.args.delay (c.args.input.now ∷ c.from_changes-ones.result ∷ []) n). λ n.
    shows n ∙ possible-beside c.args.kind c.beside_one.result c.args.delay c.args.input.now c.from_changes-ones.result c.beside_one.ensures
    (c.from_changes-ones.ensures ∙ ap starting_high c.new.ensures.items) n)
    c.output_of_two.ensures.shows
