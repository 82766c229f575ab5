use Rattle.std.proofs.Common.{◌∙◌, List, ℕ, sym, ap}
use Rattle.std.specs.Str.{bytes_eq}
use Rattle.std.proofs.lemmas.Iterator.Adapters.{position_from-zero}
use Rattle.td_question.specs.Found.{place_in}
use Rattle.td_question.proofs.NetNames.{from_map}
use Rattle.td_question.proofs.net_names.NetNames.place_of.Goals as goal

pub returns : goal.returns
returns c =
    c.get_index_of.ensures.index
    ∙ position_from-zero (λ k. bytes_eq c.args.name.now k.now) c.self.inside.set.keys
    ∙ sym (from_map (λ k. k.now) c.args.name.now 0 c.self.inside.set.keys)
    ∙ ap (λ (names : List (List ℕ)). place_in names c.args.name.now) c.self.view_is
