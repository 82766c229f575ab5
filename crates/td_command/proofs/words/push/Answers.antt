use Rattle.std.proofs.Common.{◌∙◌, ℕ, List, ap, map}
use Rattle.std.specs.Borrow.{Bor}
use Rattle.std.proofs.lemmas.List.{map-append}
use Rattle.td_command.proofs.words.push.Goals as goal

pub returns : goal.returns
returns c =
    ap (map (λ (word : Bor (List ℕ)). word.now)) c.in_ok-extend_from_slice.ensures.items
    ∙ map-append (λ (word : Bor (List ℕ)). word.now) c.args.all.now.items c.args.words.now
