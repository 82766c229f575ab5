use Rattle.std.proofs.Common.{◌≡◌, IfOk, Some, subst}
use Rattle.td_domain.specs.Pairs.{Pair}
use Rattle.td_lines.specs.declared.line.Found.{Found}
use Rattle.td_answer.specs.Lines.{pair_in}
use Rattle.td_answer.specs.Sightings.{sighted}
use Rattle.td_answer.proofs.each.sighting_of.Goals as goal

pub returns : goal.returns
returns c =
    subst (λ (found : Found). IfOk c.sighted.result (λ seen. seen ≡ sighted c.args.is_asked found (Some (pair_in c.args.found.answer)))) c.found_of-known.ensures
    (subst (λ (pair : Pair). IfOk c.sighted.result (λ seen. seen ≡ sighted c.args.is_asked c.found_of-known.result (Some pair))) c.pair_in.ensures c.sighted.ensures)
