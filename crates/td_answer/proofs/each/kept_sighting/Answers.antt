use Rattle.std.proofs.Common.{◌≡◌, IfOk, Option, subst}
use Rattle.td_domain.specs.Pairs.{Pair}
use Rattle.td_lines.specs.declared.line.Found.{Found}
use Rattle.td_answer.specs.Sightings.{kept_pair, sighted}
use Rattle.td_answer.proofs.each.kept_sighting.Goals as goal

pub returns : goal.returns
returns c =
    subst (λ (found : Found). IfOk c.sighted.result (λ seen. seen ≡ sighted c.args.is_asked found (kept_pair c.args.kept.answer))) c.kept_found-known.ensures
    (subst (λ (pair : Option Pair). IfOk c.sighted.result (λ seen. seen ≡ sighted c.args.is_asked c.kept_found-known.result pair)) c.kept_pair.ensures c.sighted.ensures)
