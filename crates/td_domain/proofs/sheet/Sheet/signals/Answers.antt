use Rattle.std.proofs.Common.{◌∙◌, ap}
use Rattle.td_domain.specs.Sheets.{Shown}
use Rattle.td_domain.proofs.Soundness.{front-values}
use Rattle.td_domain.proofs.sheet.Sheet.signals.Goals as goal

pub returns-clause-all : goal.returns-clause-all
returns-clause-all g c = λ circuit is.
    rw (c.deref.ensures.value ∙ ap (λ (s : Shown _). s.signals) c.self.view_is)
    (front-values g.D.Domain.functions g.D.Domain.reach circuit is.numbering c.args.self.now.cube
    c.args.self.now.signals is.page.count is.page.front)
