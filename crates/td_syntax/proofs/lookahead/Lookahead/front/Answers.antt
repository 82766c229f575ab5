use Rattle.std.proofs.Common.{sym, ap, ◌∙◌}
use Rattle.td_syntax.specs.Tokens.{front_of}
use Rattle.td_syntax.specs.Views.{front_view}
use Rattle.td_syntax.proofs.Lexing.{front_in_front}
use Rattle.td_syntax.proofs.lookahead.Lookahead.front.Goals as goal

pub returns : goal.returns
returns c = sym (front_in_front (front_view c.self.inside.front) c.self.inside.behind) ∙ ap front_of c.self.view_is
