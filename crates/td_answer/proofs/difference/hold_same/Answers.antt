use Rattle.std.proofs.lemmas.Slice.Eq.{slice_eq-Decides}
use Rattle.std.specs.Cmp.{booleans_Decides}
use Rattle.td_answer.proofs.difference.hold_same.Goals as goal

pub returns : goal.returns
returns c = slice_eq-Decides booleans_Decides c.args.this.now c.args.that.now c.eq.result c.eq.ensures
