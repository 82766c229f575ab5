use Rattle.std.proofs.lemmas.Slice.Eq.{slice_eq-Decides}
use Rattle.td_join.proofs.Conditions.{same_condition}
use Rattle.td_answer.proofs.difference.keep_same.Goals as goal

pub returns : goal.returns
returns c = slice_eq-Decides same_condition c.args.this.now c.args.that.now c.eq.result c.eq.ensures
