use Rattle.std.proofs.lemmas.Slice.Eq.{slice_eq-Decides}
use Rattle.std.specs.Cmp.{unsigned_Decides}
use Rattle.td_join.proofs.terms.are_same.Goals as goal

pub returns : goal.returns
returns c = slice_eq-Decides unsigned_Decides c.args.this.now c.args.that.now c.eq.result c.eq.ensures
