-- Internal: the parts of a line that lowers an end.
use Rattle.std.specs.Prelude.{Option, Some, None, map}
use Rattle.td_refutation.specs.declared.refutation.Lower.{Lower}
use Rattle.td_refutation.specs.Lines.{Deed, NoDeed, Lowering, literal_at}

abbrev pub lowered_by : Option Lower → Deed
lowered_by None = NoDeed
lowered_by (Some lower) = Lowering lower.net lower.level lower.place (map literal_at lower.clause.now) lower.hints.now
