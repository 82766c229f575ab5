use Rattle.td_lines.proofs.Steps.{items_closed}
use Rattle.td_lines.proofs.members.values_ended.Goals as goal

pub returns : goal.returns
returns g c = items_closed c.end_array.result c.args.writer.now _ c.end_array.new.self g.V.Valued.value c.args.items.now c.in_ok-values.ensures c.end_array.ensures
