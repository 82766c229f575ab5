use Rattle.td_lines.specs.Values.{index_value}
use Rattle.td_lines.proofs.Steps.{items_closed}
use Rattle.td_lines.proofs.claims.indexes_ended.Goals as goal

pub returns : goal.returns
returns c = items_closed c.end_array.result c.args.writer.now _ c.end_array.new.self index_value c.args.numbers.now c.in_ok-indexes.ensures c.end_array.ensures
