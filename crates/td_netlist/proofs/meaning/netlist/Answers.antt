use Rattle.std.proofs.Common.{◌∙◌, List, ap, map}
use Rattle.td_netlist.specs.declared.primitive.Primitive as code_primitive
use Rattle.td_netlist.specs.CheckViews.{primitive_of}
use Rattle.td_netlist.proofs.meaning.netlist.Goals as goal

pub from_instances-requires-clause-instances : goal.from_instances-requires-clause-instances
from_instances-requires-clause-instances c = ap (λ (ps : List code_primitive.Primitive). map primitive_of ps) c.deref.ensures.value ∙ c.in_ok-instances.ensures
