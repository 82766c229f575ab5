use Rattle.std.proofs.Common.{◌∙◌, List, ap, set, length}
use Rattle.std.proofs.lemmas.List.{map-set}
use Rattle.std.proofs.lemmas.List.Elements.{All-set}
use Rattle.td_circuit.specs.Numbering.{setting}
use Rattle.td_domain.specs.declared.cubes.Trit.{Trit}
use Rattle.td_parts.specs.Splits.{IsTruePart, cube_of, cubes_of}
use Rattle.td_parts.proofs.Waiting.{joined_below, narrowed_waits}
use Rattle.td_parts.proofs.cutting.Cutting.narrow.Goals as goal

pub returns-clause-cubes : goal.returns-clause-cubes
returns-clause-cubes g c =
    map-set cube_of c.args.self.now.parts.items c.args.place c.in_ok-part.part
    ∙ ap (λ (cube : List Trit). set (cubes_of c.args.self.now.parts.items) c.args.place cube) c.in_ok-part.ensures.cube

pub returns-clause-splits : goal.returns-clause-splits
returns-clause-splits g c true =
    All-set (IsTruePart c.args.task.now.problem.now.strategy (setting c.args.task.now.problem.now.circuit.now)) c.args.self.now.parts.items c.args.place c.in_ok-part.part c.in_ok-part.ensures.split true

pub returns-clause-queued : goal.returns-clause-queued
returns-clause-queued g c below =
    joined_below (length c.args.self.now.parts.items) c.args.place c.args.self.now.queue c.push.new.self c.requires.place c.in_ok-push.ensures below

pub returns-clause-waiting : goal.returns-clause-waiting
returns-clause-waiting g c waiting =
    narrowed_waits c.args.self.now.parts.items c.args.place c.in_ok-part.part c.args.self.now.queue c.push.new.self waiting c.in_ok-push.ensures
