use Rattle.std.proofs.Common.{◌≡◌, ◌*◌, length, ap, subst, ◌∙◌, arith}
use Rattle.std.proofs.lemmas.Option.{slice_get_within}
use Rattle.td_domain.specs.declared.cubes.Trit.TheVariants.{Free}
use Rattle.td_circuit.specs.Numbering.{setting}
use Rattle.td_search.specs.declared.step.Step.TheVariants as step
use Rattle.td_search.specs.Deciding.{IsStep}
use Rattle.td_search.specs.Problems.{problem_of}
use Rattle.td_search.proofs.Decided.{closed_there, split_there, point_there, by_first}
use Rattle.td_search.proofs.finding.find_measured.Goals as goal

pub returns-in-Close-clause-finding : goal.returns-in-Close-clause-finding
returns-in-Close-clause-finding g c =
    let given = c.args.task.now.problem.now in
    let done : IsStep g.R.Rule.by (setting given.circuit.now) c.args.cube.now c.cut.result (step.Close c.in-Close.by c.in-Close.bound) =
    subst (IsStep g.R.Rule.by (setting given.circuit.now) c.args.cube.now c.cut.result) c.in-Close.is c.in_ok-step.ensures.step in
    closed_there (problem_of given) c.args.cube.now g.R.Rule.by c.args.task.now.by c.cut.result c.in-Close.by c.in-Close.bound done

pub returns-in-Close-2-clause-finding : goal.returns-in-Close-2-clause-finding
returns-in-Close-2-clause-finding g c =
    let given = c.args.task.now.problem.now in
    let done : IsStep g.R.Rule.by (setting given.circuit.now) c.args.cube.now c.cut-2.result (step.Close c.in-Close-2.by c.in-Close-2.bound) =
    subst (IsStep g.R.Rule.by (setting given.circuit.now) c.args.cube.now c.cut-2.result) c.in-Close-2.is c.in_ok-by.ensures.step in
    closed_there (problem_of given) c.args.cube.now g.R.Rule.by c.args.task.now.by c.cut-2.result c.in-Close-2.by c.in-Close-2.bound done

pub overflow_cast-result : goal.overflow_cast-result
overflow_cast-result g c =
    let given = c.args.task.now.problem.now in
    let done : IsStep g.R.Rule.by (setting given.circuit.now) c.args.cube.now c.cut-2.result (step.Split c.in-Split.position c.in-Split.bound) =
    subst (IsStep g.R.Rule.by (setting given.circuit.now) c.args.cube.now c.cut-2.result) c.in-Split.is c.in_ok-by.ensures.step in
    let few = c.gates-numbering.ensures.numbering.well_formed.few_inputs in
    let long : length c.args.cube.now ≡ 2 * length given.circuit.now.netlist.inputs = c.requires.within.0 ∙ (c.pins-pins.ensures.fit ∙ ap (λ n. 2 * n) given.held) in
    let low = slice_get_within c.args.cube.now c.in-Split.position Free done.0 in
    omega (arith, few, long, low)

pub returns-in-Split-clause-finding : goal.returns-in-Split-clause-finding
returns-in-Split-clause-finding g c =
    let given = c.args.task.now.problem.now in
    let done : IsStep g.R.Rule.by (setting given.circuit.now) c.args.cube.now c.cut-2.result (step.Split c.in-Split.position c.in-Split.bound) =
    subst (IsStep g.R.Rule.by (setting given.circuit.now) c.args.cube.now c.cut-2.result) c.in-Split.is c.in_ok-by.ensures.step in
    let within = c.offer.ensures.within in
    let cut = c.cut-2.ensures in
    split_there (problem_of given) c.args.cube.now g.R.Rule.by c.args.task.now.by c.cut-2.result c.in-Split.position c.in-Split.bound c.in_ok-time.time done (omega (arith, within, cut))
    (by_first (problem_of given) c.args.cube.now g.R.Rule.by c.args.task.now.by c.cut-2.result c.requires.first c.in_ok-time.time c.in_ok-time.ensures.measured.is)

pub returns-in-Measure-clause-finding : goal.returns-in-Measure-clause-finding
returns-in-Measure-clause-finding g c =
    let given = c.args.task.now.problem.now in
    let point : IsStep g.R.Rule.by (setting given.circuit.now) c.args.cube.now c.cut-2.result step.Measure =
    subst (IsStep g.R.Rule.by (setting given.circuit.now) c.args.cube.now c.cut-2.result) c.in-Measure.is c.in_ok-by.ensures.step in
    point_there (problem_of given) c.args.cube.now c.in_ok-time.time (c.requires.within.0 ∙ c.pins-pins.ensures.fit) c.in_ok-time.ensures.measured point.0
