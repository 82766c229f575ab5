use Rattle.std.proofs.Common.{arith}
use Rattle.td_propagation.proofs.Trails.{all_forgotten, forgotten_listed, forgotten_inside}
use Rattle.td_propagation.proofs.denied.Denied.clear.Goals as goal

pub invariant_of-self-clause-listed : goal.invariant_of-self-clause-listed
invariant_of-self-clause-listed c =
    rw c.none.ensures (forgotten_listed c.loop-variable.self.marks.items c.loop-variable.self.trail.items c.pop.new.self.items c.in-Some.variable
    c.in-Some.ensures.items c.loop-variable.self.inside c.loop-variable.self.listed)

pub invariant_of-self-clause-inside : goal.invariant_of-self-clause-inside
invariant_of-self-clause-inside c =
    rw c.none.ensures (forgotten_inside c.loop-variable.self.marks.items c.loop-variable.self.trail.items c.pop.new.self.items c.in-Some.variable
    c.in-Some.ensures.items c.loop-variable.self.inside)

pub returns : goal.returns
returns c = all_forgotten _ c.loop-variable.self.marks.items c.loop-variable.self.trail.items c.pop.new.self.items c.in_default.ensures.items (let none = c.in_default.ensures.cases in omega arith)
    c.loop-variable.invariant c.loop-variable.self.listed
