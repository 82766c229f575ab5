use Rattle.td_parts.proofs.Steps.{some_each, inside_each, fits_each}
use Rattle.td_parts.proofs.cutting.cut.Goals as goal

pub returns-clause-partition : goal.returns-clause-partition
returns-clause-partition c = c.in_ok-cubes.ensures.shares.partition

pub returns-clause-some : goal.returns-clause-some
returns-clause-some c = some_each c.args.problem.now.admit.now c.in_ok-cubes.cubes.items c.in_ok-cubes.ensures.shares

pub returns-clause-inside : goal.returns-clause-inside
returns-clause-inside c = inside_each c.args.problem.now.admit.now c.in_ok-cubes.cubes.items c.in_ok-cubes.ensures.shares

pub returns-clause-fits : goal.returns-clause-fits
returns-clause-fits c = fits_each c.args.problem.now.admit.now c.in_ok-cubes.cubes.items c.in_ok-cubes.ensures.shares
