use Rattle.td_answer.proofs.changes.changes_of.Goals as goal

pub returns-clause-changes : goal.returns-clause-changes
returns-clause-changes g c = record {
  net = c.args.alone.net;
  output = c.requires.output;
  rise = c.in_ok-rise.ensures.found;
  fall = c.in_ok-fall.ensures.found;
  glitch = c.in_ok-glitch.ensures.found;
}
