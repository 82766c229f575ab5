use Rattle.std.proofs.Common.{sym, subst}
use Rattle.td_event_sim.specs.Scratch.{Space, IsFor}
use Rattle.td_event_sim.proofs.scratch.simulated.Goals as goal

pub simulate-requires-clause-fits : goal.simulate-requires-clause-fits
simulate-requires-clause-fits c =
    let was : IsFor c.args.circuit.now _ = subst (λ (space : Space). IsFor c.args.circuit.now space) (sym c.scratch.view_is) c.requires.scratch in
    record {
      levels = was.levels;
      tallies = was.tallies;
      rules = was.rules;
      latest = was.latest;
      whens = was.whens;
      queue = was.queue;
    }

pub returns-clause-scratch : goal.returns-clause-scratch
returns-clause-scratch c =
    let was : IsFor c.args.circuit.now _ = subst (λ (space : Space). IsFor c.args.circuit.now space) (sym c.scratch.view_is) c.requires.scratch in
    let fits = c.simulate.ensures.fits in
    record {
      readers = was.readers;
      levels = fits.levels;
      tallies = fits.tallies;
      rules = fits.rules;
      latest = fits.latest;
      whens = fits.whens;
      queue = fits.queue;
      cache = was.cache;
    }
