use Rattle.std.proofs.Common.{List, sym, ap, subst}
use Rattle.td_event_sim.specs.Cached.{Cached, AreOf}
use Rattle.td_event_sim.specs.Scratch.{Space, IsFor}
use Rattle.td_event_sim.proofs.Caching.{held-is, put-is}
use Rattle.td_event_sim.proofs.scratch.delay_until.Goals as goal

pub returns-in-Some-clause-only : goal.returns-in-Some-clause-only
returns-in-Some-clause-only c =
    let are : AreOf c.args.circuit.now c.scratch.inside.cache =
    subst (λ (cache : List Cached). AreOf c.args.circuit.now cache) (sym (ap (λ (space : Space). space.cache) c.scratch.view_is)) c.requires.scratch.cache in
    (held-is c.args.circuit.now c.scratch.inside.cache c.place_of-place.result c.args.pair.now.first c.args.pair.now.second c.in-Some.delay are c.in-Some.ensures.held).only

pub returns-clause-scratch : goal.returns-clause-scratch
returns-clause-scratch c =
    let circuit = c.args.circuit.now in
    let was : IsFor circuit _ = subst (λ (space : Space). IsFor circuit space) (sym c.scratch-2.view_is) c.simulated.ensures.scratch in
    record {
      readers = was.readers;
      levels = was.levels;
      tallies = was.tallies;
      rules = was.rules;
      latest = was.latest;
      whens = was.whens;
      queue = was.queue;
      cache = subst (λ (cache : List Cached). AreOf circuit cache) (sym c.put.ensures)
          (put-is circuit c.scratch-2.inside.cache c.place_of-place.result c.args.pair.now.first c.args.pair.now.second c.in_ok-delay.delay was.cache
          c.requires.first_fits c.requires.second_fits c.in_ok-delay.ensures.delay);
    }
