use Rattle.std.proofs.Common.{arith, refl}
use Rattle.td_search.proofs.probe.probe_of.Goals as goal

pub returns-in-Some-clause-probe : goal.returns-in-Some-clause-probe
returns-in-Some-clause-probe c =
    let low = c.in_ok-bound.ensures.within c.in-Some.bound c.in-Some.is in
    record {
      is = c.in_ok-bound.ensures.bound c.in-Some.bound c.in-Some.is;
      asked = refl;
      sound = c.in_ok-bound.ensures.sound c.in-Some.bound c.in-Some.is;
      strongest = λ above. absurd (omega arith);
      small = λ above. absurd (omega arith);
    }

pub returns-in-Some-2-clause-probe : goal.returns-in-Some-2-clause-probe
returns-in-Some-2-clause-probe c =
    let low = c.in_ok-bound-2.ensures.within c.in-Some-2.bound c.in-Some-2.is in
    record {
      is = c.in_ok-bound-2.ensures.bound c.in-Some-2.bound c.in-Some-2.is;
      asked = refl;
      sound = c.in_ok-bound-2.ensures.sound c.in-Some-2.bound c.in-Some-2.is;
      strongest = λ above. absurd (omega arith);
      small = λ above. absurd (omega arith);
    }

pub returns-clause-probe : goal.returns-clause-probe
returns-clause-probe c = record {
  is = rw (← c.in_ok-bound.ensures.cube) c.strongest.ensures.bound;
  asked = refl;
  sound = rw (← c.in_ok-bound.ensures.cube) c.strongest.ensures.sound;
  strongest = λ above. rw (← c.in_ok-bound.ensures.cube) c.strongest.ensures.bound;
  small = λ above. c.strongest.ensures.small;
}

pub returns-in-Some-open_bound-clause-probe : goal.returns-in-Some-open_bound-clause-probe
returns-in-Some-open_bound-clause-probe c = record {
  is = rw (← c.in_ok-bound.ensures.cube) c.in-Some-open_bound.ensures.bound;
  asked = refl;
  sound = rw (← c.in_ok-bound.ensures.cube) c.in-Some-open_bound.ensures.sound;
  strongest = λ above. rw (← c.in_ok-bound.ensures.cube) c.in-Some-open_bound.ensures.bound;
  small = λ above. c.in-Some-open_bound.ensures.small;
}
