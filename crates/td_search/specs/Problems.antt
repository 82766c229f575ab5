-- What a search is asked: the delays of the admitted pairs of a setting, and by which strategy.
use Rattle.std.specs.Prelude.{Bool, true, false, ℕ, ◌≤◌, List, Some}
use Rattle.td_circuit.specs.Settings.{Setting}
use Rattle.td_circuit.specs.Numbering.{Numbered, setting}
use Rattle.td_circuit.specs.Run.{IsDelayOfBits}
use Rattle.td_domain.specs.declared.cubes.Trit.{Trit}
use Rattle.td_domain.specs.Pairs.{Pair}
use Rattle.td_domain.specs.Cubes.{IsIn}
use Rattle.td_domain.specs.Admits.{Admitted, IsAdmitted}
use Rattle.td_certificate.specs.declared.tree.BoundedBy.{BoundedBy}
use Rattle.td_certificate.specs.declared.tree.BoundedBy.TheVariants.{Arrival, Possible, Both, Edges, EdgesAndPossible}
use Rattle.td_certificate.specs.Accepts.{IsBoundBy}
use Rattle.td_search.specs.declared.problem.Problem.{Problem as Declared}
use Rattle.td_search.specs.declared.strategy.Strategy.{Strategy}
use Rattle.td_search.specs.declared.strategy.Strategy.TheVariants.{Least, Lead}

pub record Problem : Type 0 where
  pub setting : Setting
  pub admit : Admitted
  pub strategy : Strategy

abbrev pub problem_by : Strategy → Numbered → Admitted → Problem
problem_by strategy circuit admit = record { setting = setting circuit; admit = admit; strategy = strategy }

-- with the strategy that is the default
abbrev pub problem : Numbered → Admitted → Problem
problem circuit admit = problem_by Least circuit admit

-- as a search is handed it
abbrev pub problem_of : Declared → Problem
problem_of given = problem_by given.strategy given.circuit.now given.admit.now

-- whether a strategy measures the pair that stands for a cube before it bounds the cube
abbrev pub measures_first : Strategy → Bool
measures_first Least = true
measures_first Lead = false

-- the strongest domain by which a strategy bounds cubes
abbrev pub strongest : Strategy → BoundedBy
strongest Least = Both
strongest Lead = EdgesAndPossible

-- the domains by whose bounds a strategy closes cubes
abbrev pub asks : Strategy → BoundedBy → Bool
asks Least Arrival = true
asks Least Possible = true
asks Least Both = true
asks Least Edges = false
asks Least EdgesAndPossible = false
asks Lead Arrival = false
asks Lead Possible = true
asks Lead Both = false
asks Lead Edges = true
asks Lead EdgesAndPossible = true

-- the pair is admitted, and has this delay
abbrev pub has_delay : Problem → Pair → ℕ → Type 0
has_delay asked pair delay = IsAdmitted asked.admit pair × IsDelayOfBits asked.setting pair.first pair.second delay

-- the strongest domain bounds the cube so
abbrev pub has_bound : Problem → List Trit → ℕ → Type 0
has_bound asked cube bound = IsBoundBy (strongest asked.strategy) asked.setting cube (Some bound)

-- no admitted pair of the cube has a greater delay
abbrev pub IsAbove : Problem → List Trit → ℕ → Type 0
IsAbove asked cube bound = (pair : Pair) (delay : ℕ) → IsIn pair cube → has_delay asked pair delay → delay ≤ bound

-- each pair of the cube is one of the whole
abbrev pub IsPart : List Trit → List Trit → Type 0
IsPart cube whole = (pair : Pair) → IsIn pair cube → IsIn pair whole
