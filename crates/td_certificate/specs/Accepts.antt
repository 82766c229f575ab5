-- When a certificate is accepted of a netlist.
use Rattle.std.specs.Prelude.{◌≡◌, ℕ, ◌+◌, ◌*◌, ◌≤◌, ◌==◌, nat_lt, nat_le, ◌&&◌, ◌||◌, Bool, true, List, [], ◌∷◌, length, slice_get, option_map, Option, Some, None}
use Rattle.std.specs.List.{AllByRecursion}
use Rattle.td_nets.specs.Netlist.{Netlist}
use Rattle.td_nets.specs.WellFormed.{IsWellFormed}
use Rattle.td_circuit.specs.Loops.{Loop}
use Rattle.td_circuit.specs.Settings.{Setting, AreMoments}
use Rattle.td_circuit.specs.Run.{IsDelayOfBits}
use Rattle.td_domain.specs.declared.cubes.Trit.{Trit}
use Rattle.td_domain.specs.declared.cubes.Trit.TheVariants.{Free}
use Rattle.td_domain.specs.Pairs.{Pair}
use Rattle.td_domain.specs.Cubes.{IsIn, IsPoint}
use Rattle.td_gates.specs.declared.primitives.Level.TheVariants.{X}
use Rattle.td_spans.specs.declared.condition.Form.{Form}
use Rattle.td_spans.specs.declared.condition.Form.TheVariants.{Levels, Equal}
use Rattle.td_refutation.specs.declared.conditions.NamedCondition.{NamedCondition}
use Rattle.td_refutation.specs.Asking.{Asking, IsAskedAbout, MayLie}
use Rattle.td_domain.specs.Bounds.{IsBound}
use Rattle.td_domain.specs.Together.{both_functions}
use Rattle.td_domain.specs.Worst.{IsWorst}
use Rattle.td_arrival.specs.Arrivals.{arrival_functions}
use Rattle.td_ternary.specs.Possibles.{possible_functions}
use Rattle.td_edges.specs.EdgeSignals.{edge_functions}
use Rattle.td_refutation.specs.Whole.{Step, IsRefuted}
use Rattle.td_refutation.specs.Emptied.{IsEmptied}
use Rattle.td_certificate.specs.declared.tree.BoundedBy.{BoundedBy}
use Rattle.td_certificate.specs.declared.tree.BoundedBy.TheVariants as by
use Rattle.td_certificate.specs.declared.tree.Node.{Node}
use Rattle.td_certificate.specs.declared.tree.Node.TheVariants as node
use Rattle.td_certificate.specs.declared.certificate.Certificate.{Certificate}
use Rattle.td_certificate.specs.declared.certificate.Claim.{Claim}
use Rattle.td_certificate.specs.Questions.{inputs_of, keep_by, asking_of}
use Rattle.td_certificate.specs.Spelling.{inputs}
use Rattle.td_certificate.specs.Text.{level_byte}
use Rattle.td_certificate.specs.Trees.{IsTree}
use Rattle.td_certificate.specs.Walks.{Line, lines_from}

-- what the domain of a leaf gives of a cube: its bound, or none
abbrev pub IsBoundBy : BoundedBy → Setting → List Trit → Option ℕ → Type 0
IsBoundBy by.Arrival setting cube answer = IsBound arrival_functions setting cube answer
IsBoundBy by.Possible setting cube answer = IsBound possible_functions setting cube answer
IsBoundBy by.Both setting cube answer = IsBound (both_functions arrival_functions possible_functions) setting cube answer
IsBoundBy by.Edges setting cube answer = IsBound edge_functions setting cube answer
IsBoundBy by.EdgesAndPossible setting cube answer = IsBound (both_functions edge_functions possible_functions) setting cube answer

-- ---- what holds of a line

-- a split is at a position that exists and is free
abbrev pub SplitsFree : List Trit → Node → Type 0
SplitsFree cube (node.Split position) = slice_get cube position ≡ Some Free
SplitsFree cube _ = Unit {0}

-- a leaf says that no pair that is asked about lies in its cube
abbrev pub SaysNone : Node → Type 0
SaysNone (node.Split position) = Unit {0}
SaysNone (node.Bound domain bound) = ⊥
SaysNone (node.Point time) = ⊥
SaysNone node.Empty = Unit {0}
SaysNone (node.Refuted refuted) = refuted.bound ≡ None

-- where the claim is that no pair is asked about, each leaf says so of its cube
abbrev pub IsEnough : Option ℕ → Node → Type 0
IsEnough None n = SaysNone n
IsEnough (Some most) n = Unit {0}

-- where a leaf is of one pair, nothing is free
abbrev pub IsOfOnePair : List Trit → Node → Type 0
IsOfOnePair cube (node.Point time) = IsPoint cube
IsOfOnePair cube _ = Unit {0}

-- the domain gives a bound of the cube, and it is at most this
pub record IsBounded (domain : BoundedBy) (setting : Setting) (cube : List Trit) (most : ℕ) : Type 0 where
  pub bound : ℕ
  pub is : IsBoundBy domain setting cube (Some bound)
  pub within : bound ≤ most

-- some pair of the cube has this delay
pub record HasDelay (setting : Setting) (cube : List Trit) (delay : ℕ) : Type 0 where
  pub pair : Pair
  pub is_in : IsIn pair cube
  pub is : IsDelayOfBits setting pair.first pair.second delay

-- the steps show the bound, or that no pair that is asked about lies in the cube
abbrev pub Shows : Setting → Asking → List Trit → List Step → Option ℕ → Type 0
Shows setting asking cube steps None = IsEmptied setting asking cube steps
Shows setting asking cube steps (Some bound) = IsRefuted setting asking cube steps bound

-- What a leaf says is true of the cube: its number is at least its domain's bound, or the delay of
-- the pair, or no admitted pair may lie there, or its steps show what it says.
abbrev pub IsOfCube : Setting → Asking → List Trit → Node → Type 0
IsOfCube setting asking cube (node.Split position) = Unit {0}
IsOfCube setting asking cube (node.Bound domain bound) = IsBounded domain setting cube bound
IsOfCube setting asking cube (node.Point time) = HasDelay setting cube time
IsOfCube setting asking cube node.Empty = ¬ MayLie setting.netlist asking cube
IsOfCube setting asking cube (node.Refuted refuted) = Shows setting asking cube refuted.steps refuted.bound

-- at most this, if there is such a number
abbrev pub IsAtMost : Option ℕ → ℕ → Type 0
IsAtMost None number = Unit {0}
IsAtMost (Some most) number = number ≤ most

abbrev pub IsBoundWithin : Option ℕ → Option ℕ → Type 0
IsBoundWithin most None = Unit {0}
IsBoundWithin most (Some bound) = IsAtMost most bound

-- the number of a leaf, if it has one, is at most that of the claim
abbrev pub IsWithin : Option ℕ → Node → Type 0
IsWithin most (node.Bound domain bound) = IsAtMost most bound
IsWithin most (node.Point time) = IsAtMost most time
IsWithin most (node.Refuted refuted) = IsBoundWithin most refuted.bound
IsWithin most _ = Unit {0}

-- The line is good, where no pair that is asked about changes an output after this moment, or, if
-- there is none, no pair is asked about.
pub record IsGood (setting : Setting) (asking : Asking) (most : Option ℕ) (line : Line) : Type 0 where
  pub splits : SplitsFree line.cube line.node
  pub enough : IsEnough most line.node
  pub one_pair : IsOfOnePair line.cube line.node
  pub of_cube : IsOfCube setting asking line.cube line.node
  pub within : IsWithin most line.node

-- ---- the certificate

-- a condition's place among others on its net, by the bytes of its form
abbrev pub form_order : Form → ℕ
form_order (Levels first second) = 256 * level_byte first + level_byte second
form_order Equal = 256 * 61 + 61

-- whether a condition stands before another one
abbrev pub is_before : NamedCondition → NamedCondition → Bool
is_before this that = nat_lt this.net that.net || (this.net == that.net && nat_lt (form_order this.form) (form_order that.form))

-- whether the conditions rise, and each is on an input or a gate's output
abbrev pub are_fit : ℕ → List NamedCondition → Bool
are_fit count [] = true
are_fit count (this ∷ []) = nat_le 2 this.net && nat_lt this.net count
are_fit count (this ∷ that ∷ keep) = nat_le 2 this.net && is_before this that && are_fit count (that ∷ keep)

-- the certificate is of a circuit with as many inputs and gates as the netlist, there are two pins for
-- each input, and its conditions are on nets of it
pub record IsOfSize (netlist : Netlist) (c : Certificate) : Type 0 where
  pub inputs : length netlist.inputs ≡ inputs c
  pub gates : length netlist.gates ≡ c.gates
  pub pins : length c.question.admit.pins ≡ 2 * inputs_of c.question
  pub fit : are_fit (2 + inputs_of c.question + c.gates) (keep_by c.question.terms) ≡ true

-- the netlist with the certificate's moments
abbrev pub setting_of : Netlist → Certificate → Setting
setting_of netlist c = record { netlist = netlist; moments = c.question.moments }

-- the pair that is claimed, if one is, is admitted and keeps the conditions
abbrev pub ClaimsAdmitted : Netlist → Asking → Option Claim → Type 0
ClaimsAdmitted netlist asking None = Unit {0}
ClaimsAdmitted netlist asking (Some claim) = IsAskedAbout netlist asking claim.pair

abbrev pub HasAdmittedPair : Netlist → Certificate → Type 0
HasAdmittedPair netlist c = ClaimsAdmitted netlist (asking_of c.question) c.claim

-- the pair that is claimed, if one is, has its time
abbrev pub ClaimsDelay : Setting → Option Claim → Type 0
ClaimsDelay setting None = Unit {0}
ClaimsDelay setting (Some claim) = IsDelayOfBits setting claim.pair.first claim.pair.second claim.time

abbrev pub HasItsTime : Netlist → Certificate → Type 0
HasItsTime netlist c = ClaimsDelay (setting_of netlist c) c.claim

-- the moment of a claim after which no pair that is asked about changes an output
abbrev pub high_of : Option Claim → Option ℕ
high_of claim = option_map (λ (it : Claim). it.high) claim

-- the lines of the tree, whose root has the pins as its cube
abbrev pub lines_in : Certificate → List Line
lines_in c = lines_from (c.question.admit.pins ∷ []) c.tree

-- The certificate is accepted: it is of this circuit, its pair, if it claims one, is admitted, keeps
-- the conditions and has its time, and its lines are good.
pub record Accepts (netlist : Netlist) (c : Certificate) : Type 0 where
  pub size : IsOfSize netlist c
  pub admitted : HasAdmittedPair netlist c
  pub reached : HasItsTime netlist c
  pub tree : IsTree c.tree
  pub good : AllByRecursion (IsGood (setting_of netlist c) (asking_of c.question) (high_of c.claim)) (lines_in c)

-- no pair that is asked about changes an output after this moment
abbrev pub IsBoundOf : Setting → Asking → ℕ → Type 0
IsBoundOf setting asking moment = (pair : Pair) (delay : ℕ) → IsAskedAbout setting.netlist asking pair
    → IsDelayOfBits setting pair.first pair.second delay → delay ≤ moment

-- the pair that is claimed is admitted, keeps the conditions and has its time, and no such pair
-- changes an output after the other moment
pub record IsTrueClaim (setting : Setting) (asking : Asking) (claim : Claim) : Type 0 where
  pub admitted : IsAskedAbout setting.netlist asking claim.pair
  pub reached : IsDelayOfBits setting claim.pair.first claim.pair.second claim.time
  pub bounded : IsBoundOf setting asking claim.high

-- no pair is asked about
abbrev pub AsksNone : Netlist → Asking → Type 0
AsksNone netlist asking = (pair : Pair) → IsAskedAbout netlist asking pair → ⊥

-- what is claimed is true
abbrev pub IsClaimed : Setting → Asking → Option Claim → Type 0
IsClaimed setting asking None = AsksNone setting.netlist asking
IsClaimed setting asking (Some claim) = IsTrueClaim setting asking claim

-- what a certificate claims is true
abbrev pub IsClaim : Setting → Certificate → Type 0
IsClaim setting c = IsClaimed setting (asking_of c.question) c.claim

-- what a certificate claims that is accepted of a netlist without a loop is true
abbrev pub AcceptedIsTrue : Type 0
AcceptedIsTrue = (netlist : Netlist) (c : Certificate) → IsWellFormed netlist → (¬ Loop netlist) → AreMoments netlist c.question.moments
    → Accepts netlist c → IsClaim (setting_of netlist c) c

-- where there is no condition, and the two moments that it claims are one, that is the worst delay of
-- the admitted pairs
abbrev pub AcceptedIsWorst : Type 0
AcceptedIsWorst = (netlist : Netlist) (c : Certificate) (claim : Claim) → IsWellFormed netlist → (¬ Loop netlist) → AreMoments netlist c.question.moments
    → Accepts netlist c → keep_by c.question.terms ≡ [] → c.claim ≡ Some claim → claim.high ≡ claim.time
    → IsWorst (setting_of netlist c) c.question.admit claim.time
