-- Certificates of the parts of a question, joined into one.
use Rattle.std.specs.Prelude.{◌≡◌, ◌≢◌, ℕ, ◌≤◌, Bool, true, false, List, [], ◌∷◌, ◌++◌, All, Contains, filter, slice_get, option_map, Option, Some, None, ◌⊎◌}
use Rattle.std.specs.List.{list_any}
use Rattle.std.specs.List.Sorted.{IsPermutation}
use Rattle.td_nets.specs.Netlist.{Netlist}
use Rattle.td_domain.specs.declared.cubes.Trit.{Trit}
use Rattle.td_domain.specs.declared.cubes.Trit.TheVariants.{Zero, One, Free}
use Rattle.td_domain.specs.Pairs.{Pair}
use Rattle.td_domain.specs.Admits.{Admitted, HasAdmitted}
use Rattle.td_certificate.specs.declared.tree.Node.{Node}
use Rattle.td_certificate.specs.declared.tree.Node.TheVariants as node
use Rattle.td_certificate.specs.declared.certificate.Certificate.{Certificate}
use Rattle.td_certificate.specs.declared.certificate.Claim.{Claim}
use Rattle.td_certificate.specs.Cubes.{zero_side, one_side}
use Rattle.td_certificate.specs.Questions.{Terms, Question, keep_by}
use Rattle.td_certificate.specs.Accepts.{high_of, Accepts}

-- the cube that a certificate's admitted pairs lie in
abbrev pub pins_of : Certificate → List Trit
pins_of c = c.question.admit.pins

-- the question with these pins
abbrev pub with_pins : Question → List Trit → Question
with_pins question pins = record question { admit = record question.admit { pins = pins } }

-- the question with these pins and terms
abbrev pub whole_question : Question → List Trit → Option Terms → Question
whole_question question pins terms = record question { admit = record question.admit { pins = pins }; terms = terms }

-- a leaf that says that no admitted pair lies in its cube
abbrev pub says_none : Node → Bool
says_none node.Empty = true
says_none node = false

-- some leaf says so
abbrev pub has_none : List Node → Bool
has_none nodes = list_any says_none nodes

-- 0 stands at the position, or 1
abbrev pub is_zero : Option Trit → Bool
is_zero (Some Zero) = true
is_zero other = false

abbrev pub is_one : Option Trit → Bool
is_one (Some One) = true
is_one other = false

abbrev pub is_known : Option Trit → Bool
is_known (Some Zero) = true
is_known (Some One) = true
is_known other = false

-- the certificates whose pins have 0 at a position, those whose pins have 1, and whether each has
-- one of the two
abbrev pub zeros : ℕ → List Certificate → List Certificate
zeros position certificates = filter (λ c. is_zero (slice_get (pins_of c) position)) certificates

abbrev pub ones : ℕ → List Certificate → List Certificate
ones position certificates = filter (λ c. is_one (slice_get (pins_of c) position)) certificates

abbrev pub AreKnownAt : ℕ → List Certificate → Type 0
AreKnownAt position certificates = All (λ c. is_known (slice_get (pins_of c) position) ≡ true) certificates

-- The certificates are joined to a tree of the cube. One certificate of this cube has its own tree.
-- Where no admitted pair lies in the cube, no certificate gives a leaf that says so. Where there is
-- a certificate, a position that is free in the cube and known in each gives a split over the trees
-- of its two sides: those with 0 there are joined on the zero side, those with 1 on the one side.
pub data AreJoined (admit : Admitted) : List Trit → List Certificate → List Node → Type 0 where
  alone : (c : Certificate) → AreJoined admit (pins_of c) (c ∷ []) c.tree
  missing : (cube : List Trit) → (¬ HasAdmitted admit cube) → AreJoined admit cube [] (node.Empty ∷ [])
  halved : (cube : List Trit) (certificates : List Certificate) (position : ℕ) (low high : List Node) → certificates ≢ []
      → slice_get cube position ≡ Some Free → AreKnownAt position certificates → AreJoined admit (zero_side cube position) (zeros position certificates) low
      → AreJoined admit (one_side cube position) (ones position certificates) high
      → AreJoined admit cube certificates (node.Split position ∷ (low ++ high))

-- both are of circuits of one size, with the same held inputs, flips and moments
pub record IsAlike (this that : Certificate) : Type 0 where
  pub gates : this.gates ≡ that.gates
  pub held : this.question.admit.held ≡ that.question.admit.held
  pub flips : this.question.admit.flips ≡ that.question.admit.flips
  pub moments : this.question.moments ≡ that.question.moments

-- a certificate tells the terms of the whole, or none where these have no condition
abbrev pub AreMerged : Option Terms → Option Terms → Type 0
AreMerged whole part = ((part ≡ None) × (keep_by whole ≡ [])) ⊎ (part ≡ whole)

-- some certificate tells these terms
pub record HasTerms (certificates : List Certificate) (terms : Option Terms) : Type 0 where
  pub certificate : Certificate
  pub among : Contains certificates certificate
  pub terms_are : certificate.question.terms ≡ terms

-- the moment of a claim that its pair reaches, and the pair
abbrev pub time_of : Option Claim → Option ℕ
time_of claim = option_map (λ (it : Claim). it.time) claim

abbrev pub pair_of : Option Claim → Option Pair
pair_of claim = option_map (λ (it : Claim). it.pair) claim

-- a moment is at most another one; none is at most any, and no moment is at most none
abbrev pub IsNotAbove : Option ℕ → Option ℕ → Type 0
IsNotAbove None that = Unit {0}
IsNotAbove (Some this) None = ⊥
IsNotAbove (Some this) (Some that) = this ≤ that

-- a certificate's claim has this time and this pair, or it claims none, as this
pub record HasReached (certificates : List Certificate) (claim : Option Claim) : Type 0 where
  pub certificate : Certificate
  pub among : Contains certificates certificate
  pub time_is : time_of certificate.claim ≡ time_of claim
  pub pair_is : pair_of certificate.claim ≡ pair_of claim

-- a certificate's claim has this high, or it claims none, as this
pub record HasHigh (certificates : List Certificate) (claim : Option Claim) : Type 0 where
  pub certificate : Certificate
  pub among : Contains certificates certificate
  pub high_is : high_of certificate.claim ≡ high_of claim

-- It claims the greatest time of the certificates, of the pair that has it by one of them, and the
-- greatest high of all. One that claims that no pair is admitted counts for nothing; if all do, so
-- does it.
pub record IsWholeClaim (certificates : List Certificate) (claim : Option Claim) : Type 0 where
  pub greatest : All (λ c. IsNotAbove (time_of c.claim) (time_of claim)) certificates
  pub reached : HasReached certificates claim
  pub highest : All (λ c. IsNotAbove (high_of c.claim) (high_of claim)) certificates
  pub bounded : HasHigh certificates claim

-- The certificates are joined into one with these pins. It is of the same circuit and question but
-- for the pins, and tells the terms that one of them tells; its tree is theirs joined, and it claims
-- what they do together.
pub record IsJoined (certificates : List Certificate) (pins : List Trit) (whole : Certificate) : Type 0 where
  pub alike : All (IsAlike whole) certificates
  pub pins_are : pins_of whole ≡ pins
  pub tree : AreJoined whole.question.admit pins certificates whole.tree
  pub claim : IsWholeClaim certificates whole.claim
  pub terms : All (λ c. AreMerged whole.question.terms c.question.terms) certificates
  pub told : HasTerms certificates whole.question.terms

-- ---- the least cube with the pins of all

-- the trit that allows what one of two allows: a known one where both are the same
abbrev pub widest : Trit → Trit → Trit
widest Zero Zero = Zero
widest One One = One
widest this that = Free

-- the least cube that has both
abbrev pub both : List Trit → List Trit → List Trit
both (this ∷ cube) (that ∷ other) = widest this that ∷ both cube other
both cube other = []

-- the least cube that has a cube and the pins of some certificates
abbrev pub hull_from : List Trit → List Certificate → List Trit
hull_from cube [] = cube
hull_from cube (c ∷ certificates) = hull_from (both cube (pins_of c)) certificates

-- the least cube that has the pins of all certificates
abbrev pub hull : List Certificate → List Trit
hull [] = []
hull (c ∷ certificates) = hull_from (pins_of c) certificates

-- ---- laws

-- where the parts are accepted of a netlist, so is the whole
abbrev pub AcceptedTogether : Type 0
AcceptedTogether = (netlist : Netlist) (certificates : List Certificate) (pins : List Trit) (whole : Certificate)
    → IsJoined certificates pins whole → All (Accepts netlist) certificates → Accepts netlist whole

-- the two moments that the whole claims are the same in whatever order its parts come
abbrev pub SameTime : Type 0
SameTime = (these those : List Certificate) (pins others : List Trit) (this that : Certificate) → IsPermutation these those
    → IsJoined these pins this → IsJoined those others that
    → (time_of this.claim ≡ time_of that.claim) × (high_of this.claim ≡ high_of that.claim)
