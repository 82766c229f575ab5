-- Why certificates aren't joined.
use Rattle.std.specs.Prelude.{◌≡◌, ◌≢◌, ℕ, true, List, [], All, Contains, length, slice_get, Some, None, ◌⊎◌}
use Rattle.td_nets.specs.Netlist.{Netlist}
use Rattle.td_domain.specs.declared.cubes.Trit.{Trit}
use Rattle.td_domain.specs.declared.cubes.Trit.TheVariants.{Free}
use Rattle.td_domain.specs.Pairs.{Pair}
use Rattle.td_domain.specs.Cubes.{IsIn}
use Rattle.td_domain.specs.Admits.{Admitted, HasAdmitted}
use Rattle.td_certificate.specs.declared.certificate.Certificate.{Certificate}
use Rattle.td_certificate.specs.declared.question.Version.TheVariants.{First}
use Rattle.td_certificate.specs.Cubes.{zero_side, one_side}
use Rattle.td_certificate.specs.Questions.{inputs_of, version_of}
use Rattle.td_certificate.specs.Accepts.{Accepts}
use Rattle.td_join.specs.declared.fault.JoinFault.{JoinFault}
use Rattle.td_join.specs.declared.fault.JoinFault.TheVariants as fault
use Rattle.td_join.specs.Joining.{pins_of, with_pins, has_none, zeros, ones, AreKnownAt, AreMerged, IsJoined}

-- the fault with each certificate that it tells told by this in its place
abbrev pub renamed : {A B : Type 0} → (A → B) → JoinFault A → JoinFault B
renamed name fault.OutOfMemory = fault.OutOfMemory
renamed name fault.NoCertificate = fault.NoCertificate
renamed name (fault.OtherCircuit this that) = fault.OtherCircuit (name this) (name that)
renamed name (fault.OtherHold this that) = fault.OtherHold (name this) (name that)
renamed name (fault.OtherFlips this that) = fault.OtherFlips (name this) (name that)
renamed name (fault.OtherMoments this that) = fault.OtherMoments (name this) (name that)
renamed name (fault.OtherTerms this that) = fault.OtherTerms (name this) (name that)
renamed name (fault.Outside this) = fault.Outside (name this)
renamed name (fault.Overlap this that) = fault.Overlap (name this) (name that)
renamed name (fault.Crossed this that) = fault.Crossed (name this) (name that)
renamed name (fault.Gap cube) = fault.Gap cube
renamed name (fault.FalseNone this) = fault.FalseNone (name this)

-- a certificate differs from the first one in what the fault says
abbrev pub IsUnlike : Certificate → Certificate → ℕ → JoinFault ℕ → Type 0
IsUnlike first other place (fault.OtherCircuit this that) =
    (this ≡ 0) × (that ≡ place) × ((first.gates ≢ other.gates) ⊎ (inputs_of first.question ≢ inputs_of other.question))
IsUnlike first other place (fault.OtherHold this that) = (this ≡ 0) × (that ≡ place) × (first.question.admit.held ≢ other.question.admit.held)
IsUnlike first other place (fault.OtherFlips this that) = (this ≡ 0) × (that ≡ place) × (first.question.admit.flips ≢ other.question.admit.flips)
IsUnlike first other place (fault.OtherMoments this that) = (this ≡ 0) × (that ≡ place) × (first.question.moments ≢ other.question.moments)
IsUnlike first other place fault = ⊥

-- the first certificate, and another one that differs from it as the fault says
pub record IsUnlikeIn (certificates : List Certificate) (reported : JoinFault ℕ) : Type 0 where
  pub first : Certificate
  pub other : Certificate
  pub place : ℕ
  pub first_at : slice_get certificates 0 ≡ Some first
  pub other_at : slice_get certificates place ≡ Some other
  pub unlike : IsUnlike first other place reported

-- two certificates tell terms that aren't merged
abbrev pub IsOtherTerms : Certificate → ℕ → Certificate → ℕ → JoinFault ℕ → Type 0
IsOtherTerms first at other place (fault.OtherTerms this that) =
    (this ≡ at) × (that ≡ place) × (¬ AreMerged first.question.terms other.question.terms)
IsOtherTerms first at other place fault = ⊥

pub record IsOtherTermsIn (certificates : List Certificate) (reported : JoinFault ℕ) : Type 0 where
  pub first : Certificate
  pub other : Certificate
  pub at : ℕ
  pub place : ℕ
  pub first_at : slice_get certificates at ≡ Some first
  pub other_at : slice_get certificates place ≡ Some other
  pub unlike : IsOtherTerms first at other place reported

-- the cube is a part of the pins: it has as many positions, and each bit that is known in them
pub record IsInside (pins cube : List Trit) : Type 0 where
  pub fits : length cube ≡ length pins
  pub keeps : (position : ℕ) (t : Trit) → slice_get pins position ≡ Some t → t ≢ Free → slice_get cube position ≡ Some t

-- a position of the pins is known, and not so in the cube, or there are others
pub data IsOutside (pins cube : List Trit) : Type 0 where
  lengths : length cube ≢ length pins → IsOutside pins cube
  bits : (position : ℕ) (t : Trit) → slice_get pins position ≡ Some t → t ≢ Free → slice_get cube position ≢ Some t → IsOutside pins cube

-- the fault says that the certificate of this place is outside, and it is
abbrev pub IsOutsideAt : Certificate → List Trit → ℕ → JoinFault ℕ → Type 0
IsOutsideAt c pins place (fault.Outside this) = (this ≡ place) × IsOutside pins (pins_of c)
IsOutsideAt c pins place fault = ⊥

-- one of the certificates is outside, as the fault says
pub record IsOutsideIn (certificates : List Certificate) (pins : List Trit) (reported : JoinFault ℕ) : Type 0 where
  pub certificate : Certificate
  pub place : ℕ
  pub at : slice_get certificates place ≡ Some certificate
  pub outside : IsOutsideAt certificate pins place reported

-- All pairs of the whole are admitted and all inputs change at moment 0, and a leaf of the
-- certificate of this place says that no admitted pair lies in its cube. So it is accepted of no
-- netlist.
pub record IsFalseNone (certificates : List Certificate) (pins : List Trit) (place : ℕ) : Type 0 where
  pub first : Certificate
  pub certificate : Certificate
  pub first_at : slice_get certificates 0 ≡ Some first
  pub at : slice_get certificates place ≡ Some certificate
  pub all : version_of (with_pins first.question pins) ≡ First
  pub none : has_none certificate.tree ≡ true
  pub refused : (netlist : Netlist) → ¬ Accepts netlist certificate

-- the certificates at two places, other ones, admit a pair of one another
pub record IsOverlap (certificates : List Certificate) (this that : ℕ) : Type 0 where
  pub one : Certificate
  pub other : Certificate
  pub one_at : slice_get certificates this ≡ Some one
  pub other_at : slice_get certificates that ≡ Some other
  pub differ : this ≢ that
  pub shares : HasAdmitted one.question.admit (pins_of other)

-- The certificates at two places, other ones, are of a group of certificates whose pins are parts
-- of one cube of the pins, and nowhere can it be halved so that each of the group lies in one half.
-- A certificate with a pair in the cube is one of the group.
pub record IsCrossed (certificates : List Certificate) (pins : List Trit) (this that : ℕ) : Type 0 where
  pub cube : List Trit
  pub group : List Certificate
  pub one : Certificate
  pub other : Certificate
  pub one_at : slice_get certificates this ≡ Some one
  pub other_at : slice_get certificates that ≡ Some other
  pub differ : this ≢ that
  pub one_among : Contains group one
  pub other_among : Contains group other
  pub members : (c : Certificate) → Contains group c → Contains certificates c × IsInside cube (pins_of c)
  pub inside : (pair : Pair) → IsIn pair cube → IsIn pair pins
  pub all : (c : Certificate) (pair : Pair) → Contains certificates c → IsIn pair (pins_of c) → IsIn pair cube → Contains group c
  pub uncut : (position : ℕ) → slice_get cube position ≡ Some Free → ¬ AreKnownAt position group

-- A cube that has certificates is halved at a position that is known in each of them, and so are
-- its halves. One that has none is left.
pub data IsLeftEmpty : List Trit → List Certificate → List Trit → Type 0 where
  bare : (cube : List Trit) → IsLeftEmpty cube [] cube
  in_zero : (cube left : List Trit) (certificates : List Certificate) (position : ℕ) → certificates ≢ [] → slice_get cube position ≡ Some Free
      → AreKnownAt position certificates → IsLeftEmpty (zero_side cube position) (zeros position certificates) left → IsLeftEmpty cube certificates left
  in_one : (cube left : List Trit) (certificates : List Certificate) (position : ℕ) → certificates ≢ [] → slice_get cube position ≡ Some Free
      → AreKnownAt position certificates → IsLeftEmpty (one_side cube position) (ones position certificates) left → IsLeftEmpty cube certificates left

-- An admitted pair lies in this cube, which is a part of the pins that halvings leave without a
-- certificate, and no pair of the cube lies in the pins of a certificate.
pub record IsGap (admit : Admitted) (certificates : List Certificate) (cube : List Trit) : Type 0 where
  pub admitted : HasAdmitted admit cube
  pub fits : length cube ≡ length admit.pins
  pub inside : (pair : Pair) → IsIn pair cube → IsIn pair admit.pins
  pub left : IsLeftEmpty admit.pins certificates cube
  pub in_none : All (λ c. (pair : Pair) → IsIn pair cube → ¬ IsIn pair (pins_of c)) certificates

-- nothing is joined of these with these pins
abbrev pub IsUnjoinable : List Certificate → List Trit → Type 0
IsUnjoinable certificates pins = (whole : Certificate) → ¬ IsJoined certificates pins whole

-- What a fault says of certificates that aren't joined with these pins. That memory ran out says
-- nothing of them.
abbrev pub IsJoinFault : List Certificate → List Trit → JoinFault ℕ → Type 0
IsJoinFault certificates pins fault.OutOfMemory = Unit {0}
IsJoinFault certificates pins fault.NoCertificate = certificates ≡ []
IsJoinFault certificates pins (fault.Outside place) = IsOutsideIn certificates pins (fault.Outside place)
IsJoinFault certificates pins (fault.Overlap this that) = IsOverlap certificates this that × IsUnjoinable certificates pins
IsJoinFault certificates pins (fault.Crossed this that) = IsCrossed certificates pins this that × IsUnjoinable certificates pins
IsJoinFault certificates pins (fault.Gap cube) =
    (first : Certificate) × (slice_get certificates 0 ≡ Some first) × IsGap (record first.question.admit { pins = pins }) certificates cube
IsJoinFault certificates pins (fault.FalseNone place) = IsFalseNone certificates pins place
IsJoinFault certificates pins (fault.OtherTerms this that) = IsOtherTermsIn certificates (fault.OtherTerms this that)
IsJoinFault certificates pins fault = IsUnlikeIn certificates fault
