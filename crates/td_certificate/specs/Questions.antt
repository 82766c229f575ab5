-- What a certificate is about, and by which version of its text that can be said.
use Rattle.std.specs.Prelude.{ℕ, Bool, true, false, List, [], length, not, ◌==◌, ◌&&◌, if◌then◌else◌, replicate, Option, Some, None}
use Rattle.std.specs.List.{list_all}
use Rattle.td_gates.specs.Delays.{Delays}
use Rattle.td_domain.specs.declared.cubes.Trit.{Trit}
use Rattle.td_domain.specs.declared.cubes.Trit.TheVariants.{Free}
use Rattle.td_domain.specs.Admits.{Admitted, all_pairs}
use Rattle.td_refutation.specs.declared.conditions.NamedCondition.{NamedCondition}
use Rattle.td_refutation.specs.Asking.{Asking}
use Rattle.td_certificate.specs.declared.question.Version.{Version}
use Rattle.td_certificate.specs.declared.question.Version.TheVariants.{First, Second, Third, Fourth}

-- What a text of the fourth version tells besides: the delays of gates that state none, the numbers
-- of the outputs that are asked about, where not all are, and the conditions that pairs keep.
pub record Terms : Type 0 where
  pub default : Delays
  pub outputs : Option (List ℕ)
  pub keep : List NamedCondition

-- Which pairs are admitted, and for each input the moment at which it takes its second level. The
-- terms stand in a text of the fourth version alone.
pub record Question : Type 0 where
  pub admit : Admitted
  pub moments : List ℕ
  pub terms : Option Terms

-- the conditions that pairs keep
abbrev pub keep_by : Option Terms → List NamedCondition
keep_by None = []
keep_by (Some terms) = terms.keep

-- the pairs that are asked about
abbrev pub asking_of : Question → Asking
asking_of question = record { admit = question.admit; keep = keep_by question.terms }

-- the number of inputs
abbrev pub inputs_of : Question → ℕ
inputs_of question = length question.admit.held

abbrev pub is_free : Trit → Bool
is_free Free = true
is_free trit = false

-- no input is held
abbrev pub holds_none : List Bool → Bool
holds_none held = list_all not held

-- nothing is pinned or held, and there are as many flips as inputs
abbrev pub admits_all : Admitted → Bool
admits_all admit = list_all is_free admit.pins && (holds_none admit.held && (admit.flips == length admit.held))

-- all inputs change at moment 0
abbrev pub is_at_once : List ℕ → Bool
is_at_once moments = list_all (λ moment. moment == 0) moments

-- The version of a question's text without terms: the first where all pairs are admitted and all
-- inputs change at moment 0, the second where pairs are restricted, the third where an input changes
-- later.
abbrev pub plain_version : Admitted → List ℕ → Version
plain_version admit moments = if is_at_once moments then (if admits_all admit then First else Second) else Third

abbrev pub version_by : Option Terms → Admitted → List ℕ → Version
version_by None admit moments = plain_version admit moments
version_by (Some terms) admit moments = Fourth

-- the version of a question's text: the fourth where it has terms
abbrev pub version_of : Question → Version
version_of question = version_by question.terms question.admit question.moments

-- the question of the first version for this number of inputs
abbrev pub all_at_once : ℕ → Question
all_at_once inputs = record { admit = all_pairs inputs; moments = replicate inputs 0; terms = None }

-- the number in the first line
abbrev pub version_number : Version → ℕ
version_number First = 1
version_number Second = 2
version_number Third = 3
version_number Fourth = 4
