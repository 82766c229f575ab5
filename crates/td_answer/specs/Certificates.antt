-- The certificate of an exact answer.
use Rattle.std.specs.Prelude.{ℕ, List, Bool, true, ◌||◌, if◌then◌else◌, Option, Some, None, is_some, option_map}
use Rattle.std.specs.Global.{Vec}
use Rattle.td_gates.specs.Delays.{Delays}
use Rattle.td_certificate.specs.declared.certificate.Certificate.{Certificate}
use Rattle.td_certificate.specs.declared.tree.Node.{Node}
use Rattle.td_certificate.specs.Questions.{Terms}
use Rattle.td_certificate.specs.Trees.{has_edges, has_refuted}
use Rattle.td_certificate.specs.Lengths.{CanTell}
use Rattle.td_checker.specs.Checks.{told_terms}
use Rattle.td_search.specs.declared.strategy.Strategy.{Strategy}
use Rattle.td_search.specs.declared.strategy.Strategy.TheVariants as strategy
use Rattle.td_search.specs.declared.answers.Answer.{Answer}
use Rattle.td_search.specs.declared.answers.Answer.TheVariants as answer
use Rattle.td_search.specs.Problems.{Problem}
use Rattle.td_search.specs.Answers.{certificate_by}
use Rattle.td_answer.specs.declared.certifying.Read.{Read}

-- whether a certificate tells how the netlist is read: not where a tree by `Least` without a leaf
-- that is bounded by edges or refuted is about all outputs
abbrev pub tells_terms : Strategy → Bool → List Node → Bool
tells_terms strategy.Lead some tree = true
tells_terms strategy.Least some tree = some || (has_edges tree || has_refuted tree)

-- how a netlist was read
abbrev pub read_by : Delays → Option (Vec ℕ) → Read
read_by default outputs = record { default = default; outputs = outputs }

-- the numbers of the outputs that are asked about
abbrev pub outputs_in : Read → Option (List ℕ)
outputs_in read = option_map (λ numbers. numbers.items) read.outputs

abbrev pub terms_in : Strategy → Read → List Node → Option Terms
terms_in by read tree = if tells_terms by (is_some read.outputs) tree then Some (told_terms read.default (outputs_in read)) else None

-- the certificate of an exact answer
abbrev pub certificate_in : Read → Problem → Answer → Option Certificate
certificate_in read asked (answer.Exact time pair tree) = Some (certificate_by (terms_in asked.strategy read tree) asked time pair tree)
certificate_in read asked (answer.Between low high pair nodes why) = None

-- the certificate's terms can tell its tree
abbrev pub CanBeTold : Read → Strategy → Answer → Type 0
CanBeTold read by (answer.Exact time pair tree) = CanTell tree (terms_in by read tree)
CanBeTold read by (answer.Between low high pair nodes why) = Unit {0}
