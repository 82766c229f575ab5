-- What is said of an output alone, where it settles at some levels.
use Rattle.std.specs.Prelude.{◌≡◌, ℕ, nat_lt, ◌==◌, ◌&&◌, ◌||◌, Bool, true, false, cond, [], ◌∷◌, Option, Some, None}
use Rattle.td_gates.specs.declared.primitives.Level.TheVariants.{Zero, One}
use Rattle.td_nets.specs.Netlist.{Name, Named, Netlist}
use Rattle.td_circuit.specs.Settings.{Setting}
use Rattle.td_spans.specs.declared.condition.Form.{Form}
use Rattle.td_spans.specs.declared.condition.Form.TheVariants.{Levels, Equal}
use Rattle.td_refutation.specs.Asking.{Asking, net_at}
use Rattle.td_certificate.specs.ConditionReading.{condition_by}
use Rattle.td_refute.specs.Kept.{IsBoundAmong, AsksNone}
use Rattle.td_request.specs.declared.request.Table.{Table}
use Rattle.td_request.specs.declared.request.Table.TheVariants as table
use Rattle.td_worst.specs.declared.kept_answer.KeptAnswer.{KeptAnswer}
use Rattle.td_worst.specs.declared.kept_answer.KeptAnswer.TheVariants as kept
use Rattle.td_worst.specs.Kept.{IsWorstAmong, LiesBetweenAmong}
use Rattle.td_lines.specs.declared.line.Changes.{Changes}
use Rattle.td_lines.specs.declared.line.Found.{Found}
use Rattle.td_lines.specs.declared.line.Found.TheVariants as found
use Rattle.td_answer.specs.declared.alone.Inquiry.{Inquiry}
use Rattle.td_answer.specs.Findings.{IsTrueFound, is_closed}

-- ---- pairs by the levels at which an output settles

-- the netlist has one output alone, and this is the number of its net
pub record IsOnlyOutput (netlist : Netlist) (net : ℕ) : Type 0 where
  pub name : Name
  pub only : netlist.outputs ≡ name ∷ []
  pub stands : net_at netlist net ≡ Some (Named name)

-- the pairs that are asked about
abbrev pub pairs_of : Inquiry → Asking
pairs_of inquiry = record { admit = inquiry.admit.now; keep = inquiry.keep.now }

-- those of the pairs asked about under which this net settles so too
abbrev pub where_settles : Asking → ℕ → Form → Asking
where_settles asking net form = record { admit = asking.admit; keep = condition_by net form ∷ asking.keep }

abbrev pub rising : Form
rising = Levels Zero One

abbrev pub falling : Form
falling = Levels One Zero

-- at the same level under both vectors, whichever it is
abbrev pub held : Form
held = Equal

-- ---- figures

-- A figure of each column: of the pairs under which the output rises, falls, or settles at the same
-- level under both vectors. A figure of 0, which is printed as `never`, says that such a pair is there
-- and none of them changes the output after moment 0.
pub record AreTrueChanges (setting : Setting) (asking : Asking) (changes : Changes) : Type 0 where
  pub net : ℕ
  pub output : IsOnlyOutput setting.netlist net
  pub rise : IsTrueFound setting (where_settles asking net rising) changes.rise
  pub fall : IsTrueFound setting (where_settles asking net falling) changes.fall
  pub glitch : IsTrueFound setting (where_settles asking net held) changes.glitch

-- the table has these columns
abbrev pub asks_changes : Option Table → Bool
asks_changes None = false
asks_changes (Some table.Delays) = false
asks_changes (Some (table.Changes figures)) = true
asks_changes (Some table.Hazards) = false

-- they are there where they are asked for, and true
abbrev pub HasChangesBy : Bool → Setting → Asking → Option Changes → Type 0
HasChangesBy false setting asking changes = changes ≡ None
HasChangesBy true setting asking None = ⊥
HasChangesBy true setting asking (Some changes) = AreTrueChanges setting asking changes

abbrev pub HasChanges : Option Table → Setting → Asking → Option Changes → Type 0
HasChanges asked setting asking changes = HasChangesBy (asks_changes asked) setting asking changes

-- ---- what is left open

-- the figure of the latest glitch is asked for
abbrev pub asks_figures : Option Table → Bool
asks_figures None = false
asks_figures (Some table.Delays) = false
asks_figures (Some (table.Changes figures)) = figures
asks_figures (Some table.Hazards) = false

-- it is known whether some pair is later than 0
abbrev pub is_known : Found → Bool
is_known (found.Exact time) = true
is_known (found.Between low high) = nat_lt 0 low || (high == 0)
is_known (found.AtMost high) = high == 0
is_known found.NoPair = true

-- where the figure isn't asked for, a glitch is open where it isn't known whether there is one
abbrev pub is_answered : Bool → Found → Bool
is_answered figures glitch = cond figures (is_closed glitch) (is_known glitch)

abbrev pub are_closed : Bool → Option Changes → Bool
are_closed figures None = true
are_closed figures (Some changes) = is_closed changes.rise && (is_closed changes.fall && is_answered figures changes.glitch)

-- ---- answers

-- what an answer says of its pairs is true
abbrev pub IsTrueAnswer : Setting → Asking → KeptAnswer → Type 0
IsTrueAnswer setting asking (kept.Exact best tree) = IsWorstAmong setting asking best
IsTrueAnswer setting asking (kept.Between best high why steps) = LiesBetweenAmong setting asking best high
IsTrueAnswer setting asking (kept.Open high why) = IsBoundAmong setting asking high
IsTrueAnswer setting asking (kept.NoPair tree) = AsksNone setting asking
