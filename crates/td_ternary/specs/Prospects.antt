-- Internal: the possible levels of an output from change to change of its target.
use Rattle.std.specs.Prelude.{ℕ, min, nat_le, Bool, true, List, [], ◌++◌, Option, Some, None, if◌then◌else◌}
use Rattle.td_gates.specs.declared.primitives.Level.{Level}
use Rattle.td_gates.specs.declared.primitives.Level.TheVariants.{Zero as Low, One as High}
use Rattle.td_gates.specs.declared.timing.Delay.{Delay}
use Rattle.td_gates.specs.declared.timing.Change.{Change}
use Rattle.td_gates.specs.Table.{level_eq}
use Rattle.td_run.specs.Waves.{event_for}
use Rattle.td_ternary.specs.Possibles.{change_at}
use Rattle.td_ternary.specs.Turning.{may_be, either}

-- What is known of one level over time: whether the target and the output may be it, 1 where they
-- may, else 0, and the change of the output that is scheduled.
pub record Prospect : Type 0 where
  pub target : Level
  pub output : Level
  pub scheduled : Option Change

-- what is known of both levels, and the level that stands for those that are possible
pub record Outlook : Type 0 where
  pub level : Level
  pub zero : Prospect
  pub one : Prospect

-- whether a moment is by the end, which is none for a time without end
abbrev pub is_by : Option ℕ → ℕ → Bool
is_by None t = true
is_by (Some end) t = nat_le t end

-- the moment of the event, where it is due by the end
abbrev pub due_moment : Option ℕ → Option Change → Option ℕ
due_moment end None = None
due_moment end (Some event) = if is_by end event.moment then Some event.moment else None

-- the earlier of the moments that are there
abbrev pub earlier : Option ℕ → Option ℕ → Option ℕ
earlier None that = that
earlier (Some moment) None = Some moment
earlier (Some moment) (Some other) = Some (min moment other)

-- the moment of the next event that is due by the end
abbrev pub next_moment : Option ℕ → Outlook → Option ℕ
next_moment end now = earlier (due_moment end now.zero.scheduled) (due_moment end now.one.scheduled)

-- the event takes place where it is due
abbrev pub fired_by : ℕ → Option Change → Prospect → Prospect
fired_by t None prospect = prospect
fired_by t (Some event) prospect =
    if nat_le event.moment t then record { target = prospect.target; output = event.level; scheduled = None } else prospect

abbrev pub fired : ℕ → Prospect → Prospect
fired t prospect = fired_by t prospect.scheduled prospect

-- the level that stands for those that are possible
abbrev pub level_of : Prospect → Prospect → Level
level_of zero one = either zero.output one.output

-- the events of a moment took place, and the change that this makes
abbrev pub turned : Option ℕ → Outlook → Outlook
turned None now = now
turned (Some t) now = record { level = level_of (fired t now.zero) (fired t now.one); zero = fired t now.zero; one = fired t now.one }

abbrev pub turn_at : Option ℕ → Outlook → List Change
turn_at None now = []
turn_at (Some t) now = change_at t now.level (level_of (fired t now.zero) (fired t now.one))

-- the next events that are due by the end took place
abbrev pub stepped : Option ℕ → Outlook → Outlook
stepped end now = turned (next_moment end now) now

abbrev pub stepping : Option ℕ → Outlook → List Change
stepping end now = turn_at (next_moment end now) now

-- all events that are due by the end took place
abbrev pub settled : Option ℕ → Outlook → Outlook
settled end now = stepped end (stepped end now)

abbrev pub settling : Option ℕ → Outlook → List Change
settling end now = stepping end now ++ stepping end (stepped end now)

-- the target changed
abbrev pub driven : Level → Delay → Change → Prospect → Prospect
driven wanted delay change prospect =
    if level_eq (may_be wanted change.level) prospect.target
    then prospect
    else record {
      target = may_be wanted change.level;
      output = prospect.output;
      scheduled = event_for delay prospect.output (record { moment = change.moment; level = may_be wanted change.level });
    }

-- the target has had this level so far
abbrev pub at_rest : Level → Prospect
at_rest level = record { target = level; output = level; scheduled = None }

abbrev pub begun : Level → Outlook
begun start = record {
  level = either (may_be Low start) (may_be High start);
  zero = at_rest (may_be Low start);
  one = at_rest (may_be High start);
}

-- what was due by a change of the target took place, and the target changed
abbrev pub passed : Delay → Delay → Change → Outlook → Outlook
passed falling rising change now = record {
  level = (settled (Some change.moment) now).level;
  zero = driven Low falling change (settled (Some change.moment) now).zero;
  one = driven High rising change (settled (Some change.moment) now).one;
}
