-- Internal: what stands in the tracks of both levels.
use Rattle.std.specs.Prelude.{ℕ, nat_lt, Option, Some, None, if◌then◌else◌}
use Rattle.td_gates.specs.declared.primitives.Level.{Level}
use Rattle.td_gates.specs.declared.primitives.Level.TheVariants.{Zero as Low, One as High}
use Rattle.td_gates.specs.declared.timing.Change.{Change}
use Rattle.td_ternary.specs.declared.tracks.Track.{Track}
use Rattle.td_ternary.specs.declared.tracks.Tracks.{Tracks}
use Rattle.td_ternary.specs.Turning.{may_be}
use Rattle.td_ternary.specs.Prospects.{Prospect, Outlook}

-- the change to a level, where its moment isn't that of what never happens
abbrev pub scheduled_at : ℕ → Level → Option Change
scheduled_at due level =
    if nat_lt due 18446744073709551615 then Some (record { moment = due; level = level }) else None

-- what a track says of a level, where the target has this one
abbrev pub prospect_of : Level → Level → Track → Prospect
prospect_of wanted target track = record {
  target = may_be wanted target;
  output = track.output;
  scheduled = scheduled_at track.due (may_be wanted target);
}

abbrev pub outlook_of : Tracks → Outlook
outlook_of tracks = record {
  level = tracks.level;
  zero = prospect_of Low tracks.target tracks.zero;
  one = prospect_of High tracks.target tracks.one;
}
