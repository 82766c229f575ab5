-- What the words say of tables.
use Rattle.std.specs.Prelude.{◌≡◌, ◌&&◌, ◌||◌, not, cond, List, codes, Option, Some, None}
use Rattle.clap.specs.Words.{Row}
use Rattle.td_request.specs.declared.request.Stray.{Stray}
use Rattle.td_request.specs.declared.request.Stray.TheVariants as stray
use Rattle.td_request.specs.declared.request.Table.{Table}
use Rattle.td_request.specs.declared.request.Table.TheVariants as table
use Rattle.td_command.specs.CommandLine.{HasFlag}
use Rattle.td_command.specs.declared.tables.Flags.{Flags}
use Rattle.td_command.specs.declared.tables.Tables.{Tables as Said}

-- which options of tables are given
pub record SaysFlags (rows : List Row) (flags : Flags) : Type 0 where
  pub each : HasFlag (codes "each") rows flags.each
  pub changes : HasFlag (codes "changes") rows flags.changes
  pub figures : HasFlag (codes "figures") rows flags.figures
  pub vectors : HasFlag (codes "vectors") rows flags.vectors
  pub hazards : HasFlag (codes "hazards") rows flags.hazards

-- the table that the options ask for: that of hazards, or else of each output's delays, with its
-- changes where these are asked for
abbrev pub table_by : Flags → Option Table
table_by flags =
    cond flags.hazards (Some table.Hazards)
    (cond flags.each (Some (cond flags.changes (table.Changes flags.figures) table.Delays)) None)

-- the first of the options that doesn't go with the others
abbrev pub stray_by : Flags → Option Stray
stray_by flags =
    cond (flags.hazards && (flags.each || (flags.changes || flags.figures))) (Some stray.Hazards)
    (cond (flags.changes && not flags.each) (Some stray.Changes)
    (cond (flags.figures && not flags.changes) (Some stray.Figures)
    (cond (flags.vectors && not flags.each) (Some stray.Vectors) None)))

-- the words say this of tables
pub record SaysTables (rows : List Row) (said : Said) : Type 0 where
  pub flags : Flags
  pub given : SaysFlags rows flags
  pub table : said.table ≡ table_by flags
  pub stray : said.stray ≡ stray_by flags
