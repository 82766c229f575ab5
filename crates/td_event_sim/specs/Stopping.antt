-- Simulations that are stopped.
use Rattle.std.specs.Prelude.{◌≡◌, Bool, true}
use Rattle.td_event_sim.specs.declared.interruption.Interruption.{Interruption}
use Rattle.td_event_sim.specs.declared.interruption.Interruption.TheVariants.{Stopped}

-- a simulation is stopped only where its stop can be set
abbrev pub StopNeedsStop : Bool → Interruption → Type 0
StopNeedsStop can_be_set why = why ≡ Stopped → can_be_set ≡ true
