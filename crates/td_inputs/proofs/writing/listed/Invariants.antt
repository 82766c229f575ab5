use Rattle.std.proofs.Common.{◌≡◌, ◌++◌, drop}
use Rattle.std.specs.Prelude.{string_bytes}
use Rattle.td_inputs.specs.Patterns.{moments_at}
use Rattle.td_inputs.proofs.writing.listed.Given as goal

-- the moments so far, and those of the rest
abbrev pub invariant-loop-place : goal.invariant-loop-place
invariant-loop-place l = string_bytes l.word ++ moments_at l.place (drop l.place l.cells) ≡ moments_at 0 l.cells
