-- Which fault is reported: why a text is refused, and where.
use Rattle.std.specs.Prelude.{◌≡◌, ℕ, Option, None, Some, Result, Ok, Err, MatchOption}
pub use Rattle.td_syntax.specs.Faults.{◌>>=◌}
use Rattle.td_netlist.specs.declared.fault.FaultKind.{FaultKind}
use Rattle.td_netlist.specs.declared.fault.FaultKind.TheVariants as kind
use Rattle.td_netlist.specs.declared.fault.Fault.{Fault}

abbrev pub fault : FaultKind → ℕ → Fault
fault k line = record { kind = k; line = line }

-- running out of memory isn't a fault of the text
abbrev pub reported : FaultKind → Option FaultKind
reported kind.OutOfMemory = None
reported k = Some k

abbrev pub Fails : {Y : Type 0} → Fault → Result Y Fault → Type 0
Fails e checked = MatchOption (reported e.kind) (Unit {0}) (λ k. checked ≡ Err (fault k e.line))

-- What a function returned, seen by view, is what the check gives, unless memory ran out.
abbrev pub Gives : {X Y : Type 0} → (X → Y) → Result X Fault → Result Y Fault → Type 0
Gives view (Ok x) checked = checked ≡ Ok (view x)
Gives view (Err e) checked = Fails e checked

-- The result is this value, unless memory ran out.
abbrev pub IsUnlessMemory : {X : Type 0} → Result X Fault → X → Type 0
IsUnlessMemory (Ok x) y = x ≡ y
IsUnlessMemory (Err e) y = e.kind ≡ kind.OutOfMemory

abbrev pub unless : {A : Type 0} → Option FaultKind → ℕ → A → Result A Fault
unless None line x = Ok x
unless (Some k) line x = Err (fault k line)

-- a fact about each kind other than out of memory
abbrev pub UnlessMemory : FaultKind → Type 0 → Type 0
UnlessMemory kind.OutOfMemory P = Unit {0}
UnlessMemory k P = P
