-- Sheets: all signals of a cube, with the narrowings that can be taken back.
use Rattle.std.specs.Prelude.{◌≡◌, ℕ, ◌+◌, ◌*◌, ◌/◌, ◌<◌, Bool, true, false, List, [], ◌∷◌, length, set, slice_get, Option, Some}
use Rattle.std.specs.List.{AllByRecursion}
use Rattle.std.specs.Global.{Vec}
use Rattle.td_circuit.specs.Settings.{AreMoments}
use Rattle.td_circuit.specs.Numbering.{Numbered, nets, IsNumbering}
use Rattle.td_domain.specs.declared.cubes.Trit.{Trit}
use Rattle.td_domain.specs.declared.cubes.Trit.TheVariants.{Zero, One, Free}
use Rattle.td_domain.specs.declared.undoing.Narrowing.{Narrowing}
use Rattle.td_domain.specs.Functions.{Functions}
use Rattle.td_domain.specs.FirstSignals.{AreFirstSignals}
use Rattle.td_domain.specs.Cones.{IsCone}
use Rattle.td_domain.specs.Undoing.{undone, AreWithin}

-- a cube and its signals, by the numbers of the nets
pub record Page (Sig : Type 0) : Type 0 where
  pub cube : List Trit
  pub signals : List Sig

-- What is seen of a sheet: its cube and signals, those before the narrowings that still stand, the
-- latest first, how many gates the input of the latest narrowing reaches, the numbers of the
-- outputs, and by input the gates that it reaches, where they are known.
pub record Shown (Sig : Type 0) : Type 0 where
  pub cube : List Trit
  pub signals : List Sig
  pub wider : List (Page Sig)
  pub redone : ℕ
  pub outputs : List ℕ
  pub cones : List (Option (Vec ℕ))

-- the pages before these narrowings, the latest first
abbrev pub pages_before : {S : Type 0} → List Trit → List S → List (Narrowing S) → List (Page S)
pages_before cube signals [] = []
pages_before cube signals (narrowing ∷ earlier) =
    record { cube = set cube narrowing.position Free; signals = undone signals narrowing.replaced.items }
    ∷ pages_before (set cube narrowing.position Free) (undone signals narrowing.replaced.items) earlier

-- the narrowings can be taken back
abbrev pub CanBeUndone : {S : Type 0} → ℕ → ℕ → List (Narrowing S) → Type 0
CanBeUndone positions count narrowings =
    AllByRecursion (λ narrowing. (narrowing.position < positions) × AreWithin count narrowing.replaced.items) narrowings

abbrev pub page_of : {S : Type 0} → Shown S → Page S
page_of sheet = record { cube = sheet.cube; signals = sheet.signals }

-- the trit of a known bit
abbrev pub known : Bool → Trit
known true = One
known false = Zero

-- the gates that an input reaches, where they are known
pub record AreCones (circuit : Numbered) (cones : List (Option (Vec ℕ))) : Type 0 where
  pub count : length cones ≡ length circuit.netlist.inputs
  pub each : (input : ℕ) (cone : Vec ℕ) → slice_get cones input ≡ Some (Some cone) → IsCone circuit (2 + input) cone.items

-- the sheet after a narrowing
pub record IsNarrowed {Sig : Type 0} (circuit : Numbered) (position : ℕ) (bit : Bool) (old new : Shown Sig) : Type 0 where
  pub cube : new.cube ≡ set old.cube position (known bit)
  pub wider : new.wider ≡ page_of old ∷ old.wider
  pub cone : List ℕ
  pub is_cone : IsCone circuit (2 + position / 2) cone
  pub redone : new.redone ≡ length cone

module _ {Sig : Type 0} (functions : Functions Sig) (reach : Sig → ℕ) (circuit : Numbered) where
  -- the signals are those of the cube
  pub record IsPage (page : Page Sig) : Type 0 where
    pub positions : length page.cube ≡ 2 * length circuit.netlist.inputs
    pub count : length page.signals ≡ length (nets circuit)
    pub front : AreFirstSignals functions reach circuit page.cube page.signals

  -- it is a sheet of the circuit: its signals are those of its cube, and so it was before each
  -- narrowing that still stands
  pub record IsSheet (sheet : Shown Sig) : Type 0 where
    pub numbering : IsNumbering circuit
    pub fit : AreMoments circuit.netlist circuit.moments
    pub page : IsPage (page_of sheet)
    pub wider : AllByRecursion IsPage sheet.wider
    pub outputs : sheet.outputs ≡ circuit.outputs
    pub cones : AreCones circuit sheet.cones

-- the sheet has the same cube and signals, and had the same ones before
pub record IsUnchanged {Sig : Type 0} (old new : Shown Sig) : Type 0 where
  pub cube : new.cube ≡ old.cube
  pub signals : new.signals ≡ old.signals
  pub wider : new.wider ≡ old.wider

-- the latest narrowing is taken back, if one still stands
abbrev pub IsWidened : {Sig : Type 0} → List (Page Sig) → Bool → Shown Sig → Shown Sig → Type 0
IsWidened [] answer old new = (answer ≡ false) × IsUnchanged old new
IsWidened (page ∷ wider) answer old new =
    (answer ≡ true) × (new.cube ≡ page.cube) × (new.signals ≡ page.signals) × (new.wider ≡ wider)
