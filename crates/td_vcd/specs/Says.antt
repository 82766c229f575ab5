-- What a value change dump says of its variables, by its lines alone.
use Rattle.std.specs.Prelude.{◌≡◌, ◌≢◌, ◌≤◌, ℕ, suc, Bool, false, List, [], ◌∷◌, length, take, codes, bytes_eq, slice_get, Some, nat_le, ◌==◌, ◌&&◌, if◌then◌else◌}
use Rattle.std.specs.List.{AllByRecursion}
use Rattle.td_gates.specs.declared.primitives.Level.{Level}
use Rattle.td_gates.specs.Wave.{Wave, at}
use Rattle.td_vcd.specs.Text.{Line, Keyword, Number, Sets, text_of}

-- no byte is a newline
abbrev pub IsOnOneLine : List ℕ → Type 0
IsOnOneLine words = AllByRecursion (λ byte. byte ≢ 10) words

-- a keyword's line ends at its newline
abbrev pub IsOneLine : Line → Type 0
IsOneLine (Keyword words) = IsOnOneLine words
IsOneLine (Number number) = Unit {0}
IsOneLine (Sets variable level) = Unit {0}

-- The level of a variable at a number: the last that a line sets under a number line that isn't
-- above it. The second number is that of the last number line so far.
abbrev pub level_by : ℕ → ℕ → ℕ → Level → List Line → Level
level_by variable number under level [] = level
level_by variable number under level (Keyword words ∷ lines) = level_by variable number under level lines
level_by variable number under level (Number next ∷ lines) = level_by variable number next level lines
level_by variable number under level (Sets other new ∷ lines) =
    level_by variable number under (if other == variable && nat_le under number then new else level) lines

-- the numbers of the number lines
abbrev pub numbers : List Line → List ℕ
numbers [] = []
numbers (Keyword words ∷ lines) = numbers lines
numbers (Number number ∷ lines) = number ∷ numbers lines
numbers (Sets variable level ∷ lines) = numbers lines

-- each number is this one or more, and less than the next
abbrev pub AreRisingFrom : ℕ → List ℕ → Type 0
AreRisingFrom least [] = Unit {0}
AreRisingFrom least (number ∷ later) = (least ≤ number) × AreRisingFrom (suc number) later

-- whether a line declares a variable
abbrev pub declares : Line → Bool
declares (Keyword words) = bytes_eq (take 4 words) (codes "var ")
declares (Number number) = false
declares (Sets variable level) = false

-- how many variables are declared
abbrev pub declared : List Line → ℕ
declared [] = 0
declared (line ∷ lines) = if declares line then suc (declared lines) else declared lines

-- As many variables are declared as there are waves. The numbers rise, and at each of them the
-- lines give each variable the level of its wave: 0 is before moment 0, and t + 1 is moment t.
pub record SaysWaves (text : List ℕ) (waves : List Wave) : Type 0 where
  pub lines : List Line
  pub each : AllByRecursion IsOneLine lines
  pub parts : text ≡ text_of lines
  pub count : declared lines ≡ length waves
  pub rising : AreRisingFrom 0 (numbers lines)
  pub starts : (variable : ℕ) (wave : Wave) → slice_get waves variable ≡ Some wave
      → (level : Level) → level_by variable 0 0 level lines ≡ wave.start
  pub levels : (variable t : ℕ) (wave : Wave) → slice_get waves variable ≡ Some wave
      → (level : Level) → level_by variable (suc t) 0 level lines ≡ at wave t
