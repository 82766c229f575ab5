-- What words say of each input.
use Rattle.std.specs.Prelude.{ℕ, ◌+◌, ◌-◌, ◌/◌, ◌%◌, ◌^◌, List, [], ◌∷◌, Bool, true, false, ◌&&◌, ◌==◌, nat_le, Option, None, Some, codes, if◌then◌else◌}
use Rattle.std.specs.Str.{bytes_eq}
use Rattle.td_inputs.specs.declared.value.Value.{Value}
use Rattle.td_inputs.specs.declared.value.Value.TheVariants.{Nothing, Bits, Each}
use Rattle.td_inputs.specs.Labels.{Label, is_named}
use Rattle.td_inputs.specs.Numbers.{digits_number, number_of}
use Rattle.td_inputs.specs.Scans.{Text}

-- a bit of a number, from the least significant one on
abbrev pub bit : ℕ → ℕ → ℕ
bit number place = number / 2 ^ place % 2

-- what a value says of an input after which it names that many more
abbrev pub cell_at : Value → ℕ → Option ℕ
cell_at Nothing place = None
cell_at (Bits number) place = Some (bit number place)
cell_at (Each number) place = Some number

-- how many inputs a word names
abbrev pub named_count : Text → List Label → ℕ
named_count word [] = 0
named_count word (label ∷ rest) = if is_named word label then 1 + named_count word rest else named_count word rest

abbrev pub next_left : Bool → ℕ → ℕ
next_left true left = left - 1
next_left false left = left

abbrev pub next_cell : Bool → Value → ℕ → Option ℕ
next_cell true value left = cell_at value left
next_cell false value left = None

-- what a word with this value says of each input: of the bits of a number the last one that it
-- names has the least significant
abbrev pub said : Text → Value → List Label → List (Option ℕ)
said word value [] = []
said word value (label ∷ rest) = next_cell (is_named word label) value (named_count word rest) ∷ said word value rest

-- a number has at most that many bits
abbrev pub fits : ℕ → ℕ → Bool
fits width number = number / 2 ^ width == 0

abbrev pub fitting : ℕ → Option ℕ → Option Value
fitting width None = None
fitting width (Some number) = if fits width number then Some (Bits number) else None

-- what a text says of the inputs that a pin names, of which there are that many: `.` says nothing,
-- and a number gives each its bit
abbrev pub pin_value : ℕ → Text → Option Value
pin_value width text = if bytes_eq text (codes ".") then Some Nothing else fitting width (number_of width text)

abbrev pub early : Option ℕ → Option Value
early None = None
early (Some number) = if nat_le number 1000000000 then Some (Each number) else None

-- the moment that a text spells, if it is one at which an input may change
abbrev pub moment_of : Text → Option Value
moment_of text = early (digits_number 10 text)

-- two words say nothing different of one input
abbrev pub agree : Option ℕ → Option ℕ → Bool
agree None other = true
agree (Some one) None = true
agree (Some one) (Some other) = one == other

-- what two words say of one input together
abbrev pub either : Option ℕ → Option ℕ → Option ℕ
either None other = other
either (Some one) other = Some one

-- two words say nothing different of any input
abbrev pub all_agree : List (Option ℕ) → List (Option ℕ) → Bool
all_agree [] others = true
all_agree (one ∷ ones) [] = true
all_agree (one ∷ ones) (other ∷ others) = agree one other && all_agree ones others

-- what two words say of each input together
abbrev pub together : List (Option ℕ) → List (Option ℕ) → List (Option ℕ)
together [] others = []
together (one ∷ ones) [] = []
together (one ∷ ones) (other ∷ others) = either one other ∷ together ones others

-- the first input of which two words say something different
abbrev pub clash_from : ℕ → List (Option ℕ) → List (Option ℕ) → Option ℕ
clash_from place [] others = None
clash_from place (one ∷ ones) [] = None
clash_from place (one ∷ ones) (other ∷ others) = if agree one other then clash_from (place + 1) ones others else Some place
