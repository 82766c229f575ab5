-- Numbers as Verilog spells them (IEEE 1364-2005, clause 3.5.1), below 2 to the power of 64.
use Rattle.std.specs.Prelude.{ℕ, ◌+◌, ◌*◌, [], ◌∷◌, Bool, true, false, ◌&&◌, ◌||◌, ◌==◌, nat_lt, Option, None, Some, if◌then◌else◌}
use Rattle.std.specs.Char.{digit_value}
use Rattle.td_inputs.specs.Scans.{Text, cut}

-- the number with one digit more; a `_` changes nothing
abbrev pub with_digit : ℕ → ℕ → ℕ → Option ℕ
with_digit radix number byte =
    if byte == 95 then Some number
    else (if nat_lt (digit_value byte) radix && nat_lt (number * radix + digit_value byte) 18446744073709551616
    then Some (number * radix + digit_value byte) else None)

-- the number that digits spell after this one
abbrev pub digits_from : ℕ → ℕ → Text → Option ℕ
digits_from radix number [] = Some number
digits_from radix number (byte ∷ rest) = elim (with_digit radix number byte) [ None ↦ None | Some next ↦ digits_from radix next rest ]

-- the number that digits spell, of which there is one at least; it comes first
abbrev pub digits_number : ℕ → Text → Option ℕ
digits_number radix [] = None
digits_number radix (first ∷ rest) = if first == 95 then None else digits_from radix 0 (first ∷ rest)

-- how many digits a base has
abbrev pub radix_of : ℕ → Option ℕ
radix_of letter =
    if letter == 98 || letter == 66 then Some 2
    else (if letter == 111 || letter == 79 then Some 8
    else (if letter == 100 || letter == 68 then Some 10
    else (if letter == 104 || letter == 72 then Some 16 else None)))

abbrev pub digits_in : Option ℕ → Text → Option ℕ
digits_in None text = None
digits_in (Some radix) text = digits_number radix text

-- the number that a base and digits spell
abbrev pub based_number : Text → Option ℕ
based_number [] = None
based_number (letter ∷ digits) = digits_in (radix_of letter) digits

abbrev pub is_number : ℕ → Option ℕ → Bool
is_number width None = false
is_number width (Some number) = number == width

-- a size is left out, or is this width
abbrev pub is_size : ℕ → Text → Bool
is_size width [] = true
is_size width (first ∷ rest) = is_number width (digits_number 10 (first ∷ rest))

abbrev pub number_in : ℕ → Text → Option (Text × Text) → Option ℕ
number_in width text None = digits_number 10 text
number_in width text (Some parts) = if is_size width parts.0 then based_number parts.1 else None

-- the number that a text spells for that many bits: decimal digits, or `'`, a base and its digits,
-- with or without the number of bits before it
abbrev pub number_of : ℕ → Text → Option ℕ
number_of width text = number_in width text (cut 39 text)
