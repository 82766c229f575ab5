-- Kinds of bytes.
use Rattle.std.specs.Prelude.{ℕ, List, [], ◌∷◌, Bool, ◌||◌, ◌&&◌, ◌==◌, nat_le, false}
use Rattle.std.specs.List.{count_by}
use Rattle.std.specs.Char.{is_ascii_digit}
use Rattle.td_nets.specs.Letters.{is_name_byte}

-- tab, newline, form feed, carriage return, space
abbrev pub is_blank : ℕ → Bool
is_blank b = b == 32 || b == 10 || b == 9 || b == 13 || b == 12

abbrev pub is_number_byte : ℕ → Bool
is_number_byte b = is_ascii_digit b || b == 95

abbrev pub is_point : ℕ → Bool
is_point b = b == 46

abbrev pub is_quote : ℕ → Bool
is_quote b = b == 39

-- what a number may run into: letters, digits, _, $ and .
abbrev pub is_run_byte : ℕ → Bool
is_run_byte b = is_name_byte b || b == 46

abbrev pub is_printable : ℕ → Bool
is_printable b = nat_le 33 b && nat_le b 126

abbrev pub is_newline : ℕ → Bool
is_newline b = b == 10

abbrev pub newlines : List ℕ → ℕ
newlines bytes = count_by is_newline bytes

abbrev pub is_zero : ℕ → Bool
is_zero b = b == 48

-- whether such a byte stands in front
abbrev pub begins : (ℕ → Bool) → List ℕ → Bool
begins is [] = false
begins is (b ∷ bs) = is b
