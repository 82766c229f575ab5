-- The parts of a `timescale: two spans of time with a slash between them, white space free between
-- the parts.
use Rattle.std.specs.Prelude.{ℕ, ◌+◌, List, [], ◌∷◌, length, take, drop, Option, None, Some, nat_le, if◌then◌else◌, codes}
use Rattle.std.specs.List.{prefix_len}
use Rattle.std.specs.Option.{option_and_then, option_map}
use Rattle.std.specs.Str.{bytes_eq}
use Rattle.td_syntax.specs.declared.token.Directive.{Directive}
use Rattle.td_syntax.specs.declared.token.Directive.TheVariants as directive
use Rattle.td_syntax.specs.Bytes.{is_blank}

-- the number beside the first of these texts with which the bytes begin, and the bytes after that
-- text
unfoldable pub part_in : List (List ℕ × ℕ) → List ℕ → Option (ℕ × List ℕ)
part_in [] bytes = None
part_in (t ∷ ts) bytes = if bytes_eq (take (length t.0) bytes) t.0 then Some (t.1, drop (length t.0) bytes) else part_in ts bytes

unfoldable pub unblanked : List ℕ → List ℕ
unblanked bytes = drop (prefix_len is_blank bytes) bytes

-- powers of ten
abbrev pub magnitudes : List (List ℕ × ℕ)
magnitudes = (codes "100", 2) ∷ (codes "10", 1) ∷ (codes "1", 0) ∷ []

-- powers of ten of a femtosecond
abbrev pub units : List (List ℕ × ℕ)
units = (codes "s", 15) ∷ (codes "ms", 12) ∷ (codes "us", 9) ∷ (codes "ns", 6) ∷ (codes "ps", 3) ∷ (codes "fs", 0) ∷ []

-- a magnitude and a unit: the power of ten of a femtosecond that they make
unfoldable pub span_in : List ℕ → Option (ℕ × List ℕ)
span_in bytes = option_and_then (λ m. option_map (λ u. (m.0 + u.0, u.1)) (part_in units (unblanked m.1))) (part_in magnitudes (unblanked bytes))

-- the second span is not greater than the first
abbrev pub pair_in : ℕ → ℕ × List ℕ → Option (Directive × List ℕ)
pair_in unit step = if nat_le step.0 unit then Some (directive.Timescale (record { unit = unit; step = step.0 }), step.1) else None

unfoldable pub timescale_in : List ℕ → Option (Directive × List ℕ)
timescale_in bytes =
    option_and_then (λ unit. option_and_then (λ slash. option_and_then (pair_in unit.0) (span_in slash.1)) (part_in ((codes "/", 0) ∷ []) (unblanked unit.1))) (span_in bytes)
