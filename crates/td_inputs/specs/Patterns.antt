-- Words that say something of each input, by place.
use Rattle.std.specs.Prelude.{ℕ, ◌+◌, List, [], ◌∷◌, ◌++◌, ◌==◌, Option, None, Some, codes, decimal, map, unwrap_or, if◌then◌else◌}
use Rattle.td_inputs.specs.declared.writing.Letters.{Letters}
use Rattle.td_inputs.specs.declared.writing.Letters.TheVariants.{Trits, Holds}
use Rattle.td_inputs.specs.Scans.{Text}

-- the character of what is said of an input
abbrev pub letter_of : Letters → Option ℕ → ℕ
letter_of letters None = 46
letter_of Holds (Some said) = 61
letter_of Trits (Some said) = if said == 0 then 48 else 49

-- the word that says this of each input, `none` where there are none
abbrev pub pattern_text : Letters → List (Option ℕ) → Text
pattern_text letters [] = codes "none"
pattern_text letters (cell ∷ rest) = map (letter_of letters) (cell ∷ rest)

-- what a character says of an input, if it is one of these letters
abbrev pub cell_of : Letters → ℕ → Option (Option ℕ)
cell_of Trits letter =
    if letter == 46 then Some None
    else (if letter == 48 then Some (Some 0) else (if letter == 49 then Some (Some 1) else None))
cell_of Holds letter = if letter == 46 then Some None else (if letter == 61 then Some (Some 1) else None)

-- what stands before the moment of the input at this place
abbrev pub separator : ℕ → Text
separator place = if place == 0 then [] else (44 ∷ [])

-- the moments of inputs of which the first is at this place
abbrev pub moments_at : ℕ → List (Option ℕ) → Text
moments_at place [] = []
moments_at place (cell ∷ rest) = separator place ++ decimal (unwrap_or cell 0) ++ moments_at (place + 1) rest

-- the word that gives each input its moment, 0 where nothing is said of it, with commas between
-- them; `none` where there are no inputs
abbrev pub moments_text : List (Option ℕ) → Text
moments_text [] = codes "none"
moments_text (cell ∷ rest) = moments_at 0 (cell ∷ rest)
