-- Words of the command line that give something for each input.
use Rattle.std.specs.Prelude.{◌≡◌, ℕ, ◌≤◌, Bool, false, ◌⊎◌, List, [], ◌∷◌, ◌++◌, length, replicate, codes, Option, Some, None}
use Rattle.std.specs.Str.Parse.{IsNumeral, digits_value}
use Rattle.td_gates.specs.declared.primitives.Level.{Level}
use Rattle.td_gates.specs.declared.primitives.Level.TheVariants as level
use Rattle.td_domain.specs.declared.cubes.Trit.{Trit}
use Rattle.td_domain.specs.declared.cubes.Trit.TheVariants as trit
pub use Rattle.td_certificate.specs.Text.{trit as trit_character, hold as held_character, row as vector_text}
use Rattle.td_question.specs.declared.vector.VectorWord.{VectorWord}

-- ---- vectors and masks: the characters of trits and of inputs that are held are those of a
-- certificate

-- 0, 1 and x
abbrev pub level_character : Level → ℕ
level_character level.Zero = 48
level_character level.One = 49
level_character level.X = 120

-- the word spells a vector of `count` symbols
pub record SpellsVector {S : Type 0} (character : S → ℕ) (count : ℕ) (word : List ℕ) (symbols : List S) : Type 0 where
  pub fits : length symbols ≡ count
  pub spells : word ≡ vector_text character symbols

-- the symbols that the word of an option spells, each of them this one where the option is left out
abbrev pub AreGiven : {S : Type 0} → (S → ℕ) → S → ℕ → Option (List ℕ) → List S → Type 0
AreGiven character left_out count None symbols = symbols ≡ replicate count left_out
AreGiven character left_out count (Some word) symbols = SpellsVector character count word symbols

-- the trits of an option, all free where it is left out
abbrev pub AreTrits : ℕ → Option (List ℕ) → List Trit → Type 0
AreTrits = AreGiven trit_character trit.Free

-- the inputs that an option holds, none where it is left out
abbrev pub IsMask : ℕ → Option (List ℕ) → List Bool → Type 0
IsMask = AreGiven held_character false

-- ---- moments

-- the digits of a moment at which an input may change; zeros may lead them
pub record SpellsMoment (digits : List ℕ) (moment : ℕ) : Type 0 where
  pub numeral : IsNumeral 10 digits
  pub is : digits_value 10 digits ≡ moment
  pub within : moment ≤ 1000000000

-- the word spells these moments with a comma between each two, and is `none` where there are none
abbrev pub SpellsMoments : List ℕ → List ℕ → Type 0
SpellsMoments word [] = word ≡ codes "none"
SpellsMoments word (moment ∷ []) = SpellsMoment word moment
SpellsMoments word (moment ∷ next ∷ others) =
    (digits rest : List ℕ) × (word ≡ digits ++ 44 ∷ rest) × SpellsMoment digits moment × SpellsMoments rest (next ∷ others)

-- `count` moments, which the word of an option spells, all of them 0 where the option is left out
abbrev pub AreMomentsOf : ℕ → Option (List ℕ) → List ℕ → Type 0
AreMomentsOf count None moments = moments ≡ replicate count 0
AreMomentsOf count (Some word) moments = (length moments ≡ count) × SpellsMoments word moments

-- ---- words that give nothing

-- the words of a command that give something for each input, each with what it has to meet for a
-- number of inputs
abbrev pub VectorWords : Type 1
VectorWords = List (VectorWord × (ℕ → Type 0))

-- the first of the words that gives nothing for `count` inputs
abbrev pub IsFirstBad : ℕ → VectorWords → VectorWord → Type 0
IsFirstBad count [] word = ⊥
IsFirstBad count (given ∷ others) word = ((word ≡ given.0) × ¬ given.1 count) ⊎ (given.1 count × IsFirstBad count others word)

-- the word spells a level for each of `count` inputs
abbrev pub SpellsLevels : List ℕ → ℕ → Type 0
SpellsLevels word count = (levels : List Level) × SpellsVector level_character count word levels

-- the option gives trits, a mask or moments for `count` inputs
abbrev pub GivesTrits : Option (List ℕ) → ℕ → Type 0
GivesTrits word count = (trits : List Trit) × AreTrits count word trits

abbrev pub GivesMask : Option (List ℕ) → ℕ → Type 0
GivesMask word count = (held : List Bool) × IsMask count word held

abbrev pub GivesMoments : Option (List ℕ) → ℕ → Type 0
GivesMoments word count = (moments : List ℕ) × AreMomentsOf count word moments
