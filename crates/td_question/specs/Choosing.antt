-- Nets that words name.
use Rattle.std.specs.Prelude.{◌≡◌, ◌⊎◌, ◌==◌, ℕ, List, [], ◌∷◌, ◌++◌, slice_get, Some, if◌then◌else◌}
use Rattle.std.specs.List.{Contains, list_any}
use Rattle.td_nets.specs.Netlist.{Named}
use Rattle.td_circuit.specs.Numbering.{Numbered, nets}
use Rattle.td_question.specs.Keeping.{IsFirstNet, HasNoNet}

-- the net with this number of the circuit is the first one that reports print so
pub record NamesNet (circuit : Numbered) (word : List ℕ) (net : ℕ) : Type 0 where
  pub number : ℕ
  pub first : IsFirstNet circuit.netlist word number
  pub stands : slice_get (nets circuit) net ≡ Some (Named first.net)

-- the numbers with one more, unless it is there
abbrev pub with_net : List ℕ → ℕ → List ℕ
with_net numbers net = if list_any (λ number. number == net) numbers then numbers else numbers ++ net ∷ []

-- these numbers come of those before them and of the nets that the words name, in their order
abbrev pub AreAdded : Numbered → List ℕ → List (List ℕ) → List ℕ → Type 0
AreAdded circuit before [] numbers = numbers ≡ before
AreAdded circuit before (word ∷ words) numbers =
    (net : ℕ) × NamesNet circuit word net × AreAdded circuit (with_net before net) words numbers

-- these are the numbers of the nets that the words name, in their order, each once
abbrev pub AreChosen : Numbered → List (List ℕ) → List ℕ → Type 0
AreChosen circuit words numbers = AreAdded circuit [] words numbers

-- this is the first of the words that names no net
abbrev pub IsUnnamed : Numbered → List (List ℕ) → List ℕ → Type 0
IsUnnamed circuit [] word = ⊥
IsUnnamed circuit (first ∷ words) word =
    ((word ≡ first) × HasNoNet circuit.netlist first)
    ⊎ (((net : ℕ) × NamesNet circuit first net) × IsUnnamed circuit words word)

-- ---- internal

-- each of the words is one of the names
abbrev pub AreAllIn : List (List ℕ) → List (List ℕ) → Type 0
AreAllIn [] names = Unit {0}
AreAllIn (word ∷ words) names = Contains names word × AreAllIn words names
