-- The rule of the word, and what each step on it tells.
use Rattle.std.specs.Prelude.{◌≡◌, ◌≢◌, ◌⊎◌, ℕ, zero, suc, ◌<◌, ◌≤◌, List, [], ◌∷◌, ◌++◌, max, Contains}
use mathlib.Core.Option.{some}
use lib.ListN.{get_elem?}
use Rattle.atomic_table.specs.Table.{State, Me, Step}
use Rattle.td_incumbent.specs.declared.view.View.{View}

-- A view that stands for no seat is spent. The word is at least what each view has seen and
-- offered, and it is 0 or the offer of an unspent view. A view stands for seats below `seats`, and
-- no two stand for the same one.
pub record IsGreatest (seats word : ℕ) (views : List View) : Type 0 where
  pub above : (i : ℕ) (v : View) → get_elem? views i ≡ some v → (v.seen ≤ word) × (v.offer ≤ word)
  pub offered : (word ≡ 0) ⊎ ((i : ℕ) × (v : View) × (get_elem? views i ≡ some v) × (v.seats ≢ []) × (v.offer ≡ word))
  pub dealt : (i : ℕ) (v : View) (k : ℕ) → get_elem? views i ≡ some v → Contains v.seats k → k < seats
  pub apart : (i j : ℕ) (v w : View) (k : ℕ) → get_elem? views i ≡ some v → get_elem? views j ≡ some w → Contains v.seats k → Contains w.seats k → i ≡ j

-- the rule, as the table has it: its one word is the word
abbrev pub Keeps : ℕ → State ℕ View → Type 0
Keeps seats s = (word : ℕ) × (s.words ≡ word ∷ []) × IsGreatest seats word s.views

-- the numbers from n on, k of them
abbrev pub count_from : ℕ → ℕ → List ℕ
count_from n zero = []
count_from n (suc k) = n ∷ count_from (suc n) k

abbrev pub opening_view : ℕ → View
opening_view seats = record { seen = 0; offer = 0; seats = count_from 0 seats }

-- the seat has seen the word that it found
abbrev pub Looks : Step ℕ → Me ℕ View → ℕ → Me ℕ View → Type 0
Looks st me found me' = (me.0.seen ≤ found) × (me' ≡ (record { seen = found; offer = me.0.offer; seats = me.0.seats }, me.1))

-- the word became the greater of what was found and the offer, which the seat has seen and made
abbrev pub Raises : Step ℕ → Me ℕ View → ℕ → Me ℕ View → Type 0
Raises st me found me' = (me.0.seen ≤ found) × (me' ≡ (record { seen = max found st.first; offer = max me.0.offer st.first; seats = me.0.seats }, me.1))

abbrev pub rest_of : List ℕ → List ℕ
rest_of [] = []
rest_of (k ∷ ks) = ks

abbrev pub first_of_them : List ℕ → List ℕ
first_of_them [] = []
first_of_them (k ∷ ks) = k ∷ []

abbrev pub undealt : View → View
undealt v = record { seen = v.seen; offer = v.offer; seats = rest_of v.seats }

abbrev pub dealt_view : View → View
dealt_view v = record { seen = 0; offer = 0; seats = first_of_them v.seats }

abbrev pub joined : View → View → View
joined v w = record { seen = max v.seen w.seen; offer = max v.offer w.offer; seats = v.seats ++ w.seats }

abbrev pub spent : View
spent = record { seen = 0; offer = 0; seats = [] }
