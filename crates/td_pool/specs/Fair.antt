-- What the users of a deque put and take.
use Rattle.std.specs.Prelude.{◌≡◌, ℕ, ◌+◌, ◌≤◌, ◌==◌, List, [], ◌∷◌, ◌++◌, map, take, drop, slice_get, slice_set, Some, count_by, sum_by}
use Rattle.td_pool.specs.declared.history.History.{History}

abbrev pub history : List ℕ → List ℕ → History
history put taken = record { put = put; taken = taken }

abbrev pub empty_history : History
empty_history = history [] []

abbrev pub times : ℕ → List ℕ → ℕ
times x xs = count_by (λ y. x == y) xs

-- how often these users put, and took, the number
abbrev pub times_put : ℕ → List History → ℕ
times_put x histories = sum_by (λ h. times x h.put) histories

abbrev pub times_taken : ℕ → List History → ℕ
times_taken x histories = sum_by (λ h. times x h.taken) histories

-- these users put nothing
abbrev pub PutNothing : List History → Type 0
PutNothing [] = Unit {0}
PutNothing (h ∷ histories) = (h.put ≡ []) × PutNothing histories

-- the first user alone puts
abbrev pub OwnerPuts : List History → Type 0
OwnerPuts [] = ⊥
OwnerPuts (owner ∷ guests) = PutNothing guests

-- the rule: the owner of a deque alone puts, and each number was taken, or is in the deque, as
-- often as it was put
pub record IsFair (items : List ℕ) (histories : List History) : Type 0 where
  pub owner : OwnerPuts histories
  pub balanced : (x : ℕ) → times_put x histories ≡ times_taken x histories + times x items

-- each number that this user took was put by it, at least as often
abbrev pub TookItsOwn : History → Type 0
TookItsOwn h = (x : ℕ) → times x h.taken ≤ times x h.put

-- under the rule no number was taken more often than it was put
abbrev pub TakenWasPut : Type 0
TakenWasPut = (items : List ℕ) (histories : List History) (x : ℕ) → IsFair items histories → times_taken x histories ≤ times_put x histories

-- a user of the deque of this identity, and what it has put and taken
pub record Port : Type 0 where
  pub deque : ℕ × ℕ
  pub history : History

-- a worker's own deque, and those of others
pub record DequePorts : Type 0 where
  pub own : Port
  pub others : List Port

-- a user who put and took nothing yet
abbrev pub fresh : ℕ × ℕ → Port
fresh deque = record { deque = deque; history = empty_history }

abbrev pub puts : Port → ℕ → Port
puts p number = record { deque = p.deque; history = history (p.history.put ++ number ∷ []) p.history.taken }

abbrev pub takes : Port → ℕ → Port
takes p number = record { deque = p.deque; history = history p.history.put (p.history.taken ++ number ∷ []) }

-- a fresh user of a seat's own deque
abbrev pub fresh_other : DequePorts → Port
fresh_other s = fresh s.own.deque

-- fresh users of the own deques of all seats but that at k: first those after it, then those before
-- it
abbrev pub ring : List DequePorts → ℕ → List Port
ring seats k = map fresh_other (drop (k + 1) seats) ++ map fresh_other (take k seats)

-- nothing was put or taken yet, and each steals from the deques of all others
pub record AreDealt (seats : List DequePorts) : Type 0 where
  pub own : (k : ℕ) (s : DequePorts) → slice_get seats k ≡ Some s → s.own ≡ fresh s.own.deque
  pub others : (k : ℕ) (s : DequePorts) → slice_get seats k ≡ Some s → s.others ≡ ring seats k

-- the number was taken from one of these deques, and nothing else changed
pub record StealsAt (old : List Port) (number : ℕ) (new : List Port) : Type 0 where
  pub place : ℕ
  pub port : Port
  pub was : slice_get old place ≡ Some port
  pub now : new ≡ slice_set old place (takes port number)

-- the number was taken from the deque of one of the others, and nothing else changed
abbrev pub Steals : DequePorts → ℕ → DequePorts → Type 0
Steals old number new = StealsAt old.others number new.others × (new.own ≡ old.own)
