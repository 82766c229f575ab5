-- Sayings: what variables mean in a run, and what literals say.
use Rattle.std.specs.Prelude.{◌≡◌, ℕ, ◌+◌, ◌≤◌, nat_le, Bool, true, false, List, slice_get, Option, Some, None}
use Rattle.td_propagation.specs.declared.literal.Literal.{Literal}
use Rattle.td_spans.specs.declared.times.Times.{Times}
use Rattle.td_spans.specs.declared.variable.Saying.{Saying}
use Rattle.td_spans.specs.declared.variable.Variable.{Variable}
use Rattle.td_spans.specs.declared.variable.Variable.TheVariants.{First, Last, Span, Flips}
use Rattle.td_domain.specs.Admits.{flip_of}
use Rattle.td_spans.specs.Times.{is_by, place_for}
use Rattle.td_spans.specs.Changing.{sum_of}

-- the net is at the level at all places from the first to the last
abbrev pub Holds : (ℕ → ℕ → Bool) → Saying → Type 0
Holds level saying = (n : ℕ) → saying.first ≤ n → is_by n saying.last ≡ true → level saying.net n ≡ saying.level

-- 1 where an input ends at another level than it starts at, else 0
abbrev pub differs_at : (ℕ → ℕ → Bool) → (ℕ → Bool) → ℕ → ℕ
differs_at level final input = flip_of (level (2 + input) 0) (final (2 + input))

-- what the value of a variable means, where nets have these levels by place and these last levels
abbrev pub Means : (ℕ → ℕ → Bool) → (ℕ → Bool) → Variable → Bool → Type 0
Means level final (First net) value = value ≡ level net 0
Means level final (Last net) value = value ≡ final net
Means level final (Flips inputs count) value = value ≡ nat_le count (sum_of (differs_at level final) inputs)
Means level final (Span saying) value = (value ≡ true → Holds level saying) × (Holds level saying → value ≡ true)

-- each variable has the value that it means
abbrev pub AreMeant : (ℕ → ℕ → Bool) → (ℕ → Bool) → List Variable → (ℕ → Bool) → Type 0
AreMeant level final variables valuation = (x : ℕ) (variable : Variable) → slice_get variables x ≡ Some variable
    → Means level final variable (valuation x)

-- that a net starts at a level: it is at it up to its early place; of no net nothing
abbrev pub start_saying : ℕ → Bool → Option Times → Option Saying
start_saying net level None = None
start_saying net level (Some times) = Some (record { net = net; level = level; first = 0; last = times.early })

-- that a net ends at a level: it is at it from its end on
abbrev pub end_saying : ℕ → Bool → Option Times → Option Saying
end_saying net level None = None
end_saying net level (Some times) = Some (record { net = net; level = level; first = place_for times.ends level; last = None })

-- What a literal of a variable says: a negated span nothing, and nothing of flips.
abbrev pub said_of : List Times → Bool → Option Variable → Option Saying
said_of times positive None = None
said_of times positive (Some (First net)) = start_saying net positive (slice_get times net)
said_of times positive (Some (Last net)) = end_saying net positive (slice_get times net)
said_of times true (Some (Span saying)) = Some saying
said_of times false (Some (Span saying)) = None
said_of times positive (Some (Flips inputs count)) = None

abbrev pub says : List Variable → List Times → Literal → Option Saying
says variables times literal = said_of times literal.positive (slice_get variables literal.variable)
