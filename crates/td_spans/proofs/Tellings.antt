-- Tellings: what literals say of a net, and how many inputs of a gate are at each level, in pieces.
use Rattle.std.proofs.Common.{◌≡◌, ℕ, suc, ◌+◌, ◌-◌, ◌≤◌, Bool, true, false, List, [], ◌∷◌, ◌++◌, length, map, take, drop, refl, arith, ap, sym, ◌∙◌, inl, inr, Option, Some, None}
use Rattle.std.specs.Prelude.{nat_le, ◌&&◌, ◌==◌, cond, count_by, sum_by, option_to_list, IsPermutation}
use Rattle.std.proofs.lemmas.Bool.{cases_lt, leb-true, le-leb, lt-leb, lt-ltb, ltb-true, eqb-true, and_parts}
use Rattle.std.proofs.lemmas.List.{length-append, length-map, map-append, take-append-drop}
use Rattle.std.proofs.lemmas.List.Sums.{sum_by-append, sum_by-cons, count_by-le-length}
use Rattle.std.proofs.lemmas.List.Sorted.{sum_by-IsPermutation, length_permutation}
use Rattle.td_gates.specs.declared.counts.Counts.{Counts}
use Rattle.td_gates.specs.declared.primitives.Level.{Level}
use Rattle.td_gates.specs.declared.primitives.Level.TheVariants.{Zero, One, X}
use Rattle.td_gates.specs.declared.primitives.Kind.{Kind}
use Rattle.td_gates.specs.Table.{level_eq, level_from, TakesInputs}
use Rattle.td_gates.specs.Counts.{counts_of, table_by}
use Rattle.td_gates.proofs.CountLaws.{table-counts}
use Rattle.td_circuit.specs.Numbering.{NumberedGate}
use Rattle.td_propagation.specs.declared.literal.Literal.{Literal}
use Rattle.td_propagation.specs.Literals.{negation}
use Rattle.td_spans.specs.declared.pieces.Piece.{Piece}
use Rattle.td_spans.specs.declared.times.Times.{Times}
use Rattle.td_spans.specs.declared.variable.Saying.{Saying}
use Rattle.td_spans.specs.declared.variable.Variable.{Variable}
use Rattle.td_spans.specs.Times.{is_by}
use Rattle.td_spans.specs.Sayings.{says}
use Rattle.td_spans.specs.Clauses.{constant_trit, trit_from, trit_by, is_known}
use Rattle.td_spans.specs.Pieces.{no_counts, one_at, counts_or, is_nothing, few_of, sum_counts, joined, told_or, said_of, own_if, own_of, trit_said, are_all, many_counts, repeated_piece, piece_at, is_known_in}
use Rattle.td_spans.specs.declared.walk.Walk.{Walk}
use Rattle.td_spans.specs.Walking.{is_before, IsStretch}
use Rattle.td_spans.specs.Stretching.{next_after}
use Rattle.td_spans.proofs.Completing.{IsUnderWay}
use Rattle.td_spans.proofs.Stretches.{before_next}
use Rattle.td_spans.proofs.Merges.{nothing_is, rest_all, counts_here}

-- a saying's pieces
pub saying_first : (saying : Saying) (place : ℕ) → saying.first ≡ 0
    → counts_or (record { last = saying.last; counts = one_at (level_from saying.level) } ∷ []) no_counts place ≡ told_or (saying ∷ []) no_counts place
saying_first saying place first = rw (first, le-leb 0 place (omega arith)) refl

pub saying_later : (saying : Saying) (place : ℕ) → 1 ≤ saying.first
    → counts_or (record { last = Some (saying.first - 1); counts = no_counts } ∷ record { last = saying.last; counts = one_at (level_from saying.level) } ∷ []) no_counts place
    ≡ told_or (saying ∷ []) no_counts place
saying_later saying place later = elim (cases_lt place saying.first) [
  | inl under ↦ rw (le-leb place (saying.first - 1) (omega arith), lt-leb saying.first place under) refl
  | inr from ↦ rw (lt-leb place (saying.first - 1) (omega arith), le-leb saying.first place from) refl
]

one_counts : (level : Level) → is_nothing (one_at level) ≡ false
one_counts Zero = refl
one_counts One = refl
one_counts X = refl

-- the first that counts something, at the places of sayings
pub told_joined : (sayings : List Saying) (rest : Counts) (place : ℕ) → joined false (told_or sayings no_counts place) rest ≡ told_or sayings rest place
told_joined [] rest place = refl
told_joined (saying ∷ sayings) rest place = by (nat_le saying.first place && is_by place saying.last) (told_joined sayings rest place)
  where
    alone : (b : Bool) (one : Counts) → cond b one one ≡ one
    alone true one = refl
    alone false one = refl

    by : (b : Bool) → joined false (told_or sayings no_counts place) rest ≡ told_or sayings rest place → joined false (cond b (one_at (level_from saying.level)) (told_or sayings no_counts place)) rest ≡ cond b (one_at (level_from saying.level)) (told_or sayings rest place)
    by true same = rw (one_counts (level_from saying.level)) (alone (is_nothing rest) (one_at (level_from saying.level)))
    by false same = same

told_append : (sayings more : List Saying) (rest : Counts) (place : ℕ) → told_or (sayings ++ more) rest place ≡ told_or sayings (told_or more rest place) place
told_append [] more rest place = refl
told_append (saying ∷ sayings) more rest place = by (nat_le saying.first place && is_by place saying.last) (told_append sayings more rest place)
  where
    by : (b : Bool) → told_or (sayings ++ more) rest place ≡ told_or sayings (told_or more rest place) place → cond b (one_at (level_from saying.level)) (told_or (sayings ++ more) rest place)
        ≡ cond b (one_at (level_from saying.level)) (told_or sayings (told_or more rest place) place)
    by true same = refl
    by false same = same

-- two parts of a list of sayings
pub told_parts : (sayings : List Saying) (middle : ℕ) (place : ℕ)
    → joined false (told_or (take middle sayings) no_counts place) (told_or (drop middle sayings) no_counts place) ≡ told_or sayings no_counts place
told_parts sayings middle place =
    told_joined (take middle sayings) (told_or (drop middle sayings) no_counts place) place
    ∙ sym (told_append (take middle sayings) (drop middle sayings) no_counts place)
    ∙ ap (λ ss. told_or ss no_counts place) (take-append-drop middle sayings)

-- what is said of a net gives its level
told_level : (said : List Saying) (net place : ℕ) → told_or (own_of said net) (one_at (constant_trit net)) place ≡ one_at (trit_said said net place)
told_level [] net place = refl
told_level (saying ∷ said) net place =
    told_append (own_if saying net) (own_of said net) (one_at (constant_trit net)) place
    ∙ ap (λ (c : Counts). told_or (own_if saying net) c place) (told_level said net place)
    ∙ by (saying.net == net)
  where
    at : (b : Bool) → cond b (one_at (level_from saying.level)) (one_at (trit_said said net place)) ≡ one_at (cond b (level_from saying.level) (trit_said said net place))
    at true = refl
    at false = refl

    by : (mine : Bool) → told_or (cond mine (saying ∷ []) []) (one_at (trit_said said net place)) place
        ≡ one_at (cond (mine && (nat_le saying.first place && is_by place saying.last)) (level_from saying.level) (trit_said said net place))
    by true = at (nat_le saying.first place && is_by place saying.last)
    by false = refl

-- what literals say gives the levels that they give
pub said_level : (variables : List Variable) (times : List Times) (body : List Literal) (net place : ℕ)
    → trit_said (said_of variables times body) net place ≡ trit_by variables times body net place
said_level variables times [] net place = refl
said_level variables times (literal ∷ body) net place = by (says variables times (negation literal)) (said_level variables times body net place)
  where
    by : (o : Option Saying) → trit_said (said_of variables times body) net place ≡ trit_by variables times body net place
        → trit_said (option_to_list o ++ said_of variables times body) net place ≡ trit_from o net place (trit_by variables times body net place)
    by None same = same
    by (Some saying) same = ap (trit_from (Some saying) net place) same

count_map : (test : Level → Bool) (f : ℕ → Level) (nets : List ℕ) → count_by test (map f nets) ≡ sum_by (λ net. cond (test (f net)) 1 0) nets
count_map test f [] = refl
count_map test f (net ∷ nets) =
    sum_by-cons (λ level. cond (test level) 1 0) (f net) (map f nets)
    ∙ ap (λ (n : ℕ). cond (test (f net)) 1 0 + n) (count_map test f nets)
    ∙ sym (sum_by-cons (λ other. cond (test (f other)) 1 0) net nets)

-- the order of a gate's inputs is all one
pub counts_sorted : (f : ℕ → Level) (nets sorted : List ℕ) → IsPermutation nets sorted → counts_of (map f sorted) ≡ counts_of (map f nets)
counts_sorted f nets sorted same = rw (count (level_eq Zero), count (level_eq One), count (level_eq X)) refl
  where
    count : (test : Level → Bool) → count_by test (map f sorted) ≡ count_by test (map f nets)
    count test = count_map test f sorted ∙ sum_by-IsPermutation (λ net. cond (test (f net)) 1 0) nets sorted same ∙ sym (count_map test f nets)

count_all : (test : Level → Bool) (f : ℕ → Level) (nets : List ℕ) (net : ℕ) → are_all nets net ≡ true → count_by test (map f nets) ≡ cond (test (f net)) (length nets) 0
count_all test f [] net all = none (test (f net))
  where
    none : (b : Bool) → ◌≡◌ {A = ℕ} 0 (cond b 0 0)
    none true = refl
    none false = refl
count_all test f (other ∷ nets) net all =
    let both = and_parts (other == net) (are_all nets net) all in
    let here : other ≡ net = eqb-true other net both.0 in
    sum_by-cons (λ level. cond (test level) 1 0) (f other) (map f nets)
    ∙ ap (λ (n : ℕ). cond (test (f other)) 1 0 + n) (count_all test f nets net both.1)
    ∙ ap (λ (o : ℕ). cond (test (f o)) 1 0 + cond (test (f net)) (length nets) 0) here
    ∙ one (test (f net)) (length nets)
  where
    one : (b : Bool) (n : ℕ) → cond b 1 0 + cond b n 0 ≡ cond b (suc n) 0
    one true n = omega arith
    one false n = omega arith

pub counts_one : (level : Level) → one_at level ≡ counts_of (level ∷ [])
counts_one Zero = refl
counts_one One = refl
counts_one X = refl

-- a gate's inputs that are one net
pub counts_all : (f : ℕ → Level) (nets : List ℕ) (net : ℕ) → are_all nets net ≡ true → many_counts (length nets) (one_at (f net)) ≡ counts_of (map f nets)
counts_all f nets net all =
    by (f net)
    ∙ sym (rw (count_all (level_eq Zero) f nets net all, count_all (level_eq One) f nets net all, count_all (level_eq X) f nets net all) refl)
  where
    by : (level : Level) → many_counts (length nets) (one_at level)
        ≡ record { zeros = cond (level_eq Zero level) (length nets) 0; ones = cond (level_eq One level) (length nets) 0; unknowns = cond (level_eq X level) (length nets) 0 }
    by Zero = refl
    by One = refl
    by X = refl

pub repeated_counts : (count : ℕ) (one : List Piece) (place : ℕ)
    → counts_or (map (repeated_piece count) one) no_counts place ≡ many_counts count (counts_or one no_counts place)
repeated_counts count [] place = refl
repeated_counts count (piece ∷ one) place = by (is_by place piece.last) (repeated_counts count one place)
  where
    by : (b : Bool) → counts_or (map (repeated_piece count) one) no_counts place ≡ many_counts count (counts_or one no_counts place)
        → cond b (many_counts count piece.counts) (counts_or (map (repeated_piece count) one) no_counts place) ≡ many_counts count (cond b piece.counts (counts_or one no_counts place))
    by true same = refl
    by false same = same

count_parts : (test : Level → Bool) (xs ys : List Level) → length xs + length ys ≤ 1023
    → few_of (count_by test xs) (count_by test ys) ≡ count_by test (xs ++ ys)
count_parts test xs ys few =
    let a = count_by-le-length test xs in
    let b = count_by-le-length test ys in
    let both : count_by test (xs ++ ys) ≡ count_by test xs + count_by test ys = sum_by-append (λ x. cond (test x) 1 0) xs ys in
    omega (arith, a, b, both, few)

sum_parts : (xs ys : List Level) → length xs + length ys ≤ 1023 → sum_counts (counts_of xs) (counts_of ys) ≡ counts_of (xs ++ ys)
sum_parts xs ys few = rw (count_parts (level_eq Zero) xs ys few, count_parts (level_eq One) xs ys few, count_parts (level_eq X) xs ys few) refl

-- no count is above 1023
abbrev AreFew : Counts → Type 0
AreFew counts = (counts.zeros ≤ 1023) × (counts.ones ≤ 1023) × (counts.unknowns ≤ 1023)

few_alone : (n : ℕ) → n ≤ 1023 → few_of 0 n ≡ n
few_alone n few = omega arith

few_alone' : (n : ℕ) → n ≤ 1023 → few_of n 0 ≡ n
few_alone' n few = omega arith

none_left : (counts : Counts) → AreFew counts → sum_counts no_counts counts ≡ counts
none_left counts few = rw (few_alone counts.zeros few.0, few_alone counts.ones few.1, few_alone counts.unknowns few.2) refl

none_right : (counts : Counts) → AreFew counts → sum_counts counts no_counts ≡ counts
none_right counts few = rw (few_alone' counts.zeros few.0, few_alone' counts.ones few.1, few_alone' counts.unknowns few.2) refl

counts_few : (xs : List Level) → length xs ≤ 1023 → AreFew (counts_of xs)
counts_few xs few =
    (let a = count_by-le-length (level_eq Zero) xs in omega arith, let a = count_by-le-length (level_eq One) xs in omega arith, let a = count_by-le-length (level_eq X) xs in omega arith)

joined_sum : (one other : Counts) → AreFew one → AreFew other → joined true one other ≡ sum_counts one other
joined_sum one other few few' = by (is_nothing one) (is_nothing other) refl refl
  where
    by : (a b : Bool) → is_nothing one ≡ a → is_nothing other ≡ b → cond a other (cond b one (sum_counts one other)) ≡ sum_counts one other
    by true b is is' = sym (rw (nothing_is one is) (none_left other few'))
    by false true is is' = sym (rw (nothing_is other is') (none_right one few))
    by false false is is' = refl

-- two parts of a list of inputs
pub counts_parts : (f : ℕ → Level) (nets : List ℕ) (middle : ℕ) → length nets ≤ 1023
    → joined true (counts_of (map f (take middle nets))) (counts_of (map f (drop middle nets))) ≡ counts_of (map f nets)
counts_parts f nets middle few =
    joined_sum (counts_of (map f (take middle nets))) (counts_of (map f (drop middle nets)))
    (counts_few (map f (take middle nets)) (omega (arith, long))) (counts_few (map f (drop middle nets)) (omega (arith, long)))
    ∙ sum_parts (map f (take middle nets)) (map f (drop middle nets)) (omega (arith, long))
    ∙ ap counts_of (sym (map-append f (take middle nets) (drop middle nets)) ∙ ap (map f) (take-append-drop middle nets))
  where
    long : length (map f (take middle nets)) + length (map f (drop middle nets)) ≤ 1023
    long = rw (length-map, length-map, sym (length-append (take middle nets) (drop middle nets)), take-append-drop middle nets) few

pub sorted_few : (nets sorted slice : List ℕ) → IsPermutation nets sorted → slice ≡ sorted → length nets ≤ 1023 → length slice ≤ 1023
sorted_few nets sorted slice same is few = omega (arith, length_permutation nets sorted same, ap (length {A = ℕ}) is, few)

-- what pieces count gives what is known of a gate's target
pub known_pieces : (variables : List Variable) (times : List Times) (gate : NumberedGate) (body : List Literal) (level : Bool) (said : List Saying) (sorted : List ℕ) (pieces : List Piece)
    → TakesInputs gate.kind (length gate.inputs) → said ≡ said_of variables times body → IsPermutation gate.inputs sorted
    → ((place : ℕ) → counts_or pieces no_counts place ≡ counts_of (map (λ net. trit_said said net place) sorted))
    → is_known_in gate.kind level pieces ≡ is_known variables times gate body level
known_pieces variables times gate body level said sorted pieces takes said_is in_order counts = λ z place. same place z
  where
    trits : (place : ℕ) (nets : List ℕ) → map (λ net. trit_said said net place) nets ≡ map (λ net. trit_by variables times body net place) nets
    trits place [] = refl
    trits place (net ∷ nets) =
        ap (λ (l : Level). l ∷ map (λ other. trit_said said other place) nets)
        (ap (λ ss. trit_said ss net place) said_is ∙ said_level variables times body net place)
        ∙ ap (λ (ls : List Level). trit_by variables times body net place ∷ ls) (trits place nets)

    same : (place : ℕ) → is_known_in gate.kind level pieces place ≡ is_known variables times gate body level place
    same place =
        ap (λ (c : Counts). level_eq (level_from level) (table_by gate.kind c))
        (counts place ∙ counts_sorted (λ net. trit_said said net place) gate.inputs sorted in_order
        ∙ ap counts_of (trits place gate.inputs))
        ∙ ap (level_eq (level_from level)) (table-counts gate.kind (map (λ net. trit_by variables times body net place) gate.inputs) (rw length-map takes))

-- the place is before the next one after a piece that isn't over
pub before_end : (place : ℕ) (last next : Option ℕ) → is_by place last ≡ true → next ≡ next_after last → is_before place next ≡ true
before_end place last next on next_is = ap (is_before place) next_is ∙ by last on
  where
    by : (last : Option ℕ) → is_by place last ≡ true → is_before place (next_after last) ≡ true
    by None on = refl
    by (Some last) on = let low = leb-true place last on in lt-ltb place (last + 1) (omega arith)

-- a piece is a stretch
pub stretch_in : (kind : Kind) (level : Bool) (pieces : List Piece) (index index' place : ℕ) (piece : Piece) (next : Option ℕ) (passes : Bool)
    → ((n : ℕ) → place ≤ n → counts_or pieces no_counts n ≡ counts_or (drop index pieces) no_counts n)
    → ((n : ℕ) → place ≤ n → counts_or (drop index pieces) no_counts n ≡ counts_or (drop index' pieces) no_counts n)
    → piece ≡ piece_at pieces index' → next ≡ next_after piece.last → passes ≡ level_eq (level_from level) (table_by kind piece.counts)
    → IsStretch (is_known_in kind level pieces) passes place next
stretch_in kind level pieces index index' place piece next passes so on piece_is next_is passes_is n low by =
    let within : is_by n piece.last ≡ true = before_next piece.last n (sym (ap (is_before n) next_is) ∙ by) in
    let here = counts_here pieces index' n (sym (ap (λ (p : Piece). is_by n p.last) piece_is) ∙ within) in
    ap (λ (c : Counts). level_eq (level_from level) (table_by kind c)) (so n low ∙ on n low ∙ here ∙ ap (λ (p : Piece). p.counts) (sym piece_is))
    ∙ sym passes_is

-- a walk over pieces
pub record IsPaced (kind : Kind) (saying : Saying) (coming going : ℕ) (pieces : List Piece) (index place : ℕ) (walk : Walk) : Type 0 where
  pub walks : IsUnderWay (is_known_in kind saying.level pieces) coming going place walk saying
  pub same : (n : ℕ) → place ≤ n → counts_or pieces no_counts n ≡ counts_or (drop index pieces) no_counts n

pub paced_on : (pieces : List Piece) (index index' place later : ℕ) (next : Option ℕ) → is_before place next ≡ true → next ≡ Some later
    → ((n : ℕ) → place ≤ n → counts_or pieces no_counts n ≡ counts_or (drop index pieces) no_counts n)
    → ((n : ℕ) → place ≤ n → counts_or (drop index pieces) no_counts n ≡ counts_or (drop index' pieces) no_counts n)
    → (n : ℕ) → later ≤ n → counts_or pieces no_counts n ≡ counts_or (drop index' pieces) no_counts n
paced_on pieces index index' place later next before next_is so on n low =
    let less = ltb-true place later (sym (ap (is_before place) next_is) ∙ before) in
    so n (omega (arith, less, low)) ∙ on n (omega (arith, less, low))

pub told_merged : (sayings : List Saying) (middle : ℕ) (low high pieces : List Piece)
    → ((place : ℕ) → counts_or low no_counts place ≡ told_or (take middle sayings) no_counts place)
    → ((place : ℕ) → counts_or high no_counts place ≡ told_or (take (length sayings - middle) (drop middle sayings)) no_counts place)
    → ((place : ℕ) → counts_or pieces no_counts place ≡ joined false (counts_or low no_counts place) (counts_or high no_counts place))
    → (place : ℕ) → counts_or pieces no_counts place ≡ told_or sayings no_counts place
told_merged sayings middle low high pieces low_is high_is is place =
    is place ∙ ap (λ (c : Counts). joined false c (counts_or high no_counts place)) (low_is place)
    ∙ ap (λ (c : Counts). joined false (told_or (take middle sayings) no_counts place) c)
    (high_is place ∙ ap (λ ss. told_or ss no_counts place) (rest_all sayings middle))
    ∙ told_parts sayings middle place

pub net_merged : (said : List Saying) (net : ℕ) (own rest pieces : List Piece)
    → ((place : ℕ) → counts_or own no_counts place ≡ told_or (own_of said net) no_counts place)
    → ((place : ℕ) → counts_or rest no_counts place ≡ one_at (constant_trit net))
    → ((place : ℕ) → counts_or pieces no_counts place ≡ joined false (counts_or own no_counts place) (counts_or rest no_counts place))
    → (place : ℕ) → counts_or pieces no_counts place ≡ one_at (trit_said said net place)
net_merged said net own rest pieces own_is rest_is is place =
    is place ∙ ap (λ (c : Counts). joined false c (counts_or rest no_counts place)) (own_is place)
    ∙ ap (λ (c : Counts). joined false (told_or (own_of said net) no_counts place) c) (rest_is place)
    ∙ told_joined (own_of said net) (one_at (constant_trit net)) place
    ∙ told_level said net place

pub counts_merged : (said : List Saying) (nets : List ℕ) (middle : ℕ) (low high pieces : List Piece) → length nets ≤ 1023
    → ((place : ℕ) → counts_or low no_counts place ≡ counts_of (map (λ net. trit_said said net place) (take middle nets)))
    → ((place : ℕ) → counts_or high no_counts place ≡ counts_of (map (λ net. trit_said said net place) (take (length nets - middle) (drop middle nets))))
    → ((place : ℕ) → counts_or pieces no_counts place ≡ joined true (counts_or low no_counts place) (counts_or high no_counts place))
    → (place : ℕ) → counts_or pieces no_counts place ≡ counts_of (map (λ net. trit_said said net place) nets)
counts_merged said nets middle low high pieces few low_is high_is is place =
    is place ∙ ap (λ (c : Counts). joined true c (counts_or high no_counts place)) (low_is place)
    ∙ ap (λ (c : Counts). joined true (counts_of (map (λ net. trit_said said net place) (take middle nets))) c)
    (high_is place ∙ ap (λ (ns : List ℕ). counts_of (map (λ net. trit_said said net place) ns)) (rest_all nets middle))
    ∙ counts_parts (λ net. trit_said said net place) nets middle few
