-- How many gates have the default delay is at most how many there are.
use Rattle.std.proofs.Common.{◌≡◌, ℕ, ◌+◌, ◌<◌, ◌≤◌, List, [], ◌∷◌, length, map, take, get_or, ◌∙◌, Option, None, Some, arith, ap, sym}
use Rattle.std.specs.Prelude.{sum_by}
use Rattle.std.specs.List.{flat_map}
use Rattle.std.proofs.lemmas.List.Sums.{sum_by-cons}
use Rattle.std.proofs.lemmas.List.Concat.{length-flat_map}
use Rattle.std.proofs.lemmas.List.Folds.{length-flat_map-take}
use Rattle.td_syntax.specs.Grammar as grammar
use Rattle.std.specs.List.{take-map}
use Rattle.std.proofs.Math.ListN.{get_or-map}
use Rattle.std.proofs.lemmas.List.{length-map}
use Rattle.td_syntax.specs.declared.syntax.Terminal as syntax_terminal
use Rattle.td_syntax.specs.Views.{terminal_view}
use Rattle.td_netlist.specs.declared.primitive.Primitive as code_primitive
use Rattle.td_netlist.specs.CheckViews.{primitive_of}
use Rattle.td_netlist.specs.Module.{Primitive, outputs_of, defaulted_by, defaulted_of}

sums_below : {X : Type 0} (f g : X → ℕ) → ((x : X) → f x ≤ g x) → (xs : List X) → sum_by f xs ≤ sum_by g xs
sums_below f g le [] = omega arith
sums_below f g le (x ∷ xs) = omega (arith, sum_by-cons f x xs, sum_by-cons g x xs, le x, sums_below f g le xs)

pub defaulted_below : (o : Option grammar.Delay) (n : ℕ) → defaulted_by o n ≤ n
defaulted_below None n = omega arith
defaulted_below (Some d) n = omega arith

pub count_below : (ps : List Primitive) (i : ℕ) (d : Primitive) → i < length ps → length (flat_map outputs_of ps) ≤ 200000
    → sum_by defaulted_of (take i ps) + length (outputs_of (get_or ps i d)) ≤ 200000
count_below ps i d lt few =
    let below : sum_by defaulted_of (take i ps) ≤ sum_by (λ (p : Primitive). length (outputs_of p)) (take i ps) =
    sums_below defaulted_of (λ (p : Primitive). length (outputs_of p)) (λ p. defaulted_below p.delay (length (outputs_of p))) (take i ps) in
    omega (arith, below, length-flat_map outputs_of (take i ps), length-flat_map-take outputs_of ps i d lt)

pub count_fits : (xs : List code_primitive.Primitive) (i : ℕ) (d : code_primitive.Primitive) (count r : ℕ) (outputs : List syntax_terminal.Terminal) (stated : Option grammar.Delay)
    → i < length xs → length (flat_map outputs_of (map primitive_of xs)) ≤ 200000
    → count ≡ sum_by defaulted_of (map primitive_of (take i xs)) → map terminal_view outputs ≡ outputs_of (primitive_of (get_or xs i d))
    → r ≡ defaulted_by stated (length outputs) → count + r ≤ 200000
count_fits xs i d count r outputs stated lt few counted are is =
    let within : i < length (map primitive_of xs) = omega (arith, length-map xs primitive_of) in
    let below = count_below (map primitive_of xs) i (primitive_of d) within few in
    let taken : sum_by defaulted_of (take i (map primitive_of xs)) ≡ count = ap (λ (ps : List Primitive). sum_by defaulted_of ps) (take-map primitive_of i xs) ∙ sym counted in
    let at : get_or (map primitive_of xs) i (primitive_of d) ≡ primitive_of (get_or xs i d) = get_or-map primitive_of xs i d in
    let long : length (outputs_of (get_or (map primitive_of xs) i (primitive_of d))) ≡ length outputs =
    ap (λ (p : Primitive). length (outputs_of p)) at ∙ ap (λ (ns : List grammar.Terminal). length ns) (sym are) ∙ length-map outputs terminal_view in
    let less = defaulted_below stated (length outputs) in
    omega (arith, below, taken, long, less, is)
