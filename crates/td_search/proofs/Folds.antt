-- The tree of a search that was cut short, where what is open is folded.
use Rattle.std.proofs.Common.{◌≡◌, ℕ, zero, suc, ◌+◌, ◌*◌, ◌-◌, ◌<◌, ◌≤◌, ◌^◌, max, Bool, true, false, cond, if◌then◌else◌, List, [], ◌∷◌, ◌++◌, length, refl, sym, ap, subst, ◌∙◌, inl, inr, le_refl, append_assoc, arith}
use Rattle.std.specs.Prelude.{count_by, nat_le, slice_get, unwrap_or, Some, Option}
use Rattle.std.specs.List.{AllByRecursion}
use Rattle.std.proofs.lemmas.Bool.{cases_Bool, leb-true, leb-false}
use Rattle.std.proofs.lemmas.Option.{slice_get_within}
use Rattle.std.proofs.lemmas.List.Sums.{sum_by-cons}
use Rattle.td_circuit.specs.Settings.{AreMoments}
use Rattle.td_circuit.specs.Numbering.{Numbered, setting, IsNumbering}
use Rattle.td_domain.specs.declared.cubes.Trit.{Trit}
use Rattle.td_domain.specs.declared.cubes.Trit.TheVariants.{Free}
use Rattle.td_domain.specs.Admits.{Admitted}
use Rattle.td_domain.specs.Together.{both_functions}
use Rattle.td_domain.proofs.Soundness.{one_bound}
use Rattle.td_arrival.specs.Arrivals.{arrival_functions}
use Rattle.td_ternary.specs.Possibles.{possible_functions}
use Rattle.td_edges.specs.EdgeSignals.{edge_functions}
use Rattle.td_refutation.specs.Asking.{all_admitted}
use Rattle.td_book.specs.declared.node.Mark.TheVariants as mark
use Rattle.td_book.specs.declared.node.Node.{Node}
use Rattle.td_book.specs.declared.node.State.{State}
use Rattle.td_book.specs.declared.node.State.TheVariants.{Split, Open, Held, Closed}
use Rattle.td_book.specs.Board.{node, position_of, is_forest, is_pending, is_handled}
use Rattle.td_book.specs.Kept.{unheld, as_open}
use Rattle.td_certificate.specs.declared.tree.BoundedBy.{BoundedBy}
use Rattle.td_certificate.specs.declared.tree.Node as line
use Rattle.td_certificate.specs.declared.tree.Node.TheVariants as lines
use Rattle.td_certificate.specs.Accepts.{IsBoundBy, IsGood}
use Rattle.td_certificate.specs.Cubes.{zero_side, one_side, cubes_past}
use Rattle.td_certificate.specs.Lengths.{IsShort}
use Rattle.td_certificate.specs.Trees.{pending_after}
use Rattle.td_certificate.specs.Walks.{lines_from}
use Rattle.td_search.specs.declared.strategy.Strategy.{Strategy}
use Rattle.td_search.specs.declared.strategy.Strategy.TheVariants.{Least, Lead}
use Rattle.td_search.specs.CutShort.{Place, root_place, places_past, greatest_of}
use Rattle.td_search.specs.Folding.{bound_at, bound_before, sides_of, passed_below, passed_over, folded_line, folded}
use Rattle.td_search.specs.Listed.{certificate_node, left_bound, left_bounds}
use Rattle.td_search.specs.Opened.{ShowsHigh}
use Rattle.td_search.specs.Problems.{Problem, problem_by, strongest, has_bound}
use Rattle.td_search.specs.Progress.{IsSettledWell, IsKnown, AreWell}
use Rattle.td_search.specs.Representatives.{representative}
use Rattle.td_search.proofs.Wells.{AllLong, long_past, cubes_of}

-- ---- a step of the loop

-- a node of a tree that is passed over
pub passed_step : (bounds : List ℕ) (domain : BoundedBy) (high passed left : ℕ) (x : Node) (xs : List Node) (front : List line.Node) → 0 < passed
    → left ≡ passed - 1 + sides_of x.state → front ++ folded bounds domain high left xs ≡ front ++ folded bounds domain high passed (x ∷ xs)
passed_step bounds domain high zero left x xs front some is = absurd (omega arith)
passed_step bounds domain high (suc passed) left x xs front some is =
    ap (λ (n : ℕ). front ++ folded bounds domain high n xs) (at x.state is)
  where
    at : (s : State) → left ≡ suc passed - 1 + sides_of s → left ≡ passed_below s passed
    at (Split p) e = omega (arith, e)
    at Open e = omega (arith, e)
    at (Held w a) e = omega (arith, e)
    at (Closed m b c) e = omega (arith, e)

-- one whose line is appended
pub line_step : (bounds : List ℕ) (domain : BoundedBy) (high passed : ℕ) (x : Node) (xs : List Node) (front : List line.Node) → ¬ (0 < passed)
    → (front ++ folded_line domain high (bound_before bounds xs) (bound_at bounds x.number) x.state ∷ [])
    ++ folded bounds domain high (passed_over high (bound_before bounds xs) x.state) xs ≡ front ++ folded bounds domain high passed (x ∷ xs)
line_step bounds domain high (suc passed) x xs front none = absurd (none (omega arith))
line_step bounds domain high zero x xs front none = append_assoc front (folded_line domain high (bound_before bounds xs) (bound_at bounds x.number) x.state ∷ []) _

pub passed_few : (high own passed : ℕ) (s : State) → passed_over high own s ≤ max (passed + 1) 2
passed_few high own passed (Split p) = go (nat_le own high)
  where
    go : (b : Bool) → (if b then 2 else 0) ≤ max (passed + 1) 2
    go true = omega arith
    go false = omega arith
passed_few high own passed Open = omega arith
passed_few high own passed (Held w a) = omega arith
passed_few high own passed (Closed m b c) = omega arith

-- ---- held leaves are as open ones

bound_listed : (bounds : List ℕ) (xs : List Node) → bound_before bounds (as_open xs) ≡ bound_before bounds xs
bound_listed bounds [] = refl
bound_listed bounds (x ∷ xs) = refl

line_listed : (domain : BoundedBy) (high own near : ℕ) (s : State) → folded_line domain high own near (unheld s) ≡ folded_line domain high own near s
line_listed domain high own near (Split p) = refl
line_listed domain high own near Open = refl
line_listed domain high own near (Held w a) = refl
line_listed domain high own near (Closed m b c) = refl

over_listed : (high own : ℕ) (s : State) → passed_over high own (unheld s) ≡ passed_over high own s
over_listed high own (Split p) = refl
over_listed high own Open = refl
over_listed high own (Held w a) = refl
over_listed high own (Closed m b c) = refl

below_listed : (s : State) (passed : ℕ) → passed_below (unheld s) passed ≡ passed_below s passed
below_listed (Split p) passed = refl
below_listed Open passed = refl
below_listed (Held w a) passed = refl
below_listed (Closed m b c) passed = refl

pub folded_listed : (bounds : List ℕ) (domain : BoundedBy) (high passed : ℕ) (xs : List Node)
    → folded bounds domain high passed (as_open xs) ≡ folded bounds domain high passed xs
folded_listed bounds domain high passed [] = refl
folded_listed bounds domain high zero (x ∷ xs) =
    let own : bound_before bounds (as_open xs) ≡ bound_before bounds xs = bound_listed bounds xs in
    let near : ℕ = bound_at bounds x.number in
    let first : folded_line domain high (bound_before bounds (as_open xs)) near (unheld x.state) ≡ folded_line domain high (bound_before bounds xs) near x.state =
    ap (λ (n : ℕ). folded_line domain high n near (unheld x.state)) own ∙ line_listed domain high (bound_before bounds xs) near x.state in
    let over : passed_over high (bound_before bounds (as_open xs)) (unheld x.state) ≡ passed_over high (bound_before bounds xs) x.state =
    ap (λ (n : ℕ). passed_over high n (unheld x.state)) own ∙ over_listed high (bound_before bounds xs) x.state in
    ap (λ (l : line.Node). l ∷ folded bounds domain high (passed_over high (bound_before bounds (as_open xs)) (unheld x.state)) (as_open xs)) first
    ∙ ap (λ (l : List line.Node). folded_line domain high (bound_before bounds xs) near x.state ∷ l)
    (ap (λ (n : ℕ). folded bounds domain high n (as_open xs)) over ∙ folded_listed bounds domain high (passed_over high (bound_before bounds xs) x.state) xs)
folded_listed bounds domain high (suc passed) (x ∷ xs) =
    ap (λ (n : ℕ). folded bounds domain high n (as_open xs)) (below_listed x.state passed) ∙ folded_listed bounds domain high (passed_below x.state passed) xs

-- ---- bounds of what is left are at most the upper figure

more_within : (least most : ℕ) (bounds : List ℕ) → least ≤ most → AllByRecursion (λ (b : ℕ). b ≤ least) bounds → AllByRecursion (λ (b : ℕ). b ≤ most) bounds
more_within least most [] le h = tt
more_within least most (b ∷ bounds) le h = (let here = h.0 in omega (arith, le, here), more_within least most bounds le h.1)

pub left_within : (low : ℕ) (bounds : List ℕ) → AllByRecursion (λ (b : ℕ). b ≤ greatest_of low bounds) bounds
left_within low [] = tt
left_within low (b ∷ bounds) = (omega arith, more_within (greatest_of low bounds) (max b (greatest_of low bounds)) bounds (omega arith) (left_within low bounds))

-- ---- a cube has one bound by the strongest domain

strongest_one : (strategy : Strategy) (circuit : Numbered) → IsNumbering circuit → AreMoments circuit.netlist circuit.moments → (cube : List Trit)
    → length cube ≡ 2 * length circuit.netlist.inputs → (bound other : ℕ) → IsBoundBy (strongest strategy) (setting circuit) cube (Some bound)
    → IsBoundBy (strongest strategy) (setting circuit) cube (Some other) → bound ≡ other
strongest_one Least circuit numbering fit cube count bound other this that =
    let e : Some bound ≡ Some other = one_bound (both_functions arrival_functions possible_functions) circuit numbering fit cube count (Some bound) (Some other) this that in cc
strongest_one Lead circuit numbering fit cube count bound other this that =
    let e : Some bound ≡ Some other = one_bound (both_functions edge_functions possible_functions) circuit numbering fit cube count (Some bound) (Some other) this that in cc

-- ---- the tree

module _ (strategy : Strategy) (circuit : Numbered) (numbering : IsNumbering circuit) (fit : AreMoments circuit.netlist circuit.moments) (admit : Admitted)
    (held : length admit.held ≡ length circuit.netlist.inputs) (pins : length admit.pins ≡ 2 * length admit.held)
    (best high : ℕ) (ordered : best ≤ high) (small : high < 10 ^ 15) (bounds : List ℕ) where
  abbrev asked : Problem
  asked = problem_by strategy circuit admit

  abbrev wide : ℕ
  wide = 2 * length admit.held

  abbrev lines_by : ℕ → List Node → List line.Node
  lines_by passed xs = folded bounds (strongest strategy) high passed xs

  abbrev AllGood : List Place → List line.Node → Type 0
  AllGood places tree = AllByRecursion (IsGood (setting circuit) (all_admitted admit) (Some high)) (lines_from (cubes_of places) tree)

  abbrev Within : List Node → Type 0
  Within xs = AllByRecursion (λ (b : ℕ). b ≤ high) (left_bounds bounds xs)

  -- each bound of the parent's cube is above the upper figure
  abbrev IsBelow : Place → Type 0
  IsBelow place = (b : ℕ) → has_bound asked place.parent b → high < b

  -- these are the nodes of the trees with these places
  record AreFolded (places : List Place) (few : ℕ) (tree : List line.Node) : Type 0 where
    pub whole : pending_after (length places) tree ≡ Some 0
    pub good : AllGood places tree
    pub short : AllByRecursion IsShort tree
    pub count : length tree ≤ few

  abbrev handled_in : List Node → ℕ
  handled_in xs = count_by (λ (x : Node). is_handled x.state) xs

  -- what holds of the nodes that come
  record Comes (places : List Place) (xs : List Node) : Type 0 where
    pub forest : is_forest (cubes_of places) xs ≡ true
    pub well : AreWell asked best bounds places xs
    pub long : AllLong wide (cubes_of places)

  -- the nodes after one, however many trees are passed over
  abbrev Rest : List Node → Type 0
  Rest xs = (passed places : List Place) → Comes (passed ++ places) xs → AllByRecursion IsBelow places → AreFolded places (handled_in xs) (lines_by (length passed) xs)

  -- a line more
  one_more : (places after : List Place) (xs : List Node) (l : line.Node) (tree : List line.Node) → AreFolded after (handled_in xs) tree
      → pending_after (length places) (l ∷ tree) ≡ pending_after (length after) tree → AllGood places (l ∷ tree) → IsShort l
      → AreFolded places (1 + handled_in xs) (l ∷ tree)
  one_more places after xs l tree f whole good short = record {
    whole = whole ∙ f.whole;
    good = good;
    short = (short, f.short);
    count = let few = f.count in omega (arith, few);
  }

  abbrev zero_place : Place → ℕ → Place
  zero_place place position = record { cube = zero_side place.cube position; parent = place.cube }

  abbrev one_place : Place → ℕ → Place
  one_place place position = record { cube = one_side place.cube position; parent = place.cube }

  -- the bound of a cube that was split stands at its zero side
  own_of : (place : Place) (position : ℕ) (places : List Place) (xs : List Node)
      → is_forest (cubes_of (zero_place place position ∷ one_place place position ∷ places)) xs ≡ true
      → AreWell asked best bounds (zero_place place position ∷ one_place place position ∷ places) xs → has_bound asked place.cube (bound_before bounds xs)
  own_of place position places [] e well = absurd (let f : false ≡ true = e in cc)
  own_of place position places (y ∷ ys) e well =
      let k = well.0.known in subst (has_bound asked place.cube) (sym (ap (λ (o : Option ℕ). unwrap_or o 0) k.there)) k.is

  -- the node that comes, which is split or closed
  emit : (place : Place) (places : List Place) (n : ℕ) (xs : List Node) → Rest xs → AllByRecursion IsBelow places → length place.cube ≡ wide → AllLong wide (cubes_of places)
      → (s : State) → (is_pending s ≡ true → ⊥) → IsSettledWell asked best place.cube s → is_forest (cubes_past place.cube (position_of s) (cubes_of places)) xs ≡ true
      → AreWell asked best bounds (places_past place s places) xs
      → AreFolded (place ∷ places) (cond (is_handled s) 1 0 + handled_in xs)
      (folded_line (strongest strategy) high (bound_before bounds xs) (bound_at bounds n) s ∷ lines_by (passed_over high (bound_before bounds xs) s) xs)
  emit place places n xs rest below size long Open none settled e well = absurd (none refl)
  emit place places n xs rest below size long (Held w a) none settled e well = absurd (none refl)
  emit place places n xs rest below size long (Closed (mark.Bound d) b c) none settled e well =
      let f = rest [] places (record { forest = e; well = well; long = long }) below in
      let within = settled.2 in
      one_more (place ∷ places) places xs (lines.Bound d b) (lines_by 0 xs) f (ap (λ (m : ℕ). pending_after m (lines_by 0 xs)) (omega arith))
      (record { splits = tt; enough = tt; one_pair = tt; of_cube = record { bound = b; is = settled.0; within = le_refl b }; within = omega (arith, within, ordered) }, f.good)
      (omega (arith, within, ordered, small))
  emit place places n xs rest below size long (Closed mark.Point b c) none settled e well =
      let f = rest [] places (record { forest = e; well = well; long = long }) below in
      let within = settled.2 in
      one_more (place ∷ places) places xs (lines.Point b) (lines_by 0 xs) f (ap (λ (m : ℕ). pending_after m (lines_by 0 xs)) (omega arith))
      (record { splits = tt; enough = tt; one_pair = settled.0.0; of_cube = record { pair = representative admit place.cube; is_in = settled.0.1; is = settled.0.2.1 }; within = omega (arith, within, ordered) }, f.good)
      (omega (arith, within, ordered, small))
  emit place places n xs rest below size long (Closed mark.Empty b c) none settled e well =
      let f = rest [] places (record { forest = e; well = well; long = long }) below in
      one_more (place ∷ places) places xs lines.Empty (lines_by 0 xs) f (ap (λ (m : ℕ). pending_after m (lines_by 0 xs)) (omega arith))
      (record { splits = tt; enough = tt; one_pair = tt; of_cube = λ may. settled.0.0 may.0; within = tt }, f.good) tt
  emit place places n xs rest below size long (Split p) none settled e well = go (nat_le own high) refl
    where
      own : ℕ
      own = bound_before bounds xs

      is_own : has_bound asked place.cube own
      is_own = own_of place p places xs e well

      sides_long : AllLong wide (cubes_of (zero_place place p ∷ one_place place p ∷ places))
      sides_long = long_past wide place.cube (cubes_of places) (Split p) (size, long)

      count : length place.cube ≡ 2 * length circuit.netlist.inputs
      count = omega (arith, size, held)

      go : (b : Bool) → nat_le own high ≡ b
          → AreFolded (place ∷ places) (1 + handled_in xs) ((if b then lines.Bound (strongest strategy) own else lines.Split p) ∷ lines_by (if b then 2 else 0) xs)
      go true is =
          let f = rest (zero_place place p ∷ one_place place p ∷ []) places (record { forest = e; well = well; long = sides_long }) below in
          let within = leb-true own high is in
          one_more (place ∷ places) places xs (lines.Bound (strongest strategy) own) (lines_by 2 xs) f (ap (λ (m : ℕ). pending_after m (lines_by 2 xs)) (omega arith))
          (record { splits = tt; enough = tt; one_pair = tt; of_cube = record { bound = own; is = is_own; within = le_refl own }; within = within }, f.good)
          (omega (arith, within, small))
      go false is =
          let above = leb-false own high is in
          let side : IsBelow (zero_place place p) = λ b other. let same = strongest_one strategy circuit numbering fit place.cube count own b is_own other in omega (arith, above, same) in
          let f = rest [] (zero_place place p ∷ one_place place p ∷ places) (record { forest = e; well = well; long = sides_long }) (side, (side, below)) in
          let few = numbering.well_formed.few_inputs in
          let lt = slice_get_within place.cube p Free settled.0 in
          one_more (place ∷ places) (zero_place place p ∷ one_place place p ∷ places) xs (lines.Split p) (lines_by 0 xs) f
          (ap (λ (m : ℕ). pending_after m (lines_by 0 xs)) (omega arith))
          (record { splits = settled.0; enough = tt; one_pair = tt; of_cube = tt; within = tt }, f.good)
          (omega (arith, lt, count, few))

  -- a node of a tree that is passed over
  skip : (p : Place) (passed places : List Place) (xs : List Node) → Rest xs → AllByRecursion IsBelow places → length p.cube ≡ wide → AllLong wide (cubes_of (passed ++ places))
      → (s : State) → is_forest (cubes_past p.cube (position_of s) (cubes_of (passed ++ places))) xs ≡ true → AreWell asked best bounds (places_past p s (passed ++ places)) xs
      → AreFolded places (handled_in xs) (lines_by (passed_below s (length passed)) xs)
  skip p passed places xs rest below size long (Split q) e well =
      rest (zero_place p q ∷ one_place p q ∷ passed) places
      (record { forest = e; well = well; long = long_past wide p.cube (cubes_of (passed ++ places)) (Split q) (size, long) }) below
  skip p passed places xs rest below size long Open e well = rest passed places (record { forest = e; well = well; long = long }) below
  skip p passed places xs rest below size long (Held w a) e well = rest passed places (record { forest = e; well = well; long = long }) below
  skip p passed places xs rest below size long (Closed m b c) e well = rest passed places (record { forest = e; well = well; long = long }) below

  -- a leaf that isn't closed has a bound that is at most the upper figure
  near_within : (n : ℕ) (s : State) (others : List ℕ) → is_pending s ≡ true → AllByRecursion (λ (b : ℕ). b ≤ high) (left_bound bounds n s others) → bound_at bounds n ≤ high
  near_within n (Split p) others pending w = absurd (let f : false ≡ true = pending in cc)
  near_within n Open others pending w = w.0
  near_within n (Held k a) others pending w = w.0
  near_within n (Closed m b c) others pending w = absurd (let f : false ≡ true = pending in cc)

  others_within : (n : ℕ) (s : State) (others : List ℕ) → AllByRecursion (λ (b : ℕ). b ≤ high) (left_bound bounds n s others) → AllByRecursion (λ (b : ℕ). b ≤ high) others
  others_within n (Split p) others w = w
  others_within n Open others w = w.1
  others_within n (Held k a) others w = w.1
  others_within n (Closed m b c) others w = w

  forest_past : (place : Place) (places : List Place) (x : Node) (xs : List Node) → is_forest (cubes_of (place ∷ places)) (x ∷ xs) ≡ true
      → is_forest (cubes_past place.cube (position_of x.state) (cubes_of places)) xs ≡ true
  forest_past place places x xs e = e

  fewer : (places : List Place) (few more : ℕ) (tree : List line.Node) → few ≤ more → AreFolded places few tree → AreFolded places more tree
  fewer places few more tree le f = record { whole = f.whole; good = f.good; short = f.short; count = let c = f.count in omega (arith, c, le) }

  counted : (x : Node) (xs : List Node) → handled_in (x ∷ xs) ≡ cond (is_handled x.state) 1 0 + handled_in xs
  counted x xs = sum_by-cons (λ (y : Node). cond (is_handled y.state) 1 0) x xs

  folds : (passed places : List Place) (xs : List Node) → Comes (passed ++ places) xs → AllByRecursion IsBelow places → Within xs
      → AreFolded places (handled_in xs) (lines_by (length passed) xs)
  folds [] [] [] c below w = record { whole = refl; good = tt; short = tt; count = omega arith }
  folds [] [] (x ∷ xs) c below w = absurd c.well
  folds [] (place ∷ places) [] c below w = absurd (let f : false ≡ true = c.forest in cc)
  folds (p ∷ passed) places [] c below w = absurd (let f : false ≡ true = c.forest in cc)
  folds [] (place ∷ places) (x ∷ xs) c below w =
      let known = c.well.0.known in
      let above = below.0 known.bound known.is in
      let same : bound_at bounds x.number ≡ known.bound = ap (λ (o : Option ℕ). unwrap_or o 0) known.there in
      fewer (place ∷ places) (cond (is_handled x.state) 1 0 + handled_in xs) (handled_in (x ∷ xs)) (lines_by 0 (x ∷ xs)) (let e = counted x xs in omega (arith, e))
      (emit place places x.number xs (λ passed others comes under. folds passed others xs comes under (others_within x.number x.state (left_bounds bounds xs) w)) below.1
      c.long.0 c.long.1 x.state (λ pending. let le = near_within x.number x.state (left_bounds bounds xs) pending w in omega (arith, le, above, same))
      c.well.0.settled (forest_past place places x xs c.forest) c.well.1)
  folds (p ∷ passed) places (x ∷ xs) c below w =
      fewer places (handled_in xs) (handled_in (x ∷ xs)) (lines_by (suc (length passed)) (x ∷ xs)) (let e = counted x xs in omega (arith, e))
      (skip p passed places xs (λ more others comes under. folds more others xs comes under (others_within x.number x.state (left_bounds bounds xs) w)) below
      c.long.0 c.long.1 x.state (forest_past p (passed ++ places) x xs c.forest) c.well.1)

  one_leaf : (n : ℕ) → IsKnown asked bounds (root_place admit.pins) n → bound_at bounds n ≤ high
      → ShowsHigh (setting circuit) admit high (lines.Bound (strongest strategy) (bound_at bounds n) ∷ [])
  one_leaf n known le =
      let same : bound_at bounds n ≡ known.bound = ap (λ (o : Option ℕ). unwrap_or o 0) known.there in
      let is : has_bound asked admit.pins (bound_at bounds n) = subst (has_bound asked admit.pins) (sym same) known.is in
      record {
        whole = refl;
        good = (record { splits = tt; enough = tt; one_pair = tt; of_cube = record { bound = bound_at bounds n; is = is; within = le_refl (bound_at bounds n) }; within = le }, tt);
        short = (omega (arith, le, small), tt);
        few = omega arith;
      }

  -- the root alone, which isn't closed
  root_left : (n : ℕ) (s : State) (xs : List Node) → is_pending s ≡ true → is_forest (cubes_past admit.pins (position_of s) []) xs ≡ true
      → IsKnown asked bounds (root_place admit.pins) n → AllByRecursion (λ (b : ℕ). b ≤ high) (left_bound bounds n s (left_bounds bounds xs))
      → ShowsHigh (setting circuit) admit high
      (folded_line (strongest strategy) high (bound_before bounds xs) (bound_at bounds n) s ∷ lines_by (passed_over high (bound_before bounds xs) s) xs)
  root_left n (Split p) xs pending e known w = absurd (let f : false ≡ true = pending in cc)
  root_left n (Closed m b c) xs pending e known w = absurd (let f : false ≡ true = pending in cc)
  root_left n Open [] pending e known w = one_leaf n known w.0
  root_left n Open (y ∷ ys) pending e known w = absurd (let f : false ≡ true = e in cc)
  root_left n (Held k a) [] pending e known w = one_leaf n known w.0
  root_left n (Held k a) (y ∷ ys) pending e known w = absurd (let f : false ≡ true = e in cc)

  pub shows : (xs : List Node) → is_forest (admit.pins ∷ []) xs ≡ true → AreWell asked best bounds (root_place admit.pins ∷ []) xs → Within xs
      → handled_in xs ≤ 10000000 → ShowsHigh (setting circuit) admit high (lines_by 0 xs)
  shows [] e well w few = absurd (let f : false ≡ true = e in cc)
  shows (x ∷ xs) e well w few = elim (cases_Bool (is_pending x.state)) [
    | inl pending ↦ root_left x.number x.state xs pending e well.0.known w
    | inr settled ↦ (
        let f = emit (root_place admit.pins) [] x.number xs (λ passed others comes under. folds passed others xs comes under (others_within x.number x.state (left_bounds bounds xs) w)) tt
        pins tt x.state (λ pending. let g : true ≡ false = sym pending ∙ settled in cc) well.0.settled (forest_past (root_place admit.pins) [] x xs e) well.1 in
        let count = f.count in
        let all = counted x xs in
        record { whole = f.whole; good = f.good; short = f.short; few = omega (arith, count, all, few) }
        )
  ]
