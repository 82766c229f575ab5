-- A private tree's splits and closes, made on a board one after another.
use Rattle.std.proofs.Common.{◌≡◌, ◌⊎◌, ℕ, zero, suc, ◌+◌, ◌*◌, ◌<◌, ◌≤◌, true, false, List, [], ◌∷◌, ◌++◌, length, map, drop, refl, sym, ap, subst, ◌∙◌, inl, inr, append_assoc, length-append, arith}
use Rattle.std.specs.Prelude.{slice_get, Some, Contains}
use Rattle.std.proofs.lemmas.List.{map-append}
use Rattle.td_domain.specs.declared.cubes.Trit.{Trit}
use Rattle.td_domain.specs.declared.cubes.Trit.TheVariants.{Zero, One}
use Rattle.td_book.specs.declared.node.Node.{Node}
use Rattle.td_book.specs.declared.node.State.{State}
use Rattle.td_book.specs.declared.node.State.TheVariants.{Split, Open, Held, Closed}
use Rattle.td_certificate.specs.Cubes.{cubes_past}
use Rattle.td_book.specs.Board.{Board, Leaf, board_of, node, position_of, cubes_after, is_handled, allowance_of, handled}
use Rattle.td_book.specs.Chained.{first_number, has_number}
use Rattle.td_book.proofs.Changes.{number_in}
use Rattle.td_book.specs.Kept.{sides, is_within_cut, has_allowance, IsBook}
use Rattle.td_book.specs.declared.lease.Lease.{Lease}
use Rattle.td_book.specs.Steps.{Has, Shows, held, Fits, Settles, SettlesAll}
use Rattle.td_book.specs.Grafting.{PrivateTree, Grafted, FitAll, numbers, cubes_left, leaf_nodes, open_leaf, open_sides, settlements, leaves_left}
use Rattle.td_book.proofs.Overlays.{len_set}
use Rattle.td_book.proofs.Books.{append_nothing, counts, settlement, book_after, within_cut}
use Rattle.td_book.proofs.Covering.{only_leaf}

abbrev pub leaf_cubes : List Leaf → List (List Trit)
leaf_cubes leaves = map (λ l. l.cube) leaves

-- these leaves are open, and their cubes have that many positions
abbrev pub AreOpen : ℕ → List Leaf → Type 0
AreOpen positions [] = Unit {0}
AreOpen positions (l ∷ leaves) = (l.node.state ≡ Open) × (length l.cube ≡ positions) × AreOpen positions leaves

-- what is known of a state that fits
pub record IsFit (cube : List Trit) (s : State) : Type 0 where
  pub handled : is_handled s ≡ true
  pub counted : counts s ≡ 1
  pub out : allowance_of s ≡ 0
  pub cut : is_within_cut s ≡ true
  pub has : has_allowance s ≡ true
  pub order : (n : ℕ) → settlement n s ≡ node n s ∷ []

pub fit : (cube : List Trit) (s : State) → Fits cube s → IsFit cube s
fit cube (Split p) h = record { handled = refl; counted = refl; out = refl; cut = refl; has = refl; order = λ n. refl }
fit cube (Closed m b k) h = record { handled = refl; counted = refl; out = refl; cut = within_cut m b k h; has = refl; order = λ n. refl }
fit cube Open h = absurd h
fit cube (Held w a) h = absurd h

pub sides_are : (cube : List Trit) (s : State) (next : ℕ) → leaf_nodes (open_sides cube s next) ≡ sides s next
sides_are cube (Split p) next = refl
sides_are cube Open next = refl
sides_are cube (Held w a) next = refl
sides_are cube (Closed m b k) next = refl

cubes_of_sides : (cube : List Trit) (s : State) (next : ℕ) (cubes : List (List Trit)) → cubes_past cube (position_of s) cubes ≡ leaf_cubes (open_sides cube s next) ++ cubes
cubes_of_sides cube (Split p) next cubes = refl
cubes_of_sides cube Open next cubes = refl
cubes_of_sides cube (Held w a) next cubes = refl
cubes_of_sides cube (Closed m b k) next cubes = refl

few_sides : (s : State) (next : ℕ) → length (sides s next) ≤ 2
few_sides (Split p) next = omega arith
few_sides Open next = omega arith
few_sides (Held w a) next = omega arith
few_sides (Closed m b k) next = omega arith

open_on : (positions : ℕ) (cube : List Trit) (s : State) (next : ℕ) (leaves : List Leaf) → length cube ≡ positions → AreOpen positions leaves → AreOpen positions (open_sides cube s next ++ leaves)
open_on positions cube (Split p) next leaves wide all = (refl, len_set cube p Zero ∙ wide, (refl, len_set cube p One ∙ wide, all))
open_on positions cube Open next leaves wide all = all
open_on positions cube (Held w a) next leaves wide all = all
open_on positions cube (Closed m b k) next leaves wide all = all

past_one : (cubes : List (List Trit)) (before : List Node) (x : Node) (c : List Trit) (rest : List (List Trit)) → cubes_after cubes before ≡ c ∷ rest → cubes_after cubes (before ++ x ∷ []) ≡ cubes_past c (position_of x.state) rest
past_one [] [] x c rest e = cc
past_one (d ∷ cubes) [] x c rest e =
    let f : d ≡ c = cc in let g : cubes ≡ rest = cc in
    ap (λ (q : List Trit). cubes_past q (position_of x.state) cubes) f ∙ ap (cubes_past c (position_of x.state)) g
past_one [] (y ∷ ys) x c rest e = cc
past_one (d ∷ cubes) (y ∷ ys) x c rest e = past_one (cubes_past d (position_of y.state) cubes) ys x c rest e

next_of : (all : List State) (i : ℕ) (s : State) → slice_get all i ≡ Some s → drop i all ≡ s ∷ drop (i + 1) all
next_of [] i s e = cc
next_of (x ∷ xs) zero s e = let f : x ≡ s = cc in ap (λ (y : State). y ∷ xs) f
next_of (x ∷ xs) (suc i) s e = next_of xs i s e ∙ ap (λ (k : ℕ). s ∷ drop k (x ∷ xs)) (let same : suc (i + 1) ≡ suc i + 1 = omega arith in same)

-- The leaves that are still to come, `at` the number of the first or of what follows them, once i
-- of the states are made.
pub record IsSettling (top : List Trit) (start order : List Node) (root : Leaf) (all : List State) (i : ℕ) (nodes made : List Node) (at : ℕ) : Type 0 where
  pub leaves : List Leaf
  pub before : List Node
  pub after : List Node
  pub rest : List (List Trit)
  pub nodes_are : nodes ≡ before ++ (leaf_nodes leaves ++ after)
  pub cubes_are : cubes_after (top ∷ []) before ≡ leaf_cubes leaves ++ rest
  pub open_leaves : AreOpen (length top) leaves
  pub first : first_number (leaf_nodes leaves ++ after) ≡ at
  pub fits : FitAll (drop i all) (leaf_cubes leaves)
  pub goes_on : (workers budget : ℕ) (c : Board) → SettlesAll (board_of top workers budget nodes made) (settlements (drop i all) leaves (length nodes)) c
      → SettlesAll (board_of top workers budget start order) (settlements all (root ∷ []) (length start)) c
  pub left : leaves_left (drop i all) leaves (length nodes) ≡ leaves_left all (root ∷ []) (length start)
  pub kept : (workers budget out space : ℕ) → IsBook (board_of top workers budget start order) out space → length order + length all + out ≤ budget → length order + length all + out ≤ space
      → IsBook (board_of top workers budget nodes made) out space
  pub long : length nodes ≤ length start + 2 * i
  pub long_order : length made ≡ length order + i

pub settling_starts : (top : List Trit) (workers budget : ℕ) (start order : List Node) (n : ℕ) (cube : List Trit) (all : List State) → Has (board_of top workers budget start order) n cube Open → length cube ≡ length top → FitAll all (cube ∷ [])
    → IsSettling top start order (open_leaf cube n) all 0 start order n
settling_starts top workers budget start order n cube all has wide fits = record {
  leaves = open_leaf cube n ∷ [];
  before = has.before;
  after = has.after;
  rest = has.rest;
  nodes_are = has.is;
  cubes_are = has.cube_is;
  open_leaves = (refl, wide, tt);
  first = refl;
  fits = fits;
  goes_on = λ w b c h. h;
  left = refl;
  kept = λ w b out space book fit spacious. book;
  long = omega arith;
  long_order = omega arith;
}

glue : (a b c : List Node) (x : Node) → a ++ x ∷ (b ++ c) ≡ (a ++ x ∷ []) ++ (b ++ c)
glue a b c x = simp append_assoc

glue_leaves : (a : List Node) (ls ms : List Leaf) (c : List Node) (x : Node) → a ++ x ∷ (leaf_nodes ls ++ (leaf_nodes ms ++ c)) ≡ (a ++ x ∷ []) ++ (leaf_nodes (ls ++ ms) ++ c)
glue_leaves a ls ms c x = rw (map-append (λ (l : Leaf). l.node) ls ms) (simp append_assoc)

glue_tail : (ls ms : List Leaf) (c : List Node) → leaf_nodes ls ++ (leaf_nodes ms ++ c) ≡ leaf_nodes (ls ++ ms) ++ c
glue_tail ls ms c = rw (map-append (λ (l : Leaf). l.node) ls ms) (simp append_assoc)

-- the leaf that comes next, and the state that it gets
pub record IsNext (positions : ℕ) (nodes : List Node) (at : ℕ) (s : State) (leaves : List Leaf) (before after : List Node) : Type 0 where
  pub leaf : Leaf
  pub others : List Leaf
  pub are : leaves ≡ leaf ∷ others
  pub node_is : leaf.node ≡ node at Open
  pub wide : length leaf.cube ≡ positions
  pub fits : Fits leaf.cube s
  pub is : nodes ≡ before ++ node at Open ∷ (leaf_nodes others ++ after)

next_leaf : (positions : ℕ) (nodes : List Node) (at : ℕ) (s : State) (states : List State) (leaves : List Leaf) (before after : List Node) → nodes ≡ before ++ (leaf_nodes leaves ++ after) → AreOpen positions leaves
    → first_number (leaf_nodes leaves ++ after) ≡ at → FitAll (s ∷ states) (leaf_cubes leaves) → IsNext positions nodes at s leaves before after
next_leaf positions nodes at s states [] before after is all first fits = absurd fits
next_leaf positions nodes at s states (l ∷ ls) before after is all first fits =
    let e : l.node ≡ node at Open = λ z. record { number = first z; state = all.0 z } in record {
      leaf = l;
      others = ls;
      are = refl;
      node_is = e;
      wide = all.1;
      fits = fits.0;
      is = is ∙ ap (λ (x : Node). before ++ x ∷ (leaf_nodes ls ++ after)) e;
    }

module _ (top : List Trit) (start order : List Node) (root : Leaf) (all : List State) (i : ℕ) (nodes made : List Node) (at : ℕ) (so_far : IsSettling top start order root all i nodes made at)
    (s : State) (is_next : slice_get all i ≡ Some s) where
  fits_now : FitAll (s ∷ drop (i + 1) all) (leaf_cubes so_far.leaves)
  fits_now = subst (λ (l : List State). FitAll l (leaf_cubes so_far.leaves)) (next_of all i s is_next) so_far.fits

  pub settling_next : IsNext (length top) nodes at s so_far.leaves so_far.before so_far.after
  settling_next = next_leaf (length top) nodes at s (drop (i + 1) all) so_far.leaves so_far.before so_far.after so_far.nodes_are so_far.open_leaves so_far.first fits_now

  module _ (nodes' made' : List Node) (at' : ℕ)
      (turned : (before after : List Node) (old : State) → nodes ≡ before ++ node at old ∷ after → nodes' ≡ before ++ node at s ∷ (sides s (length nodes) ++ after))
      (noted : made' ≡ made ++ node at s ∷ [])
      (next : (before after : List Node) (t : State) → nodes' ≡ before ++ node at t ∷ after → at' ≡ first_number after)
      (once : (before after : List Node) (t : State) → nodes' ≡ before ++ node at t ∷ after → has_number at before ≡ false)
      (low : i < length all) where
    abbrev x : IsNext (length top) nodes at s so_far.leaves so_far.before so_far.after
    x = settling_next

    abbrev tail : List Node
    tail = leaf_nodes x.others ++ so_far.after

    abbrev leaves' : List Leaf
    leaves' = open_sides x.leaf.cube s (length nodes) ++ x.others

    turned_here : nodes' ≡ so_far.before ++ node at s ∷ (sides s (length nodes) ++ tail)
    turned_here = turned so_far.before tail Open x.is

    same_number : x.leaf.node.number ≡ at
    same_number = ap (λ (y : Node). y.number) x.node_is

    first_cube : cubes_after (top ∷ []) so_far.before ≡ x.leaf.cube ∷ (leaf_cubes x.others ++ so_far.rest)
    first_cube = so_far.cubes_are ∙ ap (λ (ls : List Leaf). leaf_cubes ls ++ so_far.rest) x.are

    longer : length nodes' ≡ length nodes + length (sides s (length nodes))
    longer = ap length turned_here ∙ (let a = ap length x.is in
        omega (arith, length-append so_far.before (node at s ∷ (sides s (length nodes) ++ tail)), length-append so_far.before (node at Open ∷ tail), length-append (sides s (length nodes)) tail))

    tail_is : sides s (length nodes) ++ tail ≡ leaf_nodes leaves' ++ so_far.after
    tail_is = ap (λ (l : List Node). l ++ tail) (sym (sides_are x.leaf.cube s (length nodes))) ∙ glue_tail (open_sides x.leaf.cube s (length nodes)) x.others so_far.after

    fits_then : FitAll (drop (i + 1) all) (leaf_cubes leaves')
    fits_then =
        let h : FitAll (s ∷ drop (i + 1) all) (x.leaf.cube ∷ leaf_cubes x.others) = subst (λ (ls : List Leaf). FitAll (s ∷ drop (i + 1) all) (leaf_cubes ls)) x.are fits_now in
        subst (FitAll (drop (i + 1) all)) (cubes_of_sides x.leaf.cube s (length nodes) (leaf_cubes x.others) ∙ sym (map-append (λ (l : Leaf). l.cube) (open_sides x.leaf.cube s (length nodes)) x.others)) h.1

    settles_here : (workers budget : ℕ) → Settles (board_of top workers budget nodes made) (record { cube = x.leaf.cube; node = node x.leaf.node.number s }) (board_of top workers budget nodes' made')
    settles_here workers budget =
        subst (λ (n : ℕ). Settles (board_of top workers budget nodes made) (record { cube = x.leaf.cube; node = node n s }) (board_of top workers budget nodes' made')) (sym same_number) (
          x.fits,
          record {
            place = record { before = so_far.before; after = tail; rest = leaf_cubes x.others ++ so_far.rest; is = x.is; cube_is = first_cube };
            nodes = turned_here;
            settled = noted;
            root = refl;
            workers = refl;
            budget = refl;
          },
        )

    book_then : (workers budget out space : ℕ) → IsBook (board_of top workers budget nodes made) out space → length order + length all + out ≤ budget → length order + length all + out ≤ space
        → IsBook (board_of top workers budget nodes' made') out space
    book_then workers budget out space book within spacious =
        let f = fit x.leaf.cube s x.fits in
        let long = so_far.long_order in
        let counted : length made ≡ handled (board_of top workers budget nodes made) = book.kept.counted in
        let one = f.counted in let none = f.out in
        book_after top workers budget out space nodes made so_far.before tail at Open x.is book refl s nodes' made' out space
        turned_here (noted ∙ ap (λ (l : List Node). made ++ l) (sym (f.order at))) f.cut f.has (λ h. once so_far.before (sides s (length nodes) ++ tail) s turned_here)
        (omega arith) (omega arith) (omega arith)

    pub settling_goes_on : IsSettling top start order root all (i + 1) nodes' made' at'
    settling_goes_on = record {
      leaves = leaves';
      before = so_far.before ++ node at s ∷ [];
      after = so_far.after;
      rest = so_far.rest;
      nodes_are = turned_here
          ∙ (ap (λ (l : List Node). so_far.before ++ node at s ∷ (l ++ tail)) (sym (sides_are x.leaf.cube s (length nodes)))
          ∙ glue_leaves so_far.before (open_sides x.leaf.cube s (length nodes)) x.others so_far.after (node at s));
      cubes_are = past_one (top ∷ []) so_far.before (node at s) x.leaf.cube (leaf_cubes x.others ++ so_far.rest) first_cube
          ∙ (cubes_of_sides x.leaf.cube s (length nodes) (leaf_cubes x.others ++ so_far.rest)
          ∙ rw (map-append (λ (l : Leaf). l.cube) (open_sides x.leaf.cube s (length nodes)) x.others) (simp append_assoc));
      open_leaves = open_on (length top) x.leaf.cube s (length nodes) x.others x.wide (subst (AreOpen (length top)) x.are so_far.open_leaves).2;
      first = sym (next so_far.before (sides s (length nodes) ++ tail) s turned_here ∙ ap first_number tail_is);
      fits = fits_then;
      goes_on = λ workers budget c h.
          so_far.goes_on workers budget c
          (subst (λ (l : List State). SettlesAll (board_of top workers budget nodes made) (settlements l so_far.leaves (length nodes)) c) (sym (next_of all i s is_next))
          (subst (λ (ls : List Leaf). SettlesAll (board_of top workers budget nodes made) (settlements (s ∷ drop (i + 1) all) ls (length nodes)) c) (sym x.are) (
            board_of top workers budget nodes' made',
            settles_here workers budget,
            subst (λ (k : ℕ). SettlesAll (board_of top workers budget nodes' made') (settlements (drop (i + 1) all) leaves' k) c) longer h,
          )));
      left = ap (leaves_left (drop (i + 1) all) leaves') longer
          ∙ (ap (λ (ls : List Leaf). leaves_left (s ∷ drop (i + 1) all) ls (length nodes)) (sym x.are)
          ∙ (ap (λ (l : List State). leaves_left l so_far.leaves (length nodes)) (sym (next_of all i s is_next)) ∙ so_far.left));
      kept = λ workers budget out space book within spacious. book_then workers budget out space (so_far.kept workers budget out space book within spacious) within spacious;
      long = let a = so_far.long in let b = longer in let few = few_sides s (length nodes) in omega arith;
      long_order = let a = so_far.long_order in let b = ap length noted in omega (arith, length-append made (node at s ∷ []));
    }

-- the settlements of a private tree are of its root, or of leaves that it opened
pub own_leaves : (states : List State) (leaves : List Leaf) (next least n : ℕ) → least ≤ next → ((l : Leaf) → Contains leaves l → (l.node.number ≡ n) ⊎ (least ≤ l.node.number))
    → (l : Leaf) → Contains (settlements states leaves next) l → (l.node.number ≡ n) ⊎ (least ≤ l.node.number)
own_leaves [] leaves next least n le own l (k, lt, is) = absurd (omega arith)
own_leaves (s ∷ states) [] next least n le own l (k, lt, is) = absurd (omega arith)
own_leaves (s ∷ states) (x ∷ leaves) next least n le own l (zero, lt, is) =
    subst (λ (m : ℕ). (m ≡ n) ⊎ (least ≤ m)) (ap (λ (y : Leaf). y.node.number) is) (own x (0, omega arith, refl))
own_leaves (s ∷ states) (x ∷ leaves) next least n le own l (suc k, lt, is) =
    own_leaves states (open_sides x.cube s next ++ leaves) (next + length (sides s next)) least n (omega arith) (own_on s) l (k, omega arith, is)
  where
    behind : (y : Leaf) → Contains leaves y → (y.node.number ≡ n) ⊎ (least ≤ y.node.number)
    behind y h = own y (suc h.0, (let lt = h.1 in omega arith), h.2)

    own_on : (t : State) → (y : Leaf) → Contains (open_sides x.cube t next ++ leaves) y → (y.node.number ≡ n) ⊎ (least ≤ y.node.number)
    own_on (Split p) y (zero, lt, is) = inr (let e : next ≡ y.node.number = ap (λ (z : Leaf). z.node.number) is in omega arith)
    own_on (Split p) y (suc zero, lt, is) = inr (let e : next + 1 ≡ y.node.number = ap (λ (z : Leaf). z.node.number) is in omega arith)
    own_on (Split p) y (suc (suc j), lt, is) = behind y (j, omega arith, is)
    own_on Open y h = behind y h
    own_on (Held w a) y h = behind y h
    own_on (Closed m b c) y h = behind y h

-- a private tree has as many settlements as states
pub settlements_long : (states : List State) (leaves : List Leaf) (next : ℕ) → FitAll states (leaf_cubes leaves) → length (settlements states leaves next) ≡ length states
settlements_long [] leaves next h = refl
settlements_long (s ∷ states) [] next h = absurd h
settlements_long (s ∷ states) (x ∷ leaves) next h =
    ap suc (settlements_long states (open_sides x.cube s next ++ leaves) (next + length (sides s next))
    (subst (FitAll states) (cubes_of_sides x.cube s next (leaf_cubes leaves) ∙ sym (map-append (λ (l : Leaf). l.cube) (open_sides x.cube s next) leaves)) h.1))

-- the cubes of the leaves that are left
pub cubes_of_left : (states : List State) (leaves : List Leaf) (next : ℕ) → leaf_cubes (leaves_left states leaves next) ≡ cubes_left states (leaf_cubes leaves)
cubes_of_left [] leaves next = refl
cubes_of_left (s ∷ states) [] next = refl
cubes_of_left (s ∷ states) (x ∷ leaves) next =
    cubes_of_left states (open_sides x.cube s next ++ leaves) (next + length (sides s next))
    ∙ ap (cubes_left states) (map-append (λ (l : Leaf). l.cube) (open_sides x.cube s next) leaves ∙ sym (cubes_of_sides x.cube s next (leaf_cubes leaves)))

long_mapped : (leaves : List Leaf) → length (leaf_cubes leaves) ≡ length leaves
long_mapped [] = refl
long_mapped (l ∷ leaves) = ap suc (long_mapped leaves)

pub left_long : (states : List State) (cube : List Trit) (n next : ℕ) → length (leaves_left states (open_leaf cube n ∷ []) next) ≡ length (cubes_left states (cube ∷ []))
left_long states cube n next = sym (long_mapped (leaves_left states (open_leaf cube n ∷ []) next)) ∙ ap length (cubes_of_left states (open_leaf cube n ∷ []) next)

-- of these leaves, which follow each other in the list, the numbers of the first i are listed
pub record IsListing (nodes : List Node) (leaves : List Leaf) (i : ℕ) (items : List ℕ) (at : ℕ) : Type 0 where
  pub done : List Node
  pub rest : List Leaf
  pub after : List Node
  pub is : nodes ≡ done ++ (leaf_nodes rest ++ after)
  pub first : first_number (leaf_nodes rest ++ after) ≡ at
  pub listed : items ++ numbers rest ≡ numbers leaves
  pub long : length rest + i ≡ length leaves

pub listing_starts : (nodes before after : List Node) (leaves : List Leaf) (items : List ℕ) (at : ℕ) → items ≡ [] → nodes ≡ before ++ (leaf_nodes leaves ++ after) → first_number (leaf_nodes leaves ++ after) ≡ at → IsListing nodes leaves 0 items at
listing_starts nodes before after leaves items at none is first = record { done = before; rest = leaves; after = after; is = is; first = first; listed = ap (λ (l : List ℕ). l ++ numbers leaves) none; long = omega arith }

-- the node that comes next
pub record IsThere (nodes done : List Node) (after : List Node) (rest : List Leaf) (at : ℕ) : Type 0 where
  pub leaf : Leaf
  pub others : List Leaf
  pub are : rest ≡ leaf ∷ others
  pub number : leaf.node.number ≡ at
  pub is : nodes ≡ done ++ node at leaf.node.state ∷ (leaf_nodes others ++ after)

there_is : (nodes done after : List Node) (rest : List Leaf) (at : ℕ) → nodes ≡ done ++ (leaf_nodes rest ++ after) → first_number (leaf_nodes rest ++ after) ≡ at → 0 < length rest → IsThere nodes done after rest at
there_is nodes done after [] at is first some = absurd (omega arith)
there_is nodes done after (l ∷ ls) at is first some = record {
  leaf = l;
  others = ls;
  are = refl;
  number = first;
  is = is ∙ ap (λ (n : ℕ). done ++ node n l.node.state ∷ (leaf_nodes ls ++ after)) first;
}

pub listing_there : (nodes : List Node) (leaves : List Leaf) (i : ℕ) (items : List ℕ) (at : ℕ) (l : IsListing nodes leaves i items at) → i < length leaves → IsThere nodes l.done l.after l.rest at
listing_there nodes leaves i items at l low = there_is nodes l.done l.after l.rest at l.is l.first (let e = l.long in omega arith)

pub listing_number : (nodes : List Node) (leaves : List Leaf) (i : ℕ) (items : List ℕ) (at : ℕ) → IsListing nodes leaves i items at → i < length leaves → has_number at nodes ≡ true
listing_number nodes leaves i items at l low = let t = listing_there nodes leaves i items at l low in number_in nodes l.done (leaf_nodes t.others ++ l.after) at t.leaf.node.state t.is

pub listing_goes_on : (nodes : List Node) (leaves : List Leaf) (i : ℕ) (items items' : List ℕ) (at at' : ℕ) → items' ≡ items ++ at ∷ [] → IsListing nodes leaves i items at → i < length leaves
    → ((before after : List Node) (s : State) → nodes ≡ before ++ node at s ∷ after → at' ≡ first_number after) → IsListing nodes leaves (i + 1) items' at'
listing_goes_on nodes leaves i items items' at at' more l low next =
    let t = listing_there nodes leaves i items at l low in record {
      done = l.done ++ node at t.leaf.node.state ∷ [];
      rest = t.others;
      after = l.after;
      is = t.is ∙ glue l.done (leaf_nodes t.others) l.after (node at t.leaf.node.state);
      first = sym (next l.done (leaf_nodes t.others ++ l.after) t.leaf.node.state t.is);
      listed = ap (λ (l : List ℕ). l ++ numbers t.others) more
          ∙ (glue_number items (numbers t.others) at
          ∙ (ap (λ (n : ℕ). items ++ n ∷ numbers t.others) (sym t.number)
          ∙ (ap (λ (ls : List Leaf). items ++ numbers ls) (sym t.are) ∙ l.listed)));
      long = let a = l.long in let b : length l.rest ≡ suc (length t.others) = ap length t.are in omega arith;
    }
  where
    glue_number : (a b : List ℕ) (x : ℕ) → (a ++ x ∷ []) ++ b ≡ a ++ x ∷ b
    glue_number a b x = simp append_assoc

pub listing_ends : (nodes : List Node) (leaves : List Leaf) (i : ℕ) (items : List ℕ) (at : ℕ) → IsListing nodes leaves i items at → length leaves ≤ i → items ≡ numbers leaves
listing_ends nodes leaves i items at l over = at_end l.rest (let e = l.long in omega arith) l.listed
  where
    at_end : (rest : List Leaf) → length rest ≤ 0 → items ++ numbers rest ≡ numbers leaves → items ≡ numbers leaves
    at_end [] none e = sym (append_nothing items) ∙ e
    at_end (x ∷ xs) none e = absurd (omega arith)

-- a graft, of what was done to a list of nodes in which the lease's leaf was opened
pub grafted_by : (q r : List Trit) (workers budget : ℕ) (xs order ys zs order' : List Node) (lease : Lease) (tree : PrivateTree) (states : List State) (items : List ℕ) (has : Shows (board_of q workers budget xs order) lease)
    → ys ≡ has.before ++ node lease.number Open ∷ has.after → r ≡ q → states ≡ tree.states → 0 < length tree.states → length tree.states ≤ lease.allowance → FitAll states (lease.cube ∷ [])
    → SettlesAll (board_of r workers budget ys order) (settlements states (open_leaf lease.cube lease.number ∷ []) (length ys)) (board_of r workers budget zs order')
    → items ≡ numbers (leaves_left states (open_leaf lease.cube lease.number ∷ []) (length ys))
    → Grafted (board_of q workers budget xs order) lease tree items (board_of q workers budget zs order')
grafted_by q r workers budget xs order ys zs order' lease tree states items has opened top same some few fits done left =
    let root : List Leaf = open_leaf lease.cube lease.number ∷ [] in
    let size : length ys ≡ length xs = (let a = ap length opened in let b = ap length has.is in omega (arith, length-append has.before (node lease.number Open ∷ has.after), length-append has.before (node lease.number (held lease) ∷ has.after))) in
    let long : length (settlements tree.states root (length xs)) ≡ length tree.states = settlements_long tree.states root (length xs) (subst (λ (l : List State). FitAll l (lease.cube ∷ [])) same fits) in
    let board : List Trit → Board = λ p. board_of p workers budget ys order in
    let done' : SettlesAll (board q) (settlements states root (length ys)) (board_of q workers budget zs order') =
    subst (λ (p : List Trit). SettlesAll (board_of p workers budget ys order) (settlements states root (length ys)) (board_of p workers budget zs order')) top done in (
      record {
        some = omega arith;
        few = omega arith;
        own = own_leaves tree.states root (length xs) (length xs) lease.number (omega arith) (λ l h. inl (sym (ap (λ (y : Leaf). y.node.number) (only_leaf _ l h))));
        opened = board q;
        opens = record { place = has; nodes = opened; settled = refl; root = refl; workers = refl; budget = refl };
        settles = subst (λ (k : ℕ). SettlesAll (board q) (settlements tree.states root k) (board_of q workers budget zs order')) size
            (subst (λ (l : List State). SettlesAll (board q) (settlements l root (length ys)) (board_of q workers budget zs order')) same done');
      },
      left ∙ (ap (λ (l : List State). numbers (leaves_left l root (length ys))) same ∙ ap (λ (k : ℕ). numbers (leaves_left tree.states root k)) size),
    )

pub fits_lease : (states states' : List State) (cube cube' : List Trit) → states ≡ states' → cube ≡ cube' → FitAll states (cube ∷ []) → FitAll states' (cube' ∷ [])
fits_lease states states' cube cube' e f h = subst (λ (q : List Trit). FitAll states' (q ∷ [])) f (subst (λ (l : List State). FitAll l (cube ∷ [])) e h)

-- each leaf that is settled adds one to the order
order_long : (b c : Board) (done : List Leaf) → SettlesAll b done c → length c.order ≡ length b.order + length done
order_long b c [] h = let e = ap (λ (x : Board). length x.order) h in omega arith
order_long b c (x ∷ xs) h =
    let rest = order_long h.0 c xs h.2 in
    let one = ap length h.1.1.settled in
    omega (arith, length-append b.order (x.node ∷ []))

-- a graft adds as many settlements as the private tree has states
pub grafted_long : (b : Board) (lease : Lease) (tree : PrivateTree) (left : List ℕ) (c : Board) → Grafted b lease tree left c → tree.cube ≡ lease.cube → FitAll tree.states (tree.cube ∷ [])
    → length c.order ≡ length b.order + length tree.states
grafted_long b lease tree left c graft same fits =
    let root : List Leaf = open_leaf lease.cube lease.number ∷ [] in
    let long : length (settlements tree.states root (length b.nodes)) ≡ length tree.states =
    settlements_long tree.states root (length b.nodes) (subst (λ (q : List Trit). FitAll tree.states (q ∷ [])) same fits) in
    let order : graft.0.opened.order ≡ b.order = graft.0.opens.settled in
    let all = order_long graft.0.opened c (settlements tree.states root (length b.nodes)) graft.0.settles in
    let e = ap length order in
    omega arith
