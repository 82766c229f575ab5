-- A walk over the nodes of a certificate goes over the lines of its tree.
use Rattle.std.proofs.Common.{◌≡◌, ◌+◌, ◌<◌, ◌≤◌, ℕ, zero, suc, List, [], ◌∷◌, length, take, drop, get_or, Some, refl, sym, ap, subst, ◌∙◌, arith}
use Rattle.std.specs.Prelude.{slice_get}
use Rattle.std.specs.List.{AllByRecursion}
use Rattle.std.proofs.lemmas.List.{drop_all}
use Rattle.std.proofs.lemmas.Option.{slice_get-get_or}
use Rattle.td_circuit.specs.Settings.{Setting}
use Rattle.td_domain.specs.declared.cubes.Trit.{Trit}
use Rattle.td_certificate.specs.declared.tree.Node.{Node}
use Rattle.td_certificate.specs.declared.tree.Node.TheVariants as node
use Rattle.td_certificate.specs.declared.certificate.Certificate.{Certificate}
use Rattle.td_certificate.specs.Questions.{asking_of}
use Rattle.td_certificate.specs.Trees.{IsTree, sides, pending_after}
use Rattle.td_certificate.specs.Accepts.{lines_in, IsGood, high_of}
use Rattle.td_certificate.specs.Cubes.{cubes_past}
use Rattle.td_certificate.specs.Walks.{position_of, Line, lines_from}
use Rattle.td_certificate.proofs.VectorCodes.{none_not, some_is}
use Rattle.td_checker.specs.Paths.{cubes_ahead, StandsAt, AreInside}
use Rattle.td_checker.specs.Verdicts.{Flaw, line_count, line_total}
use Rattle.td_checker.specs.Judging.{with_cube, IsFlawed, IsBadAt}

-- ---- lists

abbrev cons : {A : Type 0} → A → List A → List A
cons x xs = x ∷ xs

heads : {A : Type 0} (x y : A) (xs ys : List A) → cons x xs ≡ cons y ys → (x ≡ y) × (xs ≡ ys)
heads x y xs ys e = (cc, cc)

none_cons : {A X : Type 0} (x : A) (xs : List A) → cons x xs ≡ [] → X
none_cons x xs e = absurd cc

-- the rest of a list from a place on
rest_at : {A : Type 0} (xs : List A) (i : ℕ) (x : A) → slice_get xs i ≡ Some x → drop i xs ≡ x ∷ drop (suc i) xs
rest_at [] i x is = none_not x is
rest_at (y ∷ xs) zero x is = ap (λ z. z ∷ xs) (some_is y x is)
rest_at (y ∷ xs) (suc i) x is = rest_at xs i x is

at_rest : {A : Type 0} (xs : List A) (i : ℕ) (x : A) (ys : List A) → cons x ys ≡ drop i xs → (slice_get xs i ≡ Some x) × (ys ≡ drop (suc i) xs)
at_rest [] zero x ys e = none_cons x ys e
at_rest [] (suc i) x ys e = none_cons x ys e
at_rest (y ∷ xs) zero x ys e = let h = heads x y ys xs e in (ap (λ z. Some z) (sym h.0), h.1)
at_rest (y ∷ xs) (suc i) x ys e = at_rest xs i x ys e

take_whole : {A : Type 0} (xs : List A) (i : ℕ) → drop i xs ≡ [] → take i xs ≡ xs
take_whole [] zero e = refl
take_whole [] (suc i) e = refl
take_whole (y ∷ xs) zero e = none_cons y xs e
take_whole (y ∷ xs) (suc i) e = ap (λ zs. y ∷ zs) (take_whole xs i e)

all_more : {A : Type 0} (P : A → Type 0) (xs : List A) (i : ℕ) (x : A) → AllByRecursion P (take i xs) → slice_get xs i ≡ Some x → P x
    → AllByRecursion P (take (suc i) xs)
all_more P [] i x all is p = none_not x is
all_more P (y ∷ xs) zero x all is p = (subst P (sym (some_is y x is)) p, tt)
all_more P (y ∷ xs) (suc i) x all is p = (all.0, all_more P xs i x all.1 is p)

-- ---- a walk

-- the walk stands at this place of the tree's lines, with this cube and path
pub record IsWalked (c : Certificate) (place : ℕ) (cube : List Trit) (path : List ℕ) : Type 0 where
  pub cubes : List (List Trit)
  pub walked : lines_from cubes (drop place c.tree) ≡ drop place (lines_in c)
  pub pending : pending_after (length cubes) (drop place c.tree) ≡ Some 0
  pub stands : StandsAt cubes cube path
  pub inside : AreInside (length cube) path
  pub count : length cube ≡ length c.question.admit.pins

pub started : (c : Certificate) (cube : List Trit) (path : List ℕ) → IsTree c.tree → cube ≡ c.question.admit.pins → path ≡ [] → IsWalked c 0 cube path
started c cube path tree is none = record {
  cubes = c.question.admit.pins ∷ [];
  walked = refl;
  pending = tree;
  stands = rw none (is, refl);
  inside = rw none tt;
  count = ap length is;
}

-- the first of the lines
first_line : (cubes : List (List Trit)) (n : Node) (rest : List Node) (cube : List Trit) (path : List ℕ)
    → pending_after (length cubes) (n ∷ rest) ≡ Some 0 → StandsAt cubes cube path
    → lines_from cubes (n ∷ rest) ≡ with_cube cube n ∷ lines_from (cubes_past cube (position_of n) (cubes_ahead cube path)) rest
first_line [] n rest cube path pending stands = none_not 0 pending
first_line (next ∷ others) (node.Split position) rest cube path pending stands = rw (stands.1, stands.0) refl
first_line (next ∷ others) (node.Bound domain bound) rest cube path pending stands = rw (stands.1, stands.0) refl
first_line (next ∷ others) (node.Point time) rest cube path pending stands = rw (stands.1, stands.0) refl
first_line (next ∷ others) node.Empty rest cube path pending stands = rw (stands.1, stands.0) refl
first_line (next ∷ others) (node.Refuted refuted) rest cube path pending stands = rw (stands.1, stands.0) refl

pub count_behind : (cube : List Trit) (n : Node) (cubes : List (List Trit)) → length (cubes_past cube (position_of n) cubes) ≡ sides n + length cubes
count_behind cube (node.Split position) cubes = omega arith
count_behind cube (node.Bound domain bound) cubes = omega arith
count_behind cube (node.Point time) cubes = omega arith
count_behind cube node.Empty cubes = omega arith
count_behind cube (node.Refuted refuted) cubes = omega arith

next_pending : (cubes : List (List Trit)) (n : Node) (rest : List Node) (cube : List Trit) (path : List ℕ)
    → pending_after (length cubes) (n ∷ rest) ≡ Some 0 → StandsAt cubes cube path
    → pending_after (length (cubes_past cube (position_of n) (cubes_ahead cube path))) rest ≡ Some 0
next_pending [] n rest cube path pending stands = none_not 0 pending
next_pending (next ∷ others) n rest cube path pending stands =
    ap (λ (k : ℕ). pending_after k rest)
    (count_behind cube n (cubes_ahead cube path) ∙ ap (λ (cs : List (List Trit)). sides n + length cs) stands.1) ∙ pending

-- the line of a node
record HasLine (c : Certificate) (place : ℕ) (cube : List Trit) (path : List ℕ) (n : Node) : Type 0 where
  stands : slice_get (lines_in c) place ≡ Some (with_cube cube n)
  walked : lines_from (cubes_past cube (position_of n) (cubes_ahead cube path)) (drop (suc place) c.tree) ≡ drop (suc place) (lines_in c)
  pending : pending_after (length (cubes_past cube (position_of n) (cubes_ahead cube path))) (drop (suc place) c.tree) ≡ Some 0

has_line : (c : Certificate) (place : ℕ) (cube : List Trit) (path : List ℕ) (n : Node) → IsWalked c place cube path
    → slice_get c.tree place ≡ Some n → HasLine c place cube path n
has_line c place cube path n walk at =
    let rest : drop place c.tree ≡ n ∷ drop (suc place) c.tree = rest_at c.tree place n at in
    let pending : pending_after (length walk.cubes) (n ∷ drop (suc place) c.tree) ≡ Some 0 =
    ap (pending_after (length walk.cubes)) (sym rest) ∙ walk.pending in
    let lines : cons (with_cube cube n) (lines_from (cubes_past cube (position_of n) (cubes_ahead cube path)) (drop (suc place) c.tree)) ≡ drop place (lines_in c) =
    sym (first_line walk.cubes n (drop (suc place) c.tree) cube path pending walk.stands)
    ∙ ap (lines_from walk.cubes) (sym rest) ∙ walk.walked in
    let found = at_rest (lines_in c) place (with_cube cube n) _ lines in
    record {
      stands = found.0;
      walked = found.1;
      pending = next_pending walk.cubes n (drop (suc place) c.tree) cube path pending walk.stands;
    }

pub passed : (c : Certificate) (place : ℕ) (cube next : List Trit) (path ahead : List ℕ) (n : Node) → IsWalked c place cube path
    → slice_get c.tree place ≡ Some n → StandsAt (cubes_past cube (position_of n) (cubes_ahead cube path)) next ahead
    → AreInside (length next) ahead → length next ≡ length cube → IsWalked c (place + 1) next ahead
passed c place cube next path ahead n walk at stands inside same =
    let line = has_line c place cube path n walk at in
    let one : suc place ≡ place + 1 = omega arith in
    let there : IsWalked c (suc place) next ahead = record {
      cubes = cubes_past cube (position_of n) (cubes_ahead cube path);
      walked = line.walked;
      pending = line.pending;
      stands = stands;
      inside = inside;
      count = same ∙ walk.count;
    } in
    subst (λ (k : ℕ). IsWalked c k next ahead) one there

pub good_more : (given : Setting) (c : Certificate) (place : ℕ) (cube : List Trit) (path : List ℕ) (n : Node) → IsWalked c place cube path
    → slice_get c.tree place ≡ Some n → IsGood given (asking_of c.question) (high_of c.claim) (with_cube cube n)
    → AllByRecursion (IsGood given (asking_of c.question) (high_of c.claim)) (take place (lines_in c)) → AllByRecursion (IsGood given (asking_of c.question) (high_of c.claim)) (take (place + 1) (lines_in c))
good_more given c place cube path n walk at good all =
    let line = has_line c place cube path n walk at in
    let one : suc place ≡ place + 1 = omega arith in
    subst (λ (k : ℕ). AllByRecursion (IsGood given (asking_of c.question) (high_of c.claim)) (take k (lines_in c))) one
    (all_more (IsGood given (asking_of c.question) (high_of c.claim)) (lines_in c) place (with_cube cube n) all line.stands good)

-- the lines of the text before a place, and those before the next one
total_more : (lines : List Line) (place : ℕ) (line : Line) → slice_get lines place ≡ Some line → line_total (take (suc place) lines) ≡ line_total (take place lines) + line_count line.node
total_more [] place line is = none_not line is
total_more (first ∷ lines) zero line is = let same : first ≡ line = some_is first line is in omega (arith, ap (λ (l : Line). line_count l.node) same)
total_more (first ∷ lines) (suc place) line is = omega (arith, total_more lines place line is)

total_take : (lines : List Line) (place : ℕ) → line_total (take place lines) ≤ line_total lines
total_take [] zero = omega arith
total_take [] (suc place) = omega arith
total_take (first ∷ lines) zero = omega arith
total_take (first ∷ lines) (suc place) = omega (arith, total_take lines place)

pub counted_more : (c : Certificate) (place before count : ℕ) (cube : List Trit) (path : List ℕ) (n : Node) → IsWalked c place cube path → slice_get c.tree place ≡ Some n
    → before ≡ line_total (take place (lines_in c)) → count ≡ line_count n → before + count ≡ line_total (take (place + 1) (lines_in c))
counted_more c place before count cube path n walk at so_far is =
    let line = has_line c place cube path n walk at in
    let one : suc place ≡ place + 1 = omega arith in
    omega (arith, so_far, is, total_more (lines_in c) place (with_cube cube n) line.stands, ap (λ (k : ℕ). line_total (take k (lines_in c))) one)

-- all lines up to this one are within the whole
pub counted_within : (c : Certificate) (place before count : ℕ) (cube : List Trit) (path : List ℕ) (n : Node) → IsWalked c place cube path → slice_get c.tree place ≡ Some n
    → before ≡ line_total (take place (lines_in c)) → count ≤ line_count n → before + count ≤ line_total (lines_in c)
counted_within c place before count cube path n walk at so_far within =
    let line = has_line c place cube path n walk at in
    omega (arith, so_far, within, total_more (lines_in c) place (with_cube cube n) line.stands, total_take (lines_in c) (suc place))

pub found_bad : (given : Setting) (c : Certificate) (place before at : ℕ) (cube : List Trit) (path : List ℕ) (n : Node) (flaw : Flaw)
    → IsWalked c place cube path → slice_get c.tree place ≡ Some n → IsFlawed given (asking_of c.question) (high_of c.claim) (with_cube cube n) flaw at
    → before ≡ line_total (take place (lines_in c))
    → AllByRecursion (IsGood given (asking_of c.question) (high_of c.claim)) (take place (lines_in c)) → IsBadAt given (asking_of c.question) (high_of c.claim) (lines_in c) flaw (before + at)
found_bad given c place before at cube path n flaw walk stands has so_far all = record {
  place = place;
  bad = with_cube cube n;
  stands = (has_line c place cube path n walk stands).stands;
  good_before = all;
  has = has.has;
  before_is = omega (arith, so_far, has.at_is);
}

no_lines : (cubes : List (List Trit)) → lines_from cubes [] ≡ []
no_lines [] = refl
no_lines (cube ∷ cubes) = refl

pub all_good : (given : Setting) (c : Certificate) (place : ℕ) (cube : List Trit) (path : List ℕ) → IsWalked c place cube path
    → length c.tree ≤ place → AllByRecursion (IsGood given (asking_of c.question) (high_of c.claim)) (take place (lines_in c)) → AllByRecursion (IsGood given (asking_of c.question) (high_of c.claim)) (lines_in c)
all_good given c place cube path walk over all =
    let none : drop place c.tree ≡ [] = drop_all place c.tree over in
    let end : drop place (lines_in c) ≡ [] = sym walk.walked ∙ ap (lines_from walk.cubes) none ∙ no_lines walk.cubes in
    subst (AllByRecursion (IsGood given (asking_of c.question) (high_of c.claim))) (take_whole (lines_in c) place end) all

pub node_at : (nodes tree : List Node) (place : ℕ) (n : Node) → nodes ≡ tree → place < length nodes → n ≡ get_or nodes place n → slice_get tree place ≡ Some n
node_at nodes tree place n same below is =
    ap (λ (ns : List Node). slice_get ns place) (sym same) ∙ slice_get-get_or nodes place n below ∙ ap (λ (m : Node). Some m) (sym is)
