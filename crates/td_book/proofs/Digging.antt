-- A private tree that is split and closed.
use Rattle.std.proofs.Common.{◌≡◌, ℕ, zero, suc, ◌+◌, ◌<◌, ◌≤◌, List, [], ◌∷◌, ◌++◌, length, set, refl, sym, ap, subst, ◌∙◌, append_assoc, length-append, arith}
use Rattle.std.specs.Prelude.{slice_get, Some}
use Rattle.td_domain.specs.declared.cubes.Trit.{Trit}
use Rattle.td_domain.specs.declared.cubes.Trit.TheVariants.{Zero, One, Free}
use Rattle.td_book.specs.declared.node.Mark.{Mark}
use Rattle.td_book.specs.declared.node.State.{State}
use Rattle.td_book.specs.declared.node.State.TheVariants.{Split, Closed}
use Rattle.td_book.specs.declared.subtree.Turn.{Turn}
use Rattle.td_book.specs.declared.subtree.Side.{Side}
use Rattle.td_book.specs.declared.subtree.Side.TheVariants as sides
use Rattle.td_certificate.specs.Cubes.{cubes_past}
use Rattle.td_book.specs.Board.{position_of}
use Rattle.td_book.specs.Steps.{Fits}
use Rattle.td_book.specs.Grafting.{cubes_left, FitAll}
use Rattle.td_book.specs.Digging.{root_of, left_by, left_along, to_come, AreWithin, IsDug}
use Rattle.td_book.proofs.Books.{append_nothing}
use Rattle.td_book.proofs.Overlays.{len_set}

abbrev pub turn : ℕ → Side → Turn
turn position side = record { position = position; side = side }

set_set : (c : List Trit) (p : ℕ) (a b : Trit) → set (set c p a) p b ≡ set c p b
set_set [] p a b = refl
set_set (x ∷ xs) zero a b = refl
set_set (x ∷ xs) (suc p) a b = ap (λ (l : List Trit). x ∷ l) (set_set xs p a b)

set_same : (c : List Trit) (p : ℕ) (a : Trit) → slice_get c p ≡ Some a → set c p a ≡ c
set_same [] p a e = refl
set_same (x ∷ xs) zero a e = let f : x ≡ a = cc in ap (λ (y : Trit). y ∷ xs) (sym f)
set_same (x ∷ xs) (suc p) a e = ap (λ (l : List Trit). x ∷ l) (set_same xs p a e)

-- a way with one more turn at its end
root_snoc : (cube : List Trit) (path : List Turn) (t : Turn) → root_of cube (path ++ t ∷ []) ≡ root_of (set cube t.position Free) path
root_snoc cube [] t = refl
root_snoc cube (x ∷ path) t = ap (λ (q : List Trit). set q x.position Free) (root_snoc cube path t)

glue : (a b c : List (List Trit)) → (a ++ b) ++ c ≡ a ++ (b ++ c)
glue a b c = simp append_assoc

left_snoc : (cube : List Trit) (path : List Turn) (t : Turn)
    → left_along cube (path ++ t ∷ []) ≡ left_by (set cube t.position Free) t t.side ++ left_along (set cube t.position Free) path
left_snoc cube [] t = sym (append_nothing (left_by (set cube t.position Free) t t.side))
left_snoc cube (x ∷ path) t =
    ap (λ (q : List (List Trit)). q ++ left_by (root_of cube (x ∷ (path ++ t ∷ []))) x x.side) (left_snoc cube path t)
    ∙ (ap (λ (q : List Trit). (left_by (set cube t.position Free) t t.side ++ left_along (set cube t.position Free) path) ++ left_by (set q x.position Free) x x.side) (root_snoc cube path t)
    ∙ glue (left_by (set cube t.position Free) t t.side) (left_along (set cube t.position Free) path) (left_by (root_of (set cube t.position Free) (x ∷ path)) x x.side))

within_snoc : (n : ℕ) (path : List Turn) (t : Turn) → AreWithin n path → t.position < n → AreWithin n (path ++ t ∷ [])
within_snoc n [] t h lt = (lt, tt)
within_snoc n (x ∷ path) t h lt = (h.0, within_snoc n path t h.1 lt)

within_front : (n : ℕ) (path : List Turn) (t : Turn) → AreWithin n (path ++ t ∷ []) → AreWithin n path
within_front n [] t h = tt
within_front n (x ∷ path) t h = (h.0, within_front n path t h.1)

within_last : (n : ℕ) (path : List Turn) (t : Turn) → AreWithin n (path ++ t ∷ []) → t.position < n
within_last n [] t h = h.0
within_last n (x ∷ path) t h = within_last n path t h.1

pub some_to_come : (n : ℕ) (cube : List Trit) (path : List Turn) → 0 < n → to_come n cube path ≡ cube ∷ left_along cube path
some_to_come zero cube path h = absurd (omega arith)
some_to_come (suc n) cube path h = refl

-- the cubes that are left after one more state
abbrev past_first : State → List (List Trit) → List (List Trit)
past_first s [] = []
past_first s (c ∷ cs) = cubes_past c (position_of s) cs

cubes_left-snoc : (states : List State) (s : State) (cubes : List (List Trit)) → cubes_left (states ++ s ∷ []) cubes ≡ past_first s (cubes_left states cubes)
cubes_left-snoc [] s [] = refl
cubes_left-snoc [] s (c ∷ cs) = refl
cubes_left-snoc (x ∷ states) s [] = refl
cubes_left-snoc (x ∷ states) s (c ∷ cs) = cubes_left-snoc states s (cubes_past c (position_of x) cs)

fit_snoc : (states : List State) (s : State) (cubes : List (List Trit)) (c : List Trit) (rest : List (List Trit)) → FitAll states cubes → cubes_left states cubes ≡ c ∷ rest → Fits c s → FitAll (states ++ s ∷ []) cubes
fit_snoc [] s [] c rest h e f = cc
fit_snoc [] s (d ∷ cubes) c rest h e f = let g : c ≡ d = cc in (subst (λ (q : List Trit). Fits q s) g f, tt)
fit_snoc (x ∷ states) s [] c rest h e f = absurd h
fit_snoc (x ∷ states) s (d ∷ cubes) c rest h e f = (h.0, fit_snoc states s (cubes_past d (position_of x) cubes) c rest h.1 e f)

same_head : (a b : List Trit) (xs ys : List (List Trit)) → a ∷ xs ≡ b ∷ ys → a ≡ b
same_head a b xs ys e = cc

none_of : (a : List Trit) (xs : List (List Trit)) → [] ≡ a ∷ xs → ⊥
none_of a xs e = cc

-- where a cube comes next, it is the one that is kept
pub next_is : (cube : List Trit) (path : List Turn) (left : ℕ) (states : List State) (allowance a b : ℕ) (d : IsDug cube path left states allowance a b) (c : List Trit) (rest : List (List Trit))
    → cubes_left states (root_of cube path ∷ []) ≡ c ∷ rest → (0 < left) × (c ≡ cube)
next_is cube path zero states allowance a b d c rest e = absurd (none_of c rest (sym d.coming ∙ e))
next_is cube path (suc n) states allowance a b d c rest e = (omega arith, same_head c cube rest (left_along cube path) (sym e ∙ d.coming))

pub dug_splits : (cube : List Trit) (path : List Turn) (left : ℕ) (states : List State) (allowance a b : ℕ) → IsDug cube path left states allowance a b → 0 < left → (p : ℕ) → slice_get cube p ≡ Some Free → p < length cube → length states < allowance
    → (cube' : List Trit) (path' : List Turn) (states' : List State) (a' b' : ℕ) → cube' ≡ set cube p Zero → path' ≡ path ++ turn p sides.Zero ∷ [] → states' ≡ states ++ Split p ∷ [] → a' ≡ a → b' ≡ b
    → (root_of cube' path' ≡ root_of cube path) × IsDug cube' path' (left + 1) states' allowance a' b'
dug_splits cube path left states allowance a b d some p free low space cube' path' states' a' b' cube_is path_is states_is a_is b_is =
    let t : Turn = turn p sides.Zero in
    let back : set cube' p Free ≡ cube = ap (λ (q : List Trit). set q p Free) cube_is ∙ (set_set cube p Zero Free ∙ set_same cube p Free free) in
    let root : root_of cube' path' ≡ root_of cube path = ap (root_of cube') path_is ∙ (root_snoc cube' path t ∙ ap (λ (q : List Trit). root_of q path) back) in
    let was : cubes_left states (root_of cube path ∷ []) ≡ cube ∷ left_along cube path = d.coming ∙ some_to_come left cube path some in
    let now : left_along cube' path' ≡ set cube p One ∷ left_along cube path =
    ap (left_along cube') path_is ∙ (left_snoc cube' path t ∙ ap (λ (q : List Trit). set q p One ∷ left_along q path) back) in
    let come : to_come (left + 1) cube' path' ≡ set cube p Zero ∷ set cube p One ∷ left_along cube path =
    some_to_come (left + 1) cube' path' (omega arith) ∙ (ap (λ (q : List Trit). q ∷ left_along cube' path') cube_is ∙ ap (λ (l : List (List Trit)). set cube p Zero ∷ l) now) in
    let count : left ≡ suc (length (left_along cube path)) = d.count ∙ ap length (some_to_come left cube path some) in
    let longer : length states' ≡ length states + 1 = ap length states_is ∙ length-append states (Split p ∷ []) in
    let farther : length path' ≡ length path + 1 = ap length path_is ∙ length-append path (t ∷ []) in
    let few = d.few in let short = d.short in let spacious = d.spacious in let spacious_path = d.spacious_path in (
      root,
      record {
        coming = ap (λ (l : List State). cubes_left l (root_of cube' path' ∷ [])) states_is
            ∙ (ap (λ (q : List Trit). cubes_left (states ++ Split p ∷ []) (q ∷ [])) root
            ∙ (cubes_left-snoc states (Split p) (root_of cube path ∷ []) ∙ (ap (past_first (Split p)) was ∙ sym come)));
        count = let e : length (to_come (left + 1) cube' path') ≡ suc (suc (length (left_along cube path))) = ap length come in omega arith;
        few = omega arith;
        turns = subst (AreWithin (length cube')) (sym path_is) (within_snoc (length cube') path t
            (subst (λ (n : ℕ). AreWithin n path) (sym (ap length cube_is ∙ len_set cube p Zero)) d.turns) (let e = ap length cube_is ∙ len_set cube p Zero in omega arith));
        fits = subst (λ (l : List State). FitAll l (root_of cube' path' ∷ [])) (sym states_is)
            (subst (λ (q : List Trit). FitAll (states ++ Split p ∷ []) (q ∷ [])) (sym root) (fit_snoc states (Split p) (root_of cube path ∷ []) cube (left_along cube path) d.fits was free));
        within = omega arith;
        short = omega arith;
        spacious = omega arith;
        spacious_path = omega arith;
      },
    )

pub dug_closes : (cube : List Trit) (path : List Turn) (left : ℕ) (states : List State) (allowance a b : ℕ) → IsDug cube path left states allowance a b → 0 < left → (mark : Mark) (bound cut : ℕ) → bound ≤ cut → length states < allowance
    → (cube' : List Trit) (path' : List Turn) (left' : ℕ) (states' : List State) (a' b' : ℕ) → left' + 1 ≡ left → states' ≡ states ++ Closed mark bound cut ∷ [] → a' ≡ a → b' ≡ b
    → AreWithin (length cube') path' → root_of cube' path' ≡ root_of cube path → to_come (length (left_along cube path)) cube' path' ≡ left_along cube path → length path' ≤ length path
    → IsDug cube' path' left' states' allowance a' b'
dug_closes cube path left states allowance a b d some mark bound cut le space cube' path' left' states' a' b' left_is states_is a_is b_is turns root come nearer =
    let was : cubes_left states (root_of cube path ∷ []) ≡ cube ∷ left_along cube path = d.coming ∙ some_to_come left cube path some in
    let count : left ≡ suc (length (left_along cube path)) = d.count ∙ ap length (some_to_come left cube path some) in
    let left_along_is : left' ≡ length (left_along cube path) = omega arith in
    let come' : to_come left' cube' path' ≡ left_along cube path = ap (λ (n : ℕ). to_come n cube' path') left_along_is ∙ come in
    let longer : length states' ≡ length states + 1 = ap length states_is ∙ length-append states (Closed mark bound cut ∷ []) in
    let few = d.few in let short = d.short in let spacious = d.spacious in let spacious_path = d.spacious_path in
    record {
      coming = ap (λ (l : List State). cubes_left l (root_of cube' path' ∷ [])) states_is
          ∙ (ap (λ (q : List Trit). cubes_left (states ++ Closed mark bound cut ∷ []) (q ∷ [])) root
          ∙ (cubes_left-snoc states (Closed mark bound cut) (root_of cube path ∷ []) ∙ (ap (past_first (Closed mark bound cut)) was ∙ sym come')));
      count = left_along_is ∙ ap length (sym come');
      few = omega arith;
      turns = turns;
      fits = subst (λ (l : List State). FitAll l (root_of cube' path' ∷ [])) (sym states_is)
          (subst (λ (q : List Trit). FitAll (states ++ Closed mark bound cut ∷ []) (q ∷ [])) (sym root) (fit_snoc states (Closed mark bound cut) (root_of cube path ∷ []) cube (left_along cube path) d.fits was le));
      within = omega arith;
      short = omega arith;
      spacious = omega arith;
      spacious_path = omega arith;
    }

-- The walk back: what it keeps of where it began.
pub record IsBack (cube0 : List Trit) (path0 : List Turn) (cube : List Trit) (path : List Turn) : Type 0 where
  pub turns : AreWithin (length cube) path
  pub root : root_of cube path ≡ root_of cube0 path0
  pub along : left_along cube path ≡ left_along cube0 path0
  pub short : length path ≤ length path0

pub back_low : (cube0 : List Trit) (path0 : List Turn) (cube : List Trit) (path rest : List Turn) (t : Turn) → IsBack cube0 path0 cube path → path ≡ rest ++ t ∷ [] → t.position < length cube
back_low cube0 path0 cube path rest t b e = within_last (length cube) rest t (subst (AreWithin (length cube)) e b.turns)

-- from a one side to its parent
pub back_goes_on : (cube0 : List Trit) (path0 : List Turn) (cube : List Trit) (path rest : List Turn) (t : Turn) (cube' : List Trit) → IsBack cube0 path0 cube path → path ≡ rest ++ t ∷ [] → t.side ≡ sides.One → cube' ≡ set cube t.position Free → IsBack cube0 path0 cube' rest
back_goes_on cube0 path0 cube path rest t cube' b e side is = record {
  turns = subst (λ (n : ℕ). AreWithin n rest) (sym (ap length is ∙ len_set cube t.position Free)) (within_front (length cube) rest t (subst (AreWithin (length cube)) e b.turns));
  root = ap (λ (q : List Trit). root_of q rest) is ∙ (sym (root_snoc cube rest t) ∙ (ap (root_of cube) (sym e) ∙ b.root));
  along = ap (λ (q : List Trit). left_along q rest) is
      ∙ (sym (left_snoc cube rest t ∙ ap (λ (s : Side). left_by (set cube t.position Free) t s ++ left_along (set cube t.position Free) rest) side)
      ∙ (ap (left_along cube) (sym e) ∙ b.along));
  short = let a = b.short in let l : length path ≡ length rest + 1 = ap length e ∙ length-append rest (t ∷ []) in omega arith;
}

-- from a zero side to its one side
pub record IsTurned (cube0 : List Trit) (path0 : List Turn) (cube : List Trit) (path : List Turn) : Type 0 where
  pub turns : AreWithin (length cube) path
  pub root : root_of cube path ≡ root_of cube0 path0
  pub coming : to_come (length (left_along cube0 path0)) cube path ≡ left_along cube0 path0
  pub short : length path ≤ length path0

pub back_turns : (cube0 : List Trit) (path0 : List Turn) (cube : List Trit) (path rest : List Turn) (t : Turn) (cube' : List Trit) (path' : List Turn) → IsBack cube0 path0 cube path → path ≡ rest ++ t ∷ [] → t.side ≡ sides.Zero
    → cube' ≡ set cube t.position One → path' ≡ rest ++ turn t.position sides.One ∷ [] → IsTurned cube0 path0 cube' path'
back_turns cube0 path0 cube path rest t cube' path' b e side is path_is =
    let u : Turn = turn t.position sides.One in
    let same : set cube' t.position Free ≡ set cube t.position Free = ap (λ (q : List Trit). set q t.position Free) is ∙ set_set cube t.position One Free in
    let low = within_last (length cube) rest t (subst (AreWithin (length cube)) e b.turns) in
    let size : length cube' ≡ length cube = ap length is ∙ len_set cube t.position One in
    let was : left_along cube0 path0 ≡ set (set cube t.position Free) t.position One ∷ left_along (set cube t.position Free) rest =
    sym b.along ∙ (ap (left_along cube) e ∙ (left_snoc cube rest t ∙ ap (λ (s : Side). left_by (set cube t.position Free) t s ++ left_along (set cube t.position Free) rest) side)) in
    let now : left_along cube' path' ≡ left_along (set cube t.position Free) rest =
    ap (left_along cube') path_is ∙ (left_snoc cube' rest u ∙ ap (λ (q : List Trit). left_along q rest) same) in
    let first : set (set cube t.position Free) t.position One ≡ cube' = set_set cube t.position Free One ∙ sym is in
    let l : length path ≡ length rest + 1 = ap length e ∙ length-append rest (t ∷ []) in
    let l' : length path' ≡ length rest + 1 = ap length path_is ∙ length-append rest (u ∷ []) in
    let some : length (left_along cube0 path0) ≡ suc (length (left_along (set cube t.position Free) rest)) = ap length was in
    let short = b.short in
    record {
      turns = subst (AreWithin (length cube')) (sym path_is) (within_snoc (length cube') rest u
          (subst (λ (n : ℕ). AreWithin n rest) (sym size) (within_front (length cube) rest t (subst (AreWithin (length cube)) e b.turns))) (omega arith));
      root = ap (root_of cube') path_is ∙ (root_snoc cube' rest u ∙ (ap (λ (q : List Trit). root_of q rest) same ∙ (sym (root_snoc cube rest t) ∙ (ap (root_of cube) (sym e) ∙ b.root))));
      coming = some_to_come (length (left_along cube0 path0)) cube' path' (omega arith)
          ∙ (ap (λ (l : List (List Trit)). cube' ∷ l) now ∙ (ap (λ (q : List Trit). q ∷ left_along (set cube t.position Free) rest) (sym first) ∙ sym was));
      short = omega arith;
    }
