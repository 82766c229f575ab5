-- What is done again of the root of a shared search.
use Rattle.std.proofs.Common.{◌≡◌, ◌≢◌, ℕ, zero, suc, inl, inr, get_or, ◌+◌, ◌-◌, ◌<◌, ◌≤◌, ◌^◌, min, List, [], ◌∷◌, ◌++◌, length, refl, sym, ap, subst, ◌∙◌, length-append, arith}
use Rattle.std.proofs.lemmas.Bool.Decides.{leb_tells}
use Rattle.std.specs.Prelude.{true, false, leb, ◌⊎◌, slice_get, Option, Some, None, Result, Ok, Err, OnOk}
use Rattle.td_domain.specs.declared.cubes.Trit.{Trit}
use Rattle.td_book.specs.declared.lease.Lease.{Lease}
use Rattle.td_book.specs.declared.node.Node.{Node}
use Rattle.td_book.specs.Board.{Board, opening, cubes_after}
use Rattle.td_book.specs.Claimed.{ClaimedAt}
use Rattle.td_search.specs.declared.findings.Evidence.{Evidence}
use Rattle.td_search.specs.declared.findings.Finding.{Finding}
use Rattle.td_search.specs.declared.findings.Trail.{Trail}
use Rattle.td_book.specs.declared.node.State.{State}
use Rattle.td_book.specs.Partial.{PartialTree}
use Rattle.td_search.specs.Redone.{AreRedone, AreUsable, HasPlaces, IsLater, IsPieceOf, RedoesRoot, ShowsRoot}

-- ---- places of evidence

pub some_at : {X : Type 0} (xs : List X) (i : ℕ) → i < length xs → (x : X) × (slice_get xs i ≡ Some x)
some_at [] i low = absurd (omega (arith, low))
some_at (x ∷ xs) zero low = (x, refl)
some_at (x ∷ xs) (suc i) low = some_at xs i (omega (arith, low))

pub some_below : {X : Type 0} (xs : List X) (i : ℕ) (x : X) → slice_get xs i ≡ Some x → i < length xs
some_below [] i x is = cc
some_below (y ∷ xs) zero x is = omega arith
some_below (y ∷ xs) (suc i) x is = let low = some_below xs i x is in omega (arith, low)

-- the first i pieces have their places, each as far as no other of them with its number follows
pub record ArePlacesOf (pieces : List Evidence) (i nodes : ℕ) (places : List (Option ℕ)) : Type 0 where
  pub long : length places ≡ nodes
  pub known : (place : ℕ) (piece : Evidence) → place < i → slice_get pieces place ≡ Some piece
      → ((other : ℕ) (later : Evidence) → place < other → other < i → slice_get pieces other ≡ Some later → later.number ≢ piece.number)
      → place < 2 ^ 32 → piece.number < nodes → slice_get places piece.number ≡ Some (Some place)

pub places_more : (pieces : List Evidence) (i nodes number : ℕ) (x : Evidence) (places places' : List (Option ℕ)) → slice_get pieces i ≡ Some x → number ≡ x.number
    → ArePlacesOf pieces i nodes places → length places' ≡ length places → (number < length places → i < 2 ^ 32 → slice_get places' number ≡ Some (Some i))
    → ((other : ℕ) → other ≢ number → slice_get places' other ≡ slice_get places other) → ArePlacesOf pieces (i + 1) nodes places'
places_more pieces i nodes number x places places' is number_is p long here elsewhere = record {
  long = long ∙ p.long;
  known = λ place piece low there last small inside. at place piece low there last small inside (leb_tells i place);
}
  where
    at : (place : ℕ) (piece : Evidence) → place < i + 1 → slice_get pieces place ≡ Some piece
        → ((other : ℕ) (later : Evidence) → place < other → other < i + 1 → slice_get pieces other ≡ Some later → later.number ≢ piece.number)
        → place < 2 ^ 32 → piece.number < nodes → ((leb i place ≡ true) × (i ≤ place)) ⊎ ((leb i place ≡ false) × (place < i)) → slice_get places' piece.number ≡ Some (Some place)
    at place piece low there last small inside (inl h) =
        let over = h.1 in
        let same : place ≡ i = omega (arith, low, over) in
        let piece_is : piece ≡ x = cc in
        let number_same : piece.number ≡ number = ap (λ (y : Evidence). y.number) piece_is ∙ sym number_is in
        let size = p.long in
        let set : slice_get places' number ≡ Some (Some i) = here (omega (arith, inside, number_same, size)) (omega (arith, small, same)) in
        subst (λ (m : ℕ). slice_get places' m ≡ Some (Some place)) (sym number_same) (set ∙ ap (λ (m : ℕ). Some (Some m)) (sym same))
    at place piece low there last small inside (inr h) =
        let differs : x.number ≢ piece.number = last i x h.1 (omega arith) is in
        elsewhere piece.number (λ e. differs (sym (e ∙ number_is)))
        ∙ p.known place piece h.1 there (λ other later after before found. last other later after (omega (arith, before)) found) small inside

-- ---- the root

only_cube : (before after : List Node) (x y : Node) (cube q : List Trit) (rest : List (List Trit)) → x ∷ [] ≡ before ++ y ∷ after → cubes_after (cube ∷ []) before ≡ q ∷ rest → q ≡ cube
only_cube [] after x y cube q rest is cube_is = cc
only_cube (z ∷ before) after x y cube q rest is cube_is = let long = ap length is in absurd (omega (arith, long, length-append before (y ∷ after)))

pub root_leased : (cube : List Trit) (budget : ℕ) (lease : Lease) (c : Board) → ClaimedAt (opening cube 1 budget) 0 0 (Some lease) c
    → (lease.cube ≡ cube) × (lease.allowance ≡ min 64 (budget - 0))
root_leased cube budget lease c h =
    let place = h.2.3.place in
    (only_cube place.before place.after _ _ cube lease.cube place.rest place.is place.cube_is, h.1)

pub root_refused : (cube : List Trit) (budget : ℕ) (b c : Board) → b ≡ opening cube 1 budget → ClaimedAt b 0 0 None c → budget ≤ 0
root_refused cube budget b c opened h =
    let here : ClaimedAt (opening cube 1 budget) 0 0 None c = subst (λ (x : Board). ClaimedAt x 0 0 None c) opened h in
    here.0 cube (record { before = []; after = []; rest = []; is = refl; cube_is = refl })

pub root_redone : (best : ℕ) (lease : Lease) (findings : List Finding) (cube : List Trit) (budget n : ℕ) (before held after : Board) → before ≡ opening cube 1 budget
    → ClaimedAt before 0 0 (Some lease) held → AreRedone best lease.allowance findings held after → AreUsable best n findings → n ≤ 64 → n ≤ budget → n ≤ length after.order
root_redone best lease findings cube budget n before held after opened h redone usable few within =
    let claimed : ClaimedAt (opening cube 1 budget) 0 0 (Some lease) held = subst (λ (x : Board). ClaimedAt x 0 0 (Some lease) held) opened h in
    let most = (root_leased cube budget lease held claimed).1 in
    let more = redone n usable (omega (arith, most, few, within)) in
    omega (arith, more)

pub root_cube : (cube : List Trit) (budget : ℕ) (b c : Board) (lease : Lease) → b ≡ opening cube 1 budget → ClaimedAt b 0 0 (Some lease) c → lease.cube ≡ cube
root_cube cube budget b c lease opened h =
    (root_leased cube budget lease c (subst (λ (x : Board). ClaimedAt x 0 0 (Some lease) c) opened h)).0

pub on_ok : {T E P Q : Type 0} (r : Result T E) → OnOk r P → (P → Q) → OnOk r Q
on_ok (Ok x) h k = k h
on_ok (Err e) h k = tt

pub on_any : {T E P : Type 0} (r : Result T E) → P → OnOk r P
on_any (Ok x) h = h
on_any (Err e) h = tt

pub from_ok : {T E P : Type 0} (r : Result T E) (x : T) → r ≡ Ok x → OnOk r P → P
from_ok {T} {E} {P} r x is h = subst (λ (s : Result T E). OnOk s P) is h

pub first_read : (nodes : List Node) (first d : Node) → slice_get nodes 0 ≡ Some first → get_or nodes 0 d ≡ first
first_read [] first d is = cc
first_read (x ∷ nodes) first d is = cc

pub root_later : (trail : Trail) (best number : ℕ) (state : State) (before held after : Board) → RedoesRoot trail best number state before held → IsLater held after → RedoesRoot trail best number state before after
root_later trail best number state before held after h later = λ piece budget n done of opened usable few within.
    let low = h piece budget n done of opened usable few within in omega (arith, low, later)

pub when_ok : {T E : Type 0} (r : Result T E) (nodes : List Node) (trail : Trail) (best : ℕ) (before after : Board) (Q : Type 0)
    → ((first : Node) → slice_get nodes 0 ≡ Some first → OnOk r (RedoesRoot trail best first.number first.state before after))
    → (((first : Node) → slice_get nodes 0 ≡ Some first → RedoesRoot trail best first.number first.state before after) → Q) → OnOk r Q
when_ok (Ok x) nodes trail best before after Q h k = k h
when_ok (Err e) nodes trail best before after Q h k = tt

pub tree_redone : (pins : List Trit) (budget best n size : ℕ) (tree : PartialTree) (pieces : List Evidence) (nodes : List Node) (trail : Trail) (before after : Board) → nodes ≡ tree.nodes
    → size ≡ length tree.nodes → trail.evidence.items ≡ pieces → HasPlaces pieces size trail.places.items
    → ((first : Node) → slice_get nodes 0 ≡ Some first → RedoesRoot trail best first.number first.state before after)
    → ShowsRoot pins budget best tree pieces n → before ≡ opening pins 1 budget → n ≤ length after.order
tree_redone pins budget best n size tree pieces nodes trail before after same size_is evidence places all shows opened =
    let first_is : slice_get nodes 0 ≡ Some shows.first = ap (λ (l : List Node). slice_get l 0) same ∙ shows.is in
    let low = shows.low in
    let number = shows.number in
    let inside : shows.piece.number < size = omega (arith, low, number, size_is) in
    let known = places shows.place shows.piece shows.last inside in
    let of : IsPieceOf trail shows.first.number shows.piece = (
      shows.place,
      subst (λ (m : ℕ). slice_get trail.places.items m ≡ Some (Some shows.place)) shows.number known,
      ap (λ (l : List Evidence). slice_get l shows.place) evidence ∙ shows.last.there,
    ) in
    let begun : before ≡ opening shows.piece.cube 1 budget = opened ∙ ap (λ (q : List Trit). opening q 1 budget) (sym shows.of) in
    all shows.first first_is shows.piece budget n shows.done of begun shows.usable shows.allowed shows.within
