-- Sheets after a narrowing, and after a refused one.
use Rattle.std.specs.List.{AllByRecursion}
use Rattle.std.proofs.Common.{◌≡◌, subst, ℕ, zero, suc, ◌+◌, ◌<◌, ◌≤◌, ◌^◌, List, [], ◌∷◌, ◌++◌, length, set, take, drop, reverse, replicate, get_or, refl, arith, inl, inr, sym, ap, ◌∙◌, Option, Some, None}
use Rattle.std.specs.Prelude.{slice_get}
use Rattle.std.specs.Global.{Vec}
use Rattle.std.proofs.lemmas.List.{length-set, reverse-append}
use Rattle.td_gates.proofs.Places.{slice_get-set_cases, slice_get-get, slice_get-some, slice_get-within, get-slice_get, slice_get-Contains}
use Rattle.td_circuit.specs.Numbering.{Numbered, IsNumbering}
use Rattle.td_circuit.proofs.Nets.{few_gates}
use Rattle.td_domain.specs.declared.cubes.Trit.{Trit}
use Rattle.td_domain.specs.declared.cubes.Trit.TheVariants.{Free}
use Rattle.td_domain.specs.declared.undoing.Narrowing.{Narrowing}
use Rattle.td_domain.specs.declared.undoing.Replaced.{Replaced}
use Rattle.td_domain.specs.Functions.{Functions}
use Rattle.td_domain.specs.Cones.{IsRising, IsCone}
use Rattle.td_domain.specs.Undoing.{undone, AreWithin}
use Rattle.td_domain.specs.Sheets.{Shown, Page, pages_before, CanBeUndone, IsSheet, IsPage, IsUnchanged, AreCones}
use Rattle.td_domain.proofs.Undoings.{set-back}
use Rattle.td_domain.proofs.Coning.{replicated, length-replicated}

-- a whole list that is written back
pub written : {A : Type 0} (old new : List A) (len : ℕ) → length new ≡ length old → len ≡ length old
    → take len (new ++ drop (length new) old) ≡ new
written [] [] len same count = rw count refl
written [] (y ∷ new) len same count = absurd (omega arith)
written (x ∷ old) [] len same count = absurd (omega arith)
written (x ∷ old) (y ∷ new) zero same count = absurd (omega arith)
written (x ∷ old) (y ∷ new) (suc len) same count = ap (λ zs. y ∷ zs) (written old new len (omega arith) (omega arith))

-- a free position that was known for a while
pub free-again : (cube : List Trit) (position : ℕ) (trit : Trit) → slice_get cube position ≡ Some Free
    → set (set cube position trit) position Free ≡ cube
free-again cube position trit free = set-back cube position trit Free (slice_get-some cube position Free free) (sym (slice_get-get cube position Free Free free))

-- the j-th of rising numbers is at least j
at-least : (numbers : List ℕ) → IsRising numbers → (j a : ℕ) → slice_get numbers j ≡ Some a → j ≤ a
at-least numbers rising zero a at = omega arith
at-least numbers rising (suc j) a at =
    let before = slice_get-within numbers j (omega (arith, slice_get-some numbers (suc j) a at)) in
    omega (arith, at-least numbers rising j before.0 before.1, rising j (suc j) before.0 a (omega arith) before.1 at)

-- an input reaches few gates
pub few-reached : (circuit : Numbered) → IsNumbering circuit → (net : ℕ) (cone : List ℕ) → IsCone circuit net cone → length cone < 2 ^ 32
few-reached circuit numbering net cone is = go (length cone) refl
  where
    go : (n : ℕ) → length cone ≡ n → n < 2 ^ 32
    go zero count = omega arith
    go (suc j) count =
        let last = slice_get-within cone j (omega arith) in
        let it = is.no_others last.0 (slice_get-Contains cone j last.0 last.1) in
        omega (arith, at-least cone is.rising j last.0 last.1, it.before, it.numbered, few_gates circuit numbering, numbering.well_formed.few_inputs)

-- with what one more input reaches
pub cones-set : (circuit : Numbered) (cones : List (Option (Vec ℕ))) (input : ℕ) (value : Option (Vec ℕ)) → AreCones circuit cones
    → ((cone : Vec ℕ) → value ≡ Some cone → IsCone circuit (2 + input) cone.items) → AreCones circuit (set cones input value)
cones-set circuit cones input value are is = record {
  count = length-set cones input value ∙ are.count;
  each = λ other cone at. elim (slice_get-set_cases cones input value other (Some cone) at) [
    | inl here ↦ rw here.0 (is cone here.1)
    | inr old ↦ are.each other cone old.1
  ];
}

-- where nothing is known
pub none-known : (circuit : Numbered) (cones : List (Option (Vec ℕ))) (n : ℕ) → n ≡ length circuit.netlist.inputs → cones ≡ replicate n None
    → AreCones circuit cones
none-known circuit cones n count is = rw is (record {
  count = length-replicated n None ∙ count;
  each = λ input cone at. absurd (let both : None ≡ Some cone = replicated n input None (Some cone) at in cc);
})

pub cones-kept : (circuit : Numbered) (cones : List (Option (Vec ℕ))) (input : ℕ) (cone : Vec ℕ) (value : Option (Vec ℕ))
    → AreCones circuit cones → IsCone circuit (2 + input) cone.items → ((other : Vec ℕ) → value ≡ Some other → other ≡ cone)
    → AreCones circuit (set cones input value)
cones-kept circuit cones input cone value are is kept =
    cones-set circuit cones input value are (λ other at. rw (kept other at) is)

-- what was known of an input
pub cones-get : (circuit : Numbered) (cones : List (Option (Vec ℕ))) (input : ℕ) (value : Option (Vec ℕ)) (cone : Vec ℕ) → AreCones circuit cones
    → input < length circuit.netlist.inputs → value ≡ get_or cones input value → value ≡ Some cone → IsCone circuit (2 + input) cone.items
cones-get circuit cones input value cone are early at is =
    are.each input cone (get-slice_get cones input value (Some cone) (omega (arith, early, are.count)) (sym at ∙ is))

reverse-push : {A : Type 0} (xs : List A) (x : A) → reverse (xs ++ x ∷ []) ≡ x ∷ reverse xs
reverse-push xs x = reverse-append xs (x ∷ [])

module _ {S : Type 0} where
  -- one more narrowing
  pub pages-more : (cube wide : List Trit) (signals old : List S) (position : ℕ) (replaced : Vec (Replaced S)) (narrowings more : List (Narrowing S))
      → set cube position Free ≡ wide → undone signals replaced.items ≡ old
      → more ≡ narrowings ++ record { position = position; replaced = replaced } ∷ []
      → pages_before cube signals (reverse more) ≡ record { cube = wide; signals = old } ∷ pages_before wide old (reverse narrowings)
  pages-more cube wide signals old position replaced narrowings more is_wide is_old is =
      rw (is, reverse-push narrowings (record { position = position; replaced = replaced }), is_wide, is_old) refl

  pub undoable-more : (positions count : ℕ) (position : ℕ) (replaced : Vec (Replaced S)) (narrowings more : List (Narrowing S))
      → more ≡ narrowings ++ record { position = position; replaced = replaced } ∷ []
      → position < positions → AreWithin count replaced.items → CanBeUndone positions count (reverse narrowings)
      → CanBeUndone positions count (reverse more)
  undoable-more positions count position replaced narrowings more is low within can =
      rw (is, reverse-push narrowings (record { position = position; replaced = replaced })) ((low, within), can)

module _ {Sig : Type 0} (functions : Functions Sig) (reach : Sig → ℕ) (circuit : Numbered) where
  -- an unchanged sheet
  pub still-sheet : (old new : Shown Sig) → IsSheet functions reach circuit old → IsUnchanged old new
      → new.outputs ≡ old.outputs → AreCones circuit new.cones → IsSheet functions reach circuit new
  still-sheet old new is same outputs cones = record {
    numbering = is.numbering;
    fit = is.fit;
    page = rw (same.cube, same.signals) is.page;
    wider = rw same.wider is.wider;
    outputs = outputs ∙ is.outputs;
    cones = cones;
  }

  -- a sheet whose latest narrowing was taken back
  pub wider-sheet : (old new : Shown Sig) (page : Page Sig) (wider : List (Page Sig)) → IsSheet functions reach circuit old
      → old.wider ≡ page ∷ wider → new.cube ≡ page.cube → new.signals ≡ page.signals → new.wider ≡ wider
      → new.outputs ≡ old.outputs → new.cones ≡ old.cones → IsSheet functions reach circuit new
  wider-sheet old new page wider is before cube signals later outputs cones =
      let all : AllByRecursion (IsPage functions reach circuit) (page ∷ wider) = subst (AllByRecursion (IsPage functions reach circuit)) before is.wider in
      record {
        numbering = is.numbering;
        fit = is.fit;
        page = rw (cube, signals) all.0;
        wider = rw later all.1;
        outputs = outputs ∙ is.outputs;
        cones = rw cones is.cones;
      }
