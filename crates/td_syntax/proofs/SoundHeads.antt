-- What the readers of attributes and directives take.
use Rattle.std.proofs.Common.{◌≡◌, ℕ, ◌≤◌, Bool, true, false, cond, List, [], ◌∷◌, ◌++◌, length, replicate, Option, None, Some, Result, Ok, Err, refl, sym, ap, subst, ◌∙◌, arith}
use Rattle.std.specs.List.{flat_map, sum_by}
use Rattle.std.proofs.lemmas.List.{append-nil}
use Rattle.std.proofs.lemmas.List.Sums.{sum_by-cons}
use Rattle.td_nets.specs.declared.keyword.Keyword.TheVariants as keyword
use Rattle.td_syntax.specs.declared.token.Directive.{Directive}
use Rattle.td_syntax.specs.declared.token.Unread.{Unread}
use Rattle.td_syntax.specs.declared.token.Unread.TheVariants as unread
use Rattle.td_syntax.specs.declared.syntax.Front.{Front as Fronted}
use Rattle.td_syntax.specs.declared.syntax.Front.TheVariants as fronts
use Rattle.td_syntax.specs.Token.{Token, Name, Escaped, Reserved, Number, Constant, Mark, Attribute, Directs, Outside}
use Rattle.td_syntax.specs.Token.{Placed, placed_on}
use Rattle.td_syntax.specs.Tokens.{front_of}
use Rattle.td_syntax.specs.Grammar as grammar
use Rattle.td_syntax.proofs.Plain.{plain}
use Rattle.td_syntax.specs.Faults.{Fault, refused, ◌>>=◌}
use Rattle.td_syntax.specs.Readers.{Remainder, ListStep, More, Final, Done, as_attribute, as_directive, many, next_at, maybe_at}
use Rattle.td_syntax.specs.Parsing.{as_module, attribute_member, attribute_step, attributes_at, directive_at, front_directive, front_by, front_step, is_behind, behind_by, behind_step}
use Rattle.td_syntax.proofs.Lists.{Shortens}
use Rattle.td_syntax.proofs.Takes.{Takes, takes_nothing, regrouped, bind_ok, done, ok_is, err_is_no_ok, next_takes, Classifies, maybe_takes, SequenceTakes, all_takes, all_shortens}

abbrev pub Always : {A : Type 0} → A → Type 0
Always a = Unit {0}

abbrev pub zero_gates : {A : Type 0} → A → ℕ
zero_gates a = 0

pub no_sum : {A : Type 0} (xs : List A) → sum_by zero_gates xs ≡ 0
no_sum [] = refl
no_sum (x ∷ xs) = omega (arith, sum_by-cons zero_gates x xs, no_sum xs)

-- ---- attributes

stable_attribute : (l : ℕ) (t : Token) → as_attribute (placed_on l t) ≡ as_attribute (plain (placed_on l t))
stable_attribute l (Name w) = refl
stable_attribute l (Escaped w) = refl
stable_attribute l (Reserved k) = refl
stable_attribute l (Number n) = refl
stable_attribute l (Constant b w) = refl
stable_attribute l (Mark m) = refl
stable_attribute l Attribute = refl
stable_attribute l (Directs d w) = refl
stable_attribute l (Outside w) = refl

spelled_attribute : (l : ℕ) (t : Token) (u : Unit {0}) → as_attribute (placed_on l t) ≡ Some u → plain (placed_on l t) ∷ [] ≡ grammar.attribute u
spelled_attribute l (Name w) u e = absurd cc
spelled_attribute l (Escaped w) u e = absurd cc
spelled_attribute l (Reserved k) u e = absurd cc
spelled_attribute l (Number n) u e = absurd cc
spelled_attribute l (Constant b w) u e = absurd cc
spelled_attribute l (Mark m) u e = absurd cc
spelled_attribute l Attribute u e = refl
spelled_attribute l (Directs d w) u e = absurd cc
spelled_attribute l (Outside w) u e = absurd cc

pub attributes_classified : Classifies as_attribute grammar.attribute
attributes_classified = record { stable = λ p. stable_attribute p.line p.token; spelled = λ p u e. spelled_attribute p.line p.token u e }

abbrev AttributeStep : Remainder → ListStep (Unit {0}) × Remainder → Type 0
AttributeStep s x = elim x.0 [
  | More u ↦ Takes s (grammar.attribute u) 0 x.1
  | Final u ↦ ⊥
  | Done ↦ Takes s [] 0 x.1
]

attribute_by_takes : (s : Remainder) (o : Option (Unit {0})) (rest : Remainder) (x : ListStep (Unit {0}) × Remainder) → Takes s (grammar.optional grammar.attribute o) 0 rest → done (attribute_member o, rest) ≡ Ok x → AttributeStep s x
attribute_by_takes s None rest x t e = let none : ListStep (Unit {0}) = Done in subst (AttributeStep s) (ok_is (none, rest) x e) t
attribute_by_takes s (Some u) rest x t e = subst (AttributeStep s) (ok_is (More u, rest) x e) t

attribute_is : (k : ℕ) (s : Remainder) (x : ListStep (Unit {0}) × Remainder) → attribute_step k s ≡ Ok x → AttributeStep s x
unfolding attribute_step
attribute_is k s x e =
    let m = bind_ok (maybe_at as_attribute s) (λ y. Ok (attribute_member y.0, y.1)) x e in
    attribute_by_takes s m.0.0 m.0.1 x (maybe_takes as_attribute grammar.attribute attributes_classified s m.0 m.1) m.2

attributes_sequence : SequenceTakes attribute_step grammar.attribute Always zero_gates []
attributes_sequence = record {
  more = λ k s u rest e. (attribute_is k s (More u, rest) e, tt);
  end = λ k s rest e. attribute_is k s (Done, rest) e;
  never = λ k s u rest e. attribute_is k s (Final u, rest) e;
  some = λ u. omega arith;
}

pub attributes_shorten : Shortens attribute_step
attributes_shorten = all_shortens attribute_step grammar.attribute Always zero_gates [] attributes_sequence

units : (us : List (Unit {0})) → us ≡ replicate (length us) tt
units [] = refl
units (u ∷ us) = ap (λ (vs : List (Unit {0})). tt ∷ vs) (units us)

pub attributes_take : (s : Remainder) (x : ℕ × Remainder) → attributes_at s ≡ Ok x → Takes s (grammar.attributes x.0) 0 x.1
unfolding attributes_at
attributes_take s x e =
    let m = bind_ok (many attribute_step s) (λ y. Ok (length y.0, y.1)) x e in
    let all = all_takes attribute_step grammar.attribute Always zero_gates [] attributes_sequence 0 s m.0 m.1 in
    let text : flat_map grammar.attribute m.0.0 ++ [] ≡ grammar.attributes (length m.0.0) = append-nil (flat_map grammar.attribute m.0.0) ∙ ap (λ (us : List (Unit {0})). flat_map grammar.attribute us) (units m.0.0) in
    subst (λ (y : ℕ × Remainder). Takes s (grammar.attributes y.0) 0 y.1) (ok_is (length m.0.0, m.0.1) x m.2)
    (regrouped s _ _ _ 0 m.0.1 text (no_sum m.0.0) all.takes)

-- ---- directives

directive_is : (line : ℕ) (r : Result Directive Unread) (s : Remainder) (x : Directive × Remainder) → directive_at line r s ≡ Ok x → (r ≡ Ok x.0) × (s ≡ x.1)
unfolding directive_at
directive_is line (Ok d) s x e =
    let same = ok_is (d, s) x e in
    (ap (λ (y : Directive × Remainder). Ok y.0) same, ap (λ (y : Directive × Remainder). y.1) same)
directive_is line (Err unread.Wrong) s x e = absurd (err_is_no_ok _ x (sym e))
directive_is line (Err unread.Short) s x e =
    let b = bind_ok (next_at s) (λ p. Err (refused p.0)) x e in
    absurd (err_is_no_ok _ x (sym b.2))

directive_spelled : (l : ℕ) (t : Token) (r : Result Directive Unread) (d : Directive) → as_directive (placed_on l t) ≡ Some r → r ≡ Ok d → plain (placed_on l t) ∷ [] ≡ grammar.directed d
directive_spelled l (Directs r w) q d e is = let same : r ≡ Ok d = (let first : r ≡ q = cc in first ∙ is) in ap (λ (x : Result Directive Unread). placed_on 0 (Directs x []) ∷ []) same
directive_spelled l (Name w) q d e is = absurd cc
directive_spelled l (Escaped w) q d e is = absurd cc
directive_spelled l (Reserved k) q d e is = absurd cc
directive_spelled l (Number n) q d e is = absurd cc
directive_spelled l (Constant b w) q d e is = absurd cc
directive_spelled l (Mark m) q d e is = absurd cc
directive_spelled l Attribute q d e is = absurd cc
directive_spelled l (Outside w) q d e is = absurd cc

-- a directive that was the token in front
directive_taken : (s rest : Remainder) (p : Placed) (r : Result Directive Unread) (x : Directive × Remainder) → as_directive p ≡ Some r → Takes s (plain p ∷ []) 0 rest → directive_at p.line r rest ≡ Ok x → Takes s (grammar.directed x.0) 0 x.1
directive_taken s rest p r x found t e =
    let is = directive_is p.line r rest x e in
    subst (λ (u : Remainder). Takes s (grammar.directed x.0) 0 u) is.1 (regrouped s _ _ 0 0 rest (directive_spelled p.line p.token r x.0 found is.0) refl t)

-- ---- the word module

abbrev pub module_text : Unit {0} → List Placed
module_text u = grammar.word keyword.Module

stable_module : (l : ℕ) (t : Token) → as_module (placed_on l t) ≡ as_module (plain (placed_on l t))
stable_module l (Name w) = refl
stable_module l (Escaped w) = refl
stable_module l (Reserved k) = refl
stable_module l (Number n) = refl
stable_module l (Constant b w) = refl
stable_module l (Mark m) = refl
stable_module l Attribute = refl
stable_module l (Directs d w) = refl
stable_module l (Outside w) = refl

spelled_module : (l : ℕ) (t : Token) (u : Unit {0}) → as_module (placed_on l t) ≡ Some u → plain (placed_on l t) ∷ [] ≡ grammar.word keyword.Module
spelled_module l (Reserved keyword.Module) u e = refl
spelled_module l (Reserved keyword.Wire) u e = absurd cc
spelled_module l (Reserved keyword.EndModule) u e = absurd cc
spelled_module l (Reserved keyword.Input) u e = absurd cc
spelled_module l (Reserved keyword.Output) u e = absurd cc
spelled_module l (Reserved (keyword.Gate k)) u e = absurd cc
spelled_module l (Name w) u e = absurd cc
spelled_module l (Escaped w) u e = absurd cc
spelled_module l (Number n) u e = absurd cc
spelled_module l (Constant b w) u e = absurd cc
spelled_module l (Mark m) u e = absurd cc
spelled_module l Attribute u e = absurd cc
spelled_module l (Directs d w) u e = absurd cc
spelled_module l (Outside w) u e = absurd cc

pub modules_classified : Classifies as_module module_text
modules_classified = record { stable = λ p. stable_module p.line p.token; spelled = λ p u e. spelled_module p.line p.token u e }

-- ---- what stands before the module

abbrev FrontStep : Remainder → ListStep Fronted × Remainder → Type 0
FrontStep s x = elim x.0 [
  | More f ↦ Takes s (grammar.front f) 0 x.1
  | Final f ↦ ⊥
  | Done ↦ Takes s (grammar.word keyword.Module) 0 x.1
]

abbrev pub module_read : Placed → Remainder → Option (Unit {0}) → Result (ListStep Fronted × Remainder) Fault
module_read p rest o = elim o [ None ↦ Err (refused p) | Some u ↦ Ok (Done, rest) ]

front_module : (s rest : Remainder) (p : Placed) (o : Option (Unit {0})) (x : ListStep Fronted × Remainder) → as_module p ≡ o → Takes s (plain p ∷ []) 0 rest
    → module_read p rest o ≡ Ok x → FrontStep s x
front_module s rest p None x is t e = absurd (err_is_no_ok _ x (sym e))
front_module s rest p (Some u) x is t e =
    let end : ListStep Fronted = Done in
    subst (FrontStep s) (ok_is (end, rest) x e) (regrouped s _ _ 0 0 rest (modules_classified.spelled p u is) refl t)

front_directed : (s rest : Remainder) (p : Placed) (o : Option (Result Directive Unread)) (x : ListStep Fronted × Remainder) → as_directive p ≡ o → Takes s (plain p ∷ []) 0 rest → front_directive p rest o ≡ Ok x → FrontStep s x
front_directed s rest p None x is t e = front_module s rest p (as_module p) x refl t e
front_directed s rest p (Some r) x is t e =
    let d = bind_ok (directive_at p.line r rest) (λ y. Ok (More (fronts.Directed y.0), y.1)) x e in
    subst (FrontStep s) (ok_is (More (fronts.Directed d.0.0), d.0.1) x d.2) (directive_taken s rest p r d.0 is t d.1)

front_attributed : (s rest : Remainder) (p : Placed) (o : Option (Unit {0})) (x : ListStep Fronted × Remainder) → as_attribute p ≡ o → Takes s (plain p ∷ []) 0 rest → front_by p rest o ≡ Ok x → FrontStep s x
front_attributed s rest p None x is t e = front_directed s rest p (as_directive p) x refl t e
front_attributed s rest p (Some u) x is t e = subst (FrontStep s) (ok_is (More fronts.Attributed, rest) x e) (regrouped s _ _ 0 0 rest (attributes_classified.spelled p u is) refl t)

front_is : (k : ℕ) (s : Remainder) (x : ListStep Fronted × Remainder) → front_step k s ≡ Ok x → FrontStep s x
unfolding front_step
front_is k s x e =
    let b = bind_ok (next_at s) (λ p. front_by p.0 p.1 (as_attribute p.0)) x e in
    front_attributed s b.0.1 b.0.0 (as_attribute b.0.0) x refl (next_takes s b.0 b.1) b.2

front_some : (f : Fronted) → 1 ≤ length (grammar.front f)
front_some fronts.Attributed = omega arith
front_some (fronts.Directed d) = omega arith

pub fronts_sequence : SequenceTakes front_step grammar.front Always zero_gates (grammar.word keyword.Module)
fronts_sequence = record {
  more = λ k s f rest e. (front_is k s (More f, rest) e, tt);
  end = λ k s rest e. front_is k s (Done, rest) e;
  never = λ k s f rest e. front_is k s (Final f, rest) e;
  some = front_some;
}

pub fronts_shorten : Shortens front_step
fronts_shorten = all_shortens front_step grammar.front Always zero_gates (grammar.word keyword.Module) fronts_sequence

pub fronts_take : (s : Remainder) (y : List Fronted × Remainder) → many front_step s ≡ Ok y → Takes s (flat_map grammar.front y.0 ++ grammar.word keyword.Module) 0 y.1
fronts_take s y e =
    let all = all_takes front_step grammar.front Always zero_gates (grammar.word keyword.Module) fronts_sequence 0 s y e in
    regrouped s _ _ _ 0 y.1 refl (no_sum y.0) all.takes

-- ---- what follows it

abbrev BehindStep : Remainder → ListStep Directive × Remainder → Type 0
BehindStep s x = elim x.0 [
  | More d ↦ Takes s (grammar.directed d) 0 x.1
  | Final d ↦ ⊥
  | Done ↦ Takes s [] 0 x.1
]

nothing_behind : (s : Remainder) (x : ListStep Directive × Remainder) → done (Done, s) ≡ Ok x → BehindStep s x
nothing_behind s x e = let end : ListStep Directive = Done in subst (BehindStep s) (ok_is (end, s) x e) (takes_nothing s)

behind_directed : (s rest : Remainder) (p : Placed) (o : Option (Result Directive Unread)) (x : ListStep Directive × Remainder) → as_directive p ≡ o → Takes s (plain p ∷ []) 0 rest → behind_by p.line s rest o ≡ Ok x → BehindStep s x
behind_directed s rest p None x is t e = nothing_behind s x e
behind_directed s rest p (Some r) x is t e =
    let d = bind_ok (directive_at p.line r rest) (λ y. Ok (More y.0, y.1)) x e in
    subst (BehindStep s) (ok_is (More d.0.0, d.0.1) x d.2) (directive_taken s rest p r d.0 is t d.1)

behind_in : (s : Remainder) (b : Bool) (x : ListStep Directive × Remainder) → cond b (Ok (Done, s)) (next_at s >>= λ p. behind_by p.0.line s p.1 (as_directive p.0)) ≡ done x → BehindStep s x
behind_in s true x e = nothing_behind s x e
behind_in s false x e =
    let b = bind_ok (next_at s) (λ p. behind_by p.0.line s p.1 (as_directive p.0)) x e in
    behind_directed s b.0.1 b.0.0 (as_directive b.0.0) x refl (next_takes s b.0 b.1) b.2

behind_is : (k : ℕ) (s : Remainder) (x : ListStep Directive × Remainder) → behind_step k s ≡ Ok x → BehindStep s x
unfolding behind_step
behind_is k s x e = behind_in s (is_behind (front_of s.stream)) x e

pub behind_sequence : SequenceTakes behind_step grammar.directed Always zero_gates []
behind_sequence = record {
  more = λ k s d rest e. (behind_is k s (More d, rest) e, tt);
  end = λ k s rest e. behind_is k s (Done, rest) e;
  never = λ k s d rest e. behind_is k s (Final d, rest) e;
  some = λ d. omega arith;
}

pub behind_shortens : Shortens behind_step
behind_shortens = all_shortens behind_step grammar.directed Always zero_gates [] behind_sequence

pub behind_takes : (s : Remainder) (y : List Directive × Remainder) → many behind_step s ≡ Ok y → Takes s (flat_map grammar.directed y.0) 0 y.1
behind_takes s y e =
    let all = all_takes behind_step grammar.directed Always zero_gates [] behind_sequence 0 s y e in
    regrouped s _ _ _ 0 y.1 (append-nil (flat_map grammar.directed y.0)) (no_sum y.0) all.takes
