-- What is read as a module is derived by the grammar.
use Rattle.std.proofs.Common.{◌≡◌, ℕ, ◌+◌, ◌≤◌, Bool, true, false, cond, List, [], ◌∷◌, ◌++◌, length, Option, None, Some, Ok, Err, refl, sym, ap, subst, ◌∙◌, arith, append_assoc, length-append}
use Rattle.std.specs.Prelude.{◌==◌}
use Rattle.std.specs.List.{AllByRecursion, flat_map, sum_by}
use Rattle.std.proofs.lemmas.Bool.{eqb-true}
use Rattle.td_gates.specs.declared.primitives.Kind.{Kind}
use Rattle.td_nets.specs.declared.keyword.Keyword.{Keyword}
use Rattle.td_nets.specs.declared.keyword.Keyword.TheVariants as keyword
use Rattle.td_syntax.specs.declared.token.Symbol.TheVariants as symbol
use Rattle.td_syntax.specs.declared.token.Stop.{Stop}
use Rattle.td_syntax.specs.declared.token.Stop.TheVariants as stop
use Rattle.td_syntax.specs.declared.syntax.Role.{Role}
use Rattle.td_syntax.specs.declared.syntax.Role.TheVariants as role
use Rattle.td_syntax.specs.Token.{Token, Name, Escaped, Reserved, Number, Constant, Mark, Attribute, Directs, Outside}
use Rattle.td_syntax.specs.Token.{Placed, placed_on}
use Rattle.td_syntax.specs.Tokens.{Front, Next, Behind, front_in, front_of}
use Rattle.td_syntax.specs.Grammar as grammar
use Rattle.td_syntax.proofs.Plain.{plain}
use Rattle.td_syntax.specs.Grammar.{IsItem, ArePorts, item_gates, unit_exponent}
use Rattle.td_syntax.proofs.Plain.{statement_gates}
use Rattle.td_syntax.specs.Faults.{refused, ◌>>=◌}
use Rattle.td_syntax.specs.Readers.{Remainder, ListStep, More, Final, Done, as_keyword, many, next_at, name_at, mark_at}
use Rattle.td_syntax.specs.Parsing.{attributes_at, front_step, behind_step, declaration_at, statement_at, declares, gates, item_word, item_by, item_step, ports_at, end_by, end_at, module_at}
use Rattle.td_syntax.proofs.Lists.{Shortens}
use Rattle.td_syntax.proofs.Takes.{Takes, takes_then, regrouped, then_two, bind_ok, done, ok_is, err_is_no_ok, next_takes, name_takes, mark_takes, SequenceTakes, TakesAll, all_takes, all_shortens}
use Rattle.td_syntax.proofs.SoundHeads.{attributes_take, fronts_take, behind_takes}
use Rattle.td_syntax.proofs.SoundDeclarations.{declaration_rest, declaration_takes, ports_take}
use Rattle.td_syntax.proofs.SoundGates.{statement_rest, statement_takes}

-- ---- items

-- what an item's step takes
abbrev ItemStep : ℕ → Remainder → ListStep grammar.Item × Remainder → Type 0
ItemStep tens s x = elim x.0 [
  | More i ↦ Takes s (grammar.item i) (item_gates i) x.1 × IsItem tens i
  | Final i ↦ ⊥
  | Done ↦ Takes s (grammar.word keyword.EndModule) 0 x.1
]

pub declared_text : (d : grammar.Declaration) → grammar.attributes d.attributes ++ grammar.role_word d.role ++ declaration_rest d ≡ grammar.declaration d
declared_text d =
    let range = grammar.optional grammar.range d.range in
    let names = grammar.separated grammar.name d.names in
    regroup (grammar.attributes d.attributes ++ grammar.role_word d.role) (grammar.wire_word d.wire) range names (grammar.mark symbol.Semicolon)
  where
    regroup : (a b c d e : List Placed) → a ++ (b ++ c ++ d ++ e) ≡ a ++ b ++ c ++ d ++ e
    regroup a b c d e = simp append_assoc

pub gates_text : (g : grammar.Statement) → grammar.attributes g.attributes ++ grammar.word (keyword.Gate g.kind) ++ statement_rest g ≡ grammar.statement g
gates_text g =
    regroup (grammar.attributes g.attributes ++ grammar.word (keyword.Gate g.kind)) (grammar.delay g.delay) (grammar.separated grammar.instance g.instances) (grammar.mark symbol.Semicolon)
  where
    regroup : (a b c d : List Placed) → a ++ (b ++ c ++ d) ≡ a ++ b ++ c ++ d
    regroup a b c d = simp append_assoc

declared : (tens attributes : ℕ) (r : Role) (s mid : Remainder) (x : ListStep grammar.Item × Remainder) → Takes s (grammar.attributes attributes ++ grammar.role_word r) 0 mid → (declaration_at attributes r mid >>= declares) ≡ Ok x → ItemStep tens s x
declared tens attributes r s mid x word e =
    let m = bind_ok (declaration_at attributes r mid) declares x e in
    let d = declaration_takes attributes r mid m.0 m.1 in
    let t = takes_then s (grammar.attributes attributes ++ grammar.role_word r) 0 mid (declaration_rest m.0.0) 0 m.0.1 word d.0 in
    let text : grammar.attributes attributes ++ grammar.role_word r ++ declaration_rest m.0.0 ≡ grammar.declaration m.0.0 =
    ap (λ (n : ℕ). grammar.attributes n ++ grammar.role_word r ++ declaration_rest m.0.0) (sym d.3)
    ∙ ap (λ (q : Role). grammar.attributes m.0.0.attributes ++ grammar.role_word q ++ declaration_rest m.0.0) (sym d.2)
    ∙ declared_text m.0.0 in
    subst (ItemStep tens s) (ok_is (More (grammar.Declares m.0.0), m.0.1) x m.2) (regrouped s _ _ 0 0 m.0.1 text refl t, d.1)

gated : (tens attributes : ℕ) (kind : Kind) (s mid : Remainder) (x : ListStep grammar.Item × Remainder) → Takes s (grammar.attributes attributes ++ grammar.word (keyword.Gate kind)) 0 mid → (statement_at tens attributes kind mid >>= gates) ≡ Ok x → ItemStep tens s x
gated tens attributes kind s mid x word e =
    let m = bind_ok (statement_at tens attributes kind mid) gates x e in
    let g = statement_takes tens attributes kind mid m.0 m.1 in
    let t = takes_then s (grammar.attributes attributes ++ grammar.word (keyword.Gate kind)) 0 mid (statement_rest m.0.0) (statement_gates m.0.0) m.0.1 word g.0 in
    let text : grammar.attributes attributes ++ grammar.word (keyword.Gate kind) ++ statement_rest m.0.0 ≡ grammar.statement m.0.0 =
    ap (λ (n : ℕ). grammar.attributes n ++ grammar.word (keyword.Gate kind) ++ statement_rest m.0.0) (sym g.3)
    ∙ ap (λ (q : Kind). grammar.attributes m.0.0.attributes ++ grammar.word (keyword.Gate q) ++ statement_rest m.0.0) (sym g.2)
    ∙ gates_text m.0.0 in
    subst (ItemStep tens s) (ok_is (More (grammar.Gates m.0.0), m.0.1) x m.2) (regrouped s _ _ _ (statement_gates m.0.0) m.0.1 text (omega arith) t, g.1)

ended_by : (tens attributes : ℕ) (p : Placed) (s mid : Remainder) (b : Bool) (x : ListStep grammar.Item × Remainder) → (attributes == 0) ≡ b → Takes s (grammar.attributes attributes ++ grammar.word keyword.EndModule) 0 mid
    → cond b (done (Done, mid)) (Err (refused p)) ≡ Ok x → ItemStep tens s x
ended_by tens attributes p s mid false x is t e = absurd (err_is_no_ok _ x (sym e))
ended_by tens attributes p s mid true x is t e =
    let end : ListStep grammar.Item = Done in
    let none : attributes ≡ 0 = eqb-true attributes 0 is in
    subst (ItemStep tens s) (ok_is (end, mid) x e) (subst (λ (n : ℕ). Takes s (grammar.attributes n ++ grammar.word keyword.EndModule) 0 mid) none t)

item_of : (tens attributes : ℕ) (p : Placed) (s mid : Remainder) (k : Keyword) (x : ListStep grammar.Item × Remainder) → Takes s (grammar.attributes attributes ++ grammar.word k) 0 mid → item_word tens attributes p mid k ≡ Ok x → ItemStep tens s x
item_of tens attributes p s mid keyword.Input x word e = declared tens attributes role.Input s mid x word e
item_of tens attributes p s mid keyword.Output x word e = declared tens attributes role.Output s mid x word e
item_of tens attributes p s mid keyword.Wire x word e = declared tens attributes role.Wire s mid x word e
item_of tens attributes p s mid (keyword.Gate kind) x word e = gated tens attributes kind s mid x word e
item_of tens attributes p s mid keyword.EndModule x word e = ended_by tens attributes p s mid (attributes == 0) x refl word e
item_of tens attributes p s mid keyword.Module x word e = absurd (err_is_no_ok _ x (sym e))

spelled_keyword : (l : ℕ) (t : Token) (k : Keyword) → as_keyword (placed_on l t) ≡ Some k → plain (placed_on l t) ∷ [] ≡ grammar.word k
spelled_keyword l (Reserved j) k e = let same : j ≡ k = cc in ap (λ (q : Keyword). grammar.word q) same
spelled_keyword l (Name w) k e = absurd cc
spelled_keyword l (Escaped w) k e = absurd cc
spelled_keyword l (Number n) k e = absurd cc
spelled_keyword l (Constant b w) k e = absurd cc
spelled_keyword l (Mark m) k e = absurd cc
spelled_keyword l Attribute k e = absurd cc
spelled_keyword l (Directs d w) k e = absurd cc
spelled_keyword l (Outside w) k e = absurd cc

item_from : (tens attributes : ℕ) (s before rest : Remainder) (p : Placed) (o : Option Keyword) (x : ListStep grammar.Item × Remainder) → as_keyword p ≡ o → Takes s (grammar.attributes attributes) 0 before → Takes before (plain p ∷ []) 0 rest
    → item_by tens attributes p rest o ≡ Ok x → ItemStep tens s x
item_from tens attributes s before rest p None x is first t e = absurd (err_is_no_ok _ x (sym e))
item_from tens attributes s before rest p (Some k) x is first t e =
    item_of tens attributes p s rest k x (takes_then s (grammar.attributes attributes) 0 before (grammar.word k) 0 rest first (regrouped before _ _ 0 0 rest (spelled_keyword p.line p.token k is) refl t)) e

item_takes : (tens k : ℕ) (s : Remainder) (x : ListStep grammar.Item × Remainder) → item_step tens k s ≡ Ok x → ItemStep tens s x
unfolding item_step
item_takes tens k s x e =
    let a = bind_ok (attributes_at s) (λ a. next_at a.1 >>= λ p. item_by tens a.0 p.0 p.1 (as_keyword p.0)) x e in
    let b = bind_ok (next_at a.0.1) (λ p. item_by tens a.0.0 p.0 p.1 (as_keyword p.0)) x a.2 in
    item_from tens a.0.0 s a.0.1 b.0.1 b.0.0 (as_keyword b.0.0) x refl (attributes_take s a.0 a.1) (next_takes a.0.1 b.0 b.1) b.2

role_some : (r : Role) → 1 ≤ length (grammar.role_word r)
role_some role.Input = omega arith
role_some role.Output = omega arith
role_some role.Wire = omega arith

item_some : (i : grammar.Item) → 1 ≤ length (grammar.item i)
item_some (grammar.Declares d) =
    let e : length (grammar.declaration d) ≡ length (grammar.attributes d.attributes ++ grammar.role_word d.role) + length (declaration_rest d) = ap length (sym (declared_text d)) ∙ length-append (grammar.attributes d.attributes ++ grammar.role_word d.role) (declaration_rest d) in
    omega (arith, e, length-append (grammar.attributes d.attributes) (grammar.role_word d.role), role_some d.role)
item_some (grammar.Gates g) =
    let word = grammar.word (keyword.Gate g.kind) in
    let e : length (grammar.statement g) ≡ length (grammar.attributes g.attributes ++ word) + length (statement_rest g) = ap length (sym (gates_text g)) ∙ length-append (grammar.attributes g.attributes ++ word) (statement_rest g) in
    omega (arith, e, length-append (grammar.attributes g.attributes) word)

pub items_sequence : (tens : ℕ) → SequenceTakes (item_step tens) grammar.item (IsItem tens) item_gates (grammar.word keyword.EndModule)
items_sequence tens = record {
  more = λ k s i rest e. item_takes tens k s (More i, rest) e;
  end = λ k s rest e. item_takes tens k s (Done, rest) e;
  never = λ k s i rest e. item_takes tens k s (Final i, rest) e;
  some = item_some;
}

pub items_shorten : (tens : ℕ) → Shortens (item_step tens)
items_shorten tens = all_shortens (item_step tens) grammar.item (IsItem tens) item_gates (grammar.word keyword.EndModule) (items_sequence tens)

pub items_take : (tens : ℕ) (s : Remainder) (y : List grammar.Item × Remainder) → many (item_step tens) s ≡ Ok y → TakesAll grammar.item (IsItem tens) item_gates (grammar.word keyword.EndModule) s y.0 y.1
items_take tens s y e = all_takes (item_step tens) grammar.item (IsItem tens) item_gates (grammar.word keyword.EndModule) (items_sequence tens) 0 s y e

-- ---- the module

-- nothing follows this
abbrev pub IsEnd : Remainder → Type 0
IsEnd s = (s.stream.tokens ≡ []) × (s.stream.stop ≡ stop.End)

ended : (s rest : Remainder) (f : Front) → front_of s.stream ≡ f → end_by s f ≡ Ok rest → IsEnd s × (s ≡ rest)
unfolding front_of
ended s rest (Behind stop.End line) is e = (ends s.stream.tokens s.stream.stop s.stream.line line is, ok_is s rest e)
  where
    ends : (ts : List Placed) (k : Stop) (line other : ℕ) → front_in ts k line ≡ Behind stop.End other → (ts ≡ []) × (k ≡ stop.End)
    ends [] k line other e = (refl, cc)
    ends (t ∷ ts) k line other e = absurd cc
ended s rest (Behind stop.Cut line) is e = absurd (err_is_no_ok _ rest (sym e))
ended s rest (Behind stop.Bad line) is e = absurd (err_is_no_ok _ rest (sym e))
ended s rest (Behind stop.Malformed line) is e = absurd (err_is_no_ok _ rest (sym e))
ended s rest (Next p) is e = absurd (err_is_no_ok _ rest (sym e))

end_is : (s rest : Remainder) → end_at s ≡ Ok rest → IsEnd s × (s ≡ rest)
unfolding end_at
end_is s rest e = ended s rest (front_of s.stream) refl e

-- What is read as a module is spelled by it, and nothing follows it.
pub record TakesModule (s : Remainder) (m : grammar.Module) (rest : Remainder) : Type 0 where
  pub takes : Takes s (grammar.module_tokens m) (sum_by item_gates m.items) rest
  pub ports : ArePorts m.ports
  pub items : AllByRecursion (IsItem (unit_exponent m.fronts)) m.items
  pub ended : IsEnd rest

pub module_takes : (s : Remainder) (x : grammar.Module × Remainder) → module_at s ≡ Ok x → TakesModule s x.0 x.1
unfolding module_at
module_takes s x e =
    let a = bind_ok (many front_step s) _ x e in
    let b = bind_ok (name_at a.0.1) _ x a.2 in
    let c = bind_ok (ports_at b.0.1) _ x b.2 in
    let d = bind_ok (mark_at symbol.Semicolon c.0.1) _ x c.2 in
    let tens = unit_exponent a.0.0 in
    let f = bind_ok (many (item_step tens) d.0) _ x d.2 in
    let g = bind_ok (many behind_step f.0.1) _ x f.2 in
    let h = bind_ok (end_at g.0.1) _ x g.2 in
    let made : grammar.Module × Remainder = (record { fronts = a.0.0; name = b.0.0; ports = c.0.0; items = f.0.0; behind = g.0.0 }, h.0) in
    let ports = ports_take b.0.1 c.0 c.1 in
    let t1 = takes_then s _ 0 a.0.1 (grammar.name b.0.0) 0 b.0.1 (fronts_take s a.0 a.1) (name_takes a.0.1 b.0 b.1) in
    let t2 = takes_then s _ 0 b.0.1 (grammar.ports c.0.0) 0 c.0.1 t1 ports.0 in
    let t3 = takes_then s _ 0 c.0.1 (grammar.mark symbol.Semicolon) 0 d.0 t2 (mark_takes symbol.Semicolon c.0.1 d.0 d.1) in
    let list = items_take tens d.0 f.0 f.1 in
    let t4 = then_two s _ 0 d.0 (flat_map grammar.item f.0.0) (grammar.word keyword.EndModule) (sum_by item_gates f.0.0) f.0.1 t3 list.takes in
    let t5 = takes_then s _ _ f.0.1 (flat_map grammar.directed g.0.0) 0 g.0.1 t4 (behind_takes f.0.1 g.0 g.1) in
    let end = end_is g.0.1 h.0 h.1 in
    subst (λ (y : grammar.Module × Remainder). TakesModule s y.0 y.1) (ok_is made x h.2)
    (subst (λ (rest : Remainder). TakesModule s made.0 rest) end.1 (record { takes = regrouped s _ _ _ _ g.0.1 refl (omega arith) t5; ports = ports.1; items = list.holds; ended = end.0 }))
