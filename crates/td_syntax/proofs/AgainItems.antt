-- What the grammar derives is read.
use Rattle.std.proofs.Common.{◌≡◌, ℕ, ◌+◌, ◌≤◌, List, [], ◌∷◌, ◌++◌, map, drop, Option, Some, Ok, refl, sym, ap, subst, ◌∙◌, arith, append_assoc}
use Rattle.std.specs.List.{AllByRecursion, flat_map, sum_by}
use Rattle.std.proofs.lemmas.List.Concat.{flat_map-cons}
use Rattle.std.proofs.lemmas.List.Sums.{sum_by-cons}
use Rattle.td_nets.specs.declared.keyword.Keyword.{Keyword}
use Rattle.td_nets.specs.declared.keyword.Keyword.TheVariants as keyword
use Rattle.td_syntax.specs.declared.token.Symbol.TheVariants as symbol
use Rattle.td_syntax.specs.declared.token.Stop.{Stop}
use Rattle.td_syntax.specs.declared.token.Stop.TheVariants as stop
use Rattle.td_syntax.specs.declared.token.Directive.{Directive}
use Rattle.td_syntax.specs.declared.syntax.Role.{Role}
use Rattle.td_syntax.specs.declared.syntax.Role.TheVariants as role
use Rattle.td_syntax.specs.declared.syntax.Front.{Front as Fronted}
use Rattle.td_syntax.specs.Token.{Token, Name, Escaped, Reserved, Number, Constant, Mark, Attribute, Directs, Outside}
use Rattle.td_syntax.specs.Token.{Placed, placed_on}
use Rattle.td_syntax.specs.Tokens.{front_of}
use Rattle.td_syntax.specs.Grammar as grammar
use Rattle.td_syntax.proofs.Plain.{plain}
use Rattle.td_syntax.specs.Grammar.{IsItem, ArePorts, item_gates, unit_exponent}
use Rattle.td_syntax.specs.Faults.{◌>>=◌}
use Rattle.td_syntax.specs.Readers.{Remainder, behind_front, More, as_keyword, many, name_at, mark_at, many_from}
use Rattle.td_syntax.specs.Parsing.{front_step, behind_step, declaration_at, declares, gates, item_word, item_step, ports_at, end_at, module_at}
use Rattle.td_syntax.proofs.Lists.{unrolled}
use Rattle.td_syntax.proofs.Takes.{next_takes, name_takes, mark_takes}
use Rattle.td_syntax.proofs.SoundHeads.{attributes_take, fronts_take, behind_takes}
use Rattle.td_syntax.proofs.SoundDeclarations.{declaration_rest, ports_take}
use Rattle.td_syntax.proofs.SoundGates.{statement_rest}
use Rattle.td_syntax.proofs.SoundItems.{declared_text, gates_text, items_sequence, items_shorten, items_take}
use Rattle.td_syntax.proofs.AgainTokens.{Reads, Begins, in_front, name_again, mark_again, group4}
use Rattle.td_syntax.proofs.AgainHeads.{attributes_again, fronts_again, behind_again}
use Rattle.td_syntax.proofs.AgainDeclarations.{declaration_again, ports_again}
use Rattle.td_syntax.proofs.AgainGates.{statement_again}

-- ---- items

reserved_plain : (l : ℕ) (t : Token) (k : Keyword) → plain (placed_on l t) ≡ placed_on 0 (Reserved k) → as_keyword (placed_on l t) ≡ Some k
reserved_plain l (Reserved j) k e = let same : Reserved j ≡ Reserved k = ap (λ (p : Placed). p.token) e in let is : j ≡ k = cc in ap (λ (q : Keyword). Some q) is
reserved_plain l (Name w) k e = let h : Name w ≡ Reserved k = ap (λ (p : Placed). p.token) e in absurd cc
reserved_plain l (Escaped w) k e = let h : Name (drop 1 w) ≡ Reserved k = ap (λ (p : Placed). p.token) e in absurd cc
reserved_plain l (Number n) k e = let h : Number n ≡ Reserved k = ap (λ (p : Placed). p.token) e in absurd cc
reserved_plain l (Constant b w) k e = let h : Constant b [] ≡ Reserved k = ap (λ (p : Placed). p.token) e in absurd cc
reserved_plain l (Mark m) k e = let h : Mark m ≡ Reserved k = ap (λ (p : Placed). p.token) e in absurd cc
reserved_plain l Attribute k e = let h : Attribute ≡ Reserved k = ap (λ (p : Placed). p.token) e in absurd cc
reserved_plain l (Directs d w) k e = let h : Directs d [] ≡ Reserved k = ap (λ (p : Placed). p.token) e in absurd cc
reserved_plain l (Outside w) k e = let h : Outside w ≡ Reserved k = ap (λ (p : Placed). p.token) e in absurd cc

-- the keyword in front, after its attributes, as a step sees it
record Worded (tens k attributes : ℕ) (s : Remainder) (w : Keyword) (more : List Placed) : Type 0 where
  placed : Placed
  rest : Remainder
  gives : item_step tens k s ≡ item_word tens attributes placed rest w
  tokens : Begins rest more
  gates : rest.gates ≡ s.gates

word_step : (tens k attributes : ℕ) (s : Remainder) (w : Keyword) (more : List Placed) → Begins s (grammar.attributes attributes ++ (grammar.word w ++ more)) → Worded tens k attributes s w more
unfolding item_step
word_step tens k attributes s w more e =
    let a = attributes_again attributes s (placed_on 0 (Reserved w)) more refl e in
    let at_ = attributes_take s (attributes, a.rest) a.gives in
    let f = in_front a.rest (placed_on 0 (Reserved w)) more a.tokens in
    let ft = next_takes a.rest (f.placed, behind_front a.rest) f.gives in
    record {
      placed = f.placed;
      rest = behind_front a.rest;
      gives = rw (a.gives, f.gives, reserved_plain f.placed.line f.placed.token w f.same) refl;
      tokens = f.tokens;
      gates = omega (arith, at_.counted, ft.counted);
    }

role_keyword : Role → Keyword
role_keyword role.Input = keyword.Input
role_keyword role.Output = keyword.Output
role_keyword role.Wire = keyword.Wire

role_step : (r : Role) (tens attributes : ℕ) (p : Placed) (s : Remainder) → item_word tens attributes p s (role_keyword r) ≡ (declaration_at attributes r s >>= declares)
unfolding role_keyword
role_step role.Input tens attributes p s = refl
role_step role.Output tens attributes p s = refl
role_step role.Wire tens attributes p s = refl

role_text : (r : Role) → grammar.role_word r ≡ grammar.word (role_keyword r)
unfolding role_keyword
role_text role.Input = refl
role_text role.Output = refl
role_text role.Wire = refl

item_again : (tens k : ℕ) (s : Remainder) (i : grammar.Item) (tail : List Placed) → IsItem tens i → s.gates + item_gates i ≤ 200000 → Begins s (grammar.item i ++ tail) → Reads (item_step tens k s) (More i) tail
item_again tens k s (grammar.Declares d) tail keeps le e =
    let text : grammar.declaration d ++ tail ≡ grammar.attributes d.attributes ++ (grammar.word (role_keyword d.role) ++ (declaration_rest d ++ tail)) =
    ap (λ (ys : List Placed). ys ++ tail) (sym (declared_text d))
    ∙ group4 (grammar.attributes d.attributes) (grammar.role_word d.role) (declaration_rest d) tail
    ∙ ap (λ (word : List Placed). grammar.attributes d.attributes ++ (word ++ (declaration_rest d ++ tail))) (role_text d.role) in
    let w = word_step tens k d.attributes s (role_keyword d.role) (declaration_rest d ++ tail) (e ∙ text) in
    let r = declaration_again d w.rest tail (omega (arith, le, w.gates)) keeps w.tokens in
    record { rest = r.rest; gives = rw (w.gives, role_step d.role tens d.attributes w.placed w.rest, r.gives) refl; tokens = r.tokens }
item_again tens k s (grammar.Gates g) tail keeps le e =
    let text : grammar.statement g ++ tail ≡ grammar.attributes g.attributes ++ (grammar.word (keyword.Gate g.kind) ++ (statement_rest g ++ tail)) =
    ap (λ (ys : List Placed). ys ++ tail) (sym (gates_text g))
    ∙ group4 (grammar.attributes g.attributes) (grammar.word (keyword.Gate g.kind)) (statement_rest g) tail in
    let w = word_step tens k g.attributes s (keyword.Gate g.kind) (statement_rest g ++ tail) (e ∙ text) in
    let r = statement_again tens g w.rest tail keeps (omega (arith, le, w.gates)) w.tokens in
    record { rest = r.rest; gives = rw (w.gives, r.gives) refl; tokens = r.tokens }

items_again : (tens k : ℕ) (is : List grammar.Item) (s : Remainder) (tail : List Placed) → AllByRecursion (IsItem tens) is → s.gates + sum_by item_gates is ≤ 200000 → Begins s (flat_map grammar.item is ++ (grammar.word keyword.EndModule ++ tail)) → Reads (many_from (item_step tens) k s) is tail
items_again tens k [] s tail keeps le e =
    let w = word_step tens k 0 s keyword.EndModule tail e in
    record { rest = w.rest; gives = rw (unrolled (item_step tens) (items_shorten tens) k s, w.gives) refl; tokens = w.tokens }
items_again tens k (i ∷ is) s tail keeps le e =
    let behind = grammar.word keyword.EndModule ++ tail in
    let split : Begins s (grammar.item i ++ (flat_map grammar.item is ++ behind)) =
    e ∙ ap (λ (text : List Placed). text ++ behind) (flat_map-cons grammar.item i is) ∙ append_assoc (grammar.item i) (flat_map grammar.item is) behind in
    let total = sum_by-cons item_gates i is in
    let r = item_again tens k s i (flat_map grammar.item is ++ behind) keeps.0 (omega (arith, le, total)) split in
    let t = ((items_sequence tens).more k s i r.rest r.gives).0 in
    let others = items_again tens (k + 1) is r.rest tail keeps.1 (omega (arith, le, total, t.counted)) r.tokens in
    record { rest = others.rest; gives = rw (unrolled (item_step tens) (items_shorten tens) k s, r.gives, others.gives) refl; tokens = others.tokens }

-- ---- the module

ended_by : (gates : ℕ) (ts : List Placed) (k : Stop) (line : ℕ) → map plain ts ≡ [] → k ≡ stop.End
    → end_at (record { stream = record { tokens = ts; stop = k; line = line }; gates = gates }) ≡ Ok (record { stream = record { tokens = ts; stop = k; line = line }; gates = gates })
unfolding end_at front_of
ended_by gates [] k line e is = subst (λ (other : Stop). end_at (record { stream = record { tokens = []; stop = other; line = line }; gates = gates }) ≡ Ok (record { stream = record { tokens = []; stop = other; line = line }; gates = gates })) (sym is) refl
ended_by gates (t ∷ ts) k line e is = absurd cc

ended : (s : Remainder) → map plain s.stream.tokens ≡ [] → s.stream.stop ≡ stop.End → end_at s ≡ Ok s
ended s e is = ended_by s.gates s.stream.tokens s.stream.stop s.stream.line e is

module_text : (fronts_ name_ ports_ semicolon_ items_ end_ behind_ : List Placed) → fronts_ ++ (grammar.word keyword.Module) ++ name_ ++ ports_ ++ semicolon_ ++ items_ ++ end_ ++ behind_
    ≡ fronts_ ++ (grammar.word keyword.Module ++ (name_ ++ (ports_ ++ (semicolon_ ++ (items_ ++ (end_ ++ behind_))))))
module_text fronts_ name_ ports_ semicolon_ items_ end_ behind_ = simp append_assoc

-- the readers of a module one after another
module_steps : (s : Remainder) (first : List Fronted × Remainder) (name : grammar.Name × Remainder) (ports : Option grammar.Ports × Remainder) (semicolon : Remainder) (items : List grammar.Item × Remainder) (behind : List Directive × Remainder) (rest : Remainder)
    → many front_step s ≡ Ok first → name_at first.1 ≡ Ok name → ports_at name.1 ≡ Ok ports → mark_at symbol.Semicolon ports.1 ≡ Ok semicolon → many (item_step (unit_exponent first.0)) semicolon ≡ Ok items → many behind_step items.1 ≡ Ok behind → end_at behind.1 ≡ Ok rest
    → module_at s ≡ Ok (record { fronts = first.0; name = name.0; ports = ports.0; items = items.0; behind = behind.0 }, rest)
unfolding module_at
module_steps s first name ports semicolon items behind rest a b c d e f g = rw (a, b, c, d, e, f, g) refl

pub module_again : (s : Remainder) (m : grammar.Module) → s.gates ≡ 0 → ArePorts m.ports → AllByRecursion (IsItem (unit_exponent m.fronts)) m.items → sum_by item_gates m.items ≤ 200000 → map plain s.stream.tokens ≡ grammar.module_tokens m → s.stream.stop ≡ stop.End → Reads (module_at s) m []
module_again s m none ports keeps room e is =
    let tens = unit_exponent m.fronts in
    let behind = flat_map grammar.directed m.behind in
    let close = grammar.word keyword.EndModule ++ behind in
    let items = flat_map grammar.item m.items ++ close in
    let behind_ports = grammar.mark symbol.Semicolon ++ items in
    let split = e ∙ module_text (flat_map grammar.front m.fronts) (grammar.name m.name) (grammar.ports m.ports) (grammar.mark symbol.Semicolon) (flat_map grammar.item m.items) (grammar.word keyword.EndModule) behind in
    let f = fronts_again 0 m.fronts s (grammar.name m.name ++ (grammar.ports m.ports ++ behind_ports)) split in
    let ft = fronts_take s (m.fronts, f.rest) f.gives in
    let n = name_again f.rest m.name (grammar.ports m.ports ++ behind_ports) f.tokens in
    let nt = name_takes f.rest (m.name, n.rest) n.gives in
    let p = ports_again n.rest m.ports items (omega (arith, none, ft.counted, nt.counted)) ports n.tokens in
    let pt = (ports_take n.rest (m.ports, p.rest) p.gives).0 in
    let k = mark_again symbol.Semicolon p.rest items p.tokens in
    let kt = mark_takes symbol.Semicolon p.rest k.rest k.gives in
    let i = items_again tens 0 m.items k.rest behind keeps (omega (arith, none, room, ft.counted, nt.counted, pt.counted, kt.counted)) k.tokens in
    let it = (items_take tens k.rest (m.items, i.rest) i.gives).takes in
    let b = behind_again 0 m.behind i.rest i.tokens in
    let bt = behind_takes i.rest (m.behind, b.rest) b.gives in
    let stays : b.rest.stream.stop ≡ stop.End = bt.stop ∙ it.stop ∙ kt.stop ∙ pt.stop ∙ nt.stop ∙ ft.stop ∙ is in
    record {
      rest = b.rest;
      gives = module_steps s (m.fronts, f.rest) (m.name, n.rest) (m.ports, p.rest) k.rest (m.items, i.rest) (m.behind, b.rest) b.rest f.gives n.gives p.gives k.gives i.gives b.gives (ended b.rest b.tokens stays);
      tokens = b.tokens;
    }
