-- Declarations and ports that the grammar derives are read.
use Rattle.std.proofs.Common.{◌≡◌, ℕ, zero, suc, ◌+◌, ◌≤◌, Bool, true, false, cond, List, [], ◌∷◌, ◌++◌, length, replicate, Option, None, Some, Ok, refl, sym, ap, subst, ◌∙◌, arith, append_assoc}
use Rattle.std.specs.Prelude.{◌==◌}
use Rattle.std.specs.List.{AllByRecursion}
use Rattle.std.proofs.lemmas.List.Concat.{flat_map-cons}
use Rattle.std.proofs.lemmas.Bool.{le-ltb}
use Rattle.std.proofs.Math.Dec.{eqb-suc-zero}
use Rattle.td_nets.specs.declared.keyword.Keyword.TheVariants as keyword
use Rattle.td_syntax.specs.declared.token.Symbol.TheVariants as symbol
use Rattle.td_syntax.specs.declared.syntax.Role.{Role}
use Rattle.td_syntax.specs.declared.syntax.Role.TheVariants as role
use Rattle.td_syntax.specs.Token.{Token, Name, Escaped, Reserved, Number, Constant, Mark, Attribute, Directs, Outside}
use Rattle.td_syntax.specs.Token.{Placed, placed_on}
use Rattle.td_syntax.specs.Grammar as grammar
use Rattle.td_syntax.proofs.Plain.{plain}
use Rattle.td_syntax.specs.Grammar.{IsRange, IsMaybeRange, IsDeclaration, IsHeader, IsPort, ArePorts, decimal_value}
use Rattle.td_syntax.specs.Faults.{◌>>=◌}
use Rattle.td_syntax.specs.Readers.{Remainder, behind_front, is_mark, as_name, as_whole, as_attribute, maybe_at, maybe_mark_at, take_at}
use Rattle.td_syntax.specs.Parsing.{as_wire, as_direction, behind_wire, wired, wire_at, limited_at, bounds_at, range_at, declaration_at, direction_at, header_at, headed_at, port_by, port_at, port_step, is_heading, listed_at, listed, ports_at}
use Rattle.td_syntax.proofs.Takes.{names_classified, maybe_mark_takes, AllFrom}
use Rattle.td_syntax.proofs.SoundDelays.{no_gates, any_gates, wholes_classified}
use Rattle.td_syntax.proofs.SoundDeclarations.{wires_classified, wire_takes, range_takes, bounds_text, declaration_rest, HeadedIf, PortAt, port_member, ports_shorten}
use Rattle.td_syntax.proofs.AgainTokens.{Reads, Begins, in_front, maybe_again, maybe_not, name_again, mark_plain, mark_again, maybe_mark_again, maybe_mark_not, comma_again, end_again, MemberAgain, group4, group5, list_again, names_again}
use Rattle.td_syntax.proofs.AgainHeads.{attributes_again}

-- ---- ranges

limited_again : (s : Remainder) (digits : List ℕ) (more : List Placed) → decimal_value digits ≤ 1000000000 → Begins s (grammar.whole digits ++ more) → Reads (limited_at s) digits more
unfolding limited_at
limited_again s digits more le e =
    let t = placed_on 0 (Number (grammar.whole_number digits)) in
    let f = in_front s t more e in
    let found : as_whole f.placed ≡ Some digits = wholes_classified.stable f.placed ∙ ap as_whole f.same in
    record { rest = behind_front s; gives = rw (f.gives, found, le-ltb 1000000000 (decimal_value digits) le) refl; tokens = f.tokens }

bounds_again : (s : Remainder) (r : grammar.Range) (more : List Placed) → IsRange r → Begins s (bounds_text r ++ more) → Reads (bounds_at s) r more
unfolding bounds_at
bounds_again s r more h e =
    let close = grammar.mark symbol.RightBracket ++ more in
    let second = grammar.whole r.right ++ close in
    let a = limited_again s r.left (grammar.mark symbol.Colon ++ second) h.left e in
    let b = mark_again symbol.Colon a.rest second a.tokens in
    let c = limited_again b.rest r.right close h.right b.tokens in
    let d = mark_again symbol.RightBracket c.rest more c.tokens in
    record { rest = d.rest; gives = rw (a.gives, b.gives, c.gives, d.gives) refl; tokens = d.tokens }

-- what follows the range is a name
range_again : (s : Remainder) (r : Option grammar.Range) (n : grammar.Name) (more : List Placed) → IsMaybeRange r → Begins s (grammar.optional grammar.range r ++ (grammar.name n ++ more)) → Reads (range_at s) r (grammar.name n ++ more)
unfolding range_at
range_again s None n more h e =
    let a = maybe_mark_not symbol.LeftBracket s (placed_on n.line (Name n.name)) more refl e in
    record { rest = a.rest; gives = rw a.gives refl; tokens = a.tokens }
range_again s (Some r) n more h e =
    let a = maybe_mark_again symbol.LeftBracket s (bounds_text r ++ (grammar.name n ++ more)) e in
    let b = bounds_again a.rest r (grammar.name n ++ more) h a.tokens in
    record { rest = b.rest; gives = rw (a.gives, b.gives) refl; tokens = b.tokens }

-- ---- wire

-- what may follow `wire`: a range or a name
record NoStrength (text : List Placed) : Type 0 where
  first : Placed
  more : List Placed
  splits : text ≡ first ∷ more
  open_ : is_mark symbol.Open first.token ≡ false
  hash : is_mark symbol.Hash first.token ≡ false
  wire : as_wire first ≡ None

range_first : (r : Option grammar.Range) (n : grammar.Name) (more : List Placed) → NoStrength (grammar.optional grammar.range r ++ (grammar.name n ++ more))
range_first None n more = record { first = placed_on n.line (Name n.name); more = more; splits = refl; open_ = refl; hash = refl; wire = refl }
range_first (Some r) n more = record { first = placed_on 0 (Mark symbol.LeftBracket); more = bounds_text r ++ (grammar.name n ++ more); splits = refl; open_ = refl; hash = refl; wire = refl }

behind_wire_again : (s : Remainder) (text : List Placed) → NoStrength text → Begins s text → behind_wire s ≡ Ok s
unfolding behind_wire
behind_wire_again s text h e =
    let f = in_front s h.first h.more (e ∙ h.splits) in
    rw (f.gives, mark_plain symbol.Open f.placed _ f.same, h.open_, mark_plain symbol.Hash f.placed _ f.same, h.hash) refl

wired_again : (s : Remainder) (w : Bool) (text : List Placed) → NoStrength text → Begins s (grammar.wire_word w ++ text) → Reads (maybe_at as_wire s >>= wired) w text
wired_again s true text h e =
    let a = maybe_again as_wire (λ u. grammar.word keyword.Wire) wires_classified s (placed_on 0 (Reserved keyword.Wire)) tt text refl e in
    record { rest = a.rest; gives = rw (a.gives, behind_wire_again a.rest text h a.tokens) refl; tokens = a.tokens }
wired_again s false text h e =
    let a = maybe_not as_wire (λ u. grammar.word keyword.Wire) wires_classified s h.first h.more h.wire (e ∙ h.splits) in
    record { rest = a.rest; gives = rw a.gives refl; tokens = a.tokens ∙ sym h.splits }

wire_again : (r : Role) (w : Bool) (s : Remainder) (text : List Placed) → NoStrength text → (r ≡ role.Wire → w ≡ false) → Begins s (grammar.wire_word w ++ text) → Reads (wire_at r s) w text
unfolding wire_at
wire_again role.Wire true s text h once e = let two : true ≡ false = once refl in absurd cc
wire_again role.Wire false s text h once e = record { rest = s; gives = rw (behind_wire_again s text h e) refl; tokens = e }
wire_again role.Input w s text h once e = wired_again s w text h e
wire_again role.Output w s text h once e = wired_again s w text h e

-- ---- declarations

-- names begin with a name
names_front : (ns : List grammar.Name) (tail : List Placed) → 1 ≤ length ns → (n : grammar.Name) × (more : List Placed) × (grammar.separated grammar.name ns ++ tail ≡ grammar.name n ++ more)
unfolding grammar.separated
names_front [] tail some = absurd (omega arith)
names_front (n ∷ []) tail some = (n, tail, refl)
names_front (n ∷ m ∷ ms) tail some = (n, grammar.mark symbol.Comma ++ grammar.separated grammar.name (m ∷ ms) ++ tail, refl)

pub declaration_again : (d : grammar.Declaration) (s : Remainder) (tail : List Placed) → s.gates ≤ 200000 → IsDeclaration d → Begins s (declaration_rest d ++ tail) → Reads (declaration_at d.attributes d.role s) d tail
unfolding declaration_at
declaration_again d s tail le keeps e =
    let list = grammar.separated grammar.name d.names in
    let range = grammar.optional grammar.range d.range in
    let behind = list ++ (grammar.mark symbol.Semicolon ++ tail) in
    let split : Begins s (grammar.wire_word d.wire ++ (range ++ behind)) = e ∙ group5 (grammar.wire_word d.wire) range list (grammar.mark symbol.Semicolon) tail in
    let f = names_front d.names (grammar.mark symbol.Semicolon ++ tail) keeps.names in
    let named : Begins s (grammar.wire_word d.wire ++ (range ++ (grammar.name f.0 ++ f.1))) = split ∙ ap (λ (text : List Placed). grammar.wire_word d.wire ++ (range ++ text)) f.2 in
    let w = wire_again d.role d.wire s (range ++ (grammar.name f.0 ++ f.1)) (range_first d.range f.0 f.1) keeps.wire named in
    let r = range_again w.rest d.range f.0 f.1 keeps.range w.tokens in
    let wt = wire_takes d.role s (d.wire, w.rest) w.gives in
    let rt = range_takes w.rest (d.range, r.rest) r.gives in
    let l = names_again symbol.Semicolon refl d.names r.rest tail (rt.0.within (wt.0.within le)) keeps.names (r.tokens ∙ sym f.2) in
    record { rest = l.rest; gives = rw (w.gives, r.gives, l.gives) refl; tokens = l.tokens }

-- ---- ports

stable_direction : (l : ℕ) (t : Token) → as_direction (placed_on l t) ≡ as_direction (plain (placed_on l t))
stable_direction l (Name w) = refl
stable_direction l (Escaped w) = refl
stable_direction l (Reserved k) = refl
stable_direction l (Number n) = refl
stable_direction l (Constant b w) = refl
stable_direction l (Mark m) = refl
stable_direction l Attribute = refl
stable_direction l (Directs d w) = refl
stable_direction l (Outside w) = refl

role_token : Role → Placed
role_token role.Input = placed_on 0 (Reserved keyword.Input)
role_token role.Output = placed_on 0 (Reserved keyword.Output)
role_token role.Wire = placed_on 0 (Reserved keyword.Wire)

role_text : (r : Role) → grammar.role_word r ≡ role_token r ∷ []
unfolding role_token
role_text role.Input = refl
role_text role.Output = refl
role_text role.Wire = refl

role_found : (r : Role) → ¬ (r ≡ role.Wire) → as_direction (role_token r) ≡ Some r
unfolding role_token
role_found role.Input no_wire = refl
role_found role.Output no_wire = refl
role_found role.Wire no_wire = absurd (no_wire refl)

role_other : (r : Role) → as_attribute (role_token r) ≡ None
unfolding role_token
role_other role.Input = refl
role_other role.Output = refl
role_other role.Wire = refl

direction_again : (s : Remainder) (r : Role) (more : List Placed) → ¬ (r ≡ role.Wire) → Begins s (role_token r ∷ more) → Reads (direction_at s) r more
unfolding direction_at take_at
direction_again s r more no_wire e =
    let f = in_front s (role_token r) more e in
    let found : as_direction f.placed ≡ Some r = stable_direction f.placed.line f.placed.token ∙ ap as_direction f.same ∙ role_found r no_wire in
    record { rest = behind_front s; gives = rw (f.gives, found) refl; tokens = f.tokens }

header_text : (h : grammar.Header) (more : List Placed) → grammar.header h ++ more ≡ grammar.attributes h.attributes ++ (role_token h.role ∷ (grammar.wire_word h.wire ++ (grammar.optional grammar.range h.range ++ (grammar.name h.name ++ more))))
header_text h more =
    regroup (grammar.attributes h.attributes) (grammar.role_word h.role) (grammar.wire_word h.wire) (grammar.optional grammar.range h.range) (grammar.name h.name) more
    ∙ ap (λ (word : List Placed). grammar.attributes h.attributes ++ (word ++ (grammar.wire_word h.wire ++ (grammar.optional grammar.range h.range ++ (grammar.name h.name ++ more))))) (role_text h.role)
  where
    regroup : (a b c d f g : List Placed) → a ++ b ++ c ++ d ++ f ++ g ≡ a ++ (b ++ (c ++ (d ++ (f ++ g))))
    regroup a b c d f g = simp append_assoc

header_again : (h : grammar.Header) (s : Remainder) (more : List Placed) → IsHeader h → Begins s (grammar.header h ++ more) → Reads (header_at s) h more
unfolding header_at
header_again h s more keeps e =
    let range = grammar.optional grammar.range h.range in
    let behind_range = grammar.name h.name ++ more in
    let behind_role = grammar.wire_word h.wire ++ (range ++ behind_range) in
    let a = attributes_again h.attributes s (role_token h.role) behind_role (role_other h.role) (e ∙ header_text h more) in
    let d = direction_again a.rest h.role behind_role keeps.role a.tokens in
    let w = wire_again h.role h.wire d.rest (range ++ behind_range) (range_first h.range h.name more) (λ is. absurd (keeps.role is)) d.tokens in
    let r = range_again w.rest h.range h.name more keeps.range w.tokens in
    let n = name_again r.rest h.name more r.tokens in
    record { rest = n.rest; gives = rw (a.gives, d.gives, w.gives, r.gives, n.gives) refl; tokens = n.tokens }

-- a header begins with an attribute or a direction
record Heads (text : List Placed) : Type 0 where
  first : Placed
  more : List Placed
  splits : text ≡ first ∷ more
  heading : is_heading first ≡ true
  named : as_name first ≡ None
  closing : is_mark symbol.Close first.token ≡ false

role_heads : (r : Role) (more : List Placed) → ¬ (r ≡ role.Wire) → Heads (role_token r ∷ more)
unfolding role_token
role_heads role.Input more no_wire = record { first = placed_on 0 (Reserved keyword.Input); more = more; splits = refl; heading = refl; named = refl; closing = refl }
role_heads role.Output more no_wire = record { first = placed_on 0 (Reserved keyword.Output); more = more; splits = refl; heading = refl; named = refl; closing = refl }
role_heads role.Wire more no_wire = absurd (no_wire refl)

attributes_head : (n : ℕ) (r : Role) (more : List Placed) → ¬ (r ≡ role.Wire) → Heads (grammar.attributes n ++ (role_token r ∷ more))
attributes_head zero r more no_wire = role_heads r more no_wire
attributes_head (suc n) r more no_wire =
    let split : grammar.attributes (suc n) ++ (role_token r ∷ more) ≡ placed_on 0 Attribute ∷ (grammar.attributes n ++ (role_token r ∷ more)) = ap (λ (text : List Placed). text ++ (role_token r ∷ more)) (flat_map-cons grammar.attribute tt (replicate n tt)) in
    record { first = placed_on 0 Attribute; more = grammar.attributes n ++ (role_token r ∷ more); splits = split; heading = refl; named = refl; closing = refl }

header_heads : (h : grammar.Header) (more : List Placed) → IsHeader h → Heads (grammar.header h ++ more)
header_heads h more keeps =
    let g = attributes_head h.attributes h.role (grammar.wire_word h.wire ++ (grammar.optional grammar.range h.range ++ (grammar.name h.name ++ more))) keeps.role in
    record { first = g.first; more = g.more; splits = header_text h more ∙ g.splits; heading = g.heading; named = g.named; closing = g.closing }

headed_again : (h : grammar.Header) (s : Remainder) (more : List Placed) → IsHeader h → Begins s (grammar.header h ++ more) → Reads (headed_at s) (grammar.Headed h) more
unfolding headed_at
headed_again h s more keeps e =
    let a = header_again h s more keeps e in
    record { rest = a.rest; gives = rw a.gives refl; tokens = a.tokens }

port_again_by : (b : Bool) (p : grammar.Port) (s : Remainder) (more : List Placed) → IsPort p → HeadedIf b p → Begins s (grammar.port p ++ more) → Reads (cond b (headed_at s) (maybe_at as_name s >>= port_by)) p more
port_again_by true (grammar.Bare n) s more keeps h e = absurd h
port_again_by true (grammar.Headed g) s more keeps h e = headed_again g s more keeps e
port_again_by false (grammar.Bare n) s more keeps h e =
    let a = maybe_again as_name grammar.name names_classified s (placed_on n.line (Name n.name)) n more refl e in
    record { rest = a.rest; gives = rw a.gives refl; tokens = a.tokens }
port_again_by false (grammar.Headed g) s more keeps h e =
    let k = header_heads g more keeps in
    let a = maybe_not as_name grammar.name names_classified s k.first k.more k.named (e ∙ k.splits) in
    let b = headed_again g a.rest more keeps (a.tokens ∙ sym k.splits) in
    record { rest = b.rest; gives = rw (a.gives, b.gives) refl; tokens = b.tokens }

port_again : (k : ℕ) (p : grammar.Port) (s : Remainder) (more : List Placed) → PortAt k p → Begins s (grammar.port p ++ more) → Reads (port_at k s) p more
unfolding port_at
port_again k p s more h e = port_again_by (k == 0) p s more h.0 h.1 e

port_again_member : MemberAgain port_step grammar.port PortAt PortAt no_gates no_gates (grammar.mark symbol.Close)
unfolding port_step
port_again_member = record {
  more = λ k s a tail p le e.
      let n = port_again k a s (grammar.mark symbol.Comma ++ tail) p e in
      let b = comma_again symbol.Close a n.rest tail n.tokens in
      record { rest = b.rest; gives = rw n.gives b.gives; tokens = b.tokens };
  final = λ k s a tail p le e.
      let n = port_again k a s (grammar.mark symbol.Close ++ tail) p e in
      let b = end_again symbol.Close a n.rest tail refl n.tokens in
      record { rest = b.rest; gives = rw n.gives b.gives; tokens = b.tokens };
}

later_ports : (k : ℕ) (ps : List grammar.Port) → 1 ≤ length ps → AllByRecursion IsPort ps → AllFrom PortAt PortAt (suc k) ps
later_ports k [] some h = absurd (omega arith)
later_ports k (p ∷ []) some h = (h.0, later_headed k p)
  where
    later_headed : (k : ℕ) (p : grammar.Port) → HeadedIf (suc k == 0) p
    later_headed k p = subst (λ (b : Bool). HeadedIf b p) (sym (eqb-suc-zero k)) tt
later_ports k (p ∷ q ∷ qs) some h =
    let next : suc k + 1 ≡ suc (k + 1) = omega arith in
    ((h.0, later_headed k p), subst (λ (j : ℕ). AllFrom PortAt PortAt j (q ∷ qs)) (sym next) (later_ports (k + 1) (q ∷ qs) (omega arith) h.1))
  where
    later_headed : (k : ℕ) (p : grammar.Port) → HeadedIf (suc k == 0) p
    later_headed k p = subst (λ (b : Bool). HeadedIf b p) (sym (eqb-suc-zero k)) tt

ports_all : (h : grammar.Header) (ps : List grammar.Port) → AllByRecursion IsPort (grammar.Headed h ∷ ps) → AllFrom PortAt PortAt 0 (grammar.Headed h ∷ ps)
ports_all h [] all = (all.0, tt)
ports_all h (p ∷ ps) all = ((all.0, tt), later_ports 0 (p ∷ ps) (omega arith) all.1)

separated_front : (h : grammar.Header) (ps : List grammar.Port) (tail : List Placed) → IsHeader h → Heads (grammar.separated grammar.port (grammar.Headed h ∷ ps) ++ tail)
unfolding grammar.separated
separated_front h [] tail keeps = header_heads h tail keeps
separated_front h (p ∷ ps) tail keeps =
    let behind = grammar.mark symbol.Comma ++ (grammar.separated grammar.port (p ∷ ps) ++ tail) in
    let g = header_heads h behind keeps in
    record { first = g.first; more = g.more; splits = group4 (grammar.header h) (grammar.mark symbol.Comma) (grammar.separated grammar.port (p ∷ ps)) tail ∙ g.splits; heading = g.heading; named = g.named; closing = g.closing }

stable_heading : (l : ℕ) (t : Token) → is_heading (placed_on l t) ≡ is_heading (plain (placed_on l t))
stable_heading l (Name w) = refl
stable_heading l (Escaped w) = refl
stable_heading l (Reserved k) = refl
stable_heading l (Number n) = refl
stable_heading l (Constant b w) = refl
stable_heading l (Mark m) = refl
stable_heading l Attribute = refl
stable_heading l (Directs d w) = refl
stable_heading l (Outside w) = refl

abbrev Closing : List Placed → List Placed
Closing tail = grammar.mark symbol.Close ++ (grammar.mark symbol.Semicolon ++ tail)

declared_again : (h : grammar.Header) (ps : List grammar.Port) (s : Remainder) (tail : List Placed) → s.gates ≤ 200000 → AllByRecursion IsPort (grammar.Headed h ∷ ps) → Begins s (grammar.separated grammar.port (grammar.Headed h ∷ ps) ++ Closing tail)
    → Reads (listed_at s) (grammar.Declared (grammar.Headed h ∷ ps)) (grammar.mark symbol.Semicolon ++ tail)
unfolding listed_at
declared_again h ps s tail le all e =
    let xs = grammar.Headed h ∷ ps in
    let g = separated_front h ps (Closing tail) all.0 in
    let f = in_front s g.first g.more (e ∙ g.splits) in
    let heading : is_heading f.placed ≡ true = stable_heading f.placed.line f.placed.token ∙ ap is_heading f.same ∙ g.heading in
    let l = list_again port_step ports_shorten grammar.port PortAt PortAt no_gates no_gates (grammar.mark symbol.Close) port_member port_again_member 0 xs s (grammar.mark symbol.Semicolon ++ tail) (ports_all h ps all) (omega (arith, le, any_gates 0 xs)) e in
    record { rest = l.rest; gives = rw (f.gives, heading, l.gives) refl; tokens = l.tokens }

named_again : (n : grammar.Name) (ns : List grammar.Name) (s : Remainder) (tail : List Placed) → s.gates ≤ 200000 → Begins s (grammar.separated grammar.name (n ∷ ns) ++ Closing tail) → Reads (listed_at s) (grammar.Names (n ∷ ns)) (grammar.mark symbol.Semicolon ++ tail)
unfolding listed_at
named_again n ns s tail le e =
    let front = names_front (n ∷ ns) (Closing tail) (omega arith) in
    let t = placed_on front.0.line (Name front.0.name) in
    let f = in_front s t front.1 (e ∙ front.2) in
    let heading : is_heading f.placed ≡ false = stable_heading f.placed.line f.placed.token ∙ ap is_heading f.same in
    let l = names_again symbol.Close refl (n ∷ ns) s (grammar.mark symbol.Semicolon ++ tail) le (omega arith) e in
    record { rest = l.rest; gives = rw (f.gives, heading, l.gives) refl; tokens = l.tokens }

-- after the (
abbrev Listed : Remainder → grammar.Ports → List Placed → Type 0
Listed s p tail = Reads (maybe_mark_at symbol.Close s >>= listed) p (grammar.mark symbol.Semicolon ++ tail)

listed_again : (p : grammar.Ports) (s : Remainder) (tail : List Placed) → s.gates ≤ 200000 → ArePorts (Some p) → Begins s (grammar.port_list p ++ Closing tail) → Listed s p tail
unfolding grammar.separated
listed_again (grammar.Names []) s tail le keeps e =
    let a = maybe_mark_again symbol.Close s (grammar.mark symbol.Semicolon ++ tail) e in
    record { rest = a.rest; gives = rw a.gives refl; tokens = a.tokens }
listed_again (grammar.Names (n ∷ ns)) s tail le keeps e =
    let front = names_front (n ∷ ns) (Closing tail) (omega arith) in
    let a = maybe_mark_not symbol.Close s (placed_on front.0.line (Name front.0.name)) front.1 refl (e ∙ front.2) in
    let at_ = maybe_mark_takes symbol.Close s (false, a.rest) a.gives in
    let l = named_again n ns a.rest tail (at_.within le) (a.tokens ∙ sym front.2) in
    record { rest = l.rest; gives = rw (a.gives, l.gives) refl; tokens = l.tokens }
listed_again (grammar.Declared []) s tail le keeps e = absurd keeps.0
listed_again (grammar.Declared (grammar.Bare n ∷ ps)) s tail le keeps e = absurd keeps.0
listed_again (grammar.Declared (grammar.Headed h ∷ ps)) s tail le keeps e =
    let g = separated_front h ps (Closing tail) keeps.1.0 in
    let a = maybe_mark_not symbol.Close s g.first g.more g.closing (e ∙ g.splits) in
    let at_ = maybe_mark_takes symbol.Close s (false, a.rest) a.gives in
    let l = declared_again h ps a.rest tail (at_.within le) keeps.1 (a.tokens ∙ sym g.splits) in
    record { rest = l.rest; gives = rw (a.gives, l.gives) refl; tokens = l.tokens }

pub ports_again : (s : Remainder) (p : Option grammar.Ports) (tail : List Placed) → s.gates ≤ 200000 → ArePorts p → Begins s (grammar.ports p ++ (grammar.mark symbol.Semicolon ++ tail)) → Reads (ports_at s) p (grammar.mark symbol.Semicolon ++ tail)
unfolding ports_at
ports_again s None tail le keeps e =
    let a = maybe_mark_not symbol.Open s (placed_on 0 (Mark symbol.Semicolon)) tail refl e in
    record { rest = a.rest; gives = rw a.gives refl; tokens = a.tokens }
ports_again s (Some p) tail le keeps e =
    let list = grammar.port_list p in
    let split : Begins s (grammar.mark symbol.Open ++ (list ++ Closing tail)) = e ∙ group4 (grammar.mark symbol.Open) list (grammar.mark symbol.Close) (grammar.mark symbol.Semicolon ++ tail) in
    let a = maybe_mark_again symbol.Open s (list ++ Closing tail) split in
    let at_ = maybe_mark_takes symbol.Open s (true, a.rest) a.gives in
    let l = listed_again p a.rest tail (at_.within le) keeps a.tokens in
    record { rest = l.rest; gives = rw (a.gives, l.gives) refl; tokens = l.tokens }
