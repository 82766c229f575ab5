-- What the readers of declarations and ports take.
use Rattle.std.proofs.Common.{◌≡◌, ℕ, ◌+◌, ◌≤◌, Bool, true, false, cond, List, [], ◌∷◌, ◌++◌, Option, None, Some, Ok, Err, refl, sym, ap, subst, ◌∙◌}
use Rattle.std.specs.Prelude.{◌==◌, nat_lt, codes}
use Rattle.std.specs.List.{AllByRecursion}
use Rattle.std.proofs.lemmas.Bool.{ltb-false}
use Rattle.td_nets.specs.declared.keyword.Keyword.TheVariants as keyword
use Rattle.td_syntax.specs.declared.token.Symbol.TheVariants as symbol
use Rattle.td_syntax.specs.declared.syntax.Role.{Role}
use Rattle.td_syntax.specs.declared.syntax.Role.TheVariants as role
use Rattle.td_syntax.specs.Token.{Token, Name, Escaped, Reserved, Number, Constant, Mark, Attribute, Directs, Outside}
use Rattle.td_syntax.specs.Token.{Placed, placed_on}
use Rattle.td_syntax.specs.Grammar as grammar
use Rattle.td_syntax.proofs.Plain.{plain}
use Rattle.td_syntax.specs.Grammar.{IsRange, IsMaybeRange, IsDeclaration, IsHeader, IsPort, BeginsHeaded, ArePorts, decimal_value}
use Rattle.td_syntax.specs.Faults.{Fault, OutOfSubset, TooMany, fault, refused, ◌>>=◌}
use Rattle.td_syntax.specs.Readers.{Remainder, More, Final, Done, is_mark, read_as, as_name, as_whole, behind, many, take_at, next_at, name_at, maybe_at, mark_at, maybe_mark_at, names_at}
use Rattle.td_syntax.specs.Parsing.{as_wire, as_direction, attributes_at, behind_wire, wired, wire_at, limited_from, limited_at, bounds_at, range_by, range_at, declaration_at, direction_at, header_at, headed_at, port_by, port_at, port_step, is_heading, listed_at, listed, ports_by, ports_at}
use Rattle.td_syntax.proofs.Lists.{Shortens}
use Rattle.td_syntax.proofs.Takes.{Takes, takes_nothing, takes_then, regrouped, then_two, bind_ok, done, ok_is, err_is_no_ok, next_takes, Classifies, read_as_is, maybe_takes, names_classified, name_takes, mark_takes, if_mark, maybe_mark_takes, MemberTakes, behind_never, behind_more, behind_final, AllFrom, list_takes, list_shortens}
use Rattle.td_syntax.proofs.SoundHeads.{attributes_take}
use Rattle.td_syntax.proofs.SoundDelays.{no_gates, any_gates, wholes_classified, names_take}

-- ---- wire

behind_wire_takes : (s rest : Remainder) → behind_wire s ≡ Ok rest → Takes s [] 0 rest
unfolding behind_wire
behind_wire_takes s rest e =
    let b = bind_ok (next_at s) (λ p. cond (is_mark symbol.Open p.0.token) (Err (fault (OutOfSubset (codes "(")) p.0.line)) (cond (is_mark symbol.Hash p.0.token) (Err (fault (OutOfSubset (codes "#")) p.0.line)) (Ok s))) rest e in
    subst (λ (u : Remainder). Takes s [] 0 u) (neither (is_mark symbol.Open b.0.0.token) (is_mark symbol.Hash b.0.0.token) _ _ s rest b.2) (takes_nothing s)
  where
    neither : {A : Type 0} (b c : Bool) (f g : Fault) (x y : A) → cond b (Err f) (cond c (Err g) (Ok x)) ≡ done y → x ≡ y
    neither true c f g x y e = absurd (err_is_no_ok f y (sym e))
    neither false true f g x y e = absurd (err_is_no_ok g y (sym e))
    neither false false f g x y e = ok_is x y e

abbrev wire_text : Unit {0} → List Placed
wire_text u = grammar.word keyword.Wire

stable_wire : (l : ℕ) (t : Token) → as_wire (placed_on l t) ≡ as_wire (plain (placed_on l t))
stable_wire l (Name w) = refl
stable_wire l (Escaped w) = refl
stable_wire l (Reserved k) = refl
stable_wire l (Number n) = refl
stable_wire l (Constant b w) = refl
stable_wire l (Mark m) = refl
stable_wire l Attribute = refl
stable_wire l (Directs d w) = refl
stable_wire l (Outside w) = refl

spelled_wire : (l : ℕ) (t : Token) (u : Unit {0}) → as_wire (placed_on l t) ≡ Some u → plain (placed_on l t) ∷ [] ≡ grammar.word keyword.Wire
spelled_wire l (Reserved keyword.Wire) u e = refl
spelled_wire l (Reserved keyword.Module) u e = absurd cc
spelled_wire l (Reserved keyword.EndModule) u e = absurd cc
spelled_wire l (Reserved keyword.Input) u e = absurd cc
spelled_wire l (Reserved keyword.Output) u e = absurd cc
spelled_wire l (Reserved (keyword.Gate k)) u e = absurd cc
spelled_wire l (Name w) u e = absurd cc
spelled_wire l (Escaped w) u e = absurd cc
spelled_wire l (Number n) u e = absurd cc
spelled_wire l (Constant b w) u e = absurd cc
spelled_wire l (Mark m) u e = absurd cc
spelled_wire l Attribute u e = absurd cc
spelled_wire l (Directs d w) u e = absurd cc
spelled_wire l (Outside w) u e = absurd cc

pub wires_classified : Classifies as_wire wire_text
wires_classified = record { stable = λ p. stable_wire p.line p.token; spelled = λ p u e. spelled_wire p.line p.token u e }

abbrev Wired : Role → Remainder → Bool × Remainder → Type 0
Wired r s x = Takes s (grammar.wire_word x.0) 0 x.1 × (r ≡ role.Wire → x.0 ≡ false)

wired_takes : (r : Role) (s : Remainder) (o : Option (Unit {0})) (mid : Remainder) (x : Bool × Remainder) → (r ≡ role.Wire → ⊥) → Takes s (grammar.optional wire_text o) 0 mid → wired (o, mid) ≡ Ok x → Wired r s x
wired_takes r s None mid x never t e = subst (Wired r s) (ok_is (false, mid) x e) (t, λ is. refl)
wired_takes r s (Some u) mid x never t e =
    let b = bind_ok (behind_wire mid) (λ rest. Ok (true, rest)) x e in
    subst (Wired r s) (ok_is (true, b.0) x b.2) (takes_then s (grammar.word keyword.Wire) 0 mid [] 0 b.0 t (behind_wire_takes mid b.0 b.1), λ is. absurd (never is))

pub wire_takes : (r : Role) (s : Remainder) (x : Bool × Remainder) → wire_at r s ≡ Ok x → Wired r s x
unfolding wire_at
wire_takes role.Input s x e =
    let b = bind_ok (maybe_at as_wire s) wired x e in
    wired_takes role.Input s b.0.0 b.0.1 x (λ is. cc) (maybe_takes as_wire wire_text wires_classified s b.0 b.1) b.2
wire_takes role.Output s x e =
    let b = bind_ok (maybe_at as_wire s) wired x e in
    wired_takes role.Output s b.0.0 b.0.1 x (λ is. cc) (maybe_takes as_wire wire_text wires_classified s b.0 b.1) b.2
wire_takes role.Wire s x e =
    let b = bind_ok (behind_wire s) (λ rest. Ok (false, rest)) x e in
    subst (Wired role.Wire s) (ok_is (false, b.0) x b.2) (behind_wire_takes s b.0 b.1, λ is. refl)

-- ---- ranges

limited_by : (digits : List ℕ) (line : ℕ) (rest : Remainder) (x : List ℕ × Remainder) (b : Bool) → nat_lt 1000000000 (decimal_value digits) ≡ b → cond b (Err (fault TooMany line)) (done (digits, rest)) ≡ Ok x
    → (digits ≡ x.0) × (rest ≡ x.1) × (decimal_value digits ≤ 1000000000)
limited_by digits line rest x true is e = absurd (err_is_no_ok _ x (sym e))
limited_by digits line rest x false is e =
    let same = ok_is (digits, rest) x e in
    (ap (λ (y : List ℕ × Remainder). y.0) same, ap (λ (y : List ℕ × Remainder). y.1) same, ltb-false _ _ is)

limited_is : (p : Placed) (rest : Remainder) (o : Option (List ℕ)) (x : List ℕ × Remainder) → limited_from p rest o ≡ Ok x → (o ≡ Some x.0) × (rest ≡ x.1) × (decimal_value x.0 ≤ 1000000000)
limited_is p rest None x e = absurd (err_is_no_ok _ x (sym e))
limited_is p rest (Some digits) x e =
    let h = limited_by digits p.line rest x (nat_lt 1000000000 (decimal_value digits)) refl e in
    (ap (λ (w : List ℕ). Some w) h.0, h.1, subst (λ (w : List ℕ). decimal_value w ≤ 1000000000) h.0 h.2)

limited_takes : (s : Remainder) (x : List ℕ × Remainder) → limited_at s ≡ Ok x → Takes s (grammar.whole x.0) 0 x.1 × (decimal_value x.0 ≤ 1000000000)
unfolding limited_at
limited_takes s x e =
    let b = bind_ok (next_at s) (λ p. limited_from p.0 p.1 (as_whole p.0)) x e in
    let h = limited_is b.0.0 b.0.1 (as_whole b.0.0) x b.2 in
    (subst (λ (u : Remainder). Takes s (grammar.whole x.0) 0 u) h.1 (regrouped s _ _ 0 0 b.0.1 (wholes_classified.spelled b.0.0 x.0 h.0) refl (next_takes s b.0 b.1)), h.2)

-- what follows the [ of a range
abbrev pub bounds_text : grammar.Range → List Placed
bounds_text r = grammar.whole r.left ++ grammar.mark symbol.Colon ++ grammar.whole r.right ++ grammar.mark symbol.RightBracket

bounds_take : (s : Remainder) (x : grammar.Range × Remainder) → bounds_at s ≡ Ok x → Takes s (bounds_text x.0) 0 x.1 × IsRange x.0
unfolding bounds_at
bounds_take s x e =
    let a = bind_ok (limited_at s) _ x e in
    let b = bind_ok (mark_at symbol.Colon a.0.1) _ x a.2 in
    let c = bind_ok (limited_at b.0) _ x b.2 in
    let d = bind_ok (mark_at symbol.RightBracket c.0.1) _ x c.2 in
    let left = limited_takes s a.0 a.1 in
    let right = limited_takes b.0 c.0 c.1 in
    let made : grammar.Range × Remainder = (record { left = a.0.0; right = c.0.0 }, d.0) in
    let t1 = takes_then s (grammar.whole a.0.0) 0 a.0.1 (grammar.mark symbol.Colon) 0 b.0 left.0 (mark_takes symbol.Colon a.0.1 b.0 b.1) in
    let t2 = takes_then s _ 0 b.0 (grammar.whole c.0.0) 0 c.0.1 t1 right.0 in
    let t3 = takes_then s _ 0 c.0.1 (grammar.mark symbol.RightBracket) 0 d.0 t2 (mark_takes symbol.RightBracket c.0.1 d.0 d.1) in
    subst (λ (y : grammar.Range × Remainder). Takes s (bounds_text y.0) 0 y.1 × IsRange y.0) (ok_is made x d.2) (t3, record { left = left.1; right = right.1 })

abbrev pub HasRange : Remainder → Option grammar.Range × Remainder → Type 0
HasRange s x = Takes s (grammar.optional grammar.range x.0) 0 x.1 × IsMaybeRange x.0

range_by_takes : (s : Remainder) (b : Bool) (u : Remainder) (x : Option grammar.Range × Remainder) → Takes s (if_mark symbol.LeftBracket b) 0 u → range_by (b, u) ≡ Ok x → HasRange s x
range_by_takes s true u x t e =
    let r = bind_ok (bounds_at u) (λ r. Ok (Some r.0, r.1)) x e in
    let bounds = bounds_take u r.0 r.1 in
    subst (HasRange s) (ok_is (Some r.0.0, r.0.1) x r.2) (takes_then s (grammar.mark symbol.LeftBracket) 0 u (bounds_text r.0.0) 0 r.0.1 t bounds.0, bounds.1)
range_by_takes s false u x t e =
    let nothing : Option grammar.Range = None in
    subst (HasRange s) (ok_is (nothing, u) x e) (t, tt)

pub range_takes : (s : Remainder) (x : Option grammar.Range × Remainder) → range_at s ≡ Ok x → HasRange s x
unfolding range_at
range_takes s x e =
    let b = bind_ok (maybe_mark_at symbol.LeftBracket s) range_by x e in
    range_by_takes s b.0.0 b.0.1 x (maybe_mark_takes symbol.LeftBracket s b.0 b.1) b.2

-- ---- declarations

-- after the word of the role
abbrev pub declaration_rest : grammar.Declaration → List Placed
declaration_rest d = grammar.wire_word d.wire ++ grammar.optional grammar.range d.range ++ grammar.separated grammar.name d.names ++ grammar.mark symbol.Semicolon

abbrev Declared : ℕ → Role → Remainder → grammar.Declaration × Remainder → Type 0
Declared attributes r s y = Takes s (declaration_rest y.0) 0 y.1 × IsDeclaration y.0 × (y.0.role ≡ r) × (y.0.attributes ≡ attributes)

pub declaration_takes : (attributes : ℕ) (r : Role) (s : Remainder) (x : grammar.Declaration × Remainder) → declaration_at attributes r s ≡ Ok x
    → Takes s (declaration_rest x.0) 0 x.1 × IsDeclaration x.0 × (x.0.role ≡ r) × (x.0.attributes ≡ attributes)
unfolding declaration_at
declaration_takes attributes r s x e =
    let a = bind_ok (wire_at r s) _ x e in
    let b = bind_ok (range_at a.0.1) _ x a.2 in
    let c = bind_ok (names_at symbol.Semicolon b.0.1) _ x b.2 in
    let w = wire_takes r s a.0 a.1 in
    let range = range_takes a.0.1 b.0 b.1 in
    let list = names_take symbol.Semicolon b.0.1 c.0 c.1 in
    let made : grammar.Declaration × Remainder = (record { attributes = attributes; role = r; wire = a.0.0; range = b.0.0; names = c.0.0 }, c.0.1) in
    let t1 = takes_then s (grammar.wire_word a.0.0) 0 a.0.1 (grammar.optional grammar.range b.0.0) 0 b.0.1 w.0 range.0 in
    let whole = then_two s _ 0 b.0.1 (grammar.separated grammar.name c.0.0) (grammar.mark symbol.Semicolon) 0 c.0.1 t1 list.0 in
    subst (Declared attributes r s) (ok_is made x c.2) (whole, record { names = list.1; wire = w.1; range = range.1 }, refl, refl)

-- ---- ports

spelled_direction : (l : ℕ) (t : Token) (r : Role) → as_direction (placed_on l t) ≡ Some r → (plain (placed_on l t) ∷ [] ≡ grammar.role_word r) × ¬ (r ≡ role.Wire)
spelled_direction l (Reserved keyword.Input) r e = let same : role.Input ≡ r = cc in (ap (λ (q : Role). grammar.role_word q) same, λ is. let both : role.Input ≡ role.Wire = same ∙ is in cc)
spelled_direction l (Reserved keyword.Output) r e = let same : role.Output ≡ r = cc in (ap (λ (q : Role). grammar.role_word q) same, λ is. let both : role.Output ≡ role.Wire = same ∙ is in cc)
spelled_direction l (Reserved keyword.Wire) r e = absurd cc
spelled_direction l (Reserved keyword.Module) r e = absurd cc
spelled_direction l (Reserved keyword.EndModule) r e = absurd cc
spelled_direction l (Reserved (keyword.Gate k)) r e = absurd cc
spelled_direction l (Name w) r e = absurd cc
spelled_direction l (Escaped w) r e = absurd cc
spelled_direction l (Number n) r e = absurd cc
spelled_direction l (Constant b w) r e = absurd cc
spelled_direction l (Mark m) r e = absurd cc
spelled_direction l Attribute r e = absurd cc
spelled_direction l (Directs d w) r e = absurd cc
spelled_direction l (Outside w) r e = absurd cc

direction_takes : (s : Remainder) (x : Role × Remainder) → direction_at s ≡ Ok x → Takes s (grammar.role_word x.0) 0 x.1 × ¬ (x.0 ≡ role.Wire)
unfolding direction_at take_at
direction_takes s x e =
    let b = bind_ok (next_at s) (λ p. read_as (refused p.0) p.1 (as_direction p.0)) x e in
    let r = read_as_is (refused b.0.0) b.0.1 (as_direction b.0.0) x b.2 in
    let is = spelled_direction b.0.0.line b.0.0.token x.0 r.0 in
    (subst (λ (u : Remainder). Takes s (grammar.role_word x.0) 0 u) r.1 (regrouped s _ _ 0 0 b.0.1 is.0 refl (next_takes s b.0 b.1)), is.1)

abbrev HasHeader : Remainder → grammar.Header × Remainder → Type 0
HasHeader s y = Takes s (grammar.header y.0) 0 y.1 × IsHeader y.0

header_takes : (s : Remainder) (x : grammar.Header × Remainder) → header_at s ≡ Ok x → HasHeader s x
unfolding header_at
header_takes s x e =
    let a = bind_ok (attributes_at s) _ x e in
    let b = bind_ok (direction_at a.0.1) _ x a.2 in
    let c = bind_ok (wire_at b.0.0 b.0.1) _ x b.2 in
    let d = bind_ok (range_at c.0.1) _ x c.2 in
    let f = bind_ok (name_at d.0.1) _ x d.2 in
    let direction = direction_takes a.0.1 b.0 b.1 in
    let range = range_takes c.0.1 d.0 d.1 in
    let made : grammar.Header × Remainder = (record { attributes = a.0.0; role = b.0.0; wire = c.0.0; range = d.0.0; name = f.0.0 }, f.0.1) in
    let t1 = takes_then s (grammar.attributes a.0.0) 0 a.0.1 (grammar.role_word b.0.0) 0 b.0.1 (attributes_take s a.0 a.1) direction.0 in
    let t2 = takes_then s _ 0 b.0.1 (grammar.wire_word c.0.0) 0 c.0.1 t1 (wire_takes b.0.0 b.0.1 c.0 c.1).0 in
    let t3 = takes_then s _ 0 c.0.1 (grammar.optional grammar.range d.0.0) 0 d.0.1 t2 range.0 in
    let t4 = takes_then s _ 0 d.0.1 (grammar.name f.0.0) 0 f.0.1 t3 (name_takes d.0.1 f.0 f.1) in
    subst (HasHeader s) (ok_is made x f.2) (t4, record { role = direction.1; range = range.1 })

-- ---- the port list

abbrev pub IsHeaded : grammar.Port → Type 0
IsHeaded (grammar.Bare n) = ⊥
IsHeaded (grammar.Headed h) = Unit {0}

abbrev pub HeadedIf : Bool → grammar.Port → Type 0
HeadedIf true p = IsHeaded p
HeadedIf false p = Unit {0}

-- the first port is declared
abbrev pub PortAt : ℕ → grammar.Port → Type 0
PortAt k p = IsPort p × HeadedIf (k == 0) p

abbrev HasPort : Bool → Remainder → grammar.Port × Remainder → Type 0
HasPort first s y = Takes s (grammar.port y.0) 0 y.1 × IsPort y.0 × HeadedIf first y.0

headed_if : (first : Bool) (h : grammar.Header) → HeadedIf first (grammar.Headed h)
headed_if true h = tt
headed_if false h = tt

headed_takes : (first : Bool) (s : Remainder) (x : grammar.Port × Remainder) → headed_at s ≡ Ok x → HasPort first s x
unfolding headed_at
headed_takes first s x e =
    let h = bind_ok (header_at s) (λ h. Ok (grammar.Headed h.0, h.1)) x e in
    let t = header_takes s h.0 h.1 in
    subst (HasPort first s) (ok_is (grammar.Headed h.0.0, h.0.1) x h.2) (t.0, t.1, headed_if first h.0.0)

-- the same after nothing
headed_behind : (s mid : Remainder) (x : grammar.Port × Remainder) → Takes s [] 0 mid → headed_at mid ≡ Ok x → HasPort false s x
headed_behind s mid x nothing e =
    let t = headed_takes false mid x e in
    (takes_then s [] 0 mid (grammar.port x.0) 0 x.1 nothing t.0, t.1, tt)

port_by_takes : (s : Remainder) (o : Option grammar.Name) (u : Remainder) (x : grammar.Port × Remainder) → Takes s (grammar.optional grammar.name o) 0 u → port_by (o, u) ≡ Ok x → HasPort false s x
port_by_takes s (Some n) u x t e = subst (HasPort false s) (ok_is (grammar.Bare n, u) x e) (t, tt, tt)
port_by_takes s None u x t e = headed_behind s u x t e

port_takes_by : (s : Remainder) (b : Bool) (x : grammar.Port × Remainder) → cond b (headed_at s) (maybe_at as_name s >>= port_by) ≡ Ok x → HasPort b s x
port_takes_by s true x e = headed_takes true s x e
port_takes_by s false x e =
    let n = bind_ok (maybe_at as_name s) port_by x e in
    port_by_takes s n.0.0 n.0.1 x (maybe_takes as_name grammar.name names_classified s n.0 n.1) n.2

port_takes : (k : ℕ) (s : Remainder) (x : grammar.Port × Remainder) → port_at k s ≡ Ok x → HasPort (k == 0) s x
unfolding port_at
port_takes k s x e = port_takes_by s (k == 0) x e

pub port_member : MemberTakes port_step grammar.port PortAt PortAt no_gates no_gates (grammar.mark symbol.Close)
unfolding port_step
port_member = record {
  more = λ k s a rest e.
      let m = bind_ok (port_at k s) (λ p. behind symbol.Close p.0 p.1) (More a, rest) e in
      let p = port_takes k s m.0 m.1 in
      let b = behind_more grammar.port symbol.Close s m.0.0 0 m.0.1 a rest p.0 m.2 in
      (b.1, subst (PortAt k) b.0 (p.1, p.2));
  final = λ k s a rest e.
      let m = bind_ok (port_at k s) (λ p. behind symbol.Close p.0 p.1) (Final a, rest) e in
      let p = port_takes k s m.0 m.1 in
      let b = behind_final grammar.port symbol.Close s m.0.0 0 m.0.1 a rest p.0 m.2 in
      (b.1, subst (PortAt k) b.0 (p.1, p.2));
  never = λ k s rest e.
      let m = bind_ok (port_at k s) (λ p. behind symbol.Close p.0 p.1) (Done, rest) e in
      behind_never symbol.Close m.0.0 m.0.1 rest m.2;
}

pub ports_shorten : Shortens port_step
ports_shorten = list_shortens port_step grammar.port PortAt PortAt no_gates no_gates (grammar.mark symbol.Close) port_member

ports_hold : (k : ℕ) (ps : List grammar.Port) → AllFrom PortAt PortAt k ps → AllByRecursion IsPort ps
ports_hold k [] h = absurd h
ports_hold k (p ∷ []) h = (h.0, tt)
ports_hold k (p ∷ q ∷ qs) h = (h.0.0, ports_hold (k + 1) (q ∷ qs) h.1)

headed_first : (p : grammar.Port) (ps : List grammar.Port) → IsHeaded p → BeginsHeaded (p ∷ ps)
headed_first (grammar.Bare n) ps h = h
headed_first (grammar.Headed g) ps h = tt

ports_begin : (ps : List grammar.Port) → AllFrom PortAt PortAt 0 ps → BeginsHeaded ps
ports_begin [] h = h
ports_begin (p ∷ []) h = headed_first p [] h.1
ports_begin (p ∷ q ∷ qs) h = headed_first p (q ∷ qs) h.0.1

abbrev HasList : Remainder → grammar.Ports × Remainder → Type 0
HasList s y = Takes s (grammar.port_list y.0 ++ grammar.mark symbol.Close) 0 y.1 × ArePorts (Some y.0)

listed_in : (s : Remainder) (b : Bool) (x : grammar.Ports × Remainder) → cond b (many port_step s >>= λ ports. Ok (grammar.Declared ports.0, ports.1)) (names_at symbol.Close s >>= λ names. Ok (grammar.Names names.0, names.1)) ≡ Ok x → HasList s x
listed_in s true x e =
    let l = bind_ok (many port_step s) (λ ports. Ok (grammar.Declared ports.0, ports.1)) x e in
    let list = list_takes port_step grammar.port PortAt PortAt no_gates no_gates (grammar.mark symbol.Close) port_member 0 s l.0 l.1 in
    subst (HasList s) (ok_is (grammar.Declared l.0.0, l.0.1) x l.2) (regrouped s _ _ _ 0 l.0.1 refl (any_gates 0 l.0.0) list.takes, (ports_begin l.0.0 list.holds, ports_hold 0 l.0.0 list.holds))
listed_in s false x e =
    let l = bind_ok (names_at symbol.Close s) (λ names. Ok (grammar.Names names.0, names.1)) x e in
    subst (HasList s) (ok_is (grammar.Names l.0.0, l.0.1) x l.2) ((names_take symbol.Close s l.0 l.1).0, tt)

listed_takes : (s : Remainder) (x : grammar.Ports × Remainder) → listed_at s ≡ Ok x → HasList s x
unfolding listed_at
listed_takes s x e =
    let b = bind_ok (next_at s) (λ p. cond (is_heading p.0) (many port_step s >>= λ ports. Ok (grammar.Declared ports.0, ports.1)) (names_at symbol.Close s >>= λ names. Ok (grammar.Names names.0, names.1))) x e in
    listed_in s (is_heading b.0.0) x b.2

listed_by : (s : Remainder) (b : Bool) (u : Remainder) (x : grammar.Ports × Remainder) → Takes s (if_mark symbol.Close b) 0 u → listed (b, u) ≡ Ok x → HasList s x
unfolding grammar.separated
listed_by s true u x closes e =
    let empty = grammar.Names [] in
    subst (HasList s) (ok_is (empty, u) x e) (closes, tt)
listed_by s false u x closes e =
    let l = listed_takes u x e in
    (takes_then s [] 0 u _ 0 x.1 closes l.0, l.1)

abbrev HasPorts : Remainder → Option grammar.Ports × Remainder → Type 0
HasPorts s x = Takes s (grammar.ports x.0) 0 x.1 × ArePorts x.0

ports_by_takes : (s : Remainder) (b : Bool) (u : Remainder) (x : Option grammar.Ports × Remainder) → Takes s (if_mark symbol.Open b) 0 u → ports_by (b, u) ≡ Ok x → HasPorts s x
ports_by_takes s true u x opens e =
    let p = bind_ok (maybe_mark_at symbol.Close u >>= listed) (λ ports. Ok (Some ports.0, ports.1)) x e in
    let b = bind_ok (maybe_mark_at symbol.Close u) listed p.0 p.1 in
    let l = listed_by u b.0.0 b.0.1 p.0 (maybe_mark_takes symbol.Close u b.0 b.1) b.2 in
    subst (HasPorts s) (ok_is (Some p.0.0, p.0.1) x p.2) (then_two s (grammar.mark symbol.Open) 0 u (grammar.port_list p.0.0) (grammar.mark symbol.Close) 0 p.0.1 opens l.0, l.1)
ports_by_takes s false u x opens e =
    let nothing : Option grammar.Ports = None in
    subst (HasPorts s) (ok_is (nothing, u) x e) (opens, tt)

pub ports_take : (s : Remainder) (x : Option grammar.Ports × Remainder) → ports_at s ≡ Ok x → Takes s (grammar.ports x.0) 0 x.1 × ArePorts x.0
unfolding ports_at
ports_take s x e =
    let b = bind_ok (maybe_mark_at symbol.Open s) ports_by x e in
    ports_by_takes s b.0.0 b.0.1 x (maybe_mark_takes symbol.Open s b.0 b.1) b.2
