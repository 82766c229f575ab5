-- What a terminal is joined to, by what is known of its name.
use Rattle.std.proofs.Common.{◌≡◌, ℕ, true, false, List, [], ◌∷◌, ◌++◌, None, Ok, Err, refl, sym, ap, subst, ◌∙◌, append_assoc, ◌⊎◌, inl, inr}
use Rattle.std.specs.List.{Contains, flat_map}
use Rattle.std.proofs.lemmas.List.{append-nil, map-append}
use Rattle.std.proofs.lemmas.Grind.{flat_map-append}
use Rattle.std.proofs.lemmas.List.Concat.{flat_map-cons}
use Rattle.td_syntax.specs.Grammar as grammar
use Rattle.td_syntax.specs.Grammar.{decimal_value}
use Rattle.td_netlist.specs.declared.fault.FaultKind.TheVariants as kind
use Rattle.td_netlist.specs.declared.fault.Fault.{Fault}
use Rattle.td_nets.specs.Netlist.{Name, Net}
use Rattle.td_netlist.specs.Faults.{fault}
use Rattle.td_netlist.specs.PlacedNets.{line_of, plain_name}
use Rattle.td_netlist.specs.Module.{scalar, names_of, declarations, range_in, whole_source, bit_source, Source, Joins, NoBit, NotOne, source_of, net_from, net_of}
use Rattle.td_netlist.specs.Means.{JoinsNet}
use Rattle.td_netlist.specs.Checks.{Known, joined, resolve, meet, Drivers, seen}
use Rattle.td_netlist.proofs.Members.{in_front}
use Rattle.td_netlist.proofs.Steps.{ok_both, err_either}
use Rattle.td_netlist.proofs.Knowing.{named, known_none, in_different, AreKnown, range_is_known, knows_one}
use Rattle.td_netlist.proofs.Declaring.{all_names, range_none}

pub same_line : (t : grammar.Terminal) → line_of t ≡ line_of t
same_line (grammar.Whole n) = refl
same_line (grammar.Select n digits) = refl
same_line (grammar.Level b) = refl

-- ---- by what is known

-- The names of the declarations are known, and others after them.
abbrev pub KnowsModule : grammar.Module → List Known → List Name → Type 0
KnowsModule m ks others = AreKnown ks (all_names (declarations m) ++ others) (range_in m)

pub undeclared_scalar : (m : grammar.Module) (others : List Name) (text : List ℕ) → ¬ Contains (all_names (declarations m) ++ others) (named text) → range_in m text ≡ None
undeclared_scalar m others text missing = range_none (declarations m) text (λ has. missing (in_front (named text) (all_names (declarations m)) others has))

pub resolved : (m : grammar.Module) (ks : List Known) (others : List Name) → KnowsModule m ks others → (t : grammar.Terminal) → resolve ks t ≡ joined (line_of t) (source_of m t)
unfolding resolve
resolved m ks others keeps (grammar.Whole n) =
    ap (λ (range : _). joined n.line (whole_source n.name range)) (range_is_known ks (all_names (declarations m) ++ others) (range_in m) keeps (undeclared_scalar m others) n.name)
resolved m ks others keeps (grammar.Select n digits) =
    ap (λ (range : _). joined n.line (bit_source n.name (decimal_value digits) range)) (range_is_known ks (all_names (declarations m) ++ others) (range_in m) keeps (undeclared_scalar m others) n.name)
resolved m ks others keeps (grammar.Level false) = refl
resolved m ks others keeps (grammar.Level true) = refl

joined_ok : (line : ℕ) (why : Source) (net : Net) → joined line why ≡ Ok net → why ≡ Joins net
joined_ok line (Joins x) net e = let same : x ≡ net = cc in ap (λ (y : Net). Joins y) same
joined_ok line NoBit net e = absurd cc
joined_ok line NotOne net e = absurd cc

pub is_joined_to : (why : Source) (net : Net) → why ≡ Joins net → JoinsNet why
is_joined_to why net e = subst JoinsNet (sym e) tt

-- what it is joined to
pub source_is : (m : grammar.Module) (ks : List Known) (others : List Name) → KnowsModule m ks others → (t : grammar.Terminal) (net : Net) → resolve ks t ≡ Ok net → source_of m t ≡ Joins net
source_is m ks others keeps t net e = joined_ok (line_of t) (source_of m t) net (sym (resolved m ks others keeps t) ∙ e)

pub resolved_ok : (m : grammar.Module) (ks : List Known) (others : List Name) → KnowsModule m ks others → (t : grammar.Terminal) → JoinsNet (source_of m t) → resolve ks t ≡ Ok (net_of m t)
resolved_ok m ks others keeps t is = resolved m ks others keeps t ∙ by (source_of m t) is
  where
    by : (why : Source) → JoinsNet why → joined (line_of t) why ≡ Ok (net_from why)
    by (Joins net) is = refl
    by NoBit is = absurd is
    by NotOne is = absurd is

-- ---- a terminal that is seen

-- what seeing it gives
pub record Sees (s : Drivers) (t : grammar.Terminal) (net : Net) (u : Drivers) : Type 0 where
  pub resolves : resolve s.names t ≡ Ok net
  pub meets : meet s.names t ≡ Ok u.names
  pub same_driven : u.driven ≡ s.driven

pub seen_ok : (s : Drivers) (t : grammar.Terminal) (x : Net × Drivers) → seen s t ≡ Ok x → Sees s t x.0 x.1
unfolding seen
seen_ok s t x e =
    let a = ok_both (resolve s.names t) _ x e in
    let b = ok_both (meet s.names t) _ x a.2 in
    let pair : (a.0, record { driven = s.driven; names = b.0 }) ≡ x = cc in
    record {
      resolves = a.1 ∙ ap (λ (y : Net × Drivers). Ok y.0) pair;
      meets = b.1 ∙ ap (λ (y : Net × Drivers). Ok y.1.names) pair;
      same_driven = ap (λ (y : Net × Drivers). y.1.driven) (sym pair);
    }

pub seen_err : (s : Drivers) (t : grammar.Terminal) (f : Fault) → seen s t ≡ Err f → (resolve s.names t ≡ Err f) ⊎ (meet s.names t ≡ Err f)
unfolding seen
seen_err s t f e = elim (err_either (resolve s.names t) _ f e) [
  | inl here ↦ inl here
  | inr past ↦ elim (err_either (meet s.names t) _ f past.2) [
    | inl here ↦ inr here
    | inr more ↦ absurd cc
  ]
]

-- why it is joined to nothing
pub data Unjoined (why : Source) (line : ℕ) (f : Fault) : Type 0 where
  HasNoBit : why ≡ NoBit → f.kind ≡ kind.UnknownBit → line ≡ f.line → Unjoined why line f
  IsNotOne : why ≡ NotOne → f.kind ≡ kind.WidthNotOne → line ≡ f.line → Unjoined why line f

joined_err : (line : ℕ) (why : Source) (f : Fault) → joined line why ≡ Err f → Unjoined why line f
joined_err line (Joins x) f e = absurd cc
joined_err line NoBit f e = let same : fault kind.UnknownBit line ≡ f = cc in HasNoBit refl (ap (λ (g : Fault). g.kind) (sym same)) (ap (λ (g : Fault). g.line) same)
joined_err line NotOne f e = let same : fault kind.WidthNotOne line ≡ f = cc in IsNotOne refl (ap (λ (g : Fault). g.kind) (sym same)) (ap (λ (g : Fault). g.line) same)

pub unjoined : (m : grammar.Module) (ks : List Known) (others : List Name) → KnowsModule m ks others → (t : grammar.Terminal) (f : Fault) → resolve ks t ≡ Err f → Unjoined (source_of m t) (line_of t) f
unjoined m ks others keeps t f e = joined_err (line_of t) (source_of m t) f (sym (resolved m ks others keeps t) ∙ e)

-- ---- names that are met

abbrev pub plain_names : List grammar.Terminal → List Name
plain_names ts = names_of (flat_map plain_name ts)

pub plain_push : (ts : List grammar.Terminal) (t : grammar.Terminal) → plain_names (ts ++ t ∷ []) ≡ plain_names ts ++ names_of (plain_name t)
plain_push ts t =
    ap names_of (flat_map-append plain_name ts (t ∷ []) ∙ ap (λ (ns : List grammar.Name). flat_map plain_name ts ++ ns) (flat_map-cons plain_name t [] ∙ append-nil (plain_name t)))
    ∙ map-append scalar (flat_map plain_name ts) (plain_name t)

pub met : (m : grammar.Module) (ks u : List Known) (ts : List grammar.Terminal) (t : grammar.Terminal) → KnowsModule m ks (plain_names ts) → meet ks t ≡ Ok u → KnowsModule m u (plain_names (ts ++ t ∷ []))
met m ks u ts t keeps e =
    subst (λ (ns : List Name). AreKnown u ns (range_in m))
    (append_assoc (all_names (declarations m)) (plain_names ts) (names_of (plain_name t)) ∙ ap (λ (ns : List Name). all_names (declarations m) ++ ns) (sym (plain_push ts t)))
    (by t e)
  where
    names : List Name
    names = all_names (declarations m) ++ plain_names ts

    nothing_new : ks ≡ u → AreKnown u (names ++ []) (range_in m)
    nothing_new same = subst (λ (js : List Known). AreKnown js (names ++ []) (range_in m)) same (subst (λ (ns : List Name). AreKnown ks ns (range_in m)) (sym (append-nil names)) keeps)

    by : (t : grammar.Terminal) → meet ks t ≡ Ok u → AreKnown u (names ++ names_of (plain_name t)) (range_in m)
    by (grammar.Whole n) e =
        knows_one ks names (range_in m) keeps (range_in m) (λ k has. refl) n u None e
        (λ unknown. sym (undeclared_scalar m (plain_names ts) n.name (λ has. known_none ks n.name unknown (subst (λ (ns : List Name). Contains ns (named n.name)) (sym keeps.are) (in_different names (named n.name) has)))))
    by (grammar.Select n digits) e = let same : ks ≡ u = cc in nothing_new same
    by (grammar.Level b) e = let same : ks ≡ u = cc in nothing_new same
