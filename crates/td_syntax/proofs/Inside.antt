-- A module is spelled by tokens of the grammar alone.
use Rattle.std.proofs.Common.{◌≡◌, ℕ, Bool, true, false, List, [], ◌∷◌, ◌++◌, Option, None, Some, Err, refl, replicate}
use Rattle.std.specs.Prelude.{◌&&◌}
use Rattle.std.specs.List.{list_all, flat_map}
use Rattle.std.proofs.lemmas.List.Concat.{flat_map-cons}
use Rattle.td_syntax.specs.declared.token.Symbol.TheVariants as symbol
use Rattle.td_syntax.specs.declared.syntax.Role.{Role}
use Rattle.td_syntax.specs.declared.syntax.Role.TheVariants as role
use Rattle.td_syntax.specs.declared.syntax.Front.{Front}
use Rattle.td_syntax.specs.declared.syntax.Front.TheVariants as fronts
use Rattle.td_syntax.specs.Token.{Token, Directs, Outside, Placed}
use Rattle.td_syntax.specs.Grammar as grammar

-- whether the grammar has the token
abbrev pub is_inside : Token → Bool
is_inside (Directs (Err e) w) = false
is_inside (Outside w) = false
is_inside t = true

pub record Inside (ts : List Placed) : Type 0 where
  pub all : list_all (λ (p : Placed). is_inside p.token) ts ≡ true

behind : (b c d : Bool) → (b && c) ≡ true → (c ≡ true → d ≡ true) → (b && d) ≡ true
behind true c d e more = more e
behind false c d e more = absurd cc

both_by : (xs ys : List Placed) → list_all (λ (p : Placed). is_inside p.token) xs ≡ true → Inside ys → list_all (λ (p : Placed). is_inside p.token) (xs ++ ys) ≡ true
both_by [] ys p q = q.all
both_by (x ∷ xs) ys p q = behind (is_inside x.token) _ _ p (λ e. both_by xs ys e q)

both : {xs ys : List Placed} → Inside xs → Inside ys → Inside (xs ++ ys)
both {xs} {ys} p q = record { all = both_by xs ys p.all q }

each : {A : Type 0} (spell : A → List Placed) → ((x : A) → Inside (spell x)) → (xs : List A) → Inside (flat_map spell xs)
each spell one [] = record { all = refl }
each spell one (x ∷ xs) = rw (flat_map-cons spell x xs) (both (one x) (each spell one xs))

separated : {A : Type 0} (spell : A → List Placed) → ((x : A) → Inside (spell x)) → (xs : List A) → Inside (grammar.separated spell xs)
unfolding grammar.separated
separated spell one [] = record { all = refl }
separated spell one (x ∷ []) = one x
separated spell one (x ∷ y ∷ ys) = both (both (one x) record { all = refl }) (separated spell one (y ∷ ys))

optional : {A : Type 0} (spell : A → List Placed) → ((x : A) → Inside (spell x)) → (o : Option A) → Inside (grammar.optional spell o)
optional spell one None = record { all = refl }
optional spell one (Some x) = one x

attributes : (n : ℕ) → Inside (grammar.attributes n)
attributes n = each grammar.attribute (λ _. record { all = refl }) (replicate n tt)

role_word : (r : Role) → Inside (grammar.role_word r)
role_word role.Input = record { all = refl }
role_word role.Output = record { all = refl }
role_word role.Wire = record { all = refl }

wire_word : (w : Bool) → Inside (grammar.wire_word w)
wire_word true = record { all = refl }
wire_word false = record { all = refl }

-- what stands before the names of a declaration
head : (n : ℕ) (r : Role) (w : Bool) (range : Option grammar.Range) → Inside (grammar.attributes n ++ grammar.role_word r ++ grammar.wire_word w ++ grammar.optional grammar.range range)
head n r w range = both (both (both (attributes n) (role_word r)) (wire_word w)) (optional grammar.range (λ _. record { all = refl }) range)

port : (p : grammar.Port) → Inside (grammar.port p)
port (grammar.Bare n) = record { all = refl }
port (grammar.Headed h) = both (head h.attributes h.role h.wire h.range) record { all = refl }

port_list : (ps : grammar.Ports) → Inside (grammar.port_list ps)
port_list (grammar.Names ns) = separated grammar.name (λ _. record { all = refl }) ns
port_list (grammar.Declared ps) = separated grammar.port port ps

ports : (ps : Option grammar.Ports) → Inside (grammar.ports ps)
ports None = record { all = refl }
ports (Some ps) =
    let open_ : Inside (grammar.mark symbol.Open) = record { all = refl } in
    let close : Inside (grammar.mark symbol.Close) = record { all = refl } in
    both {xs = grammar.mark symbol.Open ++ grammar.port_list ps} {ys = grammar.mark symbol.Close} (both {xs = grammar.mark symbol.Open} {ys = grammar.port_list ps} open_ (port_list ps)) close

delay : (d : Option grammar.Delay) → Inside (grammar.delay d)
delay None = record { all = refl }
delay (Some (grammar.Plain n)) = record { all = refl }
delay (Some (grammar.Single n)) = record { all = refl }
delay (Some (grammar.RiseFall n m)) = record { all = refl }

terminal : (t : grammar.Terminal) → Inside (grammar.terminal t)
terminal (grammar.Whole n) = record { all = refl }
terminal (grammar.Select n digits) = record { all = refl }
terminal (grammar.Level b) = record { all = refl }

instance : (i : grammar.Instance) → Inside (grammar.instance i)
instance i = both (both (both (optional grammar.name (λ _. record { all = refl }) i.name) record { all = refl }) (separated grammar.terminal terminal i.terminals)) record { all = refl }

item : (i : grammar.Item) → Inside (grammar.item i)
item (grammar.Declares d) = both (both (head d.attributes d.role d.wire d.range) (separated grammar.name (λ _. record { all = refl }) d.names)) record { all = refl }
item (grammar.Gates s) = both (both (both (both (attributes s.attributes) record { all = refl }) (delay s.delay)) (separated grammar.instance instance s.instances)) record { all = refl }

front : (f : Front) → Inside (grammar.front f)
front fronts.Attributed = record { all = refl }
front (fronts.Directed d) = record { all = refl }

pub module_inside : (m : grammar.Module) → Inside (grammar.module_tokens m)
module_inside m =
    both (both (both (both (both (both (both (each grammar.front front m.fronts) record { all = refl }) record { all = refl }) (ports m.ports)) record { all = refl }) (each grammar.item item m.items)) record { all = refl })
    (each grammar.directed (λ _. record { all = refl }) m.behind)
