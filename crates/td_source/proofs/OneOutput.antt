-- One output of a circuit can be asked about alone, and all of them afterwards.
use Rattle.std.proofs.Common.{◌≡◌, ◌<◌, ◌+◌, ◌∙◌, ℕ, suc, List, [], ◌∷◌, ◌++◌, length, take, map, refl, sym, ap, subst, arith, Some, slice_get, slice_index_or, option_map}
use Rattle.std.specs.List.{Contains}
use Rattle.std.proofs.lemmas.List.{length-map, map-append}
use Rattle.std.proofs.lemmas.Option.{slice_get-map, slice_get_read}
use Rattle.td_gates.proofs.Places.{some-same, slice_get-some, slice_get-Contains, Contains-slice_get, slice_get-map_some, take_push}
use Rattle.td_nets.specs.declared.name.Name as code_name
use Rattle.td_nets.specs.Netlist.{Name, Net, Named}
use Rattle.td_nets.specs.Views.{name_of}
use Rattle.td_nets.specs.WellFormed.{gate_outputs}
use Rattle.td_circuit.specs.Numbering.{Numbered, CanBeAsked, nets, with_named_outputs}

only_zero : (i : ℕ) → i < 1 → i ≡ 0
only_zero i within = omega arith

first_place : {A : Type 0} (x y : A) (i : ℕ) → slice_get (x ∷ []) i ≡ Some y → i ≡ 0
first_place x y i at = only_zero i (slice_get-some (x ∷ []) i y at)

the_first : {A : Type 0} (x y : A) (i : ℕ) → slice_get (x ∷ []) i ≡ Some y → x ≡ y
the_first {A} x y i at = some-same x y (subst (λ (k : ℕ). slice_get (x ∷ []) k ≡ Some y) (first_place x y i at) at)

-- what stands at a place that was read stands there by its name, too
pub named_there : (xs : List code_name.Name) (place : ℕ) (kept : code_name.Name) → place < length xs → kept ≡ slice_index_or xs place kept
    → slice_get (map name_of xs) place ≡ Some (name_of kept)
named_there xs place kept within read =
    slice_get-map name_of xs place ∙ ap (option_map name_of) (slice_get_read xs (length xs) place kept refl within read)

pub one_can : (circuit : Numbered) (names : List Name) (numbers : List ℕ) (i : ℕ) (name : Name) (number : ℕ) → CanBeAsked circuit names numbers
    → slice_get names i ≡ Some name → slice_get numbers i ≡ Some number → CanBeAsked circuit (name ∷ []) (number ∷ [])
one_can circuit names numbers i name number can at at_number =
    let there = can.named.each i number (Named name) at_number (slice_get-map_some (λ n. Named n) names i name at) in
    record {
      outputs = record {
        driven = λ other stands.
            let place = Contains-slice_get (name ∷ []) other stands in
            subst (λ (n : Name). Contains (gate_outputs circuit.netlist) n) (the_first name other place.0 place.1)
            (can.outputs.driven name (slice_get-Contains names i name at));
        distinct = λ j k other first second. first_place name other j first ∙ sym (first_place name other k second);
      };
      named = record {
        count = refl;
        each = λ j n net at_n at_net.
            subst (λ (m : ℕ). slice_get (nets circuit) m ≡ Some net) (the_first number n j at_n)
            (there ∙ ap (λ (x : Net). Some x) (the_first (Named name) net j at_net));
      };
    }

-- the outputs that it had can be asked about whatever was asked about since
pub can_again : (circuit : Numbered) (names others : List Name) (numbers more : List ℕ) → CanBeAsked circuit names numbers
    → CanBeAsked (with_named_outputs circuit others more) names numbers
can_again circuit names others numbers more can = record {
  outputs = record { driven = can.outputs.driven; distinct = can.outputs.distinct };
  named = can.named;
}

-- one name more
pub names_more : (outputs : List Name) (i : ℕ) (name : Name) (names new : List code_name.Name) (copied : code_name.Name) → slice_get outputs i ≡ Some name
    → map name_of names ≡ take i outputs → new ≡ names ++ copied ∷ [] → name_of copied ≡ name → map name_of new ≡ take (i + 1) outputs
names_more outputs i name names new copied at so_far added same =
    let next : i + 1 ≡ suc i = omega arith in
    ap (map name_of) added ∙ map-append name_of names (copied ∷ []) ∙ ap (λ (ns : List Name). ns ++ name_of copied ∷ []) so_far
    ∙ ap (λ (n : Name). take i outputs ++ n ∷ []) same ∙ sym (ap (λ (n : ℕ). take n outputs) next ∙ take_push outputs i name at)
