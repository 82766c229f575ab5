-- Nets that words name, one word after the other.
use Rattle.std.proofs.Common.{◌≡◌, ◌∙◌, ℕ, zero, suc, ◌+◌, ◌<◌, ◌≤◌, ◌==◌, Bool, true, false, List, [], ◌∷◌, ◌++◌, length, map, take, drop, get_or, arith, refl, sym, ap, subst, inl, inr}
use Rattle.std.specs.Prelude.{Option, Some, None, IfSome, IfNone, if◌then◌else◌}
use Rattle.std.specs.Borrow.{Bor}
use Rattle.std.specs.List.{Contains, list_any}
use Rattle.std.proofs.lemmas.List.{map-append, take_more, drop_all}
use Rattle.td_nets.specs.Netlist.{Named}
use Rattle.td_circuit.specs.Numbering.{Numbered, IsNumbering}
use Rattle.td_spans.specs.Lookups.{net_named}
use Rattle.td_refutation.proofs.Asking.{net_is_at}
use Rattle.td_question.specs.Keeping.{IsFirstNet, HasNoNet}
use Rattle.td_question.specs.Found.{number_in, IsFound, AreFound}
use Rattle.td_question.specs.Choosing.{with_net, NamesNet, AreAdded, AreChosen, IsUnnamed, AreAllIn}
use Rattle.td_question.proofs.NetNames.{net_low, net_there}

abbrev pub now_of : Bor (List ℕ) → List ℕ
now_of word = word.now

-- ---- the names of words

all_more : (words old new : List (List ℕ)) (word : List ℕ) → AreAllIn words old → ((other : List ℕ) → Contains old other → Contains new other)
    → Contains new word → AreAllIn (words ++ word ∷ []) new
all_more [] old new word are kept added = (added, tt)
all_more (w ∷ words) old new word are kept added = (kept w are.0, all_more words old new word are.1 kept added)

pub names_more : (words : List (Bor (List ℕ))) (old new : List (List ℕ)) (i : ℕ) (word : Bor (List ℕ)) → i < length words
    → AreAllIn (map now_of (take i words)) old → ((other : List ℕ) → Contains old other → Contains new other)
    → Contains new (get_or words i word).now → AreAllIn (map now_of (take (i + 1) words)) new
names_more words old new i word low are kept added =
    subst (λ (ws : List (List ℕ)). AreAllIn ws new)
    (sym (ap (map now_of) (take_more words i word low) ∙ map-append now_of (take i words) (get_or words i word ∷ [])))
    (all_more (map now_of (take i words)) old new (get_or words i word).now are kept added)

pub all_has : (words : List (Bor (List ℕ))) (names : List (List ℕ)) (i : ℕ) (word : Bor (List ℕ)) → i < length words
    → AreAllIn (map now_of words) names → Contains names (get_or words i word).now
all_has [] names i word low are = absurd (omega (arith, low))
all_has (w ∷ words) names zero word low are = are.0
all_has (w ∷ words) names (suc i) word low are = all_has words names i word (omega (arith, low)) are.1

-- ---- the net of a name

module _ (circuit : Numbered) (numbering : IsNumbering circuit) (names : List (List ℕ)) (numbers : List (Option ℕ)) (name : List ℕ)
    (there : Contains names name) (found : AreFound circuit.netlist names numbers) where
  first_is : (number : ℕ) → number_in names numbers name ≡ Some number → IsFirstNet circuit.netlist name number
  first_is number is = subst (IsFound circuit.netlist name) is (found name there)

  pub net_is : (number : ℕ) (net : Option ℕ) → number_in names numbers name ≡ Some number → net ≡ net_named circuit number
      → IfSome net (NamesNet circuit name)
  net_is number None is same = tt
  net_is number (Some net) is same =
      let first = first_is number is in
      let it = net_is_at circuit numbering number net (sym same) in
      record { number = number; first = first; stands = it.here ∙ sym it.there ∙ first.stands }

  pub net_not : (number : ℕ) (net : Option ℕ) → number_in names numbers name ≡ Some number → net ≡ net_named circuit number
      → IfNone net (HasNoNet circuit.netlist name)
  net_not number None is same =
      let first = first_is number is in
      absurd (net_there circuit numbering number (net_low circuit.netlist number (Named first.net) first.stands) (sym same))
  net_not number (Some net) is same = tt

  pub none_is : number_in names numbers name ≡ None → HasNoNet circuit.netlist name
  none_is is = subst (IsFound circuit.netlist name) is (found name there)

-- ---- each once

pub with_same : (old seen : List ℕ) (net : ℕ) → seen ≡ old → list_any (λ number. number == net) seen ≡ true → old ≡ with_net old net
with_same old seen net is any = by_any (list_any (λ number. number == net) old) (ap (list_any (λ number. number == net)) (sym is) ∙ any)
  where
    by_any : (b : Bool) → b ≡ true → old ≡ (if b then old else (old ++ net ∷ []))
    by_any true e = refl
    by_any false e = absurd cc

pub with_more : (old seen new : List ℕ) (net : ℕ) → seen ≡ old → list_any (λ number. number == net) seen ≡ false → new ≡ old ++ net ∷ []
    → new ≡ with_net old net
with_more old seen new net is any added = by_any (list_any (λ number. number == net) old) (ap (list_any (λ number. number == net)) (sym is) ∙ any)
  where
    by_any : (b : Bool) → b ≡ false → new ≡ (if b then old else (old ++ net ∷ []))
    by_any true e = absurd cc
    by_any false e = added

-- ---- the nets of words

-- the nets of the words before this place
pub record IsChosenTo (circuit : Numbered) (words : List (Bor (List ℕ))) (i : ℕ) (nets : List ℕ) : Type 0 where
  pub chosen : (numbers : List ℕ) → AreAdded circuit nets (map now_of (drop i words)) numbers → AreChosen circuit (map now_of words) numbers
  pub unnamed : (word : List ℕ) → IsUnnamed circuit (map now_of (drop i words)) word → IsUnnamed circuit (map now_of words) word

pub chosen_none : (circuit : Numbered) (words : List (Bor (List ℕ))) (nets : List ℕ) → nets ≡ [] → IsChosenTo circuit words 0 nets
chosen_none circuit words nets none =
    subst (λ (before : List ℕ). IsChosenTo circuit words 0 before) (sym none) (record { chosen = λ numbers are. are; unnamed = λ word is. is })

drop_next : (words : List (Bor (List ℕ))) (i : ℕ) (word : Bor (List ℕ)) → i < length words
    → map now_of (drop i words) ≡ (get_or words i word).now ∷ map now_of (drop (suc i) words)
drop_next [] i word low = absurd (omega (arith, low))
drop_next (w ∷ words) zero word low = refl
drop_next (w ∷ words) (suc i) word low = drop_next words i word (omega (arith, low))

pub chosen_next : (circuit : Numbered) (words : List (Bor (List ℕ))) (i next : ℕ) (word : Bor (List ℕ)) (net : ℕ) (old new : List ℕ)
    → i < length words → next ≡ suc i → NamesNet circuit (get_or words i word).now net → new ≡ with_net old net
    → IsChosenTo circuit words i old → IsChosenTo circuit words next new
chosen_next circuit words i next word net old new low after names added so =
    let split = drop_next words i word low in
    subst (λ (n : ℕ). IsChosenTo circuit words n new) (sym after) (record {
      chosen = λ numbers are. so.chosen numbers
          (subst (λ (ws : List (List ℕ)). AreAdded circuit old ws numbers) (sym split)
          (net, names, subst (λ (before : List ℕ). AreAdded circuit before (map now_of (drop (suc i) words)) numbers) added are));
      unnamed = λ other is. so.unnamed other
          (subst (λ (ws : List (List ℕ)). IsUnnamed circuit ws other) (sym split) (inr ((net, names), is)));
    })

pub unnamed_at : (circuit : Numbered) (words : List (Bor (List ℕ))) (i : ℕ) (word : Bor (List ℕ)) (nets : List ℕ) → i < length words
    → HasNoNet circuit.netlist (get_or words i word).now → IsChosenTo circuit words i nets
    → IsUnnamed circuit (map now_of words) (get_or words i word).now
unnamed_at circuit words i word nets low none so =
    so.unnamed (get_or words i word).now
    (subst (λ (ws : List (List ℕ)). IsUnnamed circuit ws (get_or words i word).now) (sym (drop_next words i word low)) (inl (refl, none)))

pub chosen_all : (circuit : Numbered) (words : List (Bor (List ℕ))) (i : ℕ) (nets : List ℕ) → length words ≤ i → IsChosenTo circuit words i nets
    → AreChosen circuit (map now_of words) nets
chosen_all circuit words i nets past so =
    so.chosen nets (subst (λ (ws : List (List ℕ)). AreAdded circuit nets ws nets) (sym (ap (map now_of) (drop_all i words past))) refl)
