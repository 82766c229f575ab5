-- Texts at the places of names, and the parts that they tell.
use Rattle.std.proofs.Common.{◌≡◌, ◌∙◌, ℕ, ◌<◌, ◌≤◌, ◌+◌, Bool, List, [], ◌∷◌, ◌++◌, length, take, get_or, refl, sym, ap, subst, arith, Option, Some, None}
use Rattle.std.specs.Prelude.{map, option_map, slice_get}
use Rattle.std.specs.Borrow.{Bor}
use Rattle.std.specs.Global.{Vec}
use Rattle.std.specs.List.{AllZip}
use Rattle.std.specs.Slice.{IsItemAt}
use Rattle.std.proofs.lemmas.Option.{slice_get-map, slice_get-get_or, slice_get_past}
use Rattle.td_gates.proofs.Places.{slice_get-some, slice_get-get, slice_get-within, slice_get-map_some}
use Rattle.td_nets.specs.Netlist.{Netlist}
use Rattle.td_reading.specs.declared.reading.Reading.{Reading}
use Rattle.td_certificate.specs.declared.certificate.Certificate.{Certificate}
use Rattle.td_answer.specs.declared.refusal.Refusal.{Refusal}
use Rattle.td_answer.specs.declared.refusal.Refusal.TheVariants as refusal
use Rattle.td_answer.specs.Joins.{texts_of, TellsPart, LacksPart, HasNoPart}
use Rattle.td_answer.specs.Unjoined.{TellsPartOf}
use Rattle.td_answer.proofs.Zips.{zip_more}

-- the bytes of the text at a place
pub text_at : (texts : List (Vec ℕ)) (i : ℕ) (found : Option (Bor (Vec ℕ))) → IsItemAt texts i found
    → option_map (λ bytes. bytes.now.items) found ≡ slice_get (texts_of texts) i
text_at texts i None is = sym (slice_get-map (λ text. text.items) texts i ∙ ap (option_map (λ text. text.items)) (slice_get_past texts i is.3))
text_at texts i (Some text) is =
    sym (slice_get-map (λ text. text.items) texts i
    ∙ ap (option_map (λ text. text.items)) (slice_get-get_or texts i text.now is.3.0 ∙ ap (λ t. Some t) (sym is.1)))

module _ (text : List ℕ) (reading : Reading) (netlist : Netlist) (check : Bool) where
  -- one more part
  pub part_more : (texts : List (List ℕ)) (i : ℕ) (parts : List Certificate) (part : Certificate)
      → TellsPartOf text reading netlist check (slice_get texts i) part
      → (i ≤ length texts) × AllZip (TellsPart text reading netlist check) (take i texts) parts
      → (i + 1 ≤ length texts) × AllZip (TellsPart text reading netlist check) (take (i + 1) texts) (parts ++ part ∷ [])
  part_more texts i parts part tells so_far = go (slice_get texts i) refl tells
    where
      go : (found : Option (List ℕ)) → slice_get texts i ≡ found → TellsPartOf text reading netlist check found part
          → (i + 1 ≤ length texts) × AllZip (TellsPart text reading netlist check) (take (i + 1) texts) (parts ++ part ∷ [])
      go None at tells = absurd tells
      go (Some spelled) at tells =
          let within = slice_get-some texts i spelled at in (
            omega (arith, within),
            zip_more (TellsPart text reading netlist check) texts parts i spelled part within so_far.1
                (subst (λ (s : List ℕ). TellsPart text reading netlist check s part) (sym (slice_get-get texts i spelled spelled at)) tells),
          )

  -- a file that lacks a part
  pub lacks_part : (names : List (Bor (List ℕ))) (texts : List (List ℕ)) (i : ℕ) (d : Bor (List ℕ)) (reason : Refusal) → i < length names
      → LacksPart text reading netlist check (get_or names i d).now (slice_get texts i) reason
      → HasNoPart text reading netlist check (map (λ name. name.now) names) texts reason
  lacks_part names texts i d reason within lacks = record {
    place = i;
    name = (get_or names i d).now;
    is_name = slice_get-map_some (λ name. name.now) names i (get_or names i d) (slice_get-get_or names i d within);
    lacks = lacks;
  }

  -- a text that is there lacks nothing
  lacks_memory : (name : List ℕ) (found : Option (List ℕ)) (part : Certificate) → TellsPartOf text reading netlist check found part
      → LacksPart text reading netlist check name found refusal.OutOfMemory
  lacks_memory name None part tells = absurd tells
  lacks_memory name (Some spelled) part tells = tt

  -- the text of a file is there, and memory ran out
  pub memory_at : (names : List (Bor (List ℕ))) (texts : List (List ℕ)) (i : ℕ) (part : Certificate) → i < length names
      → TellsPartOf text reading netlist check (slice_get texts i) part → HasNoPart text reading netlist check (map (λ name. name.now) names) texts refusal.OutOfMemory
  memory_at names texts i part within tells =
      let name = slice_get-within names i within in
      lacks_part names texts i name.0 refusal.OutOfMemory within (lacks_memory (get_or names i name.0).now (slice_get texts i) part tells)
