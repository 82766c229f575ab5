-- Loops over lines and rows: what their tokens and the end are.
use Rattle.std.proofs.Common.{◌≡◌, ◌∙◌, List, [], ◌∷◌, ◌++◌, refl, ap, append_assoc, map, Result, Ok, Err, OnOk}
use Rattle.std.specs.List.{flat_map}
use Rattle.std.proofs.lemmas.List.Concat.{flat_map-cons}
use Rattle.json.specs.Json.{Json}
use Rattle.json.specs.Token.{Token, end_array, end_object}
use Rattle.json.specs.Tree.{json_tokens, items_tokens, members_tokens}
use Rattle.td_lines.specs.declared.terms.Term.{Term}
use Rattle.td_lines.specs.declared.line.Line.{Line}
use Rattle.json.specs.Written.{Written, Writes}
use Rattle.td_lines.specs.Said.{entry_of, members_by, term_tokens}
use Rattle.td_lines.specs.Values.{Adds, rows_tokens, items_by, line_tokens, members_of}

pub items_end : {A : Type 0} (value : A → Json) (rows : List A) → rows_tokens value rows ++ end_array ∷ [] ≡ items_tokens (items_by value rows)
items_end value [] = refl
items_end value (row ∷ rows) =
    ap (λ (ts : List Token). ts ++ end_array ∷ []) (flat_map-cons (λ row. json_tokens (value row)) row rows)
    ∙ append_assoc (json_tokens (value row)) (rows_tokens value rows) (end_array ∷ []) ∙ ap (λ (ts : List Token). json_tokens (value row) ++ ts) (items_end value rows)

pub lines_end : (lines : List Line) → flat_map line_tokens lines ++ end_object ∷ [] ≡ members_tokens (members_of lines)
lines_end [] = refl
lines_end (line ∷ lines) =
    ap (λ (ts : List Token). ts ++ end_object ∷ []) (flat_map-cons line_tokens line lines)
    ∙ append_assoc (line_tokens line) (flat_map line_tokens lines) (end_object ∷ []) ∙ ap (λ (ts : List Token). line_tokens line ++ ts) (lines_end lines)

pub terms_end : (terms : List Term) → flat_map term_tokens terms ++ end_object ∷ [] ≡ members_tokens (members_by (map entry_of terms))
terms_end [] = refl
terms_end (term ∷ terms) =
    ap (λ (ts : List Token). ts ++ end_object ∷ []) (flat_map-cons term_tokens term terms)
    ∙ append_assoc (term_tokens term) (flat_map term_tokens terms) (end_object ∷ []) ∙ ap (λ (ts : List Token). term_tokens term ++ ts) (terms_end terms)

-- more was written behind it
pub adds_more : {old mid new : Written} (front more : List Token) → Adds old mid front → Adds mid new more → Adds old new (front ++ more)
adds_more {old} front more one two = record {
  added = two.added ∙ ap (λ (ts : List Token). ts ++ more) one.added ∙ append_assoc old.tokens front more;
  before = two.before ∙ one.before;
}

-- all that a loop wrote, and the token that ends it
module _ {E : Type 0} (result : Result (Unit {0}) E) (old mid new : Written) where
  pub closed : (front : List Token) (end : Token) (all : List Token) → front ++ end ∷ [] ≡ all → Adds old mid front
      → Writes result mid new end → OnOk result (Adds old new all)
  closed front end all is adds writes = go result writes
    where
      go : (r : Result (Unit {0}) E) → Writes r mid new end → OnOk r (Adds old new all)
      go (Ok done) writes = record {
        added = writes.ok ∙ ap (λ (ts : List Token). ts ++ end ∷ []) adds.added ∙ append_assoc old.tokens front (end ∷ []) ∙ ap (λ (ts : List Token). old.tokens ++ ts) is;
        before = writes.room.0 ∙ adds.before;
      }
      go (Err fault) writes = tt

  pub items_closed : {A : Type 0} (value : A → Json) (rows : List A) → Adds old mid (rows_tokens value rows)
      → Writes result mid new end_array → OnOk result (Adds old new (items_tokens (items_by value rows)))
  items_closed value rows adds writes = closed (rows_tokens value rows) end_array _ (items_end value rows) adds writes

  pub terms_closed : (terms : List Term) → Adds old mid (flat_map term_tokens terms)
      → Writes result mid new end_object → OnOk result (Adds old new (members_tokens (members_by (map entry_of terms))))
  terms_closed terms adds writes = closed (flat_map term_tokens terms) end_object _ (terms_end terms) adds writes

  pub lines_closed : (lines : List Line) → Adds old mid (flat_map line_tokens lines)
      → Writes result mid new end_object → OnOk result (Adds old new (members_tokens (members_of lines)))
  lines_closed lines adds writes = closed (flat_map line_tokens lines) end_object _ (lines_end lines) adds writes
