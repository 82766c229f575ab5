-- The options of outputs.
use Rattle.std.proofs.Common.{◌≡◌, ◌∙◌, ◌++◌, List, ℕ, [], ◌∷◌, map, refl, sym, ap, codes, subst}
use Rattle.std.specs.Borrow.{Bor}
use Rattle.std.specs.List.{flat_map}
use Rattle.std.proofs.lemmas.List.Concat.{flat_map-cons}
use Rattle.td_answer.proofs.Adding.{four_appended}
use Rattle.td_answer.specs.Parts.{keep_option, keep_options, output_words, outputs_words}

pub outputs_told : (names : List (Bor (List ℕ))) → flat_map output_words names ≡ outputs_words (map (λ name. name.now) names)
outputs_told [] = refl
outputs_told (name ∷ names) =
    flat_map-cons output_words name names
    ∙ ap (λ (words : List (List ℕ)). output_words name ++ words) (outputs_told names)
    ∙ sym (flat_map-cons (λ (n : List ℕ). codes "--output" ∷ n ∷ []) name.now (map (λ name. name.now) names))

pub keep_told : (words : List (Bor (List ℕ))) → flat_map keep_option words ≡ keep_options (map (λ word. word.now) words)
keep_told [] = refl
keep_told (word ∷ words) =
    flat_map-cons keep_option word words
    ∙ ap (λ (options : List (List ℕ)). keep_option word ++ options) (keep_told words)
    ∙ sym (flat_map-cons (λ (w : List ℕ). codes "--keep" ∷ w ∷ []) word.now (map (λ w. w.now) words))

-- four lists, one after the other, behind none
pub four_made : {A : Type 0} (old t u v new a b c d : List A) → old ≡ [] → t ≡ old ++ a → u ≡ t ++ b → v ≡ u ++ c → new ≡ v ++ d → new ≡ a ++ b ++ c ++ d
four_made {A} old t u v new a b c d e ta ub vc nd = four_appended [] t u v new a b c d (subst (λ (o : List A). t ≡ o ++ a) e ta) ub vc nd
