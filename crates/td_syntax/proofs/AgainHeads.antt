-- Attributes and directives that the grammar derives are read.
use Rattle.std.proofs.Common.{◌≡◌, ℕ, zero, suc, ◌+◌, List, [], ◌∷◌, ◌++◌, map, None, Some, Ok, refl, ap, ◌∙◌, append_assoc}
use Rattle.std.specs.List.{flat_map}
use Rattle.std.proofs.lemmas.List.{length-replicate}
use Rattle.std.proofs.lemmas.List.Concat.{flat_map-cons}
use Rattle.td_nets.specs.declared.keyword.Keyword.TheVariants as keyword
use Rattle.td_syntax.specs.declared.token.Stop.{Stop}
use Rattle.td_syntax.specs.declared.token.Directive.{Directive}
use Rattle.td_syntax.specs.declared.syntax.Front.{Front as Fronted}
use Rattle.td_syntax.specs.declared.syntax.Front.TheVariants as fronts
use Rattle.td_syntax.specs.Token.{Token, Name, Escaped, Reserved, Number, Constant, Mark, Attribute, Directs, Outside}
use Rattle.td_syntax.specs.Token.{Placed, placed_on}
use Rattle.td_syntax.specs.Tokens.{front_of, rest_of}
use Rattle.td_syntax.specs.Grammar as grammar
use Rattle.td_syntax.proofs.Plain.{plain}
use Rattle.td_syntax.specs.Readers.{Remainder, behind_front, More, Done, as_attribute, as_directive, next_at, many_from}
use Rattle.td_syntax.specs.Parsing.{as_module, attribute_step, attributes_at, directive_at, front_directive, front_step, behind_step}
use Rattle.td_syntax.proofs.Lists.{unrolled}
use Rattle.td_syntax.proofs.SoundHeads.{module_read, attributes_classified, attributes_shorten, modules_classified, fronts_shorten, behind_shortens}
use Rattle.td_syntax.proofs.AgainTokens.{Reads, Begins, in_front, maybe_again, maybe_not}
use Rattle.td_syntax.proofs.Counting.{ones}

-- as many attributes as there are, and then another token
attributes_from : (k n : ℕ) (s : Remainder) (t : Placed) (more : List Placed) → as_attribute t ≡ None → Begins s (flat_map grammar.attribute (ones n) ++ (t ∷ more)) → Reads (many_from attribute_step k s) (ones n) (t ∷ more)
unfolding attribute_step
attributes_from k zero s t more other e =
    let a = maybe_not as_attribute grammar.attribute attributes_classified s t more other e in
    record { rest = a.rest; gives = rw (unrolled attribute_step attributes_shorten k s, a.gives) refl; tokens = a.tokens }
attributes_from k (suc n) s t more other e =
    let others = flat_map grammar.attribute (ones n) ++ (t ∷ more) in
    let split : Begins s (grammar.attribute tt ++ others) =
    e ∙ ap (λ (text : List Placed). text ++ (t ∷ more)) (flat_map-cons grammar.attribute tt (ones n)) ∙ append_assoc (grammar.attribute tt) (flat_map grammar.attribute (ones n)) (t ∷ more) in
    let a = maybe_again as_attribute grammar.attribute attributes_classified s (placed_on 0 Attribute) tt others refl split in
    let b = attributes_from (k + 1) n a.rest t more other a.tokens in
    record { rest = b.rest; gives = rw (unrolled attribute_step attributes_shorten k s, a.gives, b.gives) refl; tokens = b.tokens }

pub attributes_again : (n : ℕ) (s : Remainder) (t : Placed) (more : List Placed) → as_attribute t ≡ None → Begins s (grammar.attributes n ++ (t ∷ more)) → Reads (attributes_at s) n (t ∷ more)
unfolding attributes_at
attributes_again n s t more other e =
    let a = attributes_from 0 n s t more other e in
    record { rest = a.rest; gives = rw (a.gives, length-replicate {A = Unit {0}} n tt) refl; tokens = a.tokens }

-- ---- directives

stable_directive : (l : ℕ) (t : Token) → as_directive (placed_on l t) ≡ as_directive (plain (placed_on l t))
stable_directive l (Name w) = refl
stable_directive l (Escaped w) = refl
stable_directive l (Reserved k) = refl
stable_directive l (Number n) = refl
stable_directive l (Constant b w) = refl
stable_directive l (Mark m) = refl
stable_directive l Attribute = refl
stable_directive l (Directs d w) = refl
stable_directive l (Outside w) = refl

told_directive : (p t : Placed) → plain p ≡ t → as_directive p ≡ as_directive t
told_directive p t e = stable_directive p.line p.token ∙ ap as_directive e

told_attribute : (p t : Placed) → plain p ≡ t → as_attribute p ≡ as_attribute t
told_attribute p t e = attributes_classified.stable p ∙ ap as_attribute e

told_module : (p t : Placed) → plain p ≡ t → as_module p ≡ as_module t
told_module p t e = modules_classified.stable p ∙ ap as_module e

front_again : (k : ℕ) (s : Remainder) (f : Fronted) (tail : List Placed) → Begins s (grammar.front f ++ tail) → Reads (front_step k s) (More f) tail
unfolding front_step directive_at
front_again k s fronts.Attributed tail e =
    let f = in_front s (placed_on 0 Attribute) tail e in
    record { rest = behind_front s; gives = rw (f.gives, told_attribute f.placed (placed_on 0 Attribute) f.same) refl; tokens = f.tokens }
front_again k s (fronts.Directed d) tail e =
    let t = placed_on 0 (Directs (Ok d) []) in
    let f = in_front s t tail e in
    record { rest = behind_front s; gives = rw (f.gives, told_attribute f.placed t f.same, told_directive f.placed t f.same) refl; tokens = f.tokens }

front_ends : (k : ℕ) (s : Remainder) (tail : List Placed) → Begins s (grammar.word keyword.Module ++ tail) → Reads (front_step k s) Done tail
unfolding front_step
front_ends k s tail e =
    let t = placed_on 0 (Reserved keyword.Module) in
    let f = in_front s t tail e in
    let attribute : as_attribute f.placed ≡ None = told_attribute f.placed t f.same in
    let directive : as_directive f.placed ≡ None = told_directive f.placed t f.same in
    let word : as_module f.placed ≡ Some tt = told_module f.placed t f.same in
    let last : front_directive f.placed (behind_front s) None ≡ Ok (Done, behind_front s) = ap (module_read f.placed (behind_front s)) word in
    record { rest = behind_front s; gives = rw (f.gives, attribute, directive) last; tokens = f.tokens }

pub fronts_again : (k : ℕ) (fs : List Fronted) (s : Remainder) (tail : List Placed) → Begins s (flat_map grammar.front fs ++ (grammar.word keyword.Module ++ tail)) → Reads (many_from front_step k s) fs tail
fronts_again k [] s tail e =
    let a = front_ends k s tail e in
    record { rest = a.rest; gives = rw (unrolled front_step fronts_shorten k s, a.gives) refl; tokens = a.tokens }
fronts_again k (f ∷ fs) s tail e =
    let behind = grammar.word keyword.Module ++ tail in
    let split : Begins s (grammar.front f ++ (flat_map grammar.front fs ++ behind)) =
    e ∙ ap (λ (text : List Placed). text ++ behind) (flat_map-cons grammar.front f fs) ∙ append_assoc (grammar.front f) (flat_map grammar.front fs) behind in
    let a = front_again k s f (flat_map grammar.front fs ++ behind) split in
    let b = fronts_again (k + 1) fs a.rest tail a.tokens in
    record { rest = b.rest; gives = rw (unrolled front_step fronts_shorten k s, a.gives, b.gives) refl; tokens = b.tokens }

-- ---- what follows the module

abbrev Behinds : List Placed → Stop → ℕ → ℕ → Remainder
Behinds ts stop line gates = record { stream = record { tokens = ts; stop = stop; line = line }; gates = gates }

behind_one : (k : ℕ) (ts : List Placed) (stop : Stop) (line gates : ℕ) (d : Directive) (tail : List Placed) → map plain ts ≡ grammar.directed d ++ tail → Reads (behind_step k (Behinds ts stop line gates)) (More d) tail
unfolding behind_step next_at front_of rest_of directive_at
behind_one k [] stop line gates d tail e = absurd cc
behind_one k (t ∷ ts) stop line gates d tail e =
    let same : plain t ≡ placed_on 0 (Directs (Ok d) []) = cc in
    record { rest = Behinds ts stop line gates; gives = rw (told_directive t (placed_on 0 (Directs (Ok d) [])) same) refl; tokens = cc }

behind_none : (k : ℕ) (ts : List Placed) (stop : Stop) (line gates : ℕ) → map plain ts ≡ [] → Reads (behind_step k (Behinds ts stop line gates)) Done []
unfolding behind_step front_of
behind_none k [] stop line gates e = record { rest = Behinds [] stop line gates; gives = refl; tokens = refl }
behind_none k (t ∷ ts) stop line gates e = absurd cc

pub behind_again : (k : ℕ) (ds : List Directive) (s : Remainder) → Begins s (flat_map grammar.directed ds) → Reads (many_from behind_step k s) ds []
behind_again k [] s e =
    let a = behind_none k s.stream.tokens s.stream.stop s.stream.line s.gates e in
    record { rest = a.rest; gives = rw (unrolled behind_step behind_shortens k s, a.gives) refl; tokens = a.tokens }
behind_again k (d ∷ ds) s e =
    let a = behind_one k s.stream.tokens s.stream.stop s.stream.line s.gates d (flat_map grammar.directed ds) (e ∙ flat_map-cons grammar.directed d ds) in
    let b = behind_again (k + 1) ds a.rest a.tokens in
    record { rest = b.rest; gives = rw (unrolled behind_step behind_shortens k s, a.gives, b.gives) refl; tokens = b.tokens }
