-- Where certificates have a text, so has what they are joined into.
use Rattle.std.proofs.Common.{◌≡◌, ◌≢◌, ◌≤◌, ◌*◌, ℕ, zero, suc, Bool, true, false, List, [], ◌∷◌, length, Option, Some, None, inl, inr, refl, sym, ap, subst, ◌∙◌, arith}
use Rattle.std.specs.Prelude.{slice_get, All, Contains, ◌==◌, ◌&&◌, if◌then◌else◌}
use Rattle.std.specs.List.{AllByRecursion, list_all}
use Rattle.std.proofs.lemmas.Bool.{eqb-true, and_parts}
use Rattle.std.proofs.lemmas.List.{length-set}
use Rattle.std.proofs.lemmas.List.Elements.{All-filter, All-contains}
use Rattle.std.proofs.lemmas.Option.{slice_get_within}
use Rattle.td_gates.proofs.Places.{All-from_contains}
use Rattle.td_domain.specs.declared.cubes.Trit.{Trit}
use Rattle.td_domain.specs.declared.cubes.Trit.TheVariants.{Zero, One, Free}
use Rattle.td_domain.specs.Pairs.{Pair}
use Rattle.td_domain.specs.Cubes.{Allows, AllowsBits}
use Rattle.td_domain.specs.Admits.{Admitted, AreHeld, flip_of, flips_of, HasAdmitted}
use Rattle.td_domain.proofs.Lists.{all_append}
use Rattle.td_certificate.specs.declared.tree.Node.{Node}
use Rattle.td_certificate.specs.declared.tree.Node.TheVariants as node
use Rattle.td_certificate.specs.declared.question.Version.{Version}
use Rattle.td_certificate.specs.declared.question.Version.TheVariants.{First, Second, Third, Fourth}
use Rattle.td_certificate.specs.declared.certificate.Certificate.{Certificate}
use Rattle.td_certificate.specs.declared.certificate.Claim.{Claim}
use Rattle.td_certificate.specs.Questions.{Terms, Question, inputs_of, is_free, holds_none, admits_all, is_at_once, version_by, version_of}
use Rattle.td_certificate.specs.Spelling.{HasSpelling, MayClaim, IsHigh, IsNode, AreTerms, greatest, version_in, latest}
use Rattle.td_certificate.specs.Trees.{IsTree}
use Rattle.td_certificate.specs.Accepts.{high_of}
use Rattle.td_join.specs.Joining.{pins_of, is_zero, is_one, has_none, AreJoined, alone, missing, halved, AreMerged, time_of, pair_of, IsNotAbove, IsAlike, IsJoined}

-- ---- where all pairs are admitted, one lies in each cube

abbrev low_bit : Trit → Bool
low_bit One = true
low_bit Zero = false
low_bit Free = false

abbrev pub first_bits : List Trit → List Bool
first_bits (p ∷ q ∷ cube) = low_bit p ∷ first_bits cube
first_bits cube = []

abbrev pub second_bits : List Trit → List Bool
second_bits (p ∷ q ∷ cube) = low_bit q ∷ second_bits cube
second_bits cube = []

allows_low : (t : Trit) → Allows t (low_bit t)
allows_low Zero = tt
allows_low One = tt
allows_low Free = tt

pub in_cube : (cube : List Trit) (inputs : ℕ) → length cube ≡ 2 * inputs → AllowsBits cube (first_bits cube) (second_bits cube)
in_cube [] inputs fits = tt
in_cube (p ∷ []) inputs fits = absurd (omega (arith, fits))
in_cube (p ∷ q ∷ cube) zero fits = absurd (omega (arith, fits))
in_cube (p ∷ q ∷ cube) (suc inputs) fits = (allows_low p, allows_low q, in_cube cube inputs (omega (arith, fits)))

pub first_count : (cube : List Trit) (inputs : ℕ) → length cube ≡ 2 * inputs → length (first_bits cube) ≡ inputs
first_count [] inputs fits = omega (arith, fits)
first_count (p ∷ []) inputs fits = absurd (omega (arith, fits))
first_count (p ∷ q ∷ cube) zero fits = absurd (omega (arith, fits))
first_count (p ∷ q ∷ cube) (suc inputs) fits = omega (arith, first_count cube inputs (omega (arith, fits)))

pub second_count : (cube : List Trit) (inputs : ℕ) → length cube ≡ 2 * inputs → length (second_bits cube) ≡ inputs
second_count [] inputs fits = omega (arith, fits)
second_count (p ∷ []) inputs fits = absurd (omega (arith, fits))
second_count (p ∷ q ∷ cube) zero fits = absurd (omega (arith, fits))
second_count (p ∷ q ∷ cube) (suc inputs) fits = omega (arith, second_count cube inputs (omega (arith, fits)))

allows_any : (t : Trit) (bit : Bool) → is_free t ≡ true → Allows t bit
allows_any Free bit e = tt
allows_any Zero bit e = absurd cc
allows_any One bit e = absurd cc

in_free : (pins : List Trit) (before after : List Bool) → list_all is_free pins ≡ true → length pins ≡ 2 * length before → length after ≡ length before
    → AllowsBits pins before after
in_free [] [] [] free fits same = tt
in_free [] [] (b ∷ after) free fits same = absurd (omega (arith, same))
in_free [] (a ∷ before) after free fits same = absurd (omega (arith, fits))
in_free (p ∷ []) before after free fits same = absurd (omega (arith, fits))
in_free (p ∷ q ∷ pins) [] after free fits same = absurd (omega (arith, fits))
in_free (p ∷ q ∷ pins) (a ∷ before) [] free fits same = absurd (omega (arith, same))
in_free (p ∷ q ∷ pins) (a ∷ before) (b ∷ after) free fits same =
    let one = and_parts (is_free p) (is_free q && list_all is_free pins) free in
    let two = and_parts (is_free q) (list_all is_free pins) one.1 in
    (allows_any p a one.0, allows_any q b two.0, in_free pins before after two.1 (omega (arith, fits)) (omega (arith, same)))

pub none_held : (held before after : List Bool) → holds_none held ≡ true → AreHeld held before after
none_held [] before after none = tt
none_held (h ∷ held) [] after none = tt
none_held (h ∷ held) (a ∷ before) [] none = tt
none_held (true ∷ held) (a ∷ before) (b ∷ after) none = absurd cc
none_held (false ∷ held) (a ∷ before) (b ∷ after) none = (λ is. absurd cc, none_held held before after none)

one_flip : (a b : Bool) → flip_of a b ≤ 1
one_flip true true = omega arith
one_flip true false = omega arith
one_flip false true = omega arith
one_flip false false = omega arith

pub few_flips : (before after : List Bool) → flips_of before after ≤ length before
few_flips [] after = omega arith
few_flips (a ∷ before) [] = omega arith
few_flips (a ∷ before) (b ∷ after) = omega (arith, one_flip a b, few_flips before after)

each_has : (admit : Admitted) (cube : List Trit) → admits_all admit ≡ true → length admit.pins ≡ 2 * length admit.held → length cube ≡ length admit.pins
    → HasAdmitted admit cube
each_has admit cube all fits same =
    let one = and_parts (list_all is_free admit.pins) (holds_none admit.held && (admit.flips == length admit.held)) all in
    let two = and_parts (holds_none admit.held) (admit.flips == length admit.held) one.1 in
    let flips = eqb-true admit.flips (length admit.held) two.1 in
    let here : length cube ≡ 2 * length admit.held = same ∙ fits in
    let before = first_count cube (length admit.held) here in
    let after = second_count cube (length admit.held) here in
    let pair : Pair = record { first = first_bits cube; second = second_bits cube } in (
      pair,
      record {
        pinned = in_free admit.pins (first_bits cube) (second_bits cube) one.0 (omega (arith, fits, before)) (omega (arith, before, after));
        held = none_held admit.held (first_bits cube) (second_bits cube) two.0;
        few = omega (arith, few_flips (first_bits cube) (second_bits cube), before, flips);
      },
      in_cube cube (length admit.held) here,
    )

-- the version tells what a question has
pub no_terms : (terms : Option Terms) (admit : Admitted) (moments : List ℕ) → version_by terms admit moments ≡ First → terms ≡ None
no_terms None admit moments e = refl
no_terms (Some terms) admit moments e = absurd cc

by_tests : (once all : Bool) → (if once then (if all then First else Second) else Third) ≡ First → all ≡ true
by_tests true true e = refl
by_tests true false e = absurd cc
by_tests false true e = refl
by_tests false false e = absurd cc

by_terms : (terms : Option Terms) (admit : Admitted) (moments : List ℕ) → version_by terms admit moments ≡ First → admits_all admit ≡ true
by_terms None admit moments e = by_tests (is_at_once moments) (admits_all admit) e
by_terms (Some terms) admit moments e = absurd cc

pub all_admitted : (question : Question) → version_of question ≡ First → admits_all question.admit ≡ true
all_admitted question e = by_terms question.terms question.admit question.moments e

not_fourth : (once all : Bool) → (if once then (if all then First else Second) else Third) ≢ Fourth
not_fourth true true e = cc
not_fourth true false e = cc
not_fourth false all e = cc

no_fourth : (terms : Option Terms) (admit : Admitted) (moments : List ℕ) → terms ≡ None → version_by terms admit moments ≢ Fourth
no_fourth None admit moments none e = not_fourth (is_at_once moments) (admits_all admit) e
no_fourth (Some terms) admit moments none e = absurd cc

told_fourth : (terms : Option Terms) (admit : Admitted) (moments : List ℕ) → version_by terms admit moments ≡ Fourth → (t : Terms) × (terms ≡ Some t)
told_fourth None admit moments e = absurd (not_fourth (is_at_once moments) (admits_all admit) e)
told_fourth (Some terms) admit moments e = (terms, refl)

some_fourth : (terms : Option Terms) (t : Terms) (admit : Admitted) (moments : List ℕ) → terms ≡ Some t → version_by terms admit moments ≡ Fourth
some_fourth terms t admit moments e = ap (λ (x : Option Terms). version_by x admit moments) e

-- where a part tells terms, so does the whole
merged_fourth : (whole part : Question) → AreMerged whole.terms part.terms → version_of part ≡ Fourth → version_of whole ≡ Fourth
merged_fourth whole part (inl none) e = absurd (no_fourth part.terms part.admit part.moments none.0 e)
merged_fourth whole part (inr same) e =
    let t = told_fourth part.terms part.admit part.moments e in
    some_fourth whole.terms t.0 whole.admit whole.moments (sym same ∙ t.1)

-- ---- nodes of a text

none_behind : (b : Bool) {X : Type 0} → true ≡ false → X
none_behind b e = absurd cc

nodes_in : (mine whole : Version) (nodes : List Node) → (mine ≡ Fourth → whole ≡ Fourth) → (whole ≡ First → has_none nodes ≡ false) → AllByRecursion (IsNode mine) nodes
    → AllByRecursion (IsNode whole) nodes
nodes_in mine whole [] told none are = tt
nodes_in mine whole (node.Split position ∷ nodes) told none are = (are.0, nodes_in mine whole nodes told none are.1)
nodes_in mine whole (node.Bound domain bound ∷ nodes) told none are = ((are.0.0, λ other. are.0.1 (λ e. other (told e))), nodes_in mine whole nodes told none are.1)
nodes_in mine whole (node.Point time ∷ nodes) told none are = (are.0, nodes_in mine whole nodes told none are.1)
nodes_in mine whole (node.Refuted refuted ∷ nodes) told none are = ((are.0.0, told are.0.1), nodes_in mine whole nodes told none are.1)
nodes_in mine whole (node.Empty ∷ nodes) told none are =
    (λ e. none_behind true (none e), nodes_in mine whole nodes told (λ e. none_behind true (none e)) are.1)

joined_nodes : (admit : Admitted) (version : Version) (fits : ℕ) (cube : List Trit) (certificates : List Certificate) (nodes : List Node) → fits ≤ 8192
    → length cube ≡ fits → ((other : List Trit) → length other ≡ fits → (¬ HasAdmitted admit other) → version ≢ First)
    → All (λ c. AllByRecursion (IsNode version) c.tree) certificates → AreJoined admit cube certificates nodes → AllByRecursion (IsNode version) nodes
joined_nodes admit version fits _ _ _ few long none all (alone c) =
    All-contains (λ d. AllByRecursion (IsNode version) d.tree) (c ∷ []) c all (0, omega arith, refl)
joined_nodes admit version fits _ _ _ few long none all (missing cube empty) = (none cube long empty, tt)
joined_nodes admit version fits _ _ _ few long none all (halved cube certificates position low high some free known lows highs) = (
  omega (arith, slice_get_within cube position Free free, long, few),
  all_append (IsNode version) low high
      (joined_nodes admit version fits _ _ low few (length-set cube position Zero ∙ long) none
      (All-filter (λ c. is_zero (slice_get (pins_of c) position)) (λ c. AllByRecursion (IsNode version) c.tree) certificates all) lows)
      (joined_nodes admit version fits _ _ high few (length-set cube position One ∙ long) none
      (All-filter (λ c. is_one (slice_get (pins_of c) position)) (λ c. AllByRecursion (IsNode version) c.tree) certificates all) highs),
)

-- ---- the whole

-- before the fourth version the two moments are one
one_high : (version : Version) (time high : ℕ) → version ≢ Fourth → IsHigh version time high → high ≡ time
one_high First time high other h = h
one_high Second time high other h = h
one_high Third time high other h = h
one_high Fourth time high other h = absurd (other refl)

few_high : (version : Version) (time high : ℕ) → time ≤ greatest → IsHigh version time high → high ≤ greatest
few_high First time high few h = omega (arith, few, h)
few_high Second time high few h = omega (arith, few, h)
few_high Third time high few h = omega (arith, few, h)
few_high Fourth time high few h = h

is_high : (version : Version) (time high : ℕ) → (version ≢ Fourth → high ≡ time) → high ≤ greatest → IsHigh version time high
is_high First time high one few = one (λ e. absurd cc)
is_high Second time high one few = one (λ e. absurd cc)
is_high Third time high one few = one (λ e. absurd cc)
is_high Fourth time high one few = few

-- what two certificates tell, the one with the time and the other with the high, the whole can tell
told_claim : (late high whole : Version) (count others inputs : ℕ) (mine yours claim : Option Claim) → (late ≡ Fourth → whole ≡ Fourth) → (high ≡ Fourth → whole ≡ Fourth)
    → count ≡ inputs → time_of mine ≡ time_of claim → pair_of mine ≡ pair_of claim → high_of yours ≡ high_of claim
    → IsNotAbove (time_of yours) (time_of claim) → IsNotAbove (high_of mine) (high_of claim) → MayClaim late count mine → MayClaim high others yours
    → MayClaim whole inputs claim
told_claim late high whole count others inputs None yours None lates highs same time pair top few least may can = lates may
told_claim late high whole count others inputs (Some mine) yours None lates highs same time pair top few least may can = absurd cc
told_claim late high whole count others inputs None yours (Some claim) lates highs same time pair top few least may can = absurd cc
told_claim late high whole count others inputs (Some mine) None (Some claim) lates highs same time pair top few least may can = absurd cc
told_claim late high whole count others inputs (Some mine) (Some yours) (Some claim) lates highs same time pair top few least may can =
    let reached : mine.time ≡ claim.time = cc in
    let shown : mine.pair ≡ claim.pair = cc in
    let bounded : yours.high ≡ claim.high = cc in
    record {
      time = omega (arith, reached, may.time);
      high = is_high whole claim.time claim.high
          (λ other. omega (
            arith,
            reached,
            bounded,
            few,
            least,
            one_high late mine.time mine.high (λ e. other (lates e)) may.high,
            one_high high yours.time yours.high (λ e. other (highs e)) can.high,
          ))
          (omega (arith, bounded, few_high high yours.time yours.high can.time can.high));
      first = ap (λ (p : Pair). length p.first) (sym shown) ∙ may.first ∙ same;
      second = ap (λ (p : Pair). length p.second) (sym shown) ∙ may.second ∙ same;
    }

pub spelled_together : (certificates : List Certificate) (pins : List Trit) (whole : Certificate) → IsJoined certificates pins whole
    → length whole.question.admit.pins ≡ 2 * inputs_of whole.question
    → (version_of whole.question ≡ First → All (λ c. has_none c.tree ≡ false) certificates) → IsTree whole.tree
    → All HasSpelling certificates → HasSpelling whole
spelled_together certificates pins whole joined fits reported tree all =
    let from : Certificate = joined.claim.reached.certificate in
    let high : Certificate = joined.claim.bounded.certificate in
    let alike = All-contains (IsAlike whole) certificates from joined.alike joined.claim.reached.among in
    let given = All-contains HasSpelling certificates from all joined.claim.reached.among in
    let same : inputs_of whole.question ≡ inputs_of from.question = ap (λ (hs : List Bool). length hs) alike.held in
    let few : length whole.question.admit.pins ≤ 8192 = omega (arith, fits, same, given.inputs) in
    let merged = λ (c : Certificate) (has : Contains certificates c). All-contains (λ d. AreMerged whole.question.terms d.question.terms) certificates c joined.terms has in
    let teller = All-contains HasSpelling certificates joined.told.certificate all joined.told.among in
    record {
      inputs = omega (arith, same, given.inputs);
      gates = omega (arith, alike.gates, given.gates);
      pins = fits;
      flips = omega (arith, alike.flips, given.flips, same);
      count = ap (λ (ms : List ℕ). length ms) alike.moments ∙ given.count ∙ sym same;
      moments = subst (λ (ms : List ℕ). AllByRecursion (λ moment. moment ≤ latest) ms) (sym alike.moments) given.moments;
      terms = subst AreTerms joined.told.terms_are teller.terms;
      claim = told_claim (version_in from) (version_in high) (version_in whole) (inputs_of from.question) (inputs_of high.question) (inputs_of whole.question)
          from.claim high.claim whole.claim
          (merged_fourth whole.question from.question (merged from joined.claim.reached.among)) (merged_fourth whole.question high.question (merged high joined.claim.bounded.among))
          (sym same) joined.claim.reached.time_is joined.claim.reached.pair_is joined.claim.bounded.high_is
          (All-contains (λ c. IsNotAbove (time_of c.claim) (time_of whole.claim)) certificates high joined.claim.greatest joined.claim.bounded.among)
          (All-contains (λ c. IsNotAbove (high_of c.claim) (high_of whole.claim)) certificates from joined.claim.highest joined.claim.reached.among)
          given.claim (All-contains HasSpelling certificates high all joined.claim.bounded.among).claim;
      nodes = joined_nodes whole.question.admit (version_in whole) (length whole.question.admit.pins) pins certificates whole.tree few
          (ap (λ (cube : List Trit). length cube) (sym joined.pins_are))
          (λ other long none first. none (each_has whole.question.admit other (all_admitted whole.question first) fits long))
          (All-from_contains (λ c. AllByRecursion (IsNode (version_in whole)) c.tree) certificates (λ c has.
          nodes_in (version_in c) (version_in whole) c.tree (merged_fourth whole.question c.question (merged c has))
          (λ first. All-contains (λ d. has_none d.tree ≡ false) certificates c (reported first) has)
          (All-contains HasSpelling certificates c all has).nodes))
          joined.tree;
      tree = tree;
    }
