-- Where all pairs are admitted, no certificate is accepted that has a leaf without an admitted
-- pair.
use Rattle.std.proofs.Common.{◌≡◌, ◌*◌, ℕ, Bool, true, false, Option, List, [], ◌∷◌, length, set, refl, sym, ap, subst, ◌∙◌, arith}
use Rattle.std.specs.Prelude.{◌==◌, ◌&&◌, ◌||◌, slice_get}
use Rattle.std.specs.List.{AllByRecursion, list_all}
use Rattle.std.proofs.lemmas.Bool.{eqb-true, and_parts}
use Rattle.std.proofs.lemmas.List.{length-set}
use Rattle.std.proofs.lemmas.List.Folds.{list_any-append}
use Rattle.td_nets.specs.Netlist.{Netlist}
use Rattle.td_circuit.specs.Settings.{Setting}
use Rattle.td_domain.specs.declared.cubes.Trit.{Trit}
use Rattle.td_domain.specs.declared.cubes.Trit.TheVariants.{Zero, One}
use Rattle.td_domain.specs.Pairs.{Pair}
use Rattle.td_domain.specs.Cubes.{IsIn}
use Rattle.td_domain.specs.Admits.{Admitted, HasAdmitted}
use Rattle.td_domain.proofs.Lists.{all_parts}
use Rattle.td_certificate.specs.declared.tree.Node.{Node}
use Rattle.td_certificate.specs.declared.question.Version.TheVariants.{First}
use Rattle.td_certificate.specs.declared.certificate.Certificate.{Certificate}
use Rattle.td_refutation.specs.declared.conditions.NamedCondition.{NamedCondition}
use Rattle.td_refutation.specs.Asking.{Asking}
use Rattle.td_certificate.specs.Questions.{Question, is_free, holds_none, version_of, keep_by, asking_of}
use Rattle.td_gates.proofs.Places.{none-some}
use Rattle.td_certificate.specs.Trees.{Tree, nodes_of, lines_of}
use Rattle.td_certificate.specs.Trees as trees
use Rattle.td_certificate.specs.Walks.{Line, lines_from}
use Rattle.td_certificate.specs.Accepts.{IsGood, Accepts, setting_of, high_of}
use Rattle.td_certificate.proofs.TreeLaws.{trees_are_counted}
use Rattle.td_certificate.proofs.Walking.{lines_are_walked}
use Rattle.td_join.specs.Joining.{pins_of, says_none, has_none}
use Rattle.td_join.specs.Steps.{HasFit}
use Rattle.td_join.proofs.Cubing.{wider}
use Rattle.td_join.proofs.Spelled.{first_bits, second_bits, in_cube, first_count, none_held, few_flips, all_admitted}

neither : (a b : Bool) → a ≡ false → b ≡ false → (a || b) ≡ false
neither false b e f = f
neither true b e f = absurd cc

module _ (setting : Setting) (asking : Asking) (bare : asking.keep ≡ []) (most : Option ℕ) (fits : length asking.admit.pins ≡ 2 * length asking.admit.held) (free : holds_none asking.admit.held ≡ true)
    (flips : asking.admit.flips ≡ length asking.admit.held) where
  -- a pair of each cube of the pins is admitted
  has_pair : (cube : List Trit) → length cube ≡ length asking.admit.pins → ((pair : Pair) → IsIn pair cube → IsIn pair asking.admit.pins) → HasAdmitted asking.admit cube
  has_pair cube same part =
      let here : length cube ≡ 2 * length asking.admit.held = same ∙ fits in
      let pair : Pair = record { first = first_bits cube; second = second_bits cube } in
      let inside : IsIn pair cube = in_cube cube (length asking.admit.held) here in (
        pair,
        record {
          pinned = part pair inside;
          held = none_held asking.admit.held (first_bits cube) (second_bits cube) free;
          few = omega (arith, few_flips (first_bits cube) (second_bits cube), first_count cube (length asking.admit.held) here, flips);
        },
        inside,
      )

  good_none : (tree : Tree) (cube : List Trit) → length cube ≡ length asking.admit.pins → ((pair : Pair) → IsIn pair cube → IsIn pair asking.admit.pins)
      → AllByRecursion (IsGood setting asking most) (lines_of cube tree) → has_none (nodes_of tree) ≡ false
  unfolding nodes_of lines_of
  good_none (trees.Split position low high) cube same part good =
      let free = good.0.splits in
      let sides = all_parts (IsGood setting asking most) (lines_of (set cube position Zero) low) (lines_of (set cube position One) high) good.1 in
      list_any-append says_none (nodes_of low) (nodes_of high) ∙ neither (has_none (nodes_of low)) (has_none (nodes_of high))
      (good_none low (set cube position Zero) (length-set cube position Zero ∙ same)
      (λ pair h. part pair (wider Zero cube position pair.first pair.second free h)) sides.0)
      (good_none high (set cube position One) (length-set cube position One ∙ same)
      (λ pair h. part pair (wider One cube position pair.first pair.second free h)) sides.1)
  good_none (trees.Bound domain bound) cube same part good = refl
  good_none (trees.Point time) cube same part good = refl
  good_none (trees.RefutedLeaf refuted) cube same part good = refl
  good_none trees.Empty cube same part good = absurd (good.0.of_cube (has_pair cube same part, λ broken. absurd (none-some broken.condition (ap (λ (keep : List NamedCondition). slice_get keep broken.place) (sym bare) ∙ broken.stands))))

pub refused : (question : Question) (c : Certificate) (netlist : Netlist) → version_of question ≡ First → question.admit.held ≡ c.question.admit.held
    → question.admit.flips ≡ c.question.admit.flips → keep_by c.question.terms ≡ [] → HasFit c → has_none c.tree ≡ true → ¬ Accepts netlist c
refused question c netlist first held flips bare fit none accepts =
    let one = and_parts (list_all is_free question.admit.pins) (holds_none question.admit.held && (question.admit.flips == length question.admit.held)) (all_admitted question first) in
    let two = and_parts (holds_none question.admit.held) (question.admit.flips == length question.admit.held) one.1 in
    let t = trees_are_counted.has_tree c.tree accepts.tree in
    let walked : lines_from (pins_of c ∷ []) c.tree ≡ lines_of (pins_of c) t.0 =
    ap (λ (ns : List Node). lines_from (pins_of c ∷ []) ns) (sym t.1) ∙ lines_are_walked t.0 (pins_of c) in
    let never = good_none (setting_of netlist c) (asking_of c.question) bare (high_of c.claim) fit (subst (λ (hs : List Bool). holds_none hs ≡ true) held two.0)
    (sym flips ∙ eqb-true question.admit.flips (length question.admit.held) two.1 ∙ ap (λ (hs : List Bool). length hs) held)
    t.0 (pins_of c) refl (λ pair h. h) (subst (λ (ls : List Line). AllByRecursion (IsGood (setting_of netlist c) (asking_of c.question) (high_of c.claim)) ls) walked accepts.good) in
    let clash : true ≡ false = sym none ∙ ap (λ (ns : List Node). has_none ns) (sym t.1) ∙ never in
    absurd cc
