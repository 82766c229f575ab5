-- The time of a certificate that is accepted is the worst delay.
use Rattle.std.proofs.Common.{◌≡◌, ◌≢◌, ◌≤◌, ◌*◌, ℕ, zero, suc, Bool, true, false, List, [], ◌∷◌, length, map, set, Option, Some, None, refl, sym, ap, subst, ◌∙◌, arith}
use Rattle.std.specs.Prelude.{slice_get}
use Rattle.std.specs.List.{AllByRecursion}
use Rattle.std.proofs.lemmas.List.{length-map, length-set}
use Rattle.std.proofs.lemmas.List.Elements.{recursion_from_All}
use Rattle.td_gates.specs.Table.{level_from}
use Rattle.td_gates.proofs.Places.{none-some}
use Rattle.td_nets.specs.Netlist.{Netlist}
use Rattle.td_circuit.specs.Settings.{Setting, AreMoments}
use Rattle.td_circuit.specs.Numbering.{Numbered, setting, IsNumbering}
use Rattle.td_circuit.specs.Run.{IsDelayOfBits}
use Rattle.td_circuit.proofs.Existence.{numbering_exists}
use Rattle.td_run.specs.Laws.{IsAcyclic}
use Rattle.td_run.proofs.Existence.{one_delay_lem}
use Rattle.td_domain.specs.declared.cubes.Trit.{Trit}
use Rattle.td_domain.specs.declared.cubes.Trit.TheVariants.{Zero, One, Free}
use Rattle.td_domain.specs.Pairs.{Pair}
use Rattle.td_domain.specs.Cubes.{Allows, AllowsBits, IsIn, IsPoint}
use Rattle.td_domain.specs.Together.{both_functions}
use Rattle.td_domain.specs.BothLaws.{both_covers_gate, both_quiet}
use Rattle.td_domain.proofs.Soundness.{no_later}
use Rattle.td_domain.proofs.Lists.{all_parts}
use Rattle.td_arrival.specs.Arrivals as arrival
use Rattle.td_arrival.specs.Coverage as arrival_coverage
use Rattle.td_arrival.specs.ArrivalLaws as arrival_laws
use Rattle.td_ternary.specs.Possibles as possible
use Rattle.td_ternary.specs.Coverage as possible_coverage
use Rattle.td_ternary.specs.PossibleLaws as possible_laws
use Rattle.td_edges.specs.EdgeSignals as edges
use Rattle.td_edges.specs.Coverage as edges_coverage
use Rattle.td_edges.specs.EdgeLaws as edges_laws
use Rattle.td_certificate.specs.declared.tree.BoundedBy.{BoundedBy}
use Rattle.td_certificate.specs.declared.tree.BoundedBy.TheVariants as by
use Rattle.td_certificate.specs.declared.certificate.Certificate.{Certificate}
use Rattle.td_certificate.specs.declared.certificate.Claim.{Claim}
use Rattle.td_refutation.specs.Asking.{Asking, IsKept, IsAskedAbout}
use Rattle.td_refutation.proofs.Asking.{nothing_kept}
use Rattle.td_refutation.proofs.Keeping.{none_kept}
use Rattle.td_refutation.specs.Whole.{Step}
use Rattle.td_refutation.proofs.Steps.{refuted_is_bounded, emptied_has_no_pair}
use Rattle.td_certificate.specs.Questions.{asking_of}
use Rattle.td_certificate.specs.Trees.{Tree, Split, Bound, Point, Empty, RefutedLeaf, nodes_of, lines_of}
use Rattle.td_certificate.specs.Walks.{Line, lines_from}
use Rattle.td_certificate.specs.Accepts.{IsBoundBy, IsGood, Shows, IsBoundWithin, HasDelay, setting_of, high_of, Accepts, IsTrueClaim, ClaimsAdmitted, ClaimsDelay, IsClaimed, IsClaim, AcceptedIsTrue, AcceptedIsWorst}
use Rattle.td_certificate.proofs.TreeLaws.{trees_are_counted}
use Rattle.td_certificate.proofs.Walking.{lines_are_walked}

-- ---- cubes

-- the bits of the first input
record Bits (p q : Trit) (cube : List Trit) (before after : List Bool) : Type 0 where
  a : Bool
  b : Bool
  others : List Bool
  laters : List Bool
  before_is : before ≡ a ∷ others
  after_is : after ≡ b ∷ laters
  first_allows : Allows p a
  second_allows : Allows q b
  rest : AllowsBits cube others laters

no_bits : (before after : List Bool) → AllowsBits [] before after → (before ≡ []) × (after ≡ [])
no_bits [] [] h = (refl, refl)
no_bits [] (b ∷ after) h = absurd h
no_bits (a ∷ before) after h = absurd h

bits : (p q : Trit) (cube : List Trit) (before after : List Bool) → AllowsBits (p ∷ q ∷ cube) before after → Bits p q cube before after
bits p q cube [] after h = absurd h
bits p q cube (a ∷ before) [] h = absurd h
bits p q cube (a ∷ before) (b ∷ after) h = record {
  a = a;
  b = b;
  others = before;
  laters = after;
  before_is = refl;
  after_is = refl;
  first_allows = h.0;
  second_allows = h.1;
  rest = h.2;
}

one_bit : (p : Trit) (a b : Bool) → p ≢ Free → Allows p a → Allows p b → a ≡ b
one_bit Zero false false known h k = refl
one_bit Zero false true known h k = absurd k
one_bit Zero true b known h k = absurd h
one_bit One false b known h k = absurd h
one_bit One true false known h k = absurd k
one_bit One true true known h k = refl
one_bit Free a b known h k = absurd (known refl)

-- a point has one pair
pub one_pair : (cube : List Trit) (before after others laters : List Bool) → AllByRecursion (λ trit. trit ≢ Free) cube
    → AllowsBits cube before after → AllowsBits cube others laters → (before ≡ others) × (after ≡ laters)
one_pair [] before after others laters known h k =
    let p = no_bits before after h in
    let q = no_bits others laters k in
    (p.0 ∙ sym q.0, p.1 ∙ sym q.1)
one_pair (p ∷ []) before after others laters known h k = absurd h
one_pair (p ∷ q ∷ cube) before after others laters known h k =
    let x = bits p q cube before after h in
    let y = bits p q cube others laters k in
    let rest = one_pair cube x.others x.laters y.others y.laters known.1.1 x.rest y.rest in
    let first : x.a ≡ y.a = one_bit p x.a y.a known.0 x.first_allows y.first_allows in
    let second : x.b ≡ y.b = one_bit q x.b y.b known.1.0 x.second_allows y.second_allows in (
      x.before_is ∙ ap (λ bit. bit ∷ x.others) first ∙ ap (λ bits. y.a ∷ bits) rest.0 ∙ sym y.before_is,
      x.after_is ∙ ap (λ bit. bit ∷ x.laters) second ∙ ap (λ bits. y.b ∷ bits) rest.1 ∙ sym y.after_is,
    )

-- the sides of a split share out its pairs
pub data Side (cube : List Trit) (position : ℕ) (before after : List Bool) : Type 0 where
  low : AllowsBits (set cube position Zero) before after → Side cube position before after
  high : AllowsBits (set cube position One) before after → Side cube position before after

pub side : (cube : List Trit) (position : ℕ) (before after : List Bool) → slice_get cube position ≡ Some Free
    → AllowsBits cube before after → Side cube position before after
side [] position before after is h = absurd (none-some Free is)
side (p ∷ []) position before after is h = absurd h
side (p ∷ q ∷ cube) position [] after is h = absurd h
side (p ∷ q ∷ cube) position (a ∷ before) [] is h = absurd h
side (p ∷ q ∷ cube) zero (false ∷ before) (b ∷ after) is h = low (tt, h.1, h.2)
side (p ∷ q ∷ cube) zero (true ∷ before) (b ∷ after) is h = high (tt, h.1, h.2)
side (p ∷ q ∷ cube) (suc zero) (a ∷ before) (false ∷ after) is h = low (h.0, tt, h.2)
side (p ∷ q ∷ cube) (suc zero) (a ∷ before) (true ∷ after) is h = high (h.0, tt, h.2)
side (p ∷ q ∷ cube) (suc (suc position)) (a ∷ before) (b ∷ after) is h =
    elim (side cube position before after is h.2) [
      | low rest ↦ low (h.0, h.1, rest)
      | high rest ↦ high (h.0, h.1, rest)
    ]

-- a cube has two positions for each bit of its pairs' vectors
pub cube_fits : (cube : List Trit) (before after : List Bool) → AllowsBits cube before after
    → (length cube ≡ 2 * length before) × (length after ≡ length before)
cube_fits [] [] [] h = (refl, refl)
cube_fits [] [] (b ∷ after) h = absurd h
cube_fits [] (a ∷ before) after h = absurd h
cube_fits (p ∷ []) before after h = absurd h
cube_fits (p ∷ q ∷ cube) [] after h = absurd h
cube_fits (p ∷ q ∷ cube) (a ∷ before) [] h = absurd h
cube_fits (p ∷ q ∷ cube) (a ∷ before) (b ∷ after) h =
    let rest = cube_fits cube before after h.2 in (omega (arith, rest.0), omega (arith, rest.1))

-- ---- vectors

same_count : {A B C : Type 0} (f : A → C) (g : B → C) (xs : List A) (ys : List B) → map f xs ≡ map g ys → length ys ≡ length xs
same_count f g xs ys e = omega (arith, ap length e, length-map xs f, length-map ys g)

pub vector_fits : (given : Setting) (first second : List Bool) (delay : ℕ) → IsDelayOfBits given first second delay → length first ≡ length given.netlist.inputs
vector_fits given first second delay is = same_count _ level_from given.netlist.inputs first is.runs.settled.inputs

pub same_delay : (given : Setting) → IsAcyclic given.netlist → AreMoments given.netlist given.moments → (first second others laters : List Bool) (this that : ℕ)
    → length others ≡ length given.netlist.inputs → length laters ≡ length given.netlist.inputs
    → first ≡ others → second ≡ laters → IsDelayOfBits given first second this → IsDelayOfBits given others laters that → this ≡ that
same_delay given acyclic fit first second others laters this that f_fits s_fits e f is also =
    let one = one_delay_lem given (map level_from others) (map level_from laters) acyclic fit (rw length-map f_fits) (rw length-map s_fits) in
    one.2 this (rw (e, f) at is) ∙ sym (one.2 that also)

-- ---- one pair, down the tree

module _ (circuit : Numbered) (numbering : IsNumbering circuit) (fit : AreMoments circuit.netlist circuit.moments) (acyclic : IsAcyclic circuit.netlist)
    (asking : Asking) (most : ℕ) (pair : Pair) (about : IsAskedAbout circuit.netlist asking pair)
    (delay : ℕ) (is : IsDelayOfBits (setting circuit) pair.first pair.second delay)
    (helds : length asking.admit.held ≡ length circuit.netlist.inputs) where
  -- no bound is below the pair's delay
  below_bound : (domain : BoundedBy) (cube : List Trit) → length cube ≡ 2 * length circuit.netlist.inputs → IsIn pair cube
      → (bound : ℕ) → IsBoundBy domain (setting circuit) cube (Some bound) → delay ≤ bound
  below_bound by.Arrival cube count is_in bound of_cube =
      rw is.is_latest (no_later arrival_coverage.ArrivalsCover arrival.arrival_functions
      arrival_laws.covers_input arrival_laws.covers_constant arrival_laws.covers_gate
      circuit numbering fit cube count of_cube.signals of_cube.are_signals pair is_in is.waves is.runs
      arrival_laws.quiet_after_last bound (sym of_cube.is_greatest))
  below_bound by.Possible cube count is_in bound of_cube =
      rw is.is_latest (no_later possible_coverage.LevelsCover possible.possible_functions
      possible_laws.covers_input possible_laws.covers_constant possible_laws.covers_gate
      circuit numbering fit cube count of_cube.signals of_cube.are_signals pair is_in is.waves is.runs
      possible_laws.quiet_after_last bound (sym of_cube.is_greatest))
  below_bound by.Both cube count is_in bound of_cube =
      rw is.is_latest (no_later (λ signal wave. arrival_coverage.ArrivalsCover signal.0 wave × possible_coverage.LevelsCover signal.1 wave)
      (both_functions arrival.arrival_functions possible.possible_functions)
      (λ first second moment wave h. (arrival_laws.covers_input first second moment wave h, possible_laws.covers_input first second moment wave h))
      (λ one wave h. (arrival_laws.covers_constant one wave h, possible_laws.covers_constant one wave h))
      (both_covers_gate arrival_coverage.ArrivalsCover possible_coverage.LevelsCover arrival.gate_signal possible.gate_signal arrival_laws.covers_gate possible_laws.covers_gate)
      circuit numbering fit cube count of_cube.signals of_cube.are_signals pair is_in is.waves is.runs
      (both_quiet arrival_coverage.ArrivalsCover possible_coverage.LevelsCover arrival.last_of possible.last_of arrival_laws.quiet_after_last possible_laws.quiet_after_last)
      bound (sym of_cube.is_greatest))
  below_bound by.Edges cube count is_in bound of_cube =
      rw is.is_latest (no_later edges_coverage.EdgesCover edges.edge_functions
      edges_laws.covers_input edges_laws.covers_constant edges_laws.covers_gate
      circuit numbering fit cube count of_cube.signals of_cube.are_signals pair is_in is.waves is.runs
      edges_laws.quiet_after_last bound (sym of_cube.is_greatest))
  below_bound by.EdgesAndPossible cube count is_in bound of_cube =
      rw is.is_latest (no_later (λ signal wave. edges_coverage.EdgesCover signal.0 wave × possible_coverage.LevelsCover signal.1 wave)
      (both_functions edges.edge_functions possible.possible_functions)
      (λ first second moment wave h. (edges_laws.covers_input first second moment wave h, possible_laws.covers_input first second moment wave h))
      (λ one wave h. (edges_laws.covers_constant one wave h, possible_laws.covers_constant one wave h))
      (both_covers_gate edges_coverage.EdgesCover possible_coverage.LevelsCover edges.gate_signal possible.gate_signal edges_laws.covers_gate possible_laws.covers_gate)
      circuit numbering fit cube count of_cube.signals of_cube.are_signals pair is_in is.waves is.runs
      (both_quiet edges_coverage.EdgesCover possible_coverage.LevelsCover edges.last_of possible.last_of edges_laws.quiet_after_last possible_laws.quiet_after_last)
      bound (sym of_cube.is_greatest))

  -- the delay of a point's pair
  at_point : (cube : List Trit) (time : ℕ) → length cube ≡ 2 * length circuit.netlist.inputs → IsPoint cube → IsIn pair cube → HasDelay (setting circuit) cube time → delay ≡ time
  at_point cube time count known is_in has =
      let same = one_pair cube pair.first pair.second has.pair.first has.pair.second (recursion_from_All _ cube known) is_in has.is_in in
      let long = cube_fits cube has.pair.first has.pair.second has.is_in in
      same_delay (setting circuit) acyclic fit pair.first pair.second has.pair.first has.pair.second delay time
      (omega (arith, count, long.0)) (omega (arith, count, long.0, long.1)) same.0 same.1 is has.is

  -- what steps show of the pair
  below_shown : (cube : List Trit) (steps : List Step) → length cube ≡ 2 * length circuit.netlist.inputs → IsIn pair cube → (bound : Option ℕ)
      → Shows (setting circuit) asking cube steps bound → IsBoundWithin (Some most) bound → delay ≤ most
  below_shown cube steps count is_in None shows within =
      absurd (emptied_has_no_pair (setting circuit) asking cube steps fit helds count shows pair about is_in)
  below_shown cube steps count is_in (Some bound) shows within =
      let under : delay ≤ bound = refuted_is_bounded (setting circuit) asking cube steps bound fit helds count shows pair delay about is_in is in
      omega (arith, under, within)

  below : (tree : Tree) (cube : List Trit) → length cube ≡ 2 * length circuit.netlist.inputs → IsIn pair cube
      → AllByRecursion (IsGood (setting circuit) asking (Some most)) (lines_of cube tree) → delay ≤ most
  unfolding lines_of
  below (Split position zero_side one_side) cube count is_in good =
      let sides = all_parts (IsGood (setting circuit) asking (Some most)) (lines_of (set cube position Zero) zero_side)
      (lines_of (set cube position One) one_side) good.1 in
      elim (side cube position pair.first pair.second good.0.splits is_in) [
        | low here ↦ below zero_side (set cube position Zero) (length-set cube position Zero ∙ count) here sides.0
        | high here ↦ below one_side (set cube position One) (length-set cube position One ∙ count) here sides.1
      ]
  below (Bound domain bound) cube count is_in good =
      let least = good.0.of_cube in
      omega (arith, below_bound domain cube count is_in least.bound least.is, least.within, good.0.within)
  below (Point time) cube count is_in good =
      omega (arith, at_point cube time count good.0.one_pair is_in good.0.of_cube, good.0.within)
  below Empty cube count is_in good =
      absurd (good.0.of_cube ((pair, about.admitted, is_in), none_kept circuit numbering asking.keep cube pair count is_in about.kept))
  below (RefutedLeaf refuted) cube count is_in good =
      below_shown cube refuted.steps count is_in refuted.bound good.0.of_cube good.0.within

-- ---- no pair

module _ (circuit : Numbered) (numbering : IsNumbering circuit) (fit : AreMoments circuit.netlist circuit.moments) (asking : Asking) (pair : Pair)
    (about : IsAskedAbout circuit.netlist asking pair) (helds : length asking.admit.held ≡ length circuit.netlist.inputs) where
  -- where each leaf says so, the pair doesn't lie in the cube
  apart : (tree : Tree) (cube : List Trit) → length cube ≡ 2 * length circuit.netlist.inputs → IsIn pair cube
      → AllByRecursion (IsGood (setting circuit) asking None) (lines_of cube tree) → ⊥
  unfolding lines_of
  apart (Split position zero_side one_side) cube count is_in good =
      let sides = all_parts (IsGood (setting circuit) asking None) (lines_of (set cube position Zero) zero_side)
      (lines_of (set cube position One) one_side) good.1 in
      elim (side cube position pair.first pair.second good.0.splits is_in) [
        | low here ↦ apart zero_side (set cube position Zero) (length-set cube position Zero ∙ count) here sides.0
        | high here ↦ apart one_side (set cube position One) (length-set cube position One ∙ count) here sides.1
      ]
  apart (Bound domain bound) cube count is_in good = good.0.enough
  apart (Point time) cube count is_in good = good.0.enough
  apart Empty cube count is_in good =
      good.0.of_cube ((pair, about.admitted, is_in), none_kept circuit numbering asking.keep cube pair count is_in about.kept)
  apart (RefutedLeaf refuted) cube count is_in good =
      emptied_has_no_pair (setting circuit) asking cube refuted.steps fit helds count
      (subst (Shows (setting circuit) asking cube refuted.steps) good.0.enough good.0.of_cube) pair about is_in

-- ---- all pairs

abbrev pub at_moments : Netlist → List ℕ → Setting
at_moments netlist moments = record { netlist = netlist; moments = moments }

module _ (circuit : Numbered) (numbering : IsNumbering circuit) (fit : AreMoments circuit.netlist circuit.moments) (acyclic : IsAcyclic circuit.netlist)
    (c : Certificate) (moments : c.question.moments ≡ circuit.moments) (accepts : Accepts circuit.netlist c) where
  abbrev asking : Asking
  asking = asking_of c.question

  given : setting_of circuit.netlist c ≡ setting circuit
  given = ap (λ ms. at_moments circuit.netlist ms) moments

  abbrev AreGood : Option ℕ → List Line → Type 0
  AreGood most lines = AllByRecursion (IsGood (setting circuit) asking most) lines

  made : (tree : Tree) × (nodes_of tree ≡ c.tree)
  made = trees_are_counted.has_tree c.tree accepts.tree

  good : AreGood (high_of c.claim) (lines_of asking.admit.pins made.0)
  good =
      subst (AreGood (high_of c.claim)) (ap (lines_from (asking.admit.pins ∷ [])) (sym made.1) ∙ lines_are_walked made.0 asking.admit.pins)
      (subst (λ s. AllByRecursion (IsGood s asking (high_of c.claim)) (lines_from (asking.admit.pins ∷ []) c.tree)) given accepts.good)

  whole : length asking.admit.pins ≡ 2 * length circuit.netlist.inputs
  whole = omega (arith, accepts.size.pins, accepts.size.inputs)

  by_claim : (claim : Option Claim) → ClaimsAdmitted circuit.netlist asking claim → ClaimsDelay (setting circuit) claim
      → AreGood (high_of claim) (lines_of asking.admit.pins made.0) → IsClaimed (setting circuit) asking claim
  by_claim None admitted is lines = λ pair about.
      apart circuit numbering fit asking pair about (sym accepts.size.inputs) made.0 asking.admit.pins whole about.admitted.pinned lines
  by_claim (Some claim) admitted is lines =
      record {
        admitted = admitted;
        reached = is;
        bounded = λ pair delay about reaches.
            below circuit numbering fit acyclic asking claim.high pair about delay reaches (sym accepts.size.inputs) made.0 asking.admit.pins whole
            about.admitted.pinned lines;
      }

  by_number : IsClaim (setting circuit) c
  by_number = by_claim c.claim accepts.admitted (subst (λ s. ClaimsDelay s c.claim) given accepts.reached) good

pub accepted_is_true : AcceptedIsTrue
accepted_is_true netlist c well_formed acyclic fit accepts =
    let given : Setting = setting_of netlist c in
    let numbered = numbering_exists given well_formed acyclic in
    let same : setting numbered.0 ≡ given = numbered.2 in
    let net_is : numbered.0.netlist ≡ netlist = ap (λ (s : Setting). s.netlist) same in
    let moments_are : numbered.0.moments ≡ c.question.moments = ap (λ (s : Setting). s.moments) same in
    subst (λ (s : Setting). IsClaim s c) same
    (by_number numbered.0 numbered.1 (rw (net_is, moments_are) fit) (subst IsAcyclic (sym net_is) (record { well_formed = well_formed; acyclic = acyclic })) c
    (sym moments_are) (subst (λ (n : Netlist). Accepts n c) (sym net_is) accepts))

pub accepted_is_worst : AcceptedIsWorst
accepted_is_worst netlist c claim well_formed acyclic fit accepts none is same =
    let holds : IsTrueClaim (setting_of netlist c) (asking_of c.question) claim =
    subst (IsClaimed (setting_of netlist c) (asking_of c.question)) is (accepted_is_true netlist c well_formed acyclic fit accepts) in
    record {
      pair = claim.pair;
      admitted = holds.admitted.admitted;
      reached = holds.reached;
      greatest = λ pair delay admitted is.
          let about : IsAskedAbout netlist (asking_of c.question) pair =
          record { admitted = admitted; kept = subst (λ keep. IsKept netlist keep pair) (sym none) (nothing_kept netlist pair) } in
          subst (λ (n : ℕ). delay ≤ n) same (holds.bounded pair delay about is);
    }
