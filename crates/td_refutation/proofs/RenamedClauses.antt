-- RenamedClauses: clauses of gates, tables and nets are those of the same nets by other numbers.
use Rattle.std.proofs.Common.{◌≡◌, ℕ, zero, suc, max, Bool, true, false, List, [], ◌∷◌, length, map, Option, Some, None, inl, inr, refl, ap, sym, ◌∙◌, subst}
use Rattle.std.specs.Prelude.{◌==◌, nat_le, nat_lt, not, ◌&&◌, ◌||◌, slice_get, option_map, if◌then◌else◌}
use Rattle.std.proofs.lemmas.List.{length-map}
use Rattle.std.proofs.lemmas.Option.{slice_get-map}
use Rattle.td_gates.specs.declared.primitives.Level.{Level}
use Rattle.td_gates.specs.declared.primitives.Level.TheVariants as level
use Rattle.td_gates.specs.Table.{table, level_eq, level_from}
use Rattle.td_circuit.specs.Numbering.{NumberedGate, Numbered}
use Rattle.td_propagation.specs.declared.literal.Literal.{Literal}
use Rattle.td_propagation.specs.Literals.{negation}
use Rattle.td_spans.specs.declared.times.Times.{Times}
use Rattle.td_spans.specs.declared.variable.Saying.{Saying}
use Rattle.td_spans.specs.declared.variable.Variable.{Variable}
use Rattle.td_spans.specs.declared.variable.Variable.TheVariants.{First, Last, Span, Flips}
use Rattle.td_spans.specs.Times.{is_by}
use Rattle.td_spans.specs.Sayings.{start_saying, end_saying, said_of, says}
use Rattle.td_spans.specs.Targets.{steps_to}
use Rattle.td_spans.specs.Lookups.{driver}
use Rattle.td_spans.specs.Sure.{IsSure}
use Rattle.td_spans.specs.Clauses.{constant_trit, trit_from, trit_by, is_known, IsSureOf, IsGateClause, settled_net, trit_if, settled_trit, is_settled_clause, level_is, is_none, is_within, is_apart, is_part_of, is_apart_from, net_by, is_net_clause}
use Rattle.td_spans.specs.Lowering.{is_at_rest, are_at_rest}
use Rattle.td_spans.specs.Named.{settled_of, IsByTableOf, by_net, has_variables}
use Rattle.td_refutation.proofs.Renaming.{renamed_saying, renamed_variable, renamed_gate, IsOneOne, AreRenamed, IsRenaming, same_test, same_map}

sure_same : (known known' : ℕ → Bool) → ((n : ℕ) → known' n ≡ known n) → (coming going n : ℕ) → IsSure known coming going n → IsSure known' coming going n
sure_same known known' same coming going zero is = same 0 ∙ is
sure_same known known' same coming going (suc t) is = elim is [
  | inl kept ↦ inl (λ n from to. same n ∙ kept n from to)
  | inr both ↦ inr (sure_same known known' same coming going t both.0, (both.1.0, both.1.1, both.1.2, same both.1.0 ∙ both.1.3))
]

module _ (r : ℕ → ℕ) (one_one : IsOneOne r) (low : r 0 ≡ 0) (high : r 1 ≡ 1) (variables : List Variable) where
  pub found : (x : ℕ) → slice_get (map (renamed_variable r) variables) x ≡ option_map (renamed_variable r) (slice_get variables x)
  found x = slice_get-map (renamed_variable r) variables x

  constant_same : (net : ℕ) → constant_trit (r net) ≡ constant_trit net
  constant_same net =
      let is_low : (r net == 0) ≡ (net == 0) = ap (λ z. r net == z) (sym low) ∙ same_test r one_one net 0 in
      let is_high : (r net == 1) ≡ (net == 1) = ap (λ z. r net == z) (sym high) ∙ same_test r one_one net 1 in
      ap (λ b. if b then level.Zero else (if r net == 1 then level.One else level.X)) is_low
      ∙ ap (λ b. if net == 0 then level.Zero else (if b then level.One else level.X)) is_high

  pub has_same : (clause : List Literal) → has_variables (map (renamed_variable r) variables) clause ≡ has_variables variables clause
  has_same [] = refl
  has_same (literal ∷ clause) =
      ap (λ n. nat_lt literal.variable n && has_variables (map (renamed_variable r) variables) clause) (length-map variables (renamed_variable r))
      ∙ ap (λ b. nat_lt literal.variable (length variables) && b) (has_same clause)

  -- ---- tables

  settled_same : (last : Bool) (v : Option Variable) → settled_net last (option_map (renamed_variable r) v) ≡ option_map r (settled_net last v)
  settled_same false None = refl
  settled_same false (Some (First net)) = refl
  settled_same false (Some (Last net)) = refl
  settled_same false (Some (Span saying)) = refl
  settled_same false (Some (Flips inputs count)) = refl
  settled_same true None = refl
  settled_same true (Some (First net)) = refl
  settled_same true (Some (Last net)) = refl
  settled_same true (Some (Span saying)) = refl
  settled_same true (Some (Flips inputs count)) = refl

  if_same : (o : Option ℕ) (bit : Bool) (net : ℕ) (rest : Level) → trit_if (option_map r o) bit (r net) rest ≡ trit_if o bit net rest
  if_same None bit net rest = refl
  if_same (Some other) bit net rest = ap (λ b. if b then level_from bit else rest) (same_test r one_one other net)

  settled_trit_same : (last : Bool) (body : List Literal) (net : ℕ)
      → settled_trit last (map (renamed_variable r) variables) body (r net) ≡ settled_trit last variables body net
  settled_trit_same last [] net = constant_same net
  settled_trit_same last (literal ∷ body) net =
      ap (λ o. trit_if (settled_net last o) (not literal.positive) (r net) (settled_trit last (map (renamed_variable r) variables) body (r net))) (found literal.variable)
      ∙ ap (λ o. trit_if o (not literal.positive) (r net) (settled_trit last (map (renamed_variable r) variables) body (r net)))
      (settled_same last (slice_get variables literal.variable))
      ∙ if_same (settled_net last (slice_get variables literal.variable)) (not literal.positive) net (settled_trit last (map (renamed_variable r) variables) body (r net))
      ∙ ap (trit_if (settled_net last (slice_get variables literal.variable)) (not literal.positive) net) (settled_trit_same last body net)

  settled_clause_same : (last : Bool) (gate : NumberedGate) (head : Literal) (body : List Literal)
      → is_settled_clause (map (renamed_variable r) variables) last (renamed_gate r gate) head body ≡ is_settled_clause variables last gate head body
  settled_clause_same last gate head body =
      ap (λ levels. level_eq (level_from head.positive) (table gate.kind levels))
      (same_map r (settled_trit last (map (renamed_variable r) variables) body) (settled_trit last variables body) gate.inputs (settled_trit_same last body))

  pub settled_of_same : (v : Option Variable) → settled_of (option_map (renamed_variable r) v) ≡ option_map (λ (it : Bool × ℕ). (it.0, r it.1)) (settled_of v)
  settled_of_same None = refl
  settled_of_same (Some (First net)) = refl
  settled_of_same (Some (Last net)) = refl
  settled_of_same (Some (Span saying)) = refl
  settled_of_same (Some (Flips inputs count)) = refl

  pub table_same : (this that : Numbered) → IsRenaming this that r → (head : Literal) (body : List Literal) (it : Option (Bool × ℕ))
      → IsByTableOf this variables head body it → IsByTableOf that (map (renamed_variable r) variables) head body (option_map (λ (it : Bool × ℕ). (it.0, r it.1)) it)
  table_same this that renaming head body None is = absurd is
  table_same this that renaming head body (Some it) is = (
    renaming.driven it.1 is.0,
    ap (λ (g : NumberedGate). is_settled_clause (map (renamed_variable r) variables) it.0 g head body) (renaming.drivers it.1 is.0)
        ∙ settled_clause_same it.0 (driver this it.1) head body
        ∙ is.1,
  )

  -- ---- rests

  rest_same : (net : ℕ) (bit : Bool) (place : ℕ) (positive : Bool) (v : Option Variable)
      → is_at_rest (r net) bit place positive (option_map (renamed_variable r) v) ≡ is_at_rest net bit place positive v
  rest_same net bit place true None = refl
  rest_same net bit place false None = refl
  rest_same net bit place true (Some (First other)) = refl
  rest_same net bit place false (Some (First other)) = refl
  rest_same net bit place true (Some (Last other)) = ap (λ b. b && level_is true (not bit)) (same_test r one_one other net)
  rest_same net bit place false (Some (Last other)) = ap (λ b. b && level_is false (not bit)) (same_test r one_one other net)
  rest_same net bit place true (Some (Span saying)) =
      ap (λ b. b && (nat_le saying.first place && is_none saying.last)) (same_test r one_one saying.net net)
  rest_same net bit place false (Some (Span saying)) = refl
  rest_same net bit place true (Some (Flips inputs count)) = refl
  rest_same net bit place false (Some (Flips inputs count)) = refl

  pub rests_same : (net : ℕ) (bit : Bool) (place : ℕ) (clause : List Literal)
      → are_at_rest (map (renamed_variable r) variables) (r net) bit place clause ≡ are_at_rest variables net bit place clause
  rests_same net bit place [] = refl
  rests_same net bit place (literal ∷ clause) =
      ap (λ o. is_at_rest (r net) bit place literal.positive o && are_at_rest (map (renamed_variable r) variables) (r net) bit place clause) (found literal.variable)
      ∙ ap (λ b. b && are_at_rest (map (renamed_variable r) variables) (r net) bit place clause) (rest_same net bit place literal.positive (slice_get variables literal.variable))
      ∙ ap (λ b. is_at_rest net bit place literal.positive (slice_get variables literal.variable) && b) (rests_same net bit place clause)

  -- ---- what literals say

  module _ (times times' : List Times) (same : AreRenamed r times times') where
    start_same : (net : ℕ) (bit : Bool) (o : Option Times) → start_saying (r net) bit o ≡ option_map (renamed_saying r) (start_saying net bit o)
    start_same net bit None = refl
    start_same net bit (Some it) = refl

    end_same : (net : ℕ) (bit : Bool) (o : Option Times) → end_saying (r net) bit o ≡ option_map (renamed_saying r) (end_saying net bit o)
    end_same net bit None = refl
    end_same net bit (Some it) = refl

    said_same : (positive : Bool) (v : Option Variable)
        → said_of times' positive (option_map (renamed_variable r) v) ≡ option_map (renamed_saying r) (said_of times positive v)
    said_same true None = refl
    said_same false None = refl
    said_same true (Some (First net)) = ap (start_saying (r net) true) (same net) ∙ start_same net true (slice_get times net)
    said_same false (Some (First net)) = ap (start_saying (r net) false) (same net) ∙ start_same net false (slice_get times net)
    said_same true (Some (Last net)) = ap (end_saying (r net) true) (same net) ∙ end_same net true (slice_get times net)
    said_same false (Some (Last net)) = ap (end_saying (r net) false) (same net) ∙ end_same net false (slice_get times net)
    said_same true (Some (Span saying)) = refl
    said_same false (Some (Span saying)) = refl
    said_same true (Some (Flips inputs count)) = refl
    said_same false (Some (Flips inputs count)) = refl

    says_same : (literal : Literal) → says (map (renamed_variable r) variables) times' literal ≡ option_map (renamed_saying r) (says variables times literal)
    says_same literal = ap (said_of times' literal.positive) (found literal.variable) ∙ said_same literal.positive (slice_get variables literal.variable)

    -- ---- gates

    from_same : (o : Option Saying) (net place : ℕ) (rest : Level) → trit_from (option_map (renamed_saying r) o) (r net) place rest ≡ trit_from o net place rest
    from_same None net place rest = refl
    from_same (Some s) net place rest =
        ap (λ b. if b && (nat_le s.first place && is_by place s.last) then level_from s.level else rest) (same_test r one_one s.net net)

    by_same : (body : List Literal) (net place : ℕ) → trit_by (map (renamed_variable r) variables) times' body (r net) place ≡ trit_by variables times body net place
    by_same [] net place = constant_same net
    by_same (literal ∷ body) net place =
        ap (λ o. trit_from o (r net) place (trit_by (map (renamed_variable r) variables) times' body (r net) place)) (says_same (negation literal))
        ∙ from_same (says variables times (negation literal)) net place (trit_by (map (renamed_variable r) variables) times' body (r net) place)
        ∙ ap (trit_from (says variables times (negation literal)) net place) (by_same body net place)

    known_same : (gate : NumberedGate) (body : List Literal) (bit : Bool) (place : ℕ)
        → is_known (map (renamed_variable r) variables) times' (renamed_gate r gate) body bit place ≡ is_known variables times gate body bit place
    known_same gate body bit place =
        ap (λ levels. level_eq (level_from bit) (table gate.kind levels))
        (same_map r (λ net. trit_by (map (renamed_variable r) variables) times' body net place) (λ net. trit_by variables times body net place) gate.inputs
        (λ net. by_same body net place))

    pub gate_same : (this that : Numbered) → IsRenaming this that r → (head : Literal) (body : List Literal)
        → IsGateClause this variables times head body → IsGateClause that (map (renamed_variable r) variables) times' head body
    gate_same this that renaming head body is = record {
      saying = renamed_saying r is.saying;
      said = says_same head ∙ ap (option_map (renamed_saying r)) is.said;
      driven = renaming.driven is.saying.net is.driven;
      sure = subst (λ (g : NumberedGate). IsSureOf (is_known (map (renamed_variable r) variables) times' g body is.saying.level)
          (steps_to g.delay is.saying.level) (steps_to g.delay (not is.saying.level)) (renamed_saying r is.saying))
          (sym (renaming.drivers is.saying.net is.driven))
          (λ n from to. sure_same (is_known variables times (driver this is.saying.net) body is.saying.level)
          (is_known (map (renamed_variable r) variables) times' (renamed_gate r (driver this is.saying.net)) body is.saying.level)
          (known_same (driver this is.saying.net) body is.saying.level)
          (steps_to (driver this is.saying.net).delay is.saying.level) (steps_to (driver this is.saying.net).delay (not is.saying.level)) n (is.sure n from to));
    }

    -- ---- nets

    part_of_same : (saying : Saying) (positive : Bool) (v : Option Variable)
        → is_part_of (renamed_saying r saying) positive (option_map (renamed_variable r) v) ≡ is_part_of saying positive v
    part_of_same saying true None = refl
    part_of_same saying false None = refl
    part_of_same saying true (Some (First net)) = refl
    part_of_same saying false (Some (First net)) = refl
    part_of_same saying true (Some (Last net)) = refl
    part_of_same saying false (Some (Last net)) = refl
    part_of_same saying true (Some (Span part)) =
        ap (λ b. b && (level_is part.level saying.level && (nat_le saying.first part.first && is_within part.last saying.last))) (same_test r one_one part.net saying.net)
    part_of_same saying false (Some (Span part)) = refl
    part_of_same saying true (Some (Flips inputs count)) = refl
    part_of_same saying false (Some (Flips inputs count)) = refl

    apart_same : (other saying : Saying) → is_apart (renamed_saying r other) (renamed_saying r saying) ≡ is_apart other saying
    apart_same other saying =
        ap (λ b. b && (level_is other.level (not saying.level)
        && (is_by (max other.first saying.first) other.last && is_by (max other.first saying.first) saying.last))) (same_test r one_one other.net saying.net)

    apart_from_same : (saying : Saying) (o : Option Saying) → is_apart_from (renamed_saying r saying) (option_map (renamed_saying r) o) ≡ is_apart_from saying o
    apart_from_same saying None = refl
    apart_from_same saying (Some other) = apart_same other saying

    net_by_same : (o : Option Saying) (positive : Bool) (v : Option Variable) (other : Option Saying)
        → net_by (option_map (renamed_saying r) o) positive (option_map (renamed_variable r) v) (option_map (renamed_saying r) other) ≡ net_by o positive v other
    net_by_same None positive v other = refl
    net_by_same (Some saying) positive v other =
        ap (λ b. b || is_apart_from (renamed_saying r saying) (option_map (renamed_saying r) other)) (part_of_same saying positive v)
        ∙ ap (λ b. is_part_of saying positive v || b) (apart_from_same saying other)

    net_same : (one other : Literal) → is_net_clause (map (renamed_variable r) variables) times' one other ≡ is_net_clause variables times one other
    net_same one other =
        ap (λ o. net_by o other.positive (slice_get (map (renamed_variable r) variables) other.variable) (says (map (renamed_variable r) variables) times' (negation other)))
        (says_same (negation one))
        ∙ ap (λ v. net_by (option_map (renamed_saying r) (says variables times (negation one))) other.positive v (says (map (renamed_variable r) variables) times' (negation other)))
        (found other.variable)
        ∙ ap (net_by (option_map (renamed_saying r) (says variables times (negation one))) other.positive (option_map (renamed_variable r) (slice_get variables other.variable)))
        (says_same (negation other))
        ∙ net_by_same (says variables times (negation one)) other.positive (slice_get variables other.variable) (says variables times (negation other))

    pub by_net_same : (clause : List Literal) → by_net (map (renamed_variable r) variables) times' clause ≡ by_net variables times clause
    by_net_same [] = refl
    by_net_same (one ∷ []) = refl
    by_net_same (one ∷ other ∷ []) = net_same one other
    by_net_same (one ∷ other ∷ more ∷ clause) = refl
