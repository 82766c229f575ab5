-- A certificate's text is a code.
use Rattle.std.proofs.Common.{◌≡◌, ℕ, ◌≤◌, ◌<◌, Bool, true, false, List, [], ◌∷◌, ◌++◌, length, Option, Some, None, Ok, refl, sym, ap, subst, ◌∙◌, append_assoc, arith}
use Rattle.std.specs.Prelude.{codes, decimal, map}
use Rattle.std.specs.List.{AllByRecursion}
use Rattle.std.proofs.lemmas.List.{append-nil}
use Rattle.std.proofs.lemmas.List.Concat.{flat_map-append, flat_map-cons}
use Rattle.std.proofs.lemmas.Fmt.{decimal_digit}
use Rattle.td_certificate.specs.declared.tree.Node.{Node}
use Rattle.td_certificate.specs.declared.question.Version.{Version}
use Rattle.td_certificate.specs.declared.question.Version.TheVariants.{First, Second, Third, Fourth}
use Rattle.td_certificate.specs.declared.certificate.Certificate.{Certificate}
use Rattle.td_certificate.specs.declared.certificate.Claim.{Claim}
use Rattle.td_certificate.specs.Questions.{Question, inputs_of}
use Rattle.td_certificate.specs.Spelling.{inputs, version_in, question_lines, question_text, version_line, circuit_line, time_line, high_lines, from_line, to_line, claim_lines, head_lines, ended, text_of, greatest, spelling, IsNode, IsHigh, MayClaim, HasSpelling}
use Rattle.td_certificate.specs.Text.{bits, node_line}
use Rattle.td_certificate.specs.Reading.{Reading, ◌>>=◌, number_at, number_from, number_or_none, bit_of, row_behind, version_at, has_inputs, question_at, leaves_in, may_claim_none, high_at, claim_of, timed_at, claim_behind, claim_at, nodes_at, with_fields, lines_at, certificate_at}
use Rattle.td_certificate.proofs.Codes.{IsCode, IsCode-then, IsCode-done}
use Rattle.td_certificate.proofs.FieldCodes.{IsLimit, Always, AtMost, IsFrom, number_text, number_code, number_from_code}
use Rattle.td_certificate.proofs.VectorCodes.{behind_word, number_behind_code, HasLength, vector_text, vector_behind_code, mapped_code, IsCode-as}
use Rattle.td_certificate.proofs.ToldCodes.{told_text, MayBeTold, told_code}
use Rattle.td_certificate.proofs.VersionCode.{version_text, version_code}
use Rattle.td_certificate.proofs.QuestionCodes.{IsQuestion, question_code, some_inputs_of}
use Rattle.td_certificate.proofs.NodeCodes.{greatest_limit, MayStand, to_node, from_node}
use Rattle.td_certificate.proofs.TreeCodes.{AreNodes, nodes_text, nodes_code}

-- ---- the claim, from its last field to the first, where those before are known

abbrev pub text_from_second : Claim → List ℕ
text_from_second claim = codes "to " ++ vector_text claim.pair.second

abbrev IsFromSecond : ℕ → ℕ → ℕ → List Bool → Claim → Type 0
IsFromSecond i t h f claim = HasLength i claim.pair.second × (claim ≡ claim_of t h f claim.pair.second)

abbrev read_second : ℕ → ℕ → ℕ → List Bool → List ℕ → Reading Claim
read_second i t h f bytes = row_behind (codes "to ") bit_of i bytes >>= λ second. Ok (claim_of t h f second.0, second.1)

from_second : (i t h : ℕ) (f : List Bool) → IsCode (IsFromSecond i t h f) text_from_second (read_second i t h f)
from_second i t h f =
    mapped_code (λ s. claim_of t h f s) (λ (claim : Claim). claim.pair.second) (HasLength i) (λ bs. codes "to " ++ vector_text bs) (row_behind (codes "to ") bit_of i) (λ s. refl)
    (vector_behind_code (codes "to ") i)

abbrev pub text_from_first : Claim → List ℕ
text_from_first claim = (codes "from " ++ vector_text claim.pair.first) ++ text_from_second claim

record IsFromFirst (i t h : ℕ) (claim : Claim) : Type 0 where
  first : length claim.pair.first ≡ i
  second : length claim.pair.second ≡ i
  is : claim ≡ claim_of t h claim.pair.first claim.pair.second

abbrev read_first : ℕ → ℕ → ℕ → List ℕ → Reading Claim
read_first i t h bytes = row_behind (codes "from ") bit_of i bytes >>= λ first. read_second i t h first.0 first.1

from_first : (i t h : ℕ) → IsCode (IsFromFirst i t h) text_from_first (read_first i t h)
from_first i t h =
    IsCode-then (λ (claim : Claim). claim.pair.first) (HasLength i) (λ bs. codes "from " ++ vector_text bs) (row_behind (codes "from ") bit_of i) (λ f claim. IsFromSecond i t h f claim) (λ f claim. text_from_second claim)
    (λ f bytes. read_second i t h f bytes) (IsFromFirst i t h) text_from_first (vector_behind_code (codes "from ") i)
    (λ f u. from_second i t h f)
    (record {
      down = λ claim u. (u.first, (u.second, u.is), refl);
      up = λ f claim u w.
          let p : claim.pair.first ≡ f = ap (λ (d : Claim). d.pair.first) w.1 in
          (record { first = ap length p ∙ u; second = w.0; is = w.1 ∙ ap (λ (m : List Bool). claim_of t h m claim.pair.second) (sym p) }, ap (λ (m : List Bool). (codes "from " ++ vector_text m) ++ text_from_second claim) p);
    })

abbrev pub high_text : Version → ℕ → List ℕ
high_text First h = []
high_text Second h = []
high_text Third h = []
high_text Fourth h = codes "high " ++ number_text 10 h

high_code : (v : Version) (t : ℕ) → IsCode (IsHigh v t) (high_text v) (high_at v t)
unfolding high_at
high_code First t = IsCode-done t
high_code Second t = IsCode-done t
high_code Third t = IsCode-done t
high_code Fourth t = number_behind_code (codes "high ") greatest 10 greatest_limit

abbrev pub text_from_high : Version → Claim → List ℕ
text_from_high v claim = high_text v claim.high ++ text_from_first claim

record IsFromHigh (v : Version) (i t : ℕ) (claim : Claim) : Type 0 where
  high : IsHigh v t claim.high
  first : length claim.pair.first ≡ i
  second : length claim.pair.second ≡ i
  is : claim ≡ claim_of t claim.high claim.pair.first claim.pair.second

timed_code : (v : Version) (i t : ℕ) → IsCode (IsFromHigh v i t) (text_from_high v) (timed_at v i t)
unfolding timed_at
timed_code v i t =
    IsCode-then (λ (claim : Claim). claim.high) (IsHigh v t) (high_text v) (high_at v t) (λ h claim. IsFromFirst i t h claim) (λ h claim. text_from_first claim)
    (λ h bytes. read_first i t h bytes) (IsFromHigh v i t) (text_from_high v) (high_code v t)
    (λ h u. from_first i t h)
    (record {
      down = λ claim u. (u.high, record { first = u.first; second = u.second; is = u.is }, refl);
      up = λ h claim u w.
          let p : claim.high ≡ h = ap (λ (d : Claim). d.high) w.is in (
            record { high = subst (IsHigh v t) (sym p) u; first = w.first; second = w.second; is = w.is ∙ ap (λ (m : ℕ). claim_of t m claim.pair.first claim.pair.second) (sym p) },
            ap (λ (m : ℕ). high_text v m ++ text_from_first claim) p,
          );
    })

-- ---- with the time, or none

abbrev some_claim : Claim → Option Claim
some_claim claim = Some claim

abbrev claim_or : Option Claim → Claim
claim_or None = claim_of 0 0 [] []
claim_or (Some claim) = claim

abbrev pub time_in : Option Claim → Option ℕ
time_in None = None
time_in (Some claim) = Some claim.time

abbrev pub behind_time_text : Version → Option Claim → List ℕ
behind_time_text v None = []
behind_time_text v (Some claim) = text_from_high v claim

abbrev IsBehindTime : Version → ℕ → Option ℕ → Option Claim → Type 0
IsBehindTime v i None z = z ≡ None
IsBehindTime v i (Some t) z = IsFromHigh v i t (claim_or z) × (z ≡ some_claim (claim_or z))

behind_time_code : (v : Version) (i : ℕ) (o : Option ℕ) → IsCode (IsBehindTime v i o) (behind_time_text v) (claim_behind v i o)
unfolding claim_behind
behind_time_code v i None =
    IsCode-as (λ z. z ≡ None) (IsBehindTime v i None) (λ z. []) (behind_time_text v) (λ bytes. Ok (None, bytes)) (λ z u. u) (λ z u. u) (λ z e. ap (behind_time_text v) e) (IsCode-done None)
behind_time_code v i (Some t) =
    IsCode-as (IsBehindTime v i (Some t)) (IsBehindTime v i (Some t)) (λ z. text_from_high v (claim_or z)) (behind_time_text v)
    (λ bytes. timed_at v i t bytes >>= λ claim. Ok (some_claim claim.0, claim.1)) (λ z u. u) (λ z u. u) (λ z u. ap (behind_time_text v) u.1)
    (mapped_code some_claim claim_or (IsFromHigh v i t) (text_from_high v) (timed_at v i t) (λ claim. refl) (timed_code v i t))

is_fourth : (v : Version) → may_claim_none v ≡ true → v ≡ Fourth
is_fourth First e = absurd (let wrong : false ≡ true = e in cc)
is_fourth Second e = absurd (let wrong : false ≡ true = e in cc)
is_fourth Third e = absurd (let wrong : false ≡ true = e in cc)
is_fourth Fourth e = refl

abbrev told_claim_text : Version → Option Claim → List ℕ
told_claim_text v z = told_text (time_in z) ++ behind_time_text v z

claim_down : (v : Version) (i : ℕ) (z : Option Claim) → MayClaim v i z
    → MayBeTold (may_claim_none v) (time_in z) × IsBehindTime v i (time_in z) z × (told_claim_text v z ≡ told_text (time_in z) ++ behind_time_text v z)
claim_down v i None u = (ap may_claim_none u, refl, refl)
claim_down v i (Some claim) u = (u.time, (record { high = u.high; first = u.first; second = u.second; is = refl }, refl), refl)

claim_up : (v : Version) (i : ℕ) (o : Option ℕ) (z : Option Claim) → MayBeTold (may_claim_none v) o → IsBehindTime v i o z
    → MayClaim v i z × (told_claim_text v z ≡ told_text o ++ behind_time_text v z)
claim_up v i None None u w = (is_fourth v u, refl)
claim_up v i None (Some claim) u w = absurd (let wrong : some_claim claim ≡ None = w in cc)
claim_up v i (Some t) None u w = absurd (let wrong : None ≡ some_claim (claim_of 0 0 [] []) = w.1 in cc)
claim_up v i (Some t) (Some claim) u w =
    let p : claim.time ≡ t = ap (λ (d : Claim). d.time) w.0.is in (
      record { time = subst (λ n. n ≤ greatest) (sym p) u; high = subst (λ n. IsHigh v n claim.high) (sym p) w.0.high; first = w.0.first; second = w.0.second },
      ap (λ (n : ℕ). number_text 10 n ++ text_from_high v claim) p,
    )

abbrev pub claim_text : Version → Option Claim → List ℕ
claim_text v z = codes "time " ++ told_claim_text v z

claim_code : (v : Version) (i : ℕ) → IsCode (MayClaim v i) (claim_text v) (claim_at v i)
unfolding claim_at
claim_code v i =
    behind_word (codes "time ") (MayClaim v i) (told_claim_text v) (λ bytes. number_or_none (may_claim_none v) bytes >>= λ time. claim_behind v i time.0 time.1)
    (IsCode-then time_in (MayBeTold (may_claim_none v)) told_text (number_or_none (may_claim_none v)) (λ o z. IsBehindTime v i o z) (λ o z. behind_time_text v z)
    (λ o bytes. claim_behind v i o bytes) (MayClaim v i) (told_claim_text v) (told_code (may_claim_none v))
    (λ o u. behind_time_code v i o)
    (record { down = λ z u. claim_down v i z u; up = λ o z u w. claim_up v i o z u w }))

-- ---- the certificate, from its last field to the first, where those before are known

abbrev IsFromTree : Version → ℕ → Question → Option Claim → Certificate → Type 0
IsFromTree v g q z c = AreNodes (leaves_in v) 1 c.tree × (c ≡ with_fields g q z c.tree)

from_tree : (v : Version) (g : ℕ) (q : Question) (z : Option Claim) → IsCode (IsFromTree v g q z) (λ c. nodes_text c.tree) (λ bytes. nodes_at (leaves_in v) 1 bytes >>= λ tree. Ok (with_fields g q z tree.0, tree.1))
from_tree v g q z =
    mapped_code (λ tree. with_fields g q z tree) (λ (c : Certificate). c.tree) (AreNodes (leaves_in v) 1) nodes_text (nodes_at (leaves_in v) 1) (λ tree. refl) (nodes_code (leaves_in v) 1)

abbrev pub text_from_claim : Version → Certificate → List ℕ
text_from_claim v c = claim_text v c.claim ++ nodes_text c.tree

record IsFromClaim (v : Version) (i g : ℕ) (q : Question) (c : Certificate) : Type 0 where
  claim : MayClaim v i c.claim
  nodes : AreNodes (leaves_in v) 1 c.tree
  is : c ≡ with_fields g q c.claim c.tree

abbrev read_claim : Version → ℕ → ℕ → Question → List ℕ → Reading Certificate
read_claim v i g q bytes = claim_at v i bytes >>= λ claim. nodes_at (leaves_in v) 1 claim.1 >>= λ tree. Ok (with_fields g q claim.0 tree.0, tree.1)

from_claim : (v : Version) (i g : ℕ) (q : Question) → IsCode (IsFromClaim v i g q) (text_from_claim v) (read_claim v i g q)
from_claim v i g q =
    IsCode-then (λ (c : Certificate). c.claim) (MayClaim v i) (claim_text v) (claim_at v i) (λ z c. IsFromTree v g q z c) (λ z c. nodes_text c.tree)
    (λ z bytes. nodes_at (leaves_in v) 1 bytes >>= λ tree. Ok (with_fields g q z tree.0, tree.1)) (IsFromClaim v i g q) (text_from_claim v) (claim_code v i)
    (λ z u. from_tree v g q z)
    (record {
      down = λ c u. (u.claim, (u.nodes, u.is), refl);
      up = λ z c u w.
          let p : c.claim ≡ z = ap (λ (d : Certificate). d.claim) w.1 in (
            record { claim = subst (MayClaim v i) (sym p) u; nodes = w.0; is = w.1 ∙ ap (λ (m : Option Claim). with_fields g q m c.tree) (sym p) },
            ap (λ (m : Option Claim). claim_text v m ++ nodes_text c.tree) p,
          );
    })

abbrev pub text_from_question : Version → Certificate → List ℕ
text_from_question v c = question_text v c.question ++ text_from_claim v c

record IsFromQuestion (v : Version) (i g : ℕ) (c : Certificate) : Type 0 where
  question : IsQuestion v i c.question
  claim : MayClaim v i c.claim
  nodes : AreNodes (leaves_in v) 1 c.tree
  is : c ≡ with_fields g c.question c.claim c.tree

abbrev read_question : Version → ℕ → ℕ → List ℕ → Reading Certificate
read_question v i g bytes = question_at v i bytes >>= λ question. read_claim v i g question.0 question.1

from_question : (v : Version) (i g : ℕ) → (has_inputs v ≡ true → 0 < i) → i ≤ 4096 → IsCode (IsFromQuestion v i g) (text_from_question v) (read_question v i g)
from_question v i g some few =
    IsCode-then (λ (c : Certificate). c.question) (IsQuestion v i) (question_text v) (question_at v i) (λ q c. IsFromClaim v i g q c) (λ q c. text_from_claim v c)
    (λ q bytes. read_claim v i g q bytes) (IsFromQuestion v i g) (text_from_question v) (question_code v i some few)
    (λ q u. from_claim v i g q)
    (record {
      down = λ c u. (u.question, record { claim = u.claim; nodes = u.nodes; is = u.is }, refl);
      up = λ q c u w.
          let p : c.question ≡ q = ap (λ (d : Certificate). d.question) w.is in (
            record {
              question = subst (IsQuestion v i) (sym p) u;
              claim = w.claim;
              nodes = w.nodes;
              is = w.is ∙ ap (λ (m : Question). with_fields g m c.claim c.tree) (sym p);
            },
            ap (λ (m : Question). question_text v m ++ text_from_claim v c) p,
          );
    })

abbrev pub text_from_gates : Version → Certificate → List ℕ
text_from_gates v c = number_text 10 c.gates ++ text_from_question v c

record IsFromGates (v : Version) (i : ℕ) (c : Certificate) : Type 0 where
  gates : c.gates ≤ 200000
  question : IsQuestion v i c.question
  claim : MayClaim v i c.claim
  nodes : AreNodes (leaves_in v) 1 c.tree

gates_limit : IsLimit 200000 10
gates_limit = record { high = omega arith; close_is = refl }

abbrev read_gates : Version → ℕ → List ℕ → Reading Certificate
read_gates v i bytes = number_at 200000 10 bytes >>= λ gates. read_question v i gates.0 gates.1

from_gates : (v : Version) (i : ℕ) → (has_inputs v ≡ true → 0 < i) → i ≤ 4096 → IsCode (IsFromGates v i) (text_from_gates v) (read_gates v i)
from_gates v i some few =
    IsCode-then (λ (c : Certificate). c.gates) (AtMost 200000) (number_text 10) (number_at 200000 10) (λ g c. IsFromQuestion v i g c) (λ g c. text_from_question v c)
    (λ g bytes. read_question v i g bytes) (IsFromGates v i) (text_from_gates v) (number_code 200000 10 gates_limit)
    (λ g u. from_question v i g some few)
    (record {
      down = λ c u. (u.gates, record { question = u.question; claim = u.claim; nodes = u.nodes; is = refl }, refl);
      up = λ g c u w.
          let p : c.gates ≡ g = ap (λ (d : Certificate). d.gates) w.is in (
            record { gates = subst (AtMost 200000) (sym p) u; question = w.question; claim = w.claim; nodes = w.nodes },
            ap (λ (m : ℕ). number_text 10 m ++ text_from_question v c) p,
          );
    })

abbrev pub text_from_inputs : Version → Certificate → List ℕ
text_from_inputs v c = number_text 32 (inputs c) ++ text_from_gates v c

record IsFromInputs (v : Version) (c : Certificate) : Type 0 where
  inputs : IsFrom (has_inputs v) 4096 (inputs c)
  rest : IsFromGates v (inputs_of c.question) c

inputs_limit : IsLimit 4096 32
inputs_limit = record { high = omega arith; close_is = refl }

abbrev read_inputs : Version → List ℕ → Reading Certificate
read_inputs v bytes = number_from (has_inputs v) 4096 32 bytes >>= λ inputs. read_gates v inputs.0 inputs.1

from_inputs : (v : Version) → IsCode (IsFromInputs v) (text_from_inputs v) (read_inputs v)
from_inputs v =
    IsCode-then inputs (IsFrom (has_inputs v) 4096) (number_text 32) (number_from (has_inputs v) 4096 32) (λ i c. IsFromGates v i c) (λ i c. text_from_gates v c)
    (λ i bytes. read_gates v i bytes) (IsFromInputs v) (text_from_inputs v) (number_from_code (has_inputs v) 4096 32 inputs_limit (omega arith))
    (λ i u. from_gates v i u.1 u.0)
    (record {
      down = λ c u. (u.inputs, u.rest, refl);
      up = λ i c u w.
          let p : inputs c ≡ i = w.question.inputs in
          (record { inputs = subst (IsFrom (has_inputs v) 4096) (sym p) u; rest = subst (λ (n : ℕ). IsFromGates v n c) (sym p) w }, ap (λ (n : ℕ). number_text 32 n ++ text_from_gates v c) p);
    })

-- ---- by the version

-- it has a spelling of this version
record IsOfVersion (v : Version) (c : Certificate) : Type 0 where
  has : HasSpelling c
  version : version_in c ≡ v

are_nodes : (v : Version) (nodes : List Node) → AllByRecursion (MayStand (leaves_in v)) nodes → AllByRecursion (IsNode v) nodes
are_nodes v [] all = tt
are_nodes v (n ∷ nodes) all = (to_node v n all.0, are_nodes v nodes all.1)

may_stand : (v : Version) (nodes : List Node) → AllByRecursion (IsNode v) nodes → AllByRecursion (MayStand (leaves_in v)) nodes
may_stand v [] all = tt
may_stand v (n ∷ nodes) all = (from_node v n all.0, may_stand v nodes all.1)

to_version : (v : Version) (c : Certificate) → IsFromInputs v c → IsOfVersion v c
to_version v c u =
    let version : version_in c ≡ v = u.rest.question.version in
    record {
      has = record {
        inputs = u.inputs.0;
        gates = u.rest.gates;
        pins = u.rest.question.pins;
        flips = u.rest.question.flips;
        count = u.rest.question.count;
        moments = u.rest.question.moments;
        terms = u.rest.question.terms;
        claim = subst (λ (w : Version). MayClaim w (inputs_of c.question) c.claim) (sym version) u.rest.claim;
        nodes = subst (λ (w : Version). AllByRecursion (IsNode w) c.tree) (sym version) (are_nodes v c.tree u.rest.nodes.each);
        tree = u.rest.nodes.counted;
      };
      version = version;
    }

from_version : (v : Version) (c : Certificate) → IsOfVersion v c → IsFromInputs v c
from_version v c u = record {
  inputs = (u.has.inputs, λ some. some_inputs_of v c.question u.has.pins u.has.flips u.has.count u.version some);
  rest = record {
    gates = u.has.gates;
    question = record { version = u.version; inputs = refl; pins = u.has.pins; flips = u.has.flips; count = u.has.count; moments = u.has.moments; terms = u.has.terms };
    claim = subst (λ (w : Version). MayClaim w (inputs_of c.question) c.claim) u.version u.has.claim;
    nodes = record { each = may_stand v c.tree (subst (λ (w : Version). AllByRecursion (IsNode w) c.tree) u.version u.has.nodes); counted = u.has.tree };
  };
}

abbrev pub lines_text : Version → Certificate → List ℕ
lines_text v c = codes "circuit " ++ text_from_inputs v c

lines_code : (v : Version) → IsCode (IsOfVersion v) (lines_text v) (lines_at v)
unfolding lines_at
lines_code v =
    IsCode-as (IsFromInputs v) (IsOfVersion v) (lines_text v) (lines_text v) (lines_at v) (to_version v) (from_version v) (λ c u. refl)
    (behind_word (codes "circuit ") (IsFromInputs v) (text_from_inputs v) (read_inputs v) (from_inputs v))

-- ---- the whole

regroup : (ve ci i sp g q cl nl n : List ℕ)
    → ((ve ++ nl) ++ (((((ci ++ i) ++ sp) ++ g) ++ nl) ++ (q ++ cl))) ++ n
    ≡ (ve ++ nl) ++ (ci ++ ((i ++ sp) ++ ((g ++ nl) ++ (q ++ (cl ++ n)))))
regroup ve ci i sp g q cl nl n = simp append_assoc

pub regroup_claim : (ti t h fr f so s nl : List ℕ)
    → ((ti ++ t) ++ nl) ++ (h ++ (((fr ++ f) ++ nl) ++ ((so ++ s) ++ nl))) ≡ ti ++ ((t ++ nl) ++ (h ++ ((fr ++ (f ++ nl)) ++ (so ++ (s ++ nl)))))
regroup_claim ti t h fr f so s nl = simp append_assoc

pub high_lines_text : (v : Version) (h : ℕ) → text_of (high_lines v h) ≡ high_text v h
high_lines_text First h = refl
high_lines_text Second h = refl
high_lines_text Third h = refl
high_lines_text Fourth h = flat_map-cons ended (codes "high " ++ decimal h) [] ∙ append-nil (ended (codes "high " ++ decimal h)) ∙ append_assoc (codes "high ") (decimal h) (codes "\n")

-- the text of the lines of a claim
pub timed_lines_text : (v : Version) (claim : Claim)
    → text_of (claim_lines v (Some claim)) ≡ ended (time_line claim) ++ (high_text v claim.high ++ (ended (from_line claim) ++ ended (to_line claim)))
timed_lines_text v claim =
    let pair : List (List ℕ) = from_line claim ∷ to_line claim ∷ [] in
    let high : List (List ℕ) = high_lines v claim.high in
    flat_map-cons ended (time_line claim) (high ++ pair)
    ∙ ap (λ (t : List ℕ). ended (time_line claim) ++ t)
    (flat_map-append ended high pair
    ∙ ap (λ (t : List ℕ). t ++ text_of pair) (high_lines_text v claim.high)
    ∙ ap (λ (t : List ℕ). high_text v claim.high ++ t)
    (flat_map-cons ended (from_line claim) (to_line claim ∷ []) ∙ ap (λ (t : List ℕ). ended (from_line claim) ++ t) (flat_map-cons ended (to_line claim) [] ∙ append-nil (ended (to_line claim)))))

pub claim_lines_text : (v : Version) (z : Option Claim) → text_of (claim_lines v z) ≡ claim_text v z
claim_lines_text v None = flat_map-cons ended (codes "time none") [] ∙ append-nil (ended (codes "time none"))
claim_lines_text v (Some claim) =
    timed_lines_text v claim
    ∙ regroup_claim (codes "time ") (decimal claim.time) (high_text v claim.high) (codes "from ") (bits claim.pair.first) (codes "to ") (bits claim.pair.second) (10 ∷ [])

-- the text of the lines before the tree
pub head_text : (c : Certificate) → text_of (head_lines c)
    ≡ ended (version_line (version_in c)) ++ (ended (circuit_line c) ++ (question_text (version_in c) c.question ++ claim_text (version_in c) c.claim))
head_text c =
    let claim : List (List ℕ) = claim_lines (version_in c) c.claim in
    flat_map-cons ended (version_line (version_in c)) (circuit_line c ∷ (question_lines (version_in c) c.question ++ claim))
    ∙ ap (λ (t : List ℕ). ended (version_line (version_in c)) ++ t) (flat_map-cons ended (circuit_line c) (question_lines (version_in c) c.question ++ claim)
    ∙ ap (λ (t : List ℕ). ended (circuit_line c) ++ t) (flat_map-append ended (question_lines (version_in c) c.question) claim
    ∙ ap (λ (t : List ℕ). question_text (version_in c) c.question ++ t) (claim_lines_text (version_in c) c.claim)))

version_line_text : (v : Version) → ended (version_line v) ≡ version_text v
version_line_text First = ap (λ (t : List ℕ). ended (codes "tdelay-cert " ++ t)) (decimal_digit 1 (omega arith))
version_line_text Second = ap (λ (t : List ℕ). ended (codes "tdelay-cert " ++ t)) (decimal_digit 2 (omega arith))
version_line_text Third = ap (λ (t : List ℕ). ended (codes "tdelay-cert " ++ t)) (decimal_digit 3 (omega arith))
version_line_text Fourth = ap (λ (t : List ℕ). ended (codes "tdelay-cert " ++ t)) (decimal_digit 4 (omega arith))

pub spelling_is : (c : Certificate) → spelling c ≡ version_text (version_in c) ++ lines_text (version_in c) c
unfolding spelling
spelling_is c =
    flat_map-append ended (head_lines c) (map node_line c.tree)
    ∙ ap (λ (t : List ℕ). t ++ nodes_text c.tree) (head_text c)
    ∙ regroup (version_line (version_in c)) (codes "circuit ") (decimal (inputs c)) (codes " ") (decimal c.gates) (question_text (version_in c) c.question) (claim_text (version_in c) c.claim) (10 ∷ []) (nodes_text c.tree)
    ∙ ap (λ (t : List ℕ). t ++ lines_text (version_in c) c) (version_line_text (version_in c))

pub certificate_code : IsCode HasSpelling spelling certificate_at
unfolding certificate_at
certificate_code =
    IsCode-then (λ (c : Certificate). version_in c) Always version_text version_at (λ v c. IsOfVersion v c) (λ v c. lines_text v c) lines_at HasSpelling spelling version_code
    (λ v u. lines_code v)
    (record {
      down = λ c u. (tt, record { has = u; version = refl }, spelling_is c);
      up = λ v c u w. (w.has, spelling_is c ∙ ap (λ (x : Version). version_text x ++ lines_text x c) w.version);
    })
