-- A node's line is a code, by the leaves that may stand there.
use Rattle.std.proofs.Common.{◌≡◌, ℕ, ◌≤◌, true, false, List, [], ◌∷◌, ◌++◌, Ok, Some, None, refl, sym, ap, subst, ◌∙◌, append_assoc, arith}
use Rattle.std.specs.Prelude.{codes}
use Rattle.td_certificate.specs.declared.tree.BoundedBy.{BoundedBy}
use Rattle.td_certificate.specs.declared.tree.BoundedBy.TheVariants.{Arrival, Possible, Both, Edges, EdgesAndPossible}
use Rattle.td_certificate.specs.declared.tree.Node.{Node}
use Rattle.td_certificate.specs.declared.tree.Node.TheVariants as node
use Rattle.td_certificate.specs.declared.question.Version.{Version}
use Rattle.td_certificate.specs.declared.question.Version.TheVariants.{First, Second, Third, Fourth}
use Rattle.td_certificate.specs.declared.fields.Leaves.{Leaves}
use Rattle.td_certificate.specs.declared.fields.Leaves.TheVariants as leaves
use Rattle.td_certificate.specs.Trees.{is_of_edges}
use Rattle.td_certificate.specs.Steps.{Refuted, or_none, steps_text, IsRefutedText}
use Rattle.td_certificate.proofs.StepCodes.{refuted_tail, refuted_code}
use Rattle.td_certificate.specs.Spelling.{ended, greatest, IsNode}
use Rattle.td_certificate.specs.Text.{letter, node_line}
use Rattle.td_certificate.specs.Reading.{◌>>=◌, literal, number_behind, written_as, domain_byte, domains, domain_of as domain_of_byte, letter_at, Tag, SplitTag, BoundTag, PointTag, EmptyTag, RefutedTag, tag_byte, tags, tag_at, behind_tag, node_at, leaves_in}
use Rattle.td_certificate.specs.StepReading.{refuted_at}
use Rattle.td_certificate.proofs.Codes.{IsCode, IsCode-then, IsCode-done}
use Rattle.td_certificate.proofs.FieldCodes.{IsLimit, AtMost, number_text}
use Rattle.td_certificate.proofs.VectorCodes.{behind_word, number_behind_code, IsLetter, written_from, char_code, IsCode-as, mapped_code}

-- ---- letters

-- the domains that a leaf may name
abbrev pub IsDomain : Leaves → BoundedBy → Type 0
IsDomain leaves.First domain = is_of_edges domain ≡ false
IsDomain leaves.Later domain = is_of_edges domain ≡ false
IsDomain leaves.Any domain = Unit {0}

domain_again : (here : Leaves) (x : BoundedBy) → IsDomain here x → domain_of_byte here (domain_byte x) ≡ Some x
domain_again leaves.First Arrival v = refl
domain_again leaves.First Possible v = refl
domain_again leaves.First Both v = refl
domain_again leaves.First Edges v = absurd (let f : true ≡ false = v in cc)
domain_again leaves.First EdgesAndPossible v = absurd (let f : true ≡ false = v in cc)
domain_again leaves.Later Arrival v = refl
domain_again leaves.Later Possible v = refl
domain_again leaves.Later Both v = refl
domain_again leaves.Later Edges v = absurd (let f : true ≡ false = v in cc)
domain_again leaves.Later EdgesAndPossible v = absurd (let f : true ≡ false = v in cc)
domain_again leaves.Any Arrival v = refl
domain_again leaves.Any Possible v = refl
domain_again leaves.Any Both v = refl
domain_again leaves.Any Edges v = refl
domain_again leaves.Any EdgesAndPossible v = refl

domain_letter : (here : Leaves) → IsLetter (IsDomain here) (domain_of_byte here) domain_byte
domain_letter leaves.First = record {
  some = Arrival;
  some_valid = refl;
  again = domain_again leaves.First;
  from = λ b x e. written_from (IsDomain leaves.First) domain_byte (domains leaves.First) (refl, (refl, (refl, tt))) b x e;
}
domain_letter leaves.Later = record {
  some = Arrival;
  some_valid = refl;
  again = domain_again leaves.Later;
  from = λ b x e. written_from (IsDomain leaves.Later) domain_byte (domains leaves.Later) (refl, (refl, (refl, tt))) b x e;
}
domain_letter leaves.Any = record {
  some = Arrival;
  some_valid = tt;
  again = domain_again leaves.Any;
  from = λ b x e. written_from (IsDomain leaves.Any) domain_byte (domains leaves.Any) (tt, (tt, (tt, (tt, (tt, tt))))) b x e;
}

letter_text : (x : BoundedBy) → letter x ≡ domain_byte x ∷ []
letter_text Arrival = refl
letter_text Possible = refl
letter_text Both = refl
letter_text Edges = refl
letter_text EdgesAndPossible = refl

pub letter_code : (here : Leaves) → IsCode (IsDomain here) letter (letter_at here)
unfolding letter_at
letter_code here =
    IsCode-as (IsDomain here) (IsDomain here) (λ x. domain_byte x ∷ []) letter (letter_at here) (λ x v. v) (λ x v. v) (λ x v. letter_text x)
    (char_code (IsDomain here) (domain_of_byte here) domain_byte (domain_letter here))

-- no leaf of the first version is empty, and none before the fourth is refuted
abbrev pub IsTag : Leaves → Tag → Type 0
IsTag leaves.First EmptyTag = ⊥
IsTag leaves.First RefutedTag = ⊥
IsTag leaves.First SplitTag = Unit {0}
IsTag leaves.First BoundTag = Unit {0}
IsTag leaves.First PointTag = Unit {0}
IsTag leaves.Later SplitTag = Unit {0}
IsTag leaves.Later BoundTag = Unit {0}
IsTag leaves.Later PointTag = Unit {0}
IsTag leaves.Later EmptyTag = Unit {0}
IsTag leaves.Later RefutedTag = ⊥
IsTag leaves.Any tag = Unit {0}

tag_again : (here : Leaves) (x : Tag) → IsTag here x → written_as tag_byte (tags here) (tag_byte x) ≡ Some x
tag_again leaves.First SplitTag v = refl
tag_again leaves.First BoundTag v = refl
tag_again leaves.First PointTag v = refl
tag_again leaves.First EmptyTag v = absurd v
tag_again leaves.First RefutedTag v = absurd v
tag_again leaves.Later SplitTag v = refl
tag_again leaves.Later BoundTag v = refl
tag_again leaves.Later PointTag v = refl
tag_again leaves.Later EmptyTag v = refl
tag_again leaves.Later RefutedTag v = absurd v
tag_again leaves.Any SplitTag v = refl
tag_again leaves.Any BoundTag v = refl
tag_again leaves.Any PointTag v = refl
tag_again leaves.Any EmptyTag v = refl
tag_again leaves.Any RefutedTag v = refl

tag_letter : (here : Leaves) → IsLetter (IsTag here) (λ b. written_as tag_byte (tags here) b) tag_byte
tag_letter leaves.First = record {
  some = SplitTag;
  some_valid = tt;
  again = tag_again leaves.First;
  from = λ b x e. written_from (IsTag leaves.First) tag_byte (tags leaves.First) (tt, (tt, (tt, tt))) b x e;
}
tag_letter leaves.Later = record {
  some = SplitTag;
  some_valid = tt;
  again = tag_again leaves.Later;
  from = λ b x e. written_from (IsTag leaves.Later) tag_byte (tags leaves.Later) (tt, (tt, (tt, (tt, tt)))) b x e;
}
tag_letter leaves.Any = record {
  some = SplitTag;
  some_valid = tt;
  again = tag_again leaves.Any;
  from = λ b x e. written_from (IsTag leaves.Any) tag_byte (tags leaves.Any) (tt, (tt, (tt, (tt, (tt, tt))))) b x e;
}

tag_code : (here : Leaves) → IsCode (IsTag here) (λ x. tag_byte x ∷ []) (tag_at here)
unfolding tag_at
tag_code here = char_code (IsTag here) (λ b. written_as tag_byte (tags here) b) tag_byte (tag_letter here)

-- ---- nodes

pub greatest_limit : IsLimit greatest 10
greatest_limit = record { high = omega arith; close_is = refl }

last_number : IsCode (AtMost greatest) (λ n. codes " " ++ number_text 10 n) (number_behind (codes " ") greatest 10)
last_number = number_behind_code (codes " ") greatest 10 greatest_limit

abbrev tag_of : Node → Tag
tag_of (node.Split position) = SplitTag
tag_of (node.Bound domain bound) = BoundTag
tag_of (node.Point time) = PointTag
tag_of node.Empty = EmptyTag
tag_of (node.Refuted refuted) = RefutedTag

abbrev value_of : Node → ℕ
value_of (node.Split position) = position
value_of (node.Bound domain bound) = bound
value_of (node.Point time) = time
value_of node.Empty = 0
value_of (node.Refuted refuted) = 0

abbrev refuted_of : Node → Refuted
refuted_of (node.Refuted refuted) = refuted
refuted_of n = record { steps = []; bound = None }

abbrev domain_of : Node → BoundedBy
domain_of (node.Split position) = Arrival
domain_of (node.Bound domain bound) = domain
domain_of (node.Point time) = Arrival
domain_of node.Empty = Arrival
domain_of (node.Refuted refuted) = Arrival

abbrev tail_text : Node → List ℕ
tail_text (node.Split position) = codes " " ++ number_text 10 position
tail_text (node.Bound domain bound) = codes " " ++ (letter domain ++ (codes " " ++ number_text 10 bound))
tail_text (node.Point time) = codes " " ++ number_text 10 time
tail_text node.Empty = codes "one\n"
tail_text (node.Refuted refuted) = codes "\n" ++ refuted_tail refuted

-- the domain of a bound may stand there
abbrev HasDomain : Leaves → Node → Type 0
HasDomain here (node.Split position) = Unit {0}
HasDomain here (node.Bound domain bound) = IsDomain here domain
HasDomain here (node.Point time) = Unit {0}
HasDomain here node.Empty = Unit {0}
HasDomain here (node.Refuted refuted) = Unit {0}

-- the steps of a leaf that is refuted have a text
abbrev HasSteps : Node → Type 0
HasSteps (node.Split position) = Unit {0}
HasSteps (node.Bound domain bound) = Unit {0}
HasSteps (node.Point time) = Unit {0}
HasSteps node.Empty = Unit {0}
HasSteps (node.Refuted refuted) = IsRefutedText refuted

-- the number is within its limit
record HasTag (here : Leaves) (tag : Tag) (n : Node) : Type 0 where
  fits : value_of n ≤ greatest
  domain : HasDomain here n
  steps : HasSteps n
  tag_is : tag_of n ≡ tag

split_to : (here : Leaves) (n : Node) → (value_of n ≤ greatest) × (n ≡ node.Split (value_of n)) → HasTag here SplitTag n
split_to here (node.Split position) v = record { fits = v.0; domain = tt; steps = tt; tag_is = refl }
split_to here (node.Bound domain bound) v = absurd (let e : node.Bound domain bound ≡ node.Split bound = v.1 in cc)
split_to here (node.Point time) v = absurd (let e : node.Point time ≡ node.Split time = v.1 in cc)
split_to here node.Empty v = absurd (let e : node.Empty ≡ node.Split 0 = v.1 in cc)
split_to here (node.Refuted refuted) v = absurd (let e : node.Refuted refuted ≡ node.Split 0 = v.1 in cc)

split_from : (here : Leaves) (n : Node) → HasTag here SplitTag n → (value_of n ≤ greatest) × (n ≡ node.Split (value_of n))
split_from here (node.Split position) v = (v.fits, refl)
split_from here (node.Bound domain bound) v = absurd (let e : BoundTag ≡ SplitTag = v.tag_is in cc)
split_from here (node.Point time) v = absurd (let e : PointTag ≡ SplitTag = v.tag_is in cc)
split_from here node.Empty v = absurd (let e : EmptyTag ≡ SplitTag = v.tag_is in cc)
split_from here (node.Refuted refuted) v = absurd (let e : RefutedTag ≡ SplitTag = v.tag_is in cc)

split_text : (n : Node) → (value_of n ≤ greatest) × (n ≡ node.Split (value_of n)) → tail_text n ≡ codes " " ++ number_text 10 (value_of n)
split_text n v = ap tail_text v.1

point_to : (here : Leaves) (n : Node) → (value_of n ≤ greatest) × (n ≡ node.Point (value_of n)) → HasTag here PointTag n
point_to here (node.Point time) v = record { fits = v.0; domain = tt; steps = tt; tag_is = refl }
point_to here (node.Bound domain bound) v = absurd (let e : node.Bound domain bound ≡ node.Point bound = v.1 in cc)
point_to here (node.Split position) v = absurd (let e : node.Split position ≡ node.Point position = v.1 in cc)
point_to here node.Empty v = absurd (let e : node.Empty ≡ node.Point 0 = v.1 in cc)
point_to here (node.Refuted refuted) v = absurd (let e : node.Refuted refuted ≡ node.Point 0 = v.1 in cc)

point_from : (here : Leaves) (n : Node) → HasTag here PointTag n → (value_of n ≤ greatest) × (n ≡ node.Point (value_of n))
point_from here (node.Point time) v = (v.fits, refl)
point_from here (node.Bound domain bound) v = absurd (let e : BoundTag ≡ PointTag = v.tag_is in cc)
point_from here (node.Split position) v = absurd (let e : SplitTag ≡ PointTag = v.tag_is in cc)
point_from here node.Empty v = absurd (let e : EmptyTag ≡ PointTag = v.tag_is in cc)
point_from here (node.Refuted refuted) v = absurd (let e : RefutedTag ≡ PointTag = v.tag_is in cc)

point_text : (n : Node) → (value_of n ≤ greatest) × (n ≡ node.Point (value_of n)) → tail_text n ≡ codes " " ++ number_text 10 (value_of n)
point_text n v = ap tail_text v.1

record IsBoundBy (domain : BoundedBy) (n : Node) : Type 0 where
  within : value_of n ≤ greatest
  made : n ≡ node.Bound domain (value_of n)

bound_from : (here : Leaves) (n : Node) → HasTag here BoundTag n → IsDomain here (domain_of n) × IsBoundBy (domain_of n) n
bound_from here (node.Bound domain bound) v = (v.domain, record { within = v.fits; made = refl })
bound_from here (node.Split position) v = absurd (let e : SplitTag ≡ BoundTag = v.tag_is in cc)
bound_from here (node.Point time) v = absurd (let e : PointTag ≡ BoundTag = v.tag_is in cc)
bound_from here node.Empty v = absurd (let e : EmptyTag ≡ BoundTag = v.tag_is in cc)
bound_from here (node.Refuted refuted) v = absurd (let e : RefutedTag ≡ BoundTag = v.tag_is in cc)

bound_to : (here : Leaves) (domain : BoundedBy) (n : Node) → IsDomain here domain → IsBoundBy domain n → HasTag here BoundTag n
bound_to here domain n u v = subst (λ (m : Node). HasTag here BoundTag m) (sym v.made) (record { fits = v.within; domain = u; steps = tt; tag_is = refl })

abbrev bound_tail : Node → List ℕ
bound_tail n = letter (domain_of n) ++ (codes " " ++ number_text 10 (value_of n))

bound_behind : (here : Leaves) → IsCode (λ n. HasTag here BoundTag n) bound_tail (λ bytes. letter_at here bytes >>= λ domain. number_behind (codes " ") greatest 10 domain.1 >>= λ bound. Ok (node.Bound domain.0 bound.0, bound.1))
bound_behind here =
    IsCode-then domain_of (IsDomain here) letter (letter_at here) (λ domain n. IsBoundBy domain n) (λ domain n. codes " " ++ number_text 10 (value_of n))
    (λ domain bytes. number_behind (codes " ") greatest 10 bytes >>= λ bound. Ok (node.Bound domain bound.0, bound.1)) (λ n. HasTag here BoundTag n) bound_tail
    (letter_code here)
    (λ domain u. IsCode-as (λ n. AtMost greatest (value_of n) × (n ≡ node.Bound domain (value_of n))) (λ n. IsBoundBy domain n) (λ n. codes " " ++ number_text 10 (value_of n)) (λ n. codes " " ++ number_text 10 (value_of n))
    (λ bytes. number_behind (codes " ") greatest 10 bytes >>= λ bound. Ok (node.Bound domain bound.0, bound.1))
    (λ n v. record { within = v.0; made = v.1 }) (λ n v. (v.within, v.made)) (λ n v. refl)
    (mapped_code (λ bound. node.Bound domain bound) value_of (AtMost greatest) (λ n. codes " " ++ number_text 10 n) (number_behind (codes " ") greatest 10) (λ n. refl) last_number))
    (record {
      down = λ n v. let p = bound_from here n v in (p.0, p.1, refl);
      up = λ domain n u v. (bound_to here domain n u v, ap (λ (d : BoundedBy). letter d ++ (codes " " ++ number_text 10 (value_of n))) (ap domain_of v.made));
    })

bound_tail_is : (here : Leaves) (n : Node) → HasTag here BoundTag n → tail_text n ≡ codes " " ++ bound_tail n
bound_tail_is here (node.Bound domain bound) v = refl
bound_tail_is here (node.Split position) v = absurd (let e : SplitTag ≡ BoundTag = v.tag_is in cc)
bound_tail_is here (node.Point time) v = absurd (let e : PointTag ≡ BoundTag = v.tag_is in cc)
bound_tail_is here node.Empty v = absurd (let e : EmptyTag ≡ BoundTag = v.tag_is in cc)
bound_tail_is here (node.Refuted refuted) v = absurd (let e : RefutedTag ≡ BoundTag = v.tag_is in cc)

empty_to : (here : Leaves) (n : Node) → n ≡ node.Empty → HasTag here EmptyTag n
empty_to here n e = subst (λ (m : Node). HasTag here EmptyTag m) (sym e) (record { fits = omega arith; domain = tt; steps = tt; tag_is = refl })

empty_from : (here : Leaves) (n : Node) → HasTag here EmptyTag n → n ≡ node.Empty
empty_from here (node.Split position) v = absurd (let e : SplitTag ≡ EmptyTag = v.tag_is in cc)
empty_from here (node.Bound domain bound) v = absurd (let e : BoundTag ≡ EmptyTag = v.tag_is in cc)
empty_from here (node.Point time) v = absurd (let e : PointTag ≡ EmptyTag = v.tag_is in cc)
empty_from here node.Empty v = refl
empty_from here (node.Refuted refuted) v = absurd (let e : RefutedTag ≡ EmptyTag = v.tag_is in cc)

refuted_to : (here : Leaves) (n : Node) → IsRefutedText (refuted_of n) × (n ≡ node.Refuted (refuted_of n)) → HasTag here RefutedTag n
refuted_to here (node.Refuted refuted) v = record { fits = omega arith; domain = tt; steps = v.0; tag_is = refl }
refuted_to here (node.Split position) v = absurd (let e : node.Split position ≡ node.Refuted (record { steps = []; bound = None }) = v.1 in cc)
refuted_to here (node.Bound domain bound) v = absurd (let e : node.Bound domain bound ≡ node.Refuted (record { steps = []; bound = None }) = v.1 in cc)
refuted_to here (node.Point time) v = absurd (let e : node.Point time ≡ node.Refuted (record { steps = []; bound = None }) = v.1 in cc)
refuted_to here node.Empty v = absurd (let e : node.Empty ≡ node.Refuted (record { steps = []; bound = None }) = v.1 in cc)

refuted_from : (here : Leaves) (n : Node) → HasTag here RefutedTag n → IsRefutedText (refuted_of n) × (n ≡ node.Refuted (refuted_of n))
refuted_from here (node.Refuted refuted) v = (v.steps, refl)
refuted_from here (node.Split position) v = absurd (let e : SplitTag ≡ RefutedTag = v.tag_is in cc)
refuted_from here (node.Bound domain bound) v = absurd (let e : BoundTag ≡ RefutedTag = v.tag_is in cc)
refuted_from here (node.Point time) v = absurd (let e : PointTag ≡ RefutedTag = v.tag_is in cc)
refuted_from here node.Empty v = absurd (let e : EmptyTag ≡ RefutedTag = v.tag_is in cc)

refuted_text : (n : Node) → IsRefutedText (refuted_of n) × (n ≡ node.Refuted (refuted_of n)) → tail_text n ≡ codes "\n" ++ refuted_tail (refuted_of n)
refuted_text n v = ap tail_text v.1

behind_tag_code : (here : Leaves) (tag : Tag) → IsCode (λ n. HasTag here tag n) tail_text (behind_tag here tag)
unfolding behind_tag
behind_tag_code here SplitTag =
    IsCode-as (λ n. AtMost greatest (value_of n) × (n ≡ node.Split (value_of n))) (λ n. HasTag here SplitTag n) (λ n. codes " " ++ number_text 10 (value_of n)) tail_text
    (λ bytes. number_behind (codes " ") greatest 10 bytes >>= λ position. Ok (node.Split position.0, position.1)) (split_to here) (split_from here) split_text
    (mapped_code (λ position. node.Split position) value_of (AtMost greatest) (λ n. codes " " ++ number_text 10 n) (number_behind (codes " ") greatest 10) (λ n. refl) last_number)
behind_tag_code here BoundTag =
    IsCode-as (λ n. HasTag here BoundTag n) (λ n. HasTag here BoundTag n) (λ n. codes " " ++ bound_tail n) tail_text
    (λ bytes. literal (codes " ") bytes >>= λ space. letter_at here space.1 >>= λ domain. number_behind (codes " ") greatest 10 domain.1 >>= λ bound. Ok (node.Bound domain.0 bound.0, bound.1))
    (λ n v. v) (λ n v. v) (bound_tail_is here)
    (behind_word (codes " ") (λ n. HasTag here BoundTag n) bound_tail (λ bytes. letter_at here bytes >>= λ domain. number_behind (codes " ") greatest 10 domain.1 >>= λ bound. Ok (node.Bound domain.0 bound.0, bound.1)) (bound_behind here))
behind_tag_code here PointTag =
    IsCode-as (λ n. AtMost greatest (value_of n) × (n ≡ node.Point (value_of n))) (λ n. HasTag here PointTag n) (λ n. codes " " ++ number_text 10 (value_of n)) tail_text
    (λ bytes. number_behind (codes " ") greatest 10 bytes >>= λ time. Ok (node.Point time.0, time.1)) (point_to here) (point_from here) point_text
    (mapped_code (λ time. node.Point time) value_of (AtMost greatest) (λ n. codes " " ++ number_text 10 n) (number_behind (codes " ") greatest 10) (λ n. refl) last_number)
behind_tag_code here EmptyTag =
    IsCode-as (λ n. n ≡ node.Empty) (λ n. HasTag here EmptyTag n) (λ n. codes "one\n" ++ []) tail_text (λ bytes. literal (codes "one\n") bytes >>= λ word. Ok (node.Empty, word.1))
    (empty_to here) (empty_from here) (λ n e. ap tail_text e)
    (behind_word (codes "one\n") (λ n. n ≡ node.Empty) (λ n. []) (λ bytes. Ok (node.Empty, bytes)) (IsCode-done node.Empty))
behind_tag_code here RefutedTag =
    IsCode-as (λ n. IsRefutedText (refuted_of n) × (n ≡ node.Refuted (refuted_of n))) (λ n. HasTag here RefutedTag n) (λ n. codes "\n" ++ refuted_tail (refuted_of n)) tail_text
    (λ bytes. literal (codes "\n") bytes >>= λ newline. refuted_at newline.1 >>= λ refuted. Ok (node.Refuted refuted.0, refuted.1))
    (refuted_to here) (refuted_from here) refuted_text
    (behind_word (codes "\n") (λ n. IsRefutedText (refuted_of n) × (n ≡ node.Refuted (refuted_of n))) (λ n. refuted_tail (refuted_of n))
    (λ bytes. refuted_at bytes >>= λ refuted. Ok (node.Refuted refuted.0, refuted.1))
    (mapped_code (λ refuted. node.Refuted refuted) refuted_of IsRefutedText refuted_tail refuted_at (λ r. refl) refuted_code))

abbrev pub node_text : Node → List ℕ
node_text n = ended (node_line n)

node_parts : (n : Node) → node_text n ≡ (tag_byte (tag_of n) ∷ []) ++ tail_text n
node_parts (node.Split position) = refl
node_parts (node.Bound Arrival bound) = refl
node_parts (node.Bound Possible bound) = refl
node_parts (node.Bound Both bound) = refl
node_parts (node.Bound Edges bound) = refl
node_parts (node.Bound EdgesAndPossible bound) = refl
node_parts (node.Point time) = refl
node_parts node.Empty = refl
node_parts (node.Refuted refuted) =
    ap (λ (t : List ℕ). codes "x\n" ++ t) (append_assoc (steps_text refuted.steps) (codes "q " ++ or_none refuted.bound) (10 ∷ []))

-- a node that may stand there has one of its tags and domains, and its number is within the limit
pub record MayStand (here : Leaves) (n : Node) : Type 0 where
  pub tag : IsTag here (tag_of n)
  pub domain : HasDomain here n
  pub fits : value_of n ≤ greatest
  pub steps : HasSteps n

pub node_code : (here : Leaves) → IsCode (MayStand here) node_text (node_at here)
unfolding node_at
node_code here =
    IsCode-then tag_of (IsTag here) (λ x. tag_byte x ∷ []) (tag_at here) (λ tag n. HasTag here tag n) (λ tag n. tail_text n) (behind_tag here) (MayStand here) node_text (tag_code here)
    (λ tag u. behind_tag_code here tag)
    (record {
      down = λ n v. (v.tag, record { fits = v.fits; domain = v.domain; steps = v.steps; tag_is = refl }, node_parts n);
      up = λ tag n u v.
          (record { tag = subst (IsTag here) (sym v.tag_is) u; domain = v.domain; fits = v.fits; steps = v.steps }, node_parts n ∙ ap (λ (t : Tag). (tag_byte t ∷ []) ++ tail_text n) v.tag_is);
    })

-- ---- the nodes of a version

pub to_node : (version : Version) (n : Node) → MayStand (leaves_in version) n → IsNode version n
to_node version (node.Split position) v = v.fits
to_node First (node.Bound domain bound) v = (v.fits, λ other. v.domain)
to_node Second (node.Bound domain bound) v = (v.fits, λ other. v.domain)
to_node Third (node.Bound domain bound) v = (v.fits, λ other. v.domain)
to_node Fourth (node.Bound domain bound) v = (v.fits, λ other. absurd (other refl))
to_node version (node.Point time) v = v.fits
to_node First node.Empty v = absurd v.tag
to_node Second node.Empty v = λ e. cc
to_node Third node.Empty v = λ e. cc
to_node Fourth node.Empty v = λ e. cc
to_node First (node.Refuted refuted) v = absurd v.tag
to_node Second (node.Refuted refuted) v = absurd v.tag
to_node Third (node.Refuted refuted) v = absurd v.tag
to_node Fourth (node.Refuted refuted) v = (v.steps, refl)

pub from_node : (version : Version) (n : Node) → IsNode version n → MayStand (leaves_in version) n
from_node First (node.Split position) v = record { tag = tt; domain = tt; fits = v; steps = tt }
from_node Second (node.Split position) v = record { tag = tt; domain = tt; fits = v; steps = tt }
from_node Third (node.Split position) v = record { tag = tt; domain = tt; fits = v; steps = tt }
from_node Fourth (node.Split position) v = record { tag = tt; domain = tt; fits = v; steps = tt }
from_node First (node.Bound domain bound) v = record { tag = tt; domain = v.1 (λ e. cc); fits = v.0; steps = tt }
from_node Second (node.Bound domain bound) v = record { tag = tt; domain = v.1 (λ e. cc); fits = v.0; steps = tt }
from_node Third (node.Bound domain bound) v = record { tag = tt; domain = v.1 (λ e. cc); fits = v.0; steps = tt }
from_node Fourth (node.Bound domain bound) v = record { tag = tt; domain = tt; fits = v.0; steps = tt }
from_node First (node.Point time) v = record { tag = tt; domain = tt; fits = v; steps = tt }
from_node Second (node.Point time) v = record { tag = tt; domain = tt; fits = v; steps = tt }
from_node Third (node.Point time) v = record { tag = tt; domain = tt; fits = v; steps = tt }
from_node Fourth (node.Point time) v = record { tag = tt; domain = tt; fits = v; steps = tt }
from_node First node.Empty v = absurd (v refl)
from_node Second node.Empty v = record { tag = tt; domain = tt; fits = omega arith; steps = tt }
from_node Third node.Empty v = record { tag = tt; domain = tt; fits = omega arith; steps = tt }
from_node Fourth node.Empty v = record { tag = tt; domain = tt; fits = omega arith; steps = tt }
from_node First (node.Refuted refuted) v = absurd (let f : First ≡ Fourth = v.1 in cc)
from_node Second (node.Refuted refuted) v = absurd (let f : Second ≡ Fourth = v.1 in cc)
from_node Third (node.Refuted refuted) v = absurd (let f : Third ≡ Fourth = v.1 in cc)
from_node Fourth (node.Refuted refuted) v = record { tag = tt; domain = tt; fits = omega arith; steps = v.0 }
