-- The text of a certificate up to some node.
use Rattle.std.proofs.Common.{◌≡◌, ◌≢◌, ℕ, zero, suc, ◌+◌, ◌*◌, ◌/◌, ◌≤◌, ◌<◌, Bool, true, false, Some, None, Option, List, [], ◌∷◌, ◌++◌, length, take, drop, get_or, refl, sym, ap, subst, ◌∙◌, append_assoc, arith}
use Rattle.std.specs.Prelude.{map, codes, decimal, slice_get, if◌then◌else◌}
use Rattle.std.specs.List.{flat_map}
use Rattle.std.proofs.lemmas.List.{append-nil, take_all, take_more, take-append-drop, map-append}
use Rattle.std.proofs.lemmas.List.Concat.{flat_map-append, flat_map-cons}
use Rattle.std.proofs.lemmas.Option.{get_or_from_slice_get}
use Rattle.td_domain.specs.declared.cubes.Trit.{Trit}
use Rattle.td_text.specs.Output.{Output, one_more, Sent, SentTo, SentFront, Failed}
use Rattle.td_text.proofs.Outputs.{Sent-then, Sent-failed, SentTo-begins, SentTo-more, SentTo-front, SentTo-then, SentTo-failed, Failed-longer}
use Rattle.td_certificate.specs.declared.fault.WriteFault.{WriteFault}
use Rattle.td_certificate.specs.declared.fault.WriteFault.TheVariants as stopping
use Rattle.td_certificate.specs.Steps.{Refuted, or_none, steps_text, refuted_line}
use Rattle.td_certificate.specs.Sending.{StopsIn}
use Rattle.td_certificate.specs.declared.tree.Node.{Node}
use Rattle.td_certificate.specs.Text.{row, bits, node_line, trit, first_trits, second_trits, numbers}
use Rattle.td_certificate.proofs.CertificateCode.{high_text, high_lines_text, timed_lines_text, claim_text, claim_lines_text, head_text}
use Rattle.std.proofs.lemmas.Fmt.{decimal_digit}
use Rattle.td_certificate.specs.Questions.{Terms}
use Rattle.td_certificate.specs.declared.certificate.Certificate.{Certificate}
use Rattle.td_certificate.specs.declared.certificate.Claim.{Claim}
use Rattle.td_certificate.specs.declared.question.Version.{Version}
use Rattle.td_certificate.specs.Spelling.{inputs, version_in, question_text, version_line, high_lines, claim_lines, head_lines, default_line, output_line, plain_terms, terms_or_plain, ended, text_of, spelling}

pub up_to : Certificate → ℕ → List ℕ
up_to c count = text_of (head_lines c) ++ text_of (map node_line (take count c.tree))

pub up_to-none : (c : Certificate) → text_of (head_lines c) ≡ up_to c 0
unfolding up_to
up_to-none c = sym (append-nil (text_of (head_lines c)))

pub up_to-more : (c : Certificate) (i : ℕ) (n d : Node) → i < length c.tree → n ≡ get_or c.tree i d → up_to c (i + 1) ≡ up_to c i ++ (node_line n ++ 10 ∷ [])
unfolding up_to
up_to-more c i n d lt e =
    let front = map node_line (take i c.tree) in
    let one : take (i + 1) c.tree ≡ take i c.tree ++ n ∷ [] = take_more c.tree i d lt ∙ ap (λ (m : Node). take i c.tree ++ m ∷ []) (sym e) in
    let two : map node_line (take (i + 1) c.tree) ≡ front ++ node_line n ∷ [] = ap (map node_line) one ∙ map-append node_line (take i c.tree) (n ∷ []) in
    let three : text_of (map node_line (take (i + 1) c.tree)) ≡ text_of front ++ ended (node_line n) =
    ap text_of two ∙ flat_map-append ended front (node_line n ∷ []) ∙ ap (λ (t : List ℕ). text_of front ++ t) (flat_map-cons ended (node_line n) [] ∙ append-nil (ended (node_line n))) in
    ap (λ (t : List ℕ). text_of (head_lines c) ++ t) three ∙ sym (append_assoc (text_of (head_lines c)) (text_of front) (ended (node_line n)))

pub up_to-all : (c : Certificate) (count : ℕ) → length c.tree ≤ count → up_to c count ≡ spelling c
unfolding up_to spelling
up_to-all c count le =
    ap (λ (ns : List Node). text_of (head_lines c) ++ text_of (map node_line ns)) (take_all count c.tree le) ∙ sym (flat_map-append ended (head_lines c) (map node_line c.tree))

pub up_to-rest : (c : Certificate) (i : ℕ) → spelling c ≡ up_to c i ++ text_of (map node_line (drop i c.tree))
unfolding up_to spelling
up_to-rest c i =
    let front = map node_line (take i c.tree) in
    let back = map node_line (drop i c.tree) in
    let whole : map node_line c.tree ≡ front ++ back = ap (map node_line) (sym (take-append-drop i c.tree)) ∙ map-append node_line (take i c.tree) (drop i c.tree) in
    flat_map-append ended (head_lines c) (map node_line c.tree)
    ∙ ap (λ (t : List ℕ). text_of (head_lines c) ++ t) (ap text_of whole ∙ flat_map-append ended front back)
    ∙ sym (append_assoc (text_of (head_lines c)) (text_of front) (text_of back))

-- what went out of a part of the text is a beginning of the whole
pub part_front : (a b : Output) (c : Certificate) (i : ℕ) → Failed a b (up_to c i) → SentFront a b (spelling c)
part_front a b c i f =
    (subst (λ (t : List ℕ). Failed a b t) (sym (up_to-rest c i)) (Failed-longer a b (up_to c i) (text_of (map node_line (drop i c.tree))) f)).front

pub so_far_front : (a b : Output) (c : Certificate) (i : ℕ) (batch : List ℕ) → SentTo a b (up_to c i) batch → SentFront a b (spelling c)
so_far_front a b c i batch p =
    subst (λ (t : List ℕ). SentFront a b t) (sym (up_to-rest c i)) (SentTo-front a b (up_to c i) batch (text_of (map node_line (drop i c.tree))) p)

pub node_pushed : (a b e : Output) (c : Certificate) (i : ℕ) (items : List Node) (n : Node) (batch batch' : List ℕ) → items ≡ c.tree → i < length items → n ≡ get_or items i n
    → SentTo a b (up_to c i) batch → SentTo b e (batch ++ ended (node_line n)) batch' → SentTo a e (up_to c (i + 1)) batch'
node_pushed a b e c i items n batch batch' is lt at p more =
    let q = SentTo-more a b (up_to c i) batch (ended (node_line n)) p in
    let below : i < length c.tree = omega (arith, ap length is) in
    let grown : up_to c (i + 1) ≡ up_to c i ++ ended (node_line n) = up_to-more c i n n below (at ∙ ap (λ (ns : List Node). get_or ns i n) is) in
    rw grown (SentTo-then a b e (up_to c i ++ ended (node_line n)) (batch ++ ended (node_line n)) batch' q more)

-- a node's text stopped going out
pub node_stopped : (a b e : Output) (c : Certificate) (i : ℕ) (items : List Node) (n : Node) (batch : List ℕ) (fault : WriteFault) → items ≡ c.tree → i < length items
    → n ≡ get_or items i n → SentTo a b (up_to c i) batch → StopsIn fault b e (batch ++ ended (node_line n)) → StopsIn fault a e (up_to c (i + 1))
node_stopped a b e c i items n batch fault is lt at p stopped =
    let below : i < length c.tree = omega (arith, ap length is) in
    let grown : up_to c (i + 1) ≡ up_to c i ++ ended (node_line n) = up_to-more c i n n below (at ∙ ap (λ (ns : List Node). get_or ns i n) is) in
    let q = SentTo-more a b (up_to c i) batch (ended (node_line n)) p in
    rw grown (through (up_to c i ++ ended (node_line n)) (batch ++ ended (node_line n)) fault q stopped)
  where
    through : (text rest : List ℕ) (fault : WriteFault) → SentTo a b text rest → StopsIn fault b e rest → StopsIn fault a e text
    through text rest stopping.Device q stopped = SentTo-failed a b e text rest q stopped
    through text rest stopping.OutOfMemory q stopped = (stopped.0, SentTo-then a b e text rest stopped.0 q stopped.1)

pub stopped_front : (a b : Output) (c : Certificate) (i : ℕ) (fault : WriteFault) → StopsIn fault a b (up_to c i) → SentFront a b (spelling c)
stopped_front a b c i stopping.Device stopped = part_front a b c i stopped
stopped_front a b c i stopping.OutOfMemory stopped = so_far_front a b c i stopped.0 stopped.1

pub stopped_device : (a b : Output) (text : List ℕ) (fault : WriteFault) → StopsIn fault a b text → fault ≡ stopping.Device → b.failures ≡ one_more a.failures
stopped_device a b text stopping.Device stopped e = stopped.failures
stopped_device a b text stopping.OutOfMemory stopped e = absurd (let f : stopping.OutOfMemory ≡ stopping.Device = e in cc)

pub stopped_memory : (a b : Output) (text : List ℕ) (fault : WriteFault) → StopsIn fault a b text → fault ≡ stopping.OutOfMemory → b.failures ≡ a.failures
stopped_memory a b text stopping.OutOfMemory stopped e = stopped.1.sent.failures
stopped_memory a b text stopping.Device stopped e = absurd (let f : stopping.Device ≡ stopping.OutOfMemory = e in cc)

-- ---- a leaf that is refuted

group : (b r s q n : List ℕ) → b ++ ((r ++ (s ++ q)) ++ n) ≡ (b ++ r) ++ (s ++ (q ++ n))
group b r s q n = simp append_assoc

-- the line of its bound
abbrev pub bound_line : Refuted → List ℕ
bound_line refuted = ended (codes "q " ++ or_none refuted.bound)

grouped : (batch : List ℕ) (refuted : Refuted) → batch ++ ended (refuted_line refuted) ≡ (batch ++ codes "x\n") ++ (steps_text refuted.steps ++ bound_line refuted)
grouped batch refuted = group batch (codes "x\n") (steps_text refuted.steps) (codes "q " ++ or_none refuted.bound) (10 ∷ [])

-- the writer failed in the lines before the steps
pub refuted_failed : (a b : Output) (batch : List ℕ) (refuted : Refuted) → Failed a b (batch ++ codes "x\n") → Failed a b (batch ++ ended (refuted_line refuted))
refuted_failed a b batch refuted f =
    subst (Failed a b) (sym (grouped batch refuted)) (Failed-longer a b (batch ++ codes "x\n") (steps_text refuted.steps ++ bound_line refuted) f)

-- it failed in the steps
pub steps_failed : (a b e : Output) (batch : List ℕ) (refuted : Refuted) → Sent a b (batch ++ codes "x\n") → Failed b e (steps_text refuted.steps)
    → Failed a e (batch ++ ended (refuted_line refuted))
steps_failed a b e batch refuted p f =
    let front : List ℕ = batch ++ codes "x\n" in
    subst (Failed a e) (append_assoc front (steps_text refuted.steps) (bound_line refuted) ∙ sym (grouped batch refuted))
    (Failed-longer a e (front ++ steps_text refuted.steps) (bound_line refuted) (Sent-failed a b e front (steps_text refuted.steps) p f))

-- all but the line of the bound went out
pub steps_sent : (a b e : Output) (batch : List ℕ) (refuted : Refuted) → Sent a b (batch ++ codes "x\n") → Sent b e (steps_text refuted.steps)
    → SentTo a e (batch ++ ended (refuted_line refuted)) (bound_line refuted)
steps_sent a b e batch refuted p q =
    let front : List ℕ = batch ++ codes "x\n" in
    record {
      front = front ++ steps_text refuted.steps;
      parts = grouped batch refuted ∙ sym (append_assoc front (steps_text refuted.steps) (bound_line refuted));
      sent = Sent-then a b e front (steps_text refuted.steps) p q;
    }

pub none_listed : (word ms old text new : List ℕ) → length ms ≡ 0 → text ≡ old ++ word → new ≡ text ++ codes " none\n"
    → new ≡ old ++ ended (word ++ (codes " " ++ numbers ms))
none_listed word [] old text new none before pushed =
    pushed ∙ ap (λ (t : List ℕ). t ++ codes " none\n") before ∙ append_assoc old word (codes " none\n") ∙ ap (λ (t : List ℕ). old ++ t) (sym (append_assoc word (codes " none") (codes "\n")))
none_listed word (m ∷ ms) old text new none before pushed = absurd (omega (arith, none))

-- ---- terms

plain_lines : ended (default_line plain_terms) ++ ended (output_line plain_terms) ≡ codes "default 1 1\noutput all\n"
plain_lines = rw (decimal_digit 1 (omega arith)) refl

pub plain_pushed : (terms : Option Terms) (old new : List ℕ) → terms ≡ None → new ≡ old ++ codes "default 1 1\noutput all\n"
    → new ≡ old ++ (ended (default_line (terms_or_plain terms)) ++ ended (output_line (terms_or_plain terms)))
plain_pushed terms old new none pushed =
    pushed ∙ ap (λ (t : List ℕ). old ++ t) (sym plain_lines) ∙ ap (λ (t : Option Terms). old ++ (ended (default_line (terms_or_plain t)) ++ ended (output_line (terms_or_plain t)))) (sym none)

-- ---- the head

-- the trits of the first bits, or those of the second
abbrev pub side : Bool → List Trit → List Trit
side second pins = if second then second_trits pins else first_trits pins

abbrev pub side_of : Bool → ℕ
side_of second = if second then 1 else 0

record IsAt (second : Bool) (pins : List Trit) (i : ℕ) : Type 0 where
  below : i < length (side second pins)
  same : slice_get (side second pins) i ≡ slice_get pins (2 * i + side_of second)

side_at : (second : Bool) (pins : List Trit) (i : ℕ) → 2 * i + 1 < length pins → IsAt second pins i
side_at second [] i lt = absurd (omega (arith, lt))
side_at second (p ∷ []) i lt = absurd (omega (arith, lt))
side_at true (p ∷ q ∷ pins) zero lt = record { below = omega arith; same = refl }
side_at false (p ∷ q ∷ pins) zero lt = record { below = omega arith; same = refl }
side_at true (p ∷ q ∷ pins) (suc i) lt =
    let rest = side_at true pins i (omega (arith, lt)) in
    let two : 2 * suc i + 1 ≡ suc (suc (2 * i + 1)) = omega arith in
    record { below = omega (arith, rest.below); same = rest.same ∙ ap (slice_get (p ∷ q ∷ pins)) (sym two) }
side_at false (p ∷ q ∷ pins) (suc i) lt =
    let rest = side_at false pins i (omega (arith, lt)) in
    let two : 2 * suc i + 0 ≡ suc (suc (2 * i + 0)) = omega arith in
    record { below = omega (arith, rest.below); same = rest.same ∙ ap (slice_get (p ∷ q ∷ pins)) (sym two) }

pub trit_pushed : (second : Bool) (pins : List Trit) (i at count : ℕ) (t : Trit) (old text new : List ℕ) → count ≡ length pins → i < count / 2 → at ≡ side_of second
    → slice_get pins (2 * i + at) ≡ Some t → text ≡ old ++ map trit (take i (side second pins)) → new ≡ text ++ trit t ∷ []
    → new ≡ old ++ map trit (take (i + 1) (side second pins))
trit_pushed second pins i at count t old text new is lt at_is get before pushed =
    let here = side_at second pins i (omega (arith, is, lt)) in
    let element : get_or (side second pins) i t ≡ t = get_or_from_slice_get (side second pins) i t t (here.same ∙ ap (λ (n : ℕ). slice_get pins (2 * i + n)) (sym at_is) ∙ get) in
    let more : take (i + 1) (side second pins) ≡ take i (side second pins) ++ t ∷ [] = take_more (side second pins) i t here.below ∙ ap (λ (x : Trit). take i (side second pins) ++ x ∷ []) element in
    pushed ∙ ap (λ (ts : List ℕ). ts ++ trit t ∷ []) before ∙ append_assoc old (map trit (take i (side second pins))) (trit t ∷ [])
    ∙ ap (λ (ts : List ℕ). old ++ ts) (sym (map-append trit (take i (side second pins)) (t ∷ [])) ∙ ap (map trit) (sym more))

side_length : (second : Bool) (pins : List Trit) → length (side second pins) ≤ length pins / 2
side_length true [] = omega arith
side_length false [] = omega arith
side_length true (p ∷ []) = omega arith
side_length false (p ∷ []) = omega arith
side_length true (p ∷ q ∷ pins) = omega (arith, side_length true pins)
side_length false (p ∷ q ∷ pins) = omega (arith, side_length false pins)

-- where there are characters they are those of the row
pub row_some : {A : Type 0} (byte : A → ℕ) (xs : List A) → 0 < length xs → row byte xs ≡ map byte xs
row_some byte [] some = absurd (omega arith)
row_some byte (x ∷ xs) some = refl

some_side : (second : Bool) (pins : List Trit) → 2 ≤ length pins → 0 < length (side second pins)
some_side second [] le = absurd (omega arith)
some_side second (p ∷ []) le = absurd (omega arith)
some_side true (p ∷ q ∷ pins) le = omega arith
some_side false (p ∷ q ∷ pins) le = omega arith

no_side : (second : Bool) (pins : List Trit) → length pins < 2 → side second pins ≡ []
no_side true [] lt = refl
no_side false [] lt = refl
no_side true (p ∷ []) lt = refl
no_side false (p ∷ []) lt = refl
no_side second (p ∷ q ∷ pins) lt = absurd (omega arith)

pub none_pushed : (second : Bool) (pins : List Trit) (count : ℕ) (old new : List ℕ) → count ≡ length pins → count < 2 → new ≡ old ++ codes "none" → new ≡ old ++ row trit (side second pins)
none_pushed second pins count old new is lt pushed = pushed ∙ ap (λ (ts : List Trit). old ++ row trit ts) (sym (no_side second pins (omega (arith, is, lt))))

pub trits_pushed : (second : Bool) (pins : List Trit) (i count : ℕ) (old text : List ℕ) → count ≡ length pins → 2 ≤ count → count / 2 ≤ i → text ≡ old ++ map trit (take i (side second pins)) → text ≡ old ++ row trit (side second pins)
trits_pushed second pins i count old text is some le before =
    before ∙ ap (λ (ts : List Trit). old ++ map trit ts) (take_all i (side second pins) (omega (arith, side_length second pins, is, le)))
    ∙ ap (λ (ts : List ℕ). old ++ ts) (sym (row_some trit (side second pins) (some_side second pins (omega (arith, is, some)))))

-- ---- moments

abbrev pub behind_at : ℕ → List ℕ
behind_at moment = codes " " ++ decimal moment

-- a space before each number
pub spaced : (word : List ℕ) (m : ℕ) (ms : List ℕ) → word ++ flat_map behind_at (m ∷ ms) ≡ word ++ (codes " " ++ numbers (m ∷ ms))
spaced word m ms = ap (λ (t : List ℕ). word ++ t) (all_spaced m ms)
  where
    all_spaced : (m : ℕ) (ms : List ℕ) → flat_map behind_at (m ∷ ms) ≡ codes " " ++ numbers (m ∷ ms)
    all_spaced m [] = flat_map-cons behind_at m [] ∙ append-nil (behind_at m)
    all_spaced m (n ∷ ms) =
        flat_map-cons behind_at m (n ∷ ms) ∙ ap (λ (t : List ℕ). behind_at m ++ t) (all_spaced n ms)
        ∙ sym (append_assoc (behind_at m) (codes " ") (numbers (n ∷ ms)))

pub listed_pushed : (word ms : List ℕ) (i : ℕ) (old text new : List ℕ) → length ms ≢ 0 → length ms ≤ i → text ≡ old ++ (word ++ flat_map behind_at (take i ms)) → new ≡ text ++ codes "\n"
    → new ≡ old ++ ended (word ++ (codes " " ++ numbers ms))
listed_pushed word [] i old text new some le before pushed = absurd (some refl)
listed_pushed word (m ∷ ms) i old text new some le before pushed =
    pushed ∙ ap (λ (t : List ℕ). t ++ codes "\n") (before ∙ ap (λ (ns : List ℕ). old ++ (word ++ flat_map behind_at ns)) (take_all i (m ∷ ms) le) ∙ ap (λ (t : List ℕ). old ++ t) (spaced word m ms))
    ∙ append_assoc old (word ++ (codes " " ++ numbers (m ∷ ms))) (codes "\n")

-- ---- the head

made_claim : (old ti t h fr f so s nl : List ℕ)
    → ((((((old ++ (ti ++ (t ++ nl))) ++ h) ++ fr) ++ f) ++ (nl ++ so)) ++ s) ++ nl
    ≡ old ++ (((ti ++ t) ++ nl) ++ (h ++ (((fr ++ f) ++ nl) ++ ((so ++ s) ++ nl))))
made_claim old ti t h fr f so s nl = simp append_assoc

pub claim_made : (v : Version) (claim : Claim) (old t2 t3 t4 t5 t6 t7 t8 : List ℕ)
    → t2 ≡ old ++ (codes "time " ++ (decimal claim.time ++ codes "\n"))
    → t3 ≡ t2 ++ text_of (high_lines v claim.high) → t4 ≡ t3 ++ codes "from "
    → t5 ≡ t4 ++ bits claim.pair.first → t6 ≡ t5 ++ codes "\nto " → t7 ≡ t6 ++ bits claim.pair.second → t8 ≡ t7 ++ codes "\n"
    → t8 ≡ old ++ text_of (claim_lines v (Some claim))
claim_made v claim old t2 t3 t4 t5 t6 t7 t8 e2 e3 e4 e5 e6 e7 e8 =
    e8 ∙ ap (λ (t : List ℕ). t ++ codes "\n") (e7 ∙ ap (λ (t : List ℕ). t ++ bits claim.pair.second) (e6 ∙ ap (λ (t : List ℕ). t ++ codes "\nto ") (e5 ∙ ap (λ (t : List ℕ). t ++ bits claim.pair.first)
    (e4 ∙ ap (λ (t : List ℕ). t ++ codes "from ") (e3 ∙ ap (λ (t : List ℕ). t2 ++ t) (high_lines_text v claim.high) ∙ ap (λ (t : List ℕ). t ++ high_text v claim.high) e2)))))
    ∙ made_claim old (codes "time ") (decimal claim.time) (high_text v claim.high) (codes "from ") (bits claim.pair.first) (codes "to ") (bits claim.pair.second) (10 ∷ [])
    ∙ ap (λ (t : List ℕ). old ++ t) (sym (timed_lines_text v claim))

pub none_claimed : (v : Version) (old new : List ℕ) → new ≡ old ++ codes "time none\n" → new ≡ old ++ text_of (claim_lines v None)
none_claimed v old new e = e ∙ ap (λ (t : List ℕ). old ++ t) (sym (flat_map-cons ended (codes "time none") [] ∙ append-nil (ended (codes "time none"))))

made : (ve ci i sp g q cl nl : List ℕ)
    → ((ve ++ (nl ++ (ci ++ (i ++ (sp ++ (g ++ nl)))))) ++ q) ++ cl ≡ (ve ++ nl) ++ (((((ci ++ i) ++ sp) ++ g) ++ nl) ++ (q ++ cl))
made ve ci i sp g q cl nl = simp append_assoc

pub head_made : (c : Certificate) (t0 t1 t2 : List ℕ)
    → t0 ≡ version_line (version_in c) ++ (codes "\n" ++ (codes "circuit " ++ (decimal (inputs c) ++ (codes " " ++ (decimal c.gates ++ codes "\n")))))
    → t1 ≡ t0 ++ question_text (version_in c) c.question → t2 ≡ t1 ++ text_of (claim_lines (version_in c) c.claim) → t2 ≡ text_of (head_lines c)
head_made c t0 t1 t2 e0 e1 e2 =
    e2 ∙ ap (λ (t : List ℕ). t1 ++ t) (claim_lines_text (version_in c) c.claim)
    ∙ ap (λ (t : List ℕ). t ++ claim_text (version_in c) c.claim) (e1 ∙ ap (λ (t : List ℕ). t ++ question_text (version_in c) c.question) e0)
    ∙ made (version_line (version_in c)) (codes "circuit ") (decimal (inputs c)) (codes " ") (decimal c.gates) (question_text (version_in c) c.question) (claim_text (version_in c) c.claim) (10 ∷ [])
    ∙ sym (head_text c)

pub head_begins : (a : Output) (c : Certificate) (batch : List ℕ) → batch ≡ text_of (head_lines c) → SentTo a a (up_to c 0) batch
head_begins a c batch e = subst (λ (t : List ℕ). SentTo a a t batch) (e ∙ up_to-none c) (SentTo-begins a batch)

pub all_sent : (a b : Output) (c : Certificate) (count : ℕ) → length c.tree ≤ count → Sent a b (up_to c count) → Sent a b (spelling c)
all_sent a b c count le p = subst (λ (t : List ℕ). Sent a b t) (up_to-all c count le) p

-- eight texts, the first two put at the end together, and then one after the other
pub eight_pushed : (old t u v w x y new a b c d e f g h : List ℕ) → t ≡ old ++ (a ++ b) → u ≡ t ++ c → v ≡ u ++ d → w ≡ v ++ e → x ≡ w ++ f → y ≡ x ++ g → new ≡ y ++ h
    → new ≡ old ++ (a ++ (b ++ (c ++ (d ++ (e ++ (f ++ (g ++ (h ++ []))))))))
eight_pushed old t u v w x y new a b c d e f g h is_t is_u is_v is_w is_x is_y is = rw (is, is_y, is_x, is_w, is_v, is_u, is_t) (simp (append_assoc, append-nil))
