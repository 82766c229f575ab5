-- A text is a spelling, a proper front of one, a spelling with more after it, or can't be read on:
-- one of them alone.
use Rattle.std.proofs.Common.{◌≡◌, ℕ, ◌<◌, List, [], ◌∷◌, ◌++◌, length, Result, Ok, Err, Option, Some, ◌⊎◌, inl, inr, refl, sym, ap, ◌∙◌, append_assoc, arith}
use Rattle.std.specs.Prelude.{IfOk, IfErr}
use Rattle.std.proofs.lemmas.List.{append-nil}
use Rattle.td_certificate.specs.declared.fault.CertFaultKind.{CertFaultKind}
use Rattle.td_certificate.specs.declared.fault.CertFaultKind.TheVariants as kind
use Rattle.td_certificate.specs.declared.fault.CertFault.{CertFault}
use Rattle.td_certificate.specs.declared.certificate.Certificate.{Certificate}
use Rattle.td_certificate.specs.Spelling.{HasSpelling, Spells, spelling}
use Rattle.td_certificate.specs.Faults.{IsWithinLimit, IsFront, HasMore, StopsAt, kind_in, IsFault, IsReadAs, IsReported}
use Rattle.td_certificate.proofs.Texts.{spells_once, stops_for}

no_cons : {X : Type 0} (b : ℕ) (bs : List ℕ) → b ∷ bs ≡ [] → X
no_cons b bs e = absurd cc

spelled : (c : Certificate) → HasSpelling c → Spells c (spelling c)
spelled c v = record { has = v; parts = refl }

-- a spelling isn't the front of another
no_longer : {X : Type 0} (c d : Certificate) (next : ℕ) (later : List ℕ) → HasSpelling c → HasSpelling d → spelling c ≡ spelling d ++ next ∷ later → X
no_longer c d next later v w e = no_cons next later (spells_once c d (spelling c) (spelling d) (next ∷ later) (spelled c v) (spelled d w) e).1

pub spells-front : {X : Type 0} (text : List ℕ) (c : Certificate) → Spells c text → IsFront text → X
spells-front text c s f = no_longer f.certificate c f.next f.later f.has s.has (f.parts ∙ ap (λ (t : List ℕ). t ++ f.next ∷ f.later) s.parts)

pub spells-more : {X : Type 0} (text : List ℕ) (c : Certificate) (line : ℕ) → Spells c text → HasMore text line → X
spells-more text c line s m = no_longer c m.certificate m.next m.later s.has m.has (sym s.parts ∙ m.parts)

pub spells-stops : {X : Type 0} (text : List ℕ) (c : Certificate) (line : ℕ) → Spells c text → StopsAt text line → X
spells-stops text c line s d = absurd (d.unreadable c d.later s.has (sym s.parts ∙ d.parts))

pub front-more : {X : Type 0} (text : List ℕ) (line : ℕ) → IsFront text → HasMore text line → X
front-more text line f m =
    no_longer f.certificate m.certificate m.next (m.later ++ f.next ∷ f.later) f.has m.has
    (f.parts ∙ ap (λ (t : List ℕ). t ++ f.next ∷ f.later) m.parts ∙ append_assoc (spelling m.certificate) (m.next ∷ m.later) (f.next ∷ f.later))

pub front-stops : {X : Type 0} (text : List ℕ) (line : ℕ) → IsFront text → StopsAt text line → X
front-stops text line f d =
    absurd (d.unreadable f.certificate (d.later ++ f.next ∷ f.later) f.has
    (f.parts ∙ ap (λ (t : List ℕ). t ++ f.next ∷ f.later) d.parts ∙ append_assoc d.front (d.next ∷ d.later) (f.next ∷ f.later)))

-- two ways to cut one list
data Cuts (a b c d : List ℕ) : Type 0 where
  longer : (e : List ℕ) → a ≡ c ++ e → e ++ b ≡ d → Cuts a b c d
  shorter : (e : List ℕ) → c ≡ a ++ e → Cuts a b c d

abbrev list : ℕ → List ℕ → List ℕ
list x xs = x ∷ xs

head_is : (x y : ℕ) (xs ys : List ℕ) → list x xs ≡ list y ys → (x ≡ y) × (xs ≡ ys)
head_is x y xs ys e = (cc, cc)

cuts : (a b c d : List ℕ) → a ++ b ≡ c ++ d → Cuts a b c d
cuts [] b c d e = shorter c refl
cuts (x ∷ a) b [] d e = longer (x ∷ a) refl e
cuts (x ∷ a) b (y ∷ c) d e =
    let h = head_is x y (a ++ b) (c ++ d) e in
    elim (cuts a b c d h.1) [
      | longer f p q ↦ longer f (ap (λ (n : ℕ). n ∷ a) h.0 ∙ ap (λ (t : List ℕ). y ∷ t) p) q
      | shorter f p ↦ shorter f (ap (λ (n : ℕ). n ∷ c) (sym h.0) ∙ ap (λ (t : List ℕ). x ∷ t) p)
    ]

longer_stops : {X : Type 0} (text : List ℕ) (line at : ℕ) (m : HasMore text line) (d : StopsAt text at) (e : List ℕ)
    → spelling m.certificate ≡ d.front ++ e → e ++ m.next ∷ m.later ≡ d.next ∷ d.later → X
longer_stops text line at m d [] p q =
    let r = d.readable in
    no_longer r.certificate m.certificate r.next r.later r.has m.has (r.parts ∙ ap (λ (t : List ℕ). t ++ r.next ∷ r.later) (sym (p ∙ append-nil d.front)))
longer_stops text line at m d (x ∷ e) p q =
    let h = head_is x d.next (e ++ m.next ∷ m.later) d.later q in
    absurd (d.unreadable m.certificate e m.has (p ∙ ap (λ (n : ℕ). d.front ++ n ∷ e) h.0))

later_cons : {X : Type 0} (e : List ℕ) (next : ℕ) (later : List ℕ) → e ++ next ∷ later ≡ [] → X
later_cons [] next later h = no_cons next later h
later_cons (x ∷ e) next later h = no_cons x (e ++ next ∷ later) h

pub more-stops : {X : Type 0} (text : List ℕ) (line at : ℕ) → HasMore text line → StopsAt text at → X
more-stops text line at m d =
    elim (cuts (spelling m.certificate) (m.next ∷ m.later) d.front (d.next ∷ d.later) (sym m.parts ∙ d.parts)) [
      | longer e p q ↦ longer_stops text line at m d e p q
      | shorter e p ↦
          let r = d.readable in
          let whole : spelling r.certificate ≡ spelling m.certificate ++ (e ++ r.next ∷ r.later) =
          r.parts ∙ ap (λ (t : List ℕ). t ++ r.next ∷ r.later) p ∙ append_assoc (spelling m.certificate) e (r.next ∷ r.later) in
          later_cons e r.next r.later
          (spells_once r.certificate m.certificate (spelling r.certificate) (spelling m.certificate) (e ++ r.next ∷ r.later) (spelled r.certificate r.has) (spelled m.certificate m.has) whole).1
    ]

-- ---- so each answer is the one of its case

too_long : {X : Type 0} (text : List ℕ) → IsWithinLimit text → 268435456 < length text → X
too_long text within long = absurd (omega arith)

fault_only : (k : CertFaultKind) (line : ℕ) (text : List ℕ) (c : Certificate) → Spells c text → IsWithinLimit text → IsFault k line text → k ≡ kind.OutOfMemory
fault_only kind.OutOfMemory line text c s within f = refl
fault_only kind.TooLong line text c s within f = too_long text within f.0
fault_only kind.UnexpectedEnd line text c s within f = spells-front text c s f.1
fault_only kind.Trailing line text c s within f = spells-more text c line s f.1
fault_only kind.Syntax line text c s within f = spells-stops text c line s f.1
fault_only kind.NumberTooLarge line text c s within f = spells-stops text c line s f.1
fault_only kind.Version line text c s within f = spells-stops text c line s f.1

abbrev IsAnswer : List ℕ → Result Certificate CertFault → Type 0
IsAnswer text result = IfOk result (λ c. Spells c text × IsWithinLimit text) × IfErr result (λ fault. IsFault fault.kind fault.line text)

pub read_only : (text : List ℕ) (result : Result Certificate CertFault) → IsAnswer text result → (c : Certificate) → Spells c text → IsWithinLimit text → IsReadAs c result
read_only text (Ok d) a c s within = (spells_once d c text text [] a.0.0 s (sym (append-nil text))).0
read_only text (Err fault) a c s within = fault_only fault.kind fault.line text c s within a.1

front_only : (k : CertFaultKind) (line : ℕ) (text : List ℕ) → IsFront text → IsWithinLimit text → IsFault k line text → (k ≡ kind.UnexpectedEnd) ⊎ (k ≡ kind.OutOfMemory)
front_only kind.OutOfMemory line text s within f = inr refl
front_only kind.TooLong line text s within f = too_long text within f.0
front_only kind.UnexpectedEnd line text s within f = inl refl
front_only kind.Trailing line text s within f = front-more text line s f.1
front_only kind.Syntax line text s within f = front-stops text line s f.1
front_only kind.NumberTooLarge line text s within f = front-stops text line s f.1
front_only kind.Version line text s within f = front-stops text line s f.1

pub ends_only : (text : List ℕ) (result : Result Certificate CertFault) → IsAnswer text result → IsFront text → IsWithinLimit text → IsReported kind.UnexpectedEnd result
ends_only text (Ok d) a s within = spells-front text d a.0.0 s
ends_only text (Err fault) a s within = front_only fault.kind fault.line text s within a.1

more_only : (k : CertFaultKind) (line at : ℕ) (text : List ℕ) → HasMore text at → IsWithinLimit text → IsFault k line text → (k ≡ kind.Trailing) ⊎ (k ≡ kind.OutOfMemory)
more_only kind.OutOfMemory line at text s within f = inr refl
more_only kind.TooLong line at text s within f = too_long text within f.0
more_only kind.UnexpectedEnd line at text s within f = front-more text at f.1 s
more_only kind.Trailing line at text s within f = inl refl
more_only kind.Syntax line at text s within f = more-stops text at line s f.1
more_only kind.NumberTooLarge line at text s within f = more-stops text at line s f.1
more_only kind.Version line at text s within f = more-stops text at line s f.1

pub trailing_only : (text : List ℕ) (result : Result Certificate CertFault) → IsAnswer text result → (at : ℕ) → HasMore text at → IsWithinLimit text → IsReported kind.Trailing result
trailing_only text (Ok d) a at s within = spells-more text d at a.0.0 s
trailing_only text (Err fault) a at s within = more_only fault.kind fault.line at text s within a.1

abbrev some_kind : CertFaultKind → Option CertFaultKind
some_kind k = Some k

kind_same : (this that : CertFaultKind) → some_kind this ≡ some_kind that → this ≡ that
kind_same this that e = cc

-- the kind is that of the fault
same_kind : (text : List ℕ) (k that : CertFaultKind) → kind_in text ≡ Some k → kind_in text ≡ Some that → (k ≡ that) ⊎ (k ≡ kind.OutOfMemory)
same_kind text k that is e = inl (kind_same k that (sym is ∙ e))

stop_only : (k that : CertFaultKind) (line : ℕ) (text : List ℕ) → kind_in text ≡ Some that → IsWithinLimit text → IsFault k line text → (k ≡ that) ⊎ (k ≡ kind.OutOfMemory)
stop_only kind.OutOfMemory that line text e within f = inr refl
stop_only kind.TooLong that line text e within f = too_long text within f.0
stop_only kind.UnexpectedEnd that line text e within f = let s = stops_for text that e in front-stops text s.0 f.1 s.1
stop_only kind.Trailing that line text e within f = let s = stops_for text that e in more-stops text line s.0 f.1 s.1
stop_only kind.Syntax that line text e within f = same_kind text kind.Syntax that f.2 e
stop_only kind.NumberTooLarge that line text e within f = same_kind text kind.NumberTooLarge that f.2 e
stop_only kind.Version that line text e within f = same_kind text kind.Version that f.2 e

pub stops_only : (text : List ℕ) (result : Result Certificate CertFault) → IsAnswer text result → (that : CertFaultKind) → kind_in text ≡ Some that → IsWithinLimit text → IsReported that result
stops_only text (Ok d) a that e within = let s = stops_for text that e in spells-stops text d s.0 a.0.0 s.1
stops_only text (Err fault) a that e within = stop_only fault.kind that fault.line text e within a.1
