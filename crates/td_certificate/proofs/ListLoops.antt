-- The loop over the values of a list, each with the byte that closes it.
use Rattle.std.proofs.Common.{◌≡◌, ℕ, ◌<◌, Bool, true, false, List, [], ◌∷◌, ◌++◌, length, Ok, sym, ap, ◌∙◌}
use Rattle.td_certificate.specs.declared.fields.Stop as code_stop
use Rattle.td_certificate.specs.declared.fields.Stop.TheVariants as code
use Rattle.td_certificate.specs.Fields.{Reading, ◌>>=◌, Fails}
use Rattle.td_certificate.specs.StepReading.{until_at}
use Rattle.td_certificate.proofs.Codes.{IsCode}
use Rattle.td_certificate.proofs.Loops.{with_front, with_front-push}
use Rattle.td_certificate.proofs.Until.{behind_value, until_first, ended_alone, ended_before}

-- values up to one that is the last, as a list
abbrev listed : {A : Type 0} → (List ℕ → Reading (A × Bool)) → List ℕ → Reading (List A)
listed read bytes = until_at (λ x. x.1) (λ x. x.0 ∷ []) (λ x others. x.0 ∷ others) read bytes

abbrev behind : {A : Type 0} → (List ℕ → Reading (A × Bool)) → (A × Bool) × List ℕ → Reading (List A)
behind read x = behind_value (λ x. x.1) (λ x. x.0 ∷ []) (λ x others. x.0 ∷ others) (listed read) x

listed_first : {A : Type 0} {item : A × Bool → Type 0} {item_text : A × Bool → List ℕ} {read : List ℕ → Reading (A × Bool)} → IsCode item item_text read
    → ((x : A × Bool) → item x → 0 < length (item_text x)) → (bytes : List ℕ) → listed read bytes ≡ (read bytes >>= behind read)
listed_first is long bytes = until_first (λ x. x.1) (λ x. x.0 ∷ []) (λ x others. x.0 ∷ others) is long bytes

listed_read : {A : Type 0} {item : A × Bool → Type 0} {item_text : A × Bool → List ℕ} {read : List ℕ → Reading (A × Bool)} → IsCode item item_text read
    → ((x : A × Bool) → item x → 0 < length (item_text x)) → (bytes : List ℕ) (x : (A × Bool) × List ℕ) → read bytes ≡ Ok x → listed read bytes ≡ behind read x
listed_read {A} {item} {item_text} {read} is long bytes x e = listed_first is long bytes ∙ ap (λ (r : Reading (A × Bool)). r >>= behind read) e

pub listed_more : {A : Type 0} {item : A × Bool → Type 0} {item_text : A × Bool → List ℕ} {read : List ℕ → Reading (A × Bool)} → IsCode item item_text read
    → ((x : A × Bool) → item x → 0 < length (item_text x)) → (front : List A) (n : A) (last : Bool) (rest after : List ℕ) (total : Reading (List A))
    → read rest ≡ Ok ((n, last), after) → last ≡ false → with_front front (listed read rest) ≡ total → with_front (front ++ n ∷ []) (listed read after) ≡ total
listed_more {read = read} is long front n last rest after total e h so_far =
    sym (ap (with_front front) (listed_read is long rest ((n, last), after) e
    ∙ ended_before (λ x. x.0 ∷ []) (λ x others. x.0 ∷ others) last (n, last) after (listed read after) h)
    ∙ with_front-push front n (listed read after)) ∙ so_far

pub listed_done : {A : Type 0} {item : A × Bool → Type 0} {item_text : A × Bool → List ℕ} {read : List ℕ → Reading (A × Bool)} → IsCode item item_text read
    → ((x : A × Bool) → item x → 0 < length (item_text x)) → (front : List A) (n : A) (last : Bool) (rest after : List ℕ) (total : Reading (List A))
    → read rest ≡ Ok ((n, last), after) → last ≡ true → with_front front (listed read rest) ≡ total → total ≡ Ok (front ++ n ∷ [], after)
listed_done {read = read} is long front n last rest after total e h so_far =
    sym so_far ∙ ap (with_front front) (listed_read is long rest ((n, last), after) e
    ∙ ended_alone (λ x. x.0 ∷ []) (λ x others. x.0 ∷ others) last (n, last) after (listed read after) h)

pub listed_stop : {A : Type 0} {item : A × Bool → Type 0} {item_text : A × Bool → List ℕ} {read : List ℕ → Reading (A × Bool)} → IsCode item item_text read
    → ((x : A × Bool) → item x → 0 < length (item_text x)) → (stop : code_stop.Stop) (front : List A) (rest : List ℕ) (total : Reading (List A))
    → Fails stop (read rest) → with_front front (listed read rest) ≡ total → Fails stop total
listed_stop is long code.OutOfMemory front rest total e so_far = tt
listed_stop {A} {read = read} is long code.Ends front rest total e so_far =
    sym so_far ∙ ap (with_front front) (listed_first is long rest ∙ ap (λ (r : Reading (A × Bool)). r >>= behind read) e)
listed_stop {A} {read = read} is long (code.Wrong reason at) front rest total e so_far =
    sym so_far ∙ ap (with_front front) (listed_first is long rest ∙ ap (λ (r : Reading (A × Bool)). r >>= behind read) e)
