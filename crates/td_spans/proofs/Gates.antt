-- Gates: when a gate's output keeps the level of its target.
use Rattle.std.proofs.Common.{◌≡◌, ◌≢◌, ℕ, zero, suc, ◌+◌, ◌-◌, ◌≤◌, Bool, true, false, List, [], ◌∷◌, length, map, refl, arith, ap, sym, ◌∙◌}
use Rattle.std.proofs.lemmas.List.{length-map}
use Rattle.std.specs.Prelude.{not}
use Rattle.td_gates.specs.declared.timing.Delay.{Delay}
use Rattle.td_gates.specs.Delays.{IsInRange}
use Rattle.td_gates.specs.declared.primitives.Level.{Level}
use Rattle.td_gates.specs.declared.primitives.Level.TheVariants.{Zero, One, X}
use Rattle.td_gates.specs.declared.primitives.Kind.{Kind}
use Rattle.td_gates.specs.Table.{table, level_eq, level_from, TakesInputs}
use Rattle.td_gates.proofs.Places.{map-fuse}
use Rattle.td_gates.proofs.TableLaws.{Booleans, table-boolean}
use Rattle.td_spans.specs.Targets.{target_bit, steps_to}
use Rattle.td_spans.specs.Timed.{Follows}
use Rattle.td_spans.proofs.Following.{window_gives, hold_says}
use Rattle.td_spans.specs.Rules.{put_off}

pub same_bit : (a b : Bool) → level_from a ≡ level_from b → a ≡ b
same_bit true true same = refl
same_bit true false same = cc
same_bit false true same = cc
same_bit false false same = refl

whole_level : (l : Level) → l ≢ X → level_from (level_eq One l) ≡ l
whole_level Zero boolean = refl
whole_level One boolean = refl
whole_level X boolean = absurd (boolean refl)

bit_whole : (b : Bool) → level_from b ≢ X
bit_whole true = λ e. cc
bit_whole false = λ e. cc

all_whole : (f : ℕ → Bool) (inputs : List ℕ) → Booleans (map (λ i. level_from (f i)) inputs)
all_whole f [] = tt
all_whole f (i ∷ inputs) = (bit_whole (f i), all_whole f inputs)

-- the table on bits gives the target's bit
pub table_bits : (kind : Kind) (f : ℕ → Bool) (inputs : List ℕ) → TakesInputs kind (length inputs)
    → table kind (map (λ i. level_from (f i)) inputs) ≡ level_from (target_bit kind (map f inputs))
table_bits kind f inputs takes =
    sym (whole_level (table kind (map (λ i. level_from (f i)) inputs)) (table-boolean kind (map (λ i. level_from (f i)) inputs) (rw length-map takes) (all_whole f inputs)))
    ∙ ap (λ (ls : List Level). level_from (level_eq One (table kind ls))) (sym (map-fuse f level_from inputs))

pub bit_cases : {A : Type 0} (a v : Bool) → (a ≡ v → A) → (a ≡ not v → A) → A
bit_cases true true same other = same refl
bit_cases true false same other = other refl
bit_cases false true same other = other refl
bit_cases false false same other = same refl

pub not_self : (v : Bool) → v ≢ not v
not_self true = λ e. cc
not_self false = λ e. cc

pub some_steps : (delay : Delay) → IsInRange delay → (v : Bool) → 1 ≤ steps_to delay v
some_steps delay fits true = fits.least_rise
some_steps delay fits false = fits.least_fall

module _ (e : ℕ → Bool) (delay : Delay) (fits : IsInRange delay) (o : ℕ → Bool) (is : Follows e delay o) where
  pub opens : o 0 ≡ e 0
  opens = same_bit (o 0) (e 0) is.opening

  -- A target that is at a level from a place on gives the output this level the delay later.
  pub rests_later : (v : Bool) (m : ℕ) → ((n : ℕ) → m ≤ n → e n ≡ v) → (n : ℕ) → put_off m (steps_to delay v) ≤ n → o n ≡ v
  rests_later v zero all zero low = opens ∙ all 0 (omega arith)
  rests_later v zero all (suc n) low = window_gives e delay fits o is v n (λ k from to. all k (omega arith))
  rests_later v (suc m) all zero low = absurd (omega arith)
  rests_later v (suc m) all (suc n) low = window_gives e delay fits o is v n (λ k from to. all k (omega arith))

  -- One step of a hold: an output at a level stays at it, where the target was at this level at one
  -- of as many places as a change to the other level takes.
  pub holds_on : (v : Bool) (t n : ℕ) → o t ≡ v → n ≤ t → t + 1 ≤ n + steps_to delay (not v) → e n ≡ v → o (suc t) ≡ v
  holds_on v t n now low near at = bit_cases (o (suc t)) v (λ same. same) (λ other.
      let back : t + 1 - (t + 1 - n) ≡ n = omega arith in
      let was = hold_says e delay fits o is (not v) t (t + 1 - n) other (λ same. not_self v (sym now ∙ same)) (omega arith) (omega arith) in
      absurd (not_self v (sym at ∙ (rw back at was))))
