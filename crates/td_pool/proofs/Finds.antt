-- A better pair takes the place of the best, and lists of what is true.
use Rattle.std.proofs.Common.{◌≡◌, ◌+◌, ◌≤◌, List, [], ◌∷◌, ◌++◌, length, ap, ◌∙◌, length-append, arith}
use Rattle.std.specs.List.{AllByRecursion}
use Rattle.td_search.specs.Best.{Found as Best, IsBest}
use Rattle.td_search.specs.Problems.{Problem, has_delay}

-- another pair, which has no lesser delay
pub better_best : (asked : Problem) (best other : Best) → IsBest asked best → has_delay asked other.pair other.time → best.time ≤ other.time → IsBest asked other
better_best asked best other is delay more = (
  delay,
  record {
    pair = other.pair;
    is = delay;
    first = is.1.first;
    stands = is.1.stands;
    no_less = let least = is.1.no_less in omega arith;
  },
)

-- one more
pub all_push : {X : Type 0} (P : X → Type 0) (xs : List X) (x : X) → AllByRecursion P xs → P x → AllByRecursion P (xs ++ x ∷ [])
all_push P [] x h p = (p, tt)
all_push P (y ∷ ys) x h p = (h.0, all_push P ys x h.1 p)

pub one_longer : {X : Type 0} (xs ys : List X) (x : X) → ys ≡ xs ++ x ∷ [] → length ys ≡ length xs + 1
one_longer xs ys x e = ap length e ∙ length-append xs (x ∷ [])
