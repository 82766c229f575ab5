use Rattle.std.proofs.Common.{◌≡◌, ◌+◌, ◌<◌, ℕ, List, length, refl, Option, Some, None, ap, sym, ◌∙◌, get_or, drop}
use Rattle.std.proofs.lemmas.Option.{slice_get_read}
use Rattle.td_domain.specs.Bounds.{greater}
use Rattle.td_domain.specs.Together.{lesser, pairs}
use Rattle.td_domain.proofs.Pairing.{pairs-get}
use Rattle.td_domain.proofs.GreatestLemmas.{greater-assoc, greatest_at, greatest_at-drop}
use Rattle.td_domain.proofs.together.greatest_of_both.Goals as goal

-- what one more net makes of the greatest
turn : {S T : Type 0} (last_of : S → Option ℕ) (last_of' : T → Option ℕ) (firsts : List S) (seconds : List T) (nets : List ℕ) (i latest : ℕ)
    (first : S) (second : T) (whole last : Option ℕ)
    → i < length nets → get_or nets i 0 < length firsts → length seconds ≡ length firsts
    → first ≡ get_or firsts (get_or nets i 0) first → second ≡ get_or seconds (get_or nets i 0) second
    → whole ≡ greater (Some latest) (greatest_at (λ (signal : S × T). lesser (last_of signal.0) (last_of' signal.1)) (pairs firsts seconds) (drop i nets))
    → last ≡ lesser (last_of first) (last_of' second)
    → whole ≡ greater (Some latest) (greater last (greatest_at (λ (signal : S × T). lesser (last_of signal.0) (last_of' signal.1)) (pairs firsts seconds) (drop (i + 1) nets)))
turn {S} {T} last_of last_of' firsts seconds nets i latest first second whole last within place same is also invariant at =
    let stands = slice_get_read firsts (length firsts) (get_or nets i 0) first refl place is in
    let stands' = slice_get_read seconds (length firsts) (get_or nets i 0) second (sym same) place also in
    let step = greatest_at-drop (λ (signal : S × T). lesser (last_of signal.0) (last_of' signal.1)) (pairs firsts seconds) nets i (get_or nets i 0) (first, second) within refl
    (pairs-get firsts seconds (get_or nets i 0) first second stands stands') in
    rw at (invariant ∙ ap (λ o. greater (Some latest) o) step)

pub returns-in_err-last_of_both : goal.returns-in_err-last_of_both
returns-in_err-last_of_both g c =
    c.from_residual.ensures ∙ sym (turn g.A.Domain.functions.last_of g.B.Domain.functions.last_of _ _ _ _ _ _ _ _ None c.loop-net-test.true
    (c.requires.within _ 0 c.loop-net-test.true) c.requires.len c.index-first-place.is c.index-second-place.is
    c.loop-net.invariant c.in_err-last_of_both.ensures)

pub loop-net-preserved : goal.loop-net-preserved
loop-net-preserved g c =
    let whole = turn g.A.Domain.functions.last_of g.B.Domain.functions.last_of _ _ _ _ _ _ _ _ (Some c.in_ok-last_of_both.field-0) c.loop-net-test.true
    (c.requires.within _ 0 c.loop-net-test.true) c.requires.len c.index-first-place.is c.index-second-place.is
    c.loop-net.invariant c.in_ok-last_of_both.ensures in
    let more = greater-assoc c.loop-net.latest c.in_ok-last_of_both.field-0
    (greatest_at (λ signal. lesser (g.A.Domain.functions.last_of signal.0) (g.B.Domain.functions.last_of signal.1)) (pairs c.args.first.now c.args.second.now) (drop (c.loop-net.net-index + 1) c.args.nets.now)) in
    rw c.max-latest.ensures (whole ∙ more)
