use Rattle.std.proofs.Common.{rules, ap, ◌∙◌, ◌≡◌, ◌++◌}
use Rattle.td_incumbent.proofs.Steps.{four, four_have_all}
use Rattle.td_incumbent.proofs.tests.greatest.Goals as goal

pub close-requires-clause-all : goal.close-requires-clause-all
close-requires-clause-all g c =
    let f = four c.in_ok-word.word c.in_ok-word.seats.items c.pop.new.self.items c.pop-2.new.self.items c.pop-3.new.self.items c.pop-4.new.self.items
    c.in-Some-pop-3.first c.in-Some-pop-2.second c.in-Some-pop.third c.in-Some.fourth
    (search rules) c.in_ok-word.ensures.each (search rules) (search rules) (search rules) (search rules) in
    let one : c.in_ok-one.one.seats ≡ c.in-Some-pop-3.first.seats = search rules in
    let two : c.in_ok-one.two.seats ≡ c.in-Some-pop-2.second.seats = search rules in
    let three : c.in_ok-one.three.seats ≡ c.in-Some-pop.third.seats = search rules in
    let fourth : c.in_ok-one.four.seats ≡ c.in-Some.fourth.seats = search rules in
    let p = ap (λ h. h.seats) c.join-pair.ensures in
    let q = ap (λ h. h.seats) c.join-triple.ensures in
    let r = ap (λ h. h.seats) c.join-all.ensures in
    four_have_all c.in_ok-word.word c.in_ok-one.one.seats c.in_ok-one.two.seats c.in_ok-one.three.seats c.in_ok-one.four.seats c.join-all.result.seats (search rules)
    (one ∙ ap (λ h. h.seats) f.first)
    (two ∙ ap (λ h. h.seats) f.second)
    (three ∙ ap (λ h. h.seats) f.third)
    (fourth ∙ ap (λ h. h.seats) f.fourth)
    (r ∙ (ap (λ l. l ++ c.in_ok-one.four.seats) (q ∙ ap (λ l. l ++ c.in_ok-one.three.seats) p)))
