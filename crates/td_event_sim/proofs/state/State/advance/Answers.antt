use Rattle.std.specs.List.{Contains}
use Rattle.std.proofs.Common.{◌≡◌, ◌<◌, length, map, sym, ◌∙◌, arith, add-one, refl, subst, Vec, ℕ, List, Global}
use Rattle.std.proofs.lemmas.List.{length-map}
use Rattle.td_circuit.specs.Numbering.{nets, first_output}
use Rattle.td_circuit.proofs.Nets.{length-nets}
use Rattle.td_event_sim.specs.declared.rules.Rule.{Rule}
use Rattle.td_event_sim.specs.declared.rules.Tally.{Tally}
use Rattle.td_event_sim.specs.declared.state.State.{State}
use Rattle.td_event_sim.specs.Counting.{AreCounted, AreListed}
use Rattle.td_event_sim.specs.Queue.{AreBelow}
use Rattle.td_event_sim.specs.Moment.{AreWaitingBut, HasTurned, evaluation_at}
use Rattle.td_event_sim.specs.Rules.{AreRules, AreReported, ones_of, rules_of}
use Rattle.td_event_sim.proofs.Ones.{all-narrow}
use Rattle.td_event_sim.proofs.Evaluations.{evaluated-among, turned-reported}
use Rattle.td_event_sim.proofs.Moments.{moment-done}
use Rattle.td_event_sim.proofs.Fits.{readers-within, none-earlier, waiting-but}
use Rattle.td_event_sim.proofs.Rooms.{same-count, still-fits, with-events}
use Rattle.td_event_sim.proofs.state.State.advance.Goals as goal

pub update-requires-clause-first : goal.update-requires-clause-first
update-requires-clause-first c = none-earlier c.args.self.now.events.queue c.args.self.now.events.whens.items c.args.moment c.requires.in_time c.requires.earliest c.requires.waiting

pub update-requires-clause-waiting : goal.update-requires-clause-waiting
update-requires-clause-waiting c =
    subst (λ (taken : List ℕ). AreWaitingBut c.args.moment taken c.take.new.self c.args.self.now.events.whens.items) (sym c.deref.ensures.value)
    (waiting-but c.args.self.now.events.queue c.take.new.self c.args.self.now.events.whens.items c.take.new.taken.items c.args.moment c.requires.waiting c.take.ensures.taken c.take.ensures.keeps)

pub update-requires-clause-readers : goal.update-requires-clause-readers
update-requires-clause-readers c = readers-within (first_output c.args.circuit.now) (length (nets c.args.circuit.now)) _ _ c.args.readers.now
    c.first_gate-first_output.ensures
    (omega (arith, c.first_gate-first_output.ensures, length-nets c.args.circuit.now c.requires.numbering, c.requires.fits.tallies)) c.requires.readers.outputs

pub returns-in_err-update-clause-fits : goal.returns-in_err-update-clause-fits
returns-in_err-update-clause-fits c =
    let was : State = c.args.self.now in
    let below : AreBelow (length was.events.whens.items) c.take.new.self =
    c.take.ensures.below (length was.events.whens.items) (subst (λ (count : ℕ). AreBelow count was.events.queue) (sym c.requires.fits.whens) c.requires.fits.queue) in
    still-fits c.args.circuit.now _ c.update.new.self
    (with-events c.args.circuit.now was (record { whens = was.events.whens; queue = c.take.new.self }) c.requires.fits refl below) c.update.ensures.space c.update.ensures.below

pub returns-in_err-evaluate-clause-fits : goal.returns-in_err-evaluate-clause-fits
returns-in_err-evaluate-clause-fits c =
    let was : State = c.args.self.now in
    let below : AreBelow (length was.events.whens.items) c.take.new.self =
    c.take.ensures.below (length was.events.whens.items) (subst (λ (count : ℕ). AreBelow count was.events.queue) (sym c.requires.fits.whens) c.requires.fits.queue) in
    with-events c.args.circuit.now c.update.new.self c.evaluate.new.self (still-fits c.args.circuit.now _ c.update.new.self
    (with-events c.args.circuit.now was (record { whens = was.events.whens; queue = c.take.new.self }) c.requires.fits refl below) c.update.ensures.space c.update.ensures.below)
    c.evaluate.ensures.whens c.evaluate.ensures.below

pub returns-clause-fits : goal.returns-clause-fits
returns-clause-fits c =
    let was : State = c.args.self.now in
    let below : AreBelow (length was.events.whens.items) c.take.new.self =
    c.take.ensures.below (length was.events.whens.items) (subst (λ (count : ℕ). AreBelow count was.events.queue) (sym c.requires.fits.whens) c.requires.fits.queue) in
    with-events c.args.circuit.now c.update.new.self c.evaluate.new.self (still-fits c.args.circuit.now _ c.update.new.self
    (with-events c.args.circuit.now was (record { whens = was.events.whens; queue = c.take.new.self }) c.requires.fits refl below) c.update.ensures.space c.update.ensures.below)
    c.evaluate.ensures.whens c.evaluate.ensures.below

pub returns-clause-counted : goal.returns-clause-counted
returns-clause-counted c = c.in_ok-update.ensures.counted c.args.circuit.now.gates
    (subst (λ (first : ℕ). AreListed first c.args.circuit.now.gates (map (λ (v : Vec ℕ Global). v.items) c.args.readers.now)) (sym c.first_gate-first_output.ensures)
    c.requires.readers.listed)
    (all-narrow c.args.circuit.now c.requires.numbering) (sym (length-map c.args.self.now.logic.tallies.items (λ (t : Tally). t.ones) ∙ c.requires.fits.tallies)) c.requires.counted

pub returns-clause-state : goal.returns-clause-state
returns-clause-state c = λ waves states run state.
    let circuit = c.args.circuit.now in
    let was : State = c.args.self.now in
    let now : State = c.update.new.self in
    let first : ℕ = first_output circuit in
    let first_is : first ≡ c.first_gate-first_output.result = sym c.first_gate-first_output.ensures in
    let rules : List Rule = rules_of was.logic.tallies.items in
    let reported : AreReported first rules (ones_of was.logic.tallies.items) (ones_of now.logic.tallies.items) c.update.new.turned.items =
    subst (λ (n : ℕ). AreReported n rules (ones_of was.logic.tallies.items) (ones_of now.logic.tallies.items) c.update.new.turned.items) (sym first_is) c.in_ok-update.ensures.reported in
    let counted : AreCounted circuit.gates now.logic.levels.items (ones_of now.logic.tallies.items) = c.in_ok-update.ensures.counted circuit.gates
    (subst (λ (n : ℕ). AreListed n circuit.gates (map (λ (v : Vec ℕ Global). v.items) c.args.readers.now)) first_is c.requires.readers.listed)
    (all-narrow circuit c.requires.numbering) (sym (length-map was.logic.tallies.items (λ (t : Tally). t.ones) ∙ c.requires.fits.tallies)) c.requires.counted in
    let among : (net : ℕ) → net < length now.events.whens.items → HasTurned circuit.gates first was.logic.levels.items now.logic.levels.items net → Contains c.update.new.turned.items net =
    λ net h has. turned-reported circuit.gates first rules was.logic.levels.items now.logic.levels.items (ones_of was.logic.tallies.items) (ones_of now.logic.tallies.items) c.update.new.turned.items
    (length-map was.logic.tallies.items (λ (t : Tally). t.rule) ∙ c.requires.fits.tallies) c.requires.fits.rules c.requires.counted counted reported net has in
    let many : length now.logic.tallies.items ≡ length circuit.gates = same-count now.logic.tallies.items was.logic.tallies.items c.update.ensures.space.rules ∙ c.requires.fits.tallies in
    let evaluated = rw (c.first_gate-first_output.ensures, c.deref-2.ensures.value) at (c.in_ok-evaluate.ensures.evaluated circuit.gates (sym many)
    (subst (λ (found : List Rule). AreRules circuit.gates found) (sym c.update.ensures.space.rules) c.requires.fits.rules) counted) in
    rw add-one
    (moment-done circuit waves states run c.args.moment
    was.logic.levels.items now.logic.levels.items was.events.whens.items now.events.whens.items c.evaluate.new.self.whens.items was.latest.items now.latest.items
    c.requires.in_time c.in_ok-update.ensures.updated (record {
      same_whens = c.evaluate.ensures.whens;
      each_net = evaluated-among (evaluation_at circuit.gates first c.args.moment now.logic.levels.items) (Contains c.update.new.turned.items)
          (HasTurned circuit.gates first was.logic.levels.items now.logic.levels.items) now.events.whens.items c.evaluate.new.self.whens.items among evaluated;
    }) state)
