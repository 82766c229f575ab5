use Rattle.std.proofs.Common.{◌≡◌, false, ℕ, List, [], map, subst, sym, ◌∙◌, arith, get_or}
use Rattle.std.specs.Prelude.{not}
use Rattle.std.specs.Vec.{with_items}
use Rattle.std.proofs.lemmas.List.{get_or_read, with_items_is}
use Rattle.td_event_sim.specs.declared.rules.Tally.{Tally}
use Rattle.td_event_sim.specs.Bits.{bit_at}
use Rattle.td_event_sim.specs.Counting.{AreRecounted}
use Rattle.td_event_sim.specs.Rules.{AreReported, ones_of, rules_of}
use Rattle.td_event_sim.proofs.Ones.{turned-counted}
use Rattle.td_event_sim.proofs.Waitings.{items-at}
use Rattle.td_event_sim.proofs.logic.Logic.turn.Goals as goal

pub returns-clause-counted : goal.returns-clause-counted
returns-clause-counted c =
    let logic = c.args.self.now in
    let old : List ℕ = ones_of logic.tallies.items in
    let was : c.index.result.now ≡ bit_at logic.levels.items c.args.net = get_or_read logic.levels.items c.args.net c.index.result.now c.requires.net c.index.ensures false in
    let listed : c.deref.result.now ≡ get_or (map (λ outputs. outputs.items) c.args.readers.now) c.args.net [] =
    c.deref.ensures.value ∙ sym (items-at c.args.readers.now c.args.net c.index-readers-net.result (omega arith) c.index-readers-net.is) in
    let back : (with_items logic.tallies c.recount.new.tallies).items ≡ c.recount.new.tallies = with_items_is logic.tallies c.recount.new.tallies (c.recount.auto.tallies ∙ c.deref_mut.ensures.len) in
    let counts : AreRecounted c.args.first_output (get_or (map (λ outputs. outputs.items) c.args.readers.now) c.args.net []) (not (bit_at logic.levels.items c.args.net)) old (ones_of c.recount.new.tallies) =
    rw (listed, was, c.deref_mut.ensures.value) at c.in_ok-recount.ensures.counts in
    rw (back, was)
    (turned-counted c.args.first_output c.args.net (map (λ outputs. outputs.items) c.args.readers.now) logic.levels.items old (ones_of c.recount.new.tallies) c.requires.net counts)

pub returns-clause-reported : goal.returns-clause-reported
returns-clause-reported c = λ begun was.
    let logic = c.args.self.now in
    let back : (with_items logic.tallies c.recount.new.tallies).items ≡ c.recount.new.tallies = with_items_is logic.tallies c.recount.new.tallies (c.recount.auto.tallies ∙ c.deref_mut.ensures.len) in
    let reported = rw c.deref_mut.ensures.value at c.in_ok-recount.ensures.reported in
    subst (λ (tallies : List Tally). AreReported c.args.first_output (rules_of logic.tallies.items) begun (ones_of tallies) c.recount.new.turned.items) (sym back) (reported begun was)
