-- One step of the walk back, and its end at an input.
use Rattle.std.proofs.Common.{◌≡◌, ◌≢◌, ℕ, zero, suc, ◌+◌, ◌-◌, ◌<◌, ◌≤◌, List, [], ◌∷◌, ◌++◌, length, map, reverse, refl, arith, ◌∙◌, sym, ap, Some, None}
use Rattle.std.specs.Prelude.{slice_get}
use Rattle.td_gates.specs.declared.primitives.Level.{Level}
use Rattle.td_gates.specs.declared.primitives.Level.TheVariants.{X}
use Rattle.td_gates.specs.declared.primitives.Kind.{Kind}
use Rattle.td_gates.specs.declared.timing.Delay.{Delay}
use Rattle.td_gates.specs.Table.{delay_to}
use Rattle.td_gates.specs.Wave.{Wave, at, before, last}
use Rattle.td_gates.specs.Schedule.{target_at, target_before}
use Rattle.td_gates.proofs.Places.{some-same, slice_get-some, slice_get-within, slice_get-Contains, slice_get-get}
use Rattle.td_nets.specs.Netlist.{Low, High, Named, Gate}
use Rattle.td_circuit.specs.Numbering.{NumberedGate, Numbered, setting, nets, first_output, IsNumbering}
use Rattle.td_circuit.specs.NetValues.{net_wave}
use Rattle.td_circuit.proofs.Looping.{input_number, output_number}
use Rattle.td_circuit.proofs.Nets.{gate_at}
use Rattle.td_circuit.proofs.Searching.{reverse_push}
use Rattle.td_run.specs.Waves.{constant, waves_of}
use Rattle.td_run.specs.Runs.{NetWaves}
use Rattle.td_path.specs.declared.links.Cause.{Cause}
use Rattle.td_path.specs.declared.links.Link as code
use Rattle.td_path.specs.Links.{Link, IsChange, IsOfInput, IsCausedBy, IsChain}
use Rattle.td_path.specs.Chains.{IsRunFor, net_at, link_of}
use Rattle.td_path.specs.Walks.{ArePlaces, wave_at, ChangesAt, SomeChanges, IsFirstChange, link_by, LeadsFrom, IsWalking}
use Rattle.td_path.proofs.Inputs.{input_moment}
use Rattle.td_path.proofs.Numbers.{net_at-is, named_wave, number_wave, inputs_are, below_all, cause_of, is_wave}
use Rattle.td_path.proofs.Lasts.{last_changes, none_changes}

target_at-as : (kind kind' : Kind) (ins ins' : List Wave) (t : ℕ) (level : Level) → kind ≡ kind' → ins' ≡ ins
    → target_at kind ins t ≡ level → target_at kind' ins' t ≡ level
target_at-as kind kind' ins ins' t level p q is = rw (← p, q) is

target_before-as : (kind kind' : Kind) (ins ins' : List Wave) (t : ℕ) (level : Level) → kind ≡ kind' → ins' ≡ ins
    → target_before kind ins t ≢ level → target_before kind' ins' t ≢ level
target_before-as kind kind' ins ins' t level p q is = rw (← p, q) is

delay_to-as : (delay delay' : Delay) (level : Level) → delay ≡ delay' → delay_to delay level ≡ delay_to delay' level
delay_to-as delay delay' level same = ap (λ d. delay_to d level) same

pub steps_are : (waves : List Wave) (number now steps : ℕ) (wave : Wave) (level : Level) (delay : Delay) → slice_get waves number ≡ Some wave
    → level ≡ at wave now → steps ≡ delay_to delay level → steps ≡ delay_to delay (at (wave_at waves number) now)
steps_are waves number now steps wave level delay at_number is_level are =
    are ∙ ap (delay_to delay) (is_level ∙ ap (λ w. at w now) (sym (slice_get-get waves number wave (constant X) at_number)))

module _ (circuit : Numbered) (run : NetWaves) (numbering : IsNumbering circuit) (is : IsRunFor circuit run) where
  -- a link by number is a change of its net
  change_of : (number now : ℕ) (cause : _) → number < length (nets circuit) → ChangesAt (wave_at run.waves number) now
      → IsChange (net_wave (nets circuit) run.waves) (link_of (nets circuit) (link_by run.waves number now cause))
  change_of number now cause below changes =
      let same = number_wave circuit run numbering is number below in
      record {
        from = ap (λ w. before w now) same;
        to = ap (λ w. at w now) same;
        differ = λ equal. changes (sym equal);
      }

  -- a link is caused by any link that is the change of the net of its terminal
  caused : (places : List ℕ) → ArePlaces circuit places → (place index now earlier terminal steps : ℕ) (numbered : NumberedGate)
      → slice_get circuit.gates place ≡ Some numbered → slice_get places place ≡ Some index
      → ChangesAt (wave_at run.waves (first_output circuit + place)) now
      → steps ≡ delay_to numbered.delay (at (wave_at run.waves (first_output circuit + place)) now) → earlier ≡ now - steps
      → (first : IsFirstChange run.waves numbered.inputs earlier terminal)
      → (link : Link) → link.net ≡ net_at (nets circuit) first.number → link.moment ≡ earlier
      → IsCausedBy circuit.netlist (net_wave (nets circuit) run.waves) link
      (link_of (nets circuit) (link_by run.waves (first_output circuit + place) now
      (Some (record { gate = index; kind = numbered.kind; terminal = terminal; delay = steps }))))
  caused places are place index now earlier terminal steps numbered at_place at_index changes far back first link of_net of_moment =
      let why : Cause = record { gate = index; kind = numbered.kind; terminal = terminal; delay = steps } in
      let number : ℕ = first_output circuit + place in
      let level : Level = at (wave_at run.waves number) now in
      let cause = cause_of circuit run numbering is place numbered now at_place changes in
      let found = gate_at circuit numbering place numbered at_place in
      let gate : Gate = found.0 in
      let same_delay = delay_to-as numbered.delay gate.delay level found.3.delay in
      let put_off : now ≡ cause.earlier + delay_to numbered.delay level = cause.put_off in
      let same : cause.earlier ≡ link.moment = omega (arith, put_off, far, back, of_moment) in
      let ins = inputs_are circuit run numbering is place numbered gate found.3 in
      let short = slice_get-some numbered.inputs terminal first.number first.is_number in
      let net = slice_get-within gate.inputs terminal (omega (arith, short, found.3.inputs.count)) in
      let named = found.3.inputs.each terminal first.number net.0 first.is_number net.1 in
      record {
        change = change_of number now (Some why) (below_all circuit run numbering is place numbered at_place) changes;
        cause = why;
        is_cause = refl;
        gate = gate;
        is_gate = are.each place index gate found.1 at_index;
        output = net_at-is (nets circuit) number (Named gate.output) (output_number circuit place gate found.1);
        reads = net.1 ∙ ap (λ n. Some n) (sym (of_net ∙ net_at-is (nets circuit) first.number net.0 named));
        kind = found.3.kind;
        takes = far ∙ same_delay;
        delay = omega (arith, put_off, same, far);
        target = rw (← same) (target_at-as numbered.kind gate.kind (waves_of run.waves numbered.inputs)
            (map (net_wave (nets circuit) run.waves) gate.inputs) cause.earlier level found.3.kind ins cause.target);
        changed = rw (← same) (target_before-as numbered.kind gate.kind (waves_of run.waves numbered.inputs)
            (map (net_wave (nets circuit) run.waves) gate.inputs) cause.earlier level found.3.kind ins cause.changed);
        first = λ k other less at_k.
            let inside = slice_get-some gate.inputs k other at_k in
            let read = slice_get-within numbered.inputs k (omega (arith, inside, found.3.inputs.count)) in
            let wave = named_wave circuit run numbering is read.0 other (found.3.inputs.each k read.0 other read.1 at_k) in
            rw (of_moment, wave) (first.first k read.0 less read.1);
      }

  -- the delay of a change leads back to a moment at which a net that the gate reads changes
  pub back_far : (place number now steps : ℕ) (numbered : NumberedGate) → slice_get circuit.gates place ≡ Some numbered
      → number ≡ first_output circuit + place → ChangesAt (wave_at run.waves number) now
      → steps ≡ delay_to numbered.delay (at (wave_at run.waves number) now)
      → (steps ≤ now) × SomeChanges run.waves numbered.inputs (now - steps)
  back_far place number now steps numbered at_place here changes far =
      let cause = cause_of circuit run numbering is place numbered now at_place (rw here at changes) in
      let own : steps ≡ delay_to numbered.delay (at (wave_at run.waves (first_output circuit + place)) now) = rw here at far in
      let same : cause.earlier ≡ now - steps = omega (arith, cause.put_off, own) in
      (omega (arith, cause.put_off, own), rw (← same) cause.some)

  pub step_back : (places : List ℕ) → ArePlaces circuit places
      → (net moment number now place index earlier terminal steps : ℕ) (numbered : NumberedGate) (links : List code.Link)
      → IsWalking circuit run net moment number now links → number ≡ first_output circuit + place
      → slice_get circuit.gates place ≡ Some numbered → slice_get places place ≡ Some index
      → steps ≡ delay_to numbered.delay (at (wave_at run.waves number) now) → earlier ≡ now - steps
      → IsFirstChange run.waves numbered.inputs earlier terminal → (next : ℕ) → slice_get numbered.inputs terminal ≡ Some next
      → IsWalking circuit run net moment next earlier
      (links ++ link_by run.waves number now (Some (record { gate = index; kind = numbered.kind; terminal = terminal; delay = steps })) ∷ [])
  step_back places are net moment number now place index earlier terminal steps numbered links walking here at_place at_index far back first next at_next =
      let l : code.Link = link_by run.waves number now (Some (record { gate = index; kind = numbered.kind; terminal = terminal; delay = steps })) in
      let found = gate_at circuit numbering place numbered at_place in
      let lower = found.3.lower first.number (slice_get-Contains numbered.inputs terminal first.number first.is_number) in
      let same : first.number ≡ next = some-same first.number next (sym first.is_number ∙ at_next) in
      rw (← same) (record {
        below = omega (arith, lower, below_all circuit run numbering is place numbered at_place);
        changes = first.changes;
        leads = λ link of_net of_moment.
            let rest = walking.leads (link_of (nets circuit) l) refl refl in
            rw (reverse_push links l) (record {
              end = rest.end;
              leads = (
                rw here (caused places are place index now earlier terminal steps numbered at_place at_index
                    (rw here at walking.changes) (rw here at far) back first link of_net of_moment),
                rest.leads,
              );
              is_net = rest.is_net;
              is_moment = rest.is_moment;
            });
      })

  low_still : (t : ℕ) → ChangesAt (wave_at run.waves 0) t → ⊥
  low_still t changes = still (net_wave (nets circuit) run.waves Low) is.runs.low t (rw (← named_wave circuit run numbering is 0 Low refl) at changes)
    where
      still : (wave : Wave) → wave.changes ≡ [] → (t : ℕ) → ChangesAt wave t → ⊥
      still wave none zero changes = changes (rw none)
      still wave none (suc t) changes = changes (rw none)

  high_still : (t : ℕ) → ChangesAt (wave_at run.waves 1) t → ⊥
  high_still t changes = still (net_wave (nets circuit) run.waves High) is.runs.high t (rw (← named_wave circuit run numbering is 1 High refl) at changes)
    where
      still : (wave : Wave) → wave.changes ≡ [] → (t : ℕ) → ChangesAt wave t → ⊥
      still wave none zero changes = changes (rw none)
      still wave none (suc t) changes = changes (rw none)

  -- a net below the gates' outputs that changes is an input
  begins : (number now : ℕ) → number < first_output circuit → ChangesAt (wave_at run.waves number) now → number < length (nets circuit)
      → IsOfInput (setting circuit) (net_wave (nets circuit) run.waves) (link_of (nets circuit) (link_by run.waves number now None))
  begins zero now low changes below = absurd (low_still now changes)
  begins (suc zero) now low changes below = absurd (high_still now changes)
  begins (suc (suc i)) now low changes below =
      let name = slice_get-within circuit.netlist.inputs i (omega (arith, low)) in
      let numbered = input_number circuit i name.0 name.1 in
      let wave = named_wave circuit run numbering is (suc (suc i)) (Named name.0) numbered in
      record {
        change = change_of (suc (suc i)) now None below changes;
        place = i;
        name = name.0;
        is_input = name.1;
        net = net_at-is (nets circuit) (suc (suc i)) (Named name.0) numbered;
        moment = input_moment (setting circuit) is.first is.second (net_wave (nets circuit) run.waves) is.runs i name.0 now name.1 (rw wave changes);
        cause = refl;
      }

  pub ends_back : (net moment number now : ℕ) (links : List code.Link) → IsWalking circuit run net moment number now links
      → number < first_output circuit → LeadsFrom circuit run net moment (links ++ link_by run.waves number now None ∷ [])
  ends_back net moment number now links walking low =
      let l : code.Link = link_by run.waves number now None in
      record {
        link = link_of (nets circuit) l;
        others = map (link_of (nets circuit)) (reverse links);
        parts = ap (map (link_of (nets circuit))) (reverse_push links l);
        begins = begins number now low walking.changes walking.below;
        leads = walking.leads (link_of (nets circuit) l) refl refl;
      }

  pub starts : (net moment : ℕ) → net < length (nets circuit) → ChangesAt (wave_at run.waves net) moment
      → IsWalking circuit run net moment net moment []
  starts net moment below changes = record {
    below = below;
    changes = changes;
    leads = λ link of_net of_moment. record { end = link; leads = refl; is_net = of_net; is_moment = of_moment };
  }

  pub is_chain : (net moment : ℕ) (links found : List code.Link) → net < length (nets circuit)
      → last (wave_at run.waves net) ≡ Some moment → LeadsFrom circuit run net moment links → found ≡ reverse links
      → IsChain (setting circuit) (net_wave (nets circuit) run.waves) (net_at (nets circuit) net) (map (link_of (nets circuit)) found)
  is_chain net moment links found below is_last from turned = record {
    first = from.link;
    others = from.others;
    end = from.leads.end;
    parts = ap (map (link_of (nets circuit))) turned ∙ from.parts;
    begins = from.begins;
    leads = from.leads.leads;
    ends = from.leads.is_net;
    is_last = ap last (number_wave circuit run numbering is net below) ∙ is_last ∙ ap (λ m. Some m) (sym from.leads.is_moment);
  }

  pub no_chain : (net : ℕ) → net < length (nets circuit) → last (wave_at run.waves net) ≡ None
      → (net_wave (nets circuit) run.waves (net_at (nets circuit) net)).changes ≡ []
  no_chain net below none = rw (number_wave circuit run numbering is net below) (none_changes (wave_at run.waves net).changes none)

  pub change_at_last : (net moment : ℕ) → net < length (nets circuit) → last (wave_at run.waves net) ≡ Some moment
      → ChangesAt (wave_at run.waves net) moment
  change_at_last net moment below is_last = last_changes (wave_at run.waves net) moment (is_wave circuit run numbering is net below) is_last
