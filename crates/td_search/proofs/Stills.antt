-- Some of the admitted pairs: those of equal vectors, or all.
use Rattle.std.proofs.Common.{◌≡◌, Bool, List, refl, sym, subst, arith}
use Rattle.std.specs.Prelude.{Result, Ok, Err, IfOk}
use Rattle.td_domain.specs.declared.cubes.Trit.{Trit}
use Rattle.td_domain.specs.Cubes.{IsIn}
use Rattle.td_domain.specs.Admits.{Admitted, AreHeld, HasAdmitted}
use Rattle.td_search.specs.Still.{AreAmong}

-- at no input may bits differ
pub still_among : (admit still : Admitted) (pins : List Trit) (held : List Bool) → still ≡ record { pins = pins; held = held; flips = 0 }
    → pins ≡ admit.pins → held ≡ admit.held → (cube : List Trit) → cube ≡ still.pins → HasAdmitted still cube → AreAmong admit still
still_among admit still pins held e pins_are held_are cube cube_is any = subst (AreAmong admit) (sym e) (record {
  pins = pins_are;
  held = held_are;
  admitted = λ pair is. record {
    pinned = subst (λ (cube : List Trit). IsIn pair cube) pins_are is.pinned;
    held = subst (λ (h : List Bool). AreHeld h pair.first pair.second) held_are is.held;
    few = let few = is.few in omega (arith, few);
  };
  any = subst (λ (s : Admitted). HasAdmitted s s.pins) e (subst (HasAdmitted still) cube_is any);
})

pub all_among : (admit : Admitted) {E : Type 0} (r : Result Admitted E) → IfOk r (λ same. same ≡ admit) → HasAdmitted admit admit.pins
    → IfOk r (AreAmong admit)
all_among admit (Ok same) e any = subst (AreAmong admit) (sym e) (record { pins = refl; held = refl; admitted = λ pair is. is; any = any })
all_among admit (Err fault) e any = tt
