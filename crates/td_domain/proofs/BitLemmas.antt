-- Lemmas on Boolean inputs, and on what a cube's trit says of a bit.
use Rattle.std.proofs.Common.{ℕ, Bool, true, false, List, [], ◌∷◌, refl, ◌≡◌, Option, Some, subst, sym}
use Rattle.std.specs.List.{AllByRecursion}
use Rattle.td_gates.specs.Table.{level_from}
use Rattle.td_gates.specs.Wave.{Wave}
use Rattle.td_gates.specs.Known.{Agrees}
use Rattle.td_gates.proofs.TableLaws.{Booleans}
use Rattle.td_gates.proofs.KnownLaws.{levels_before}
use Rattle.td_domain.specs.declared.cubes.Trit.{Trit}
use Rattle.td_domain.specs.declared.cubes.Trit.TheVariants.{Zero, One, Free}
use Rattle.td_domain.specs.Waves.{IsBoolean}
use Rattle.td_domain.specs.Cubes.{level_of_trit, Allows}

pub all_booleans : (ins : List Wave) (n : ℕ) → AllByRecursion IsBoolean ins → Booleans (levels_before ins n)
all_booleans [] n h = tt
all_booleans (w ∷ ins) n h = (h.0 n, all_booleans ins n h.1)

pub bit_known : (trit : Trit) (bit : Bool) → Allows trit bit → Agrees (level_of_trit trit) (level_from bit)
bit_known Zero false allows = λ known. refl
bit_known Zero true allows = absurd allows
bit_known One false allows = absurd allows
bit_known One true allows = λ known. refl
bit_known Free bit allows = λ known. absurd (known refl)

abbrev pub some_trit : Trit → Option Trit
some_trit t = Some t

pub allows_free : (p : Trit) (bit : Bool) → p ≡ Free → Allows p bit
allows_free p bit e = subst (λ t. Allows t bit) (sym e) tt
