-- Internal: known names, without where they lie in memory.
use Rattle.std.specs.Prelude.{ℕ, List, Option, None, Some}
use Rattle.std.specs.Borrow.{Bor}
use Rattle.std.specs.List.{AllByRecursion}
use Rattle.td_netlist.specs.declared.ranges.Range.{Range}
use Rattle.td_netlist.specs.Ranges.{IsLimited}
use Rattle.td_netlist.specs.Checks.{Known}

abbrev pub known_of : Bor (List ℕ) × Option Range → Known
known_of e = record { text = e.0.now; range = e.1 }

-- what was found for this name
abbrev pub known_as : List ℕ → Option (Option Range) → Option Known
known_as text None = None
known_as text (Some range) = Some (record { text = text; range = range })

-- each range has numbers within their limit
abbrev pub AreLimited : List Known → Type 0
AreLimited ks = AllByRecursion (λ (k : Known). IsLimited k.range) ks
