-- The dump of a netlist that is read of a text says its waves.
use Rattle.std.proofs.Common.{ℕ, List, [], ◌∷◌, sym, subst}
use Rattle.td_gates.specs.declared.timing.Delay.{Delay}
use Rattle.td_nets.specs.Netlist.{Netlist}
use Rattle.td_netlist.specs.Means.{Means}
use Rattle.td_source.specs.Reads.{IsAskedAbout}
use Rattle.td_vcd.specs.Laws.{HasNamesOnOneLine, SaysTheWaves}
use Rattle.td_cli.specs.DumpLaws.{NamesOfTexts, DumpsOfTextsSay}
use Rattle.td_cli.proofs.TokenNames.{tokens_fine}
use Rattle.td_cli.proofs.TreeNames.{module_fine}
use Rattle.td_cli.proofs.NetNames.{netlist_fine}

-- no name of the netlist that a text means has a newline
meant_fine : (text : List ℕ) (default : Delay) (netlist : Netlist) → Means text default netlist → HasNamesOnOneLine netlist
meant_fine text default netlist means =
    subst (λ (listed : Netlist). HasNamesOnOneLine listed) (sym means.lists)
    (netlist_fine default means.tree (module_fine means.tree (tokens_fine means.parses.spelled)))

-- the netlist that is asked about has the names of the whole one
asked_fine : (whole : Netlist) (words : List (List ℕ)) (netlist : Netlist) → IsAskedAbout whole words netlist → HasNamesOnOneLine whole
    → HasNamesOnOneLine netlist
asked_fine whole [] netlist is fine = subst (λ (asked : Netlist). HasNamesOnOneLine asked) (sym is) fine
asked_fine whole (word ∷ words) netlist is fine =
    subst (λ (asked : Netlist). HasNamesOnOneLine asked) (sym is.2.2) (record { own = fine.own; nets = fine.nets })

pub names_fine : NamesOfTexts
names_fine text reading netlist reads =
    asked_fine reads.whole reading.outputs netlist reads.asked (meant_fine text reading.default reads.whole reads.means)

pub dumps_say : NamesOfTexts → SaysTheWaves → DumpsOfTextsSay
dumps_say fine say text reading netlist waves reads are long = say netlist waves (fine text reading netlist reads) are long
