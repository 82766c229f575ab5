-- Which fault of names is reported: nets with the lines that name them, and how many nets and
-- inputs there are.
use Rattle.std.specs.Prelude.{ℕ, List, [], ◌∷◌, ◌++◌, map, fold, sum_by}
use Rattle.std.specs.List.{flat_map}
use Rattle.td_syntax.specs.Grammar as grammar
use Rattle.td_nets.specs.Netlist.{Name, Net, Named}
use Rattle.td_nets.specs.Names.{with_name}
use Rattle.td_netlist.specs.Ranges.{width_of, nets_of}
use Rattle.td_netlist.specs.Module.{names_of, Declared, declarations, is_input, is_output, declared, ports_as, range_in, net_of, primitives, outputs_of, inputs_of, terminals_in}

-- the line of a terminal; constants have none
abbrev pub line_of : grammar.Terminal → ℕ
line_of (grammar.Whole n) = n.line
line_of (grammar.Select n digits) = n.line
line_of (grammar.Level b) = 0

-- a named net, and the line of the terminal or name that names it
pub record Placed : Type 0 where
  pub net : Name
  pub line : ℕ

abbrev pub placed_net : ℕ → Net → List Placed
placed_net line (Named name) = record { net = name; line = line } ∷ []
placed_net line constant = []

-- constants are left out
abbrev pub placed_in : grammar.Module → List grammar.Terminal → List Placed
placed_in m ts = flat_map (λ t. placed_net (line_of t) (net_of m t)) ts

abbrev pub nets_at : List Placed → List Name
nets_at ps = map (λ p. p.net) ps

-- the nets that gates drive, and those that they read
abbrev pub outputs_in : grammar.Module → List Placed
outputs_in m = placed_in m (flat_map outputs_of (primitives m))

abbrev pub inputs_in : grammar.Module → List Placed
inputs_in m = placed_in m (flat_map inputs_of (primitives m))

-- the output bits, at the line of their declaration, in the order of the declarations
abbrev pub output_bits : grammar.Module → List Placed
output_bits m = flat_map (λ d. map (λ net. record { net = net; line = d.name.line }) (nets_of d.name.name d.range)) (declared is_output m)

-- the different names, in the order in which they are first seen
abbrev pub different : List Name → List Name
different names = fold with_name [] names

-- the names of the module: those that are declared, and the plain names of terminals
abbrev pub plain_name : grammar.Terminal → List grammar.Name
plain_name (grammar.Whole n) = n ∷ []
plain_name t = []

abbrev pub names_in : grammar.Module → List Name
names_in m = different (names_of (map (λ d. d.name) (declarations m) ++ flat_map plain_name (terminals_in m)))

-- how many nets there are: a name has as many as its range holds
abbrev pub net_count : grammar.Module → ℕ
net_count m = sum_by (λ (name : Name). width_of (range_in m name.text)) (names_in m)

abbrev pub input_count : grammar.Module → ℕ
input_count m = sum_by (λ (d : Declared). width_of d.range) (declared is_input m)

-- the nets with a driver: the inputs, and the outputs of gates
abbrev pub driven_in : grammar.Module → List Name
driven_in m = ports_as is_input m ++ nets_at (outputs_in m)
