-- Internal: tokens and trees as the definitions name them, without where they lie in memory.
use Rattle.std.specs.Prelude.{ℕ, List, map, Option, None, Some}
use Rattle.std.specs.Borrow.{Bor}
use Rattle.td_syntax.specs.declared.syntax.Name as syntax_name
use Rattle.td_syntax.specs.declared.syntax.Range as syntax_range
use Rattle.td_syntax.specs.declared.syntax.Header as syntax_header
use Rattle.td_syntax.specs.declared.syntax.Port as syntax_port
use Rattle.td_syntax.specs.declared.syntax.Port.TheVariants as port
use Rattle.td_syntax.specs.declared.syntax.Ports as syntax_ports
use Rattle.td_syntax.specs.declared.syntax.Ports.TheVariants as ports
use Rattle.td_syntax.specs.declared.syntax.Terminal as syntax_terminal
use Rattle.td_syntax.specs.declared.syntax.Terminal.TheVariants as terminal
use Rattle.td_syntax.specs.declared.syntax.Delay as syntax_delay
use Rattle.td_syntax.specs.declared.syntax.Delay.TheVariants as delay
use Rattle.td_syntax.specs.declared.syntax.Declaration as syntax_declaration
use Rattle.td_syntax.specs.declared.syntax.Instance as syntax_instance
use Rattle.td_syntax.specs.declared.syntax.Statement as syntax_statement
use Rattle.td_syntax.specs.declared.syntax.Item as syntax_item
use Rattle.td_syntax.specs.declared.syntax.Item.TheVariants as item
use Rattle.td_syntax.specs.declared.syntax.Module as syntax_module
use Rattle.td_syntax.specs.declared.step.Step as steps
use Rattle.td_syntax.specs.declared.step.Step.TheVariants as step
use Rattle.td_syntax.specs.Grammar as grammar
use Rattle.td_syntax.specs.Readers as readers
use Rattle.td_syntax.specs.declared.token.Token.{Token}
use Rattle.td_syntax.specs.declared.token.Token.TheVariants as token
use Rattle.td_syntax.specs.declared.piece.Piece.{Piece}
use Rattle.td_syntax.specs.declared.piece.Piece.TheVariants as piece
use Rattle.td_syntax.specs.declared.token.Number as number
use Rattle.td_syntax.specs.declared.token.Placed as placed
use Rattle.td_syntax.specs.declared.token.Front as fronts
use Rattle.td_syntax.specs.declared.token.Front.TheVariants as front
use Rattle.td_syntax.specs.Token as lexical
use Rattle.td_syntax.specs.Lexical as pieces
use Rattle.td_syntax.specs.Tokens as tokens

abbrev pub option_bytes : Option (Bor (List ℕ)) → Option (List ℕ)
option_bytes None = None
option_bytes (Some w) = Some w.now

abbrev pub numeral_view : number.Number → lexical.Numeral
numeral_view n = record { whole = n.whole.now; fraction = option_bytes n.fraction }

abbrev pub option_numeral_view : Option (number.Number × ℕ) → Option (lexical.Numeral × ℕ)
option_numeral_view None = None
option_numeral_view (Some x) = Some (numeral_view x.0, x.1)

abbrev pub option_number_view : Option number.Number → Option lexical.Numeral
option_number_view None = None
option_number_view (Some n) = Some (numeral_view n)

abbrev pub view : Token → lexical.Token
view (token.Name w) = lexical.Name w.now
view (token.Escaped w) = lexical.Escaped w.now
view (token.Reserved k) = lexical.Reserved k
view (token.Number n) = lexical.Number (numeral_view n)
view (token.Constant b w) = lexical.Constant b w.now
view (token.Mark s) = lexical.Mark s
view token.Attribute = lexical.Attribute
view (token.Directive d w) = lexical.Directs d w.now
view (token.Outside w) = lexical.Outside w.now

abbrev pub piece_view : Piece → pieces.Piece
piece_view (piece.Space n) = pieces.Space n
piece_view (piece.Found t n) = pieces.Found (view t) n
piece_view (piece.Last s) = pieces.Last s

abbrev pub placed_view : placed.Placed → lexical.Placed
placed_view p = lexical.placed_on p.line (view p.token)

abbrev pub front_view : fronts.Front → tokens.Front
front_view (front.Next p) = tokens.Next (placed_view p)
front_view (front.Behind stop line) = tokens.Behind stop line

abbrev pub name_view : syntax_name.Name → grammar.Name
name_view n = record { name = n.name.now; line = n.line }

abbrev pub names_view : List syntax_name.Name → List grammar.Name
names_view ns = map name_view ns

abbrev pub option_name_view : Option syntax_name.Name → Option grammar.Name
option_name_view None = None
option_name_view (Some n) = Some (name_view n)

abbrev pub range_view : syntax_range.Range → grammar.Range
range_view r = record { left = r.left.now; right = r.right.now }

abbrev pub option_range_view : Option syntax_range.Range → Option grammar.Range
option_range_view None = None
option_range_view (Some r) = Some (range_view r)

abbrev pub delay_view : syntax_delay.Delay → grammar.Delay
delay_view (delay.Plain n) = grammar.Plain (numeral_view n)
delay_view (delay.Single n) = grammar.Single (numeral_view n)
delay_view (delay.Pair n m) = grammar.RiseFall (numeral_view n) (numeral_view m)

abbrev pub option_delay_view : Option syntax_delay.Delay → Option grammar.Delay
option_delay_view None = None
option_delay_view (Some d) = Some (delay_view d)

abbrev pub declaration_view : syntax_declaration.Declaration → grammar.Declaration
declaration_view d = record { attributes = d.attributes; role = d.role; wire = d.wire; range = option_range_view d.range; names = names_view d.names.items }

abbrev pub header_view : syntax_header.Header → grammar.Header
header_view h = record { attributes = h.attributes; role = h.role; wire = h.wire; range = option_range_view h.range; name = name_view h.name }

abbrev pub port_view : syntax_port.Port → grammar.Port
port_view (port.Bare n) = grammar.Bare (name_view n)
port_view (port.Headed h) = grammar.Headed (header_view h)

abbrev pub port_list_view : syntax_ports.Ports → grammar.Ports
port_list_view (ports.Names ns) = grammar.Names (names_view ns.items)
port_list_view (ports.Declared ps) = grammar.Declared (map port_view ps.items)

abbrev pub ports_view : Option syntax_ports.Ports → Option grammar.Ports
ports_view None = None
ports_view (Some ps) = Some (port_list_view ps)

abbrev pub terminal_view : syntax_terminal.Terminal → grammar.Terminal
terminal_view (terminal.Whole n) = grammar.Whole (name_view n)
terminal_view (terminal.Select n digits) = grammar.Select (name_view n) digits.now
terminal_view (terminal.Level b) = grammar.Level b

abbrev pub option_terminal_view : Option syntax_terminal.Terminal → Option grammar.Terminal
option_terminal_view None = None
option_terminal_view (Some t) = Some (terminal_view t)

abbrev pub instance_view : syntax_instance.Instance → grammar.Instance
instance_view i = record { name = option_name_view i.name; terminals = map terminal_view i.terminals.items }

abbrev pub statement_view : syntax_statement.Statement → grammar.Statement
statement_view s = record { attributes = s.attributes; kind = s.kind; delay = option_delay_view s.delay; instances = map instance_view s.instances.items }

abbrev pub item_view : syntax_item.Item → grammar.Item
item_view (item.Declares d) = grammar.Declares (declaration_view d)
item_view (item.Gates s) = grammar.Gates (statement_view s)

abbrev pub module_view : syntax_module.Module → grammar.Module
module_view m = record { fronts = m.fronts.items; name = name_view m.name; ports = ports_view m.ports; items = map item_view m.items.items; behind = m.behind.items }

abbrev pub step_view : {A B : Type 0} → (A → B) → steps.Step A → readers.ListStep B
step_view view (step.More a) = readers.More (view a)
step_view view (step.Final a) = readers.Final (view a)
step_view view step.Done = readers.Done
