-- Members of an object of JSON: keys and values.
use Rattle.std.specs.Prelude.{ℕ, List, [], ◌∷◌, map, codes, decimal}
use Rattle.json.specs.Json.{Json, number, string, array, object, Members, no_members, member}
use Rattle.json.specs.Token.{Token}
use Rattle.td_lines.specs.declared.terms.Named.{Named}
use Rattle.td_lines.specs.declared.terms.Said.{Said}
use Rattle.td_lines.specs.declared.terms.Said.TheVariants as said
use Rattle.td_lines.specs.declared.terms.Term.{Term}
use Rattle.td_lines.specs.declared.terms.Terms.{Terms}
use Rattle.td_lines.specs.Values.{items_by, member_tokens, delays_value}

-- an option and its word
abbrev pub option_value : List ℕ × List ℕ → Json
option_value option = object (member (codes "option") (string option.0) (member (codes "word") (string option.1) no_members))

abbrev pub named_value : Named → Json
named_value row = option_value (row.option, row.word)

abbrev pub said_value : Said → Json
said_value (said.Word text) = string text
said_value (said.Number count) = number (decimal count)
said_value (said.Delays rise fall) = delays_value rise fall
said_value (said.Words words) = array (items_by string words.items)
said_value (said.Options options) = array (items_by named_value options.items)

-- a key and its value
abbrev pub Entry : Type 0
Entry = List ℕ × Json

abbrev pub entry_of : Term → Entry
entry_of term = (term.key.now, said_value term.said)

-- the keys and values of members
abbrev pub entries_of : Terms → List Entry
entries_of terms = map entry_of terms.terms.items

abbrev pub term_tokens : Term → List Token
term_tokens term = member_tokens term.key.now (said_value term.said)

abbrev pub members_by : List Entry → Members
members_by [] = no_members
members_by (entry ∷ entries) = member entry.0 entry.1 (members_by entries)
