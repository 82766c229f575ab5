-- The options that say something of inputs, and the one that says something of a net.
use Rattle.std.specs.Prelude.{ℕ, List, Option, None, Some, codes, if◌then◌else◌}
use Rattle.std.specs.Str.{bytes_eq}
use Rattle.td_inputs.specs.declared.topic.Topic.{Topic}
use Rattle.td_inputs.specs.declared.topic.Topic.TheVariants.{First, Second, Hold, At, Pin, HoldInput, Keep}

-- the word of the option
abbrev pub option_of : Topic → List ℕ
option_of First = codes "--first"
option_of Second = codes "--second"
option_of Hold = codes "--hold"
option_of At = codes "--at"
option_of Pin = codes "--pin"
option_of HoldInput = codes "--hold-input"
option_of Keep = codes "--keep"

-- the option that this word is, if it is one of them
abbrev pub topic_of : List ℕ → Option Topic
topic_of word =
    if bytes_eq word (codes "--first") then Some First
    else (if bytes_eq word (codes "--second") then Some Second
    else (if bytes_eq word (codes "--hold") then Some Hold
    else (if bytes_eq word (codes "--at") then Some At
    else (if bytes_eq word (codes "--pin") then Some Pin
    else (if bytes_eq word (codes "--hold-input") then Some HoldInput
    else (if bytes_eq word (codes "--keep") then Some Keep else None))))))
