-- Internal: the bytes that were read of the files of a request, and their texts.
use Rattle.std.specs.Prelude.{ℕ, List, option_map}
use Rattle.td_answer.specs.declared.texts.Texts.{Texts}
use Rattle.td_request.specs.declared.request.Request.{Request}
use Rattle.td_cli.specs.declared.bytes.Bytes.{Bytes}
use Rattle.td_cli.specs.Carrying.{Holds}

-- the files that the request names hold these bytes
abbrev pub AreBytes : (List ℕ → List ℕ → Type 0) → Request → Bytes → Type 0
AreBytes holds request bytes =
    Holds holds request bytes.netlist.items bytes.certificates.items (option_map (λ text. text.now) bytes.keep)

-- they hold these texts
abbrev pub AreTexts : (List ℕ → List ℕ → Type 0) → Request → Texts → Type 0
AreTexts holds request texts = Holds holds request texts.netlist.now texts.certificates.now (option_map (λ text. text.now) texts.keep)
