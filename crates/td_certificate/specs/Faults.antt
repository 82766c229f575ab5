-- Why a text isn't a certificate's spelling, and the line of the fault.
use Rattle.std.specs.Prelude.{◌≡◌, ◌≢◌, ℕ, ◌+◌, ◌^◌, ◌<◌, ◌≤◌, ◌==◌, ◌⊎◌, nat_le, if◌then◌else◌, false, codes, decimal, List, [], ◌∷◌, ◌++◌, length, Option, Some, None, Result, Ok, Err}
use Rattle.std.specs.List.{count_by}
use Rattle.std.specs.Char.{is_ascii_digit}
use Rattle.td_certificate.specs.declared.fault.CertFaultKind.{CertFaultKind}
use Rattle.td_certificate.specs.declared.fault.CertFaultKind.TheVariants as kind
use Rattle.td_certificate.specs.declared.fault.CertFault.{CertFault}
use Rattle.td_certificate.specs.declared.certificate.Certificate.{Certificate}
use Rattle.td_certificate.specs.declared.question.Version.{Version}
use Rattle.td_certificate.specs.declared.fields.Reason.{Reason}
use Rattle.td_certificate.specs.declared.fields.Reason.TheVariants as reason
use Rattle.td_certificate.specs.Questions.{version_number}
use Rattle.td_certificate.specs.Spelling.{HasSpelling, spelling, greatest}
use Rattle.td_certificate.specs.Reading.{Reading, Ends, Wrong, certificate_at}

-- the line of a place is one more than the number of newlines before it
abbrev pub line_behind : List ℕ → ℕ
line_behind front = 1 + count_by (λ b. b == 10) front

abbrev pub IsWithinLimit : List ℕ → Type 0
IsWithinLimit text = length text ≤ 268435456

-- a proper front of a spelling
pub record IsFront (text : List ℕ) : Type 0 where
  pub certificate : Certificate
  pub has : HasSpelling certificate
  pub next : ℕ
  pub later : List ℕ
  pub parts : spelling certificate ≡ text ++ next ∷ later

-- a spelling with more after it, which begins on this line
pub record HasMore (text : List ℕ) (place : ℕ) : Type 0 where
  pub certificate : Certificate
  pub has : HasSpelling certificate
  pub next : ℕ
  pub later : List ℕ
  pub parts : text ≡ spelling certificate ++ next ∷ later
  pub line : place ≡ line_behind (spelling certificate)

-- a text that can be read up to a byte of this line, and no further
pub record StopsAt (text : List ℕ) (place : ℕ) : Type 0 where
  pub front : List ℕ
  pub next : ℕ
  pub later : List ℕ
  pub parts : text ≡ front ++ next ∷ later
  pub readable : IsFront front
  pub unreadable : (c : Certificate) (more : List ℕ) → HasSpelling c → ¬ (spelling c ≡ front ++ next ∷ more)
  pub line : place ≡ line_behind front

-- the kind of fault that reports a reason
abbrev pub kind_of : Reason → CertFaultKind
kind_of reason.Syntax = kind.Syntax
kind_of reason.NumberTooLarge = kind.NumberTooLarge
kind_of reason.Version = kind.Version

abbrev pub kind_at : {A : Type 0} → Reading A → Option CertFaultKind
kind_at (Ok x) = None
kind_at (Err Ends) = None
kind_at (Err (Wrong reason rest)) = Some (kind_of reason)

-- the kind of the byte at which reading the text stops, where it does
unfoldable pub kind_in : List ℕ → Option CertFaultKind
kind_in text = kind_at (certificate_at text)

-- no digit stands in front
abbrev pub NoDigit : List ℕ → Type 0
NoDigit [] = Unit {0}
NoDigit (b ∷ rest) = is_ascii_digit b ≡ false

-- the number of no version
abbrev pub IsOther : ℕ → Type 0
IsOther number = (version : Version) → number ≢ version_number version

-- A first line with a number of no version, of at most 64 digits, is reported as another version,
-- or as a number too large, whatever follows the number.
abbrev pub VersionsAreReported : Type 0
VersionsAreReported = (n : ℕ) (later : List ℕ) → IsOther n → n < 10 ^ 64 → NoDigit later
    → kind_in (codes "tdelay-cert " ++ decimal n ++ later) ≡ Some (if nat_le n greatest then kind.Version else kind.NumberTooLarge)

-- the first line has the number of no version
pub record NamesVersion (text : List ℕ) : Type 0 where
  pub number : ℕ
  pub later : List ℕ
  pub other : IsOther number
  pub within : number ≤ greatest
  pub ended : NoDigit later
  pub parts : text ≡ codes "tdelay-cert " ++ decimal number ++ later

-- and no other text has the fault Version
abbrev pub VersionsAreNamed : Type 0
VersionsAreNamed = (text : List ℕ) → kind_in text ≡ Some kind.Version → NamesVersion text

-- what a fault says of the text
abbrev pub IsFault : CertFaultKind → ℕ → List ℕ → Type 0
IsFault kind.OutOfMemory line text = line ≡ 0
IsFault kind.TooLong line text = (268435456 < length text) × (line ≡ 1)
IsFault kind.UnexpectedEnd line text = IsWithinLimit text × IsFront text × (line ≡ line_behind text)
IsFault kind.Trailing line text = IsWithinLimit text × HasMore text line
IsFault kind.Syntax line text = IsWithinLimit text × StopsAt text line × (kind_in text ≡ Some kind.Syntax)
IsFault kind.NumberTooLarge line text = IsWithinLimit text × StopsAt text line × (kind_in text ≡ Some kind.NumberTooLarge)
IsFault kind.Version line text = IsWithinLimit text × StopsAt text line × (kind_in text ≡ Some kind.Version)

-- memory aside, the certificate was read
abbrev pub IsReadAs : Certificate → Result Certificate CertFault → Type 0
IsReadAs c (Ok read) = read ≡ c
IsReadAs c (Err fault) = fault.kind ≡ kind.OutOfMemory

-- memory aside, the result is this kind of fault
abbrev pub IsReported : CertFaultKind → Result Certificate CertFault → Type 0
IsReported k (Ok read) = ⊥
IsReported k (Err fault) = (fault.kind ≡ k) ⊎ (fault.kind ≡ kind.OutOfMemory)
