-- What faults of a certificate's text mean, and what to do about them.
use Rattle.std.specs.Prelude.{ℕ, List, codes}
use Rattle.td_certificate.specs.declared.fault.CertFaultKind.{CertFaultKind}
use Rattle.td_certificate.specs.declared.fault.CertFaultKind.TheVariants as kind

abbrev pub sentence : CertFaultKind → List ℕ
sentence kind.OutOfMemory = codes "memory ran out"
sentence kind.Syntax = codes "a byte that the format doesn't allow here"
sentence kind.UnexpectedEnd = codes "the text ends before its certificate does"
sentence kind.Trailing = codes "more text after a whole certificate"
sentence kind.NumberTooLarge = codes "a number that passes its limit"
sentence kind.Version = codes "a version of certificates that this program doesn't know"
sentence kind.TooLong = codes "more than 268,435,456 bytes"

abbrev pub advice : CertFaultKind → List ℕ
advice kind.OutOfMemory = codes "give it more memory"
advice kind.Syntax = codes "make or fetch the certificate again; docs/CERTIFICATE.md has the format"
advice kind.UnexpectedEnd = codes "make or fetch the certificate again: it is empty or cut off; a search that ends as between has none"
advice kind.Trailing = codes "a file has one certificate; join makes one of several"
advice kind.NumberTooLarge = codes "make or fetch the certificate again"
advice kind.Version = codes "tdelay --version prints which it reads: take the program that made it, or a newer one"
advice kind.TooLong = codes "cut the question into parts and check the certificates of these: see docs/MANY-MACHINES.md"
