-- What it means that certificates aren't joined, and what to do about it.
use Rattle.std.specs.Prelude.{ℕ, List, codes}
use Rattle.td_join.specs.declared.fault.JoinFault.{JoinFault}
use Rattle.td_join.specs.declared.fault.JoinFault.TheVariants as fault

abbrev pub sentence : {P : Type 0} → JoinFault P → List ℕ
sentence fault.OutOfMemory = codes "memory ran out"
sentence fault.NoCertificate = codes "there is no certificate to join"
sentence (fault.OtherCircuit one other) = codes "the two are of circuits with other numbers of inputs or gates"
sentence (fault.OtherHold one other) = codes "the two are of questions with other inputs held (--hold)"
sentence (fault.OtherFlips one other) = codes "the two are of questions with another --flips"
sentence (fault.OtherMoments one other) = codes "the two are of questions with another --at"
sentence (fault.OtherTerms one other) = codes "the two are of questions with other default delays or another --output"
sentence (fault.Outside one) = codes "its pins aren't a part of those of the whole (--first, --second)"
sentence (fault.Overlap one other) = codes "an admitted pair lies in both"
sentence (fault.Crossed one other) = codes "both lie in a cube that no bit halves so that each part lies in one of the halves"
sentence (fault.Gap one) = codes "a part is missing: admitted pairs lie in no certificate"
sentence (fault.FalseNone one) = codes "a leaf of it claims that no pair lies in its cube, but all pairs are admitted"

abbrev pub advice : {P : Type 0} → JoinFault P → List ℕ
advice fault.OutOfMemory = codes "give it more memory"
advice fault.NoCertificate = codes "name the certificates of all parts"
advice (fault.OtherCircuit one other) = codes "one of them is of another netlist"
advice (fault.OtherHold one other) = codes "one of them is of another question: search it again with the options that `parts` printed"
advice (fault.OtherFlips one other) = codes "one of them is of another question: search it again with the options that `parts` printed"
advice (fault.OtherMoments one other) = codes "one of them is of another question: search it again with the options that `parts` printed"
advice (fault.OtherTerms one other) = codes "one of them is of another question: search it again with the options that `parts` printed"
advice (fault.Outside one) = codes "it is of another part of the pairs: leave it out, or loosen --first and --second"
advice (fault.Overlap one other) = codes "give each part once, and only parts of one call of `parts`"
advice (fault.Crossed one other) = codes "give only parts of one call of `parts`"
advice (fault.Gap one) = codes "search the missing part: worst with the --first and --second that the line above has, and --cert; then join all, or tell join the narrower question"
advice (fault.FalseNone one) = codes "the certificate is wrong: search that part again"
