-- What went out, and what is still to come: the bytes of a batch, and the rest of a text after
-- them.
use Rattle.std.proofs.Common.{◌≡◌, ℕ, List, [], ◌++◌, refl, sym, ap, subst, ◌∙◌, append_assoc}
use Rattle.std.proofs.lemmas.List.{append-nil}
use Rattle.std.specs.Prelude.{Option}
use Rattle.std.specs.Io.KnownBytes.{Appends}
use Rattle.td_text.specs.Output.{Output, Sent, SentTo, Failed, one_more}
use Rattle.td_text.proofs.Outputs.{Sent-then, SentTo-more, SentTo-then, SentTo-failed, SentTo-sent, Failed-longer}
use Rattle.td_vcd.specs.declared.fault.VcdFault.{VcdFault}
use Rattle.td_vcd.specs.declared.fault.VcdFault.TheVariants.{OutOfMemory, Device}
use Rattle.td_vcd.specs.Writes.{IsRefused}

-- a part of the rest went by way of the batch
pub through : (a b c : Output) (text batch part rest kept : List ℕ) → SentTo a b text (batch ++ (part ++ rest))
    → SentTo b c (batch ++ part) kept → SentTo a c text (kept ++ rest)
through a b c text batch part rest kept so_far now =
    let same : batch ++ (part ++ rest) ≡ (batch ++ part) ++ rest = sym (append_assoc batch part rest) in
    let before : SentTo a b text ((batch ++ part) ++ rest) = subst (λ (t : List ℕ). SentTo a b text t) same so_far in
    SentTo-then a b c text ((batch ++ part) ++ rest) (kept ++ rest) before (SentTo-more b c (batch ++ part) kept rest now)

-- some of the batch went out
pub space : (a b c : Output) (text batch rest kept : List ℕ) → SentTo a b text (batch ++ rest) → SentTo b c batch kept
    → SentTo a c text (kept ++ rest)
space a b c text batch rest kept so_far now =
    SentTo-then a b c text (batch ++ rest) (kept ++ rest) so_far (SentTo-more b c batch kept rest now)

-- a part of the rest was appended to the batch
pub pushed : (a b : Output) (text batch part rest grown : List ℕ) → SentTo a b text (batch ++ (part ++ rest)) → grown ≡ batch ++ part
    → SentTo a b text (grown ++ rest)
pushed a b text batch part rest grown so_far is =
    let same : batch ++ (part ++ rest) ≡ grown ++ rest = sym (append_assoc batch part rest) ∙ ap (λ (t : List ℕ). t ++ rest) (sym is) in
    subst (λ (t : List ℕ). SentTo a b text t) same so_far

-- nothing is left after the batch
pub whole : (a b : Output) (text batch rest : List ℕ) → SentTo a b text (batch ++ rest) → rest ≡ [] → SentTo a b text batch
whole a b text batch rest so_far none =
    subst (λ (t : List ℕ). SentTo a b text t) (ap (λ (t : List ℕ). batch ++ t) none ∙ append-nil batch) so_far

-- the batch was all that was left, and went out
pub finished : (a b c : Output) (text batch rest : List ℕ) → SentTo a b text (batch ++ rest) → rest ≡ [] → Sent b c batch → Sent a c text
finished a b c text batch rest so_far none now = SentTo-sent a b c text batch (whole a b text batch rest so_far none) now

-- ---- refusals

-- memory ran out
pub refused_growth : (a b : Output) (text rest : List ℕ) → SentTo a b text rest → IsRefused OutOfMemory a b text
refused_growth a b text rest so_far = record {
  front = record { front = so_far.front; rest = rest; parts = so_far.parts; sent = so_far.sent.sent };
  device = λ same. absurd cc;
  memory = λ same. so_far.sent.failures;
}

-- the writer failed in a batch
pub refused_batch : (a b c : Output) (text batch rest : List ℕ) → SentTo a b text (batch ++ rest) → Failed b c batch → IsRefused Device a c text
refused_batch a b c text batch rest so_far fails =
    let failed : Failed a c text = SentTo-failed a b c text (batch ++ rest) so_far (Failed-longer b c batch rest fails) in
    record { front = failed.front; device = λ same. failed.failures; memory = λ same. absurd cc }

-- the writer failed in the last batch
pub refused_last : (a b c : Output) (text batch : List ℕ) → SentTo a b text batch → Failed b c batch → IsRefused Device a c text
refused_last a b c text batch so_far fails =
    let failed : Failed a c text = SentTo-failed a b c text batch so_far fails in
    record { front = failed.front; device = λ same. failed.failures; memory = λ same. absurd cc }

-- an output that has sent so much
sent_so : Option (List ℕ) → Output
sent_so sent = record { sent = sent; failures = 0 }

appends_both : (a b c : Option (List ℕ)) (x y : List ℕ) → Appends a b x → Appends b c y → Appends a c (x ++ y)
unfolding sent_so
appends_both a b c x y p q =
    (Sent-then (sent_so a) (sent_so b) (sent_so c) x y (record { sent = p; failures = refl }) (record { sent = q; failures = refl })).sent

-- what was refused in a text was refused in a longer one
refused_longer : (fault : VcdFault) (a b : Output) (text more : List ℕ) → IsRefused fault a b text → IsRefused fault a b (text ++ more)
refused_longer fault a b text more refused = record {
  front = record {
    front = refused.front.front;
    rest = refused.front.rest ++ more;
    parts = ap (λ (t : List ℕ). t ++ more) refused.front.parts ∙ append_assoc refused.front.front refused.front.rest more;
    sent = refused.front.sent;
  };
  device = refused.device;
  memory = refused.memory;
}

-- the rest was refused
pub refused_rest : (fault : VcdFault) (a b c : Output) (text rest : List ℕ) → SentTo a b text rest → IsRefused fault b c rest
    → IsRefused fault a c text
refused_rest fault a b c text rest so_far refused = record {
  front = record {
    front = so_far.front ++ refused.front.front;
    rest = refused.front.rest;
    parts = so_far.parts ∙ ap (λ (t : List ℕ). so_far.front ++ t) refused.front.parts
        ∙ sym (append_assoc so_far.front refused.front.front refused.front.rest);
    sent = appends_both a.sent b.sent c.sent so_far.front refused.front.front so_far.sent.sent refused.front.sent;
  };
  device = λ is. refused.device is ∙ ap one_more so_far.sent.failures;
  memory = λ is. refused.memory is ∙ so_far.sent.failures;
}

-- a part of the rest was refused
pub refused_part : (fault : VcdFault) (a b c : Output) (text batch part rest : List ℕ) → SentTo a b text (batch ++ (part ++ rest))
    → IsRefused fault b c (batch ++ part) → IsRefused fault a c text
refused_part fault a b c text batch part rest so_far refused =
    let same : batch ++ (part ++ rest) ≡ (batch ++ part) ++ rest = sym (append_assoc batch part rest) in
    let before : SentTo a b text ((batch ++ part) ++ rest) = subst (λ (t : List ℕ). SentTo a b text t) same so_far in
    refused_rest fault a b c text ((batch ++ part) ++ rest) before (refused_longer fault b c (batch ++ part) rest refused)

-- one turn of a loop: the batch is written if it is full, and the next part is appended to it
pub turn : (a b c : Output) (text batch rest kept part later grown : List ℕ) → SentTo a b text (batch ++ rest) → SentTo b c batch kept
    → rest ≡ part ++ later → grown ≡ kept ++ part → SentTo a c text (grown ++ later)
turn a b c text batch rest kept part later grown so_far now split is =
    let here : SentTo a c text (kept ++ rest) = space a b c text batch rest kept so_far now in
    pushed a c text kept part later grown (subst (λ (t : List ℕ). SentTo a c text (kept ++ t)) split here) is
