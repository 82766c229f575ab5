use Rattle.td_certificate.proofs.Lengths.{refuted_texts_fit}
use Rattle.td_certificate.proofs.laws.refuted_texts_fit.Goals as goal

pub returns : goal.returns
returns c = refuted_texts_fit
