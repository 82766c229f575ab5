use Rattle.td_certificate.proofs.Lengths.{searched_texts_fit}
use Rattle.td_certificate.proofs.laws.searched_texts_fit.Goals as goal

pub returns : goal.returns
returns c = searched_texts_fit
