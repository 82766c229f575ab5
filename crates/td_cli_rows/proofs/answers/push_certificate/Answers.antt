use Rattle.td_cli_rows.proofs.answers.push_certificate.Goals as goal

pub write-requires : goal.write-requires
write-requires g c = rw c.in-Some.is at c.in-Ok.ensures.certificate
