use Rattle.td_book_rows.proofs.totals.own_totals.Given as goal

abbrev pub ghosts-totals : goal.ghosts-totals
ghosts-totals g a = record { name = a.blank.name; parts = a.blank.parts }
