use Rattle.mt_floor_tests.proofs.hall.case_on.Given as goal

abbrev pub ghosts-case_in-K-HallName : goal.ghosts-case_in-K-HallName
ghosts-case_in-K-HallName g a = record { ranked = a.ranks.now }

abbrev pub ghosts-case_in-K-Ledger : goal.ghosts-case_in-K-Ledger
ghosts-case_in-K-Ledger g a = record { name = a.blank.name; parts = a.blank.parts }
