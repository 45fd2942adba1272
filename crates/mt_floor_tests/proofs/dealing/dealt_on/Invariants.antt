use Rattle.mt_floor_tests.proofs.dealing.dealt_on.Given as goal

abbrev pub ghosts-dealt_in-K-HallName : goal.ghosts-dealt_in-K-HallName
ghosts-dealt_in-K-HallName g a = record { ranked = a.ranks.now }

abbrev pub ghosts-dealt_in-K-Ledger : goal.ghosts-dealt_in-K-Ledger
ghosts-dealt_in-K-Ledger g a = record { name = a.blank.name; parts = a.blank.parts }
