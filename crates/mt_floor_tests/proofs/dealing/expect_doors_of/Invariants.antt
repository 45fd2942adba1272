use Rattle.mt_floor_tests.proofs.dealing.expect_doors_of.Given as goal

abbrev pub ghosts-expect_doors-K-HallName : goal.ghosts-expect_doors-K-HallName
ghosts-expect_doors-K-HallName g a = record { ranked = a.ranks.now }
