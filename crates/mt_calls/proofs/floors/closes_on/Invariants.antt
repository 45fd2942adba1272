use Rattle.mt_calls.proofs.floors.closes_on.Given as goal

abbrev pub ghosts-closes_in-K-HallName : goal.ghosts-closes_in-K-HallName
ghosts-closes_in-K-HallName a = record { ranked = a.ranks.now }

abbrev pub ghosts-closes_in-K-Ledger : goal.ghosts-closes_in-K-Ledger
ghosts-closes_in-K-Ledger a = record { name = a.blank.name; parts = a.blank.parts }
