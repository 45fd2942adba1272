use Rattle.mt_crew.proofs.crew.work.Given as goal

abbrev pub ghosts-work_in-K-HallName : goal.ghosts-work_in-K-HallName
ghosts-work_in-K-HallName g a = record { ranked = a.ranks.now }

abbrev pub ghosts-work_in-K-Ledger : goal.ghosts-work_in-K-Ledger
ghosts-work_in-K-Ledger g a = record { name = a.blank.name; parts = a.blank.parts }
