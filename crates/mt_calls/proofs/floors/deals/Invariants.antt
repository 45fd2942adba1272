use Rattle.mt_calls.proofs.floors.deals.Given as goal

abbrev pub ghosts-deals_in : goal.ghosts-deals_in
ghosts-deals_in a = record { name = a.blank.name; parts = a.blank.parts }
