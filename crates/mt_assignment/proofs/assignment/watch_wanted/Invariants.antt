use Rattle.std.proofs.Common.{◌≡◌, ◌++◌, false, take, drop}
use Rattle.std.specs.List.{list_any}
use Rattle.mt_terms.specs.Lists.{until}
use Rattle.mt_terms.specs.Matching.{is_program}
use Rattle.mt_ranks.specs.declared.entries.Live.{Live}
use Rattle.mt_assignment.specs.Watched.{Watches}
use Rattle.mt_assignment.proofs.assignment.watch_wanted.Given as goal

abbrev pub invariant-loop-entry : goal.invariant-loop-entry
invariant-loop-entry l = record {
  watches : Watches l.initial.watched l.watched (take l.entry-index l.entry-items);
  none : list_any (λ (e : Live). is_program e.program l.place) (take l.entry-index l.entry-items) ≡ false;
  so_far : take l.entry-index l.entry-items ++ until (λ (e : Live). is_program e.program l.place) (drop l.entry-index l.entry-items) ≡ until (λ (e : Live). is_program e.program l.place) l.entry-items;
}
