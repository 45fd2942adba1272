use Rattle.std.proofs.Common.{◌∙◌, ap₂}
use Rattle.mt_stage_tables.specs.Waiting.{nobody}
use Rattle.mt_couples.proofs.rounds.Stage.new.Goals as goal

pub returns : goal.returns
returns g c = record {
  assigned = c.in_ok-assignment.ensures.assignment;
  nobody_waits = c.in_ok-waiting.ensures ∙ ap₂ nobody c.applicants.ensures.count c.couples.ensures.count;
  watched = c.in_ok-watch.ensures.watched;
  named = c.in_ok-watch.ensures.named;
  counted = c.in_ok-watch.ensures.counted;
  is_quiet = c.are_singles_quiet-quiet.ensures;
}
