use Rattle.std.proofs.Common.{ap, ◌∙◌}
use Rattle.std.specs.Prelude.{flat_map}
use Rattle.mt_faults.specs.declared.tell.Wrong.TheVariants as wrongs
use Rattle.mt_faults.specs.Seen.{tested}
use Rattle.mt_faults.proofs.tell.FieldTest.of_none.Goals as goal

pub returns : goal.returns
returns c rules = c.of_ids.ensures rules ∙ ap (flat_map (tested wrongs.NoId rules)) c.first.ensures
