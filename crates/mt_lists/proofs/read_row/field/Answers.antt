use Rattle.std.proofs.Common.{◌∙◌, sym}
use Rattle.csv.specs.Records.{fields_of}
use Rattle.csv.proofs.RecordFacts.{field-get}
use Rattle.mt_lists.proofs.RowFacts.{field_there, field_at-slice_get}
use Rattle.mt_lists.proofs.read_row.field.Goals as goal

pub unwrap-requires : goal.unwrap-requires
unwrap-requires c =
    field_there (fields_of c.args.raw.now) c.args.i c.get.result (c.get.ensures.value ∙ field_at-slice_get (fields_of c.args.raw.now) c.args.i) c.requires

pub returns : goal.returns
returns c =
    let found = rw c.unwrap.ensures at c.get.ensures.value in
    sym (field-get (fields_of c.args.raw.now) c.args.i c.unwrap.result.now (sym found))
