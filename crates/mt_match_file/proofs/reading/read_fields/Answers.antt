use Rattle.std.proofs.Common.{sym, ◌∙◌, ap, length}
use Rattle.mt_lists.specs.Rows.{fields_left}
use Rattle.mt_match_file.specs.View.{line_seen, market_of, read_so_far}
use Rattle.mt_match_file.proofs.ReadingFacts.{line_fits_into}
use Rattle.mt_match_file.proofs.reading.read_fields.Goals as goal

pub add-requires : goal.add-requires
add-requires c =
    line_fits_into (market_of c.args.ids.now) c.args.ids.now.of_a_file (read_so_far c.args.so_far.now) (fields_left c.args.fields) c.in-Ok.line
    (length c.args.so_far.now.places.items) (length c.args.so_far.now.aside.marks.items) (sym c.line_of.ensures ∙ ap line_seen c.in-Ok.is) c.requires.applicants c.requires.couples
