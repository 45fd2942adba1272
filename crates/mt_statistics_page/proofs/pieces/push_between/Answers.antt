use Rattle.std.specs.Prelude.{decimal}
use Rattle.mt_statistics_page.proofs.AppendFacts.{three}
use Rattle.mt_statistics_page.proofs.pieces.push_between.Goals as goal

pub returns : goal.returns
returns c =
    record {
      ok = three c.args.text.now.items _ _ _ c.args.before.now (decimal c.args.number) c.args.after.now
          c.in_ok-extend_from_slice.ensures.items c.in_ok-push_number.ensures.ok
          c.in_ok-extend_from_slice-2.ensures.items;
    }
