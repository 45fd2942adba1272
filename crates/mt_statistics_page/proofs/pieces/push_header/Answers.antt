use Rattle.std.specs.Prelude.{codes}
use Rattle.mt_statistics_page.proofs.AppendFacts.{three}
use Rattle.mt_statistics_page.proofs.pieces.push_header.Goals as goal

pub returns : goal.returns
returns c =
    record {
      ok = three c.args.text.now.items _ _ _ (codes "<tr><th scope='row'>") c.args.label.now (codes "</th>")
          c.in_ok-extend_from_slice.ensures.items c.in_ok-extend_from_slice-2.ensures.items
          c.in_ok-extend_from_slice-3.ensures.items;
    }
