use Rattle.std.proofs.Common.{[]}
use Rattle.mt_pages.proofs.SendingFacts.{breaks_more, on_err}
use Rattle.mt_findings.specs.Text.{last_line}
use Rattle.mt_findings.proofs.WritingFacts.{broken_last, sent_last}
use Rattle.mt_findings.proofs.lines.finish.Goals as goal

pub returns-in_err-make_room-clause-breaks : goal.returns-in_err-make_room-clause-breaks
returns-in_err-make_room-clause-breaks g c = on_err _ (breaks_more _ _ _ [] (last_line c.args.aside c.args.lines.now.count) c.in_err-make_room.ensures.breaks)

pub returns-clause-sends : goal.returns-clause-sends
returns-clause-sends g c = sent_last c.send.result _ _ _ _ _ _ _ _ c.in_ok-make_room.ensures.sends c.push_last.ensures c.send.ensures.sends c.send.ensures.page

pub returns-clause-breaks : goal.returns-clause-breaks
returns-clause-breaks g c = broken_last c.send.result _ _ _ _ _ _ _ c.in_ok-make_room.ensures.sends c.push_last.ensures c.send.ensures.breaks
