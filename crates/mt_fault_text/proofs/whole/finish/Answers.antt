use Rattle.std.proofs.Common.{◌≡◌, ◌++◌, List, ℕ}
use Rattle.std.specs.Prelude.{codes, decimal}
use Rattle.mt_fault_text.specs.Text.{count_line}
use Rattle.mt_fault_text.proofs.LineFacts.{count_pieces}
use Rattle.mt_fault_text.proofs.PageFacts.{ended_err, ended_ok, put_after}
use Rattle.mt_fault_text.proofs.whole.finish.Goals as goal

-- the line was put on the page
pushed : (page first second third : List ℕ) (count : ℕ) → first ≡ page ++ codes "check,1,faults" → second ≡ (first ++ codes ",") ++ decimal count
    → third ≡ second ++ codes "\n" → third ≡ page ++ count_line count
pushed page first second third count a b c = rw (c, b, a) (count_pieces page (decimal count))

pub returns-clause-sends : goal.returns-clause-sends
returns-clause-sends g c =
    let is = pushed _ _ _ _ c.args.count c.push.ensures.text c.push_number.ensures.field c.push-2.ensures.text in
    ended_ok c.send.result _ _ _ _ _ _ (count_line c.args.count) (put_after _ _ _ _ _ _ (count_line c.args.count) c.in_ok-make_room.ensures.sends is) c.send.ensures.sends c.send.ensures.page

pub returns-clause-breaks : goal.returns-clause-breaks
returns-clause-breaks g c =
    let is = pushed _ _ _ _ c.args.count c.push.ensures.text c.push_number.ensures.field c.push-2.ensures.text in
    ended_err c.send.result _ _ _ _ _ (count_line c.args.count) (put_after _ _ _ _ _ _ (count_line c.args.count) c.in_ok-make_room.ensures.sends is) c.send.ensures.breaks
