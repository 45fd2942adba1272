use Rattle.std.proofs.Common.{◌≡◌, ◌∙◌, ◌++◌, ◌∷◌, [], ℕ, List, ap, sym, subst, append_assoc}
use Rattle.std.specs.Prelude.{codes, decimal}
use Rattle.mt_terms.specs.Text.{id_text, line}
use Rattle.mt_pages.specs.Sending.{Sends}
use Rattle.mt_pages.proofs.SendingFacts.{breaks_in, on_err, sends_then}
use Rattle.mt_fault_sink.specs.Seen.{fault_seen}
use Rattle.mt_fault_sink.specs.declared.fault.Fault.{Fault}
use Rattle.mt_fault_text.specs.Pieces.{fault_end}
use Rattle.mt_fault_text.proofs.LineFacts.{head_pieces, id_pieces, shown_id}
use Rattle.mt_fault_text.proofs.PageFacts.{on_err_then, on_ok_then, put_after, sends_on}
use Rattle.mt_fault_text.proofs.lines.write_line.Goals as goal

-- the line as far as the id, the id and its end
line_is : (front : List ℕ) (fault : Fault) → fault.id.now ≡ id_text fault.id.now
    → ((front ++ decimal fault.field) ++ codes ",") ++ (fault.id.now ++ codes "\n") ≡ front ++ fault_end (fault_seen fault)
line_is front fault is = id_pieces front (decimal fault.field) fault.id.now ∙ ap (λ (x : List ℕ). front ++ line (decimal fault.field ∷ x ∷ [])) is

pub returns-in_err-write-clause-breaks : goal.returns-in_err-write-clause-breaks
returns-in_err-write-clause-breaks g c =
    let front = c.args.front.now in
    let page = head_pieces _ _ _ _ front (decimal c.args.fault.now.field) c.push.ensures.text c.push_digits.ensures.digits c.push-2.ensures.text in
    let all = line_is front c.args.fault.now (shown_id c.args.fault.now.id.now (sym c.is_empty.ensures ∙ c.if-is_empty.false)) in
    on_err _ (breaks_in _ _ _ _ _ _ _ (codes "\n") _ (put_after _ _ _ _ _ _ _ c.in_ok-make_room.ensures.sends page) c.in_err-write.ensures.breaks all)

pub returns-clause-sends : goal.returns-clause-sends
returns-clause-sends g c =
    let front = c.args.front.now in
    let id = c.args.fault.now.id.now in
    let head = (front ++ decimal c.args.fault.now.field) ++ codes "," in
    let page = head_pieces _ _ _ _ front (decimal c.args.fault.now.field) c.push.ensures.text c.push_digits.ensures.digits c.push-2.ensures.text in
    let all = append_assoc head id (codes "\n") ∙ line_is front c.args.fault.now (shown_id id (sym c.is_empty.ensures ∙ c.if-is_empty.false)) in
    on_ok_then c.write-2.result
    (λ sends. subst (Sends _ _ _ _) all
    (sends_then _ _ _ _ _ _ (head ++ id) (codes "\n") (sends_on _ _ _ _ _ _ _ head id c.in_ok-make_room.ensures.sends page c.in_ok-write.ensures.sends) sends))
    c.write-2.ensures.sends

pub returns-clause-breaks : goal.returns-clause-breaks
returns-clause-breaks g c =
    let front = c.args.front.now in
    let id = c.args.fault.now.id.now in
    let head = (front ++ decimal c.args.fault.now.field) ++ codes "," in
    let page = head_pieces _ _ _ _ front (decimal c.args.fault.now.field) c.push.ensures.text c.push_digits.ensures.digits c.push-2.ensures.text in
    let all = append_assoc head id (codes "\n") ∙ line_is front c.args.fault.now (shown_id id (sym c.is_empty.ensures ∙ c.if-is_empty.false)) in
    on_err_then c.write-2.result
    (λ breaks. breaks_in _ _ _ _ _ (head ++ id) (codes "\n") [] _
    (sends_on _ _ _ _ _ _ _ head id c.in_ok-make_room.ensures.sends page c.in_ok-write.ensures.sends) breaks all)
    c.write-2.ensures.breaks
