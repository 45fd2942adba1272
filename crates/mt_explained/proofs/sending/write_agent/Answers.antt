use Rattle.std.proofs.Common.{◌≡◌, ◌<◌, ◌+◌, ◌++◌, [], ◌∙◌, length, get_or, ap, sym, arith}
use Rattle.mt_terms.specs.Matching.{Placement, better, holds, options}
use Rattle.mt_terms.proofs.ListFacts.{until-le}
use Rattle.mt_explain.proofs.OptionFacts.{front_has}
use Rattle.mt_explained.proofs.LineFacts.{option_text, rest_after, so_far, so_far_more, so_far_split}
use Rattle.mt_explain_text.specs.Text.{agent_text}
use Rattle.mt_pages.proofs.SendingFacts.{cut_before, cut_in, on_err, sends_step}
use Rattle.mt_explained.proofs.sending.write_agent.Goals as goal

pub returns-in_err-make_room-clause-cut : goal.returns-in_err-make_room-clause-cut
returns-in_err-make_room-clause-cut g c =
    let r = c.args.lines.now.tables.registered in
    let places = c.args.lines.now.tables.places in
    let is_public = c.args.lines.now.is_public in
    on_err _ (cut_before g.W.Write.contents _ _ _ (agent_text r places is_public c.args.agent.now) c.in_err-make_room.ensures.breaks c.in_err-make_room.ensures.one_failed)

pub returns-in_err-make_room-2-clause-cut : goal.returns-in_err-make_room-2-clause-cut
returns-in_err-make_room-2-clause-cut g c =
    let r = c.args.lines.now.tables.registered in
    let places = c.args.lines.now.tables.places in
    let is_public = c.args.lines.now.is_public in
    let i = c.loop-option.option in
    on_err _ (cut_in g.W.Write.contents _ _ _ _ _ _ [] (rest_after r places is_public c.args.agent.now i) _ c.loop-option.invariant c.in_err-make_room-2.ensures.breaks
    c.in_err-make_room-2.ensures.one_failed (so_far_split r places is_public c.args.agent.now i))

pub push_option-requires-clause-option : goal.push_option-requires-clause-option
push_option-requires-clause-option g c =
    let m = c.args.lines.now.tables.registered.market in
    omega (arith, c.loop-option-test.true, c.better_options-option-end.ensures, until-le (holds c.args.lines.now.tables.places) (options m c.args.agent.now))

pub loop-option-preserved : goal.loop-option-preserved
loop-option-preserved g c =
    let r = c.args.lines.now.tables.registered in
    let m = r.market in
    let places = c.args.lines.now.tables.places in
    let is_public = c.args.lines.now.is_public in
    let agent = c.args.agent.now in
    let i = c.loop-option.option in
    let within : i < length (better m places agent) = omega (arith, c.loop-option-test.true, c.better_options-option-end.ensures) in
    let next : get_or (better m places agent) i [] ≡ get_or (options m agent) i [] = front_has (holds places) (options m agent) i [] within in
    let all : so_far r places is_public agent i ++ option_text r places is_public agent i (get_or (options m agent) i []) ≡ so_far r places is_public agent (i + 1) =
    ap (λ (sent : Placement). so_far r places is_public agent i ++ option_text r places is_public agent i sent) (sym next) ∙ so_far_more r places is_public agent i within in
    record {
      sends = sends_step _ _ _ _ _ _ _ _ _ _ c.loop-option.invariant.sends c.in_ok-make_room-2.ensures.sends c.push_option.ensures all;
      none_failed = c.in_ok-make_room-2.ensures.none_failed ∙ c.loop-option.invariant.none_failed;
    }
