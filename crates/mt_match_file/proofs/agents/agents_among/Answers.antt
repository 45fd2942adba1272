use Rattle.std.proofs.Common.{◌≡◌, ◌∙◌, Some, None, List, ap, sym, map, string_bytes}
use Rattle.std.specs.Prelude.{String, filter_map}
use Rattle.std.specs.Global.{Global}
use Rattle.std.proofs.lemmas.List.{take_all}
use Rattle.mt_match_file.specs.Agents.{agent_named, first_unknown}
use Rattle.mt_match_file.proofs.AgentFacts.{known_more, named_more, unknown_here}
use Rattle.mt_match_file.proofs.agents.agents_among.Goals as goal

pub returns-in-None : goal.returns-in-None
returns-in-None c =
    let r = c.args.ids.now.roster.now in
    let w = c.word-item.result in
    let none : agent_named r (string_bytes w) ≡ None = ap (agent_named r) (sym c.as_bytes.ensures.value) ∙ sym c.agent.ensures ∙ c.in-None.is in
    unknown_here r c.args.words.now c.loop-word.word-index w c.loop-word-test.true c.word-item.is c.loop-word.invariant.known none
    ∙ ap Some (sym c.as_str.ensures.value)

pub loop-word-preserved : goal.loop-word-preserved
loop-word-preserved c =
    let r = c.args.ids.now.roster.now in
    let w = c.word-item.result in
    let i = c.loop-word.word-index in
    let named : agent_named r (string_bytes w) ≡ Some c.in-Some.agent =
    ap (agent_named r) (sym c.as_bytes.ensures.value) ∙ sym c.agent.ensures ∙ c.in-Some.is in
    record {
      known = known_more r c.args.words.now i w c.loop-word-test.true c.word-item.is c.loop-word.invariant.known c.in-Some.agent named;
      agents = c.in_ok-push-in-Some.ensures.items
          ∙ named_more r c.args.words.now i w c.loop-word-test.true c.word-item.is c.loop-word.invariant.known c.in-Some.agent c.loop-word.agents.items named c.loop-word.invariant.agents;
    }

pub returns : goal.returns
returns c =
    let r = c.args.ids.now.roster.now in
    let all = take_all c.loop-word.word-index c.args.words.now c.loop-word-test.false in (
      sym (ap (λ (ws : List (String Global)). first_unknown r (map string_bytes ws)) all) ∙ c.loop-word.invariant.known,
      c.loop-word.invariant.agents ∙ ap (λ (ws : List (String Global)). filter_map (agent_named r) (map string_bytes ws)) all,
    )
