use Rattle.std.proofs.Common.{◌≡◌, None, map, string_bytes, take}
use Rattle.std.specs.Prelude.{filter_map}
use Rattle.mt_match_file.specs.Agents.{agent_named, first_unknown}
use Rattle.mt_match_file.specs.View.{market_of}
use Rattle.mt_match_file.proofs.agents.agents_among.Given as goal

-- the words so far name these agents
abbrev pub invariant-loop-word : goal.invariant-loop-word
invariant-loop-word l = record {
  known : first_unknown (market_of l.ids) (map string_bytes (take l.word-index l.words)) ≡ None;
  agents : l.agents.items ≡ filter_map (agent_named (market_of l.ids)) (map string_bytes (take l.word-index l.words));
}
