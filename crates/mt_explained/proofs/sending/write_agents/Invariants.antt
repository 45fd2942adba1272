use Rattle.std.proofs.Common.{take}
use Rattle.mt_explain_text.specs.Text.{agents_text}
use Rattle.mt_explain_text.specs.View.{is_public_of, places_of, registered_of}
use Rattle.mt_pages.specs.Sending.{IsSent}
use Rattle.mt_explained.proofs.sending.write_agents.Given as goal

-- the lines of the agents so far
abbrev pub invariant-loop-agent : goal.invariant-loop-agent
invariant-loop-agent g l =
    IsSent g.W.Write.contents l.fn.drain l.drain l.fn.page l.page
    (agents_text (registered_of l.lines) (places_of l.lines) (is_public_of l.lines) (take l.agent-index l.agents))
