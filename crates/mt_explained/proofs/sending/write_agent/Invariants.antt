use Rattle.mt_explain_text.specs.View.{is_public_of, places_of, registered_of}
use Rattle.mt_pages.specs.Sending.{IsSent}
use Rattle.mt_explained.proofs.LineFacts.{so_far}
use Rattle.mt_explained.proofs.sending.write_agent.Given as goal

-- the line of what the agent has, and those of its options so far
abbrev pub invariant-loop-option : goal.invariant-loop-option
invariant-loop-option g l =
    IsSent g.W.Write.contents l.fn.drain l.drain l.fn.page l.page
    (so_far (registered_of l.lines) (places_of l.lines) (is_public_of l.lines) l.agent l.option)
