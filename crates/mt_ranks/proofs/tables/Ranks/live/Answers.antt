use Rattle.std.proofs.Common.{◌≡◌, ◌∙◌, ap, map}
use Rattle.mt_terms.specs.Market.{list_of}
use Rattle.mt_ranks.specs.Parts.{live_among}
use Rattle.mt_ranks.specs.Ranked.{ranked_entry}
use Rattle.mt_ranks.proofs.TablesSeen.{has_applicant, is_ranked, live_list, live_entries}
use Rattle.mt_ranks.proofs.tables.Ranks.live.Goals as goal

pub live_among-requires : goal.live_among-requires
live_among-requires c = rw c.deref.ensures.value (has_applicant c.self.inside c.args.self.now c.args.applicant c.self.invariant c.self.view_is c.requires)

list : (c : goal.After-live_among) → c.live_among.result.now ≡ map (ranked_entry c.args.self.now.market c.args.applicant) (list_of c.args.self.now.market c.args.applicant)
list c = c.live_among.ensures ∙ ap (λ parts. live_among c.self.inside.size parts c.args.applicant) c.deref.ensures.value ∙ live_list c.self.inside c.args.self.now c.args.applicant c.self.invariant c.self.view_is c.requires

pub returns-clause-list : goal.returns-clause-list
returns-clause-list c = list c

pub returns-clause-entries : goal.returns-clause-entries
returns-clause-entries c = rw (list c) (live_entries c.self.inside c.args.self.now c.args.applicant c.self.invariant c.self.view_is)

pub returns-clause-member : goal.returns-clause-member
returns-clause-member c member =
    list c ∙ ap (map (ranked_entry c.args.self.now.market c.args.applicant)) ((is_ranked c.self.inside c.args.self.now c.self.invariant c.self.view_is).member_lists c.args.applicant member)
