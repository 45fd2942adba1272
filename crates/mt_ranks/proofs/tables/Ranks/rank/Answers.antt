use Rattle.std.proofs.Common.{◌≡◌, ◌==◌, ◌∙◌, ap, sym}
use Rattle.std.specs.List.{position}
use Rattle.std.specs.Option.{is_some}
use Rattle.mt_terms.specs.Market.{program_of}
use Rattle.mt_ranks.specs.Entries.{rank_among}
use Rattle.mt_ranks.specs.Parts.{row_among}
use Rattle.mt_ranks.proofs.Positions.{has-position, found_ranks}
use Rattle.mt_ranks.proofs.TablesSeen.{has_applicant, row_ascends, rank_in_row}
use Rattle.mt_ranks.proofs.tables.Ranks.rank.Goals as goal

pub row_among-requires : goal.row_among-requires
row_among-requires c = rw c.deref.ensures.value (has_applicant c.self.inside c.args.self.now c.args.applicant c.self.invariant c.self.view_is c.requires.applicant)

pub rank_at-requires : goal.rank_at-requires
rank_at-requires c = rw (c.row_among.ensures, c.deref.ensures.value) (row_ascends c.self.inside c.args.self.now c.args.applicant c.self.invariant c.self.view_is c.requires.applicant)

answer : (c : goal.After-rank_at) → c.rank_at.result ≡ position (λ x. x == c.args.applicant) (program_of c.args.self.now.market c.args.program).ranking
answer c =
    c.rank_at.ensures ∙ ap (λ row. rank_among row c.args.program) (c.row_among.ensures ∙ ap (λ parts. row_among c.self.inside.size parts c.args.applicant) c.deref.ensures.value)
    ∙ rank_in_row c.self.inside c.args.self.now c.args.applicant c.args.program c.self.invariant c.self.view_is c.requires.applicant

pub returns-clause-position : goal.returns-clause-position
returns-clause-position c = answer c

pub returns-clause-listed : goal.returns-clause-listed
returns-clause-listed c = ap is_some (answer c) ∙ sym (has-position (program_of c.args.self.now.market c.args.program).ranking c.args.applicant)

pub returns-clause-found : goal.returns-clause-found
returns-clause-found c = found_ranks (program_of c.args.self.now.market c.args.program).ranking c.args.applicant c.rank_at.result (answer c)
