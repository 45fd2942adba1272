use Rattle.std.proofs.Common.{sym, ◌∙◌, arith}
use Rattle.mt_match_file.specs.Submitted.{first_unplaced}
use Rattle.mt_match_file.specs.View.{read_so_far}
use Rattle.mt_match_file.proofs.ReadingFacts.{match_is}
use Rattle.mt_match_file.proofs.so_far.SoFar.into_match.Goals as goal

pub returns : goal.returns
returns c =
    match_is c.args.roster.now.names (read_so_far c.args.self) (first_unplaced (read_so_far c.args.self)) c.new.result
    (sym c.first_unplaced.ensures ∙ c.in_default.is) (c.new.ensures.places ∙ c.new-places.ensures ∙ c.in_ok-all_places.ensures) c.new.ensures.counts (c.new.ensures.aside ∙ c.into_couples.ensures)

pub applicant_id-id-requires : goal.applicant_id-id-requires
applicant_id-id-requires c = grind arith

pub overflow_cast-missing : goal.overflow_cast-missing
overflow_cast-missing c = grind arith

pub returns-in-Some : goal.returns-in-Some
returns-in-Some c = grind arith
