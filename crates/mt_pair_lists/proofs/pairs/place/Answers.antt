use Rattle.std.proofs.Common.{refl, sym, ◌∙◌}
use Rattle.mt_ids.proofs.IdFacts.{found_id, missing_id}
use Rattle.mt_pair_lists.proofs.pairs.place.Goals as goal

pub returns-in_err-place : goal.returns-in_err-place
returns-in_err-place c =
    let missing = missing_id c.args.programs.now.ids c.in-Some.id.now (sym c.in_err-place.was ∙ c.place.ensures) in
    rw (c.from_residual.ensures, c.in-Some.is, missing) refl

pub returns : goal.returns
returns c =
    let at = found_id c.args.programs.now.ids c.in-Some.id.now c.in_ok-place.place (sym c.in_ok-place.was ∙ c.place.ensures) in
    rw (c.in-Some.is, at.0, at.1) refl
