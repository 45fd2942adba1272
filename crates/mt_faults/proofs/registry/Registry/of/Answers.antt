use Rattle.std.proofs.Common.{◌∙◌, ◌+◌, ap, ap₂, sym, [], ◌++◌}
use Rattle.mt_lists.specs.Rows.{rows_left}
use Rattle.mt_terms.specs.Registration.Passes.{numbered_from}
use Rattle.mt_fault_terms.specs.OfFile.{all_parts}
use Rattle.mt_fault_terms.specs.Parts.{all_own_ids, all_applicants}
use Rattle.mt_ids.proofs.KindFacts.{none_of_kinds}
use Rattle.mt_ids.specs.Kinds.{ids_in}
use Rattle.mt_faults.specs.Registered.{added, row_parts}
use Rattle.mt_faults.proofs.SearchFacts.{numbered_parts}
use Rattle.mt_faults.proofs.StandingFacts.{adds_own, adds_applicants, renumbered}
use Rattle.mt_faults.proofs.registry.Registry.of.Goals as goal

pub loop-row-init : goal.loop-row-init
loop-row-init c =
    let limits = c.args.rules.now in
    let none = c.new-registry.ensures in
    let same = c.into_iter-row-iterator.ensures.into_iter_gives in
    record {
      registered = λ kind. ap₂ (λ ids rows. added ids (all_own_ids limits kind (all_parts limits (numbered_from 1 (rows_left rows)))))
          (none_of_kinds c.new-registry.result.registered none.programs none.singles none.couples kind) same;
      applicants = ap₂ (λ ids rows. added ids (all_applicants limits (all_parts limits (numbered_from 1 (rows_left rows))))) none.applicants same;
    }

pub loop-row-preserved : goal.loop-row-preserved
loop-row-preserved c =
    let rules = c.args.rules.now in
    let here = row_parts rules c.in-Some.row in
    let rest = all_parts rules (numbered_from 1 (rows_left c.next.new.self)) in
    let all = ap (λ rows. all_parts rules (numbered_from 1 rows)) c.in-Some.ensures.steps ∙ numbered_parts rules 1 c.in-Some.row (rows_left c.next.new.self) ∙ ap (λ ps. here ++ ps) (renumbered rules (1 + 1) 1 (rows_left c.next.new.self)) in
    record {
      registered = λ kind. adds_own rules c.loop-row.registry c.add_row.new.self here rest c.in_ok-add_row.ensures kind ∙ ap (λ ps. added (ids_in c.loop-row.registry.registered kind) (all_own_ids rules kind ps)) (sym all) ∙ c.loop-row.invariant.registered kind;
      applicants = adds_applicants rules c.loop-row.registry c.add_row.new.self here rest c.in_ok-add_row.ensures ∙ ap (λ ps. added c.loop-row.registry.applicants (all_applicants rules ps)) (sym all) ∙ c.loop-row.invariant.applicants;
    }

pub returns : goal.returns
returns c = λ first.
    let rules = c.args.rules.now in
    let none = ap (λ rows. all_parts rules (numbered_from 1 rows)) c.in-None.ensures.steps.0 in
    let same = renumbered rules 1 first (rows_left c.args.rows) in
    record {
      registered = λ kind. sym (ap (λ ps. added (ids_in c.loop-row.registry.registered kind) (all_own_ids rules kind ps)) none) ∙ c.loop-row.invariant.registered kind ∙ ap (λ ps. added [] (all_own_ids rules kind ps)) same;
      applicants = sym (ap (λ ps. added c.loop-row.registry.applicants (all_applicants rules ps)) none) ∙ c.loop-row.invariant.applicants ∙ ap (λ ps. added [] (all_applicants rules ps)) same;
    }
