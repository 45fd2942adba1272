use Rattle.std.proofs.Common.{◌≡◌, None, arith, refl, subst}
use Rattle.mt_terms.specs.Rounds.{stage}
use Rattle.mt_entry.specs.Ended.{IfSpent}
use Rattle.mt_round_laws.proofs.RoundsStage.{singles_fit}
use Rattle.mt_answer.proofs.RefusalFacts.{no_memory}
use Rattle.mt_answer.proofs.answer.with_couples.Goals as goal

pub enter_all-requires-clause-market : goal.enter_all-requires-clause-market
enter_all-requires-clause-market g c =
    record {
      ranks = c.requires.ranks;
      fitting = singles_fit c.args.roster.now.market c.is_of_a_file.ensures.well_formed c.args.singles.places c.requires.best.is_stable;
    }

pub returns-in-Err-Memory-clause-refused : goal.returns-in-Err-Memory-clause-refused
returns-in-Err-Memory-clause-refused g c = no_memory c.alone-in-Err-Memory.result c.alone-in-Err-Memory.ensures.named c.alone-in-Err-Memory.ensures.code

pub returns-in-Err-BudgetSpent-clause-refused : goal.returns-in-Err-BudgetSpent-clause-refused
returns-in-Err-BudgetSpent-clause-refused g c =
    let m = c.args.roster.now.market in
    let spent : stage m c.args.singles.places c.args.budget ≡ None =
    subst (λ e. IfSpent e (λ _. stage m c.args.singles.places c.args.budget ≡ None)) c.in-Err-BudgetSpent.field-0-is c.in-Err-BudgetSpent.ensures.spent in
    record {
      named = c.alone.ensures.named;
      reads_did = λ read. omega (arith, c.alone.ensures.code);
      answer = λ m. record {
        best = c.args.singles.places;
        is_best = c.requires.best;
        ends = rw (spent, c.alone.ensures.code, c.alone.ensures.row, c.alone.ensures.id) (refl, refl);
      };
    }
