use Rattle.std.proofs.Common.{subst}
use Rattle.std.proofs.lemmas.Bool.{true≢false}
use Rattle.mt_terms.specs.declared.events.Reply.{Reply}
use Rattle.mt_desks.specs.Steps.{Shows}
use Rattle.mt_hall.proofs.hall.answer_to.Goals as goal

pub returns-in-Kept-clause-tells : goal.returns-in-Kept-clause-tells
returns-in-Kept-clause-tells c = λ m a is_live shown. record { is_live = is_live; refused = λ e. absurd (true≢false e); fallen = tt }

pub returns-in-KeptInstead-clause-tells : goal.returns-in-KeptInstead-clause-tells
returns-in-KeptInstead-clause-tells c = λ m a is_live shown. record {
  is_live = is_live;
  refused = λ e. absurd (true≢false e);
  fallen = subst (λ (r : Reply). Shows m a c.args.program r) c.in-KeptInstead.is shown;
}

pub returns-in-Refused-clause-tells : goal.returns-in-Refused-clause-tells
returns-in-Refused-clause-tells c = λ m a is_live shown. record {
  is_live = is_live;
  refused = λ e. subst (λ (r : Reply). Shows m a c.args.program r) c.in-Refused.is shown;
  fallen = tt;
}

pub returns-in-Noticed-clause-tells : goal.returns-in-Noticed-clause-tells
returns-in-Noticed-clause-tells c = λ m a is_live shown. (is_live, subst (λ (r : Reply). Shows m a c.args.program r) c.in-Noticed.is shown)

pub returns-in-NotDue-clause-tells : goal.returns-in-NotDue-clause-tells
returns-in-NotDue-clause-tells c = λ m a is_live shown. (is_live, subst (λ (r : Reply). Shows m a c.args.program r) c.in-NotDue.is shown)
