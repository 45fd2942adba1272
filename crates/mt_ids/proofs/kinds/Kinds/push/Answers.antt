use Rattle.std.proofs.Common.{refl}
use Rattle.std.proofs.lemmas.Result.{on_ok_weaker}
use Rattle.mt_ids.proofs.KindFacts.{adds_program, adds_applicant, adds_couple}
use Rattle.mt_ids.proofs.kinds.Kinds.push.Goals as goal

pub returns-in-Program : goal.returns-in-Program
returns-in-Program c = on_ok_weaker c.push.result (λ h. rw c.in-Program.is (adds_program c.args.self.now _ c.args.id.now h refl refl)) c.push.ensures

pub returns-in-Applicant : goal.returns-in-Applicant
returns-in-Applicant c = on_ok_weaker c.push-in-Applicant.result (λ h. rw c.in-Applicant.is (adds_applicant c.args.self.now _ c.args.id.now refl h refl)) c.push-in-Applicant.ensures

pub returns-in-Couple : goal.returns-in-Couple
returns-in-Couple c = on_ok_weaker c.push-in-Couple.result (λ h. rw c.in-Couple.is (adds_couple c.args.self.now _ c.args.id.now refl refl h)) c.push-in-Couple.ensures
