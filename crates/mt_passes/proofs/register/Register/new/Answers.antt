use Rattle.std.proofs.Common.{◌∙◌, List, map, ap, sym, subst, arith}
use Rattle.mt_terms.specs.Registration.Passes.{contents}
use Rattle.mt_terms.specs.Registration.Records.{Record}
use Rattle.mt_terms.specs.Registration.Rows.{ids_of, withdrawn, applicant_ids, entry_count}
use Rattle.mt_ids.proofs.KindFacts.{none_of_kinds}
use Rattle.mt_passes.specs.declared.register.Numbered as declared
use Rattle.mt_passes.specs.Registers.{numbered_seen, AreFew}
use Rattle.mt_passes.proofs.register.Register.new.Goals as goal

abbrev seen : List declared.Numbered → List Record
seen numbered = contents (map numbered_seen numbered)

pub returns-clause-register : goal.returns-clause-register
returns-clause-register c =
    let none = sym c.new.ensures.items in
    let registered = c.new-2.ensures in
    let gone = c.new-4.ensures in
    record {
      registered = λ kind. none_of_kinds c.new-2.result registered.programs registered.applicants registered.couples kind ∙ ap (λ ns. ids_of kind (seen ns)) none;
      applicants = c.new-3.ensures ∙ ap (λ ns. applicant_ids (seen ns)) none;
      withdrawn = λ kind. none_of_kinds c.new-4.result gone.programs gone.applicants gone.couples kind ∙ ap (λ ns. withdrawn kind (seen ns)) none;
      entries = ap (λ ns. entry_count (seen ns)) none;
      few = subst (λ ns. AreFew (seen ns)) none (record { programs = omega arith; couples = omega arith; applicants = omega arith; entries = omega arith });
    }
