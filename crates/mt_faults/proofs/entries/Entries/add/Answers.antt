use Rattle.std.proofs.Common.{◌≡◌, List, Option, Some, None, ℕ, false, true, ap, refl, sym, ◌∙◌}
use Rattle.std.specs.Prelude.{bytes_eq, position}
use Rattle.mt_terms.specs.Registration.Ids.{has_id}
use Rattle.mt_ids.proofs.IdFacts.{found_id, missing_id}
use Rattle.mt_faults.proofs.entries.Entries.add.Goals as goal

-- the entries are the ids of their table: one of them has a number there, and no other has
found : (entries ids : List (List ℕ)) (id : List ℕ) (number : Option ℕ) (n : ℕ) → ids ≡ entries → number ≡ Some n → number ≡ position (bytes_eq id) ids
    → has_id entries id ≡ true
found entries ids id number n view is asked = ap (λ (all : List (List ℕ)). has_id all id) (sym view) ∙ (found_id ids id n (sym is ∙ asked)).0

missing : (entries ids : List (List ℕ)) (id : List ℕ) (number : Option ℕ) → ids ≡ entries → number ≡ None → number ≡ position (bytes_eq id) ids
    → has_id entries id ≡ false
missing entries ids id number view is asked = ap (λ (all : List (List ℕ)). has_id all id) (sym view) ∙ missing_id ids id (sym is ∙ asked)

pub returns-in-Some-clause-found : goal.returns-in-Some-clause-found
returns-in-Some-clause-found c =
    sym (found c.args.self.now c.self.inside.ids c.args.field.now.bytes.now c.number.result c.in-Some.number c.self.view_is c.in-Some.is c.number.ensures)

pub returns-in-Some-clause-ids : goal.returns-in-Some-clause-ids
returns-in-Some-clause-ids c =
    let is : has_id c.args.self.now c.args.field.now.bytes.now ≡ true =
    found c.args.self.now c.self.inside.ids c.args.field.now.bytes.now c.number.result c.in-Some.number c.self.view_is c.in-Some.is c.number.ensures in
    rw is refl

pub returns-clause-found : goal.returns-clause-found
returns-clause-found c =
    sym (missing c.args.self.now c.self.inside.ids c.args.field.now.bytes.now c.number.result c.self.view_is c.in_default.is c.number.ensures)
