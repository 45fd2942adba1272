use Rattle.std.proofs.Common.{ap, ◌∙◌}
use Rattle.mt_ids.specs.Kinds.{kind_seen}
use Rattle.mt_fault_terms.specs.Parts.{Registers}
use Rattle.mt_faults.specs.Seen.{form_seen, parts_seen}
use Rattle.mt_faults.proofs.PartsFacts.{members_couple}
use Rattle.mt_faults.proofs.parts.Parts.members.Goals as goal

pub returns-in-Registers-Couple : goal.returns-in-Registers-Couple
returns-in-Registers-Couple c =
    let is_kind = rw c.in-Registers-Couple.is at c.in-Registers-Couple.field-0-is in
    c.tail.ensures ∙ members_couple (parts_seen c.args.self.now) (ap form_seen c.in-Registers-Couple.is ∙ ap (λ k. Registers (kind_seen k)) is_kind)
