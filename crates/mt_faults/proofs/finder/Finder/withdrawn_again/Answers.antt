use Rattle.std.proofs.Common.{◌≡◌, ap, ◌∙◌, take, length}
use Rattle.mt_terms.specs.Registration.Ids.{Bytes, has_id}
use Rattle.mt_ids.specs.Kinds.{kind_seen}
use Rattle.mt_fault_terms.specs.Parts.{all_withdrawn}
use Rattle.mt_faults.specs.Seen.{form_seen, parts_seen}
use Rattle.mt_faults.proofs.RecordFacts.{withdrawn_is}
use Rattle.mt_faults.proofs.StandingFacts.{is_withdrawn_before}
use Rattle.mt_faults.proofs.finder.Finder.withdrawn_again.Goals as goal

pub returns : goal.returns
returns c = λ all before s.
    let f = c.args.self.now in
    let p = parts_seen c.args.parts.now in
    let kind = kind_seen c.in-Withdraws.kind in
    let alike : (id : Bytes) → has_id (take c.len.result c.of-ids.result.now) id ≡ has_id (all_withdrawn f.rules kind before) id = λ id. ap (λ table. has_id (take c.len.result table) id) c.of-ids.ensures ∙ is_withdrawn_before f all before s kind c.len.result (c.len.ensures.len ∙ ap length c.of-ids.ensures) id in
    c.found.ensures f.rules ∙ withdrawn_is f.rules before p kind (take c.len.result c.of-ids.result.now) (ap form_seen c.in-Withdraws.is) alike
