use Rattle.std.proofs.Common.{ap, ◌∙◌, position}
use Rattle.std.specs.HashMap.{get_by}
use Rattle.mt_terms.specs.Registration.Passes.{is_same_pair}
use Rattle.mt_records.specs.Fields.{pair_seen}
use Rattle.mt_passes.proofs.PairFacts.{Same, agree}
use Rattle.mt_passes.proofs.pair_table.PairTable.place.Goals as goal

pub returns : goal.returns
returns c =
    c.copied.ensures ∙ c.get.ensures.value
    ∙ ap (λ (same : Same). get_by (same c.args.pair) c.self.inside.places) agree
    ∙ c.self.invariant c.args.pair
    ∙ ap (position (is_same_pair (pair_seen c.args.pair))) c.self.view_is
