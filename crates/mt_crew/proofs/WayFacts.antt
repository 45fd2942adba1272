-- A recorded floor that has the proposals of a match has as many of them as are on the way to it.
use Rattle.std.proofs.Common.{◌≡◌, ◌∙◌, ap, length, sym}
use Rattle.std.proofs.lemmas.List.{length-take-le}
use Rattle.mt_terms.specs.Best.{proposed_to}
use Rattle.mt_terms.specs.Floor.{Floor, HasProposalsOf, IsRecorded, proposals_made}
use Rattle.mt_terms.specs.Market.{Market, applicants, live}
use Rattle.mt_terms.specs.Matching.{Places}
use Rattle.mt_terms.proofs.Totals.{total_below-same}
use Rattle.mt_crew.specs.Closings.{all_on_the_way}

pub made_on_the_way : (m : Market) (f : Floor) (places : Places) → IsRecorded m f → HasProposalsOf m f places → all_on_the_way m places ≡ proposals_made m f
made_on_the_way m f places recorded has =
    total_below-same (λ a. length (proposed_to m places a)) f.made (applicants m)
    (λ a low. ap length (sym (has.same_tried a)) ∙ length-take-le (f.made a) (live m a) (recorded.within a))
