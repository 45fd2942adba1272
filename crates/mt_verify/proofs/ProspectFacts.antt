-- Those ahead of an applicant that is sent to a program are counted on the front of the program's list. Moving the
-- applicant itself changes nothing there, so only a partner's move counts.
use Rattle.std.proofs.Common.{◌≡◌, ◌≢◌, ℕ, ◌<◌, ◌==◌, length, take, Option, Some, IsTrue, ap, sym, ◌∙◌, subst}
use Rattle.std.specs.List.{position}
use Rattle.std.specs.Option.{option_map}
use Rattle.std.proofs.lemmas.Bool.{both_ways}
use Rattle.mt_terms.specs.Lists.{Set, above, count, has, until}
use Rattle.mt_terms.specs.Market.{Market, program_of}
use Rattle.mt_terms.specs.Matching.{Places, at, couple_placement, send, single_placement}
use Rattle.mt_terms.proofs.ListFacts.{until_position}
use Rattle.mt_stability_laws.proofs.ListLemmas.{above-with_one, count_agree, until-itself}
use Rattle.mt_stability_laws.proofs.TakenLemmas.{at-slice_set}
use Rattle.mt_verify.specs.Moved.{at_moved}
use Rattle.mt_verify.specs.Prospects.{ahead, prospect}
use Rattle.mt_verify.specs.declared.prospect.Prospect.{Prospect}
use Rattle.mt_verify.proofs.TakenFacts.{others_there}

-- those ahead of a single
pub ahead_of_single : (m : Market) (places : Places) (a p k : ℕ) → a < length places
    → position (λ x. x == a) (program_of m p).ranking ≡ Some k
    → ahead m (send (single_placement a p) places) p a ≡ count (at places p) (take k (program_of m p).ranking)
ahead_of_single m places a p k a_in is_at =
    let ranking = (program_of m p).ranking in
    ap (λ (set : Set). above set ranking a) (at-slice_set places a p a_in)
    ∙ above-with_one (at places p) ranking a
    ∙ ap (count (at places p)) (until_position ranking a k is_at)

-- those ahead of a couple's member
pub ahead_of_member : (places : Places) (a b p : ℕ) (t : Option ℕ) → a < length places → b < length places → a ≢ b
    → (m : Market) (k : ℕ) → position (λ x. x == a) (program_of m p).ranking ≡ Some k
    → ahead m (send (couple_placement a b (Some p, t)) places) p a
    ≡ count (at_moved places b t p) (take k (program_of m p).ranking)
ahead_of_member places a b p t a_in b_in apart m k is_at =
    let ranking = (program_of m p).ranking in
    let set : Set = at (send (couple_placement a b (Some p, t)) places) p in
    count_agree set (at_moved places b t p) (until (λ x. x == a) ranking)
    (λ c higher. others_there places a b p t a_in b_in apart c (λ is_a.
    both_ways _ (until-itself ranking a)
    (subst (λ (x : ℕ). IsTrue (has (until (λ y. y == a) ranking) x)) is_a higher)))
    ∙ ap (count (at_moved places b t p)) (until_position ranking a k is_at)

-- a prospect by the rank that was found and the count of those ahead
pub prospect_ranked : (m : Market) (moved : Places) (a p k n : ℕ) → position (λ x. x == a) (program_of m p).ranking ≡ Some k
    → ahead m moved p a ≡ n → ◌≡◌ {A = Option Prospect} (Some (record { rank = k; ahead = n })) (prospect m moved p a)
prospect_ranked m moved a p k n is_at are =
    let with_rank : ℕ → Prospect = λ r. record { rank = r; ahead = ahead m moved p a } in
    ap (λ (x : ℕ). Some (record { rank = k; ahead = x })) (sym are) ∙ sym (ap (option_map with_rank) is_at)
