use Rattle.std.proofs.Common.{◌≡◌, ℕ, zero, suc, ◌<◌, true, [], ◌∷◌, length, Option, Some, None, IsTrue, sym, ◌∙◌, arith}
use Rattle.std.specs.List.{list_all}
use Rattle.std.proofs.lemmas.Bool.{false≢true, and_parts}
use Rattle.std.proofs.lemmas.Bool.Decides.{nat_tests}
use Rattle.mt_terms.specs.Registration.Accepted.{is_none_or_below}
use Rattle.mt_terms.specs.Matching.{Places, at, is_program}
use Rattle.mt_samples.proofs.places.are_places.Goals as goal

below_here : (n p : ℕ) (place : Option ℕ) → is_none_or_below n place ≡ true → IsTrue (is_program p place) → p < n
below_here n p None below here = absurd (false≢true here)
below_here n p (Some x) below here = grind (arith, nat_tests, below, here)

below_anywhere : (n p : ℕ) (places : Places) (a : ℕ) → list_all (is_none_or_below n) places ≡ true → IsTrue (at places p a) → p < n
below_anywhere n p [] a all there = absurd (false≢true there)
below_anywhere n p (place ∷ places) zero all there =
    below_here n p place (and_parts (is_none_or_below n place) (list_all (is_none_or_below n) places) all).0 there
below_anywhere n p (place ∷ places) (suc a) all there =
    below_anywhere n p places a (and_parts (is_none_or_below n place) (list_all (is_none_or_below n) places) all).1 there

pub returns-then-places-applicants : goal.returns-then-places-applicants
returns-then-places-applicants c = λ all. record {
  one_each = omega (arith, c.applicants.ensures.count);
  within = λ a p there. below_anywhere (length c.args.roster.now.market.programs) p c.args.places.now a (sym c.all_places.ensures ∙ all) there;
}
