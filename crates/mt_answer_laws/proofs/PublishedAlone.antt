-- The best match of a file without couples is published for it.
use Rattle.std.proofs.Common.{◌≡◌, ℕ, List, [], Ok, refl, sym, subst}
use Rattle.std.specs.Prelude.{IsTrue}
use Rattle.mt_terms.specs.Best.{IsBest}
use Rattle.mt_terms.specs.Market.{Partners, Registered}
use Rattle.mt_terms.specs.Matching.{Places}
use Rattle.mt_terms.specs.Stability.{stable}
use Rattle.mt_terms.specs.Text.{published}
use Rattle.mt_answer.specs.Answer.{all_proposals}
use Rattle.mt_input.specs.Files.{market_in}
use Rattle.mt_input.proofs.MarketFacts.{registration_of}
use Rattle.mt_run_laws.specs.Answer.{IsAnswer}
use Rattle.mt_run_laws.proofs.HeadlineLemmas.{stage_of_singles}
use Rattle.mt_text_laws.specs.Counts.{published_counts}
use Rattle.mt_answer_laws.specs.TwoFiles.{Publishes}
use Rattle.mt_answer_laws.proofs.CalledStable.{of_match}
use Rattle.mt_answer_laws.proofs.PublishedFacts.{PublishedOf}

module _ (bytes : List ℕ) (r : Registered) (best : Places) (is_market : market_in bytes ≡ Ok r) (is_best : IsBest r.market best) (none : r.market.couples ≡ []) where
  abbrev text_is : List ℕ
  text_is = published r.market r.names best (all_proposals r best)

  answer_is : IsAnswer bytes 0 0 text_is
  answer_is = rw is_market (record { best = best; is_best = is_best; ends = rw (stage_of_singles r.market best 0 none) (refl, refl) })

  published_is : PublishedOf bytes text_is
  published_is =
      record {
        registered = r;
        is_market = is_market;
        registration = registration_of bytes r is_market;
        best = best;
        is_best = is_best;
        places = best;
        is_stable = subst (λ (couples : List Partners). IsTrue (stable (record r.market { couples = couples }) best)) (sym none) is_best.is_stable;
        is_text = refl;
        same_alone = λ _. refl;
      }

  pub publishes : Publishes bytes r best
  unfolding published_is
  publishes =
      record {
        budget = 0;
        text = text_is;
        is_answer = answer_is;
        of_bytes = is_market;
        counts = published_counts r.market best;
        of_text = of_match bytes text_is published_is;
      }
