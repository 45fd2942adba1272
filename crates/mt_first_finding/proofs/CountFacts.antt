-- The first record that says other counts.
use Rattle.std.proofs.Common.{◌≡◌, ℕ, ◌+◌, ◌<◌, true, false, List, ◌∷◌, length, drop, get_or, Some, refl, ap, sym, ◌∙◌}
use Rattle.std.proofs.lemmas.List.{drop_more}
use Rattle.mt_terms.specs.Market.{Market}
use Rattle.mt_terms.specs.Matching.{Places}
use Rattle.mt_match_file.specs.declared.submitted_match.Counted.{Counted}
use Rattle.mt_first_finding.specs.Findings.{first_differing_of, fits_count}

module _ (m : Market) (places : Places) (counts : List Counted) (i : ℕ) (x : Counted) (within : i < length counts) (is : x ≡ get_or counts i x) where
  here : drop i counts ≡ x ∷ drop (i + 1) counts
  here = drop_more counts i x within ∙ ap (λ y. y ∷ drop (i + 1) counts) (sym is)

  pub differs_here : fits_count m places x.count ≡ false → first_differing_of m places (drop i counts) ≡ Some x.row
  differs_here h = rw (here, h) refl

  pub differs_later : fits_count m places x.count ≡ true → first_differing_of m places (drop i counts) ≡ first_differing_of m places (drop (i + 1) counts)
  differs_later h = rw (here, h) refl
