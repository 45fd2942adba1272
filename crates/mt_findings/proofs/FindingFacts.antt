-- What the findings say: the first one, which options block, and when there is none.
use Rattle.std.proofs.Common.{◌≡◌, ℕ, ◌<◌, Bool, false, not, ◌&&◌, List, [], ◌∷◌, ◌++◌, map, length, Option, Some, None, IsTrue, refl, ap, sym, ◌∙◌, subst, arith}
use Rattle.std.specs.List.{All, find}
use Rattle.std.specs.Option.{option_map}
use Rattle.std.proofs.lemmas.List.Elements.{All-append}
use Rattle.std.proofs.lemmas.List.Quantifiers.{position-Some}
use Rattle.mt_terms.specs.Lists.{below}
use Rattle.mt_terms.specs.Market.{Market, agents, applicants}
use Rattle.mt_terms.specs.Matching.{Places, better, holds, options}
use Rattle.mt_terms.specs.Stability.{blocks, would_be_taken}
use Rattle.mt_terms.specs.Verdict.{blocking_option, blocks_verdict, is_over, is_unlisted, over_verdict, unlisted_verdict, verdict_of}
use Rattle.mt_terms.specs.WellFormed.{IsWellFormed}
use Rattle.mt_terms.specs.declared.numbers.Agent.{Agent}
use Rattle.mt_terms.specs.declared.verdict.Verdict.TheVariants.{Stable, Unlisted, Over, Blocks}
use Rattle.mt_terms.proofs.ListFacts.{distinct-filter, has-filter, until-le}
use Rattle.mt_order_laws.proofs.OrderLists.{below_distinct, has_below}
use Rattle.mt_verdict_laws.proofs.VerdictLemmas.{position_from_any, stable_verdict_lem}
use Rattle.mt_verify.proofs.FindFacts.{find_first, find_none}
use Rattle.mt_match_file.specs.Submitted.{Submitted}
use Rattle.mt_match_file.specs.declared.submitted_match.Counted.{Counted}
use Rattle.mt_first_finding.specs.Findings.{FindingSays, finding_by, finding_code, finding_of, first_differing, fits_count}
use Rattle.mt_first_finding.specs.declared.finding.Finding.{Finding}
use Rattle.mt_first_finding.specs.declared.finding.Finding.TheVariants.{Of, Differs}
use Rattle.mt_first_finding.proofs.FindingFacts.{finding_says}
use Rattle.mt_findings.specs.Findings.{blocking, blocking_by, differing_of, findings, first_of, is_taken, over, unlisted}
use Rattle.mt_findings.specs.Headline.{FindingsAreSo}
use Rattle.mt_findings.specs.Laws.{EachBlockingOption, FirstIsNamed, NoneIfStable}
use Rattle.mt_findings.proofs.ListFacts.{BeginsWith, all_given, all_in_range, all_passing, fails_at, found_passes, gives_first, gives_none, none_found, one_found}

-- an agent that blocks begins with the option that the verdict names, and another one has none
module _ (m : Market) (places : Places) where
  blocks_first : (g : Agent) → IsTrue (blocks m places g) → BeginsWith (Of (Blocks (record { agent = g; option = blocking_option m places g }))) (blocking_by m places g)
  blocks_first g blocking_one =
      let k : ℕ = blocking_option m places g in
      let at = position-Some (would_be_taken m places) (better m places g) k [] (position_from_any (would_be_taken m places) (better m places g) blocking_one) in
      let found : find (is_taken m places g) (below (length (better m places g))) ≡ Some k =
      find_first (is_taken m places g) (length (better m places g)) k at.0 at.2 at.1 in
      let first = one_found (is_taken m places g) (below (length (better m places g))) k found in
      record {
        rest = map (λ (n : ℕ). Of (Blocks (record { agent = g; option = n }))) first.rest;
        is = ap (map (λ (n : ℕ). Of (Blocks (record { agent = g; option = n })))) first.is;
      }

  blocks_none : (g : Agent) → blocks m places g ≡ false → blocking_by m places g ≡ []
  blocks_none g other =
      ap (map (λ (n : ℕ). Of (Blocks (record { agent = g; option = n }))))
      (none_found (is_taken m places g) (below (length (better m places g)))
      (find_none (is_taken m places g) (length (better m places g)) (λ j j_in. fails_at (would_be_taken m places) (better m places g) j [] other j_in)))

-- the first of a search's findings, stage by stage
module _ (m : Market) (submitted : Submitted) where
  by_counts : (o : Option Counted) → find (λ (c : Counted). not (fits_count m submitted.places c.count)) submitted.counts ≡ o
      → first_of (differing_of m submitted.places submitted.counts) ≡ finding_by Stable (option_map (λ (c : Counted). c.row) o)
  by_counts (Some c) found =
      ap (λ (cs : List Counted). first_of (map (λ (x : Counted). Differs x.row) cs)) (one_found (λ (x : Counted). not (fits_count m submitted.places x.count)) submitted.counts c found).is
  by_counts None found =
      ap (λ (cs : List Counted). first_of (map (λ (x : Counted). Differs x.row) cs)) (none_found (λ (x : Counted). not (fits_count m submitted.places x.count)) submitted.counts found)

  counts_found : first_of (differing_of m submitted.places submitted.counts) ≡ finding_by Stable (first_differing m submitted)
  counts_found = by_counts (find (λ (c : Counted). not (fits_count m submitted.places c.count)) submitted.counts) refl

  by_blocking : (o : Option Agent) → find (blocks m submitted.places) (agents m) ≡ o
      → first_of (blocking m submitted.places ++ differing_of m submitted.places submitted.counts) ≡ finding_by (blocks_verdict m submitted.places o) (first_differing m submitted)
  by_blocking (Some g) found =
      let first = gives_first (blocking_by m submitted.places) (blocks m submitted.places) (blocks_none m submitted.places) (agents m) g
      (Of (Blocks (record { agent = g; option = blocking_option m submitted.places g }))) found (blocks_first m submitted.places g (found_passes (blocks m submitted.places) (agents m) g found)) in
      ap (λ (fs : List Finding). first_of (fs ++ differing_of m submitted.places submitted.counts)) first.is
  by_blocking None found =
      ap (λ (fs : List Finding). first_of (fs ++ differing_of m submitted.places submitted.counts))
      (gives_none (blocking_by m submitted.places) (blocks m submitted.places) (blocks_none m submitted.places) (agents m) found)
      ∙ counts_found

  by_over : (o : Option ℕ) → find (is_over m submitted.places) (below (length m.programs)) ≡ o
      → first_of (over m submitted.places ++ (blocking m submitted.places ++ differing_of m submitted.places submitted.counts))
      ≡ finding_by (over_verdict m submitted.places o) (first_differing m submitted)
  by_over (Some p) found =
      ap (λ (ps : List ℕ). first_of (map (λ (x : ℕ). Of (Over x)) ps ++ (blocking m submitted.places ++ differing_of m submitted.places submitted.counts)))
      (one_found (is_over m submitted.places) (below (length m.programs)) p found).is
  by_over None found =
      ap (λ (ps : List ℕ). first_of (map (λ (x : ℕ). Of (Over x)) ps ++ (blocking m submitted.places ++ differing_of m submitted.places submitted.counts)))
      (none_found (is_over m submitted.places) (below (length m.programs)) found)
      ∙ by_blocking (find (blocks m submitted.places) (agents m)) refl

  by_unlisted : (o : Option ℕ) → find (is_unlisted m submitted.places) (below (applicants m)) ≡ o
      → first_of (findings m submitted) ≡ finding_by (unlisted_verdict m submitted.places o) (first_differing m submitted)
  by_unlisted (Some a) found =
      ap (λ (xs : List ℕ). first_of (map (λ (x : ℕ). Of (Unlisted x)) xs ++ (over m submitted.places ++ (blocking m submitted.places ++ differing_of m submitted.places submitted.counts))))
      (one_found (is_unlisted m submitted.places) (below (applicants m)) a found).is
  by_unlisted None found =
      ap (λ (xs : List ℕ). first_of (map (λ (x : ℕ). Of (Unlisted x)) xs ++ (over m submitted.places ++ (blocking m submitted.places ++ differing_of m submitted.places submitted.counts))))
      (none_found (is_unlisted m submitted.places) (below (applicants m)) found)
      ∙ by_over (find (is_over m submitted.places) (below (length m.programs))) refl

pub first_is_named_lem : FirstIsNamed
first_is_named_lem m submitted = by_unlisted m submitted (find (is_unlisted m submitted.places) (below (applicants m))) refl

pub each_blocking_option_lem : EachBlockingOption
each_blocking_option_lem m places g =
    let n = length (better m places g) in
    ((λ k. has-filter (is_taken m places g) (below n) k ∙ ap (λ (b : Bool). is_taken m places g k && b) (has_below k n)), distinct-filter (is_taken m places g) (below n) (below_distinct n))

-- each finding against a match has a property that findings of each kind have
module _ (P : Finding → Type 0) (m : Market) (submitted : Submitted) where
  pub each_finding : ((a : ℕ) → a < applicants m → P (Of (Unlisted a))) → ((p : ℕ) → p < length m.programs → P (Of (Over p)))
      → ((g : Agent) (k : ℕ) → k < length (options m g) → P (Of (Blocks (record { agent = g; option = k }))))
      → ((row : ℕ) → P (Differs row)) → All P (findings m submitted)
  each_finding of_applicant of_program of_agent of_record =
      let places : Places = submitted.places in
      All-append P (unlisted m places) _
      (all_in_range P (λ a. Of (Unlisted a)) (is_unlisted m places) (applicants m) 0 (applicants m) (omega arith) of_applicant)
      (All-append P (over m places) _
      (all_in_range P (λ p. Of (Over p)) (is_over m places) (length m.programs) 0 (length m.programs) (omega arith) of_program)
      (All-append P (blocking m places) _
      (all_given P (blocking_by m places)
      (λ g. all_in_range P (λ k. Of (Blocks (record { agent = g; option = k }))) (is_taken m places g) (length (better m places g)) 0 (length (better m places g)) (omega arith)
      (λ k within. of_agent g k (omega (arith, until-le (holds places) (options m g)))))
      (agents m))
      (all_passing P (λ (c : Counted). Differs c.row) (λ (c : Counted). not (fits_count m places c.count)) (λ c. of_record c.row) submitted.counts)))

-- no finding is that of a stable match
pub all_against : (m : Market) (submitted : Submitted) → All (λ f. finding_code f ≡ 1) (findings m submitted)
all_against m submitted = each_finding (λ f. finding_code f ≡ 1) m submitted (λ a h. refl) (λ p h. refl) (λ g k h. refl) (λ row. refl)

pub none_if_first_stable : (fs : List Finding) → All (λ f. finding_code f ≡ 1) fs → first_of fs ≡ Of Stable → fs ≡ []
none_if_first_stable [] against is = refl
none_if_first_stable (f ∷ fs) against is =
    let one : finding_code f ≡ 1 = against 0 f (omega arith) in
    let zero : finding_code f ≡ 0 = ap finding_code is in
    absurd (omega arith)

pub none_if_stable_lem : NoneIfStable
none_if_stable_lem m h submitted one_each = (
  λ none. subst (λ (f : Finding). FindingSays m submitted f) (sym (first_is_named_lem m submitted) ∙ ap first_of none) (finding_says m h submitted one_each),
  λ both. let is : verdict_of m submitted.places ≡ Stable = (stable_verdict_lem m h submitted.places one_each).1 both.0 in
      let found : finding_of m submitted ≡ Of Stable = rw (is, both.1) refl in
      none_if_first_stable (findings m submitted) (all_against m submitted) (first_is_named_lem m submitted ∙ found),
)

pub findings_are_so : (m : Market) → IsWellFormed m → (submitted : Submitted) → length submitted.places ≡ applicants m → FindingsAreSo m submitted
findings_are_so m h submitted one_each = record {
  first = first_is_named_lem m submitted;
  options = λ g. (each_blocking_option_lem m submitted.places g).0;
  once = λ g. (each_blocking_option_lem m submitted.places g).1;
  none = none_if_stable_lem m h submitted one_each;
}
