-- What an event keeps of a desk.
use Rattle.std.proofs.Common.{◌≡◌, ◌==◌, ◌||◌, ℕ, suc, ◌+◌, ◌-◌, ◌<◌, Bool, true, false, Some, IsTrue, slice_get, slice_index_or, length, take, refl, sym, ap, ◌∙◌, subst, inl, inr, arith, eq-eqb}
use Rattle.std.proofs.Math.Seq.{take-length}
use Rattle.std.proofs.lemmas.List.{get_or_past}
use Rattle.std.proofs.lemmas.Bool.{cases_Bool, cases_lt, eqb-true, true≢false, false≢true}
use Rattle.mt_terms.specs.Lists.{has}
use Rattle.mt_terms.specs.Market.{Market, applicants, live}
use Rattle.mt_terms.specs.Best.{IsExcluded}
use Rattle.mt_floor_laws.proofs.FloorLists.{has-get, has-until-get, has-take-suc}
use Rattle.mt_floor_laws.proofs.FloorEvents.{within_get}
use Rattle.mt_ranks.specs.Ranked.{Ranked, IsRanked}
use Rattle.mt_desks.specs.Parts.{AllAboveExcluded, DeskView, DoorView, IsComer, IsDesk, IsRow, passed_count}
use Rattle.mt_desks.specs.Steps.{IsDue}

-- the applicant may come to the door that its desk's next event is about
pub entry_comes : (m : Market) (d : DeskView) (v : DoorView) → IsDesk m d → IsDue m d v → IsComer m d.applicant v.program
entry_comes m d v keeps due = record {
  is_live = has-get (live m d.applicant) (passed_count d.made d.standing) v.program due.entry;
  above_excluded = λ q h. keeps.row.passed_excluded q
      (has-until-get (λ x. x == v.program) (live m d.applicant) (passed_count d.made d.standing) v.program q due.entry (eq-eqb v.program v.program refl) h);
}

-- with one program more, all that are passed are excluded if the old ones are and that one is
passed_more : (m : Market) (a k p : ℕ) → slice_get (live m a) k ≡ Some p → ((q : ℕ) → IsTrue (has (take k (live m a)) q) → IsExcluded m a q) → IsExcluded m a p
    → (q : ℕ) → IsTrue (has (take (suc k) (live m a)) q) → IsExcluded m a q
passed_more m a k p at old out q h =
    elim (cases_Bool (has (take k (live m a)) q)) [
      | inl before ↦ old q before
      | inr new ↦ subst (λ (x : ℕ). IsExcluded m a x) (eqb-true p q (ap (λ t. t || (p == q)) (sym new) ∙ sym (has-take-suc (live m a) k p q at) ∙ h)) out
    ]

-- the same, by a count that is equal
passed_by : (m : Market) (a j k : ℕ) → j ≡ k → ((q : ℕ) → IsTrue (has (take j (live m a)) q) → IsExcluded m a q) → (q : ℕ) → IsTrue (has (take k (live m a)) q) → IsExcluded m a q
passed_by m a j k same old q h = old q (subst (λ (n : ℕ). IsTrue (has (take n (live m a)) q)) (sym same) h)

-- the row of who has proposed once more, and that of who has learnt that it isn't held
row_proposes : (m : Market) (a k p : ℕ) (s : Bool) → IsRow m a k false → slice_get (live m a) k ≡ Some p → (s ≡ false → IsExcluded m a p) → IsRow m a (k + 1) s
row_proposes m a k p true row at out = record {
  within = omega (arith, within_get (live m a) k p at);
  proposed = λ _. omega arith;
  passed_excluded = passed_by m a (k - 0) (k + 1 - 1) (omega arith) row.passed_excluded;
}
row_proposes m a k p false row at out = record {
  within = omega (arith, within_get (live m a) k p at);
  proposed = λ e. absurd (true≢false (sym e));
  passed_excluded = passed_by m a (suc k) (k + 1 - 0) (omega arith) (passed_more m a k p at (passed_by m a (k - 0) k (omega arith) row.passed_excluded) (out refl));
}

row_learns : (m : Market) (a k p : ℕ) → IsRow m a k true → slice_get (live m a) (k - 1) ≡ Some p → IsExcluded m a p → IsRow m a k false
row_learns m a k p row at out =
    let some = row.proposed refl in
    record {
      within = row.within;
      proposed = λ e. absurd (true≢false (sym e));
      passed_excluded = passed_by m a (suc (k - 1)) (k - 0) (omega (arith, some)) (passed_more m a (k - 1) p at row.passed_excluded out);
    }

-- a desk with one proposal more, and one credit less
pub desk_proposes : (m : Market) (d : DeskView) (p c : ℕ) (s : Bool) → IsDesk m d → d.standing ≡ false → slice_get (live m d.applicant) (passed_count d.made d.standing) ≡ Some p
    → c + 1 ≡ d.credits → (s ≡ false → IsExcluded m d.applicant p) → IsDesk m (record { applicant = d.applicant; made = d.made + 1; standing = s; credits = c })
desk_proposes m d p c s keeps free at one out = record {
  left = omega (arith, keeps.left, one);
  row = row_proposes m d.applicant d.made p s (subst (λ (b : Bool). IsRow m d.applicant d.made b) free keeps.row) (next_at (subst (λ (b : Bool). slice_get (live m d.applicant) (passed_count d.made b) ≡ Some p) free at)) out;
}
  where
    next_at : slice_get (live m d.applicant) (d.made - 0) ≡ Some p → slice_get (live m d.applicant) d.made ≡ Some p
    next_at e = let same : d.made ≡ d.made - 0 = omega arith in ap (slice_get (live m d.applicant)) same ∙ e

-- a desk that learns that the applicant isn't held where it stood
pub desk_learns : (m : Market) (d : DeskView) (p : ℕ) → IsDesk m d → d.standing ≡ true → slice_get (live m d.applicant) (passed_count d.made d.standing) ≡ Some p
    → IsExcluded m d.applicant p → IsDesk m (record { applicant = d.applicant; made = d.made; standing = false; credits = d.credits })
desk_learns m d p keeps stands at out = record {
  left = keeps.left;
  row = row_learns m d.applicant d.made p (subst (λ (b : Bool). IsRow m d.applicant d.made b) stands keeps.row) (subst (λ (b : Bool). slice_get (live m d.applicant) (passed_count d.made b) ≡ Some p) stands at) out;
}

-- nothing stands above the first entry of a live list
pub first_comes : (m : Market) (a p : ℕ) → slice_get (live m a) 0 ≡ Some p → AllAboveExcluded m a p
first_comes m a p at q h = absurd (false≢true (has-until-get (λ x. x == p) (live m a) 0 p q at (eq-eqb p p refl) h))

-- an applicant that has proposed to its whole live list and stands nowhere is excluded everywhere on it
pub all_passed : (m : Market) (a made : ℕ) → IsRow m a made false → made ≡ length (live m a) → (p : ℕ) → IsTrue (has (live m a) p) → IsExcluded m a p
all_passed m a made row all p h = passed_by m a (made - 0) (length (live m a)) (omega (arith, all)) row.passed_excluded p (ap (λ xs. has xs p) (take-length (live m a)) ∙ h)

-- a single is an applicant
pub single_known : (r : Ranked) → IsRanked r → (a : ℕ) → slice_index_or r.singles a false ≡ true → a < applicants r.market
single_known r is a on =
    elim (cases_lt a (applicants r.market)) [
      | inl low ↦ low
      | inr past ↦ absurd (false≢true (sym (get_or_past r.singles a false (omega (arith, is.flags))) ∙ on))
    ]
