-- The markets of records that differ in one of them. Either both of these are withdrawn, and the markets are the same, or
-- both stay, and the market differs where they stand.
use Rattle.std.proofs.Common.{◌≡◌, ℕ, suc, Bool, true, false, List, [], ◌∷◌, ◌++◌, ◌⊎◌, inl, inr, length, get_or, set, Option, refl, sym, ap, ◌∙◌, subst, arith, length-append, filter, filter_map, flat_map}
use Rattle.std.proofs.lemmas.List.Concat.{flat_map-append}
use Rattle.std.proofs.lemmas.List.Elements.{filter-append, filter_map-append}
use Rattle.mt_terms.specs.Market.{Names, Program, Registered, program_of}
use Rattle.mt_terms.specs.Registration.Ids.{Bytes, numbers_of}
use Rattle.mt_terms.specs.Registration.Numbering.{couple_in, lists_in, market_by, names_of, program_in, registered}
use Rattle.mt_terms.specs.Registration.Records.{ApplicantRecord, CoupleRecord, Kind, OfApplicant, OfCouple, OfProgram, ProgramRecord, Record, WithdrawRecord}
use Rattle.mt_terms.specs.Registration.Rows.{applicant_ids, applicants_of, own_id, remaining, withdrawn, withdrawn_id}
use Rattle.mt_terms.specs.Text.{name_of}
use Rattle.mt_draft_laws.specs.Staying.{stays_without}
use Rattle.mt_draft_laws.proofs.StayingFacts.{remaining_is}
use Rattle.mt_applicant_laws.specs.Changes.{with_list, with_quota}
use Rattle.mt_change_laws.specs.Changes.{ListChanged, QuotaChanged}

-- the market of the records that stay, with its names
abbrev of_staying : List Record → Registered
of_staying rs = record { market = market_by (names_of rs) rs; names = names_of rs }

-- one element in the middle of a list
set_middle : {X : Type 0} (xs ys : List X) (x y : X) → set (xs ++ x ∷ ys) (length xs) y ≡ xs ++ y ∷ ys
set_middle [] ys x y = refl
set_middle {X} (z ∷ xs) ys x y = ap (λ (zs : List X). z ∷ zs) (set_middle xs ys x y)

get_middle : {X : Type 0} (xs ys : List X) (x d : X) → get_or (xs ++ x ∷ ys) (length xs) d ≡ x
get_middle [] ys x d = refl
get_middle (z ∷ xs) ys x d = get_middle xs ys x d

module _ (before after : List Record) (x y : Record) where
  swap_filter_map : {Z : Type 0} (f : Record → Option Z) → f x ≡ f y → filter_map f (before ++ x ∷ after) ≡ filter_map f (before ++ y ∷ after)
  swap_filter_map {Z} f e =
      let same : filter_map f (x ∷ after) ≡ filter_map f (y ∷ after) = rw e refl in
      filter_map-append f before (x ∷ after) ∙ ap (λ (zs : List Z). filter_map f before ++ zs) same ∙ sym (filter_map-append f before (y ∷ after))

  swap_flat_map : {Z : Type 0} (f : Record → List Z) → f x ≡ f y → flat_map f (before ++ x ∷ after) ≡ flat_map f (before ++ y ∷ after)
  swap_flat_map {Z} f e =
      let same : flat_map f (x ∷ after) ≡ flat_map f (y ∷ after) = rw e refl in
      flat_map-append f before (x ∷ after) ∙ ap (λ (zs : List Z). flat_map f before ++ zs) same ∙ sym (flat_map-append f before (y ∷ after))

  -- Two records of one kind, with the same ids of their own, neither of which is a withdrawal.
  pub record AreAlike : Type 0 where
    pub withdraw_alike : (kind : Kind) → withdrawn_id kind x ≡ withdrawn_id kind y
    pub stay_alike : (programs applicants couples : List Bytes) → stays_without programs applicants couples x ≡ stays_without programs applicants couples y
    pub own_alike : (kind : Kind) → own_id kind x ≡ own_id kind y
    pub applicants_alike : applicants_of x ≡ applicants_of y

  pub record BothStay : Type 0 where
    pub front : List Record
    pub back : List Record
    pub first : remaining (before ++ x ∷ after) ≡ front ++ x ∷ back
    pub second : remaining (before ++ y ∷ after) ≡ front ++ y ∷ back

  same_staying : (p q a b c d : List Bytes) (rs : List Record) → p ≡ q → a ≡ b → c ≡ d → filter (stays_without p a c) rs ≡ filter (stays_without q b d) rs
  same_staying p q a b c d rs e f g = rw (e, f, g) refl

  pub stay_or_not : AreAlike → (remaining (before ++ x ∷ after) ≡ remaining (before ++ y ∷ after)) ⊎ BothStay
  stay_or_not alike = by (stays x) refl
    where
      stays : Record → Bool
      stays r =
          stays_without (withdrawn OfProgram (before ++ x ∷ after)) (withdrawn OfApplicant (before ++ x ∷ after)) (withdrawn OfCouple (before ++ x ∷ after)) r

      first_is : remaining (before ++ x ∷ after) ≡ filter stays before ++ filter stays (x ∷ after)
      first_is = sym (remaining_is (before ++ x ∷ after)) ∙ filter-append stays before (x ∷ after)

      second_is : remaining (before ++ y ∷ after) ≡ filter stays before ++ filter stays (y ∷ after)
      second_is =
          sym (remaining_is (before ++ y ∷ after))
          ∙ same_staying _ _ _ _ _ _ (before ++ y ∷ after) (sym (swap_filter_map (withdrawn_id OfProgram) (alike.withdraw_alike OfProgram)))
          (sym (swap_filter_map (withdrawn_id OfApplicant) (alike.withdraw_alike OfApplicant))) (sym (swap_filter_map (withdrawn_id OfCouple) (alike.withdraw_alike OfCouple)))
          ∙ filter-append stays before (y ∷ after)

      y_stays : stays x ≡ stays y
      y_stays = alike.stay_alike (withdrawn OfProgram (before ++ x ∷ after)) (withdrawn OfApplicant (before ++ x ∷ after)) (withdrawn OfCouple (before ++ x ∷ after))

      by : (b : Bool) → stays x ≡ b → (remaining (before ++ x ∷ after) ≡ remaining (before ++ y ∷ after)) ⊎ BothStay
      by true is =
          let there : stays y ≡ true = sym y_stays ∙ is in
          inr (record {
            front = filter stays before;
            back = filter stays after;
            first = first_is ∙ rw is refl;
            second = second_is ∙ rw there refl;
          })
      by false is =
          let gone : stays y ≡ false = sym y_stays ∙ is in
          let first : remaining (before ++ x ∷ after) ≡ filter stays before ++ filter stays after = first_is ∙ rw is refl in
          let second : remaining (before ++ y ∷ after) ≡ filter stays before ++ filter stays after = second_is ∙ rw gone refl in
          inl (first ∙ sym second)

  same_names : AreAlike → names_of (before ++ x ∷ after) ≡ names_of (before ++ y ∷ after)
  same_names alike = λ i. record {
    programs = swap_filter_map (own_id OfProgram) (alike.own_alike OfProgram) i;
    applicants = swap_flat_map applicants_of alike.applicants_alike i;
    couples = swap_filter_map (own_id OfCouple) (alike.own_alike OfCouple) i;
  }

lists_long : (names : Names) (rs : List Record) → length (flat_map (lists_in names) rs) ≡ length (applicant_ids rs)
lists_long names [] = refl
lists_long names (ProgramRecord id quota list ∷ rs) = lists_long names rs
lists_long names (ApplicantRecord id list ∷ rs) = ap suc (lists_long names rs)
lists_long names (CoupleRecord id a b pairs ∷ rs) = ap suc (ap suc (lists_long names rs))
lists_long names (WithdrawRecord kind id ∷ rs) = lists_long names rs

module _ (id : Bytes) (list other : List Bytes) where
  applicants_are_alike : (before after : List Record) → AreAlike before after (ApplicantRecord id list) (ApplicantRecord id other)
  applicants_are_alike before after = record { withdraw_alike = withdraw_alike; stay_alike = λ p a c. refl; own_alike = own_alike; applicants_alike = refl }
    where
      withdraw_alike : (kind : Kind) → withdrawn_id kind (ApplicantRecord id list) ≡ withdrawn_id kind (ApplicantRecord id other)
      withdraw_alike OfProgram = refl
      withdraw_alike OfApplicant = refl
      withdraw_alike OfCouple = refl

      own_alike : (kind : Kind) → own_id kind (ApplicantRecord id list) ≡ own_id kind (ApplicantRecord id other)
      own_alike OfProgram = refl
      own_alike OfApplicant = refl
      own_alike OfCouple = refl

  list_by : (names : Names) (front back : List Record)
      → market_by names (front ++ ApplicantRecord id other ∷ back)
      ≡ with_list (market_by names (front ++ ApplicantRecord id list ∷ back)) (length (applicant_ids front)) (numbers_of names.programs other)
  list_by names front back =
      let firsts : List (List ℕ) = flat_map (lists_in names) front in
      let lasts : List (List ℕ) = flat_map (lists_in names) back in
      let old : List ℕ = numbers_of names.programs list in
      let new : List ℕ = numbers_of names.programs other in
      let of_new : flat_map (lists_in names) (front ++ ApplicantRecord id other ∷ back) ≡ firsts ++ new ∷ lasts = flat_map-append (lists_in names) front (ApplicantRecord id other ∷ back) in
      let of_old : flat_map (lists_in names) (front ++ ApplicantRecord id list ∷ back) ≡ firsts ++ old ∷ lasts = flat_map-append (lists_in names) front (ApplicantRecord id list ∷ back) in
      let changed : flat_map (lists_in names) (front ++ ApplicantRecord id other ∷ back)
      ≡ set (flat_map (lists_in names) (front ++ ApplicantRecord id list ∷ back)) (length (applicant_ids front)) new =
      of_new ∙ sym (set_middle firsts lasts old new) ∙ ap (λ (k : ℕ). set (firsts ++ old ∷ lasts) k new) (lists_long names front)
      ∙ ap (λ (ls : List (List ℕ)). set ls (length (applicant_ids front)) new) (sym of_old) in
      λ i. record {
        programs = sym (swap_filter_map front back (ApplicantRecord id list) (ApplicantRecord id other) (program_in names) refl) i;
        lists = changed i;
        couples = sym (swap_filter_map front back (ApplicantRecord id list) (ApplicantRecord id other) (couple_in names) refl) i;
      }

  list_in : (front back : List Record) → ListChanged (of_staying (front ++ ApplicantRecord id list ∷ back)) (of_staying (front ++ ApplicantRecord id other ∷ back)) id other
  list_in front back =
      let ids : applicant_ids (front ++ ApplicantRecord id list ∷ back) ≡ applicant_ids front ++ id ∷ applicant_ids back = flat_map-append applicants_of front (ApplicantRecord id list ∷ back) in
      let names : names_of (front ++ ApplicantRecord id list ∷ back) ≡ names_of (front ++ ApplicantRecord id other ∷ back) =
      same_names front back (ApplicantRecord id list) (ApplicantRecord id other) (applicants_are_alike front back) in
      record {
        number = length (applicant_ids front);
        within = rw ids (omega (arith, length-append (applicant_ids front) (id ∷ applicant_ids back)));
        has_id = ap (λ (xs : List Bytes). name_of xs (length (applicant_ids front))) ids ∙ get_middle (applicant_ids front) (applicant_ids back) id [];
        market_is =
            ap (λ (ns : Names). market_by ns (front ++ ApplicantRecord id other ∷ back)) (sym names)
            ∙ list_by (names_of (front ++ ApplicantRecord id list ∷ back)) front back;
      }

  pub list_changed : (before after : List Record) (r s : Registered) → registered (before ++ ApplicantRecord id list ∷ after) ≡ r → registered (before ++ ApplicantRecord id other ∷ after) ≡ s
      → (s.names ≡ r.names) × ((s.market ≡ r.market) ⊎ ListChanged r s id other)
  list_changed before after r s is_r is_s =
      elim (stay_or_not before after (ApplicantRecord id list) (ApplicantRecord id other) (applicants_are_alike before after)) [
        | inl gone ↦
            let same : s ≡ r = sym is_s ∙ ap of_staying (sym gone) ∙ is_r in
            (ap (λ (q : Registered). q.names) same, inl (ap (λ (q : Registered). q.market) same))
        | inr both ↦
            let first : of_staying (both.front ++ ApplicantRecord id list ∷ both.back) ≡ r = ap of_staying (sym both.first) ∙ is_r in
            let second : of_staying (both.front ++ ApplicantRecord id other ∷ both.back) ≡ s = ap of_staying (sym both.second) ∙ is_s in
            let names : s.names ≡ r.names =
            ap (λ (q : Registered). q.names) (sym second)
            ∙ sym (same_names both.front both.back (ApplicantRecord id list) (ApplicantRecord id other) (applicants_are_alike both.front both.back))
            ∙ ap (λ (q : Registered). q.names) first in (
              names,
              inr (subst (λ (q : Registered). ListChanged q s id other) first
                  (subst (λ (q : Registered). ListChanged (of_staying (both.front ++ ApplicantRecord id list ∷ both.back)) q id other) second (list_in both.front both.back))),
            )
      ]

module _ (id : Bytes) (quota other : ℕ) (list : List Bytes) where
  programs_are_alike : (before after : List Record) → AreAlike before after (ProgramRecord id quota list) (ProgramRecord id other list)
  programs_are_alike before after = record { withdraw_alike = withdraw_alike; stay_alike = λ p a c. refl; own_alike = own_alike; applicants_alike = refl }
    where
      withdraw_alike : (kind : Kind) → withdrawn_id kind (ProgramRecord id quota list) ≡ withdrawn_id kind (ProgramRecord id other list)
      withdraw_alike OfProgram = refl
      withdraw_alike OfApplicant = refl
      withdraw_alike OfCouple = refl

      own_alike : (kind : Kind) → own_id kind (ProgramRecord id quota list) ≡ own_id kind (ProgramRecord id other list)
      own_alike OfProgram = refl
      own_alike OfApplicant = refl
      own_alike OfCouple = refl

  program_here : Names → ℕ → Program
  program_here names n = record { quota = n; ranking = numbers_of names.applicants list }

  programs_of : (names : Names) (n : ℕ) (front back : List Record)
      → filter_map (program_in names) (front ++ ProgramRecord id n list ∷ back) ≡ filter_map (program_in names) front ++ program_here names n ∷ filter_map (program_in names) back
  unfolding program_here
  programs_of names n front back = filter_map-append (program_in names) front (ProgramRecord id n list ∷ back)

  quota_here : (names : Names) (front back : List Record)
      → program_of (market_by names (front ++ ProgramRecord id quota list ∷ back)) (length (filter_map (program_in names) front)) ≡ program_here names quota
  quota_here names front back =
      ap (λ (ps : List Program). get_or ps (length (filter_map (program_in names) front)) (record { quota = 0; ranking = [] })) (programs_of names quota front back)
      ∙ get_middle (filter_map (program_in names) front) (filter_map (program_in names) back) (program_here names quota) (record { quota = 0; ranking = [] })

  quota_by : (names : Names) (front back : List Record)
      → market_by names (front ++ ProgramRecord id other list ∷ back)
      ≡ with_quota (market_by names (front ++ ProgramRecord id quota list ∷ back)) (length (filter_map (program_in names) front)) other
  unfolding program_here
  quota_by names front back =
      let firsts : List Program = filter_map (program_in names) front in
      let lasts : List Program = filter_map (program_in names) back in
      let old : List Program = filter_map (program_in names) (front ++ ProgramRecord id quota list ∷ back) in
      let changed : filter_map (program_in names) (front ++ ProgramRecord id other list ∷ back) ≡ set old (length firsts) (program_here names other) =
      programs_of names other front back ∙ sym (set_middle firsts lasts (program_here names quota) (program_here names other))
      ∙ ap (λ (ps : List Program). set ps (length firsts) (program_here names other)) (sym (programs_of names quota front back)) in
      let same : program_here names other ≡ record (program_of (market_by names (front ++ ProgramRecord id quota list ∷ back)) (length firsts)) { quota = other } =
      ap (λ (p : Program). record p { quota = other }) (sym (quota_here names front back)) in
      λ i. record {
        programs = (changed ∙ ap (λ (p : Program). set old (length firsts) p) same) i;
        lists = sym (swap_flat_map front back (ProgramRecord id quota list) (ProgramRecord id other list) (lists_in names) refl) i;
        couples = sym (swap_filter_map front back (ProgramRecord id quota list) (ProgramRecord id other list) (couple_in names) refl) i;
      }

  quota_in : (front back : List Record) → QuotaChanged (of_staying (front ++ ProgramRecord id quota list ∷ back)) (of_staying (front ++ ProgramRecord id other list ∷ back)) quota other
  unfolding program_here
  quota_in front back =
      let names : names_of (front ++ ProgramRecord id quota list ∷ back) ≡ names_of (front ++ ProgramRecord id other list ∷ back) =
      same_names front back (ProgramRecord id quota list) (ProgramRecord id other list) (programs_are_alike front back) in
      record {
        number = length (filter_map (program_in (names_of (front ++ ProgramRecord id quota list ∷ back))) front);
        quota_is = ap (λ (p : Program). p.quota) (quota_here (names_of (front ++ ProgramRecord id quota list ∷ back)) front back);
        market_is =
            ap (λ (ns : Names). market_by ns (front ++ ProgramRecord id other list ∷ back)) (sym names)
            ∙ quota_by (names_of (front ++ ProgramRecord id quota list ∷ back)) front back;
      }

  pub quota_changed : (before after : List Record) (r s : Registered) → registered (before ++ ProgramRecord id quota list ∷ after) ≡ r → registered (before ++ ProgramRecord id other list ∷ after) ≡ s
      → (s.names ≡ r.names) × ((s.market ≡ r.market) ⊎ QuotaChanged r s quota other)
  quota_changed before after r s is_r is_s =
      elim (stay_or_not before after (ProgramRecord id quota list) (ProgramRecord id other list) (programs_are_alike before after)) [
        | inl gone ↦
            let same : s ≡ r = sym is_s ∙ ap of_staying (sym gone) ∙ is_r in
            (ap (λ (q : Registered). q.names) same, inl (ap (λ (q : Registered). q.market) same))
        | inr both ↦
            let first : of_staying (both.front ++ ProgramRecord id quota list ∷ both.back) ≡ r = ap of_staying (sym both.first) ∙ is_r in
            let second : of_staying (both.front ++ ProgramRecord id other list ∷ both.back) ≡ s = ap of_staying (sym both.second) ∙ is_s in
            let names : s.names ≡ r.names =
            ap (λ (q : Registered). q.names) (sym second)
            ∙ sym (same_names both.front both.back (ProgramRecord id quota list) (ProgramRecord id other list) (programs_are_alike both.front both.back))
            ∙ ap (λ (q : Registered). q.names) first in (
              names,
              inr (subst (λ (q : Registered). QuotaChanged q s quota other) first
                  (subst (λ (q : Registered). QuotaChanged (of_staying (both.front ++ ProgramRecord id quota list ∷ both.back)) q quota other) second (quota_in both.front both.back))),
            )
      ]
