-- A published text is read back: it is short enough, its records are the rows that it was made of, and these say the
-- places, the counts and the couples that are set aside.
use Rattle.std.proofs.Common.{◌≡◌, ℕ, ◌+◌, ◌≤◌, List, [], length, Some, Ok, false, true, ap, refl, ◌∙◌, arith, nat_lt, ◌||◌}
use Rattle.std.specs.Prelude.{bytes_eq, codes, slice_index_or}
use Rattle.std.proofs.lemmas.Bool.{le-ltb}
use Rattle.std.proofs.lemmas.List.{length-map}
use Rattle.mt_lists.specs.Records.{records_of}
use Rattle.mt_lists.specs.Records as lists
use Rattle.mt_terms.specs.Market.{Market, Names, Registered, applicants, couple_of}
use Rattle.mt_terms.specs.Matching.{Places}
use Rattle.mt_terms.specs.Places.{ArePlaces}
use Rattle.mt_terms.specs.Registration.Accepted.{IsRegistration}
use Rattle.mt_terms.specs.Registration.Ids.{Bytes}
use Rattle.mt_order_laws.specs.Reordered.{IsOrderOfSome}
use Rattle.mt_order_laws.proofs.RegistrationFacts.{registration_in_any_order_lem}
use Rattle.mt_input.specs.Files.{most_bytes}
use Rattle.mt_files.specs.Files.{submitted_in}
use Rattle.mt_text_laws.specs.Counts.{counts_aside}
use Rattle.mt_text_laws.specs.Laws.{PublishedAsideIsRead, PublishedIsRead}
use Rattle.mt_text_laws.proofs.Bounds.{is_tellable, text_short}
use Rattle.mt_text_laws.proofs.LineTexts.{is_plain, rows_of_text, text_of}
use Rattle.mt_text_laws.proofs.PublishedRows.{AreTellable, IsTellable, none_tellable, published_is_text, rows_plain, rows_with, text_is_rows, text_with}
use Rattle.mt_text_laws.proofs.ReadBackFacts.{read_back}

-- the version of a text: a byte of an id, which the judge knows
record IsVersion (version : Bytes) : Type 0 where
  one : length version ≡ 1
  plain : is_plain version ≡ true
  known : (bytes_eq version (codes "1") || bytes_eq version (codes "2")) ≡ true

records_back : (version : Bytes) (m : Market) (names : Names) (places : Places) (received aside : List ℕ) → IsVersion version → IsTellable m names places received → AreTellable names aside
    → records_of (text_with version m names places received aside) ≡ Some (rows_with version m names places received aside)
unfolding lists.records_of
records_back version m names places received aside is t are =
    ap Some (ap lists.rows_of (text_is_rows version m names places received aside)
    ∙ rows_of_text (rows_with version m names places received aside) (rows_plain m names places received t version aside is.plain are))

module _ (r : Registered) (registration : IsRegistration r) (places : Places) (in_market : ArePlaces r.market places) (received : List ℕ)
    (few_received : (p : ℕ) → slice_index_or received p 0 ≤ applicants r.market) where
  tellable : IsTellable r.market r.names places received
  tellable = is_tellable r registration received few_received places in_market

  couples_tellable : (aside : List ℕ) → IsOrderOfSome r.market aside → AreTellable r.names aside
  couples_tellable aside some = record {
    distinct = some.distinct;
    within = λ c is. let low = some.within c is in omega (arith, low, registration.couple_names.one_each);
    couple_ids = registration.couple_names.are_ids;
    couples_differ = registration.couple_names.differ;
  }

  -- there are no more of them than a market may have
  few : (aside : List ℕ) → IsOrderOfSome r.market aside → length aside ≤ 10000
  few aside some =
      let others = registration_in_any_order_lem r aside registration some in
      omega (arith, others.few_couples, length-map aside (couple_of r.market))

  read_with : (version : Bytes) (aside : List ℕ) → IsVersion version → AreTellable r.names aside → length aside ≤ 10000
      → submitted_in r (text_with version r.market r.names places received aside)
      ≡ Ok (record { places = places; counts = counts_aside r.market places (length aside); aside = aside })
  read_with version aside is are some =
      rw (short, records_back version r.market r.names places received aside is tellable are)
      (read_back r.market r.names places received tellable registration.applicant_names.differ registration.program_names.differ version aside is.known are)
    where
      short : nat_lt most_bytes (length (text_with version r.market r.names places received aside)) ≡ false
      short =
          let same : length (text_with version r.market r.names places received aside) ≡ length (text_of (rows_with version r.market r.names places received aside)) =
          ap length (text_is_rows version r.market r.names places received aside) in
          let most = text_short r.market r.names places received tellable version aside is.one are in
          let few_applicants = registration.few_applicants in
          let few_programs = registration.few_programs in
          le-ltb most_bytes (length (text_with version r.market r.names places received aside)) (omega arith)

pub published_is_read_lem : PublishedIsRead
published_is_read_lem r registration places in_market received few_received =
    let none = none_tellable r.names registration.couple_names.are_ids registration.couple_names.differ in
    let first : IsVersion (codes "1") = record { one = refl; plain = refl; known = refl } in
    let zero_more : 2 + applicants r.market + length r.market.programs + 0 ≡ 2 + applicants r.market + length r.market.programs = omega arith in
    ap (submitted_in r) (published_is_text r.market r.names places received)
    ∙ rw zero_more at (read_with r registration places in_market received few_received (codes "1") [] first none (omega arith))

pub published_aside_is_read_lem : PublishedAsideIsRead
published_aside_is_read_lem r registration places in_market received few_received aside some =
    let second : IsVersion (codes "2") = record { one = refl; plain = refl; known = refl } in
    read_with r registration places in_market received few_received (codes "2") aside second
    (couples_tellable r registration places in_market received few_received aside some) (few r registration places in_market received few_received aside some)
