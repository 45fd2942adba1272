-- A published text is read back, with couples set aside or without.
use Rattle.std.specs.Prelude.{◌≡◌, ℕ, ◌≤◌, List, [], length, Ok, slice_index_or}
use Rattle.mt_terms.specs.Market.{Registered, applicants}
use Rattle.mt_terms.specs.Matching.{Places}
use Rattle.mt_terms.specs.Places.{ArePlaces}
use Rattle.mt_terms.specs.Registration.Accepted.{IsRegistration}
use Rattle.mt_terms.specs.Text.{published}
use Rattle.mt_order_laws.specs.Reordered.{IsOrderOfSome}
use Rattle.mt_report.specs.Aside.{published_aside}
use Rattle.mt_files.specs.Files.{submitted_in}
use Rattle.mt_text_laws.specs.Counts.{counts_aside, published_counts}

-- What is published of a market and a match is read beside that market as the match, with its counts. (This project's
-- own rule.)
abbrev pub PublishedIsRead : Type 0
PublishedIsRead =
    (r : Registered) → IsRegistration r → (places : Places) → ArePlaces r.market places
    → (received : List ℕ) → ((p : ℕ) → slice_index_or received p 0 ≤ applicants r.market)
    → submitted_in r (published r.market r.names places received)
    ≡ Ok (record { places = places; counts = published_counts r.market places; aside = [] })

-- The same of a text with couples set aside. It is read beside the market in which they have their pairs.
abbrev pub PublishedAsideIsRead : Type 0
PublishedAsideIsRead =
    (r : Registered) → IsRegistration r → (places : Places) → ArePlaces r.market places
    → (received : List ℕ) → ((p : ℕ) → slice_index_or received p 0 ≤ applicants r.market)
    → (aside : List ℕ) → IsOrderOfSome r.market aside
    → submitted_in r (published_aside r.market r.names places received aside)
    ≡ Ok (record { places = places; counts = counts_aside r.market places (length aside); aside = aside })
