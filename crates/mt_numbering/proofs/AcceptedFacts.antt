-- The market of drafts, and that of the rows that they are of.
use Rattle.std.proofs.Common.{◌≡◌, true, List, Option, Some, None, refl, ap, sym, subst, ◌∙◌, if◌then◌else◌}
use Rattle.std.specs.Prelude.{option_and_then, MatchOption}
use Rattle.mt_terms.specs.Market.{Registered as Market}
use Rattle.mt_terms.specs.Registration.Ids.{Bytes}
use Rattle.mt_terms.specs.Registration.Records.{Rules, Record}
use Rattle.mt_terms.specs.Registration.Numbering.{registered}
use Rattle.mt_terms.specs.Registration.Accepted.{IsRegistration}
use Rattle.mt_draft_laws.specs.Faultless.{is_faultless, faultless_market}
use Rattle.mt_drafts.specs.declared.drafts.Drafts.{Drafts}
use Rattle.mt_drafts.specs.Drafts.{drafted, with_fields, AreDraftsOf, HaveFault}
use Rattle.mt_numbering.specs.Markets.{AcceptsRegistrations, GivesMarket}

-- the drafts that were found
pub drafts_found : (rules : Rules) (rows : List (List Bytes)) (o : Option Drafts) (d : Drafts) → MatchOption o (HaveFault rules rows) (AreDraftsOf rules rows) → o ≡ Some d → AreDraftsOf rules rows d
drafts_found rules rows o d h is = subst (λ (x : Option Drafts). MatchOption x (HaveFault rules rows) (AreDraftsOf rules rows)) is h

pub drafts_missing : (rules : Rules) (rows : List (List Bytes)) (o : Option Drafts) → MatchOption o (HaveFault rules rows) (AreDraftsOf rules rows) → o ≡ None → None ≡ faultless_market rules (with_fields rows)
drafts_missing rules rows o h is = let fault : HaveFault rules rows = subst (λ (x : Option Drafts). MatchOption x (HaveFault rules rows) (AreDraftsOf rules rows)) is h in sym fault

-- Below, drafts are those of rows.
module _ (rules : Rules) (rows : List (List Bytes)) (d : Drafts) (are : AreDraftsOf rules rows d) where
  market_is : faultless_market rules (with_fields rows) ≡ (if is_faultless rules (drafted d) then Some (registered (drafted d)) else None)
  market_is = ap (option_and_then (λ (rs : List Record). if is_faultless rules rs then Some (registered rs) else None)) are.records

  pub market_found : (o : Option Market) → GivesMarket rules (drafted d) o → o ≡ faultless_market rules (with_fields rows)
  market_found None h =
      let none : (if is_faultless rules (drafted d) then Some (registered (drafted d)) else None) ≡ None = rw h refl in
      sym (market_is ∙ none)
  market_found (Some m) h =
      let some : (if is_faultless rules (drafted d) then Some (registered (drafted d)) else None) ≡ Some (registered (drafted d)) = rw h.0 refl in
      ap Some h.1 ∙ sym (market_is ∙ some)

  pub accepts_drafts : AcceptsRegistrations rules (with_fields rows) → is_faultless rules (drafted d) ≡ true → IsRegistration (registered (drafted d))
  accepts_drafts accepts h =
      let some : (if is_faultless rules (drafted d) then Some (registered (drafted d)) else None) ≡ Some (registered (drafted d)) = rw h refl in
      accepts (registered (drafted d)) (market_is ∙ some)
