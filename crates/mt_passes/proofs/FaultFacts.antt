-- The market of rows once the passes over them are made.
use Rattle.std.proofs.Common.{◌≡◌, List, [], refl, ap, sym, ◌∙◌, Option, None, Ok}
use Rattle.mt_terms.specs.Registration.{market_under}
use Rattle.mt_terms.specs.Registration.Ids.{Bytes}
use Rattle.mt_terms.specs.Registration.Faults as faults
use Rattle.mt_terms.specs.Registration.Records as model
use Rattle.mt_terms.specs.Registration.Records.{Rules}
use Rattle.mt_terms.specs.Registration.Numbering.{registered}
use Rattle.mt_terms.specs.Registration.Passes.{Numbered, first_pass, second_pass, contents, unless}

-- with the first pass done, it is that of its records
pub market_after : (rules : Rules) (rest : List (Numbered (List Bytes))) (records : List (Numbered model.Record)) → first_pass rules [] rest ≡ Ok records
    → market_under rules rest ≡ unless (second_pass records) (registered (contents records))
market_after rules rest records h = rw h refl

-- the second pass finds no fault
pub market_by : (rules : Rules) (rest : List (Numbered (List Bytes))) (records : List (Numbered model.Record)) (found : Option faults.Fault) → first_pass rules [] rest ≡ Ok records
    → found ≡ second_pass records → found ≡ None → market_under rules rest ≡ Ok (registered (contents records))
market_by rules rest records found first second none =
    market_after rules rest records first ∙ ap (λ o. unless o (registered (contents records))) (sym second ∙ none)
