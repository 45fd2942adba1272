use Rattle.std.proofs.Common.{◌≡◌, ◌∙◌, ◌++◌, ◌∷◌, [], ℕ, List, ap}
use Rattle.std.specs.Prelude.{codes, decimal}
use Rattle.mt_terms.specs.Text.{line}
use Rattle.mt_fault_text.proofs.LineFacts.{accepted_pieces}
use Rattle.mt_fault_text.proofs.accepted.push_accepted.Goals as goal

-- the line by its numbers
by_numbers : (applicants programs couples entries wanted : ℕ) → List ℕ
by_numbers applicants programs couples entries wanted =
    line (
    codes "check" ∷ codes "1" ∷ codes "accepted" ∷ decimal applicants ∷ decimal programs ∷ decimal couples ∷ decimal entries ∷ decimal wanted ∷ []
    )

by_numbers_same : (a b c d e a' b' c' d' e' : ℕ) → a ≡ a' → b ≡ b' → c ≡ c' → d ≡ d' → e ≡ e' → by_numbers a b c d e ≡ by_numbers a' b' c' d' e'
by_numbers_same a b c d e a' b' c' d' e' p q r s t = cc

pub returns-clause-text : goal.returns-clause-text
unfolding by_numbers
returns-clause-text g c =
    let pushed : c.push-2.new.self
    ≡ (((((((((((c.args.page.now ++ codes "check,1,accepted") ++ codes ",") ++ decimal c.from.result) ++ codes ",") ++ decimal c.from-2.result) ++ codes ",") ++ decimal c.from-3.result) ++ codes ",")
    ++ decimal c.list_entries.result) ++ codes ",") ++ decimal c.in_ok-mutual.mutual) ++ codes "\n" =
    rw (
      c.push-2.ensures.text,
      c.push_number-5.ensures.field,
      c.push_number-4.ensures.field,
      c.push_number-3.ensures.field,
      c.push_number-2.ensures.field,
      c.push_number.ensures.field,
      c.push.ensures.text,
    ) in
    pushed
    ∙ accepted_pieces c.args.page.now (decimal c.from.result) (decimal c.from-2.result) (decimal c.from-3.result) (decimal c.list_entries.result) (decimal c.in_ok-mutual.mutual)
    ∙ ap (λ (page : List ℕ). page ++ by_numbers c.from.result c.from-2.result c.from-3.result c.list_entries.result c.in_ok-mutual.mutual) c.requires
    ∙ by_numbers_same _ _ _ _ _ _ _ _ _ _ (c.from.ensures ∙ c.applicants.ensures.count) (c.from-2.ensures ∙ c.programs.ensures.count) (c.from-3.ensures ∙ c.couples.ensures.count)
    c.list_entries.ensures c.in_ok-mutual.ensures
