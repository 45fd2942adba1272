-- The pieces of the lines of findings.
use Rattle.std.proofs.Common.{◌≡◌, ℕ, ◌<◌, List, [], ◌∷◌, ◌++◌, length, get_or, ap, sym, ◌∙◌, append_assoc}
use Rattle.std.specs.Prelude.{codes}
use Rattle.std.proofs.lemmas.List.{get_or_default}
use Rattle.mt_terms.specs.Market.{Registered, list_of}
use Rattle.mt_terms.specs.Matching.{options, single_placement}
use Rattle.mt_terms.specs.Registration.Ids.{Bytes}
use Rattle.mt_terms.specs.Text.{name_of}
use Rattle.mt_terms.specs.declared.numbers.Agent.TheVariants.{Single}
use Rattle.mt_terms.specs.declared.verdict.Verdict.TheVariants.{Blocks}
use Rattle.mt_explain.proofs.OptionFacts.{single_option}
use Rattle.mt_first_finding.specs.Text.{check_line, finding_line, option_fields}
use Rattle.mt_first_finding.specs.declared.finding.Finding.TheVariants.{Of}

pub one_piece : (text front field : List ℕ) → (((text ++ front) ++ codes ",") ++ field) ++ codes "\n" ≡ text ++ (front ++ (codes "," ++ (field ++ codes "\n")))
one_piece text front field = simp append_assoc

pub single_pieces : (text id place : List ℕ)
    → (((((text ++ codes "check,1,blocks,applicant") ++ codes ",") ++ id) ++ codes ",") ++ place) ++ codes "\n"
    ≡ text ++ check_line (codes "blocks" ∷ codes "applicant" ∷ id ∷ place ∷ [])
single_pieces text id place = simp append_assoc

pub couple_pieces : (text id first second : List ℕ)
    → (((((((text ++ codes "check,1,blocks,couple") ++ codes ",") ++ id) ++ codes ",") ++ first) ++ codes ",") ++ second) ++ codes "\n"
    ≡ text ++ check_line (codes "blocks" ∷ codes "couple" ∷ id ∷ first ∷ second ∷ [])
couple_pieces text id first second = simp append_assoc

-- the line of a single that blocks
pub single_line : (r : Registered) (a k p : ℕ) (list : List ℕ) → k < length (options r.market (Single a)) → list ≡ list_of r.market a → p ≡ get_or list k p
    → check_line (codes "blocks" ∷ codes "applicant" ∷ name_of r.names.applicants a ∷ name_of r.names.programs p ∷ [])
    ≡ finding_line r 0 (Of (Blocks (record { agent = Single a; option = k })))
single_line r a k p list within same read =
    let at_k = single_option r.market a k within in
    let is : p ≡ get_or (list_of r.market a) k 0 =
    read ∙ ap (λ (xs : List ℕ). get_or xs k p) same ∙ get_or_default (list_of r.market a) k p 0 at_k.0 in
    let sent : get_or (options r.market (Single a)) k [] ≡ single_placement a p = at_k.1 ∙ ap (single_placement a) (sym is) in
    ap (λ (fields : List Bytes). check_line (codes "blocks" ∷ codes "applicant" ∷ name_of r.names.applicants a ∷ fields)) (sym (ap (option_fields r.names) sent))
