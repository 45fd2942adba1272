-- Whether records are too many with one record more, by counts.
use Rattle.std.proofs.Common.{◌≡◌, ℕ, ◌+◌, Bool, true, false, ◌||◌, nat_lt, List, [], ◌∷◌, ◌++◌, length, length-append, refl, ap, sym, ◌∙◌, arith}
use Rattle.std.specs.Prelude.{option_to_list}
use Rattle.mt_record_laws.proofs.GrowthFacts.{applicant_ids-more, ids_of-more, entry_count-more}
use Rattle.mt_terms.specs.declared.limits.Limits.{Limits}
use Rattle.mt_terms.specs.Registration.Records.{Record, OfProgram, OfCouple}
use Rattle.mt_terms.specs.Registration.Rows.{own_id, ids_of, applicants_of, applicant_ids, entries_of, entry_count}
use Rattle.mt_terms.specs.Registration.Passes.{are_too_many}

module _ (before : List Record) (r : Record) (limits : Limits) (applicants programs couples entries : ℕ)
    (applicants_are : applicants ≡ length (applicant_ids before) + length (applicants_of r))
    (programs_are : programs ≡ length (ids_of OfProgram before) + length (option_to_list (own_id OfProgram r)))
    (couples_are : couples ≡ length (ids_of OfCouple before) + length (option_to_list (own_id OfCouple r)))
    (entries_are : entries ≡ entry_count before + entries_of r) where
  abbrev over : Bool
  over = nat_lt limits.applicants applicants || nat_lt limits.programs programs || nat_lt limits.couples couples

  by_counts : (over || nat_lt limits.entries entries) ≡ are_too_many limits (before ++ r ∷ [])
  by_counts =
      let a : applicants ≡ length (applicant_ids (before ++ r ∷ [])) = omega (arith, applicants_are, ap length (applicant_ids-more before r), length-append (applicant_ids before) (applicants_of r)) in
      let p : programs ≡ length (ids_of OfProgram (before ++ r ∷ [])) = omega (arith, programs_are, ap length (ids_of-more before r OfProgram), length-append (ids_of OfProgram before) (option_to_list (own_id OfProgram r))) in
      let c : couples ≡ length (ids_of OfCouple (before ++ r ∷ [])) = omega (arith, couples_are, ap length (ids_of-more before r OfCouple), length-append (ids_of OfCouple before) (option_to_list (own_id OfCouple r))) in
      let e : entries ≡ entry_count (before ++ r ∷ []) = entries_are ∙ sym (entry_count-more before r) in
      rw (a, p, c, e) refl

  pub too_many_rows : (said : Bool) → said ≡ over → said ≡ true → said ≡ are_too_many limits (before ++ r ∷ [])
  too_many_rows said is h = by over is ∙ by_counts
    where
      by : (o : Bool) → said ≡ o → said ≡ (o || nat_lt limits.entries entries)
      by true e = e
      by false e = cc

  pub too_many_entries : (said : Bool) → said ≡ over → said ≡ false → nat_lt limits.entries entries ≡ are_too_many limits (before ++ r ∷ [])
  too_many_entries said is h = by over is ∙ by_counts
    where
      by : (o : Bool) → said ≡ o → nat_lt limits.entries entries ≡ (o || nat_lt limits.entries entries)
      by true e = cc
      by false e = refl
