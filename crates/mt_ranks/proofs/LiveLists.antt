-- What is looked up for each applicant is its live list.
use Rattle.std.proofs.Common.{◌≡◌, ◌==◌, ℕ, List, [], ◌∷◌, true, false, Option, Some, None, map, filter, length, get_or, unwrap_or, refl, sym, ap, ◌∙◌, inl, inr, arith}
use Rattle.std.specs.Option.{is_some}
use Rattle.std.specs.List.{position}
use Rattle.std.proofs.lemmas.Bool.{cases_lt}
use Rattle.std.proofs.lemmas.List.{get_or-map, get_or_past, length-map}
use Rattle.mt_terms.specs.Lists.{has}
use Rattle.mt_terms.specs.Market.{Market, Program, program_of, list_of, live}
use Rattle.mt_terms.specs.WellFormed.{IsWellFormed}
use Rattle.mt_ranks.specs.Entries.{own_entries, rankings_of, rank_among, entries_among}
use Rattle.mt_ranks.specs.Ranked.{ranked_entry, rank_of}
use Rattle.mt_ranks.specs.View.{programs_in}
use Rattle.mt_ranks.proofs.ListedFacts.{AreDistinct}
use Rattle.mt_ranks.proofs.Positions.{has-position, rank_among-entries}

pub ranking_at : (m : Market) (p : ℕ) → get_or (rankings_of m) p [] ≡ (program_of m p).ranking
ranking_at m p =
    elim (cases_lt p (length m.programs)) as (λ o. get_or (rankings_of m) p [] ≡ (program_of m p).ranking) [
      | inl within ↦ get_or-map Program.ranking m.programs p (record { quota = 0; ranking = [] }) [] within
      | inr past ↦
          let none : program_of m p ≡ record { quota = 0; ranking = [] } = get_or_past m.programs p (record { quota = 0; ranking = [] }) past in
          get_or_past (rankings_of m) p [] (omega (arith, length-map m.programs Program.ranking)) ∙ ap (λ (q : Program). q.ranking) (sym none)
    ]

pub rankings_distinct : (m : Market) → IsWellFormed m → AreDistinct (rankings_of m)
rankings_distinct m w p = rw (ranking_at m p) (w.rankings_distinct p)

pub rank_among-own : (m : Market) (a p : ℕ) → rank_among (own_entries m a) p ≡ rank_of m p a
rank_among-own m a p = rank_among-entries (rankings_of m) a p ∙ ap (position (λ x. x == a)) (ranking_at m p)

-- one program more, if the rest is known
found_more : (m : Market) (a p : ℕ) (ps : List ℕ) (o : Option ℕ) → rank_of m p a ≡ o
    → entries_among (own_entries m a) ps ≡ map (ranked_entry m a) (filter (λ q. has (program_of m q).ranking a) ps)
    → entries_among (own_entries m a) (p ∷ ps) ≡ map (ranked_entry m a) (filter (λ q. has (program_of m q).ranking a) (p ∷ ps))
found_more m a p ps None e rest =
    let absent : has (program_of m p).ranking a ≡ false = has-position (program_of m p).ranking a ∙ ap is_some e in
    let none : rank_among (own_entries m a) p ≡ None = rank_among-own m a p ∙ e in
    rw (absent, none) rest
found_more m a p ps (Some r) e rest =
    let listed : has (program_of m p).ranking a ≡ true = has-position (program_of m p).ranking a ∙ ap is_some e in
    let some : rank_among (own_entries m a) p ≡ Some r = rank_among-own m a p ∙ e in
    let entry : ranked_entry m a p ≡ record { program = p; rank = r } = ap (λ (o : Option ℕ). record { program = p; rank = unwrap_or o 0 }) e in
    rw (listed, some) (ap (λ xs. record { program = p; rank = r } ∷ xs) rest ∙ ap (λ x. x ∷ map (ranked_entry m a) (filter (λ q. has (program_of m q).ranking a) ps)) (sym entry))

found_live : (m : Market) (a : ℕ) (ps : List ℕ) → entries_among (own_entries m a) ps ≡ map (ranked_entry m a) (filter (λ p. has (program_of m p).ranking a) ps)
found_live m a [] = refl
found_live m a (p ∷ ps) = found_more m a p ps (rank_of m p a) refl (found_live m a ps)

-- the entries among those of an applicant that its list names are its live list with ranks
pub entries_among-list : (m : Market) (a : ℕ) → entries_among (own_entries m a) (list_of m a) ≡ map (ranked_entry m a) (live m a)
entries_among-list m a = found_live m a (list_of m a)

pub programs_in-ranked : (m : Market) (a : ℕ) (ps : List ℕ) → programs_in (map (ranked_entry m a) ps) ≡ ps
programs_in-ranked m a [] = refl
programs_in-ranked m a (p ∷ ps) = ap (λ rest. p ∷ rest) (programs_in-ranked m a ps)
