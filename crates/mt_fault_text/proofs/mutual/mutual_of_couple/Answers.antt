use Rattle.std.proofs.Common.{◌≡◌, ◌∙◌, ℕ, Bool, List, true, false, ap, sym, subst, arith}
use Rattle.mt_terms.specs.Lists.{has}
use Rattle.mt_terms.specs.Market.{Pair, couple_of}
use Rattle.mt_fault_text.specs.Mutual.{listed_by, sent_by}
use Rattle.mt_fault_text.specs.Wanted.{AreWanted}
use Rattle.mt_fault_text.proofs.MutualFacts.{listed_by_tables, member_there}
use Rattle.mt_fault_text.proofs.mutual.mutual_of_couple.Goals as goal

pub listed_by-requires-clause-member : goal.listed_by-requires-clause-member
listed_by-requires-clause-member c =
    member_there c.args.roster.now.market c.args.ranks.now _ c.requires.ranks
    (omega (arith, c.members-first.ensures.first, (c.is_of_a_file.ensures.well_formed.first_member c.args.couple c.requires.couple).within))

pub listed_by-requires-2-clause-member : goal.listed_by-requires-2-clause-member
listed_by-requires-2-clause-member c =
    member_there c.args.roster.now.market c.args.ranks.now _ c.requires.ranks
    (omega (arith, c.members-first.ensures.second, (c.is_of_a_file.ensures.well_formed.second_member c.args.couple c.requires.couple).within))

-- flags that were made of a couple's list, and are read as a slice
are_wanted : (programs of_programs : ℕ) (is_first : Bool) (list pairs : List Pair) (made flags : List Bool) → programs ≡ of_programs → list ≡ pairs → flags ≡ made
    → AreWanted programs (has (sent_by is_first list)) made → AreWanted of_programs (has (sent_by is_first pairs)) flags
are_wanted programs of_programs is_first list pairs made flags count same read wanted =
    let here : AreWanted programs (has (sent_by is_first list)) flags = subst (AreWanted programs (has (sent_by is_first list))) (sym read) wanted in
    let by_list : AreWanted programs (has (sent_by is_first pairs)) flags = subst (λ (xs : List Pair). AreWanted programs (has (sent_by is_first xs)) flags) same here in
    subst (λ (n : ℕ). AreWanted n (has (sent_by is_first pairs)) flags) count by_list

pub returns-clause-count : goal.returns-clause-count
returns-clause-count c =
    let m = c.args.roster.now.market in
    let r = c.args.ranks.now in
    let first = are_wanted _ _ true _ _ _ c.deref.result.now c.programs-programs.ensures.count c.couple_list-pairs.ensures c.deref.ensures.value c.in_ok-of_first.ensures in
    let second = are_wanted _ _ false _ _ _ c.deref-2.result.now c.programs-programs.ensures.count c.couple_list-pairs.ensures c.deref-2.ensures.value c.in_ok-of_second.ensures in
    let one = c.listed_by.ensures.count ∙ listed_by_tables m r c.deref.result.now true c.args.couple _ c.requires.ranks first in
    let other = c.listed_by-2.ensures.count ∙ listed_by_tables m r c.deref-2.result.now false c.args.couple _ c.requires.ranks second in
    omega (
      arith,
      one ∙ ap (listed_by m (has (sent_by true (couple_of m c.args.couple).pairs))) c.members-first.ensures.first,
      other ∙ ap (listed_by m (has (sent_by false (couple_of m c.args.couple).pairs))) c.members-first.ensures.second,
    )
