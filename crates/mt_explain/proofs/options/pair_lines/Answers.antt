use Rattle.std.proofs.Common.{◌≡◌, ◌≢◌, ℕ, List, length, get_or, ap, sym, ◌∙◌, subst, arith}
use Rattle.mt_terms.specs.Market.{Market, Pair, Registered, couple_of}
use Rattle.mt_terms.specs.Matching.{Places}
use Rattle.mt_terms.specs.Registration.Accepted.{IsRegistration}
use Rattle.mt_verify.proofs.BlockingFacts.{element_read}
use Rattle.mt_explain.proofs.OptionFacts.{listed_pair, pair_lines_are}
use Rattle.mt_explain.proofs.options.pair_lines.Goals as goal

-- the list of the couple in the market that the tables are of
list_is : (r s : Registered) (couple : ℕ) (list : List Pair) → list ≡ (couple_of r.market couple).pairs → r ≡ s → list ≡ (couple_of s.market couple).pairs
list_is r s couple list read same = read ∙ ap (λ (x : Registered). (couple_of x.market couple).pairs) same

pub member_line-one-requires-clause-place : goal.member_line-one-requires-clause-place
member_line-one-requires-clause-place c =
    let r = c.args.tables.now.registered in
    let registration = subst IsRegistration c.roster-roster.ensures c.is_of_a_file.ensures in
    let list = list_is c.roster-roster.result.now r c.args.couple c.couple_list.result.now c.couple_list.ensures c.roster-roster.ensures in
    (listed_pair r registration c.args.couple c.args.option c.index-couple_list-option.result c.couple_list.result.now list c.index-couple_list-option.is c.requires.option).0

pub member_line-other-requires-clause-place : goal.member_line-other-requires-clause-place
member_line-other-requires-clause-place c =
    let r = c.args.tables.now.registered in
    let registration = subst IsRegistration c.roster-roster.ensures c.is_of_a_file.ensures in
    let list = list_is c.roster-roster.result.now r c.args.couple c.couple_list.result.now c.couple_list.ensures c.roster-roster.ensures in
    (listed_pair r registration c.args.couple c.args.option c.index-couple_list-option.result c.couple_list.result.now list c.index-couple_list-option.is c.requires.option).1

pub returns : goal.returns
returns c =
    let m : Market = c.args.tables.now.registered.market in
    let places : Places = c.args.tables.now.places in
    let k = c.args.option in
    let registration : IsRegistration c.args.tables.now.registered = subst IsRegistration c.roster-roster.ensures c.is_of_a_file.ensures in
    let list : c.couple_list.result.now ≡ (couple_of m c.args.couple).pairs =
    list_is c.roster-roster.result.now c.args.tables.now.registered c.args.couple c.couple_list.result.now c.couple_list.ensures c.roster-roster.ensures in
    let pair : Pair = c.index-couple_list-option.result in
    let first = c.members.result.0 in
    let second = c.members.result.1 in
    let first_is : first ≡ (couple_of m c.args.couple).first = c.members.ensures.first ∙ ap (λ (r : Registered). (couple_of r.market c.args.couple).first) c.roster-roster.ensures in
    let second_is : second ≡ (couple_of m c.args.couple).second = c.members.ensures.second ∙ ap (λ (r : Registered). (couple_of r.market c.args.couple).second) c.roster-roster.ensures in
    let apart : first ≢ second = λ same. registration.well_formed.two_members c.args.couple c.requires.couple (sym first_is ∙ same ∙ second_is) in
    let read : pair ≡ get_or (couple_of m c.args.couple).pairs k pair =
    element_read c.couple_list.result.now (couple_of m c.args.couple).pairs k pair pair c.index-couple_list-option.is list
    (omega (arith, c.requires.option, ap length list)) in
    pair_lines_are m places c.args.couple k pair first second c.member_line-one.result c.member_line-other.result first_is second_is apart
    c.requires.option read c.member_line-one.ensures c.member_line-other.ensures
