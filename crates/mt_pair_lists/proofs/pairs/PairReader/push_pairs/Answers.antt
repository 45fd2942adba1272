use Rattle.std.proofs.Common.{◌≡◌, Bool, ◌&&◌, not, List, [], ◌++◌, map, ap, sym, ◌∙◌, arith}
use Rattle.std.specs.List.{list_all}
use Rattle.std.specs.Option.{option_copied}
use Rattle.std.proofs.lemmas.List.{append-nil}
use Rattle.mt_terms.specs.Market.{Pair}
use Rattle.mt_terms.specs.Registration.Ids.{all_differ}
use Rattle.mt_draft_laws.specs.Faultless.{pair_stands}
use Rattle.mt_terms.specs.Registration.Numbering.{pair_by_number}
use Rattle.mt_terms.specs.Registration.Records.{IdPair}
use Rattle.mt_records.specs.Fields.{pairs_left}
use Rattle.mt_id_lists.specs.Reading.{with_kept}
use Rattle.mt_pair_lists.specs.Pairs.{pairs_by}
use Rattle.mt_pair_lists.proofs.PairSteps.{found_pair, is_same_numbers, no_pairs-more, numbers-more, pairs_by-more, pairs_are_read}
use Rattle.mt_pair_lists.proofs.pairs.PairReader.push_pairs.Goals as goal

pub push_pair-requires-clause-first : goal.push_pair-requires-clause-first
push_pair-requires-clause-first c =
    (found_pair c.args.self.now.half_pairs c.args.self.now.programs.now.ids (option_copied c.in-Some.first, option_copied c.in-Some.second)
    (c.in-Some-numbered_pair.first, c.in-Some-numbered_pair.second) c.in-Some-numbered_pair.ensures).first

pub push_pair-requires-clause-second : goal.push_pair-requires-clause-second
push_pair-requires-clause-second c =
    (found_pair c.args.self.now.half_pairs c.args.self.now.programs.now.ids (option_copied c.in-Some.first, option_copied c.in-Some.second)
    (c.in-Some-numbered_pair.first, c.in-Some-numbered_pair.second) c.in-Some-numbered_pair.ensures).second

pub loop-first-preserved : goal.loop-first-preserved
loop-first-preserved c =
    let half_pairs = c.args.self.now.half_pairs in
    let n = c.args.self.now.programs.now in
    let p : IdPair = (option_copied c.in-Some.first, option_copied c.in-Some.second) in
    let q : Pair = (c.in-Some-numbered_pair.first, c.in-Some-numbered_pair.second) in
    let found = found_pair half_pairs n.ids p q c.in-Some-numbered_pair.ensures in
    let left = pairs_left c.loop-first.first-iterator in
    let rest = pairs_left c.next.new.self in
    record {
      count = c.in_ok-push_pair.ensures.len ∙ c.loop-first.invariant.count;
      stand = ap (λ (b : Bool). b && list_all (pair_stands half_pairs n.ids) rest) (sym found.stands)
          ∙ sym (ap (list_all (pair_stands half_pairs n.ids)) c.in-Some.ensures.steps) ∙ c.loop-first.invariant.stand;
      rest = pairs_by-more n c.args.kept left p rest q c.loop-first.lists _ c.in-Some.ensures.steps found.is c.in_ok-push_pair.ensures.lists ∙ c.loop-first.invariant.rest;
      numbered = numbers-more n.ids left p rest c.in-Some.ensures.steps q found.is c.loop-first.found.items c.push.new.self.items c.in_ok-push.ensures.items ∙ c.loop-first.invariant.numbered;
    }

pub returns : goal.returns
returns c =
    let n = c.args.self.now.programs.now in
    let stands = list_all (pair_stands c.args.self.now.half_pairs n.ids) in
    let found = c.loop-first.found.items in
    let none : pairs_left c.loop-first.first-iterator ≡ [] = c.in-None.ensures.steps.0 in
    pairs_are_read n c.args.self.now.half_pairs c.args.kept (pairs_left c.args.list) c.args.lists.now c.loop-first.lists found c.has_duplicate.result
    (sym c.loop-first.invariant.stand ∙ ap stands none)
    (sym (ap (λ (l : List IdPair). with_kept c.args.kept c.loop-first.lists (pairs_by n l)) none ∙ no_pairs-more c.args.kept c.loop-first.lists) ∙ c.loop-first.invariant.rest)
    (sym (append-nil found) ∙ sym (ap (λ (l : List IdPair). found ++ map (pair_by_number n.ids) l) none) ∙ c.loop-first.invariant.numbered)
    (c.has_duplicate.ensures ∙ ap (λ (l : List Pair). not (all_differ is_same_numbers l)) c.deref_mut.ensures.value)

pub returns-in_default : goal.returns-in_default
returns-in_default c = grind arith
