-- Couples' lists of pairs by the numbers of programs.
use Rattle.std.specs.Prelude.{◌≡◌, ℕ, ◌&&◌, Bool, true, false, List, [], ◌∷◌, filter_map, Option, Some, None, option_map, if◌then◌else◌}
use Rattle.std.specs.List.{list_all}
use Rattle.mt_draft_laws.specs.Faultless.{pair_stands}
use Rattle.mt_draft_laws.specs.Staying.{new_pair}
use Rattle.mt_terms.specs.Market.{Pair}
use Rattle.mt_terms.specs.Registration.Ids.{Bytes, all_differ, number_of}
use Rattle.mt_terms.specs.Registration.Records.{IdPair}
use Rattle.mt_terms.specs.Registration.Passes.{is_same_pair}
use Rattle.mt_terms.specs.Registration.Numbering.{is_none_or_in, pair_by_number}
use Rattle.mt_records.specs.Fields.{pairs_left}
use Rattle.mt_records.specs.declared.fields.Pairs.{Pairs}
use Rattle.mt_id_lists.specs.Numbering.{Numbering}
use Rattle.mt_id_lists.specs.Reading.{with_kept}

-- where a pair sends a member, by number, if it names none but these programs
abbrev pub place_in : List Bytes → Option Bytes → Option (Option ℕ)
place_in programs place = if is_none_or_in programs place then Some (option_map (number_of programs) place) else None

-- a pair by numbers, if it is allowed and names none but these programs
abbrev pub pair_in : Bool → List Bytes → IdPair → Option Pair
pair_in half_pairs programs pair = if pair_stands half_pairs programs pair then Some (pair_by_number programs pair) else None

-- the pairs of a list by new numbers, of those whose programs have one
abbrev pub pairs_by : Numbering ℕ → List IdPair → List Pair
pairs_by n list = filter_map (λ p. new_pair n.numbers (pair_by_number n.ids p)) list

-- a couple's list as a list of pairs, and whether it is kept
abbrev pub pair_list_seen : Pairs × Bool → Bool × List IdPair
pair_list_seen list = (list.1, pairs_left list.0)

-- whether a list of pairs has none but those that are allowed and name none but these programs, and none of them twice
abbrev pub pairs_once : Bool → List Bytes → List IdPair → Bool
pairs_once half_pairs ids pairs = list_all (pair_stands half_pairs ids) pairs && all_differ is_same_pair pairs

abbrev pub pairs_stand_in : Bool → Numbering ℕ → Bool × List IdPair → Bool
pairs_stand_in half_pairs n list = pairs_once half_pairs n.ids list.1

-- a list that is kept by the new numbers of its pairs
abbrev pub pairs_read : Numbering ℕ → Bool × List IdPair → List (List Pair)
pairs_read n list = if list.0 then pairs_by n list.1 ∷ [] else []

-- The new numbers of a list's pairs were added, which stand, if it is kept; or they don't stand.
abbrev pub ReadsPairs : Bool → Numbering ℕ → Bool → List IdPair → List (List Pair) → List (List Pair) → Bool → Type 0
ReadsPairs half_pairs n kept list old new true = (pairs_once half_pairs n.ids list ≡ true) × (new ≡ with_kept kept old (pairs_by n list))
ReadsPairs half_pairs n kept list old new false = pairs_once half_pairs n.ids list ≡ false
