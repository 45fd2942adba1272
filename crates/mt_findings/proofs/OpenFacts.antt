-- A better option would be taken exactly if its lines are all open, and a place is allowed by what a match's tables say.
use Rattle.std.proofs.Common.{◌≡◌, ℕ, ◌<◌, Bool, true, false, not, ◌&&◌, nat_lt, nat_le, [], length, get_or, Option, Some, None, is_some, refl, ap, sym, ◌∙◌, arith}
use Rattle.std.specs.Prelude.{◌==◌}
use Rattle.std.specs.List.{list_all}
use Rattle.std.proofs.lemmas.Bool.Decides.{nat_tests}
use Rattle.std.proofs.lemmas.List.Folds.{list_all-append}
use Rattle.mt_terms.specs.Market.{Market, program_of, IsAgentOf}
use Rattle.mt_terms.specs.Matching.{Places, better, holds, options}
use Rattle.mt_terms.specs.Places.{ArePlaces}
use Rattle.mt_terms.specs.Stability.{is_listed, would_be_taken}
use Rattle.mt_terms.specs.WellFormed.{IsWellFormed}
use Rattle.mt_terms.specs.declared.numbers.Agent.{Agent}
use Rattle.mt_terms.proofs.ListFacts.{until-le}
use Rattle.mt_verify.specs.Held.{rank_at}
use Rattle.mt_verify.proofs.FindFacts.{any_has_position}
use Rattle.mt_explain.specs.Lines.{both_lines, is_open, line_if, option_lines}
use Rattle.mt_explain.specs.declared.line.Line.{Line}
use Rattle.mt_explain.proofs.OptionFacts.{front_has, open_if_option_taken}
use Rattle.mt_findings.specs.Findings.{is_taken}

-- the lines of an option's two places are open exactly if the option would be taken
pub taken_by_lines : (m : Market) → IsWellFormed m → (places : Places) → ArePlaces m places → (g : Agent) → IsAgentOf m g
    → (k : ℕ) → k < length (better m places g) → (one other : Option Line) → both_lines (one, other) ≡ option_lines m places k (get_or (options m g) k [])
    → (list_all is_open (line_if one) && list_all is_open (line_if other)) ≡ is_taken m places g k
taken_by_lines m formed places are g numbered k within one other is =
    sym (list_all-append is_open (line_if one) (line_if other))
    ∙ ap (list_all is_open) is
    ∙ open_if_option_taken m formed places are g numbered k k (omega (arith, until-le (holds places) (options m g)))
    ∙ ap (would_be_taken m places) (sym (front_has (holds places) (options m g) k [] within))

pub within_list : (m : Market) (places : Places) (g : Agent) (k : ℕ) → k < length (better m places g) → k < length (options m g)
within_list m places g k within = omega (arith, until-le (holds places) (options m g))

-- a program lists whom it ranks
pub listed_by_rank : (m : Market) (a p : ℕ) (place : Option ℕ) → place ≡ Some p → is_some (rank_at m a place) ≡ is_listed m a place
listed_by_rank m a p (Some q) is = sym (any_has_position (λ x. x == a) (program_of m q).ranking)
listed_by_rank m a p None is = absurd (cc)

pub and_true : (b : Bool) → (b && true) ≡ b
and_true true = refl
and_true false = refl

-- more applicants than posts
pub over_test : (quota placed : ℕ) → nat_lt quota placed ≡ not (nat_le placed quota)
over_test quota placed = grind (arith, nat_tests)
