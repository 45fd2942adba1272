-- The lines of an option name programs and applicants of the market.
use Rattle.std.proofs.Common.{ℕ, ◌<◌, List, [], ◌∷◌, ◌++◌, length, get_or, Option, Some, None, IfSome, refl, sym, subst}
use Rattle.std.proofs.lemmas.List.{get_or_default}
use Rattle.mt_terms.specs.Market.{Market, Pair, Registered, applicants, couple_of, list_of, IsAgentOf}
use Rattle.mt_terms.specs.Matching.{Places, Placement, couple_placement, options, send, single_placement}
use Rattle.mt_terms.specs.Registration.Accepted.{IsRegistration}
use Rattle.mt_terms.specs.declared.numbers.Agent.{Agent}
use Rattle.mt_terms.specs.declared.numbers.Agent.TheVariants.{Couple, Single}
use Rattle.mt_explain.specs.Lines.{both_lines, lines_at, option_lines}
use Rattle.mt_explain.specs.declared.line.Line.{Line}
use Rattle.mt_explain.proofs.OptionFacts.{listed_pair, listed_program, pair_option, single_option}
use Rattle.mt_explain_text.specs.Here.{IsHere}

-- what each of some lines names is there
abbrev pub AreHere : Market → List Line → Type 0
AreHere m [] = Unit {0}
AreHere m (line ∷ lines) = IsHere m line × AreHere m lines

-- a place that is none, or one of the market
abbrev IsPlace : Market → Option ℕ → Type 0
IsPlace m place = IfSome place (λ p. p < length m.programs)

member_here : (m : Market) (moved : Places) (k a : ℕ) (place : Option ℕ) (rest : List Line) → a < applicants m → IsPlace m place → AreHere m rest → AreHere m (lines_at m moved k a place ++ rest)
member_here m moved k a None rest a_in p_in later = later
member_here m moved k a (Some p) rest a_in p_in later = (record { program = p_in; member = a_in }, later)

pub lines_here : (r : Registered) → IsRegistration r → (places : Places) → (g : Agent) → IsAgentOf r.market g
    → (k i : ℕ) → i < length (options r.market g) → AreHere r.market (option_lines r.market places k (get_or (options r.market g) i []))
lines_here r registration places (Single a) numbered k i within =
    let m : Market = r.market in
    let at_i = single_option m a i within in
    let p : ℕ = get_or (list_of m a) i 0 in
    let below : p < length m.programs = listed_program m registration.well_formed a i p (list_of m a) refl (get_or_default (list_of m a) i 0 p at_i.0) at_i.0 in
    subst (λ (sent : Placement). AreHere m (option_lines m places k sent)) (sym at_i.1)
    (member_here m (send (single_placement a p) places) k a (Some p) [] numbered below tt)
lines_here r registration places (Couple c) numbered k i within =
    let m : Market = r.market in
    let couple = couple_of m c in
    let at_i = pair_option m c i within in
    let pair : Pair = get_or couple.pairs i (None, None) in
    let below = listed_pair r registration c i pair couple.pairs refl (get_or_default couple.pairs i (None, None) pair at_i.0) at_i.0 in
    let first = registration.well_formed.first_member c numbered in
    let second = registration.well_formed.second_member c numbered in
    let sent : Placement = couple_placement couple.first couple.second pair in
    subst (λ (s : Placement). AreHere m (option_lines m places k s)) (sym at_i.1)
    (member_here m (send sent places) k couple.first pair.0 (lines_at m (send sent places) k couple.second pair.1 ++ []) first.within below.0
    (member_here m (send sent places) k couple.second pair.1 [] second.within below.1 tt))

-- the lines of an option's two places
pub both_here : (m : Market) (one other : Option Line) → AreHere m (both_lines (one, other)) → IfSome one (IsHere m) × IfSome other (IsHere m)
both_here m None None h = (tt, tt)
both_here m None (Some y) h = (tt, h.0)
both_here m (Some x) None h = (h.0, tt)
both_here m (Some x) (Some y) h = (h.0, h.1.0)
