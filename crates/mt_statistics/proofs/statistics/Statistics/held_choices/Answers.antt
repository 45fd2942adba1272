use Rattle.std.proofs.Common.{◌≡◌, ◌∙◌, ℕ, List, [], ◌∷◌, ◌++◌, Option, map, ap, sym, arith}
use Rattle.mt_terms.specs.Lists.{below}
use Rattle.mt_terms.specs.Market.{Registered, applicants}
use Rattle.mt_terms.specs.declared.numbers.Agent.TheVariants.{Single}
use Rattle.mt_terms.proofs.BelowFacts.{map-below_more}
use Rattle.mt_verify.specs.Held.{held_option}
use Rattle.mt_verify.specs.Judged.{Judged}
use Rattle.mt_statistics.proofs.statistics.Statistics.held_choices.Goals as goal

pub loop-number-preserved : goal.loop-number-preserved
loop-number-preserved c =
    let d : Judged = c.args.self.now in
    let has : ℕ → Option ℕ = λ a. held_option d.registered.market d.places (Single a) in
    c.in_ok-push.ensures.items ∙ ap (λ (xs : List (Option ℕ)). xs ++ c.held_option.result ∷ []) c.loop-number.invariant
    ∙ ap (λ (x : Option ℕ). map has (below c.loop-number.number) ++ x ∷ []) c.held_option.ensures ∙ sym (map-below_more has c.loop-number.number)

pub returns : goal.returns
returns c =
    let d : Judged = c.args.self.now in
    let has : ℕ → Option ℕ = λ a. held_option d.registered.market d.places (Single a) in
    let end : c.loop-number.number ≡ applicants d.registered.market =
    omega (arith, ap (λ (r : Registered). applicants r.market) c.roster.ensures, c.applicants-number-end.ensures.count) in
    c.loop-number.invariant ∙ ap (λ (n : ℕ). map has (below n)) end
