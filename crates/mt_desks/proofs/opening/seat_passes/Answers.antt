use Rattle.std.proofs.Common.{rules, ◌≡◌, ap, sym, subst, ◌∙◌, ◌∷◌, ◌++◌, All, length, replicate}
use Rattle.std.proofs.lemmas.List.Elements.{All-same, All-head, All-tail, All-push}
use Rattle.std.specs.Vec.Iter.{into_iter_items}
use Rattle.std.specs.Option.{option_to_list}
use Rattle.mt_desks.specs.Parts.{IsPass, PassView}
use Rattle.mt_desks.specs.Openings.{unused_pass}
use Rattle.mt_terms.specs.Market.{applicants}
use Rattle.mt_desks.specs.declared.opening.Counts.{Counts}
use Rattle.mt_desks.proofs.Openings.{pass_opens, pass_opens_at}
use Rattle.mt_desks.proofs.opening.seat_passes.Goals as goal

pub invariant_of-push_reserved : goal.invariant_of-push_reserved
invariant_of-push_reserved g c =
    let market = g.K.HallName.ranked.market in
    let blank : Counts → Type 0 = λ k. (k.by_program.items ≡ replicate (length market.programs) 0) × (k.by_applicant.items ≡ replicate (applicants market) 0) in
    let share = c.in-Some.credits in
    let more = c.next.ensures.items ∙ ap (λ o. option_to_list o ++ into_iter_items c.next.new.self) c.in-Some.is in
    let count = c.in-Some-next.field-0 in
    let others = c.next-in-Some.ensures.items ∙ ap (λ o. option_to_list o ++ into_iter_items c.next-in-Some.new.self) c.in-Some-next.is in
    let shares : All (λ n. n ≡ 0) (share ∷ into_iter_items c.next.new.self) = All-same (λ n. n ≡ 0) _ _ (sym more) c.passes.invariant.shares in
    let blanks : All blank (count ∷ into_iter_items c.next-in-Some.new.self) = All-same blank _ _ (sym others) c.passes.invariant.counts in
    let is = pass_opens_at market share count.by_program.items count.by_applicant.items (All-head (λ n. n ≡ 0) _ _ shares) (All-head blank _ _ blanks) in
    subst (λ s. IsPass market s) (sym is) (pass_opens market)

pub passes-preserved : goal.passes-preserved
passes-preserved g c =
    let market = g.K.HallName.ranked.market in
    let blank : Counts → Type 0 = λ k. (k.by_program.items ≡ replicate (length market.programs) 0) × (k.by_applicant.items ≡ replicate (applicants market) 0) in
    let share = c.in-Some.credits in
    let more = c.next.ensures.items ∙ ap (λ o. option_to_list o ++ into_iter_items c.next.new.self) c.in-Some.is in
    let count = c.in-Some-next.field-0 in
    let others = c.next-in-Some.ensures.items ∙ ap (λ o. option_to_list o ++ into_iter_items c.next-in-Some.new.self) c.in-Some-next.is in
    let shares : All (λ n. n ≡ 0) (share ∷ into_iter_items c.next.new.self) = All-same (λ n. n ≡ 0) _ _ (sym more) c.passes.invariant.shares in
    let blanks : All blank (count ∷ into_iter_items c.next-in-Some.new.self) = All-same blank _ _ (sym others) c.passes.invariant.counts in
    let is = pass_opens_at market share count.by_program.items count.by_applicant.items (All-head (λ n. n ≡ 0) _ _ shares) (All-head blank _ _ blanks) in
    record {
      shares = All-tail (λ n. n ≡ 0) _ _ shares;
      counts = All-tail blank _ _ blanks;
      one_each = search rules;
      passes = search rules;
      room = search rules;
      unused = All-same (λ (p : PassView). p ≡ unused_pass market) _ _ c.push_reserved.ensures.items (All-push (λ (p : PassView). p ≡ unused_pass market) _ _ c.passes.invariant.unused is);
    }
