use Rattle.std.proofs.Common.{ap₂, cond, List, ℕ, Option, Bool, is_some, refl, ◌≡◌, ◌∙◌, ◌++◌, [], ◌∷◌, Some, map, not, ap, sym, subst, true, false, position}
use Rattle.std.specs.HashMap.{Updates}
use Rattle.std.specs.List.{list_any}
use Rattle.std.proofs.lemmas.List.{length-map}
use Rattle.mt_ids.proofs.SetFacts.{is_some-position}
use Rattle.mt_terms.specs.Registration.Records.{IdPair}
use Rattle.mt_terms.specs.Registration.Passes.{is_same_pair}
use Rattle.mt_records.specs.Fields.{pair_seen}
use Rattle.mt_passes.proofs.PairFacts.{Same, same_seen, agree, found_with, seen_with}
use Rattle.mt_passes.proofs.pair_table.PairTable.add.Goals as goal

-- whether the pair is one of these, as its look-up says
looked_up : (pairs : List IdPair) (pair : IdPair) (found : Option ℕ) (said b : Bool) → found ≡ position (is_same_pair pair) pairs → said ≡ is_some found → said ≡ b
    → list_any (is_same_pair pair) pairs ≡ b
looked_up pairs pair found said b is says at = sym (is_some-position (is_same_pair pair) pairs) ∙ ap is_some (sym is) ∙ sym says ∙ at

pub returns-then-is_some-clause-added : goal.returns-then-is_some-clause-added
returns-then-is_some-clause-added c = ap not (sym (looked_up c.args.self.now (pair_seen c.args.pair) _ _ true c.place.ensures c.is_some.ensures c.if-is_some.true))

pub returns-then-is_some-clause-pairs : goal.returns-then-is_some-clause-pairs
returns-then-is_some-clause-pairs c = rw (looked_up c.args.self.now (pair_seen c.args.pair) _ _ true c.place.ensures c.is_some.ensures c.if-is_some.true) refl

pub invariant_of-self-2 : goal.invariant_of-self-2
invariant_of-self-2 c =
    let held = c.self.inside in
    let pair = c.args.pair in
    let place = c.len-place.ensures ∙ held.pairs.ok.0 ∙ sym (length-map held.pairs.items pair_seen) in
    let new = ap (λ (pairs : List IdPair). is_some (position (is_same_pair (pair_seen pair)) pairs)) c.self.view_is ∙ ap is_some (sym c.place.ensures) ∙ sym c.is_some.ensures ∙ c.if-is_some.false in
    let updated = subst (λ (same : Same). Updates same held.places c.insert.new.self pair (Some c.len-place.result)) agree c.in_ok-insert.ensures.updates in
    λ other.
    updated.0 other
    ∙ ap₂ (λ (n : ℕ) (found : Option ℕ). cond (same_seen pair other) (Some n) found) place (c.self.invariant other)
    ∙ found_with (map pair_seen held.pairs.items) (pair_seen pair) (pair_seen other) new
    ∙ ap (position (is_same_pair (pair_seen other))) (sym (seen_with held.pairs.items _ _ pair c.in_ok-reserve.ensures.items c.push_reserved.ensures.items))

pub returns-clause-added : goal.returns-clause-added
returns-clause-added c = ap not (sym (looked_up c.args.self.now (pair_seen c.args.pair) _ _ false c.place.ensures c.is_some.ensures c.if-is_some.false))

pub returns-clause-pairs : goal.returns-clause-pairs
returns-clause-pairs c =
    seen_with c.self.inside.pairs.items _ _ c.args.pair c.in_ok-reserve.ensures.items c.push_reserved.ensures.items
    ∙ ap (λ (pairs : List IdPair). pairs ++ pair_seen c.args.pair ∷ []) c.self.view_is
    ∙ rw (looked_up c.args.self.now (pair_seen c.args.pair) _ _ false c.place.ensures c.is_some.ensures c.if-is_some.false) refl
