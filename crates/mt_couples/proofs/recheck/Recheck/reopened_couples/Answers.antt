-- The indexed pairs are those of the program, so their couples are of the market. The answers are the test's, in their order,
-- and those that pass are the couples that a filter keeps.
use Rattle.std.proofs.Common.{◌≡◌, ◌∙◌, ℕ, Bool, List, [], ◌∷◌, Option, ap, filter, map, refl, inl, inr}
use Rattle.std.specs.Bool.{then_some}
use Rattle.std.specs.Borrow.{Bor}
use Rattle.std.specs.List.{AllZip, filter_map}
use Rattle.std.proofs.lemmas.Bool.{cases_Bool}
use Rattle.std.proofs.lemmas.List.{get_or_default}
use Rattle.rayon.proofs.ListFacts.{IfOk-then}
use Rattle.rayon.proofs.ToStd.{slice-map}
use Rattle.rayon.specs.Lists.{iter_slice, min_len_base}
use Rattle.mt_stage_tables.specs.Named.{row_at}
use Rattle.mt_stage_tables.specs.Waiting.{Waiting}
use Rattle.mt_stage_tables.specs.declared.couple_list.NamedPairs.{NamedPairs}
use Rattle.mt_stage_tables.proofs.NamedFacts.{named_within}
use Rattle.mt_couples.specs.Rechecks.{couple_at, which_at}
use Rattle.mt_couples.specs.declared.recheck.Recheck.{Recheck}
use Rattle.mt_couples.proofs.recheck.Recheck.reopened_couples.Goals as goal

pub collect-requires-clause-ready : goal.collect-requires-clause-ready
collect-requires-clause-ready g c κs within =
    let t = c.args.self.now in
    let w = t.watch.now in
    let named = row_at w.couples.rows c.args.program in
    rw (c.filter_map.ensures.base, c.filter_map.ensures.f, c.with_min_len.ensures.base, c.par_iter.ensures, c.couples.ensures)
    (λ k d lt pairs is. (
      named_within t.assignment.now.market w.couples c.args.program named k pairs.now t.named refl lt (is ∙ get_or_default named k d pairs.now lt),
      λ couple made. tt,
    ))

-- the couples of the entries that pass
those_kept : (test : NamedPairs → Bool) (ns : List NamedPairs) → filter_map (λ o. o) (map (λ (n : NamedPairs). then_some (test n) n.couple) ns) ≡ map (λ (n : NamedPairs). n.couple) (filter test ns)
those_kept test [] = refl
those_kept test (n ∷ ns) = elim (cases_Bool (test n)) [
  | inl passes ↦ rw passes (ap (λ cs. n.couple ∷ cs) (those_kept test ns))
  | inr fails ↦ rw fails (those_kept test ns)
]

-- the answers at pairs that are lent, by what the closure has
answered : (t t' : Recheck) (p p' : ℕ) (q q' : Waiting) (zs : List (Bor NamedPairs)) (named : List NamedPairs) (answers : List (Option ℕ)) → t ≡ t' → p ≡ p' → q ≡ q'
    → map (λ (z : Bor NamedPairs). z.now) zs ≡ named → AllZip (λ (z : Bor NamedPairs) y. y ≡ couple_at t p q z.now) zs answers → answers ≡ map (couple_at t' p' q') named
answered t t' p p' q q' zs named answers self program waiting shown each =
    slice-map zs named shown (couple_at t p q) answers each ∙ (λ i. map (couple_at (self i) (program i) (waiting i)) named)

pub returns : goal.returns
returns g c =
    let t = c.args.self.now in
    let named = row_at t.watch.now.couples.rows c.args.program in
    let f = c.filter_map.result.f in
    let slice = ap (λ m. iter_slice (min_len_base m)) c.filter_map.ensures.base ∙ ap iter_slice c.with_min_len.ensures.base ∙ c.par_iter.ensures ∙ c.couples.ensures in
    let self : f.0.now ≡ t = rw c.filter_map.ensures.f refl in
    let program : f.1.now ≡ c.args.program = rw c.filter_map.ensures.f refl in
    let waiting : f.2.now ≡ c.args.waiting.now = rw c.filter_map.ensures.f refl in
    IfOk-then c.collect.result _ _ c.collect.ensures (λ v h.
    let chain = h.1 in
    let os = answered f.0.now t f.1.now c.args.program f.2.now c.args.waiting.now chain.0 named chain.1 self program waiting (chain.2 ∙ slice) chain.3 in
    h.2 ∙ chain.4 ∙ ap (filter_map (λ o. o)) os ∙ those_kept (which_at t c.args.program c.args.waiting.now) named)
