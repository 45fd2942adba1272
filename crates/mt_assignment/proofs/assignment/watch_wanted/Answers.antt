use Rattle.std.proofs.Common.{◌≡◌, ◌≤◌, ◌∙◌, ◌++◌, ℕ, Bool, List, false, take, drop, length, ap, append-nil, arith, subst, sym}
use Rattle.std.proofs.lemmas.Grind.{common_steps}
use Rattle.std.proofs.lemmas.List.{drop_all, take_all}
use Rattle.std.specs.List.{list_any}
use Rattle.mt_terms.specs.Lists.{until}
use Rattle.mt_terms.specs.Matching.{is_program}
use Rattle.mt_ranks.specs.declared.entries.Live.{Live}
use Rattle.mt_assignment.specs.Watched.{Watches}
use Rattle.mt_assignment.proofs.assignment.watch_wanted.Goals as goal

-- what was read is all that comes before
all_before : (test : Live → Bool) (xs : List Live) (i : ℕ) → length xs ≤ i → take i xs ++ until test (drop i xs) ≡ until test xs → take i xs ≡ until test xs
all_before test xs i past so_far = sym (append-nil (take i xs)) ∙ ap (λ ys. take i xs ++ until test ys) (sym (drop_all i xs past)) ∙ so_far

none_there : (test : Live → Bool) (xs ls : List Live) (i : ℕ) → length xs ≤ i → xs ≡ ls → list_any test (take i xs) ≡ false → false ≡ list_any test ls
none_there test xs ls i past are none = sym none ∙ ap (list_any test) (take_all i xs past ∙ are)

pub loop-entry-preserved : goal.loop-entry-preserved
loop-entry-preserved c = grind (arith, common_steps)

pub returns-clause-is_found : goal.returns-clause-is_found
returns-clause-is_found c = none_there (λ (e : Live). is_program e.program c.args.place) c.live-entry-items.result.now _ c.loop-entry.entry-index c.loop-entry-test.false c.live-entry-items.ensures.list c.loop-entry.invariant.none

pub returns-clause-watched : goal.returns-clause-watched
returns-clause-watched c =
    let test = λ (e : Live). is_program e.program c.args.place in
    subst (Watches c.args.watched.now c.loop-entry.watched)
    (all_before test c.live-entry-items.result.now c.loop-entry.entry-index c.loop-entry-test.false c.loop-entry.invariant.so_far ∙ ap (until test) c.live-entry-items.ensures.list)
    c.loop-entry.invariant.watches

pub returns-then-eq-clause-is_found : goal.returns-then-eq-clause-is_found
returns-then-eq-clause-is_found c = grind (arith, common_steps)

pub returns-then-eq-clause-watched : goal.returns-then-eq-clause-watched
returns-then-eq-clause-watched c = grind (arith, common_steps)
