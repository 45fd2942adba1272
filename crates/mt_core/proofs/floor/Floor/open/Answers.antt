use Rattle.std.proofs.Common.{false, replicate, sym, ap, ◌∙◌, subst}
use Rattle.mt_terms.specs.Floor.{Floor, IsStrict}
use Rattle.mt_floor_laws.proofs.FloorRuns.{opening_is_strict_lem}
use Rattle.mt_core.specs.Floors.{Tables, floor_of, IsOpenedWith}
use Rattle.mt_core.proofs.Openings.{tables_are_opened, opened_floor, tables_from}
use Rattle.mt_core.proofs.floor.Floor.open.Goals as goal

pub returns-clause-opened : goal.returns-clause-opened
returns-clause-opened c =
    let m = c.args.ranks.now.market in
    let is = tables_from m (c.in_ok-made.ensures.items_if_clones_equal (λ y e. e) ∙ ap (λ n. replicate n 0) c.applicants-applicants.ensures.count) (c.in_ok-standing.ensures.items_if_clones_equal (λ y e. e) ∙ ap (λ n. replicate n false) c.applicants-applicants.ensures.count) c.in_ok-holds.ensures in
    subst (λ (t : Tables). IsOpenedWith m t) (sym is) (tables_are_opened m)

pub returns-clause-opening : goal.returns-clause-opening
returns-clause-opening c =
    let m = c.args.ranks.now.market in
    let is = tables_from m (c.in_ok-made.ensures.items_if_clones_equal (λ y e. e) ∙ ap (λ n. replicate n 0) c.applicants-applicants.ensures.count) (c.in_ok-standing.ensures.items_if_clones_equal (λ y e. e) ∙ ap (λ n. replicate n false) c.applicants-applicants.ensures.count) c.in_ok-holds.ensures in
    ap (floor_of m) is ∙ opened_floor m

pub returns-clause-strict : goal.returns-clause-strict
returns-clause-strict c =
    let m = c.args.ranks.now.market in
    let is = tables_from m (c.in_ok-made.ensures.items_if_clones_equal (λ y e. e) ∙ ap (λ n. replicate n 0) c.applicants-applicants.ensures.count) (c.in_ok-standing.ensures.items_if_clones_equal (λ y e. e) ∙ ap (λ n. replicate n false) c.applicants-applicants.ensures.count) c.in_ok-holds.ensures in
    subst (λ (f : Floor). IsStrict m f) (sym (ap (floor_of m) is ∙ opened_floor m)) (opening_is_strict_lem m)
