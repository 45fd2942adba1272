use Rattle.std.proofs.Common.{◌≡◌, ◌∙◌, ◌<◌, not, length, ap, arith, sym, subst}
use Rattle.std.proofs.Math.Bool.{not-not}
use Rattle.rayon.proofs.ToStd.{nat_range-All}
use Rattle.rayon.specs.Lists.{range_start, range_end}
use Rattle.mt_terms.specs.Market.{Market}
use Rattle.mt_watch.specs.Posts.{has_wanted_post}
use Rattle.mt_assignment.specs.Watched.{AreWatched}
use Rattle.mt_watch.proofs.AskFacts.{none_found_by_threads}
use Rattle.mt_watch.proofs.PostFacts.{quiet_by_posts}
use Rattle.mt_watch.proofs.posts.are_singles_quiet.Goals as goal

pub find_first-wanted-requires-clause-items : goal.find_first-wanted-requires-clause-items
find_first-wanted-requires-clause-items g c κs within =
    let s = c.args.assignment.now in
    let range = c.with_min_len.result.base in
    let many = length s.market.programs in
    let end : range.end ≡ many = ap range_end c.with_min_len.ensures.base ∙ c.into_par_iter.ensures.1 ∙ c.programs.ensures.count ∙ ap (λ (m : Market). length m.programs) c.roster.ensures.market in
    λ k d low p read.
    subst (λ q. (q < many) × AreWatched s c.args.watch.now.singles) (sym read)
    (nat_range-All (λ q. (q < many) × AreWatched s c.args.watch.now.singles) range.start range.end (λ i low high. (omega (arith, end), c.requires)) k d low)

pub returns : goal.returns
returns g c = λ quiet.
    let s = c.args.assignment.now in
    let rows = c.args.watch.now.singles in
    let found = c.find_first-wanted.ensures in
    let range = c.with_min_len.result.base in
    let none = none_found_by_threads (has_wanted_post s rows) (λ p. not (has_wanted_post s rows p)) (λ p. sym (not-not (has_wanted_post s rows p))) range.start range.end (length s.market.programs) found.0 found.1 c.find_first-wanted.result
    (ap range_start c.with_min_len.ensures.base ∙ c.into_par_iter.ensures.0)
    (ap range_end c.with_min_len.ensures.base ∙ c.into_par_iter.ensures.1 ∙ c.programs.ensures.count ∙ ap (λ (m : Market). length m.programs) c.roster.ensures.market) found.2 found.3 found.4 in
    quiet_by_posts s c.roster.ensures.assigned rows c.requires (sym none ∙ ap not c.is_none.ensures ∙ not-not c.is_none.result ∙ quiet)
