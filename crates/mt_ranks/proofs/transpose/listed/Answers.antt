use Rattle.std.proofs.Common.{◌≡◌, ◌+◌, ◌∙◌, ◌++◌, take, drop, sym, map, length, arith}
use Rattle.std.proofs.lemmas.Grind.{common_steps}
use Rattle.std.proofs.lemmas.List.{length-map}
use Rattle.mt_terms.specs.Lists.{below}
use Rattle.mt_terms.specs.Market.{Program, applicants}
use Rattle.mt_ranks.specs.Entries.{rankings_of, times_listed}
use Rattle.mt_ranks.proofs.ListedFacts.{AreListed, listed_fits, listed_more, listed_all}
use Rattle.mt_ranks.proofs.LiveLists.{ranking_at, rankings_distinct}
use Rattle.mt_ranks.proofs.Sizes.{sum_listed}
use Rattle.mt_ranks.proofs.transpose.listed.Goals as goal

pub count_listed-requires-clause-fits : goal.count_listed-requires-clause-fits
count_listed-requires-clause-fits c a within =
    let m = c.args.roster.now.market in
    let ranking : c.program_list.result.now ≡ _ = c.program_list.ensures ∙ sym (ranking_at m c.loop-program.program) in
    rw (c.deref_mut.ensures.value, ranking)
    (omega (
      arith,
      listed_fits c.loop-program.counts.items (rankings_of m) c.loop-program.program a c.loop-program.invariant.listed
          (rankings_distinct m c.applicants.ensures.registration.well_formed) (omega (arith, length-map m.programs Program.ranking)) (omega arith),
      length-map m.programs Program.ranking,
      c.applicants.ensures.registration.few_programs,
    ))

pub loop-program-preserved : goal.loop-program-preserved
loop-program-preserved c =
    let m = c.args.roster.now.market in
    let same : length c.count_listed.new.counts ≡ length c.loop-program.counts.items = grind (arith, common_steps) in
    let more : AreListed c.count_listed.new.counts (rankings_of m) (c.loop-program.program + 1) =
    listed_more c.loop-program.counts.items c.count_listed.new.counts (rankings_of m) c.loop-program.program c.program_list.result.now c.loop-program.invariant.listed
    (omega (arith, length-map m.programs Program.ranking)) (c.program_list.ensures ∙ sym (ranking_at m c.loop-program.program)) same (rw c.deref_mut.ensures.value at c.count_listed.ensures) in
    let written : take c.loop-program.counts.len (c.count_listed.new.counts ++ drop (length c.count_listed.new.counts) c.loop-program.counts.items) ≡ c.count_listed.new.counts = grind (arith, common_steps) in
    record { len = rw written (same ∙ c.loop-program.invariant.len); listed = rw written more }

times : (c : goal.After-loop-program) → c.loop-program.counts.items ≡ map (times_listed (rankings_of c.args.roster.now.market)) (below (applicants c.args.roster.now.market))
times c =
    let m = c.args.roster.now.market in
    listed_all c.loop-program.counts.items (rankings_of m) c.loop-program.program (applicants m) c.loop-program.invariant.listed
    (omega (arith, length-map m.programs Program.ranking, c.programs-program-end.ensures.count)) c.loop-program.invariant.len

pub returns-clause-times : goal.returns-clause-times
returns-clause-times c = times c

pub returns-clause-few : goal.returns-clause-few
returns-clause-few c =
    let m = c.args.roster.now.market in
    rw (times c) (omega (arith, sum_listed (rankings_of m) (applicants m) (rankings_distinct m c.applicants.ensures.registration.well_formed) (omega (arith, length-map m.programs Program.ranking, c.applicants.ensures.registration.few_programs)), c.applicants.ensures.registration.few_applicants))
