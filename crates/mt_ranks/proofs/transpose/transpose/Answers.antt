use Rattle.std.proofs.Common.{ℕ, ◌+◌, List, [], ap, sym, ◌∙◌, length, arith}
use Rattle.std.proofs.lemmas.List.FromFn.{length-map-range_with_len}
use Rattle.std.proofs.lemmas.List.{length-replicate, length-map}
use Rattle.mt_terms.specs.Market.{Program, applicants}
use Rattle.mt_ranks.specs.Entries.{rankings_of, times_listed}
use Rattle.mt_ranks.specs.Rows.{Filling}
use Rattle.mt_ranks.specs.declared.entries.Live.{Live}
use Rattle.mt_ranks.proofs.Sizes.{distinct_length}
use Rattle.mt_ranks.proofs.LiveLists.{ranking_at}
use Rattle.mt_ranks.proofs.ListedFacts.{entered_none, entered_more, entered_room, entered_all}
use Rattle.mt_ranks.proofs.transpose.transpose.Goals as goal

pub loop-program-init : goal.loop-program-init
loop-program-init c =
    let m = c.args.roster.now.market in
    let times : ℕ → ℕ = λ k. times_listed (rankings_of m) (c.args.block.first + k) in
    record {
      len = ap (λ (f : Filling). length f.lists) c.in_ok-rows.ensures ∙ length-replicate {A = List Live} (length c.args.sizes.now) [] ∙ ap length c.requires.sizes
          ∙ length-map-range_with_len times 0 c.args.block.size;
      sizes = ap (λ (f : Filling). f.sizes) c.in_ok-rows.ensures ∙ c.requires.sizes;
      entered = entered_none c.args.block.first c.in_ok-rows.rows (rankings_of m) c.args.sizes.now c.in_ok-rows.ensures;
    }

pub add_ranking-requires-clause-room : goal.add_ranking-requires-clause-room
add_ranking-requires-clause-room c k w =
    let m = c.args.roster.now.market in
    rw (c.program_list.ensures, sym (ranking_at m c.loop-program.program))
    (entered_room c.args.block.first c.loop-program.rows (rankings_of m) c.loop-program.program k c.args.block.size c.loop-program.invariant.entered c.loop-program.invariant.sizes
    (omega (arith, length-map m.programs Program.ranking)) c.loop-program.invariant.len w)

pub add_ranking-requires-clause-program : goal.add_ranking-requires-clause-program
add_ranking-requires-clause-program c = omega (arith, c.programs-program-end.ensures.registration.few_programs, c.programs-program-end.ensures.count)

pub add_ranking-requires-clause-short : goal.add_ranking-requires-clause-short
add_ranking-requires-clause-short c =
    let m = c.args.roster.now.market in
    let formed = c.programs-program-end.ensures.registration in
    rw c.program_list.ensures
    (omega (arith, formed.few_applicants, distinct_length _ (applicants m) (formed.well_formed.rankings_distinct c.loop-program.program) (formed.well_formed.rankings_within c.loop-program.program)))

pub loop-program-preserved : goal.loop-program-preserved
loop-program-preserved c =
    let m = c.args.roster.now.market in
    record {
      len = c.add_ranking.ensures.len ∙ c.loop-program.invariant.len;
      sizes = c.add_ranking.ensures.sizes ∙ c.loop-program.invariant.sizes;
      entered = entered_more c.args.block.first c.loop-program.rows c.add_ranking.new.rows (rankings_of m) c.loop-program.program c.program_list.result.now c.loop-program.invariant.entered
          (omega (arith, length-map m.programs Program.ranking)) (c.program_list.ensures ∙ sym (ranking_at m c.loop-program.program)) c.add_ranking.ensures.len c.add_ranking.ensures.rows;
    }

pub returns : goal.returns
returns c =
    let m = c.args.roster.now.market in
    entered_all c.args.block.first c.loop-program.rows (rankings_of m) c.loop-program.program c.args.block.size c.loop-program.invariant.entered
    (omega (arith, length-map m.programs Program.ranking, c.programs-program-end.ensures.count)) c.loop-program.invariant.len
