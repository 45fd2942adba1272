use Rattle.std.proofs.Common.{◌≡◌, ◌+◌, ℕ, List, ap, map, length, subst, ◌∙◌, arith}
use Rattle.std.proofs.lemmas.List.{length-map}
use Rattle.std.proofs.lemmas.List.FromFn.{length-map-range_with_len}
use Rattle.mt_terms.specs.Lists.{below}
use Rattle.mt_terms.specs.Market.{Program, applicants}
use Rattle.mt_ranks.specs.Entries.{own_entries}
use Rattle.mt_ranks.specs.Parts.{block_first, block_size}
use Rattle.mt_ranks.specs.Stamps.{ProgramsWithin}
use Rattle.mt_ranks.specs.Rows.{listed_rows, row_of}
use Rattle.mt_ranks.specs.declared.entries.Live.{Live}
use Rattle.mt_ranks.proofs.StampFacts.{row_within}
use Rattle.mt_ranks.proofs.PartsFacts.{sum-range, many_times, block_within, times_of_block, block_ascends}
use Rattle.mt_ranks.proofs.tables.part_numbered.Goals as goal

pub of_block-requires : goal.of_block-requires
of_block-requires c =
    let m = c.args.roster.now.market in
    let block = c.numbered-block.result in
    let many = many_times m c.args.times.now c.requires.times in
    omega (arith, many, block_within c.args.size c.args.number block.first block.size (length c.args.times.now) (applicants m) c.numbered-block.ensures.first c.numbered-block.ensures.size many)

pub transpose-requires-clause-sizes : goal.transpose-requires-clause-sizes
transpose-requires-clause-sizes c =
    let m = c.args.roster.now.market in
    let block = c.numbered-block.result in
    let many = many_times m c.args.times.now c.requires.times in
    c.of_block.ensures ∙ times_of_block m c.args.times.now block.first block.size c.requires.times
    (block_within c.args.size c.args.number block.first block.size (length c.args.times.now) (applicants m) c.numbered-block.ensures.first c.numbered-block.ensures.size many)

pub transpose-requires-clause-block : goal.transpose-requires-clause-block
transpose-requires-clause-block c =
    let m = c.args.roster.now.market in
    let block = c.numbered-block.result in
    let many = many_times m c.args.times.now c.requires.times in
    block_within c.args.size c.args.number block.first block.size (length c.args.times.now) (applicants m) c.numbered-block.ensures.first c.numbered-block.ensures.size many

pub transpose-requires-clause-few : goal.transpose-requires-clause-few
transpose-requires-clause-few c = rw c.of_block.ensures (omega (arith, sum-range c.args.times.now c.numbered-block.result.first (c.numbered-block.result.first + c.numbered-block.result.size), c.requires.few))

pub live_lists-requires-clause-block : goal.live_lists-requires-clause-block
live_lists-requires-clause-block c =
    let m = c.args.roster.now.market in
    let block = c.numbered-block.result in
    let many = many_times m c.args.times.now c.requires.times in
    block_within c.args.size c.args.number block.first block.size (length c.args.times.now) (applicants m) c.numbered-block.ensures.first c.numbered-block.ensures.size many

pub live_lists-requires-clause-rows : goal.live_lists-requires-clause-rows
live_lists-requires-clause-rows c =
    let block = c.numbered-block.result in
    let own : ℕ → List Live = λ k. own_entries c.args.roster.now.market (block.first + k) in
    ap length c.in_ok-rows.ensures ∙ length-map-range_with_len own 0 block.size

pub live_lists-requires-clause-ascend : goal.live_lists-requires-clause-ascend
live_lists-requires-clause-ascend c k =
    let block = c.numbered-block.result in
    block_ascends c.args.roster.now.market c.in_ok-rows.rows block.first block.size k c.is_of_a_file.ensures.well_formed c.in_ok-rows.ensures

pub live_lists-requires-clause-within : goal.live_lists-requires-clause-within
live_lists-requires-clause-within c k =
    let m = c.args.roster.now.market in
    let block = c.numbered-block.result in
    subst (λ n. ProgramsWithin n (row_of c.in_ok-rows.rows k)) (length-map m.programs Program.ranking) (row_within m c.in_ok-rows.rows block.first block.size k c.in_ok-rows.ensures)

pub returns : goal.returns
returns c =
    let m = c.args.roster.now.market in
    let block = c.numbered-block.result in
    let many = many_times m c.args.times.now c.requires.times in
    let own : ℕ → ℕ → List Live = λ first k. own_entries m (first + k) in
    let first : block.first ≡ block_first c.args.size c.args.number (applicants m) = c.numbered-block.ensures.first ∙ ap (block_first c.args.size c.args.number) many in
    let size : block.size ≡ block_size c.args.size c.args.number (applicants m) = omega (arith, c.numbered-block.ensures.size, first, many) in
    record {
      rows = c.in_ok-rows.ensures ∙ (λ i. map (own (first i)) (below (size i)));
      lists = c.in_ok-lists.ensures ∙ (λ i. listed_rows m (first i) (size i) c.in_ok-rows.rows);
    }
