use Rattle.std.proofs.Common.{◌≡◌, ◌∙◌, ◌++◌, ◌∷◌, [], true, inr, sym, ap, arith}
use Rattle.std.specs.Result.{is_ok}
use Rattle.csv.specs.Records.{fields_of}
use Rattle.mt_lists.specs.Records.{without_trailing_empty}
use Rattle.mt_lists.proofs.MarkFacts.{strip-unmarked}
use Rattle.mt_lists.proofs.SplitFacts.{no_row_more, no_row_yet, one_row_more, was_ok}
use Rattle.mt_lists.proofs.splitting.read_rows.Goals as goal

pub loop-rows-init : goal.loop-rows-init
loop-rows-init c =
    let made = c.from_reader-reader.ensures in
    let flexible = rw c.flexible.ensures at made.flexible in
    let named = rw (c.flexible.ensures, c.has_headers.ensures) at made.has_headers in
    let plain = rw (c.flexible.ensures, c.has_headers.ensures) at made.trim ∙ c.new.ensures.trim in
    let config = rw (c.flexible.ensures, c.has_headers.ensures) at made.config ∙ c.new.ensures.config in
    let source = rw (strip-unmarked c.args.text.now c.requires) at made.source in
    no_row_yet c.args.text.now c.from_reader-reader.result c.new-rows.result.items flexible plain (inr (inr (named, made.headers))) config made.state source c.new-rows.ensures.items

pub read_record-requires-clause-flexible : goal.read_record-requires-clause-flexible
read_record-requires-clause-flexible c = c.loop-rows.invariant.flexible

pub loop-rows-smaller : goal.loop-rows-smaller
loop-rows-smaller c =
    let read = c.in_ok-read_record.ensures in
    (one_row_more c.args.text.now c.loop-rows.reader c.read_record.new.reader c.loop-rows.rows.items _ c.loop-rows.invariant (rw c.if-branch.true at read.reads) read.first read.still_flexible).1

pub loop-rows-preserved : goal.loop-rows-preserved
loop-rows-preserved c =
    let read = c.in_ok-read_record.ensures in
    let trimmed = was_ok _ _ _ _ c.map_err.ensures.cases c.map_err.ensures.variant c.in_ok-row.was in
    let row : c.in_ok-row.row ≡ without_trailing_empty (fields_of c.read_record.new.raw) = rw trimmed at c.trimmed_row.ensures in
    let good : is_ok c.push.result ≡ true = sym c.map_err-in-loop-rows.ensures.variant ∙ ap is_ok c.in_ok-map_err.was in
    let items : c.push.new.self.items ≡ c.loop-rows.rows.items ++ without_trailing_empty (fields_of c.read_record.new.raw) ∷ [] = rw (good, row) at c.push.ensures.items in
    rw items ((one_row_more c.args.text.now c.loop-rows.reader c.read_record.new.reader c.loop-rows.rows.items _ c.loop-rows.invariant (rw c.if-branch.true at read.reads) read.first read.still_flexible).0)

pub returns-clause-rows : goal.returns-clause-rows
returns-clause-rows c =
    no_row_more c.args.text.now c.loop-rows.reader c.read_record.new.reader c.loop-rows.rows.items _ c.loop-rows.invariant (rw c.if-branch.false at c.in_ok-read_record.ensures.reads)

pub returns-in_err-map_err-clause-memory : goal.returns-in_err-map_err-clause-memory
returns-in_err-map_err-clause-memory c = grind arith

pub read_record-requires-clause-plain : goal.read_record-requires-clause-plain
read_record-requires-clause-plain c = c.loop-rows.invariant.trim

pub read_record-requires-clause-ready : goal.read_record-requires-clause-ready
read_record-requires-clause-ready c = c.loop-rows.invariant.ready
