use Rattle.std.proofs.Common.{◌≡◌, ◌∙◌, nat_eq, true, false, sym}
use Rattle.std.specs.List.{starts_with}
use Rattle.mt_lists.specs.Records.{mark}
use Rattle.mt_lists.proofs.MarkFacts.{no_mark, stripped, records-unmarked, records-marked, records-two}
use Rattle.mt_lists.proofs.splitting.after_mark.Goals as goal

pub returns-in_default : goal.returns-in_default
returns-in_default c =
    let none = rw c.in_default.is at (stripped c.args.bytes.now c.as_slice.result.now c.strip_prefix.result c.as_slice.ensures c.strip_prefix.ensures.cases) in
    (records-unmarked c.args.bytes.now none, no_mark c.args.bytes.now none)

pub returns-then-starts_with : goal.returns-then-starts_with
returns-then-starts_with c =
    let front = rw c.in-Some.is at (stripped c.args.bytes.now c.as_slice.result.now c.strip_prefix.result c.as_slice.ensures c.strip_prefix.ensures.cases) in
    let test = rw c.as_slice-2.ensures at c.starts_with.ensures.value in
    let marked : starts_with nat_eq c.in-Some.text.now mark ≡ true = sym test ∙ c.if-starts_with.true in
    records-two c.args.bytes.now c.in-Some.text.now front marked

pub returns : goal.returns
returns c =
    let front = rw c.in-Some.is at (stripped c.args.bytes.now c.as_slice.result.now c.strip_prefix.result c.as_slice.ensures c.strip_prefix.ensures.cases) in
    let test = rw c.as_slice-2.ensures at c.starts_with.ensures.value in
    let plain : starts_with nat_eq c.in-Some.text.now mark ≡ false = sym test ∙ c.if-starts_with.false in
    (records-marked c.args.bytes.now c.in-Some.text.now front plain, plain)
