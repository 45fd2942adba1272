use Rattle.std.proofs.Common.{◌-◌, take, refl, arith}
use Rattle.std.proofs.lemmas.Grind.{common_steps, elements}
use Rattle.std.proofs.lemmas.List.{length-take}
use Rattle.mt_lists.proofs.InputFacts.{asked_len, ended_within, failures_more, failures_same, loses_before, loses_none, no_fault, no_memory, one_fault, read_whole, reads_more, too_large, turns_more}
use Rattle.mt_lists.proofs.input.read_all.Goals as goal

pub returns-then-came-room-clause-taken : goal.returns-then-came-room-clause-taken
returns-then-came-room-clause-taken g c =
    let so_far = c.loop-came.invariant.0 in
    let size = length-take c.in-Ok-read.came c.read.new.buf in
    let asked = asked_len c.min-asked.result (c.args.limit - c.len.result) c.loop-came.piece c.read.new.buf c.read.auto.buf (omega arith) c.loop-came.invariant.1 in
    ended_within c.args.limit _ _ _ c.loop-came.bytes.items (take c.in-Ok-read.came c.read.new.buf) so_far.taken c.in-Ok-read.ensures.bytes.0 so_far.within (omega arith)

pub returns-then-is_err-clause-taken : goal.returns-then-is_err-clause-taken
returns-then-is_err-clause-taken g c =
    let so_far = c.loop-came.invariant.0 in
    let size = length-take c.in-Ok-read.came c.read.new.buf in
    ended_within c.args.limit _ _ _ c.loop-came.bytes.items (take c.in-Ok-read.came c.read.new.buf) so_far.taken c.in-Ok-read.ensures.bytes.0 so_far.within (omega arith)

pub slice_bounds-extend_from_slice-end : goal.slice_bounds-extend_from_slice-end
slice_bounds-extend_from_slice-end g c = grind (arith, elements)

pub loop-came-preserved : goal.loop-came-preserved
loop-came-preserved g c = grind (arith, common_steps)

pub returns-then-came-room-clause-too_large : goal.returns-then-came-room-clause-too_large
returns-then-came-room-clause-too_large g c = grind (arith, elements)

pub returns-then-is_err-clause-too_large : goal.returns-then-is_err-clause-too_large
returns-then-is_err-clause-too_large g c = grind arith

pub returns-then-came-eq0-clause-ended : goal.returns-then-came-eq0-clause-ended
returns-then-came-eq0-clause-ended g c = grind (arith, elements)

pub returns-then-came-eq0-clause-whole : goal.returns-then-came-eq0-clause-whole
returns-then-came-eq0-clause-whole g c = grind (arith, elements)

pub slice_bounds-extend_from_slice-end-in-loop-came : goal.slice_bounds-extend_from_slice-end-in-loop-came
slice_bounds-extend_from_slice-end-in-loop-came g c = grind (arith, elements)

pub loop-came-smaller : goal.loop-came-smaller
loop-came-smaller g c = grind (arith, elements)

pub returns-in-Err-clause-too_large : goal.returns-in-Err-clause-too_large
returns-in-Err-clause-too_large g c = grind arith

pub returns-then-came-eq0-clause-too_large : goal.returns-then-came-eq0-clause-too_large
returns-then-came-eq0-clause-too_large g c = grind arith

pub loop-came-init : goal.loop-came-init
loop-came-init g c = grind arith

pub slice_bounds-read-end-in-loop-came : goal.slice_bounds-read-end-in-loop-came
slice_bounds-read-end-in-loop-came g c = grind (arith, elements)

pub returns-in_default-clause-taken : goal.returns-in_default-clause-taken
returns-in_default-clause-taken g c = loses_none c.args.limit _

pub overflow_sub-room : goal.overflow_sub-room
overflow_sub-room g c = omega (arith, c.len.ensures, c.loop-came.bytes.ok, c.loop-came.invariant.0.within)

pub slice_bounds-read-end : goal.slice_bounds-read-end
slice_bounds-read-end g c = omega (arith, c.min-asked.ensures, c.loop-came.invariant.1)

pub read-requires : goal.read-requires
read-requires g c =
    let so_far = c.loop-came.invariant.0 in
    omega (arith, so_far.reads, so_far.within, c.requires)

pub returns-in-Err-clause-fault : goal.returns-in-Err-clause-fault
returns-in-Err-clause-fault g c =
    one_fault _ _ _ _ refl c.loop-came.invariant.0.failures c.in-Err.ensures.failures

pub returns-in-Err-clause-taken : goal.returns-in-Err-clause-taken
returns-in-Err-clause-taken g c =
    let so_far = c.loop-came.invariant.0 in
    loses_before c.args.limit _ _ _ c.loop-came.bytes.items so_far.taken c.in-Err.ensures.bytes so_far.within

pub returns-in-Err-clause-reads : goal.returns-in-Err-clause-reads
returns-in-Err-clause-reads g c =
    let so_far = c.loop-came.invariant.0 in
    reads_more _ _ _ _ _ so_far.earlier so_far.reads so_far.within c.read.ensures.reads

pub returns-in-Err-clause-failures : goal.returns-in-Err-clause-failures
returns-in-Err-clause-failures g c =
    failures_more _ _ _ c.loop-came.invariant.0.failures c.in-Err.ensures.failures

pub returns-then-came-eq0-clause-within : goal.returns-then-came-eq0-clause-within
returns-then-came-eq0-clause-within g c = c.loop-came.invariant.0.within

pub returns-then-came-eq0-clause-taken : goal.returns-then-came-eq0-clause-taken
returns-then-came-eq0-clause-taken g c =
    let so_far = c.loop-came.invariant.0 in
    let size = length-take c.in-Ok-read.came c.read.new.buf in
    ended_within c.args.limit _ _ _ c.loop-came.bytes.items (take c.in-Ok-read.came c.read.new.buf) so_far.taken c.in-Ok-read.ensures.bytes.0 so_far.within (omega arith)

pub returns-then-came-eq0-clause-turns : goal.returns-then-came-eq0-clause-turns
returns-then-came-eq0-clause-turns g c =
    turns_more _ _ _ _ c.loop-came.invariant.0.reads c.read.ensures.reads

pub returns-then-came-eq0-clause-fault : goal.returns-then-came-eq0-clause-fault
returns-then-came-eq0-clause-fault g c =
    no_fault _ _ _ _ (read_whole c.loop-came.bytes) c.loop-came.invariant.0.failures c.in-Ok-read.ensures.failures

pub returns-then-came-eq0-clause-reads : goal.returns-then-came-eq0-clause-reads
returns-then-came-eq0-clause-reads g c =
    let so_far = c.loop-came.invariant.0 in
    reads_more _ _ _ _ _ so_far.earlier so_far.reads so_far.within c.read.ensures.reads

pub returns-then-came-eq0-clause-failures : goal.returns-then-came-eq0-clause-failures
returns-then-came-eq0-clause-failures g c =
    failures_same _ _ _ c.loop-came.invariant.0.failures c.in-Ok-read.ensures.failures

pub returns-then-came-room-clause-fault : goal.returns-then-came-room-clause-fault
returns-then-came-room-clause-fault g c =
    no_fault _ _ _ _ too_large c.loop-came.invariant.0.failures c.in-Ok-read.ensures.failures

pub returns-then-came-room-clause-reads : goal.returns-then-came-room-clause-reads
returns-then-came-room-clause-reads g c =
    let so_far = c.loop-came.invariant.0 in
    reads_more _ _ _ _ _ so_far.earlier so_far.reads so_far.within c.read.ensures.reads

pub returns-then-came-room-clause-failures : goal.returns-then-came-room-clause-failures
returns-then-came-room-clause-failures g c =
    failures_same _ _ _ c.loop-came.invariant.0.failures c.in-Ok-read.ensures.failures

pub returns-then-is_err-clause-fault : goal.returns-then-is_err-clause-fault
returns-then-is_err-clause-fault g c =
    no_fault _ _ _ _ no_memory c.loop-came.invariant.0.failures c.in-Ok-read.ensures.failures

pub returns-then-is_err-clause-reads : goal.returns-then-is_err-clause-reads
returns-then-is_err-clause-reads g c =
    let so_far = c.loop-came.invariant.0 in
    reads_more _ _ _ _ _ so_far.earlier so_far.reads so_far.within c.read.ensures.reads

pub returns-then-is_err-clause-failures : goal.returns-then-is_err-clause-failures
returns-then-is_err-clause-failures g c =
    failures_same _ _ _ c.loop-came.invariant.0.failures c.in-Ok-read.ensures.failures
