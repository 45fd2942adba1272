use Rattle.std.proofs.Common.{[], Err, ap, ◌∙◌, refl}
use Rattle.std.proofs.lemmas.Result.{err_from_is_err_and}
use Rattle.mt_fault_terms.specs.OfRecord.{pair_repeats_after, repeats_after}
use Rattle.mt_fault_sink.specs.Telling.{at_record}
use Rattle.mt_fault_sink.proofs.TellingFacts.{Laws, finishes, starts}
use Rattle.mt_faults.specs.Repeated.{repeats_in_list}
use Rattle.mt_faults.specs.Seen.{parts_seen}
use Rattle.mt_faults.proofs.SearchFacts.{ends_at, tells_next}
use Rattle.mt_faults.proofs.finder.Finder.tell_repeated.Goals as goal

pub returns-in_err-tell_repeats : goal.returns-in_err-tell_repeats
returns-in_err-tell_repeats g c =
    let laws : Laws g.S.FaultSink.takes g.S.FaultSink.told g.S.FaultSink.stopped = record { none = g.met.S.FaultSink.told_none; more = g.met.S.FaultSink.told_more; stops = g.met.S.FaultSink.stopped_after } in
    let n = c.args.number in
    let rules = c.args.self.now.rules in
    let p = parts_seen c.args.parts.now in
    let s0 = starts laws c.args.sink.now (at_record n (repeats_in_list rules p)) c.requires in
    let q = err_from_is_err_and c.from_residual.result c.from_residual.ensures.1 in
    ends_at n c.tell_repeats.new.sink (repeats_after rules [] p.list) (pair_repeats_after rules [] p.pairs) (repeats_after rules [] p.list) c.in_err-tell_repeats.field-0.0 c.from_residual.result s0 c.in_err-tell_repeats.ensures refl (q.1 ∙ ap Err q.2)

pub returns : goal.returns
returns g c =
    let laws : Laws g.S.FaultSink.takes g.S.FaultSink.told g.S.FaultSink.stopped = record { none = g.met.S.FaultSink.told_none; more = g.met.S.FaultSink.told_more; stops = g.met.S.FaultSink.stopped_after } in
    let n = c.args.number in
    let rules = c.args.self.now.rules in
    let p = parts_seen c.args.parts.now in
    let s0 = starts laws c.args.sink.now (at_record n (repeats_in_list rules p)) c.requires in
    let s1 = tells_next n c.tell_repeats.new.sink (repeats_after rules [] p.list) (pair_repeats_after rules [] p.pairs) (repeats_after rules [] p.list) s0 c.in_ok-tell_repeats.ensures refl in
    finishes c.tell_pair_repeats.new.sink (at_record n (pair_repeats_after rules [] p.pairs)) c.tell_pair_repeats.result s1 refl c.tell_pair_repeats.ensures
