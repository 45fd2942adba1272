use Rattle.std.proofs.Common.{◌≡◌, ◌≢◌, ◌+◌, IfNone, IfSome, vec_len}
use Rattle.std.specs.Vec.Iter.{into_iter_len}
use Rattle.mt_terms.specs.Lists.{total_below}
use Rattle.mt_terms.specs.Market.{applicants}
use Rattle.mt_hall.specs.Audits.{AreRows, entries_to, made_in}
use Rattle.mt_hall.proofs.audit.take_desks.Given as goal

abbrev pub invariant-desks : goal.invariant-desks
invariant-desks g l =
    let m = g.K.HallName.ranked.market in
    record {
      count : l.place + into_iter_len l.desks ≡ applicants m;
      shares : l.roll.shares ≡ l.fn.roll.shares + l.place;
      total : l.roll.total ≡ l.fn.roll.total;
      passes : l.roll.pass_credits ≡ l.fn.roll.pass_credits;
      len : vec_len l.rows ≡ applicants m;
      rows : IfNone l.astray (AreRows m l.rows.items l.place);
      credits : IfNone l.astray (l.roll.desk_credits + total_below (made_in l.rows.items) l.place ≡ entries_to m l.place);
      astray : IfSome l.astray (λ numbers. numbers.0 ≢ numbers.1);
    }

abbrev pub decreases-desks : goal.decreases-desks
decreases-desks g l = into_iter_len l.desks
