use Rattle.std.proofs.Common.{arith}
use Rattle.mt_ranks.proofs.RowFacts.{row_exists, end_within, pushed_parts, pushed_seen}
use Rattle.mt_ranks.proofs.rows.Rows.push.Goals as goal

pub index-end-requires : goal.index-end-requires
index-end-requires c =
    omega (
      arith,
      row_exists c.self.inside.starts.items c.self.inside.ends.items c.self.inside.items.items c.args.self.now c.args.number c.self.invariant c.self.view_is c.requires.row,
    )

pub index_mut-requires : goal.index_mut-requires
index_mut-requires c =
    omega (
      arith,
      end_within c.self.inside.starts.items c.self.inside.ends.items c.self.inside.items.items c.args.self.now c.args.number c.index-end.result.now
          c.self.invariant c.self.view_is c.requires.row c.requires.room c.index-end.ensures,
    )

pub overflow_add-end : goal.overflow_add-end
overflow_add-end c =
    omega (
      arith,
      end_within c.self.inside.starts.items c.self.inside.ends.items c.self.inside.items.items c.args.self.now c.args.number c.index-end.result.now
          c.self.invariant c.self.view_is c.requires.row c.requires.room c.index-end.ensures,
    )

pub index_mut-requires-2 : goal.index_mut-requires-2
index_mut-requires-2 c =
    omega (
      arith,
      row_exists c.self.inside.starts.items c.self.inside.ends.items c.self.inside.items.items c.args.self.now c.args.number c.self.invariant c.self.view_is c.requires.row,
    )

pub invariant_of-self : goal.invariant_of-self
invariant_of-self c =
    pushed_parts c.self.inside.starts.items c.self.inside.ends.items c.self.inside.items.items c.args.self.now c.args.number c.index-end.result.now c.args.entry
    c.self.invariant c.self.view_is c.requires.row c.requires.room c.index-end.ensures

pub returns : goal.returns
returns c =
    pushed_seen c.self.inside.starts.items c.self.inside.ends.items c.self.inside.items.items c.args.self.now c.args.number c.index-end.result.now c.args.entry
    c.self.invariant c.self.view_is c.requires.row c.requires.room c.index-end.ensures
