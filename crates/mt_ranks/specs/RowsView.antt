-- What rows in one vector mean.
use Rattle.std.specs.Prelude.{length}
use Rattle.mt_ranks.specs.Rows.{Filling, parts, sizes_between, ArePartsOf}
use Rattle.mt_ranks.specs.declared.rows.Rows.TheInside.{Inside}

abbrev pub filling_of : Inside → Filling
filling_of r = record {
  lists = parts r.starts.items r.ends.items r.items.items;
  sizes = sizes_between r.starts.items (length r.items.items);
}

abbrev pub AreRows : Inside → Type 0
AreRows r = ArePartsOf (length r.items.items) r.starts.items r.ends.items
