use Rattle.std.proofs.Common.{◌∙◌, arith}
use Rattle.mt_flat.proofs.ChunkFacts.{list_count, list_is, number_within, place_within}
use Rattle.mt_flat.proofs.chunked_lists.ChunkedLists.list.Goals as goal

pub index-place-requires : goal.index-place-requires
index-place-requires g c = omega (arith, list_count c.self.inside.chunks.items c.self.inside.places.items c.args.self.now c.self.view_is)

pub index-requires : goal.index-requires
index-requires g c =
    omega (arith, (place_within c.self.inside.chunks.items c.self.inside.places.items c.args.self.now c.self.view_is c.self.invariant c.args.number c.requires c.index-place.result.now c.index-place.ensures).0)

pub list-requires : goal.list-requires
list-requires g c =
    number_within c.self.inside.chunks.items c.self.inside.places.items c.args.self.now c.self.view_is c.self.invariant c.args.number c.requires c.index-place.result.now c.index-place.ensures c.index.result.now c.index.ensures

pub returns : goal.returns
returns g c =
    c.list.ensures
    ∙ list_is c.self.inside.chunks.items c.self.inside.places.items c.args.self.now c.self.view_is c.self.invariant c.args.number c.requires c.index-place.result.now c.index-place.ensures c.index.result.now c.index.ensures
