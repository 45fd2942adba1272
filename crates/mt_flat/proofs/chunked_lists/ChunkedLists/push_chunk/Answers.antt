use Rattle.std.proofs.Common.{◌≡◌, ℕ, List, ◌++◌, length, ap, ap₂, subst, sym, ◌∙◌}
use Rattle.std.specs.Prelude.{All}
use Rattle.mt_flat.specs.ChunkedLists.{chunk_places, IsWithin}
use Rattle.mt_flat.specs.declared.chunked_lists.Place.{Place}
use Rattle.mt_flat.proofs.ChunkFacts.{lists_after, places_after, places_before}
use Rattle.mt_flat.proofs.chunked_lists.ChunkedLists.push_chunk.Goals as goal

-- the places of a chunk were added, by its number and by the number of its lists
added : (places made more new : List Place) (number count chunks lists : ℕ)
    → new ≡ places ++ more → more ≡ made → made ≡ chunk_places number count → number ≡ chunks → count ≡ lists → new ≡ places ++ chunk_places chunks lists
added places made more new number count chunks lists is same from first last = is ∙ ap (λ ps. places ++ ps) (same ∙ from ∙ ap₂ chunk_places first last)

all_places : (g : _) (c : goal.After-drop-places-2 g) → c.extend_from_slice.new.self.items ≡ c.self.inside.places.items ++ chunk_places (length c.self.inside.chunks.items) (length c.args.chunk)
all_places g c =
    added c.self.inside.places.items _ _ _ c.in_ok-number.number c.in_ok-short_place.field-0 _ _ c.in_ok-extend_from_slice.ensures.items c.deref.ensures.value c.in_ok-places.ensures
    (c.in_ok-number.ensures.ok ∙ c.len.ensures ∙ c.self.inside.chunks.ok.0) (c.in_ok-short_place.ensures.ok ∙ c.len-2.ensures)

pub invariant_of-self-2 : goal.invariant_of-self-2
invariant_of-self-2 g c =
    places_after c.self.inside.chunks.items c.args.chunk c.self.inside.places.items _ c.push.new.self.items c.self.invariant (all_places g c) c.in_ok-push.ensures.items

pub returns : goal.returns
returns g c =
    lists_after c.self.inside.chunks.items c.args.chunk c.self.inside.places.items _ c.push.new.self.items _ c.self.invariant (all_places g c) c.in_ok-push.ensures.items c.self.view_is

pub invariant_of-self : goal.invariant_of-self
invariant_of-self g c = subst (λ chunks. All (IsWithin chunks) c.self.inside.places.items) (sym c.in_err-push.ensures.items) c.self.invariant

pub invariant_of-self-in_err-extend_from_slice : goal.invariant_of-self-in_err-extend_from_slice
invariant_of-self-in_err-extend_from_slice g c =
    places_before c.self.inside.chunks.items c.args.chunk c.self.inside.places.items _ c.push.new.self.items c.self.invariant c.in_err-extend_from_slice.ensures.items c.in_ok-push.ensures.items
