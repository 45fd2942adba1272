-- What the places of lists in chunks say of them.
use Rattle.std.proofs.Common.{◌≡◌, ℕ, zero, suc, ◌+◌, ◌<◌, ◌≤◌, List, [], ◌∷◌, ◌++◌, map, take, length, get_or, refl, sym, ap, ap₂, subst, subst₂, ◌∙◌, arith}
use Rattle.std.specs.Prelude.{All}
use Rattle.std.proofs.Math.Seq.{take-suc}
use Rattle.std.proofs.lemmas.List.{get_or-map, get_or_append_left, get_or_push, get_or_read, length-map, length_push, map-append, take_all}
use Rattle.std.proofs.lemmas.List.Elements.{All-append, All-get_or, All-head, All-nil, All-push, All-tail, All-weaker}
use Rattle.mt_flat.specs.ChunkedLists.{list_at, chunk_places, IsWithin}
use Rattle.mt_flat.specs.declared.chunked_lists.Place.{Place}

-- one place more
pub chunk_places-more : (chunk n : ℕ) → chunk_places chunk (n + 1) ≡ chunk_places chunk n ++ record { chunk = chunk; number = n } ∷ []
chunk_places-more chunk n = let e : n + 1 ≡ suc n = omega arith in ap (chunk_places chunk) e

-- Below, a chunk is added to others.
module _ {X : Type 0} (chunks : List (List (List X))) (chunk : List (List X)) where
  abbrev more : List (List (List X))
  more = chunks ++ chunk ∷ []

  at_old : (k : ℕ) → k < length chunks → get_or more k [] ≡ get_or chunks k []
  at_old k h = get_or_append_left chunks (chunk ∷ []) [] k h

  at_new : get_or more (length chunks) [] ≡ chunk
  at_new = get_or_push chunks chunk [] (length chunks) refl

  place_kept : (p : Place) → IsWithin chunks p → IsWithin more p
  place_kept p h = (omega (arith, length_push chunks chunk, h.0), subst (λ c. p.number < length c) (sym (at_old p.chunk h.0)) h.1)

  places_kept : (places : List Place) → All (IsWithin chunks) places → All (IsWithin more) places
  places_kept places h = All-weaker (IsWithin chunks) (IsWithin more) place_kept places h

  pub lists_kept : (places : List Place) → All (IsWithin chunks) places → map (list_at more) places ≡ map (list_at chunks) places
  lists_kept [] h = refl
  lists_kept (p ∷ ps) h =
      let first : list_at more p ≡ list_at chunks p = ap (λ (c : List (List X)). get_or c p.number []) (at_old p.chunk (All-head (IsWithin chunks) p ps h).0) in
      let rest : map (list_at more) ps ≡ map (list_at chunks) ps = lists_kept ps (All-tail (IsWithin chunks) p ps h) in
      cc

  new_within : (n : ℕ) → n ≤ length chunk → All (IsWithin more) (chunk_places (length chunks) n)
  new_within zero h = All-nil (IsWithin more)
  new_within (suc n) h =
      All-push (IsWithin more) (chunk_places (length chunks) n) (record { chunk = length chunks; number = n }) (new_within n (omega arith))
      (omega (arith, length_push chunks chunk), subst (λ (c : List (List X)). n < length c) (sym at_new) (omega arith))

  new_lists : (n : ℕ) → n ≤ length chunk → map (list_at more) (chunk_places (length chunks) n) ≡ take n chunk
  new_lists zero h = refl
  new_lists (suc n) h =
      let one : Place = record { chunk = length chunks; number = n } in
      map-append (list_at more) (chunk_places (length chunks) n) (one ∷ [])
      ∙ ap₂ (λ (ls : List (List X)) (l : List X). ls ++ l ∷ []) (new_lists n (omega arith)) (ap (λ (c : List (List X)). get_or c n []) at_new)
      ∙ sym (take-suc chunk n [] (omega arith))

  -- Below, the places of all its lists are added.
  places_more : (places : List Place) → All (IsWithin chunks) places → All (IsWithin more) (places ++ chunk_places (length chunks) (length chunk))
  places_more places h =
      All-append (IsWithin more) places (chunk_places (length chunks) (length chunk)) (places_kept places h) (new_within (length chunk) (omega arith))

  lists_more : (places : List Place) → All (IsWithin chunks) places → map (list_at more) (places ++ chunk_places (length chunks) (length chunk)) ≡ map (list_at chunks) places ++ chunk
  lists_more places h =
      map-append (list_at more) places (chunk_places (length chunks) (length chunk))
      ∙ ap₂ (λ (old : List (List X)) (new : List (List X)). old ++ new) (lists_kept places h) (new_lists (length chunk) (omega arith) ∙ take_all (length chunk) chunk (omega arith))

  pub places_after : (places all : List Place) (cs : List (List (List X))) → All (IsWithin chunks) places → all ≡ places ++ chunk_places (length chunks) (length chunk) → cs ≡ more → All (IsWithin cs) all
  places_after places all cs h added pushed = subst₂ (λ (ks : List (List (List X))) ps. All (IsWithin ks) ps) (sym pushed) (sym added) (places_more places h)

  pub lists_after : (places all : List Place) (cs : List (List (List X))) (lists : List (List X)) → All (IsWithin chunks) places → all ≡ places ++ chunk_places (length chunks) (length chunk) → cs ≡ more
      → map (list_at chunks) places ≡ lists → map (list_at cs) all ≡ lists ++ chunk
  lists_after places all cs lists h added pushed are =
      ap₂ (λ (ks : List (List (List X))) ps. map (list_at ks) ps) pushed added ∙ lists_more places h ∙ ap (λ (ls : List (List X)). ls ++ chunk) are

  pub places_before : (places all : List Place) (cs : List (List (List X))) → All (IsWithin chunks) places → all ≡ places → cs ≡ more → All (IsWithin cs) all
  places_before places all cs h same pushed = subst₂ (λ (ks : List (List (List X))) ps. All (IsWithin ks) ps) (sym pushed) (sym same) (places_kept places h)

-- Below, the list of a number is looked up by its place.
module _ {X : Type 0} (chunks : List (List (List X))) (places : List Place) (lists : List (List X)) (are : map (list_at chunks) places ≡ lists) where
  pub list_count : length places ≡ length lists
  list_count = sym (length-map places (list_at chunks)) ∙ ap (λ (ls : List (List X)). length ls) are

  module _ (within : All (IsWithin chunks) places) (k : ℕ) (low : k < length lists) (p : Place) (is : p ≡ get_or places k p) where
    low_place : k < length places
    low_place = omega (arith, list_count)

    pub place_within : IsWithin chunks p
    place_within = subst (IsWithin chunks) (sym is) (All-get_or (IsWithin chunks) places k p low_place within)

    module _ (chunk : List (List X)) (is_chunk : chunk ≡ get_or chunks p.chunk chunk) where
      chunk_is : chunk ≡ get_or chunks p.chunk []
      chunk_is = get_or_read chunks p.chunk chunk place_within.0 is_chunk []

      pub number_within : p.number < length chunk
      number_within = subst (λ (c : List (List X)). p.number < length c) (sym chunk_is) place_within.1

      pub list_is : get_or chunk p.number [] ≡ get_or lists k []
      list_is =
          ap (λ (c : List (List X)). get_or c p.number []) chunk_is ∙ ap (list_at chunks) is
          ∙ sym (get_or-map (list_at chunks) places k p [] low_place) ∙ ap (λ (ls : List (List X)). get_or ls k []) are
