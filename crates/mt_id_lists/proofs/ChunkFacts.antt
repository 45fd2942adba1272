-- Lists that are read in chunks, and the chunks joined.
use Rattle.std.proofs.Common.{◌≡◌, ◌<◌, ℕ, Bool, true, ◌&&◌, List, [], ◌∷◌, ◌++◌, map, flat_map, Option, Some, None, refl, ap, sym, subst, ◌∙◌, arith}
use Rattle.std.specs.Prelude.{is_some, Vec, Result, Ok, Err, MatchResult, IfOk, max}
use Rattle.std.specs.Global.{Global}
use Rattle.std.specs.Borrow.{Bor}
use Rattle.std.specs.declared.alloc.AllocError.{AllocError}
use Rattle.std.specs.List.{AllZip, Contains, list_all}
use Rattle.std.proofs.lemmas.List.{append_assoc, append-nil}
use Rattle.std.proofs.lemmas.List.Folds.{list_all-append}
use Rattle.rayon.proofs.ToStd.{slice-AllZip}
use Rattle.rayon.specs.Lists.{chunks_of}
use Rattle.mt_id_lists.specs.Reading.{Joins, ReadsAll, lists_in}

-- Chunks are joined, of which these are left.
pub record AreJoinedTo {X : Type 0} (all : List (Option (List (List X)))) (joined : List (List X)) (left : List (Option (List (List X)))) : Type 0 where
  pub are_read : list_all is_some left ≡ list_all is_some all
  pub rest : joined ++ flat_map lists_in left ≡ flat_map lists_in all

module _ {X : Type 0} (all : List (Option (List (List X)))) (joined : List (List X)) (left : List (Option (List (List X)))) (are : AreJoinedTo all joined left) where
  -- all are joined
  pub join_all : left ≡ [] → Joins all (Some joined)
  join_all none = (
    sym are.are_read ∙ ap (list_all is_some) none,
    sym (append-nil joined) ∙ ap (λ (l : List (Option (List (List X)))). joined ++ flat_map lists_in l) (sym none) ∙ are.rest,
  )

  -- a chunk wasn't read
  pub join_missing : (rest : List (Option (List (List X)))) → left ≡ None ∷ rest → Joins all None
  join_missing rest is = sym are.are_read ∙ ap (list_all is_some) is

  -- a chunk is joined
  pub join_one : (chunk : List (List X)) (rest : List (Option (List (List X)))) (new : List (List X)) → left ≡ Some chunk ∷ rest → new ≡ joined ++ chunk → AreJoinedTo all new rest
  join_one chunk rest new is grown = record {
    are_read = sym (ap (list_all is_some) is) ∙ are.are_read;
    rest = ap (λ (l : List (List X)). l ++ flat_map lists_in rest) grown
        ∙ append_assoc joined chunk (flat_map lists_in rest)
        ∙ sym (ap (λ (l : List (Option (List (List X)))). joined ++ flat_map lists_in l) is) ∙ are.rest;
  }

-- What is known of chunks of lists, one by one, is known of the lists.
module _ {L X : Type 0} (stands : L → Bool) (read : L → List (List X)) where
  abbrev AreChunks : List (List L) → List (Option (List (List X))) → Type 0
  AreChunks chunks done = AllZip (ReadsAll stands read) chunks done

  abbrev side_by_side : List (List L) → List L
  side_by_side chunks = flat_map (λ c. c) chunks

  pub chunks_read : (chunks : List (List L)) (done : List (Option (List (List X)))) → AreChunks chunks done
      → (list_all is_some done ≡ list_all stands (side_by_side chunks)) × (list_all is_some done ≡ true → flat_map lists_in done ≡ flat_map read (side_by_side chunks))
  chunks_read [] [] are = (refl, λ h. refl)
  chunks_read [] (d ∷ ds) are = absurd are
  chunks_read (c ∷ cs) [] are = absurd are
  chunks_read (c ∷ cs) (None ∷ ds) are = (
    sym (list_all-append stands c (side_by_side cs) ∙ ap (λ (b : Bool). b && list_all stands (side_by_side cs)) are.0),
    λ h. cc,
  )
  chunks_read (c ∷ cs) (Some new ∷ ds) are =
      let rest = chunks_read cs ds are.1 in (
        rest.0 ∙ sym (list_all-append stands c (side_by_side cs) ∙ ap (λ (b : Bool). b && list_all stands (side_by_side cs)) are.0.0),
        λ h. ap (λ (l : List (List X)). l ++ flat_map lists_in ds) are.0.1
            ∙ ap (λ (l : List (List X)). flat_map read c ++ l) (rest.1 h)
            ∙ sym (flat_map-both c (side_by_side cs)),
      )
    where
      flat_map-both : (xs ys : List L) → flat_map read (xs ++ ys) ≡ flat_map read xs ++ flat_map read ys
      flat_map-both [] ys = refl
      flat_map-both (x ∷ xs) ys = ap (λ (l : List (List X)). read x ++ l) (flat_map-both xs ys) ∙ sym (append_assoc (read x) (flat_map read xs) (flat_map read ys))

  -- the lists are read if their chunks are joined
  pub lists_read : (lists : List L) (chunks : List (List L)) (done : List (Option (List (List X)))) (new : Option (List (List X)))
      → AreChunks chunks done → flat_map (λ c. c) chunks ≡ lists → Joins done new → ReadsAll stands read lists new
  lists_read lists chunks done None are whole joins = sym (ap (list_all stands) whole) ∙ sym (chunks_read chunks done are).0 ∙ joins
  lists_read lists chunks done (Some new) are whole joins =
      let all = chunks_read chunks done are in (
        sym (ap (list_all stands) whole) ∙ sym all.0 ∙ joins.0,
        joins.1 ∙ all.1 joins.0 ∙ ap (flat_map read) whole,
      )

-- What is known of the chunk that a thread reads.
module _ {L Y : Type 0} (Is : List L → Y → Type 0) where
  -- results of threads that are all there
  all_there : (cs : List (List L)) (ys : List Y) → AllZip (λ c (r : Result Y AllocError). IfOk r (Is c)) cs (map Ok ys) → AllZip Is cs ys
  all_there [] [] h = tt
  all_there [] (y ∷ ys) h = absurd h
  all_there (c ∷ cs) [] h = absurd h
  all_there (c ∷ cs) (y ∷ ys) h = (h.0, all_there cs ys h.1)

  -- the chunks that threads read
  pub chunks_by_threads : (lists slice : List L) (size n : ℕ) (zs : List (Bor (List L))) (made : List (Result Y AllocError))
      (r : Result (Vec Y Global) AllocError) → 0 < size → n ≡ size → slice ≡ lists → map (λ (z : Bor (List L)). z.now) zs ≡ chunks_of (max n 1) slice
      → AllZip (λ (z : Bor (List L)) (r : Result Y AllocError). IfOk r (Is z.now)) zs made
      → MatchResult r (λ v. (ys : List Y) × (made ≡ map Ok ys) × (v.items ≡ ys)) (λ e. Contains made (Err e))
      → IfOk r (λ v. AllZip Is (chunks_of size lists) v.items)
  chunks_by_threads lists slice size n zs made (Err e) pos is whole shown each gives = tt
  chunks_by_threads lists slice size n zs made (Ok v) pos is whole shown each gives =
      let R : List L → Result Y AllocError → Type 0 = λ c r. IfOk r (Is c) in
      let same : max n 1 ≡ size = omega arith in
      let chunks : map (λ (z : Bor (List L)). z.now) zs ≡ chunks_of size lists = shown ∙ ap (λ (k : ℕ). chunks_of k slice) same ∙ ap (chunks_of size) whole in
      let all : AllZip R (chunks_of size lists) made = slice-AllZip zs (chunks_of size lists) chunks R made each in
      all_there (chunks_of size lists) v.items (subst (λ rs. AllZip R (chunks_of size lists) rs) (gives.1 ∙ ap (map Ok) (sym gives.2)) all)
