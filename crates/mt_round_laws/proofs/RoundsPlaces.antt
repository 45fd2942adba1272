-- Who is where after an agent's members were sent and displaced applicants taken out.
use Rattle.std.proofs.Common.{◌≡◌, ℕ, ◌<◌, true, false, not, ◌&&◌, ◌==◌, List, [], ◌∷◌, map, length, Option, Some, None, inl, inr, refl, ap, sym, ◌∙◌, is_some, slice_set, eq-eqb, eqb-true}
use Rattle.std.proofs.lemmas.List.{length-set, get_or-set_same, get_or-set_other, get_or_past}
use Rattle.std.proofs.lemmas.Bool.{cases_Bool, cases_lt, and_parts, and_from, and_right, or_cases, or_parts, false≢true, not-true}
use Rattle.mt_terms.specs.Lists.{has, count, is_distinct}
use Rattle.mt_terms.specs.Matching.{Places, Placement, place_of, is_program, at, filled, is_same_place, send, holds, unplaced, none_placed}
use Rattle.mt_round_laws.proofs.RoundsLists.{In, in_has, in_image, same_all}
use Rattle.mt_stability_laws.proofs.Seats.{filled_by_applicant, listed_count}
use Rattle.mt_terms.proofs.Totals.{count_below-same}

-- a place at a program is that program
pub is_program_some : (p : ℕ) (v : Option ℕ) → is_program p v ≡ true → v ≡ Some p
is_program_some p None h = absurd (false≢true h)
is_program_some p (Some q) h = ap Some (eqb-true q p h)

-- who is placed at a program is there
pub at_some : (places : Places) (p a : ℕ) → place_of places a ≡ Some p → at places p a ≡ true
at_some places p a e = rw e (eq-eqb p p refl)

-- who is unplaced is nowhere
pub at_none : (places : Places) (p a : ℕ) → place_of places a ≡ None → at places p a ≡ false
at_none places p a e = rw e refl

-- one applicant moved is there
placed_there : (places : Places) (a : ℕ) (v : Option ℕ) → a < length places → place_of (slice_set places a v) a ≡ v
placed_there places a v l = get_or-set_same places a v None l

-- the others stay where they were
placed_elsewhere : (places : Places) (a b : ℕ) (v : Option ℕ) → (a == b) ≡ false → place_of (slice_set places a v) b ≡ place_of places b
placed_elsewhere places a b v d = get_or-set_other places a b v None (λ same. false≢true (sym d ∙ eq-eqb a b (sym same)))

-- a match keeps its length
pub length-send : (sent : Placement) (places : Places) → length (send sent places) ≡ length places
length-send [] places = refl
length-send (s ∷ sent) places = length-send sent (slice_set places s.0 s.1) ∙ length-set places s.0 s.1

-- also if some are taken out
pub length-unplaced : (xs : List ℕ) (places : Places) → length (unplaced xs places) ≡ length places
length-unplaced [] places = refl
length-unplaced (x ∷ xs) places = length-unplaced xs (slice_set places x None) ∙ length-set places x None

-- whom a placement names
abbrev pub movers : Placement → List ℕ
movers sent = map (λ s. s.0) sent

-- who isn't named stays where it is
pub send_elsewhere : (sent : Placement) (places : Places) (a : ℕ) → has (movers sent) a ≡ false → place_of (send sent places) a ≡ place_of places a
send_elsewhere [] places a h = refl
send_elsewhere (s ∷ sent) places a h =
    let apart = or_parts (s.0 == a) (has (movers sent) a) h in
    send_elsewhere sent (slice_set places s.0 s.1) a apart.1 ∙ placed_elsewhere places s.0 a s.1 apart.0

-- who is named is where the placement sends it
pub send_there : (sent : Placement) (places : Places) (a : ℕ) (v : Option ℕ) → is_distinct (movers sent) ≡ true → a < length places
    → In (a, v) sent → place_of (send sent places) a ≡ v
send_there [] places a v d l i = absurd i
send_there (s ∷ sent) places a v d l (inl e) =
    let apart = and_parts (not (has (movers sent) s.0)) (is_distinct (movers sent)) d in
    let none : has (movers sent) a ≡ false = ap (λ t. has (movers sent) t.0) (sym e) ∙ not-true (has (movers sent) s.0) apart.0 in
    send_elsewhere sent (slice_set places s.0 s.1) a none ∙ ap (λ t. place_of (slice_set places t.0 t.1) a) e ∙ placed_there places a v l
send_there (s ∷ sent) places a v d l (inr i) =
    let apart = and_parts (not (has (movers sent) s.0)) (is_distinct (movers sent)) d in
    send_there sent (slice_set places s.0 s.1) a v apart.1 (rw (length-set places s.0 s.1) l) i

-- who is taken out has no place
pub unplaced_elsewhere : (xs : List ℕ) (places : Places) (a : ℕ) → has xs a ≡ false → place_of (unplaced xs places) a ≡ place_of places a
unplaced_elsewhere [] places a h = refl
unplaced_elsewhere (x ∷ xs) places a h =
    let apart = or_parts (x == a) (has xs a) h in
    unplaced_elsewhere xs (slice_set places x None) a apart.1 ∙ placed_elsewhere places x a None apart.0

-- who is taken out is unplaced
none_at : (places : Places) (x a : ℕ) → (x == a) ≡ true → place_of (slice_set places x None) a ≡ None
none_at places x a same =
    let is : x ≡ a = eqb-true x a same in
    elim (cases_lt a (length places)) [
      | inl l ↦ rw is (placed_there places a None l)
      | inr past ↦ get_or_past (slice_set places x None) a None (rw (length-set places x None) past)
    ]

-- a place that is none stays none
stays_none : (xs : List ℕ) (places : Places) (a : ℕ) → place_of places a ≡ None → place_of (unplaced xs places) a ≡ None
stays_none [] places a e = e
stays_none (x ∷ xs) places a e =
    stays_none xs (slice_set places x None) a
    (elim (cases_Bool (x == a)) [ inl same ↦ none_at places x a same | inr other ↦ placed_elsewhere places x a None other ∙ e ])

-- who is among those taken out has no place
pub unplaced_there : (xs : List ℕ) (places : Places) (a : ℕ) → has xs a ≡ true → place_of (unplaced xs places) a ≡ None
unplaced_there [] places a h = absurd (false≢true h)
unplaced_there (x ∷ xs) places a h = elim (or_cases (x == a) (has xs a) h) [
  | inl same ↦ stays_none xs (slice_set places x None) a (none_at places x a same)
  | inr rest ↦ unplaced_there xs (slice_set places x None) a rest
]

-- whether a match gives what a placement asks for goes by the places of those it names
pub holds_same : (P Q : Places) (sent : Placement) → ((a : ℕ) → has (movers sent) a ≡ true → place_of P a ≡ place_of Q a)
    → holds P sent ≡ holds Q sent
holds_same P Q sent h = same_all _ _ sent (λ s i. ap (λ v. is_same_place v s.1) (h s.0 (in_has s.0 (movers sent) (in_image (λ t. t.0) s sent i))))

-- whether a list is unplaced goes by the places on it
pub none_placed_same : (P Q : Places) (xs : List ℕ) → ((a : ℕ) → has xs a ≡ true → place_of P a ≡ place_of Q a)
    → none_placed P xs ≡ none_placed Q xs
none_placed_same P Q xs h = same_all _ _ xs (λ a i. ap (λ v. not (is_some v)) (h a (in_has a xs i)))

-- the same place is the same place
pub is_same_place_refl : (v : Option ℕ) → is_same_place v v ≡ true
is_same_place_refl None = refl
is_same_place_refl (Some p) = eq-eqb p p refl

-- if everybody at a program is on a list, as many are there as of that list
pub filled_is_count : (xs : List ℕ) (places : Places) (p : ℕ) → is_distinct xs ≡ true → ((a : ℕ) → has xs a ≡ true → a < length places)
    → ((a : ℕ) → at places p a ≡ true → has xs a ≡ true) → filled places p ≡ count (at places p) xs
filled_is_count xs places p d within on_list =
    filled_by_applicant places p ∙ count_below-same (at places p) (λ a. has xs a && at places p a) (length places) (λ a l. same a)
    ∙ sym (listed_count (at places p) xs (length places) d within)
  where
    same : (a : ℕ) → at places p a ≡ (has xs a && at places p a)
    same a = elim (cases_Bool (at places p a)) [ inl here ↦ here ∙ sym (and_from _ _ (on_list a here) here) | inr gone ↦ gone ∙ sym (and_right _ _ gone) ]
