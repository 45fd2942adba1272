-- A desk that is written into a floor, entry by entry.
use Rattle.std.proofs.Common.{◌≡◌, ◌≢◌, ◌==◌, ◌||◌, ℕ, suc, ◌+◌, ◌<◌, ◌≤◌, Bool, true, false, Some, IsTrue, if◌then◌else◌, slice_get, take, length, set, get_or, refl, ap, ◌∙◌, arith, eq-eqb, ne_eqb, get_or-set_same, get_or-set_other, add-one}
use Rattle.std.proofs.lemmas.Bool.Decides.{nat_tests}
use Rattle.mt_terms.specs.Lists.{has, with_one}
use Rattle.mt_terms.specs.Market.{Market, applicants, live}
use Rattle.mt_terms.specs.Floor.{Floor, IsRecorded, proposed_at, proposed_to_on}
use Rattle.mt_floor_laws.proofs.FloorLists.{has-take-suc}
use Rattle.mt_core.specs.Desks.{with_desk, MayHave}
use Rattle.mt_core.specs.Floors.{Tables, floor_of, with_standing, IsOpenedWith}
use Rattle.mt_core.proofs.FloorTables.{same_floor}
use Rattle.mt_floor_laws.proofs.FloorEvents.{one_and_others}

-- what such a floor says of the applicant
pub desk_made : (m : Market) (f g : Floor) (a k : ℕ) (s : Bool) → g ≡ with_desk m f a k s → g.made a ≡ k
desk_made m f g a k s is = ap (λ (x : Floor). x.made a) is ∙ ap (λ t. if t then k else f.made a) (eq-eqb a a refl)

pub desk_received : (m : Market) (f g : Floor) (a k : ℕ) (s : Bool) → g ≡ with_desk m f a k s → (p : ℕ) → g.received p a ≡ has (take k (live m a)) p
desk_received m f g a k s is p = ap (λ (x : Floor). x.received p a) is ∙ ap (λ t. if t then has (take k (live m a)) p else f.received p a) (eq-eqb a a refl)

-- one proposal more of the same applicant, to its next live entry
pub with_desk_more : (m : Market) (f g : Floor) (a k p : ℕ) (s : Bool) → g ≡ with_desk m f a k s → slice_get (live m a) k ≡ Some p
    → proposed_at m g a p ≡ with_desk m f a (k + 1) ((proposed_at m g a p).standing a)
with_desk_more m f g a k p s is next =
    same_floor h (with_desk m f a (k + 1) (h.standing a))
    (one_and_others (λ b. h.made b ≡ (if b == a then k + 1 else f.made b)) a
    (rw (eq-eqb a a refl) (ap (λ n. n + 1) (desk_made m f g a k s is)))
    (λ b other. rw (ne_eqb b a other) (made_there b other)))
    (one_and_others (λ b. h.standing b ≡ (if b == a then h.standing a else f.standing b)) a (rw (eq-eqb a a refl) refl) (λ b other. rw (ne_eqb b a other) (stands_there b other)))
    (λ q. one_and_others (λ b. h.received q b ≡ (if b == a then has (take (k + 1) (live m a)) q else f.received q b)) a
    (rw (eq-eqb a a refl) (received_here q))
    (λ b other. rw (ne_eqb b a other) (received_there q b other)))
  where
    h : Floor
    h = proposed_at m g a p

    made_there : (b : ℕ) → b ≢ a → g.made b ≡ f.made b
    made_there b other = ap (λ (x : Floor). x.made b) is ∙ ap (λ t. if t then k else f.made b) (ne_eqb b a other)

    stands_there : (b : ℕ) → b ≢ a → g.standing b ≡ f.standing b
    stands_there b other = ap (λ (x : Floor). x.standing b) is ∙ ap (λ t. if t then s else f.standing b) (ne_eqb b a other)

    got_there : (q b : ℕ) → b ≢ a → g.received q b ≡ f.received q b
    got_there q b other = ap (λ (x : Floor). x.received q b) is ∙ ap (λ t. if t then has (take k (live m a)) q else f.received q b) (ne_eqb b a other)

    received_now : (q b : ℕ) → h.received q b ≡ (if q == p then ((b == a) || g.received p b) else g.received q b)
    received_now q b = by_test (q == p)
      where
        by_test : (t : Bool) → (if t then with_one (g.received p) a else g.received q) b ≡ (if t then ((b == a) || g.received p b) else g.received q b)
        by_test true = refl
        by_test false = refl

    received_here : (q : ℕ) → h.received q a ≡ has (take (k + 1) (live m a)) q
    received_here q =
        let more = has-take-suc (live m a) k p q next in
        let grown : has (take (k + 1) (live m a)) q ≡ has (take (suc k) (live m a)) q = ap (λ n. has (take n (live m a)) q) (add-one k) in
        let had = desk_received m f g a k s is q in
        let had_p = desk_received m f g a k s is p in
        received_now q a ∙ grind (arith, nat_tests)

    received_there : (q b : ℕ) → b ≢ a → h.received q b ≡ f.received q b
    received_there q b other =
        let had = got_there q b other in
        received_now q b ∙ grind (arith, nat_tests)

-- the same floor with another mark of who stands
pub with_desk_standing : (m : Market) (t : Tables) (f : Floor) (a k : ℕ) (s now : Bool) → IsOpenedWith m t → a < applicants m → floor_of m t ≡ with_desk m f a k s
    → floor_of m (with_standing t a now) ≡ with_desk m f a k now
unfolding floor_of
with_desk_standing m t f a k s now o low is =
    same_floor (floor_of m (with_standing t a now)) (with_desk m f a k now)
    (λ b. ap (λ (x : Floor). x.made b) is)
    (one_and_others (λ b. get_or (set t.standing a now) b false ≡ (if b == a then now else f.standing b)) a
    (rw (eq-eqb a a refl) (get_or-set_same t.standing a now false (omega (arith, o.standing))))
    (λ b other. rw (ne_eqb b a other) (get_or-set_other t.standing a b now false other ∙ ap (λ (x : Floor). x.standing b) is ∙ ap (λ x. if x then s else f.standing b) (ne_eqb b a other))))
    (λ p b. ap (λ (x : Floor). x.received p b) is)

-- a recorded floor with another desk is recorded
pub with_desk_recorded : (m : Market) (f : Floor) (a k : ℕ) (s : Bool) → IsRecorded m f → MayHave m a k s → IsRecorded m (with_desk m f a k s)
with_desk_recorded m f a k s r may = record {
  within = one_and_others (λ b. g.made b ≤ length (live m b)) a (rw (eq-eqb a a refl) may.within) (λ b other. rw (ne_eqb b a other) (r.within b));
  proposed = one_and_others (λ b. IsTrue (g.standing b) → 0 < g.made b) a (rw (eq-eqb a a refl) may.proposed) (λ b other. rw (ne_eqb b a other) (r.proposed b));
  receives = one_and_others (λ b. (p : ℕ) → g.received p b ≡ has (proposed_to_on m g b) p) a (λ p. rw (eq-eqb a a refl) refl) (λ b other p. rw (ne_eqb b a other) (r.receives b p));
}
  where
    g : Floor
    g = with_desk m f a k s
