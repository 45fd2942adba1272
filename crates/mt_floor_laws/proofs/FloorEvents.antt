-- What an event keeps of a floor.
use Rattle.std.proofs.Common.{◌≡◌, ℕ, zero, suc, ◌-◌, ◌<◌, ◌≤◌, Bool, true, false, not, ◌||◌, ◌==◌, List, [], ◌∷◌, length, take, Option, Some, None, is_some, slice_get, IsTrue, IsFalse, refl, ap, ap₂, sym, ◌∙◌, arith, subst, eq-eqb, ne_eqb, ◌≢◌, ◌⊎◌, inl, inr, if◌then◌else◌, add-one}
use Rattle.std.proofs.lemmas.Bool.{both_ways, or_right, and_parts, cases_Bool, cases_eq, not-true}
use Rattle.std.proofs.lemmas.Bool.Decides.{nat_tests}
use Rattle.mt_terms.specs.Lists.{Set, has, without}
use Rattle.mt_terms.specs.Market.{Market, program_of, live}
use Rattle.mt_terms.specs.Choice.{choice}
use Rattle.mt_terms.specs.Best.{IsExcluded}
use Rattle.mt_terms.specs.WellFormed.{IsWellFormed}
use Rattle.mt_terms.specs.Floor.{Floor, held_set, proposed_to_on, passed_programs, last_proposed_to, next_entry, is_held_by, IsRecorded, IsLegal, IsStrict, is_due, after, after_all, after_proposal, proposed_at, receives_one}
use Rattle.mt_floor_laws.specs.Floors.{LegalFromPassed, EventKeepsRecorded, EventKeepsLegal, EventKeepsStrict, EventsKeepRecorded, EventsKeepLegal, EventsKeepStrict}
use Rattle.mt_terms.specs.declared.events.Event.{Event}
use Rattle.mt_terms.specs.declared.events.Event.TheVariants.{Propose, Notice}
use Rattle.mt_terms.proofs.ListFacts.{has-from_take}
use Rattle.mt_terms.proofs.LiveFacts.{live_parts, live_distinct}
use Rattle.mt_floor_laws.proofs.FloorLists.{has-until-take, has-take-le, has-take-suc, has-take_before}
use Rattle.mt_stability_laws.proofs.FloorChoices.{choice_with_one}
use Rattle.mt_stability_laws.proofs.ExclusionLemmas.{exclusion_lem}

-- who has passed programs counts them among its proposals
passed_count : (b : Bool) (n : ℕ) → n - (if b then 1 else 0) ≤ n
passed_count b n = omega arith

-- all proposals but the last are of programs passed
front_count : (b : Bool) (n : ℕ) → n - 1 ≤ n - (if b then 1 else 0)
front_count true n = omega arith
front_count false n = omega arith

-- an applicant that has passed a program has tried it
pub tried_from_passed : (m : Market) (f : Floor) (a p : ℕ) → IsTrue (has (passed_programs m f a) p) → IsTrue (has (proposed_to_on m f a) p)
tried_from_passed m f a p h = has-take-le (live m a) _ (f.made a) p (passed_count (f.standing a) (f.made a)) h

-- the programs tried but for the last one are passed
pub passed_from_front : (m : Market) (f : Floor) (a p : ℕ) → IsTrue (has (take (f.made a - 1) (live m a)) p) → IsTrue (has (passed_programs m f a) p)
passed_from_front m f a p h = has-take-le (live m a) (f.made a - 1) _ p (front_count (f.standing a) (f.made a)) h

-- on a recorded floor, who is received at a program has tried it
pub tried_from_received : (m : Market) (f : Floor) → IsRecorded m f → (a p : ℕ) → IsTrue (f.received p a) → IsTrue (has (proposed_to_on m f a) p)
tried_from_received m f r a p on = sym (r.receives a p) ∙ on

-- All programs tried but the last are excluded.
pub record IsFrontExcluded (m : Market) (f : Floor) : Type 0 where
  pub front : (a p : ℕ) → IsTrue (has (take (f.made a - 1) (live m a)) p) → IsExcluded m a p

-- where all programs tried but the last are excluded, so is where an applicant was received and isn't held
pub refused_is_excluded : (m : Market) → IsWellFormed m → (f : Floor) → IsRecorded m f → IsFrontExcluded m f
    → (a p : ℕ) → IsTrue (f.received p a) → IsFalse (held_set m f p a) → IsExcluded m a p
refused_is_excluded m wf f r excluded a p on out =
    exclusion_lem m wf p (f.received p)
    (λ b on_b. (live_parts m b p (has-from_take (live m b) (f.made b) p (tried_from_received m f r b p on_b))).1)
    (λ b q on_b before. excluded.front b q (has-until-take (live m b) (f.made b) p q (tried_from_received m f r b p on_b) before))
    a on out

-- the third clause of a legal floor follows from the first two
pub legal_from_passed_lem : LegalFromPassed
legal_from_passed_lem m wf f r excluded =
    let front_excluded : IsFrontExcluded m f = record { front = λ a p h. excluded a p (passed_from_front m f a p h) } in
    record { recorded = r; passed_excluded = excluded; refused_excluded = refused_is_excluded m wf f r front_excluded }

-- A proposal that is due: the applicant doesn't stand, and the program is the next on its live list.
pub record IsNext (m : Market) (f : Floor) (a p : ℕ) : Type 0 where
  pub free : IsFalse (f.standing a)
  pub next : slice_get (live m a) (f.made a) ≡ Some p

-- what an entry that there is only for who doesn't stand tells
if_none : (b : Bool) (o : Option ℕ) (p : ℕ) → (if b then None else o) ≡ Some p → IsFalse b × (o ≡ Some p)
if_none true o p e = cc
if_none false o p e = (refl, e)

-- the next entry of an applicant is a proposal that is due
pub next_facts : (m : Market) (f : Floor) (a p : ℕ) → next_entry m f a ≡ Some p → IsNext m f a p
next_facts m f a p e =
    let facts = if_none (f.standing a) (slice_get (live m a) (f.made a)) p e in
    record { free = facts.0; next = facts.1 }

-- how many proposals have been made after one more, by its applicant and by another one
pub made_same : (m : Market) (f : Floor) (a p : ℕ) → (proposed_at m f a p).made a ≡ suc (f.made a)
made_same m f a p = rw (eq-eqb a a refl) (add-one (f.made a))

pub made_other : (m : Market) (f : Floor) (a p b : ℕ) → b ≢ a → (proposed_at m f a p).made b ≡ f.made b
made_other m f a p b other = rw (ne_eqb b a other) refl

-- after a proposal an applicant has tried the program too
tried_same : (m : Market) (f : Floor) (a p q : ℕ) → IsNext m f a p → has (proposed_to_on m (proposed_at m f a p) a) q ≡ (has (proposed_to_on m f a) q || (p == q))
tried_same m f a p q n = rw (made_same m f a p) (has-take-suc (live m a) (f.made a) p q n.next)

-- after a proposal, another applicant has tried what it had
tried_other : (m : Market) (f : Floor) (a p b : ℕ) → b ≢ a → proposed_to_on m (proposed_at m f a p) b ≡ proposed_to_on m f b
tried_other m f a p b other = ap (λ k. take k (live m b)) (made_other m f a p b other)

-- who stands after a proposal: its applicant where the program chooses it, another one where it stood
standing_same : (m : Market) (f : Floor) (a p : ℕ) → (proposed_at m f a p).standing a ≡ choice (program_of m p) (receives_one f p a) a
standing_same m f a p = rw (eq-eqb a a refl) refl

pub standing_other : (m : Market) (f : Floor) (a p b : ℕ) → b ≢ a → (proposed_at m f a p).standing b ≡ f.standing b
standing_other m f a p b other = rw (ne_eqb b a other) refl

-- after a proposal, the program has received the applicant too
received_same : (m : Market) (f : Floor) (a p q : ℕ) → (proposed_at m f a p).received q a ≡ (f.received q a || (p == q))
received_same m f a p q = grind (arith, nat_tests)

-- of another applicant, no program has received more
received_other : (m : Market) (f : Floor) (a p q b : ℕ) → b ≢ a → (proposed_at m f a p).received q b ≡ f.received q b
received_other m f a p q b other = grind (arith, nat_tests)

-- another program has received whom it had
received_elsewhere : (m : Market) (f : Floor) (a p q : ℕ) → q ≢ p → (proposed_at m f a p).received q ≡ f.received q
received_elsewhere m f a p q other = rw (ne_eqb q p other) refl

-- the program has received one more
received_there : (m : Market) (f : Floor) (a p : ℕ) → (proposed_at m f a p).received p ≡ receives_one f p a
received_there m f a p = rw (eq-eqb p p refl) refl

-- what is so of one number and of each other one is so of each
pub one_and_others : (P : ℕ → Type 0) (a : ℕ) → P a → ((b : ℕ) → b ≢ a → P b) → (b : ℕ) → P b
one_and_others P a here others b = go (cases_eq b a)
  where
    go : (b ≡ a) ⊎ (b ≢ a) → P b
    go (inl same) = subst P (sym same) here
    go (inr other) = others b other

-- a place at which an element stands is within the list
pub within_get : (xs : List ℕ) (k p : ℕ) → slice_get xs k ≡ Some p → k < length xs
within_get [] k p e = cc
within_get (x ∷ xs) zero p e = omega arith
within_get (x ∷ xs) (suc k) p e = omega (arith, within_get xs k p e)

-- a proposal keeps a floor recorded
proposal_keeps_recorded : (m : Market) (f : Floor) (a p : ℕ) → IsNext m f a p → IsRecorded m f → IsRecorded m (proposed_at m f a p)
proposal_keeps_recorded m f a p n r = record {
  within = one_and_others (λ b. (proposed_at m f a p).made b ≤ length (live m b)) a
      (rw (made_same m f a p) (within_get (live m a) (f.made a) p n.next))
      (λ b other. rw (made_other m f a p b other) (r.within b));
  proposed = one_and_others (λ b. IsTrue ((proposed_at m f a p).standing b) → 0 < (proposed_at m f a p).made b) a
      (λ stands. rw (made_same m f a p) (omega arith))
      (λ b other stands. rw (made_other m f a p b other) (r.proposed b (sym (standing_other m f a p b other) ∙ stands)));
  receives = one_and_others (λ b. (q : ℕ) → (proposed_at m f a p).received q b ≡ has (proposed_to_on m (proposed_at m f a p) b) q) a
      (λ q. received_same m f a p q ∙ ap (λ t. t || (p == q)) (r.receives a q) ∙ sym (tried_same m f a p q n))
      (λ b other q. received_other m f a p q b other ∙ r.receives b q ∙ ap (λ ps. has ps q) (sym (tried_other m f a p b other)));
}

-- who doesn't stand has passed all that it has tried
pub passed_where_free : (m : Market) (f : Floor) (a : ℕ) → IsFalse (f.standing a) → passed_programs m f a ≡ proposed_to_on m f a
passed_where_free m f a free = let e : f.made a - (if f.standing a then 1 else 0) ≡ f.made a = rw free (omega arith) in ap (λ k. take k (live m a)) e

-- after a proposal, all programs tried but the last are excluded
proposal_keeps_front : (m : Market) (f : Floor) (a p : ℕ) → IsNext m f a p
    → ((b q : ℕ) → IsTrue (has (passed_programs m f b) q) → IsExcluded m b q) → IsFrontExcluded m (proposed_at m f a p)
proposal_keeps_front m f a p n excluded = record {
  front = one_and_others (λ b. (q : ℕ) → IsTrue (has (take ((proposed_at m f a p).made b - 1) (live m b)) q) → IsExcluded m b q) a
      (λ q on.
      let e : (proposed_at m f a p).made a - 1 ≡ f.made a = omega (arith, made_same m f a p) in
      excluded a q (rw (passed_where_free m f a n.free) (subst (λ (k : ℕ). IsTrue (has (take k (live m a)) q)) e on)))
      (λ b other q on.
      excluded b q (passed_from_front m f b q (subst (λ (k : ℕ). IsTrue (has (take (k - 1) (live m b)) q)) (made_other m f a p b other) on)));
}

-- what an applicant has passed, by whether it stands and how much it has tried
passed_from : (m : Market) (f : Floor) (a : ℕ) (b : Bool) (k : ℕ) → f.standing a ≡ b → f.made a ≡ k → passed_programs m f a ≡ take (k - (if b then 1 else 0)) (live m a)
passed_from m f a b k stands makes = ap₂ (λ (s : Bool) (n : ℕ). take (n - (if s then 1 else 0)) (live m a)) stands makes

-- an applicant that is kept at a proposal has passed what it tried before
passed_if_kept : (m : Market) (f : Floor) (a p : ℕ) → IsTrue ((proposed_at m f a p).standing a) → passed_programs m (proposed_at m f a p) a ≡ proposed_to_on m f a
passed_if_kept m f a p kept =
    let e : suc (f.made a) - 1 ≡ f.made a = omega arith in
    passed_from m (proposed_at m f a p) a true (suc (f.made a)) kept (made_same m f a p) ∙ ap (λ k. take k (live m a)) e

-- after a proposal, another applicant has passed what it had
passed_other : (m : Market) (f : Floor) (a p b : ℕ) → b ≢ a → passed_programs m (proposed_at m f a p) b ≡ passed_programs m f b
passed_other m f a p b other = passed_from m (proposed_at m f a p) b (f.standing b) (f.made b) (standing_other m f a p b other) (made_other m f a p b other)

-- an applicant that isn't kept at a proposal has passed the program too
passed_if_refused : (m : Market) (f : Floor) (a p q : ℕ) → IsNext m f a p → IsFalse ((proposed_at m f a p).standing a)
    → IsTrue (has (passed_programs m (proposed_at m f a p) a) q) → (IsTrue (has (proposed_to_on m f a) q)) ⊎ (p ≡ q)
passed_if_refused m f a p q n free on =
    let now : IsTrue (has (proposed_to_on m f a) q || (p == q)) = sym (tried_same m f a p q n) ∙ ap (λ ps. has ps q) (sym (passed_where_free m (proposed_at m f a p) a free)) ∙ on in
    grind (arith, nat_tests)

-- who has just proposed to a program is received there, and held there if it stands
is_received : (m : Market) (f : Floor) (a p : ℕ) → IsTrue ((proposed_at m f a p).received p a)
is_received m f a p = received_same m f a p p ∙ or_right _ _ (eq-eqb p p refl)

-- after a proposal, the program holds its applicant if this one stands
held_same : (m : Market) (f : Floor) (a p : ℕ) → held_set m (proposed_at m f a p) p a ≡ (proposed_at m f a p).standing a
held_same m f a p = ap (λ (set : Set). choice (program_of m p) set a) (received_there m f a p) ∙ sym (standing_same m f a p)

-- a proposal keeps what was passed excluded
proposal_keeps_excluded : (m : Market) → IsWellFormed m → (f : Floor) (a p : ℕ) → IsNext m f a p → IsRecorded m f
    → ((b q : ℕ) → IsTrue (has (passed_programs m f b) q) → IsExcluded m b q)
    → (b q : ℕ) → IsTrue (has (passed_programs m (proposed_at m f a p) b) q) → IsExcluded m b q
proposal_keeps_excluded m wf f a p n r excluded =
    one_and_others (λ b. (q : ℕ) → IsTrue (has (passed_programs m (proposed_at m f a p) b) q) → IsExcluded m b q) a
    (λ q on. kept_or_not q on (cases_Bool ((proposed_at m f a p).standing a)))
    (λ b other q on. excluded b q (subst (λ ps. IsTrue (has ps q)) (passed_other m f a p b other) on))
  where
    before : (q : ℕ) → IsTrue (has (proposed_to_on m f a) q) → IsExcluded m a q
    before q on = excluded a q (rw (passed_where_free m f a n.free) on)

    refused : IsFalse ((proposed_at m f a p).standing a) → IsExcluded m a p
    refused free =
        refused_is_excluded m wf (proposed_at m f a p) (proposal_keeps_recorded m f a p n r) (proposal_keeps_front m f a p n excluded)
        a p (is_received m f a p) (held_same m f a p ∙ free)

    before_or_now : (q : ℕ) → IsFalse ((proposed_at m f a p).standing a) → (IsTrue (has (proposed_to_on m f a) q)) ⊎ (p ≡ q) → IsExcluded m a q
    before_or_now q free (inl on) = before q on
    before_or_now q free (inr same) = subst (λ (x : ℕ). IsExcluded m a x) same (refused free)

    kept_or_not : (q : ℕ) → IsTrue (has (passed_programs m (proposed_at m f a p) a) q) → (IsTrue ((proposed_at m f a p).standing a)) ⊎ (IsFalse ((proposed_at m f a p).standing a)) → IsExcluded m a q
    kept_or_not q on (inl kept) = before q (ap (λ ps. has ps q) (sym (passed_if_kept m f a p kept)) ∙ on)
    kept_or_not q on (inr free) = before_or_now q free (passed_if_refused m f a p q n free on)

-- a proposal keeps a floor legal
proposal_keeps_legal : (m : Market) → IsWellFormed m → (f : Floor) (a p : ℕ) → IsNext m f a p → IsLegal m f → IsLegal m (proposed_at m f a p)
proposal_keeps_legal m wf f a p n l =
    legal_from_passed_lem m wf (proposed_at m f a p) (proposal_keeps_recorded m f a p n l.recorded) (proposal_keeps_excluded m wf f a p n l.recorded l.passed_excluded)

-- a proposal keeps who isn't held at a program so, but for who proposes to it
proposal_keeps_out : (m : Market) (f : Floor) (a p b q : ℕ) → (b ≢ a) ⊎ (q ≢ p) → IsFalse (held_set m f q b) → IsFalse (held_set m (proposed_at m f a p) q b)
proposal_keeps_out m f a p b q (inr elsewhere) out = ap (λ (set : Set). choice (program_of m q) set b) (received_elsewhere m f a p q elsewhere) ∙ out
proposal_keeps_out m f a p b q (inl other) out = there_or_not (cases_eq q p)
  where
    at_program : (x : ℕ) → x ≡ p → IsFalse (held_set m f x b) → IsFalse (held_set m (proposed_at m f a p) x b)
    at_program x there out_x =
        let e : (proposed_at m f a p).received x ≡ receives_one f x a = ap (λ (y : ℕ). (proposed_at m f a p).received y) there ∙ received_there m f a p ∙ ap (λ (y : ℕ). receives_one f y a) (sym there) in
        ap (λ (set : Set). choice (program_of m x) set b) e ∙ choice_with_one (program_of m x) (f.received x) a b other out_x

    there_or_not : (q ≡ p) ⊎ (q ≢ p) → IsFalse (held_set m (proposed_at m f a p) q b)
    there_or_not (inl there) = at_program q there out
    there_or_not (inr elsewhere) = ap (λ (set : Set). choice (program_of m q) set b) (received_elsewhere m f a p q elsewhere) ∙ out

-- a proposal keeps a floor strict
proposal_keeps_strict : (m : Market) → IsWellFormed m → (f : Floor) (a p : ℕ) → IsNext m f a p → IsStrict m f → IsStrict m (proposed_at m f a p)
proposal_keeps_strict m wf f a p n s = record {
  legal = proposal_keeps_legal m wf f a p n s.legal;
  let_go = one_and_others (λ b. (q : ℕ) → IsTrue (has (passed_programs m (proposed_at m f a p) b) q) → IsFalse (held_set m (proposed_at m f a p) q b)) a
      (λ q on. kept_or_not q on (cases_Bool ((proposed_at m f a p).standing a)))
      (λ b other q on. proposal_keeps_out m f a p b q (inl other) (s.let_go b q (subst (λ ps. IsTrue (has ps q)) (passed_other m f a p b other) on)));
}
  where
    before : (q : ℕ) → IsTrue (has (proposed_to_on m f a) q) → IsFalse (held_set m (proposed_at m f a p) q a)
    before q on =
        proposal_keeps_out m f a p a q (inr (λ same. both_ways _ (has-take_before (live m a) (f.made a) p (live_distinct m wf a) n.next) (subst (λ (x : ℕ). IsTrue (has (proposed_to_on m f a) x)) same on)))
        (s.let_go a q (rw (passed_where_free m f a n.free) on))

    before_or_now : (q : ℕ) → IsFalse ((proposed_at m f a p).standing a) → (IsTrue (has (proposed_to_on m f a) q)) ⊎ (p ≡ q) → IsFalse (held_set m (proposed_at m f a p) q a)
    before_or_now q free (inl on) = before q on
    before_or_now q free (inr same) = subst (λ (x : ℕ). IsFalse (held_set m (proposed_at m f a p) x a)) same (held_same m f a p ∙ free)

    kept_or_not : (q : ℕ) → IsTrue (has (passed_programs m (proposed_at m f a p) a) q) → (IsTrue ((proposed_at m f a p).standing a)) ⊎ (IsFalse ((proposed_at m f a p).standing a)) → IsFalse (held_set m (proposed_at m f a p) q a)
    kept_or_not q on (inl kept) = before q (ap (λ ps. has ps q) (sym (passed_if_kept m f a p kept)) ∙ on)
    kept_or_not q on (inr free) = before_or_now q free (passed_if_refused m f a p q n free on)

-- A notice that is due: the applicant stands, and the program to which it proposed last doesn't hold it.
pub record IsDropped (m : Market) (f : Floor) (a k p : ℕ) : Type 0 where
  pub stands : IsTrue (f.standing a)
  pub made_more : f.made a ≡ suc k
  pub last : slice_get (live m a) k ≡ Some p
  pub out : IsFalse (held_set m f p a)

-- an element stands at each place of a list
pub get_some : (xs : List ℕ) (k : ℕ) → k < length xs → (p : ℕ) × (slice_get xs k ≡ Some p)
get_some [] k h = absurd (omega arith)
get_some (x ∷ xs) zero h = (x, refl)
get_some (x ∷ xs) (suc k) h = get_some xs k (omega arith)

-- Who stands has a program to which it proposed last.
pub record HasLast (m : Market) (f : Floor) (a k p : ℕ) : Type 0 where
  pub made_more : f.made a ≡ suc k
  pub last : slice_get (live m a) k ≡ Some p
  pub last_is : last_proposed_to m f a ≡ Some p

-- on a recorded floor, who stands has such a program
pub last_facts : (m : Market) (f : Floor) → IsRecorded m f → (a : ℕ) → IsTrue (f.standing a) → (k p : ℕ) × HasLast m f a k p
last_facts m f r a stands =
    let made_some = r.proposed a stands in
    let within = r.within a in
    let found = get_some (live m a) (f.made a - 1) (omega arith) in
    let e : last_proposed_to m f a ≡ slice_get (live m a) (f.made a - 1) = rw (ne_eqb (f.made a) 0 (omega arith)) refl in
    (f.made a - 1, found.0, record { made_more = omega arith; last = found.1; last_is = e ∙ found.1 })

-- who stands has passed all that it has tried but the last
pub passed_where_standing : (m : Market) (f : Floor) (a k p : ℕ) → IsTrue (f.standing a) → HasLast m f a k p → passed_programs m f a ≡ take k (live m a)
passed_where_standing m f a k p stands l = passed_from m f a true (suc k) stands l.made_more ∙ ap (λ n. take n (live m a)) (omega arith)

-- a notice that is due is one
dropped_facts : (m : Market) (f : Floor) → IsRecorded m f → (a : ℕ) → IsTrue (is_due m f (Notice a)) → (k p : ℕ) × IsDropped m f a k p
dropped_facts m f r a due =
    let parts = and_parts (f.standing a) _ due in
    let l = last_facts m f r a parts.0 in
    let out : IsFalse (held_set m f l.1 a) = not-true _ (ap (λ o. not (is_held_by m f a o)) (sym l.2.last_is) ∙ parts.1) in
    (l.0, l.1, record { stands = parts.0; made_more = l.2.made_more; last = l.2.last; out = out })

-- the floor after a notice
abbrev pub noticed : Floor → ℕ → Floor
noticed f a = record f { standing = without f.standing a }

-- who stands after a notice: its applicant doesn't, another one as before
pub noticed_same : (f : Floor) (a : ℕ) → IsFalse ((noticed f a).standing a)
noticed_same f a = rw (eq-eqb a a refl) refl

pub noticed_other : (f : Floor) (a b : ℕ) → b ≢ a → (noticed f a).standing b ≡ f.standing b
noticed_other f a b other = rw (ne_eqb b a other) refl

-- a notice keeps a floor recorded
notice_keeps_recorded : (m : Market) (f : Floor) (a : ℕ) → IsRecorded m f → IsRecorded m (noticed f a)
notice_keeps_recorded m f a r = record {
  within = r.within;
  proposed = λ b stands. r.proposed b (and_parts _ _ stands).1;
  receives = r.receives;
}

-- after a notice the applicant has passed the program too
passed_if_dropped : (m : Market) (f : Floor) (a k p q : ℕ) → IsDropped m f a k p → IsTrue (has (passed_programs m (noticed f a) a) q) → (IsTrue (has (passed_programs m f a) q)) ⊎ (p ≡ q)
passed_if_dropped m f a k p q d on =
    let before : passed_programs m f a ≡ take k (live m a) = passed_from m f a true (suc k) d.stands d.made_more ∙ ap (λ n. take n (live m a)) (omega arith) in
    let now : passed_programs m (noticed f a) a ≡ take (suc k) (live m a) = passed_where_free m (noticed f a) a (noticed_same f a) ∙ ap (λ n. take n (live m a)) d.made_more in
    let both : IsTrue (has (take k (live m a)) q || (p == q)) = sym (has-take-suc (live m a) k p q d.last) ∙ ap (λ ps. has ps q) (sym now) ∙ on in
    before_or_last (ap (λ ps. has ps q) before) both
  where
    before_or_last : {x y : Bool} → x ≡ y → IsTrue (y || (p == q)) → (IsTrue x) ⊎ (p ≡ q)
    before_or_last e both = grind (arith, nat_tests)

-- after a notice, another applicant has passed what it had
passed_after_notice : (m : Market) (f : Floor) (a b : ℕ) → b ≢ a → passed_programs m (noticed f a) b ≡ passed_programs m f b
passed_after_notice m f a b other = passed_from m (noticed f a) b (f.standing b) (f.made b) (noticed_other f a b other) refl

-- what is so of each program that an applicant has passed, and of the one that dropped it, is so after the notice
after_notice : (m : Market) (f : Floor) (a k p : ℕ) → IsDropped m f a k p → (P : ℕ → ℕ → Type 0)
    → ((b q : ℕ) → IsTrue (has (passed_programs m f b) q) → P b q) → P a p → (b q : ℕ) → IsTrue (has (passed_programs m (noticed f a) b) q) → P b q
after_notice m f a k p d P before now =
    one_and_others (λ b. (q : ℕ) → IsTrue (has (passed_programs m (noticed f a) b) q) → P b q) a
    (λ q on. before_or_now q (passed_if_dropped m f a k p q d on))
    (λ b other q on. before b q (subst (λ ps. IsTrue (has ps q)) (passed_after_notice m f a b other) on))
  where
    before_or_now : (q : ℕ) → (IsTrue (has (passed_programs m f a) q)) ⊎ (p ≡ q) → P a q
    before_or_now q (inl on) = before a q on
    before_or_now q (inr same) = subst (λ (x : ℕ). P a x) same now

-- the program that drops an applicant has received it
received_at_last : (m : Market) (f : Floor) → IsRecorded m f → (a k p : ℕ) → IsDropped m f a k p → IsTrue (f.received p a)
received_at_last m f r a k p d =
    r.receives a p ∙ ap (λ n. has (take n (live m a)) p) d.made_more ∙ has-take-suc (live m a) k p p d.last ∙ or_right _ _ (eq-eqb p p refl)

-- a notice keeps a floor legal
notice_keeps_legal : (m : Market) → IsWellFormed m → (f : Floor) (a k p : ℕ) → IsDropped m f a k p → IsLegal m f → IsLegal m (noticed f a)
notice_keeps_legal m wf f a k p d l =
    legal_from_passed_lem m wf (noticed f a) (notice_keeps_recorded m f a l.recorded)
    (after_notice m f a k p d (λ b q. IsExcluded m b q) l.passed_excluded (l.refused_excluded a p (received_at_last m f l.recorded a k p d) d.out))

-- a notice keeps a floor strict
notice_keeps_strict : (m : Market) → IsWellFormed m → (f : Floor) (a k p : ℕ) → IsDropped m f a k p → IsStrict m f → IsStrict m (noticed f a)
notice_keeps_strict m wf f a k p d s = record {
  legal = notice_keeps_legal m wf f a k p d s.legal;
  let_go = after_notice m f a k p d (λ b q. IsFalse (held_set m f q b)) s.let_go d.out;
}

-- what is so after each due proposal and after each due notice is so after each event that is due
pub after_due : (m : Market) (P : Floor → Type 0) (f : Floor) → IsRecorded m f
    → ((a p : ℕ) → IsNext m f a p → P (proposed_at m f a p)) → ((a k p : ℕ) → IsDropped m f a k p → P (noticed f a))
    → (e : Event) → IsTrue (is_due m f e) → P (after m f e)
after_due m P f r by_proposal by_notice (Propose a) due = go (next_entry m f a) refl due
  where
    go : (o : Option ℕ) → next_entry m f a ≡ o → IsTrue (is_some o) → P (after_proposal m f a o)
    go None e h = absurd (both_ways false refl h)
    go (Some p) e h = by_proposal a p (next_facts m f a p e)
after_due m P f r by_proposal by_notice (Notice a) due =
    let d = dropped_facts m f r a due in
    let now : after m f (Notice a) ≡ noticed f a = ap (λ b. if b then (noticed f a) else f) due in
    subst P (sym now) (by_notice a d.0 d.1 d.2)

-- an event that isn't due changes nothing
pub after_not_due : (m : Market) (f : Floor) (e : Event) → IsFalse (is_due m f e) → after m f e ≡ f
after_not_due m f (Propose a) h = go (next_entry m f a) h
  where
    go : (o : Option ℕ) → IsFalse (is_some o) → after_proposal m f a o ≡ f
    go None h = refl
    go (Some p) h = absurd (both_ways true h refl)
after_not_due m f (Notice a) h = ap (λ b. if b then (noticed f a) else f) h

-- a property of recorded floors that due proposals and due notices keep
event_keeps : (m : Market) (P : Floor → Type 0) → ((f : Floor) → P f → IsRecorded m f)
    → ((f : Floor) (a p : ℕ) → IsNext m f a p → P f → P (proposed_at m f a p))
    → ((f : Floor) (a k p : ℕ) → IsDropped m f a k p → P f → P (noticed f a))
    → (f : Floor) (e : Event) → P f → P (after m f e)
event_keeps m P recorded by_proposal by_notice f e h = go (cases_Bool (is_due m f e))
  where
    go : (IsTrue (is_due m f e)) ⊎ (IsFalse (is_due m f e)) → P (after m f e)
    go (inl due) = after_due m P f (recorded f h) (λ a p n. by_proposal f a p n h) (λ a k p d. by_notice f a k p d h) e due
    go (inr not_due) = subst P (sym (after_not_due m f e not_due)) h

-- an event keeps a floor recorded
pub event_keeps_recorded_lem : EventKeepsRecorded
event_keeps_recorded_lem m f e r =
    event_keeps m (λ g. IsRecorded m g) (λ g h. h) (λ g a p n h. proposal_keeps_recorded m g a p n h) (λ g a k p d h. notice_keeps_recorded m g a h) f e r

-- an event keeps a floor legal
pub event_keeps_legal_lem : EventKeepsLegal
event_keeps_legal_lem m wf f e l =
    event_keeps m (λ g. IsLegal m g) (λ g h. h.recorded) (λ g a p n h. proposal_keeps_legal m wf g a p n h) (λ g a k p d h. notice_keeps_legal m wf g a k p d h) f e l

-- an event keeps a floor strict
pub event_keeps_strict_lem : EventKeepsStrict
event_keeps_strict_lem m wf f e s =
    event_keeps m (λ g. IsStrict m g) (λ g h. h.legal.recorded) (λ g a p n h. proposal_keeps_strict m wf g a p n h) (λ g a k p d h. notice_keeps_strict m wf g a k p d h) f e s

-- a list of events keeps what each event keeps
events_keep : (m : Market) (P : Floor → Type 0) → ((f : Floor) (e : Event) → P f → P (after m f e)) → (f : Floor) (es : List Event) → P f → P (after_all m f es)
events_keep m P keeps f [] h = h
events_keep m P keeps f (e ∷ es) h = events_keep m P keeps (after m f e) es (keeps f e h)

-- events keep a floor recorded
pub events_keep_recorded_lem : EventsKeepRecorded
events_keep_recorded_lem m f es = events_keep m (λ g. IsRecorded m g) (event_keeps_recorded_lem m) f es

-- events keep a floor legal
pub events_keep_legal_lem : EventsKeepLegal
events_keep_legal_lem m wf f es = events_keep m (λ g. IsLegal m g) (event_keeps_legal_lem m wf) f es

-- events keep a floor strict
pub events_keep_strict_lem : EventsKeepStrict
events_keep_strict_lem m wf f es = events_keep m (λ g. IsStrict m g) (event_keeps_strict_lem m wf) f es
