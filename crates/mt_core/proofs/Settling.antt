-- What one applicant's notice and proposal leave to be done.
use Rattle.std.proofs.Common.{◌≡◌, ◌≢◌, ◌==◌, ℕ, suc, ◌+◌, ◌-◌, ◌<◌, Bool, true, false, not, ◌&&◌, cond, List, [], ◌∷◌, length, Option, Some, None, is_some, slice_get, IsTrue, IsFalse, if◌then◌else◌, refl, sym, ap, ◌∙◌, arith, subst, inl, inr, eq-eqb, ne_eqb, ◌⊎◌}
use Rattle.std.proofs.lemmas.Bool.{cases_Bool, cases_eq, both_ways, true≢false, false≢true, or_left, or_right}
use Rattle.std.specs.List.{find}
use Rattle.mt_terms.specs.Lists.{has}
use Rattle.mt_terms.specs.WellFormed.{IsWellFormed}
use Rattle.mt_terms.specs.Market.{Market, applicants, program_of, live}
use Rattle.mt_terms.specs.Choice.{choice}
use Rattle.mt_terms.specs.Floor.{Floor, held_set, last_proposed_to, next_entry, is_held_by, is_settled, is_due, after, after_proposal, proposed_at, receives_one, reply_of, reply_of_proposal, dropped, kept_reply, IsRecorded}
use Rattle.mt_terms.specs.declared.events.Event.{Event}
use Rattle.mt_terms.specs.declared.events.Event.TheVariants.{Propose, Notice}
use Rattle.mt_terms.specs.declared.events.Reply.{Reply}
use Rattle.mt_terms.specs.declared.events.Reply.TheVariants.{Kept, KeptInstead, Refused, Noticed, NotDue}
use Rattle.mt_floor_laws.proofs.FloorEvents.{noticed, noticed_same, noticed_other, made_same, made_other, standing_other, next_facts, IsNext, get_some, event_keeps_recorded_lem}
use Rattle.mt_core.specs.Ends.{IsReached, IsStep, AreSettled, AreSettledBut}

-- whether an applicant is settled, if it stands and if it doesn't
settled_standing : (m : Market) (f : Floor) (a : ℕ) → IsTrue (f.standing a) → is_settled m f a ≡ is_held_by m f a (last_proposed_to m f a)
settled_standing m f a e = rw e refl

settled_free : (m : Market) (f : Floor) (a : ℕ) → IsFalse (f.standing a) → is_settled m f a ≡ (f.made a == length (live m a))
settled_free m f a e = rw e refl

-- the last entry depends on how many were tried
last_tried_same : (m : Market) (f g : Floor) (a : ℕ) → g.made a ≡ f.made a → last_proposed_to m g a ≡ last_proposed_to m f a
last_tried_same m f g a makes = ap (λ (n : ℕ). if n == 0 then None else slice_get (live m a) (n - 1)) makes

-- An applicant's place is kept from one floor to another: it stands where it stood, has tried as much, and who held it holds it.
record IsLeft (m : Market) (f g : Floor) (b : ℕ) : Type 0 where
  stands : g.standing b ≡ f.standing b
  makes : g.made b ≡ f.made b
  holds : (q : ℕ) → IsTrue (held_set m f q b) → IsTrue (held_set m g q b)

-- who is settled and is left so is settled
settled_left : (m : Market) (f g : Floor) (b : ℕ) → IsLeft m f g b → IsTrue (is_settled m f b) → IsTrue (is_settled m g b)
settled_left m f g b left settled =
    elim (cases_Bool (f.standing b)) [
      | inl on ↦
          settled_standing m g b (left.stands ∙ on) ∙ ap (is_held_by m g b) (last_tried_same m f g b left.makes)
          ∙ still_held (last_proposed_to m f b) (sym (settled_standing m f b on) ∙ settled)
      | inr off ↦
          settled_free m g b (left.stands ∙ off) ∙ ap (λ n. n == length (live m b)) left.makes ∙ sym (settled_free m f b off) ∙ settled
    ]
  where
    still_held : (o : Option ℕ) → IsTrue (is_held_by m f b o) → IsTrue (is_held_by m g b o)
    still_held None h = h
    still_held (Some q) h = left.holds q h

-- a notice leaves every other applicant
left_by_notice : (m : Market) (f : Floor) (a b : ℕ) → b ≢ a → IsLeft m f (after m f (Notice a)) b
left_by_notice m f a b other =
    elim (cases_Bool (is_due m f (Notice a))) [
      | inl due ↦ rw due (record { stands = noticed_other f a b other; makes = refl; holds = λ q h. h })
      | inr not_due ↦ rw not_due (record { stands = refl; makes = refl; holds = λ q h. h })
    ]

-- after its notice, who stands is held
held_after_notice : (m : Market) (f : Floor) (a : ℕ) → IsTrue ((after m f (Notice a)).standing a)
    → IsTrue (is_held_by m (after m f (Notice a)) a (last_proposed_to m (after m f (Notice a)) a))
held_after_notice m f a = by_due (is_due m f (Notice a)) refl
  where
    by_due : (b : Bool) → is_due m f (Notice a) ≡ b
        → IsTrue ((if b then (noticed f a) else f).standing a) → IsTrue (is_held_by m (if b then (noticed f a) else f) a (last_proposed_to m (if b then (noticed f a) else f) a))
    by_due true e on = absurd (both_ways _ (noticed_same f a) on)
    by_due false e on = parts (f.standing a) (is_held_by m f a (last_proposed_to m f a)) e on
      where
        parts : (x y : Bool) → (x && not y) ≡ false → IsTrue x → IsTrue y
        parts true true h k = refl
        parts true false h k = absurd (true≢false h)
        parts false y h k = absurd (false≢true k)

-- a notice changes nothing of who is held
pub held_through_notice : (m : Market) (f : Floor) (a q b : ℕ) → held_set m (after m f (Notice a)) q b ≡ held_set m f q b
held_through_notice m f a q b =
    elim (cases_Bool (is_due m f (Notice a))) [ inl due ↦ rw due refl | inr not_due ↦ rw not_due refl ]

-- the reply to a proposal that is due isn't that it isn't
due_reply : (m : Market) (f : Floor) (a p : ℕ) → reply_of_proposal m f a (Some p) ≢ NotDue
due_reply m f a p = by_choice (choice (program_of m p) (receives_one f p a) a) (dropped m f p a)
  where
    by_choice : (b : Bool) (o : Option ℕ) → (if b then (kept_reply o) else Refused) ≢ NotDue
    by_choice true None e = cc
    by_choice true (Some x) e = cc
    by_choice false o e = cc

due_reply_noticed : (m : Market) (f : Floor) (a p : ℕ) → reply_of_proposal m f a (Some p) ≢ Noticed
due_reply_noticed m f a p = by_choice (choice (program_of m p) (receives_one f p a) a) (dropped m f p a)
  where
    by_choice : (b : Bool) (o : Option ℕ) → (if b then (kept_reply o) else Refused) ≢ Noticed
    by_choice true None e = cc
    by_choice true (Some x) e = cc
    by_choice false o e = cc

-- a proposal leaves every other applicant that isn't displaced
left_by_proposal : (m : Market) (f h : Floor) (a b : ℕ) (reply : Reply) → IsStep m f h a reply → b ≢ a → reply ≢ KeptInstead b → IsLeft m (after m f (Notice a)) h b
left_by_proposal m f h a b reply is other not_named =
    record { stands = ap (λ (x : Floor). x.standing b) is.floor ∙ same.0; makes = ap (λ (x : Floor). x.made b) is.floor ∙ same.1; holds = holds }
  where
    g : Floor
    g = after m f (Notice a)

    same_by : (o : Option ℕ) → ((after_proposal m g a o).standing b ≡ g.standing b) × ((after_proposal m g a o).made b ≡ g.made b)
    same_by None = (refl, refl)
    same_by (Some p) = (standing_other m g a p b other, made_other m g a p b other)

    same : ((after m g (Propose a)).standing b ≡ g.standing b) × ((after m g (Propose a)).made b ≡ g.made b)
    same = same_by (next_entry m g a)

    holds : (q : ℕ) → IsTrue (held_set m g q b) → IsTrue (held_set m h q b)
    holds q on =
        elim (cases_Bool (held_set m h q b)) [
          | inl still ↦ still
          | inr out ↦ absurd (not_named (is.displaced b q (sym (held_through_notice m f a q b) ∙ on) out))
        ]

-- so the others stay settled through a step
others_settled : (m : Market) (f h : Floor) (a n : ℕ) (reply : Reply) → IsStep m f h a reply → AreSettledBut m f n a
    → (b : ℕ) → b < n → b ≢ a → reply ≢ KeptInstead b → IsTrue (is_settled m h b)
others_settled m f h a n reply is settled b low other not_named =
    settled_left m (after m f (Notice a)) h b (left_by_proposal m f h a b reply is other not_named)
    (settled_left m f (after m f (Notice a)) b (left_by_notice m f a b other) (settled b low other))

-- a proposal that is kept settles its applicant
kept_settled : (m : Market) (g : Floor) (a p : ℕ) → IsNext m g a p → IsTrue (choice (program_of m p) (receives_one g p a) a) → IsTrue (is_settled m (proposed_at m g a p) a)
kept_settled m g a p n chosen =
    settled_standing m (proposed_at m g a p) a stands ∙ ap (is_held_by m (proposed_at m g a p) a) last ∙ there
  where
    stands : IsTrue ((proposed_at m g a p).standing a)
    stands = ap (λ b. if b then (choice (program_of m p) (receives_one g p a) a) else (g.standing a)) (eq-eqb a a refl) ∙ chosen

    last : last_proposed_to m (proposed_at m g a p) a ≡ Some p
    last = ap (λ (k : ℕ). if k == 0 then None else slice_get (live m a) (k - 1)) (made_same m g a p) ∙ at_suc
      where
        at_suc : (if suc (g.made a) == 0 then None else slice_get (live m a) (suc (g.made a) - 1)) ≡ Some p
        at_suc =
            let some : (suc (g.made a) == 0) ≡ false = ne_eqb (suc (g.made a)) 0 (omega arith) in
            let before : suc (g.made a) - 1 ≡ g.made a = omega arith in
            rw (some, before) n.next

    there : IsTrue (held_set m (proposed_at m g a p) p a)
    there = ap (λ b. choice (program_of m p) (if b then (receives_one g p a) else (g.received p)) a) (eq-eqb p p refl) ∙ chosen

-- so does each step whose reply says that it is kept
pub reply_settled : (m : Market) (f h : Floor) (a : ℕ) (reply : Reply) → IsStep m f h a reply → reply ≢ Refused → reply ≢ NotDue → IsTrue (is_settled m h a)
reply_settled m f h a reply is not_refused not_not_due =
    subst (λ (x : Floor). IsTrue (is_settled m x a)) (sym is.floor) (by_next (next_entry m g a) refl)
  where
    g : Floor
    g = after m f (Notice a)

    by_next : (o : Option ℕ) → next_entry m g a ≡ o → IsTrue (is_settled m (after_proposal m g a o) a)
    by_next None e = absurd (not_not_due (is.reply ∙ ap (reply_of_proposal m g a) e))
    by_next (Some p) e =
        elim (cases_Bool (choice (program_of m p) (receives_one g p a) a)) [
          | inl chosen ↦ kept_settled m g a p (next_facts m g a p e) chosen
          | inr out ↦
              absurd (not_refused (is.reply ∙ ap (reply_of_proposal m g a) e ∙ ap (λ b. if b then (kept_reply (dropped m g p a)) else Refused) out))
        ]

-- an applicant without a next entry is settled after its notice
none_next_settled : (m : Market) (f : Floor) (a : ℕ) → IsRecorded m f → next_entry m f a ≡ None → (IsTrue (f.standing a) → IsTrue (is_held_by m f a (last_proposed_to m f a)))
    → IsTrue (is_settled m f a)
none_next_settled m f a r none held_if =
    elim (cases_Bool (f.standing a)) [
      | inl on ↦ settled_standing m f a on ∙ held_if on
      | inr off ↦ settled_free m f a off ∙ eq-eqb (f.made a) (length (live m a)) (all_made off)
    ]
  where
    all_made : IsFalse (f.standing a) → f.made a ≡ length (live m a)
    all_made off =
        elim (cases_eq (f.made a) (length (live m a))) [
          | inl same ↦ same
          | inr less ↦
              let within = r.within a in
              let found = get_some (live m a) (f.made a) (omega arith) in
              let some : next_entry m f a ≡ Some found.0 = ap (λ b. if b then None else slice_get (live m a) (f.made a)) off ∙ found.1 in
              absurd (none_some (sym none ∙ some))
        ]
      where
        none_some : {x : ℕ} → None ≡ Some x → ⊥
        none_some k = cc

-- if the reply says that no proposal was due, the applicant is settled
pub not_due_settled : (m : Market) (f h : Floor) (a : ℕ) (reply : Reply) → IsStep m f h a reply → IsRecorded m f → (reply ≡ Noticed) ⊎ (reply ≡ NotDue) → IsTrue (is_settled m h a)
not_due_settled m f h a reply is r not_due =
    subst (λ (x : Floor). IsTrue (is_settled m x a)) (sym is.floor) (by_next (next_entry m g a) refl not_due)
  where
    g : Floor
    g = after m f (Notice a)

    by_next : (o : Option ℕ) → next_entry m g a ≡ o → (reply ≡ Noticed) ⊎ (reply ≡ NotDue) → IsTrue (is_settled m (after_proposal m g a o) a)
    by_next None e said = none_next_settled m g a (event_keeps_recorded_lem m f (Notice a) r) e (held_after_notice m f a)
    by_next (Some p) e (inl said) = absurd (due_reply_noticed m g a p (ap (reply_of_proposal m g a) (sym e) ∙ sym is.reply ∙ said))
    by_next (Some p) e (inr said) = absurd (due_reply m g a p (ap (reply_of_proposal m g a) (sym e) ∙ sym is.reply ∙ said))

-- all are settled if the applicant is and nobody was displaced
pub step_settled : (m : Market) (f h : Floor) (a n : ℕ) (reply : Reply) → IsStep m f h a reply → AreSettledBut m f n a
    → IsTrue (is_settled m h a) → ((b : ℕ) → reply ≢ KeptInstead b) → AreSettled m h n
step_settled m f h a n reply is settled done nobody b low =
    elim (cases_eq b a) [
      | inl same ↦ rw same done
      | inr other ↦ others_settled m f h a n reply is settled b low other (nobody b)
    ]

-- all but the displaced one are settled if the applicant is
pub step_displaced : (m : Market) (f h : Floor) (a d n : ℕ) (reply : Reply) → IsStep m f h a reply → reply ≡ KeptInstead d → AreSettledBut m f n a → AreSettledBut m h n d
step_displaced m f h a d n reply is named settled b low other =
    elim (cases_eq b a) [
      | inl same ↦ rw same (reply_settled m f h a reply is (λ e. not_refused (sym named ∙ e)) (λ e. not_not_due (sym named ∙ e)))
      | inr apart ↦ others_settled m f h a n reply is settled b low apart (λ e. other (inj (sym e ∙ named)))
    ]
  where
    inj : {x y : ℕ} → KeptInstead x ≡ KeptInstead y → x ≡ y
    inj e = cc

    not_refused : KeptInstead d ≢ Refused
    not_refused e = cc

    not_not_due : KeptInstead d ≢ NotDue
    not_not_due e = cc

-- all but the applicant are settled if it is refused
pub step_refused : (m : Market) (f h : Floor) (a n : ℕ) (reply : Reply) → IsStep m f h a reply → reply ≡ Refused → AreSettledBut m f n a → AreSettledBut m h n a
step_refused m f h a n reply is refused settled b low other = others_settled m f h a n reply is settled b low other (λ e. not_named (sym refused ∙ e))
  where
    not_named : Refused ≢ KeptInstead b
    not_named e = cc

-- all are settled if the applicant is kept and nobody is displaced
pub step_kept : (m : Market) (f h : Floor) (a n : ℕ) (reply : Reply) → IsStep m f h a reply → reply ≡ Kept → AreSettledBut m f n a → AreSettled m h n
step_kept m f h a n reply is kept settled =
    step_settled m f h a n reply is settled (reply_settled m f h a reply is (λ e. not_refused (sym kept ∙ e)) (λ e. not_not_due (sym kept ∙ e))) (λ b e. nobody b (sym kept ∙ e))
  where
    not_refused : Kept ≢ Refused
    not_refused e = cc

    not_not_due : Kept ≢ NotDue
    not_not_due e = cc

    nobody : (b : ℕ) → Kept ≢ KeptInstead b
    nobody b e = cc

-- a proposal that can't be made
abbrev pub IsNoProposal : Reply → Type 0
IsNoProposal reply = (reply ≡ Noticed) ⊎ (reply ≡ NotDue)

-- all are settled if no proposal is due
pub step_not_due : (m : Market) (f h : Floor) (a n : ℕ) (reply : Reply) → IsStep m f h a reply → IsRecorded m f → IsNoProposal reply → AreSettledBut m f n a → AreSettled m h n
step_not_due m f h a n reply is r not_due settled =
    step_settled m f h a n reply is settled (not_due_settled m f h a reply is r not_due) (nobody not_due)
  where
    nobody : IsNoProposal reply → (b : ℕ) → reply ≢ KeptInstead b
    nobody (inl said) b e = differs (sym said ∙ e)
      where
        differs : Noticed ≢ KeptInstead b
        differs k = cc
    nobody (inr said) b e = differs (sym said ∙ e)
      where
        differs : NotDue ≢ KeptInstead b
        differs k = cc

-- who is found on a list is on it
find_has : (test : ℕ → Bool) (xs : List ℕ) (x : ℕ) → find test xs ≡ Some x → has xs x ≡ true
find_has test [] x e = cc
find_has test (y ∷ ys) x e =
    elim (cases_Bool (test y)) [
      | inl passes ↦ or_left (y == x) (has ys x) (eq-eqb y x (inj (ap (λ b. cond b (Some y) (find test ys)) (sym passes) ∙ e)))
      | inr fails ↦ or_right (y == x) (has ys x) (find_has test ys x (ap (λ b. cond b (Some y) (find test ys)) (sym fails) ∙ e))
    ]
  where
    inj : {u v : ℕ} → Some u ≡ Some v → u ≡ v
    inj k = cc

-- whom a reply names as displaced is an applicant
named_in_market : (m : Market) → IsWellFormed m → (f : Floor) (a d : ℕ) → reply_of m f (Propose a) ≡ KeptInstead d → d < applicants m
named_in_market m wf f a d = by_next (next_entry m f a)
  where
    by_dropped : (p : ℕ) (b : Bool) (o : Option ℕ) → dropped m f p a ≡ o → (if b then (kept_reply o) else Refused) ≡ KeptInstead d → d < applicants m
    by_dropped p true None e k = absurd (differs k)
      where
        differs : Kept ≢ KeptInstead d
        differs h = cc
    by_dropped p true (Some x) e k =
        wf.rankings_within p d (find_has (λ b. held_set m f p b && not (choice (program_of m p) (receives_one f p a) b)) (program_of m p).ranking d (e ∙ ap (λ y. Some y) (inj k)))
      where
        inj : {x y : ℕ} → KeptInstead x ≡ KeptInstead y → x ≡ y
        inj h = cc
    by_dropped p false o e k = absurd (differs k)
      where
        differs : Refused ≢ KeptInstead d
        differs h = cc

    by_next : (o : Option ℕ) → reply_of_proposal m f a o ≡ KeptInstead d → d < applicants m
    by_next None k = absurd (differs k)
      where
        differs : NotDue ≢ KeptInstead d
        differs h = cc
    by_next (Some p) k = by_dropped p (choice (program_of m p) (receives_one f p a) a) (dropped m f p a) refl k

pub named_applicant : (m : Market) → IsWellFormed m → (f h : Floor) (a d : ℕ) (reply : Reply) → IsStep m f h a reply → reply ≡ KeptInstead d → d < applicants m
named_applicant m wf f h a d reply is named = named_in_market m wf (after m f (Notice a)) a d (sym is.reply ∙ named)

-- a step makes one proposal, or none if none is due
pub step_reached : (m : Market) (f h : Floor) (a : ℕ) (reply : Reply) → IsStep m f h a reply → reply ≢ NotDue → IsReached m f h 1
step_reached m f h a reply is due = record {
  events = Notice a ∷ Propose a ∷ [];
  floor = is.floor;
  count = sym (counts (is_due m f (Notice a)) (is_due m (after m f (Notice a)) (Propose a)) is_due_now);
}
  where
    g : Floor
    g = after m f (Notice a)

    counts : (x y : Bool) → IsTrue y → (if x && false then 1 else 0) + ((if y && true then 1 else 0) + 0) ≡ 1
    counts true true e = omega arith
    counts false true e = omega arith
    counts x false e = absurd (false≢true e)

    by_next : (o : Option ℕ) → next_entry m g a ≡ o → IsTrue (is_some o)
    by_next None e = absurd (due (is.reply ∙ ap (reply_of_proposal m g a) e))
    by_next (Some p) e = refl

    is_due_now : IsTrue (is_due m (after m f (Notice a)) (Propose a))
    is_due_now = by_next (next_entry m g a) refl

pub step_reached_none : (m : Market) (f h : Floor) (a : ℕ) (reply : Reply) → IsStep m f h a reply → IsNoProposal reply → IsReached m f h 0
step_reached_none m f h a reply is not_due = record {
  events = Notice a ∷ Propose a ∷ [];
  floor = is.floor;
  count = sym (counts (is_due m f (Notice a)) (is_due m (after m f (Notice a)) (Propose a)) not_due_now);
}
  where
    g : Floor
    g = after m f (Notice a)

    counts : (x y : Bool) → IsFalse y → (if x && false then 1 else 0) + ((if y && true then 1 else 0) + 0) ≡ 0
    counts true false e = omega arith
    counts false false e = omega arith
    counts x true e = absurd (true≢false e)

    by_next : (o : Option ℕ) → next_entry m g a ≡ o → (reply ≡ Noticed) ⊎ (reply ≡ NotDue) → IsFalse (is_some o)
    by_next None e said = refl
    by_next (Some p) e (inl said) = absurd (due_reply_noticed m g a p (ap (reply_of_proposal m g a) (sym e) ∙ sym is.reply ∙ said))
    by_next (Some p) e (inr said) = absurd (due_reply m g a p (ap (reply_of_proposal m g a) (sym e) ∙ sym is.reply ∙ said))

    not_due_now : IsFalse (is_due m (after m f (Notice a)) (Propose a))
    not_due_now = by_next (next_entry m g a) refl not_due

-- what the reply to an event says of whether it was due
pub due_from_reply : (m : Market) (f : Floor) (e : Event) → reply_of m f e ≢ NotDue → IsTrue (is_due m f e)
due_from_reply m f (Propose a) differs = by_next (next_entry m f a) refl
  where
    by_next : (o : Option ℕ) → next_entry m f a ≡ o → IsTrue (is_some o)
    by_next None e = absurd (differs (ap (reply_of_proposal m f a) e))
    by_next (Some p) e = refl
due_from_reply m f (Notice a) differs =
    elim (cases_Bool (is_due m f (Notice a))) [
      | inl due ↦ due
      | inr not_due ↦ absurd (differs (ap (λ b. if b then Noticed else NotDue) not_due))
    ]

pub not_due_from_reply : (m : Market) (f : Floor) (e : Event) → reply_of m f e ≡ NotDue → IsFalse (is_due m f e)
not_due_from_reply m f (Propose a) same = by_next (next_entry m f a) same
  where
    by_next : (o : Option ℕ) → reply_of_proposal m f a o ≡ NotDue → IsFalse (is_some o)
    by_next None e = refl
    by_next (Some p) e = absurd (due_reply m f a p e)
not_due_from_reply m f (Notice a) same =
    elim (cases_Bool (is_due m f (Notice a))) [
      | inl due ↦ absurd (differs (ap (λ b. if b then Noticed else NotDue) (sym due) ∙ same))
      | inr not_due ↦ not_due
    ]
  where
    differs : Noticed ≢ NotDue
    differs e = cc
