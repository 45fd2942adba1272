-- What a door keeps and answers when an applicant comes to it.
use Rattle.std.proofs.Common.{◌≡◌, ◌==◌, ◌||◌, ◌&&◌, not, ℕ, ◌<◌, Bool, true, false, List, [], ◌∷◌, Option, Some, None, IsTrue, IsFalse, if◌then◌else◌, refl, sym, ap, ◌∙◌, subst, inl, inr, eq-eqb, length-set}
use Rattle.std.specs.List.{find}
use Rattle.std.proofs.Math.Path.{fun_ext}
use Rattle.std.proofs.lemmas.Bool.{cases_Bool, eqb-true, or_right, and_parts}
use Rattle.mt_terms.specs.Lists.{Set, with_one}
use Rattle.mt_terms.specs.Market.{Market, Program, program_of}
use Rattle.mt_terms.specs.WellFormed.{IsWellFormed}
use Rattle.mt_terms.specs.Choice.{choice}
use Rattle.mt_terms.specs.Best.{IsExcluded}
use Rattle.mt_terms.specs.Floor.{kept_reply}
use Rattle.mt_terms.specs.declared.events.Reply.{Reply}
use Rattle.mt_terms.specs.declared.events.Reply.TheVariants.{Kept, Refused}
use Rattle.mt_terms.proofs.LiveFacts.{live_parts}
use Rattle.mt_stability_laws.proofs.ChoiceLemmas.{choice_facts}
use Rattle.mt_stability_laws.proofs.ExclusionLemmas.{exclusion_lem}
use Rattle.mt_stability_laws.proofs.ListLemmas.{none_from_each, nothing_found}
use Rattle.mt_hold.specs.Holding.{receive, held, has_received}
use Rattle.mt_ranks.specs.Ranked.{Ranked, IsRanked, IsRank, ranking_of}
use Rattle.mt_hold.specs.Replies.{reply_to}
use Rattle.mt_hold.proofs.ReceivedFacts.{holding_of_received, received_at_rank, received_more}
use Rattle.mt_hold.proofs.ReplyFacts.{MayReceive}
use Rattle.mt_hold.proofs.Lists.{held_is_choice}
use Rattle.mt_desks.specs.Parts.{DoorView, IsComer, IsDoor, received_at, held_at}
use Rattle.mt_desks.specs.Steps.{ShowsExcluded, is_kept}

-- An applicant that may come to a door, if it has this rank.
pub record Comes (m : Market) (v : DoorView) (a r : ℕ) : Type 0 where
  pub well_formed : IsWellFormed m
  pub door : IsDoor m v
  pub is_rank : IsRank (program_of m v.program).ranking a r
  pub comer : IsComer m a v.program

pub comes_as : (s r : Ranked) → s ≡ r → IsRanked s → (v now : DoorView) → v ≡ now → IsDoor r.market v → (a k : ℕ) → IsRank (ranking_of r.market now.program) a k → IsComer r.market a now.program
    → Comes r.market v a k
comes_as s r same ranked v now is door a k is_rank comer = record {
  well_formed = subst (λ (x : Ranked). IsWellFormed x.market) same ranked.well_formed;
  door = door;
  is_rank = subst (λ (x : DoorView). IsRank (ranking_of r.market x.program) a k) (sym is) is_rank;
  comer = subst (λ (x : DoorView). IsComer r.market a x.program) (sym is) comer;
}

pub may_receive : (m : Market) (v : DoorView) (a r : ℕ) → Comes m v a r → MayReceive (program_of m v.program) (received_at m v) v.holding a r
may_receive m v a r comes =
    let distinct = comes.well_formed.rankings_distinct v.program in
    record { distinct = distinct; holding = holding_of_received (program_of m v.program) v.holding distinct comes.door.quota comes.door.listed; found = comes.is_rank.found }

-- by ranks: whether the applicant was received, and whether it is held
pub received_is : (m : Market) (v : DoorView) (a r : ℕ) → Comes m v a r → received_at m v a ≡ has_received v.holding r
received_is m v a r comes = received_at_rank (program_of m v.program) v.holding a r comes.is_rank.found

pub held_is : (m : Market) (v : DoorView) (a r : ℕ) → Comes m v a r → held v.holding r ≡ held_at m v a
held_is m v a r comes =
    let may = may_receive m v a r comes in
    held_is_choice (program_of m v.program) (received_at m v) v.holding may.distinct may.holding r comes.is_rank.within ∙ ap (held_at m v) comes.is_rank.stands

-- the door with the applicant received
abbrev pub with_comer : DoorView → ℕ → DoorView
with_comer v r = record { program = v.program; holding = receive v.holding r }

pub comer_received : (m : Market) (v : DoorView) (a r : ℕ) → Comes m v a r → (b : ℕ) → received_at m (with_comer v r) b ≡ ((b == a) || received_at m v b)
comer_received m v a r comes = received_more (program_of m v.program) v.holding a r (subst (λ (n : ℕ). r < n) (sym comes.door.listed) comes.is_rank.within) comes.is_rank.found

pub door_receives : (m : Market) (v : DoorView) (a r : ℕ) → Comes m v a r → IsDoor m (with_comer v r)
door_receives m v a r comes = record {
  quota = comes.door.quota;
  listed = length-set v.holding.received r true ∙ comes.door.listed;
  comers = λ b on. elim (cases_Bool (b == a)) [
    | inl same ↦ subst (λ (x : ℕ). IsComer m x v.program) (sym (eqb-true b a same)) comes.comer
    | inr other ↦ comes.door.comers b (sym (ap (λ t. t || received_at m v b) other) ∙ sym (comer_received m v a r comes b) ∙ on)
  ];
}

-- who was received and isn't held is excluded, by the exclusion law
pub fallen : (m : Market) → IsWellFormed m → (v : DoorView) → IsDoor m v → (b : ℕ) → IsTrue (received_at m v b) → IsFalse (held_at m v b) → IsExcluded m b v.program
fallen m wf v door = exclusion_lem m wf v.program (received_at m v) (λ b on. (live_parts m b v.program (door.comers b on).is_live).1) (λ b q on h. (door.comers b on).above_excluded q h)

-- an applicant that is found passes the test
find_passes : (test : Set) (xs : List ℕ) (b : ℕ) → find test xs ≡ Some b → IsTrue (test b)
find_passes test [] b e = cc
find_passes test (x ∷ xs) b e = elim (cases_Bool (test x)) [
  | inl on ↦ subst (λ (y : ℕ). IsTrue (test y)) (inj (sym (ap (λ t. if t then (Some x) else find test xs) on) ∙ e)) on
  | inr off ↦ find_passes test xs b (sym (ap (λ t. if t then (Some x) else find test xs) off) ∙ e)
]
  where
    inj : {y z : ℕ} → Some y ≡ Some z → y ≡ z
    inj h = cc

-- whom the door has received after the applicant has come, as one set
set_after : (m : Market) (v w : DoorView) (a : ℕ) → ((b : ℕ) → received_at m w b ≡ ((b == a) || received_at m v b)) → with_one (received_at m v) a ≡ received_at m w
set_after m v w a got = fun_ext (λ b. sym (got b))

-- what the reply of the program shows: whether the applicant is held
pub held_after : (m : Market) (v w : DoorView) (a : ℕ) → w.program ≡ v.program → ((b : ℕ) → received_at m w b ≡ ((b == a) || received_at m v b))
    → held_at m w a ≡ is_kept (reply_to (program_of m v.program) (received_at m v) a)
held_after m v w a same got =
    ap (λ p. choice (program_of m p) (received_at m w) a) same ∙ ap (λ s. choice (program_of m v.program) s a) (sym (set_after m v w a got))
    ∙ by_choice (choice (program_of m v.program) (with_one (received_at m v) a) a) _
  where
    by_choice : (c : Bool) (o : Option ℕ) → c ≡ is_kept (if c then (kept_reply o) else Refused)
    by_choice true None = refl
    by_choice true (Some b) = refl
    by_choice false o = refl

-- and who is excluded
pub shows : (m : Market) → IsWellFormed m → (v w : DoorView) (a : ℕ) → IsDoor m w → w.program ≡ v.program → ((b : ℕ) → received_at m w b ≡ ((b == a) || received_at m v b))
    → ShowsExcluded m a v.program (reply_to (program_of m v.program) (received_at m v) a)
shows m wf v w a door same got = by_choice (choice p (with_one set a) a) refl (find falls p.ranking) refl
  where
    p : Program
    p = program_of m v.program

    set : Set
    set = received_at m v

    falls : Set
    falls b = choice p set b && not (choice p (with_one set a) b)

    out : (b : ℕ) → IsTrue (received_at m w b) → IsFalse (choice p (with_one set a) b) → IsExcluded m b v.program
    out b on off = subst (IsExcluded m b) same (fallen m wf w door b on (ap (λ q. choice (program_of m q) (received_at m w) b) same ∙ ap (λ s. choice p s b) (sym (set_after m v w a got)) ∙ off))

    here : IsTrue (received_at m w a)
    here = got a ∙ ap (λ t. t || received_at m v a) (eq-eqb a a refl)

    there : (b : ℕ) → IsTrue (choice p set b) → IsTrue (received_at m w b)
    there b on = got b ∙ or_right (b == a) (received_at m v b) (choice_facts p set b on).is_member

    off : (x : Bool) → IsTrue (not x) → IsFalse x
    off true e = cc
    off false e = refl

    by_choice : (c : Bool) → choice p (with_one set a) a ≡ c → (o : Option ℕ) → find falls p.ranking ≡ o → ShowsExcluded m a v.program (if c then (kept_reply o) else Refused)
    by_choice true chosen None e = tt
    by_choice true chosen (Some b) e = let parts = and_parts (choice p set b) (not (choice p (with_one set a) b)) (find_passes falls p.ranking b e) in out b (there b parts.0) (off (choice p (with_one set a) b) parts.1)
    by_choice false refused o e = out a here refused

-- who comes again changes nothing, and is kept if it is held
pub reply_again : (p : Program) (set : Set) (a : ℕ) → IsTrue (set a) → (if choice p set a then Kept else Refused) ≡ reply_to p set a
reply_again p set a has_it =
    ap (λ o. if choice p set a then (kept_reply o) else Refused) (sym (nothing_found same p.ranking (none_from_each same p.ranking (λ b h. x_and_not (choice p set b)))))
    ∙ ap (λ s. if choice p s a then (kept_reply (find (λ b. choice p set b && not (choice p s b)) p.ranking)) else Refused) (sym stays)
  where
    same : Set
    same b = choice p set b && not (choice p set b)

    x_and_not : (x : Bool) → IsFalse (x && not x)
    x_and_not true = refl
    x_and_not false = refl

    stays : with_one set a ≡ set
    stays = fun_ext (λ b. by_test b (b == a) refl)
      where
        by_test : (b : ℕ) (t : Bool) → (b == a) ≡ t → (t || set b) ≡ set b
        by_test b true e = sym (ap set (eqb-true b a e) ∙ has_it)
        by_test b false e = refl

-- and the door has received whom it had
pub stays_received : (m : Market) (v : DoorView) (a : ℕ) → IsTrue (received_at m v a) → (b : ℕ) → received_at m v b ≡ ((b == a) || received_at m v b)
stays_received m v a has_it b = by_test (b == a) refl
  where
    by_test : (t : Bool) → (b == a) ≡ t → received_at m v b ≡ (t || received_at m v b)
    by_test true e = ap (received_at m v) (eqb-true b a e) ∙ has_it
    by_test false e = refl

-- the same reply, of a door that has received the applicant before
pub met_again : (m : Market) (v : DoorView) (a k : ℕ) → Comes m v a k → IsTrue (has_received v.holding k) → (answer : Reply) → answer ≡ (if held v.holding k then Kept else Refused)
    → IsTrue (received_at m v a) × (answer ≡ reply_to (program_of m v.program) (received_at m v) a)
met_again m v a k comes again answer is =
    let has_it = received_is m v a k comes ∙ again in
    (has_it, is ∙ ap (λ t. if t then Kept else Refused) (held_is m v a k comes) ∙ reply_again (program_of m v.program) (received_at m v) a has_it)
