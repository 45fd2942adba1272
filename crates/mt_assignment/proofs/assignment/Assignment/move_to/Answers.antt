use Rattle.std.proofs.Common.{◌≡◌, ◌∙◌, ◌||◌, ℕ, List, length, ap, sym, arith, subst, Bool}
use Rattle.std.specs.List.Sorted.{IsStrictlySortedBy}
use Rattle.std.specs.Ordering.{nat_cmp}
use Rattle.std.specs.List.{list_any}
use Rattle.mt_terms.specs.Lists.{has}
use Rattle.mt_terms.specs.Market.{applicants}
use Rattle.mt_terms.specs.Matching.{Places, Placement, send}
use Rattle.mt_terms.specs.Rounds.{displaced}
use Rattle.mt_assignment.specs.Assigned.{Assigned, with_places}
use Rattle.mt_assignment.specs.Moves.{all_members, is_kept_at, is_left_by_movers}
use Rattle.mt_assignment.proofs.MoveFacts.{are_sent, programs_within, sent_to_lists, displaced_within, left_keys}
use Rattle.mt_assignment.proofs.assignment.Assignment.move_to.Goals as goal

pub send-requires-clause-sent : goal.send-requires-clause-sent
send-requires-clause-sent c = are_sent c.requires.1

pub send-requires-clause-programs : goal.send-requires-clause-programs
send-requires-clause-programs c = programs_within c.requires.1

pub send-requires-clause-listed : goal.send-requires-clause-listed
send-requires-clause-listed c = sent_to_lists c.requires.1

-- Below, s is the assignment once everybody is sent, and t the one once those displaced are taken out.
same_programs : (s0 s : Assigned) (places : Places) → s ≡ with_places s0 places → length s.market.programs ≡ length s0.market.programs
same_programs s0 s places is = ap (λ (x : Assigned). length x.market.programs) is

same_applicants : (s0 s : Assigned) (places : Places) → s ≡ with_places s0 places → applicants s.market ≡ applicants s0.market
same_applicants s0 s places is = ap (λ (x : Assigned). applicants x.market) is

-- the displaced applicants, by the match before the move
displaced_is : (s0 s : Assigned) (sent : Placement) (xs : List ℕ) → s ≡ with_places s0 (send sent s0.places) → xs ≡ displaced s.market s.places sent
    → xs ≡ displaced s0.market (send sent s0.places) sent
displaced_is s0 s sent xs moved read = read ∙ ap (λ (x : Assigned). displaced x.market x.places sent) moved

pub displaced-requires : goal.displaced-requires
displaced-requires c = λ p on. omega (arith, same_programs c.args.self.now c.send.new.self _ c.in_ok-send.ensures, programs_within c.requires.1 p on)

pub add_left_by_partners-requires : goal.add_left_by_partners-requires
add_left_by_partners-requires c = λ a on.
    let is = c.deref.ensures.value ∙ displaced_is c.args.self.now c.send.new.self c.args.sent.now c.in_ok-displaced.displaced.items c.in_ok-send.ensures c.in_ok-displaced.ensures in
    omega (arith, same_applicants c.args.self.now c.send.new.self _ c.in_ok-send.ensures, displaced_within c.requires.1 a (ap (λ xs. has xs a) (sym is) ∙ on))

pub take_out-requires : goal.take_out-requires
take_out-requires c = λ a on.
    let is = c.deref-2.ensures.value ∙ displaced_is c.args.self.now c.send.new.self c.args.sent.now c.in_ok-displaced.displaced.items c.in_ok-send.ensures c.in_ok-displaced.ensures in
    omega (arith, same_applicants c.args.self.now c.send.new.self _ c.in_ok-send.ensures, displaced_within c.requires.1 a (ap (λ xs. has xs a) (sym is) ∙ on))

-- the programs where partners were kept, by the match before the move
partners_are : (s0 s : Assigned) (sent : Placement) (xs : List ℕ) (p : ℕ) → s ≡ with_places s0 (send sent s0.places) → xs ≡ displaced s0.market (send sent s0.places) sent
    → list_any (is_kept_at s.market s.places p) (all_members s.market xs)
    ≡ list_any (is_kept_at s0.market (send sent s0.places) p) (all_members s0.market (displaced s0.market (send sent s0.places) sent))
partners_are s0 s sent xs p moved read =
    ap (λ (x : Assigned). list_any (is_kept_at x.market x.places p) (all_members x.market xs)) moved
    ∙ ap (λ ys. list_any (is_kept_at s0.market (send sent s0.places) p) (all_members s0.market ys)) read

pub returns-clause-left : goal.returns-clause-left
returns-clause-left c =
    let s0 = c.args.self.now in
    let sent = c.args.sent.now in
    let read = displaced_is s0 c.send.new.self sent c.in_ok-displaced.displaced.items c.in_ok-send.ensures c.in_ok-displaced.ensures in
    let left = c.add_left_by_partners.new.left in
    let sorted = subst (IsStrictlySortedBy nat_cmp) c.into_vec.ensures.programs c.into_vec.ensures.sorted in
    c.into_vec.ensures.programs
    ∙ left_keys c.requires.1 c.add_left_by_movers.new.left left sorted
    (λ p. c.in_ok-add_left_by_movers.ensures p ∙ ap (λ ks. has ks p || is_left_by_movers s0.places sent p) c.new-left.ensures)
    (λ p. c.in_ok-add_left_by_partners.ensures p
    ∙ ap (λ (b : Bool). has c.add_left_by_movers.new.left p || b) (partners_are s0 c.send.new.self sent c.deref.result.now p c.in_ok-send.ensures (c.deref.ensures.value ∙ read)))
