-- Applicants that are sent somewhere, one after another.
use Rattle.std.proofs.Common.{◌≡◌, ℕ, zero, suc, ◌+◌, ◌<◌, Bool, true, ◌==◌, ◌∷◌, [], length, Option, Some, ap, sym, ◌∙◌, arith, eq-eqb, get_or, take}
use Rattle.std.proofs.lemmas.Bool.{or_left, or_right}
use Rattle.mt_terms.specs.Lists.{has, count}
use Rattle.mt_terms.specs.Market.{Market, applicants}
use Rattle.mt_terms.specs.Matching.{Places, Placement, at, send}
use Rattle.mt_round_laws.proofs.RoundsLists.{In, in_has, in_image}
use Rattle.mt_round_laws.proofs.RoundsPlaces.{movers, send_there, at_some}
use Rattle.mt_round_laws.proofs.SentCounts.{one}
use Rattle.mt_assignment.specs.Assigned.{AreSent}
use Rattle.mt_stage_tables.proofs.PlaceFacts.{count_more}

-- who is sent somewhere is an applicant of the market
pub sent_within : (m : Market) (sent : Placement) (i : ℕ) (s : ℕ × Option ℕ) → AreSent m sent → i < length sent → s ≡ get_or sent i s → s.0 < applicants m
sent_within m sent i s are within read = are.within s.0 (has_mover sent i s within read)
  where
    has_mover : (sent : Placement) (i : ℕ) (s : ℕ × Option ℕ) → i < length sent → s ≡ get_or sent i s → has (movers sent) s.0 ≡ true
    has_mover [] i s within read = absurd (omega arith)
    has_mover (t ∷ sent) zero s within read = or_left (t.0 == s.0) (has (movers sent) s.0) (eq-eqb t.0 s.0 (ap (λ x. x.0) (sym read)))
    has_mover (t ∷ sent) (suc i) s within read = or_right (t.0 == s.0) (has (movers sent) s.0) (has_mover sent i s (omega arith) read)

-- one more of those that are sent
pub seat_more : (test : ℕ × Option ℕ → Bool) (sent : Placement) (i : ℕ) (s : ℕ × Option ℕ) (b : Bool) → i < length sent → s ≡ get_or sent i s → test s ≡ b
    → count test (take (i + 1) sent) ≡ count test (take i sent) + one b
seat_more test sent i s b within read is =
    count_more test sent i s within ∙ ap (λ x. count test (take i sent) + one (test x)) (sym read) ∙ ap (λ (t : Bool). count test (take i sent) + one t) is

-- who is sent to a program is there once everybody is sent
pub sent_there : (m : Market) (places : Places) (sent : Placement) (a p : ℕ) → AreSent m sent → length places ≡ applicants m
    → In (a, Some p) sent → at (send sent places) p a ≡ true
sent_there m places sent a p are one_each on =
    let mover : has (movers sent) a ≡ true = in_has a (movers sent) (in_image (λ s. s.0) (a, Some p) sent on) in
    let within = are.within a mover in
    at_some (send sent places) p a (send_there sent places a (Some p) are.distinct (omega arith) on)
