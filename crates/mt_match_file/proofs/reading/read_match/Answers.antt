use Rattle.std.proofs.Common.{◌≡◌, ap₂, subst, sym, ◌∙◌, Ok, List, ℕ, arith}
use Rattle.mt_terms.specs.Market.{Registered, applicants}
use Rattle.mt_terms.specs.Registration.Accepted.{IsRegistration}
use Rattle.mt_terms.specs.Registration.Passes.{numbered_from}
use Rattle.mt_match_file.specs.Submitted.{all_read, nothing_read}
use Rattle.mt_match_file.specs.View.{read_so_far}
use Rattle.mt_match_file.proofs.ReadingFacts.{aside_are, places_are}
use Rattle.mt_match_file.proofs.reading.read_match.Goals as goal

pub returns-clause-places : goal.returns-clause-places
returns-clause-places c =
    let r = c.args.roster.now in
    let submitted : all_read r.names (nothing_read (applicants r.market)) (numbered_from 1 c.args.rows.now) ≡ Ok (read_so_far c.in_ok-so_far.so_far) =
    sym (ap₂ (λ (m : Registered) (rows : List (List (List ℕ))). all_read m.names (nothing_read (applicants m.market)) (numbered_from 1 rows)) c.in_ok-ids.ensures c.iter.ensures.rows)
    ∙ c.in_ok-so_far.ensures.reads in
    places_are r (subst IsRegistration c.in_ok-ids.ensures c.in_ok-ids.ids.of_a_file) c.args.rows.now (read_so_far c.in_ok-so_far.so_far) submitted c.into_match.result c.into_match.ensures

pub returns-clause-aside : goal.returns-clause-aside
returns-clause-aside c =
    let r = c.args.roster.now in
    let submitted : all_read r.names (nothing_read (applicants r.market)) (numbered_from 1 c.args.rows.now) ≡ Ok (read_so_far c.in_ok-so_far.so_far) =
    sym (ap₂ (λ (m : Registered) (rows : List (List (List ℕ))). all_read m.names (nothing_read (applicants m.market)) (numbered_from 1 rows)) c.in_ok-ids.ensures c.iter.ensures.rows)
    ∙ c.in_ok-so_far.ensures.reads in
    aside_are r (subst IsRegistration c.in_ok-ids.ensures c.in_ok-ids.ids.of_a_file) c.args.rows.now (read_so_far c.in_ok-so_far.so_far) submitted c.into_match.result c.into_match.ensures

pub returns-clause-fault : goal.returns-clause-fault
returns-clause-fault c = grind arith

pub returns-clause-submitted : goal.returns-clause-submitted
returns-clause-submitted c = grind arith

pub into_match-requires : goal.into_match-requires
into_match-requires c = grind arith
