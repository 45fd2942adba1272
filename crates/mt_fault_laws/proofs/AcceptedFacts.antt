-- Both laws come from one fact: all faults of a file beside what a match gives. The two passes and the version give it in turn.
use Rattle.std.proofs.Common.{◌≡◌, List, [], ◌∷◌, Option, Some, None, Result, Ok, Err, refl, ap, sym, subst}
use Rattle.std.specs.Prelude.{find}
use Rattle.std.specs.Option.{option_map_or}
use Rattle.mt_terms.specs.declared.codes.TheConstants.{NO_VERSION}
use Rattle.mt_terms.specs.Market.{Registered}
use Rattle.mt_terms.specs.Registration.{market_under, market_of_numbered, market_of}
use Rattle.mt_terms.specs.Registration.Ids.{Bytes}
use Rattle.mt_terms.specs.Registration.Faults.{Fault, record_fault_alone, fault_at}
use Rattle.mt_terms.specs.Registration.Records.{Rules, Record, rules_of}
use Rattle.mt_terms.specs.Registration.Passes.{Numbered, numbered_from, contents, first_of, and_then, unless, first_pass, second_pass}
use Rattle.mt_terms.specs.Registration.Numbering.{registered}
use Rattle.mt_terms.specs.Lists.{head}
use Rattle.mt_draft_laws.proofs.ApartFacts.{none_apart}
use Rattle.mt_fault_terms.specs.Faults.{FileFault, fault_alone}
use Rattle.mt_fault_terms.specs.OfFile.{all_parts, faults_under, faults_of_numbered, faults_of}
use Rattle.mt_fault_laws.specs.Accepted.{is_of_first_pass, fault_of_match, IsNamed, NoFaultMeansAccepted, NamedFaultIsAmong}
use Rattle.mt_fault_laws.proofs.Leading.{Leads, leads_nil}
use Rattle.mt_fault_laws.proofs.Walk.{agree_nil, second_fault, FindsNamed, Outcome, walk}

-- all faults beside what a match gives
abbrev Tells : Result Registered Fault → List FileFault → Type 0
Tells (Ok m) faults = faults ≡ []
Tells (Err named) faults = FindsNamed (fault_of_match faults) named

-- without a fault of the first pass a match names the first of all
first_of_all : (named : Fault) (faults : List FileFault) → find is_of_first_pass faults ≡ None → Leads IsNamed (Some named) faults → FindsNamed (fault_of_match faults) named
first_of_all named [] n h = absurd h
first_of_all named (fault ∷ faults) n h = (fault, ap (λ (o : Option FileFault). first_of (o ∷ Some fault ∷ [])) n, h)

told_by_second : (m : Registered) (faults : List FileFault) (o : Option Fault) → find is_of_first_pass faults ≡ None → Leads IsNamed o faults → Tells (unless o m) faults
told_by_second m faults None n h = leads_nil IsNamed faults h
told_by_second m faults (Some named) n h = first_of_all named faults n h

told_under : (rules : Rules) (rows : List (Numbered (List Bytes))) → Tells (market_under rules rows) (faults_under rules rows)
told_under rules rows = by (first_pass rules [] rows) (walk rules rows [] [] (agree_nil rules) (none_apart rules.limits).few)
  where
    by : (o : Result (List (Numbered Record)) Fault) → Outcome rules [] [] rows o
        → Tells (and_then o (λ records. unless (second_pass records) (registered (contents records)))) (faults_under rules rows)
    by (Err named) h = let f = h (all_parts rules rows) in (f.0, ap (λ (o : Option FileFault). first_of (o ∷ head (faults_under rules rows) ∷ [])) f.1, f.2)
    by (Ok given) h =
        told_by_second (registered (contents given)) (faults_under rules rows) (second_pass given) (h.none_first (all_parts rules rows))
        (subst (λ (records : List (Numbered Record)). Leads IsNamed (second_fault (contents given) records) (faults_under rules rows)) (sym h.all)
        (h.later (all_parts rules rows) (contents given) h.agree))

told : (rows : List (Numbered (List Bytes))) → Tells (market_of_numbered rows) (faults_of_numbered rows)
told [] = ((0, fault_alone NO_VERSION 0), refl, record { row = refl; code = refl; id = λ k. refl })
told (row ∷ rows) = by (rules_of row.1)
  where
    by : (o : Option Rules) → Tells (option_map_or (λ rules. market_under rules rows) o (Err (fault_at row.0 (record_fault_alone NO_VERSION))))
        (option_map_or (λ rules. faults_under rules rows) o ((row.0, fault_alone NO_VERSION 0) ∷ []))
    by None = ((row.0, fault_alone NO_VERSION 0), refl, record { row = refl; code = refl; id = λ k. refl })
    by (Some rules) = told_under rules rows

pub named_fault_is_among_lem : NamedFaultIsAmong
named_fault_is_among_lem rows named h = subst (λ (o : Result Registered Fault). Tells o (faults_of rows)) h (told (numbered_from 1 rows))

pub no_fault_means_accepted_lem : NoFaultMeansAccepted
no_fault_means_accepted_lem rows = (
  (λ none. accepted (market_of rows) (faults_of rows) none (told (numbered_from 1 rows))),
  (λ r h. subst (λ (o : Result Registered Fault). Tells o (faults_of rows)) h (told (numbered_from 1 rows))),
)
  where
    accepted : (o : Result Registered Fault) (faults : List FileFault) → faults ≡ [] → Tells o faults → (r : Registered) × (o ≡ Ok r)
    accepted (Ok r) faults n h = (r, refl)
    accepted (Err named) faults n h = let e : None ≡ Some h.0 = subst (λ (fs : List FileFault). fault_of_match fs ≡ Some h.0) n h.1 in cc
