use Rattle.std.proofs.Common.{◌≡◌, ◌∙◌, List, Option, Vec, false, true, ap, sym, subst}
use Rattle.std.specs.Global.{Global}
use Rattle.std.specs.Prelude.{filter, MatchOption}
use Rattle.mt_terms.specs.Registration.Ids.{has_id}
use Rattle.mt_terms.specs.Registration.Rows.{ids_of}
use Rattle.mt_ids.specs.declared.kinds.Kinds.{Kinds}
use Rattle.mt_records.specs.declared.record.Record.{Record as Checked}
use Rattle.mt_records.specs.Records.{all_seen}
use Rattle.mt_drafts.specs.Names.{AreNames}
use Rattle.mt_numbering.specs.Withdrawals.{are_once, are_registered, stays_after, AreWithdrawn, HaveFewApplicants, HaveFewPrograms}
use Rattle.mt_numbering.proofs.MarketFacts.{have_few, knows_ids, length-singles, not_once, not_standing, not_registered, once_found, read_found, remains}
use Rattle.mt_numbering.proofs.WithdrawalFacts.{found_withdrawing, same_once, same_known, known_by, withdrawn_of_all, stay_all, no_length}
use Rattle.mt_numbering.specs.Registered.{is_registered}
use Rattle.mt_numbering.proofs.market.remaining_entries.Goals.{then-not-is_empty, else-not-is_empty}
use Rattle.mt_numbering.proofs.market.remaining_entries.Goals as goal

pub returns-in_default : goal.returns-in_default
returns-in_default g c =
    let records = c.args.records.now.items in
    let ws = c.withdrawing-withdrawing.result.now in
    let are = found_withdrawing _ records ws c.deref.ensures.value c.withdrawing-withdrawing.ensures in
    let twice : are_once (all_seen ws) ≡ false = subst (λ (o : Option Kinds). MatchOption o (are_once (all_seen ws) ≡ false) (AreWithdrawn (all_seen ws))) c.in_default.is c.in_ok-withdrawn.ensures in
    not_once c.args.rules.now (all_seen records) c.requires.few (sym (same_once records ws are) ∙ twice)

pub read_entries-requires-clause-names : goal.read_entries-requires-clause-names
read_entries-requires-clause-names g c = λ κs within. subst (λ (xs : List Checked). AreNames (all_seen xs) c.args.names.now) (sym c.deref-2.ensures.value) c.requires.names

pub read_entries-requires-clause-few_applicants : goal.read_entries-requires-clause-few_applicants
read_entries-requires-clause-few_applicants g c = λ κs within.
    subst (λ (xs : List Checked). HaveFewApplicants (all_seen xs)) (sym c.deref-2.ensures.value)
    (have_few c.args.rules.now.limits (all_seen c.args.records.now.items) c.requires.limits c.requires.few).1

pub read_entries-requires-clause-few_programs : goal.read_entries-requires-clause-few_programs
read_entries-requires-clause-few_programs g c = λ κs within.
    subst (λ (xs : List Checked). HaveFewPrograms (all_seen xs)) (sym c.deref-2.ensures.value)
    (have_few c.args.rules.now.limits (all_seen c.args.records.now.items) c.requires.limits c.requires.few).0

pub returns-in_default-read : goal.returns-in_default-read
returns-in_default-read g c =
    not_standing c.args.rules.now (all_seen c.args.records.now.items) c.requires.few
    (read_found _ _ _ _ c.in-Some.withdrawn _ _ c.deref-2.ensures.value c.rules.view_is c.in_default-read.is c.in_ok-read.ensures)

pub are_registered-requires : goal.are_registered-requires
are_registered-requires g c =
    let gives = read_found _ _ _ _ c.in-Some.withdrawn _ _ c.deref-2.ensures.value c.rules.view_is c.in-Some-read.is c.in_ok-read.ensures in
    length-singles (all_seen c.args.records.now.items) c.in-Some-read.ids gives.1 c.deref-3.result.now (c.deref-3.ensures.value ∙ c.requires.names.singles)

pub returns-then-not-are_registered : goal.returns-then-not-are_registered
returns-then-not-are_registered g c =
    let records = c.args.records.now.items in
    let ws = c.withdrawing-withdrawing.result.now in
    let are = found_withdrawing _ records ws c.deref.ensures.value c.withdrawing-withdrawing.ensures in
    let gives = read_found _ _ _ _ c.in-Some.withdrawn _ _ c.deref-2.ensures.value c.rules.view_is c.in-Some-read.is c.in_ok-read.ensures in
    let knows = is_registered c.in-Some-read.ids c.deref-3.result.now in
    let same = knows_ids (all_seen records) c.in-Some-read.ids gives.1 c.deref-3.result.now (c.deref-3.ensures.value ∙ c.requires.names.singles) in
    not_registered c.args.rules.now (all_seen records) c.requires.few
    (sym (same_known records ws are knows ∙ known_by knows (λ kind. has_id (ids_of kind (all_seen records))) same (all_seen records)) ∙ sym c.are_registered.ensures ∙ c.if-not-are_registered.true)

pub returns : goal.returns
returns g c =
    let records = c.args.records.now.items in
    let ws = c.withdrawing-withdrawing.result.now in
    let w = c.in-Some.withdrawn in
    let are = found_withdrawing _ records ws c.deref.ensures.value c.withdrawing-withdrawing.ensures in
    let them = once_found ws _ w c.in_ok-withdrawn.ensures c.in-Some.is in
    let gives = read_found _ _ _ _ w _ _ c.deref-2.ensures.value c.rules.view_is c.in-Some-read.is c.in_ok-read.ensures in
    let knows = is_registered c.in-Some-read.ids c.deref-3.result.now in
    let same = knows_ids (all_seen records) c.in-Some-read.ids gives.1 c.deref-3.result.now (c.deref-3.ensures.value ∙ c.requires.names.singles) in
    let known : are_registered (all_seen records) ≡ true =
    sym (same_known records ws are knows ∙ known_by knows (λ kind. has_id (ids_of kind (all_seen records))) same (all_seen records)) ∙ sym c.are_registered.ensures ∙ c.if-not-are_registered.false in
    let left : all_seen c.if-not-is_empty.records.items ≡ filter (stays_after w) (all_seen records) =
    elim c.if-not-is_empty.branch [
      | then-not-is_empty b ↦ ap (λ (v : Vec Checked Global). all_seen v.items) b.records-is ∙ b.retain_staying.ensures
      | else-not-is_empty b ↦ ap (λ (v : Vec Checked Global). all_seen v.items) b.records-is ∙ stay_all records ws are (no_length _ _ c.is_empty.ensures b.if-not-is_empty.false) w them
    ] in
    remains c.args.rules.now (all_seen records) c.requires.few w (withdrawn_of_all records ws are w them) known _ left _ gives
