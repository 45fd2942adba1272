use Rattle.std.proofs.Common.{◌≡◌, ◌∙◌, ap, arith, length}
use Rattle.mt_terms.specs.Registration.Rows.{applicant_ids}
use Rattle.mt_records.specs.Records.{all_seen}
use Rattle.mt_numbering.proofs.NumberingTables.{few_applicants, few_members, members_within, made_by, tables_are, tables_seen}
use Rattle.mt_numbering.proofs.market.make_roster.Goals as goal

pub agents-requires-clause-few : goal.agents-requires-clause-few
agents-requires-clause-few c = omega (arith, few_applicants (all_seen c.args.records.now) c.requires.market, c.len.ensures, ap length c.requires.names.applicants)

pub agents-requires-clause-few_couples : goal.agents-requires-clause-few_couples
agents-requires-clause-few_couples c =
    omega (arith, few_members (all_seen c.args.records.now) c.requires.market, ap length (c.deref.ensures.value ∙ c.requires.entries.members))

pub agents-requires-clause-within : goal.agents-requires-clause-within
agents-requires-clause-within c =
    let rs = all_seen c.args.records.now in
    let count : c.len.result ≡ length (applicant_ids rs) = c.len.ensures ∙ ap length c.requires.names.applicants in
    rw (c.deref.ensures.value, c.requires.entries.members, count) (members_within rs c.requires.market)

pub new-requires : goal.new-requires
new-requires c =
    let rs = all_seen c.args.records.now in
    tables_are rs c.requires.market _
    (made_by rs c.args.names (c.args.by_applicants, c.args.by_programs) c.in_ok-quotas.quotas c.in_ok-agents.agents c.deref.result.now c.len.result
    c.requires.names c.requires.entries c.in_ok-quotas.ensures c.len.ensures c.deref.ensures.value c.in_ok-agents.ensures)

pub returns : goal.returns
returns c =
    let rs = all_seen c.args.records.now in
    c.new.ensures
    ∙ tables_seen rs c.requires.market _
    (made_by rs c.args.names (c.args.by_applicants, c.args.by_programs) c.in_ok-quotas.quotas c.in_ok-agents.agents c.deref.result.now c.len.result
    c.requires.names c.requires.entries c.in_ok-quotas.ensures c.len.ensures c.deref.ensures.value c.in_ok-agents.ensures)
