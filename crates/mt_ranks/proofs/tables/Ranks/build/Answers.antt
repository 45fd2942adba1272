use Rattle.std.proofs.Common.{refl}
use Rattle.mt_ranks.proofs.TablesSeen.{tables_made, made_tables, made_seen}
use Rattle.mt_ranks.proofs.tables.Ranks.build.Goals as goal

pub invariant_of-result : goal.invariant_of-result
invariant_of-result g c =
    let size = c.block_size-size in
    made_tables c.args.roster.now.market _
    (tables_made c.args.roster.now.market _ c.applicants.result refl c.applicants.ensures.count c.applicants.ensures.registration.few_applicants size.ensures.enough size.ensures.few c.in_ok-parts.ensures)
    c.applicants.ensures.registration.well_formed c.applicants.ensures.registration.few_applicants c.applicants.ensures.registration.few_programs

pub returns : goal.returns
returns g c =
    let size = c.block_size-size in
    made_seen c.args.roster.now.market (record { roster = c.args.roster; size = size.result; parts = c.in_ok-parts.parts })
    (tables_made c.args.roster.now.market _ c.applicants.result refl c.applicants.ensures.count c.applicants.ensures.registration.few_applicants size.ensures.enough size.ensures.few c.in_ok-parts.ensures)
