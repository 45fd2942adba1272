use Rattle.std.proofs.Common.{◌≡◌, ℕ, ◌+◌, ◌-◌, ◌^◌, ◌++◌, ◌∷◌, [], List, ◌∙◌, ap, sym, subst, arith}
use Rattle.std.specs.Prelude.{min}
use Rattle.std.proofs.lemmas.Grind.{common_steps}
use Rattle.std.proofs.lemmas.List.{map-append}
use Rattle.std.proofs.lemmas.List.Sums.{sum_by_push}
use Rattle.std.proofs.lemmas.Result.{on_ok_weaker}
use Rattle.mt_terms.specs.Registration.Records.{Record}
use Rattle.mt_terms.specs.Registration.Rows.{entries_of, entry_count}
use Rattle.mt_records.specs.Records.{record_seen, all_seen}
use Rattle.mt_drafts.specs.Drafts.{drafted}
use Rattle.mt_drafts.specs.Names.{AreNames}
use Rattle.mt_drafts.proofs.NameFacts.{names_more}
use Rattle.mt_drafts.proofs.drafts.Drafts.push.Goals as goal

-- the entries of a record more are counted
entries_more : (old new : List Record) (one : Record) (counted more sum : ℕ) → new ≡ old ++ one ∷ [] → counted ≡ min (entry_count old) (2 ^ 64 - 1) → more ≡ entries_of one
    → sum ≡ min (counted + more) (2 ^ 64 - 1) → sum ≡ min (entry_count new) (2 ^ 64 - 1)
entries_more old new one counted more sum is before own added =
    let total : entry_count new ≡ entry_count old + entries_of one = ap entry_count is ∙ sum_by_push entries_of old one in
    omega (arith, total, before, own, added)

pub returns-clause-drafts : goal.returns-clause-drafts
returns-clause-drafts c =
    on_ok_weaker c.push-2.result (λ more.
    let same = ap all_seen more ∙ map-append _ c.args.self.now.records.items _ in
    record {
      names = subst (λ rs. AreNames rs c.push.new.self) (sym same) (names_more c.args.self.now.names c.push.new.self (drafted c.args.self.now) (record_seen c.args.next) c.requires.names c.in_ok-push.ensures);
      entries = entries_more (drafted c.args.self.now) _ (record_seen c.args.next) c.args.self.now.entries c.entry_count.result _ same c.requires.entries c.entry_count.ensures c.saturating_add-self.ensures;
    })
    c.push-2.ensures

pub returns-clause-records : goal.returns-clause-records
returns-clause-records c = grind (arith, common_steps)
