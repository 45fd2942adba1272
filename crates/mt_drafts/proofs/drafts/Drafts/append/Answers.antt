use Rattle.std.proofs.Common.{◌≡◌, ℕ, ◌+◌, ◌-◌, ◌^◌, ◌++◌, List, ◌∙◌, ap, sym, subst, arith}
use Rattle.std.specs.Prelude.{min}
use Rattle.std.proofs.lemmas.List.{map-append}
use Rattle.std.proofs.lemmas.List.Sums.{sum_by-append}
use Rattle.mt_terms.specs.Registration.Records.{Record}
use Rattle.mt_terms.specs.Registration.Rows.{entries_of, entry_count}
use Rattle.mt_records.specs.Records.{record_seen, all_seen}
use Rattle.mt_drafts.specs.Drafts.{drafted}
use Rattle.mt_drafts.specs.Names.{AreNames}
use Rattle.mt_drafts.proofs.NameFacts.{names_of_all}
use Rattle.mt_drafts.proofs.drafts.Drafts.append.Goals as goal

-- the entries of others are counted
entries_of_all : (old more : List Record) (counted others sum : ℕ) → counted ≡ min (entry_count old) (2 ^ 64 - 1) → others ≡ min (entry_count more) (2 ^ 64 - 1)
    → sum ≡ min (counted + others) (2 ^ 64 - 1) → sum ≡ min (entry_count (old ++ more)) (2 ^ 64 - 1)
entries_of_all old more counted others sum before after added =
    let total : entry_count (old ++ more) ≡ entry_count old + entry_count more = sum_by-append entries_of old more in
    omega (arith, total, before, after, added)

pub returns-clause-records : goal.returns-clause-records
returns-clause-records c =
    ap all_seen c.in_ok-append-2.ensures.items ∙ map-append record_seen c.args.self.now.records.items c.args.others.records.items

pub returns-clause-drafts : goal.returns-clause-drafts
returns-clause-drafts c =
    let same = ap all_seen c.in_ok-append-2.ensures.items ∙ map-append record_seen c.args.self.now.records.items c.args.others.records.items in
    record {
      names = subst (λ rs. AreNames rs c.append.new.self) (sym same)
          (names_of_all c.args.self.now.names c.append.new.self c.args.others.names (drafted c.args.self.now) (drafted c.args.others) c.requires.0.names c.requires.1.names c.in_ok-append.ensures);
      entries = subst (λ rs. c.saturating_add-self.result ≡ min (entry_count rs) (2 ^ 64 - 1)) (sym same)
          (entries_of_all (drafted c.args.self.now) (drafted c.args.others) c.args.self.now.entries c.args.others.entries _ c.requires.0.entries c.requires.1.entries c.saturating_add-self.ensures);
    }
