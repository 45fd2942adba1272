use Rattle.std.proofs.Common.{◌≡◌, length}
use Rattle.mt_terms.specs.Market.{applicants}
use Rattle.mt_ranks.specs.Entries.{rankings_of}
use Rattle.mt_ranks.proofs.ListedFacts.{AreListed}
use Rattle.mt_ranks.proofs.transpose.listed.Given as goal

abbrev pub invariant-loop-program : goal.invariant-loop-program
invariant-loop-program l = record {
  len : length l.counts.items ≡ applicants l.roster.market;
  listed : AreListed l.counts.items (rankings_of l.roster.market) l.program;
}
