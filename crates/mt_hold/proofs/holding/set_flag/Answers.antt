use Rattle.mt_bits.proofs.Flags.{flag-marked}
use Rattle.mt_hold.proofs.holding.set_flag.Goals as goal

pub returns : goal.returns
returns c = flag-marked c.args.words.now c.args.rank c.requires
