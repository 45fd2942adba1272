use Rattle.std.proofs.Common.{◌∙◌, sym, arith}
use Rattle.mt_ids.proofs.DigitFacts.{quota_small}
use Rattle.mt_ids.proofs.ids.parse_quota.Goals as goal

pub overflow_cast-result : goal.overflow_cast-result
overflow_cast-result c = omega (arith, c.value_of.ensures, quota_small c.args.field.now (sym c.is_quota.ensures ∙ c.if-is_quota.true))
