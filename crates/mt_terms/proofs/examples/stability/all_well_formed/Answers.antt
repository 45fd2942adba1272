use Rattle.std.proofs.Common.{refl}
use Rattle.mt_terms.proofs.examples.stability.all_well_formed.Goals as goal

pub returns : goal.returns
returns c = record {
  crossed = refl;
  chain = refl;
  closed = refl;
  one_sided = refl;
  two_posts = refl;
  single_between = refl;
  single_last = refl;
  unstable = refl;
  single_elsewhere = refl;
  half_pair = refl;
  three_couples = refl;
  three_couples_half = refl;
  partner_withdraws = refl;
  own_seat = refl;
  chain_without_applicant = refl;
  unstable_without_couple = refl;
  three_couples_without_program = refl;
  one_applicant = refl;
  each_member_alone = refl;
  one_name_without_program = refl;
  full = refl;
  couple_outside = refl;
}
