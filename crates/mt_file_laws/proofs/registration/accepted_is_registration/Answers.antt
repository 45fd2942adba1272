use Rattle.mt_file_laws.proofs.PassFacts.{accepted_is_registration_lem}
use Rattle.mt_file_laws.proofs.registration.accepted_is_registration.Goals as goal

pub returns : goal.returns
returns c = accepted_is_registration_lem
