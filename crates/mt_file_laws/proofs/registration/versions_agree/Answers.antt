use Rattle.mt_file_laws.proofs.VersionFacts.{versions_agree_lem}
use Rattle.mt_file_laws.proofs.registration.versions_agree.Goals as goal

pub returns : goal.returns
returns c = versions_agree_lem
