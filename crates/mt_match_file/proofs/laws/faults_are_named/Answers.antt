use Rattle.mt_match_file.proofs.FaultFacts.{faults_are_named_lem}
use Rattle.mt_match_file.proofs.laws.faults_are_named.Goals as goal

pub returns : goal.returns
returns c = faults_are_named_lem
