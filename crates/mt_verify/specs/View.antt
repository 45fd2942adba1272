-- What a verifier means.
use Rattle.mt_verify.specs.Judged.{Judged}
use Rattle.mt_verify.specs.declared.verifier.Verifier.{Verifier}

-- the match that it judges, beside its market
abbrev pub judged : Verifier → Judged
judged v = record { registered = v.roster.now; places = v.matched.now.places }
