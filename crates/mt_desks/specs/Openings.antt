-- What a hall is opened with.
use Rattle.std.specs.Prelude.{length, replicate}
use Rattle.mt_terms.specs.Market.{Market, applicants}
use Rattle.mt_desks.specs.Parts.{PassView}

-- a pass with which no proposal was made
abbrev pub unused_pass : Market → PassView
unused_pass m = record {
  proposals = 0;
  by_program = replicate (length m.programs) 0;
  by_applicant = replicate (applicants m) 0;
}
