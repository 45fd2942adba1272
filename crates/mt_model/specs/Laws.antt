-- The laws, as they are stated.
pub use Rattle.mt_applicant_laws.specs.Changes
pub use Rattle.mt_applicant_laws.specs.Laws as ApplicantLaws
pub use Rattle.mt_budget_laws.specs.Budget
pub use Rattle.mt_budget_laws.specs.Returning
pub use Rattle.mt_file_laws.specs.Faults
pub use Rattle.mt_file_laws.specs.Registration
pub use Rattle.mt_file_laws.specs.Text
pub use Rattle.mt_floor_laws.specs.Floors
pub use Rattle.mt_floor_laws.specs.Live
pub use Rattle.mt_floor_laws.specs.Rural
pub use Rattle.mt_stability_laws.specs.Singles
pub use Rattle.mt_stability_laws.specs.Taken
pub use Rattle.mt_round_laws.specs.Rounds
pub use Rattle.mt_verdict_laws.specs.Pairs
pub use Rattle.mt_verdict_laws.specs.Verdict
