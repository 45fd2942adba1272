-- The id of a refusal of a file fits an id text.
use Rattle.std.proofs.Common.{List}
use Rattle.mt_terms.specs.Market.{Registered}
use Rattle.mt_terms.specs.Registration.{market_of}
use Rattle.mt_terms.specs.Registration.Ids.{Bytes}
use Rattle.mt_records.specs.declared.first_fault.FirstFault.{FirstFault}
use Rattle.mt_records.specs.declared.first_fault.FirstFault.TheVariants as refusals
use Rattle.mt_records.specs.Refusals.{fault_seen, Refuses}
use Rattle.mt_roster.specs.Faults.{HasShortId}
use Rattle.mt_file_laws.proofs.FaultFacts.{fault_ids_lem, short_id}

pub has_short_id : (rows : List (List Bytes)) (refusal : FirstFault) → Refuses {Y = Registered} refusal (market_of rows) → HasShortId refusal
has_short_id rows (refusals.Fault f) h = short_id f.id.now (fault_ids_lem rows (fault_seen f) h)
has_short_id rows refusals.Memory h = tt
