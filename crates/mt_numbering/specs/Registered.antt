-- The ids of records by number.
use Rattle.std.specs.Prelude.{Bool, false, ◌&&◌, List, slice_index_or}
use Rattle.mt_terms.specs.Registration.Ids.{Bytes, has_id, number_of}
use Rattle.mt_terms.specs.Registration.Records.{Kind, OfProgram, OfApplicant, OfCouple}
use Rattle.mt_ids.specs.declared.kinds.Kinds.{Kinds}

-- whether a program, a single or a couple has this id
abbrev pub is_registered : Kinds → List Bool → Kind → Bytes → Bool
is_registered ids singles OfProgram id = has_id ids.programs id
is_registered ids singles OfApplicant id = has_id ids.applicants id && slice_index_or singles (number_of ids.applicants id) false
is_registered ids singles OfCouple id = has_id ids.couples id
