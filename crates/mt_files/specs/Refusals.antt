-- What was read of two files, and why one of them is refused.
use Rattle.std.specs.Prelude.{◌≡◌, ◌≢◌, ℕ, List, [], Option, Result, Ok, Err, IsTrue}
use Rattle.mt_terms.specs.Market.{Registered}
use Rattle.mt_terms.specs.Registration.Ids.{Bytes}
use Rattle.mt_terms.specs.Text.{is_none_or_id}
use Rattle.mt_terms.specs.declared.codes.TheConstants.{OUT_OF_MEMORY, READ_FAULT}
use Rattle.mt_input.specs.Files.{IsMarketOf}
use Rattle.mt_input.specs.Left.{OfLeft}
use Rattle.mt_input.specs.Refusals.{code_by, fault_of}
use Rattle.mt_files.specs.Files.{files_in}
use Rattle.mt_files.specs.Text.{is_code_alone, is_code_of}
use Rattle.mt_files.specs.declared.files.Files.{Files}
use Rattle.mt_files.specs.declared.refused_file.Refused.{Refused}
use Rattle.mt_files.specs.declared.source.Source.{Source}
use Rattle.mt_files.specs.declared.source.Source.TheVariants.{Market, Match}

-- Something is so of the bytes that two readers had left. If a reader doesn't tell them, it is so of some bytes.
abbrev pub OfBoth : Option (List ℕ) → Option (List ℕ) → (List ℕ → List ℕ → Type 0) → Type 0
OfBoth market matched IsSo = OfLeft market (λ market_bytes. OfLeft matched (λ match_bytes. IsSo market_bytes match_bytes))

-- these are the market and the match that two readers had left
abbrev pub AreFilesIn : Option (List ℕ) → Option (List ℕ) → Files → Type 0
AreFilesIn market matched files = OfBoth market matched (λ market_bytes match_bytes. files_in market_bytes match_bytes ≡ Ok (files.roster, files.submitted))

-- What a refusal line may say of a file. The code is one of the file's refusals, and the id is an id or none. If the
-- code is no fault of a record, the line names neither a record nor an id.
pub record IsNamedRefusalOf (file : Source) (code row : ℕ) (id : Bytes) : Type 0 where
  pub known : IsTrue (is_code_of file code)
  pub is_id : IsTrue (is_none_or_id id)
  pub alone : IsTrue (is_code_alone code) → (row ≡ 0) × (id ≡ [])

-- A named refusal of a file. But for want of memory and a read that failed, it is the first fault of what two readers
-- had left.
pub record IsRefused (market matched : Option (List ℕ)) (e : Refused) : Type 0 where
  pub named : IsNamedRefusalOf e.source e.refusal.code e.refusal.row e.refusal.id
  pub fault : e.refusal.code ≢ OUT_OF_MEMORY → e.refusal.code ≢ READ_FAULT
      → OfBoth market matched (λ market_bytes match_bytes. files_in market_bytes match_bytes ≡ Err (e.source, fault_of e.refusal))

-- The files come in turn. A refusal names the market if no read of the match was made, and the match if the market
-- was read without a fault.
abbrev pub IsInTurn : Option (List ℕ) → ℕ → Source → Type 0
IsInTurn market reads Market = reads ≡ 0
IsInTurn market reads Match = OfLeft market (λ bytes. (r : Registered) × IsMarketOf bytes r)

-- the code with which two files are read: 0 if neither is refused
abbrev pub end_code : {X : Type 0} → Result X Refused → ℕ
end_code result = code_by (λ (e : Refused). e.refusal) result
