-- What the end of a run's step is for the bytes that were left, if it is a refusal.
use Rattle.std.specs.Prelude.{◌≡◌, ◌≢◌, ℕ, List, [], Option, Some}
use Rattle.mt_terms.specs.Text.{IsNamedRefusal}
use Rattle.mt_terms.specs.declared.codes.TheConstants.{OUT_OF_MEMORY, READ_FAULT}
use Rattle.mt_terms.specs.declared.refusal.Refusal.{Refusal}
use Rattle.mt_terms.specs.Market.{Registered}
use Rattle.mt_answer.specs.Refusals.{line_of}
use Rattle.mt_input.specs.Files.{IsMarketOf}
use Rattle.mt_run_laws.specs.Answer.{IsAnswerTo}

-- A named refusal, which is the answer to the bytes that were there to read, but for want of memory
-- and a read that failed.
pub record IsRefusalTo (left : Option (List ℕ)) (budget : ℕ) (e : Refusal) : Type 0 where
  pub named : IsNamedRefusal e.code e.row e.id
  pub answer : e.code ≢ OUT_OF_MEMORY → e.code ≢ READ_FAULT → IsAnswerTo left budget e.code (line_of e)

-- the bytes are a file, and no couple enters its market
pub record HasNoCouple (bytes : List ℕ) : Type 0 where
  pub registered : Registered
  pub of_bytes : IsMarketOf bytes registered
  pub none : registered.market.couples ≡ []

-- If a reader had such bytes left, a run that ends with this code refused for want of memory or a failed read, or not
-- at all.
abbrev pub PublishesSingles : Option (List ℕ) → ℕ → Type 0
PublishesSingles left code = (bytes : List ℕ) → left ≡ Some bytes → HasNoCouple bytes → code ≢ OUT_OF_MEMORY → code ≢ READ_FAULT → code ≡ 0
