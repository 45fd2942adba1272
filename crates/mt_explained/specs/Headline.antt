-- The headline in its own words: what an explanation says of the bytes of its two files.
use Rattle.std.specs.Prelude.{◌≡◌, ◌⊎◌, ℕ, ◌<◌, Bool, not, ◌&&◌, List, [], All, None, Some, Ok, slice_index_or}
use Rattle.std.specs.List.{list_all, list_any}
use Rattle.mt_terms.specs.Market.{Market, Registered, agent_of, agents, applicants}
use Rattle.mt_terms.specs.Matching.{Places, better, options}
use Rattle.mt_terms.specs.Registration.Ids.{Bytes}
use Rattle.mt_terms.specs.Stability.{blocks, fits, stable, would_be_taken}
use Rattle.mt_terms.specs.declared.numbers.Agent.{Agent}
use Rattle.mt_order_laws.specs.Reordered.{set_aside_registered}
use Rattle.mt_match_file.specs.Submitted.{Submitted}
use Rattle.mt_input.specs.Files.{IsMarketOf}
use Rattle.mt_files.specs.Files.{submitted_in}
use Rattle.mt_files.specs.Refusals.{IsNamedRefusalOf}
use Rattle.mt_files.specs.declared.source.Source.{Source}
use Rattle.mt_files.specs.declared.source.Source.TheVariants.{Match}
use Rattle.mt_explain.specs.Lines.{explanation, has_open_option, is_open, lines_of, option_lines}
use Rattle.mt_explain_text.specs.Text.{agents_text}
use Rattle.mt_match_file.specs.Agents.{first_unknown}
use Rattle.mt_explained.specs.Asked.{agents_asked}
use Rattle.mt_judged.specs.Text.{refused_line}
use Rattle.mt_explained.specs.Text.{unknown_line}
use Rattle.mt_explained.specs.declared.codes.TheConstants.{NO_SUCH_AGENT}

-- What the lines of a match say. An agent's lines have each option that it wants more once, and no other. An option's
-- lines are all open exactly if it would be taken. An agent has an option with open lines alone exactly if it blocks. A
-- match that fits is stable exactly if no agent has one.
pub record LinesAreSo (m : Market) (places : Places) : Type 0 where
  pub once : (g : Agent) (k : ℕ) → lines_of k (explanation m places g) ≡ option_lines m places k (slice_index_or (better m places g) k [])
  pub taken : (a k : ℕ) → a < applicants m
      → All (λ sent. list_all is_open (option_lines m places k sent) ≡ would_be_taken m places sent) (options m (agent_of m a))
  pub blocking : (a : ℕ) → a < applicants m → has_open_option (explanation m places (agent_of m a)) ≡ blocks m places (agent_of m a)
  pub stability : stable m places ≡ (fits m places && not (list_any (λ g. has_open_option (explanation m places g)) (agents m)))

-- The bytes are a market and a match of its applicants. The match is judged in the market in which the couples that it
-- sets aside want nothing. The text has the lines of the agents asked for, and these say what is so in that market.
pub record IsExplained (ids : List Bytes) (is_public : Bool) (market_bytes match_bytes : List ℕ) (text : List ℕ) : Type 0 where
  pub registered : Registered
  pub of_market : IsMarketOf market_bytes registered
  pub submitted : Submitted
  pub of_match : submitted_in registered match_bytes ≡ Ok submitted
  pub judged : Registered
  pub is_judged : judged ≡ set_aside_registered submitted.aside registered
  pub all_known : first_unknown judged ids ≡ None
  pub is_text : text ≡ agents_text judged submitted.places is_public (agents_asked judged ids)
  pub are_so : LinesAreSo judged.market submitted.places

-- a word that was asked for, on the line that says that it names no agent
pub record IsUnknown (ids : List Bytes) (code : ℕ) (text : List ℕ) : Type 0 where
  pub is_code : code ≡ NO_SUCH_AGENT
  pub registered : Registered
  pub word : Bytes
  pub first : first_unknown registered ids ≡ Some word
  pub line : text ≡ unknown_line word

-- one refusal line of a file
pub record IsFileRefusal (file : Source) (code : ℕ) (text : List ℕ) : Type 0 where
  pub row : ℕ
  pub id : Bytes
  pub named : IsNamedRefusalOf file code row id
  pub line : text ≡ refused_line file code row id

-- One refusal line: of a file, or of a word that names no agent. Both files were read before a word is refused, so the
-- turn is that of the match.
pub record IsRefusal (ids : List Bytes) (code : ℕ) (text : List ℕ) : Type 0 where
  pub file : Source
  pub says : IsFileRefusal file code text ⊎ ((file ≡ Match) × IsUnknown ids code text)
