-- What a roster's tables say of the market that they are seen as.
use Rattle.std.proofs.Common.{◌≡◌, ℕ, zero, suc, ◌<◌, List, [], ◌∷◌, length, get_or, refl, ap, ◌∙◌, arith, sym}
use Rattle.mt_terms.proofs.BelowFacts.{length-map_below, map_below_at}
use Rattle.mt_terms.specs.Market.{Program, Pair, Partners, applicants, program_of, couple_of, agent_of}
use Rattle.mt_terms.specs.declared.numbers.Agent.{Agent}
use Rattle.mt_market.specs.Tables.{registered_of, AreTables}
use Rattle.mt_market.specs.declared.tables.Tables.{Tables}
use Rattle.mt_market.specs.Tables.{programs_with, couples_with}

pub length-programs_with : (qs : List ℕ) (rs : List (List ℕ)) → length rs ≡ length qs → length (programs_with qs rs) ≡ length qs
length-programs_with [] rs h = refl
length-programs_with (q ∷ qs) [] h = absurd (omega arith)
length-programs_with (q ∷ qs) (r ∷ rs) h = ap suc (length-programs_with qs rs (omega arith))

pub program_at : (qs : List ℕ) (rs : List (List ℕ)) (i : ℕ) → length rs ≡ length qs
    → get_or (programs_with qs rs) i (record { quota = 0; ranking = [] }) ≡ record { quota = get_or qs i 0; ranking = get_or rs i [] }
program_at [] [] i h = refl
program_at [] (r ∷ rs) i h = absurd (omega arith)
program_at (q ∷ qs) [] i h = absurd (omega arith)
program_at (q ∷ qs) (r ∷ rs) zero h = refl
program_at (q ∷ qs) (r ∷ rs) (suc i) h = program_at qs rs i (omega arith)

pub length-couples_with : (ms : List (ℕ × ℕ)) (ps : List (List Pair)) → length ps ≡ length ms → length (couples_with ms ps) ≡ length ms
length-couples_with [] ps h = refl
length-couples_with (m ∷ ms) [] h = absurd (omega arith)
length-couples_with (m ∷ ms) (p ∷ ps) h = ap suc (length-couples_with ms ps (omega arith))

pub couple_at : (ms : List (ℕ × ℕ)) (ps : List (List Pair)) (i : ℕ) → length ps ≡ length ms
    → get_or (couples_with ms ps) i (record { first = 0; second = 0; pairs = [] })
    ≡ record { first = (get_or ms i (0, 0)).0; second = (get_or ms i (0, 0)).1; pairs = get_or ps i [] }
couple_at [] [] i h = refl
couple_at [] (p ∷ ps) i h = absurd (omega arith)
couple_at (m ∷ ms) [] i h = absurd (omega arith)
couple_at (m ∷ ms) (p ∷ ps) zero h = refl
couple_at (m ∷ ms) (p ∷ ps) (suc i) h = couple_at ms ps i (omega arith)

-- Below, t are the tables of a roster.
pub count_of_programs : (t : Tables) → AreTables t → length (registered_of t).market.programs ≡ length t.quotas.items
count_of_programs t h = length-programs_with t.quotas.items t.by_applicants.rankings h.rankings

pub count_of_couples : (t : Tables) → AreTables t → length (registered_of t).market.couples ≡ length t.by_applicants.members.items
count_of_couples t h = length-couples_with t.by_applicants.members.items t.by_programs.pairs h.pairs

pub count_of_agents : (t : Tables) → AreTables t → length t.agents.items ≡ applicants (registered_of t).market
count_of_agents t h = ap length h.agents ∙ length-map_below (agent_of (registered_of t).market) (length t.by_programs.lists)

pub quota_at : (t : Tables) (p : ℕ) → AreTables t → get_or t.quotas.items p 0 ≡ (program_of (registered_of t).market p).quota
quota_at t p h = ap (λ (x : Program). x.quota) (sym (program_at t.quotas.items t.by_applicants.rankings p h.rankings))

pub ranking_at : (t : Tables) (p : ℕ) → AreTables t → get_or t.by_applicants.rankings p [] ≡ (program_of (registered_of t).market p).ranking
ranking_at t p h = ap (λ (x : Program). x.ranking) (sym (program_at t.quotas.items t.by_applicants.rankings p h.rankings))

pub first_at : (t : Tables) (c : ℕ) → AreTables t → (get_or t.by_applicants.members.items c (0, 0)).0 ≡ (couple_of (registered_of t).market c).first
first_at t c h = ap (λ (x : Partners). x.first) (sym (couple_at t.by_applicants.members.items t.by_programs.pairs c h.pairs))

pub second_at : (t : Tables) (c : ℕ) → AreTables t → (get_or t.by_applicants.members.items c (0, 0)).1 ≡ (couple_of (registered_of t).market c).second
second_at t c h = ap (λ (x : Partners). x.second) (sym (couple_at t.by_applicants.members.items t.by_programs.pairs c h.pairs))

pub pairs_at : (t : Tables) (c : ℕ) → AreTables t → get_or t.by_programs.pairs c [] ≡ (couple_of (registered_of t).market c).pairs
pairs_at t c h = ap (λ (x : Partners). x.pairs) (sym (couple_at t.by_applicants.members.items t.by_programs.pairs c h.pairs))

pub agent_at : (t : Tables) (a : ℕ) (d : Agent) → AreTables t → a < applicants (registered_of t).market → get_or t.agents.items a d ≡ agent_of (registered_of t).market a
agent_at t a d h i = ap (λ xs. get_or xs a d) h.agents ∙ map_below_at (agent_of (registered_of t).market) (length t.by_programs.lists) a d i
