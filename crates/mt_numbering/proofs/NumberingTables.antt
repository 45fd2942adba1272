-- The tables that are made from records none of which is withdrawn, seen as their market.
use Rattle.std.proofs.Common.{◌≡◌, ℕ, suc, ◌+◌, ◌-◌, ◌<◌, ◌≤◌, ◌^◌, Bool, true, false, ◌||◌, ◌==◌, List, [], ◌∷◌, ◌++◌, map, filter_map, flat_map, length, get_or, set, drop, take, Vec, Global, refl, ap, ap₂, sym, ◌∙◌, arith, subst, if◌then◌else◌}
use Rattle.std.specs.Prelude.{All}
use Rattle.std.proofs.lemmas.List.{same_lists, length-set, get_or_default, drop_more}
use Rattle.mt_terms.specs.declared.numbers.Agent.{Agent}
use Rattle.mt_terms.specs.declared.numbers.Agent.TheVariants.{Couple}
use Rattle.mt_terms.specs.Lists.{below}
use Rattle.mt_terms.specs.Market.{Market, Partners, Pair, Names, applicants, couple_of, agent_from, agent_of}
use Rattle.mt_terms.specs.Registration.Records.{Record, ProgramRecord, ApplicantRecord, CoupleRecord, WithdrawRecord, OfProgram, OfCouple}
use Rattle.mt_terms.specs.Registration.Rows.{ids_of, applicant_ids}
use Rattle.mt_terms.specs.Registration.Numbering.{names_of, program_in, lists_in, couple_in, market_by}
use Rattle.mt_terms.specs.Registration.Accepted.{IsRegistration}
use Rattle.mt_terms.proofs.BelowFacts.{length-map_below, map_below_at}
use Rattle.mt_terms.proofs.ListFacts.{take_whole}
use Rattle.mt_market.specs.Tables.{programs_with, couples_with, registered_of, AreTables}
use Rattle.mt_market.specs.declared.tables.ByApplicants.{ByApplicants}
use Rattle.mt_market.specs.declared.tables.ByPrograms.{ByPrograms}
use Rattle.mt_drafts.specs.declared.names.NameLists.{NameLists}
use Rattle.mt_drafts.specs.Names.{AreNames}
use Rattle.mt_numbering.specs.Markets.{AreEntries}
use Rattle.mt_numbering.specs.Numbered.{quota_in, ranking_in, lists_by, members_in, pairs_in, bare_couples, registered_by_all}
use Rattle.mt_id_lists.proofs.ListFacts.{get_or-set}
use Rattle.mt_market.specs.declared.tables.Tables.{Tables}
use Rattle.mt_market.proofs.TablesFacts.{length-couples_with, couple_at}

-- the tables of programs, of lists and of couples
module _ (N : Names) where
  pub programs_of_tables : (rs : List Record) → programs_with (filter_map quota_in rs) (filter_map (ranking_in N.applicants) rs) ≡ filter_map (program_in N) rs
  programs_of_tables [] = refl
  programs_of_tables (ProgramRecord id quota list ∷ rs) = rw (programs_of_tables rs) refl
  programs_of_tables (ApplicantRecord id list ∷ rs) = programs_of_tables rs
  programs_of_tables (CoupleRecord id a b pairs ∷ rs) = programs_of_tables rs
  programs_of_tables (WithdrawRecord kind id ∷ rs) = programs_of_tables rs

  pub lists_of_table : (rs : List Record) → flat_map (lists_by N.programs) rs ≡ flat_map (lists_in N) rs
  lists_of_table [] = refl
  lists_of_table (ProgramRecord id quota list ∷ rs) = lists_of_table rs
  lists_of_table (ApplicantRecord id list ∷ rs) = rw (lists_of_table rs) refl
  lists_of_table (CoupleRecord id a b pairs ∷ rs) = rw (lists_of_table rs) refl
  lists_of_table (WithdrawRecord kind id ∷ rs) = lists_of_table rs

  pub couples_of_tables : (rs : List Record) → couples_with (filter_map (members_in N.applicants) rs) (filter_map (pairs_in N.programs) rs) ≡ filter_map (couple_in N) rs
  couples_of_tables [] = refl
  couples_of_tables (ProgramRecord id quota list ∷ rs) = couples_of_tables rs
  couples_of_tables (ApplicantRecord id list ∷ rs) = couples_of_tables rs
  couples_of_tables (CoupleRecord id a b pairs ∷ rs) = rw (couples_of_tables rs) refl
  couples_of_tables (WithdrawRecord kind id ∷ rs) = couples_of_tables rs

  pub length-rankings : (rs : List Record) → length (filter_map (ranking_in N.applicants) rs) ≡ length (filter_map quota_in rs)
  length-rankings [] = refl
  length-rankings (ProgramRecord id quota list ∷ rs) = ap suc (length-rankings rs)
  length-rankings (ApplicantRecord id list ∷ rs) = length-rankings rs
  length-rankings (CoupleRecord id a b pairs ∷ rs) = length-rankings rs
  length-rankings (WithdrawRecord kind id ∷ rs) = length-rankings rs

  pub length-pairs : (rs : List Record) → length (filter_map (pairs_in N.programs) rs) ≡ length (filter_map (members_in N.applicants) rs)
  length-pairs [] = refl
  length-pairs (ProgramRecord id quota list ∷ rs) = length-pairs rs
  length-pairs (ApplicantRecord id list ∷ rs) = length-pairs rs
  length-pairs (CoupleRecord id a b pairs ∷ rs) = ap suc (length-pairs rs)
  length-pairs (WithdrawRecord kind id ∷ rs) = length-pairs rs

-- an agent doesn't depend on the pairs
pub agent_from-bare : (ms : List (ℕ × ℕ)) (ps : List (List Pair)) (c a : ℕ) → length ps ≡ length ms → agent_from (bare_couples ms) c a ≡ agent_from (couples_with ms ps) c a
agent_from-bare [] ps c a h = refl
agent_from-bare (m ∷ ms) [] c a h = absurd (omega arith)
agent_from-bare (m ∷ ms) (p ∷ ps) c a h = ap (λ (rest : Agent). if (m.0 == a) || (m.1 == a) then Couple c else rest) (agent_from-bare ms ps (c + 1) a (omega arith))

map_agree : {X Y : Type 0} (f g : X → Y) (xs : List X) → ((x : X) → f x ≡ g x) → map f xs ≡ map g xs
map_agree f g [] h = refl
map_agree f g (x ∷ xs) h = rw (h x, map_agree f g xs h) refl

one_of_two : {X : Type 0} (a b : Bool) (x y : X) → (if b then x else (if a then x else y)) ≡ (if a || b then x else y)
one_of_two true true x y = refl
one_of_two true false x y = refl
one_of_two false true x y = refl
one_of_two false false x y = refl

-- Two applicants are made the members of couple c, before the couples after it.
module _ (m : ℕ × ℕ) (cs : List Partners) (c n : ℕ) (first : m.0 < n) (second : m.1 < n) where
  abbrev singles : List Agent
  singles = map (agent_from cs (c + 1)) (below n)

  abbrev joined : List Agent
  joined = set (set singles m.0 (Couple c)) m.1 (Couple c)

  length-joined : length joined ≡ n
  length-joined = simp length-set (length-map_below (agent_from cs (c + 1)) n)

  joined_at : (k : ℕ) (d : Agent) → k < n → get_or joined k d ≡ agent_from (record { first = m.0; second = m.1; pairs = [] } ∷ cs) c k
  joined_at k d h =
      let l : length singles ≡ n = length-map_below (agent_from cs (c + 1)) n in
      let f : m.0 < length singles = omega arith in
      let s : m.1 < length (set singles m.0 (Couple c)) = simp length-set (omega arith) in
      get_or-set (set singles m.0 (Couple c)) m.1 k (Couple c) d s
      ∙ ap (λ (y : Agent). if m.1 == k then Couple c else y) (get_or-set singles m.0 k (Couple c) d f)
      ∙ ap (λ (y : Agent). if m.1 == k then Couple c else (if m.0 == k then Couple c else y)) (map_below_at (agent_from cs (c + 1)) n k d h)
      ∙ one_of_two (m.0 == k) (m.1 == k) (Couple c) (agent_from cs (c + 1) k)

  join_one : joined ≡ map (agent_from (record { first = m.0; second = m.1; pairs = [] } ∷ cs) c) (below n)
  join_one =
      let after = agent_from (record { first = m.0; second = m.1; pairs = [] } ∷ cs) c in
      same_lists _ _ (length-joined ∙ sym (length-map_below after n))
      (λ k d h. let i : k < n = omega (arith, length-joined) in joined_at k d i ∙ sym (map_below_at after n k d i))

-- the agents by the couples from i on, from those by the couples after it
pub agents_step : (members : List (ℕ × ℕ)) (i n : ℕ) (d e : ℕ × ℕ) (before after : List Agent) → i < length members
    → All (λ m. (m.0 < n) × (m.1 < n)) members
    → before ≡ map (agent_from (bare_couples (drop (i + 1) members)) (i + 1)) (below n)
    → after ≡ set (set before (get_or members i d).0 (Couple i)) (get_or members i e).1 (Couple i)
    → after ≡ map (agent_from (bare_couples (drop i members)) i) (below n)
agents_step members i n d e before after h within was is =
    let m = get_or members i d in
    let same : get_or members i e ≡ m = get_or_default members i e d h in
    let both : (m.0 < n) × (m.1 < n) = within i d h in
    let next : drop i members ≡ m ∷ drop (i + 1) members = drop_more members i d h in
    let joins = join_one m (bare_couples (drop (i + 1) members)) i n both.0 both.1 in
    is ∙ ap (λ (x : ℕ × ℕ). set (set before m.0 (Couple i)) x.1 (Couple i)) same
    ∙ ap (λ (xs : List Agent). set (set xs m.0 (Couple i)) m.1 (Couple i)) was
    ∙ joins ∙ ap (λ (ms : List (ℕ × ℕ)). map (agent_from (bare_couples ms) i) (below n)) (sym next)

-- the same at a step of the loop, which goes down and writes through a slice of all agents
pub agents_down : (members : List (ℕ × ℕ)) (number n : ℕ) (d e : ℕ × ℕ) (items before after : List Agent) (len : ℕ) → 0 < number → number ≤ length members
    → All (λ m. (m.0 < n) × (m.1 < n)) members
    → items ≡ map (agent_from (bare_couples (drop number members)) number) (below n)
    → before ≡ items
    → after ≡ set (set before (get_or members (number - 1) d).0 (Couple (number - 1))) (get_or members (number - 1) e).1 (Couple (number - 1))
    → len ≡ length items
    → take len (after ++ drop (length after) items) ≡ map (agent_from (bare_couples (drop (number - 1) members)) (number - 1)) (below n)
agents_down members number n d e items before after len some h within was same is size =
    let i : number - 1 < length members = omega arith in
    let back : number - 1 + 1 ≡ number = omega arith in
    let f = λ (k : ℕ). map (agent_from (bare_couples (drop k members)) k) (below n) in
    let long : length after ≡ length items = ap length is ∙ simp length-set (ap length same) in
    take_whole after items len long size
    ∙ agents_step members (number - 1) n d e before after i within (same ∙ was ∙ ap f (sym back)) is

-- The tables have these records' quotas, lists, members, pairs and ids, and agents by the members.
pub record AreMade (t : Tables) (rs : List Record) : Type 0 where
  pub quotas : t.quotas.items ≡ filter_map quota_in rs
  pub rankings : t.by_applicants.rankings ≡ filter_map (ranking_in (applicant_ids rs)) rs
  pub lists : t.by_programs.lists ≡ flat_map (lists_by (ids_of OfProgram rs)) rs
  pub agents : t.agents.items ≡ map (agent_from (bare_couples t.by_applicants.members.items) 0) (below (length (applicant_ids rs)))
  pub members : t.by_applicants.members.items ≡ filter_map (members_in (applicant_ids rs)) rs
  pub pairs : t.by_programs.pairs ≡ filter_map (pairs_in (ids_of OfProgram rs)) rs
  pub program_ids : t.program_ids ≡ ids_of OfProgram rs
  pub applicant_ids : t.applicant_ids ≡ applicant_ids rs
  pub couple_ids : t.couple_ids ≡ ids_of OfCouple rs

-- Below, the market of these records is one that a file may register.
module _ (rs : List Record) (r : IsRegistration (registered_by_all rs)) where
  abbrev market : Market
  market = market_by (names_of rs) rs

  abbrev all_members : List (ℕ × ℕ)
  all_members = filter_map (members_in (applicant_ids rs)) rs

  abbrev all_pairs : List (List Pair)
  all_pairs = filter_map (pairs_in (ids_of OfProgram rs)) rs

  couples_are : couples_with all_members all_pairs ≡ market.couples
  couples_are = couples_of_tables (names_of rs) rs

  length-members : length all_members ≡ length market.couples
  length-members = sym (length-couples_with all_members all_pairs (length-pairs (names_of rs) rs)) ∙ ap length couples_are

  pub few_members : length all_members < 2 ^ 32
  few_members = let few : length market.couples ≤ 10_000 = r.few_couples in omega (arith, length-members)

  pub few_programs : length (ids_of OfProgram rs) < 2 ^ 32
  few_programs = let few : length market.programs ≤ 20_000 = r.few_programs in omega (arith, r.program_names.one_each)

  pub few_applicants : length (applicant_ids rs) < 2 ^ 32
  few_applicants = let few : applicants market ≤ 100_000 = r.few_applicants in omega (arith, r.applicant_names.one_each)

  couple_is : (c : ℕ) → couple_of market c ≡ record { first = (get_or all_members c (0, 0)).0; second = (get_or all_members c (0, 0)).1; pairs = get_or all_pairs c [] }
  couple_is c = ap (λ (cs : List Partners). get_or cs c (record { first = 0; second = 0; pairs = [] })) (sym couples_are) ∙ couple_at all_members all_pairs c (length-pairs (names_of rs) rs)

  pub members_within : All (λ m. (m.0 < length (applicant_ids rs)) × (m.1 < length (applicant_ids rs))) all_members
  members_within c d h =
      let h' : c < length market.couples = omega (arith, length-members) in
      let same : get_or all_members c d ≡ get_or all_members c (0, 0) = get_or_default all_members c d (0, 0) h in
      let first : (couple_of market c).first < applicants market = (r.well_formed.first_member c h').within in
      let second : (couple_of market c).second < applicants market = (r.well_formed.second_member c h').within in
      let one_each : length (applicant_ids rs) ≡ applicants market = r.applicant_names.one_each in
      let first_is : (couple_of market c).first ≡ (get_or all_members c (0, 0)).0 = ap (λ (x : Partners). x.first) (couple_is c) in
      let second_is : (couple_of market c).second ≡ (get_or all_members c (0, 0)).1 = ap (λ (x : Partners). x.second) (couple_is c) in
      rw same (omega arith, omega arith)

  module _ (t : Tables) (made : AreMade t rs) where
    programs_seen : programs_with t.quotas.items t.by_applicants.rankings ≡ market.programs
    programs_seen = rw (made.quotas, made.rankings) (programs_of_tables (names_of rs) rs)

    couples_seen : couples_with t.by_applicants.members.items t.by_programs.pairs ≡ market.couples
    couples_seen = rw (made.members, made.pairs) couples_are

    lists_seen : t.by_programs.lists ≡ market.lists
    lists_seen = made.lists ∙ lists_of_table (names_of rs) rs

    pub tables_seen : registered_of t ≡ registered_by_all rs
    tables_seen = λ i. record {
      market = record { programs = programs_seen i; lists = lists_seen i; couples = couples_seen i };
      names = record { programs = made.program_ids i; applicants = made.applicant_ids i; couples = made.couple_ids i };
    }

    long_pairs : length t.by_programs.pairs ≡ length t.by_applicants.members.items
    long_pairs = ap length made.pairs ∙ length-pairs (names_of rs) rs ∙ sym (ap length made.members)

    long_lists : length (applicant_ids rs) ≡ length t.by_programs.lists
    long_lists = r.applicant_names.one_each ∙ sym (ap length lists_seen)

    pub tables_are : AreTables t
    tables_are = record {
      rankings = ap length made.rankings ∙ length-rankings (names_of rs) rs ∙ sym (ap length made.quotas);
      pairs = long_pairs;
      agents = made.agents
          ∙ map_agree _ _ (below (length (applicant_ids rs))) (λ a. agent_from-bare t.by_applicants.members.items t.by_programs.pairs 0 a long_pairs)
          ∙ ap (λ n. map (agent_of (registered_of t).market) (below n)) long_lists;
      registration = subst IsRegistration (sym tables_seen) r;
    }

-- the tables that are made from names and entries
abbrev pub tables_with : NameLists → ByApplicants × ByPrograms → Vec ℕ Global → Vec Agent Global → Tables
tables_with names e quotas agents = record {
  quotas = quotas;
  agents = agents;
  by_applicants = e.0;
  by_programs = e.1;
  program_ids = names.programs;
  applicant_ids = names.applicants;
  couple_ids = names.couples;
}

-- with agents by the members and by the number of applicants
pub made_by : (rs : List Record) (names : NameLists) (e : ByApplicants × ByPrograms) (quotas : Vec ℕ Global) (agents : Vec Agent Global) (given : List (ℕ × ℕ)) (n : ℕ)
    → AreNames rs names
    → AreEntries rs e
    → quotas.items ≡ filter_map quota_in rs
    → n ≡ length names.applicants
    → given ≡ e.0.members.items
    → agents.items ≡ map (agent_from (bare_couples given) 0) (below n)
    → AreMade (tables_with names e quotas agents) rs
made_by rs names e quotas agents given n are by q count same g = record {
  quotas = q;
  rankings = by.rankings;
  lists = by.lists;
  agents = g ∙ ap₂ (λ (ms : List (ℕ × ℕ)) (k : ℕ). map (agent_from (bare_couples ms) 0) (below k)) same (count ∙ ap length are.applicants);
  members = by.members;
  pairs = by.pairs;
  program_ids = are.programs;
  applicant_ids = are.applicants;
  couple_ids = are.couples;
}
