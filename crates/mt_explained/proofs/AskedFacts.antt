-- The agents that are asked for are agents of the market.
use Rattle.std.proofs.Common.{◌≡◌, ℕ, ◌+◌, ◌<◌, Bool, List, [], ◌∷◌, ◌++◌, length, map, get_or, take, drop, Option, Some, None, IfSome, refl, sym, ap, ◌∙◌, inl, inr, arith}
use Rattle.std.specs.Prelude.{String, bytes_eq, filter_map, find, is_some, not, position, string_bytes}
use Rattle.std.specs.Global.{Global}
use Rattle.std.specs.List.{All, cons_option}
use Rattle.std.proofs.lemmas.Bool.{cases_Bool}
use Rattle.std.proofs.lemmas.List.{drop_more, map-append, take-append-drop, take_more}
use Rattle.std.proofs.lemmas.List.Elements.{All-cons, filter_map-append}
use Rattle.mt_ids.proofs.IdFacts.{found_below}
use Rattle.mt_terms.specs.Market.{Registered, applicants, IsAgentOf}
use Rattle.mt_terms.specs.Registration.Accepted.{IsRegistration}
use Rattle.mt_terms.specs.Registration.Ids.{Bytes}
use Rattle.mt_terms.specs.declared.numbers.Agent.{Agent}
use Rattle.mt_explain.proofs.LawFacts.{agent_numbered}
use Rattle.mt_judged.proofs.AgentFacts.{agents_numbered}
use Rattle.mt_match_file.specs.Agents.{agent_by, agent_named}
use Rattle.mt_explained.specs.Asked.{agents_asked}

position_below : (ids : List Bytes) (id : Bytes) → IfSome (position (bytes_eq id) ids) (λ n. n < length ids)
position_below ids id = go (position (bytes_eq id) ids) refl
  where
    go : (o : Option ℕ) → position (bytes_eq id) ids ≡ o → IfSome o (λ n. n < length ids)
    go None is = tt
    go (Some n) is = found_below ids id n (sym is)

module _ (r : Registered) (registration : IsRegistration r) where
  numbered_by : (a c : Option ℕ) → IfSome a (λ n. n < applicants r.market) → IfSome c (λ n. n < length r.market.couples)
      → IfSome (agent_by r.market a c) (IsAgentOf r.market)
  numbered_by (Some a) c a_in c_in = agent_numbered r.market a a_in
  numbered_by None (Some c) a_in c_in = c_in
  numbered_by None None a_in c_in = tt

  some_below : (o : Option ℕ) (n k : ℕ) → n ≡ k → IfSome o (λ i. i < n) → IfSome o (λ i. i < k)
  some_below None n k same h = tt
  some_below (Some i) n k same h = omega (arith, same, h)

  pub named_numbered : (id : Bytes) → IfSome (agent_named r id) (IsAgentOf r.market)
  named_numbered id =
      numbered_by (position (bytes_eq id) r.names.applicants) (position (bytes_eq id) r.names.couples)
      (some_below (position (bytes_eq id) r.names.applicants) (length r.names.applicants) (applicants r.market) registration.applicant_names.one_each (position_below r.names.applicants id))
      (some_below (position (bytes_eq id) r.names.couples) (length r.names.couples) (length r.market.couples) registration.couple_names.one_each (position_below r.names.couples id))

  with_option : (o : Option Agent) (gs : List Agent) → IfSome o (IsAgentOf r.market) → All (IsAgentOf r.market) gs → All (IsAgentOf r.market) (cons_option o gs)
  with_option None gs h all = all
  with_option (Some g) gs h all = All-cons (IsAgentOf r.market) g gs h all

  all_named : (ids : List Bytes) → All (IsAgentOf r.market) (filter_map (agent_named r) ids)
  all_named [] = λ i d h. absurd (omega arith)
  all_named (id ∷ ids) = with_option (agent_named r id) (filter_map (agent_named r) ids) (named_numbered id) (all_named ids)

  pub asked_numbered : (ids : List Bytes) → All (IsAgentOf r.market) (agents_asked r ids)
  asked_numbered [] = agents_numbered r.market
  asked_numbered (id ∷ ids) = all_named (id ∷ ids)
