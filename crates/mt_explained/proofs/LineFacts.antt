-- The lines of an agent and of several agents, of which some are written and some are left.
use Rattle.std.proofs.Common.{◌≡◌, ℕ, zero, suc, ◌+◌, ◌<◌, List, [], ◌∷◌, ◌++◌, length, take, drop, get_or, Bool, refl, sym, ap, ◌∙◌, append_assoc, arith}
use Rattle.std.proofs.lemmas.Grind.{flat_map-append}
use Rattle.std.proofs.lemmas.List.{append-nil, drop_more, take-append-drop, take_more}
use Rattle.mt_terms.specs.Market.{Market, Registered}
use Rattle.mt_terms.specs.Matching.{Places, Placement, better}
use Rattle.mt_terms.specs.Registration.Ids.{Bytes}
use Rattle.mt_terms.specs.declared.numbers.Agent.{Agent}
use Rattle.mt_explain.specs.Lines.{lines_from, option_lines}
use Rattle.mt_explain.specs.declared.line.Line.{Line}
use Rattle.mt_explain_text.specs.Text.{above_line, above_lines, agent_text, agents_text, own_line}

-- the lines of a front of some options, and of the option after it
pub lines_more : (m : Market) (places : Places) (k : ℕ) (opts : List Placement) (i : ℕ) → i < length opts
    → lines_from m places k (take (i + 1) opts) ≡ lines_from m places k (take i opts) ++ option_lines m places (k + i) (get_or opts i [])
lines_more m places k [] i h = absurd (omega arith)
lines_more m places k (sent ∷ rest) zero h =
    let same : k + 0 ≡ k = omega arith in
    append-nil (option_lines m places k sent) ∙ ap (λ (n : ℕ). option_lines m places n sent) (sym same)
lines_more m places k (sent ∷ rest) (suc i) h =
    let same : k + 1 + i ≡ k + suc i = omega arith in
    let more : suc i + 1 ≡ suc (i + 1) = omega arith in
    ap (λ (n : ℕ). lines_from m places k (take n (sent ∷ rest))) more
    ∙ ap (λ (lines : List Line). option_lines m places k sent ++ lines) (lines_more m places (k + 1) rest i (omega arith))
    ∙ sym (append_assoc (option_lines m places k sent) (lines_from m places (k + 1) (take i rest)) (option_lines m places (k + 1 + i) (get_or rest i [])))
    ∙ ap (λ (n : ℕ). (option_lines m places k sent ++ lines_from m places (k + 1) (take i rest)) ++ option_lines m places n (get_or rest i [])) same

-- the lines of some options are those of a front, and others
pub lines_split : (m : Market) (places : Places) (k : ℕ) (opts : List Placement) (i : ℕ)
    → lines_from m places k (take i opts) ++ lines_from m places (k + i) (drop i opts) ≡ lines_from m places k opts
lines_split m places k [] zero = refl
lines_split m places k [] (suc i) = refl
lines_split m places k (sent ∷ rest) zero =
    let same : k + 0 ≡ k = omega arith in
    ap (λ (n : ℕ). lines_from m places n (sent ∷ rest)) same
lines_split m places k (sent ∷ rest) (suc i) =
    let same : k + suc i ≡ k + 1 + i = omega arith in
    append_assoc (option_lines m places k sent) (lines_from m places (k + 1) (take i rest)) (lines_from m places (k + suc i) (drop i rest))
    ∙ ap (λ (n : ℕ). option_lines m places k sent ++ (lines_from m places (k + 1) (take i rest) ++ lines_from m places n (drop i rest))) same
    ∙ ap (λ (lines : List Line). option_lines m places k sent ++ lines) (lines_split m places (k + 1) rest i)

module _ (r : Registered) (places : Places) (is_public : Bool) (g : Agent) where
  -- the line of what an agent has, and those of its first better options
  abbrev pub so_far : ℕ → Bytes
  so_far i = own_line r places is_public g ++ above_lines r is_public g (lines_from r.market places 0 (take i (better r.market places g)))

  abbrev pub option_text : ℕ → Placement → Bytes
  option_text i sent = above_lines r is_public g (option_lines r.market places i sent)

  pub so_far_first : so_far 0 ≡ own_line r places is_public g
  so_far_first = append-nil (own_line r places is_public g)

  pub so_far_more : (i : ℕ) → i < length (better r.market places g)
      → so_far i ++ option_text i (get_or (better r.market places g) i []) ≡ so_far (i + 1)
  so_far_more i h =
      let own = own_line r places is_public g in
      let before = lines_from r.market places 0 (take i (better r.market places g)) in
      let next = option_lines r.market places i (get_or (better r.market places g) i []) in
      let same : 0 + i ≡ i = omega arith in
      append_assoc own (above_lines r is_public g before) (above_lines r is_public g next)
      ∙ ap (λ (text : Bytes). own ++ text) (sym (flat_map-append (above_line r is_public g) before next))
      ∙ ap (λ (n : ℕ). own ++ above_lines r is_public g (before ++ option_lines r.market places n (get_or (better r.market places g) i []))) (sym same)
      ∙ ap (λ (lines : List Line). own ++ above_lines r is_public g lines) (sym (lines_more r.market places 0 (better r.market places g) i h))

  pub rest_after : ℕ → Bytes
  rest_after i = above_lines r is_public g (lines_from r.market places (0 + i) (drop i (better r.market places g)))

  pub so_far_split : (i : ℕ) → so_far i ++ rest_after i ≡ agent_text r places is_public g
  unfolding rest_after
  so_far_split i =
      let own = own_line r places is_public g in
      let before = lines_from r.market places 0 (take i (better r.market places g)) in
      let later = lines_from r.market places (0 + i) (drop i (better r.market places g)) in
      append_assoc own (above_lines r is_public g before) (above_lines r is_public g later)
      ∙ ap (λ (text : Bytes). own ++ text) (sym (flat_map-append (above_line r is_public g) before later))
      ∙ ap (λ (lines : List Line). own ++ above_lines r is_public g lines) (lines_split r.market places 0 (better r.market places g) i)

-- the same of several agents
module _ (r : Registered) (places : Places) (is_public : Bool) (agents : List Agent) where
  pub agents_more : (i : ℕ) (g : Agent) → i < length agents
      → agents_text r places is_public (take i agents) ++ agent_text r places is_public (get_or agents i g) ≡ agents_text r places is_public (take (i + 1) agents)
  agents_more i g h =
      ap (λ (text : Bytes). agents_text r places is_public (take i agents) ++ text) (sym (append-nil (agent_text r places is_public (get_or agents i g))))
      ∙ sym (flat_map-append (agent_text r places is_public) (take i agents) (get_or agents i g ∷ []))
      ∙ ap (agents_text r places is_public) (sym (take_more agents i g h))

  pub agents_split : (i : ℕ) → agents_text r places is_public (take i agents) ++ agents_text r places is_public (drop i agents) ≡ agents_text r places is_public agents
  agents_split i =
      sym (flat_map-append (agent_text r places is_public) (take i agents) (drop i agents)) ∙ ap (agents_text r places is_public) (take-append-drop i agents)

  pub agents_rest : (i : ℕ) (g : Agent) → i < length agents → g ≡ get_or agents i g
      → agents_text r places is_public (take i agents) ++ (agent_text r places is_public g ++ agents_text r places is_public (drop (i + 1) agents)) ≡ agents_text r places is_public agents
  agents_rest i g h is =
      let rest : drop i agents ≡ g ∷ drop (i + 1) agents = drop_more agents i g h ∙ ap (λ (x : Agent). x ∷ drop (i + 1) agents) (sym is) in
      ap (λ (gs : List Agent). agents_text r places is_public (take i agents) ++ agents_text r places is_public gs) (sym rest) ∙ agents_split i
