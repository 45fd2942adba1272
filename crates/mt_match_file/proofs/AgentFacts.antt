-- The agents that words name, with one word more.
use Rattle.std.proofs.Common.{◌≡◌, ℕ, ◌+◌, ◌<◌, Bool, List, [], ◌∷◌, ◌++◌, length, map, get_or, take, drop, Some, None, refl, sym, ap, ◌∙◌, inl, inr}
use Rattle.std.specs.Prelude.{String, filter_map, find, is_some, not, string_bytes}
use Rattle.std.specs.Global.{Global}
use Rattle.std.proofs.lemmas.Bool.{cases_Bool}
use Rattle.std.proofs.lemmas.List.{drop_more, map-append, take-append-drop, take_more}
use Rattle.std.proofs.lemmas.List.Elements.{filter_map-append}
use Rattle.mt_terms.specs.Market.{Registered}
use Rattle.mt_terms.specs.declared.numbers.Agent.{Agent}
use Rattle.mt_match_file.specs.Agents.{agent_named, first_unknown}

-- a search after elements that don't pass
find_after : {X : Type 0} (test : X → Bool) (xs ys : List X) → find test xs ≡ None → find test (xs ++ ys) ≡ find test ys
find_after test [] ys h = refl
find_after test (x ∷ xs) ys h = elim (cases_Bool (test x)) [
  | inl here ↦ (let found : Some x ≡ None = rw here at h in cc)
  | inr other ↦ (let rest : find test xs ≡ None = rw other at h in rw other (find_after test xs ys rest))
]

-- one word more
module _ (r : Registered) (words : List (String Global)) (i : ℕ) (w : String Global) (within : i < length words) (is : w ≡ get_or words i w)
    (known : first_unknown r (map string_bytes (take i words)) ≡ None) where
  words_more : map string_bytes (take (i + 1) words) ≡ map string_bytes (take i words) ++ string_bytes w ∷ []
  words_more =
      ap (map string_bytes) (take_more words i w within ∙ ap (λ (x : String Global). take i words ++ x ∷ []) (sym is))
      ∙ map-append string_bytes (take i words) (w ∷ [])

  pub known_more : (g : Agent) → agent_named r (string_bytes w) ≡ Some g → first_unknown r (map string_bytes (take (i + 1) words)) ≡ None
  known_more g named =
      let one : first_unknown r (string_bytes w ∷ []) ≡ None = rw named refl in
      ap (first_unknown r) words_more ∙ find_after (λ id. not (is_some (agent_named r id))) (map string_bytes (take i words)) (string_bytes w ∷ []) known ∙ one

  pub named_more : (g : Agent) (gs : List Agent) → agent_named r (string_bytes w) ≡ Some g → gs ≡ filter_map (agent_named r) (map string_bytes (take i words))
      → gs ++ g ∷ [] ≡ filter_map (agent_named r) (map string_bytes (take (i + 1) words))
  named_more g gs named so_far =
      let one : filter_map (agent_named r) (string_bytes w ∷ []) ≡ g ∷ [] = rw named refl in
      ap (λ (xs : List Agent). xs ++ g ∷ []) so_far
      ∙ sym (ap (filter_map (agent_named r)) words_more
      ∙ filter_map-append (agent_named r) (map string_bytes (take i words)) (string_bytes w ∷ [])
      ∙ ap (λ (xs : List Agent). filter_map (agent_named r) (map string_bytes (take i words)) ++ xs) one)

  pub unknown_here : agent_named r (string_bytes w) ≡ None → first_unknown r (map string_bytes words) ≡ Some (string_bytes w)
  unknown_here none =
      let rest : drop i words ≡ w ∷ drop (i + 1) words = drop_more words i w within ∙ ap (λ (x : String Global). x ∷ drop (i + 1) words) (sym is) in
      let all : words ≡ take i words ++ (w ∷ drop (i + 1) words) = sym (take-append-drop i words) ∙ ap (λ (xs : List (String Global)). take i words ++ xs) rest in
      let here : first_unknown r (string_bytes w ∷ map string_bytes (drop (i + 1) words)) ≡ Some (string_bytes w) = rw none refl in
      ap (λ (xs : List (String Global)). first_unknown r (map string_bytes xs)) all
      ∙ ap (first_unknown r) (map-append string_bytes (take i words) (w ∷ drop (i + 1) words))
      ∙ find_after (λ id. not (is_some (agent_named r id))) (map string_bytes (take i words)) (string_bytes w ∷ map string_bytes (drop (i + 1) words)) known
      ∙ here
