-- Pieces that are added one after another are added as one. Each lemma is over any pieces, so that no proof computes
-- with the text of a page.
use Rattle.std.proofs.Common.{◌≡◌, ◌∙◌, ℕ, ◌+◌, Bool, true, false, List, [], ◌++◌, Result, Ok, Err, OnOk, IsTrue, IsFalse, refl, ap, sym, append_assoc, if◌then◌else◌}
use Rattle.std.proofs.lemmas.Bool.{true≢false}
use Rattle.std.proofs.lemmas.List.{append-nil}
use Rattle.std.specs.List.{flat_map}
use Rattle.mt_terms.specs.Lists.{below}
use Rattle.mt_terms.proofs.BelowFacts.{flat_map-below_more}

pub two : (t t₁ t₂ a b : List ℕ) → t₁ ≡ t ++ a → t₂ ≡ t₁ ++ b → t₂ ≡ t ++ (a ++ b)
two t t₁ t₂ a b first second = second ∙ ap (λ (text : List ℕ). text ++ b) first ∙ append_assoc t a b

pub three : (t t₁ t₂ t₃ a b c : List ℕ) → t₁ ≡ t ++ a → t₂ ≡ t₁ ++ b → t₃ ≡ t₂ ++ c → t₃ ≡ t ++ (a ++ b ++ c)
three t t₁ t₂ t₃ a b c first second third = two t t₂ t₃ (a ++ b) c (two t t₁ t₂ a b first second) third

pub four : (t t₁ t₂ t₃ t₄ a b c d : List ℕ) → t₁ ≡ t ++ a → t₂ ≡ t₁ ++ b → t₃ ≡ t₂ ++ c → t₄ ≡ t₃ ++ d → t₄ ≡ t ++ (a ++ b ++ c ++ d)
four t t₁ t₂ t₃ t₄ a b c d first second third fourth =
    two t t₃ t₄ (a ++ b ++ c) d (three t t₁ t₂ t₃ a b c first second third) fourth

pub five : (t t₁ t₂ t₃ t₄ t₅ a b c d e : List ℕ) → t₁ ≡ t ++ a → t₂ ≡ t₁ ++ b → t₃ ≡ t₂ ++ c → t₄ ≡ t₃ ++ d → t₅ ≡ t₄ ++ e
    → t₅ ≡ t ++ (a ++ b ++ c ++ d ++ e)
five t t₁ t₂ t₃ t₄ t₅ a b c d e first second third fourth fifth =
    two t t₄ t₅ (a ++ b ++ c ++ d) e (four t t₁ t₂ t₃ t₄ a b c d first second third fourth) fifth

-- a piece that is made of a number, between two others
pub around : (t t₁ t₂ t₃ a c : List ℕ) (f : ℕ → List ℕ) (m n : ℕ) → m ≡ n → t₁ ≡ t ++ a → t₂ ≡ t₁ ++ f m → t₃ ≡ t₂ ++ c → t₃ ≡ t ++ (a ++ f n ++ c)
around t t₁ t₂ t₃ a c f m n same first second third =
    three t t₁ t₂ t₃ a (f n) c first (second ∙ ap (λ (k : ℕ). t₁ ++ f k) same) third

-- three pieces that are others
pub three_same : (t t₁ t₂ t₃ a a' b b' c c' : List ℕ) → a ≡ a' → b ≡ b' → c ≡ c' → t₁ ≡ t ++ a → t₂ ≡ t₁ ++ b → t₃ ≡ t₂ ++ c
    → t₃ ≡ t ++ (a' ++ b' ++ c')
three_same t t₁ t₂ t₃ a a' b b' c c' same_a same_b same_c first second third =
    three t t₁ t₂ t₃ a b c first second third
    ∙ ap (λ (x : List ℕ). t ++ (x ++ b ++ c)) same_a ∙ ap (λ (x : List ℕ). t ++ (a' ++ x ++ c)) same_b
    ∙ ap (λ (x : List ℕ). t ++ (a' ++ b' ++ x)) same_c

-- a piece that is made of what equals two things or three
pub same_two : {A B : Type 0} (t t₁ : List ℕ) (f : A → B → List ℕ) (a a' : A) (b b' : B) → a ≡ a' → b ≡ b'
    → t₁ ≡ t ++ f a b → t₁ ≡ t ++ f a' b'
same_two t t₁ f a a' b b' same_a same_b is = is ∙ ap (λ x. t ++ f x b) same_a ∙ ap (λ y. t ++ f a' y) same_b

pub same_three : {A B C : Type 0} (t t₁ : List ℕ) (f : A → B → C → List ℕ) (a a' : A) (b b' : B) (c c' : C)
    → a ≡ a' → b ≡ b' → c ≡ c' → t₁ ≡ t ++ f a b c → t₁ ≡ t ++ f a' b' c'
same_three t t₁ f a a' b b' c c' same_a same_b same_c is =
    same_two t t₁ (f a') b b' c c' same_b same_c (same_two t t₁ (λ x y. f x y c) a a' b b same_a refl is)

-- no piece is added if a test holds
pub left_out : (t t₁ piece : List ℕ) (test : Bool) → IsTrue test → t₁ ≡ t → t₁ ≡ t ++ (if test then [] else piece)
left_out t t₁ piece true holds same = same ∙ sym (append-nil t)
left_out t t₁ piece false holds same = absurd (true≢false (sym holds))

-- the second of two pieces is added if a test fails
pub put_in : (t t₁ other piece : List ℕ) (test : Bool) → IsFalse test → t₁ ≡ t ++ piece → t₁ ≡ t ++ (if test then other else piece)
put_in t t₁ other piece true fails more = absurd (true≢false fails)
put_in t t₁ other piece false fails more = more

-- one piece more of a list of pieces
pub one_more : (t t₁ t₂ : List ℕ) (f : ℕ → List ℕ) (n : ℕ) → t₁ ≡ t ++ flat_map f (below n) → t₂ ≡ t₁ ++ f n → t₂ ≡ t ++ flat_map f (below (n + 1))
one_more t t₁ t₂ f n so_far next =
    two t t₁ t₂ (flat_map f (below n)) (f n) so_far next ∙ ap (λ (pieces : List ℕ). t ++ pieces) (sym (flat_map-below_more f n))

-- a last piece that is made of what equals two things or three. Its result is returned as it is
pub of_two : {T E A B : Type 0} (r : Result T E) (t t₁ : List ℕ) (f : A → B → List ℕ) (a a' : A) (b b' : B) → a ≡ a' → b ≡ b'
    → OnOk r (t₁ ≡ t ++ f a b) → OnOk r (t₁ ≡ t ++ f a' b')
of_two (Ok v) t t₁ f a a' b b' same_a same_b is = same_two t t₁ f a a' b b' same_a same_b is
of_two (Err e) t t₁ f a a' b b' same_a same_b is = tt

pub of_three : {T E A B C : Type 0} (r : Result T E) (t t₁ : List ℕ) (f : A → B → C → List ℕ) (a a' : A) (b b' : B) (c c' : C)
    → a ≡ a' → b ≡ b' → c ≡ c' → OnOk r (t₁ ≡ t ++ f a b c) → OnOk r (t₁ ≡ t ++ f a' b' c')
of_three r t t₁ f a a' b b' c c' same_a same_b same_c is =
    of_two r t t₁ (f a') b b' c c' same_b same_c (of_two r t t₁ (λ x y. f x y c) a a' b b same_a refl is)
