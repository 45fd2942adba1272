-- What a finding says, and that what it names is there.
use Rattle.std.proofs.Common.{◌≡◌, ℕ, zero, suc, ◌≤◌, Bool, true, false, ◌∙◌, List, length, Option, None, Some, refl, sym, ap, subst, arith}
use Rattle.std.specs.Prelude.{◌↔◌, ◌==◌, IsTrue, slice_index_or}
use Rattle.mt_terms.specs.Market.{Market, Registered, applicants}
use Rattle.mt_terms.specs.declared.numbers.Agent.{Agent}
use Rattle.mt_terms.specs.declared.numbers.Agent.TheVariants.{Single, Couple}
use Rattle.std.proofs.lemmas.Bool.{true≢false}
use Rattle.mt_terms.specs.Stability.{stable}
use Rattle.mt_terms.specs.Verdict.{verdict_of}
use Rattle.mt_terms.specs.WellFormed.{IsWellFormed}
use Rattle.mt_terms.specs.declared.verdict.Verdict.{Verdict}
use Rattle.mt_terms.specs.declared.verdict.Verdict.TheVariants.{Stable, Unlisted, Over, Blocks}
use Rattle.mt_match_file.specs.Submitted.{Submitted}
use Rattle.mt_verdict_laws.specs.Verdict.{VerdictSays}
use Rattle.mt_verdict_laws.proofs.VerdictLemmas.{stable_verdict_lem, verdict_in_words_lem}
use Rattle.mt_first_finding.specs.Findings.{FindingSays, IsThere, finding_by, finding_code, finding_of, first_differing}
use Rattle.mt_first_finding.specs.Text.{finding_line, stable_line_with}
use Rattle.mt_first_finding.specs.declared.finding.Finding.{Finding}
use Rattle.mt_first_finding.specs.declared.finding.Finding.TheVariants.{Of, Differs}

by_verdict : (m : Market) (submitted : Submitted) (v : Verdict) (differing : Option ℕ) → VerdictSays m submitted.places v → first_differing m submitted ≡ differing → FindingSays m submitted (finding_by v differing)
by_verdict m submitted Stable None says is = (says, is)
by_verdict m submitted Stable (Some row) says is = (says, is)
by_verdict m submitted (Unlisted a) differing says is = says
by_verdict m submitted (Over p) differing says is = says
by_verdict m submitted (Blocks b) differing says is = says

pub finding_says : (m : Market) → IsWellFormed m → (submitted : Submitted) → length submitted.places ≡ applicants m → FindingSays m submitted (finding_of m submitted)
finding_says m h submitted one_each = by_verdict m submitted (verdict_of m submitted.places) (first_differing m submitted) (verdict_in_words_lem m h submitted.places one_each) refl

says_there : (m : Market) (submitted : Submitted) (f : Finding) → FindingSays m submitted f → IsThere m f
says_there m submitted (Of Stable) says = tt
says_there m submitted (Of (Unlisted a)) says = says.is_first.within
says_there m submitted (Of (Over p)) says = says.is_first.within
says_there m submitted (Of (Blocks b)) says = says.with_option.within
says_there m submitted (Differs row) says = tt

pub finding_there : (m : Market) → IsWellFormed m → (submitted : Submitted) → length submitted.places ≡ applicants m → IsThere m (finding_of m submitted)
finding_there m h submitted one_each = says_there m submitted (finding_of m submitted) (finding_says m h submitted one_each)

pub code_small : (f : Finding) → finding_code f ≤ 1
code_small (Of Stable) = omega arith
code_small (Of (Unlisted a)) = omega arith
code_small (Of (Over p)) = omega arith
code_small (Of (Blocks b)) = omega arith
code_small (Differs row) = omega arith

-- the code is 0, and the line that of a stable match, for that finding alone
zero_is_stable : (f : Finding) → finding_code f ≡ 0 → f ≡ Of Stable
zero_is_stable (Of Stable) h = refl
zero_is_stable (Of (Unlisted a)) h = absurd (omega arith)
zero_is_stable (Of (Over p)) h = absurd (omega arith)
zero_is_stable (Of (Blocks b)) h = absurd (omega arith)
zero_is_stable (Differs row) h = absurd (omega arith)

-- the first byte of the word tells the lines apart
word_is_stable : List ℕ → Bool
word_is_stable text = slice_index_or text 8 0 == 115

stable_word : (n : ℕ) → word_is_stable (stable_line_with n) ≡ true
unfolding word_is_stable
stable_word zero = refl
stable_word (suc n) = refl

-- a line with another word is none of a stable match
other_word : (n : ℕ) (text : List ℕ) → word_is_stable text ≡ false → text ≡ stable_line_with n → ⊥
other_word n text other h = true≢false (sym (stable_word n) ∙ sym (ap word_is_stable h) ∙ other)

blocks_is_not_stable : (r : Registered) (n : ℕ) (g : Agent) (option : ℕ) → finding_line r n (Of (Blocks (record { agent = g; option = option }))) ≡ stable_line_with n → ⊥
unfolding word_is_stable
blocks_is_not_stable r n (Single a) option h = other_word n (finding_line r n (Of (Blocks (record { agent = Single a; option = option })))) refl h
blocks_is_not_stable r n (Couple c) option h = other_word n (finding_line r n (Of (Blocks (record { agent = Couple c; option = option })))) refl h

line_is_stable : (r : Registered) (n : ℕ) (f : Finding) → finding_line r n f ≡ stable_line_with n → f ≡ Of Stable
unfolding word_is_stable
line_is_stable r n (Of Stable) h = refl
line_is_stable r n (Of (Unlisted a)) h = absurd (other_word n (finding_line r n (Of (Unlisted a))) refl h)
line_is_stable r n (Of (Over p)) h = absurd (other_word n (finding_line r n (Of (Over p))) refl h)
line_is_stable r n (Of (Blocks b)) h = absurd (blocks_is_not_stable r n b.agent b.option h)
line_is_stable r n (Differs row) h = absurd (other_word n (finding_line r n (Differs row)) refl h)

pub stable_ends : (r : Registered) (n : ℕ) (f : Finding) → (finding_code f ≡ 0) ↔ (finding_line r n f ≡ stable_line_with n)
stable_ends r n f = (λ zero. ap (finding_line r n) (zero_is_stable f zero), λ line. ap finding_code (line_is_stable r n f line))

-- the line is that of a stable match if and only if the match is stable and its counts fit
pub stable_line_is : (r : Registered) (n : ℕ) → IsWellFormed r.market → (submitted : Submitted) → length submitted.places ≡ applicants r.market
    → (finding_line r n (finding_of r.market submitted) ≡ stable_line_with n) ↔ (IsTrue (stable r.market submitted.places) × (first_differing r.market submitted ≡ None))
stable_line_is r n h submitted one_each = (
  λ line. subst (λ (f : Finding). FindingSays r.market submitted f) (line_is_stable r n (finding_of r.market submitted) line) (finding_says r.market h submitted one_each),
  λ both. let is : verdict_of r.market submitted.places ≡ Stable = (stable_verdict_lem r.market h submitted.places one_each).1 both.0 in rw (is, both.1) refl,
)
