-- The end of the rejection chain, computed.
use Rattle.std.proofs.Common.{◌≡◌, ℕ, zero, suc, ◌≤◌, length, refl, sym, ◌∙◌, subst, arith}
use Rattle.std.proofs.lemmas.Bool.Decides.{nat_tests}
use Rattle.mt_terms.specs.Examples.Markets.{chain}
use Rattle.mt_terms.specs.Examples.Events.{by_wishes, from_the_last}
use Rattle.mt_terms.specs.Floor.{Floor, IsLegal, opening, after_all}
use Rattle.mt_terms.specs.Market.{program_of}
use Rattle.mt_floor_laws.proofs.FloorQuiet.{order_free_lem}
use Rattle.mt_floor_laws.proofs.FloorRuns.{chain_has_strict_end}
use Rattle.mt_hold.specs.Holding.{ranks}
use Rattle.mt_ranks.proofs.LiveMarket.{live_market_ranked}
use Rattle.mt_core.specs.Floors.{floor_of, hold_of, IsOpenedWith}
use Rattle.mt_core.specs.Examples.{chain_end, ChainEnds}
use Rattle.mt_core.proofs.FloorTables.{same_floor}

-- the floor that the tables show, number by number
abbrev IsChainEnd : Floor → Type 0
IsChainEnd f = floor_of chain chain_end ≡ f

after_wishes : IsChainEnd (after_all chain opening by_wishes)
unfolding floor_of
after_wishes = same_floor (floor_of chain chain_end) (after_all chain opening by_wishes) makes stands receives
  where
    makes : (a : ℕ) → (floor_of chain chain_end).made a ≡ (after_all chain opening by_wishes).made a
    makes zero = refl
    makes (suc zero) = refl
    makes (suc (suc zero)) = refl
    makes (suc (suc (suc a))) = grind (arith, nat_tests)

    stands : (a : ℕ) → (floor_of chain chain_end).standing a ≡ (after_all chain opening by_wishes).standing a
    stands zero = refl
    stands (suc zero) = refl
    stands (suc (suc zero)) = refl
    stands (suc (suc (suc a))) = grind (arith, nat_tests)

    receives : (p a : ℕ) → (floor_of chain chain_end).received p a ≡ (after_all chain opening by_wishes).received p a
    receives zero zero = refl
    receives zero (suc zero) = refl
    receives zero (suc (suc zero)) = refl
    receives zero (suc (suc (suc a))) = grind (arith, nat_tests)
    receives (suc zero) zero = refl
    receives (suc zero) (suc zero) = refl
    receives (suc zero) (suc (suc a)) = grind (arith, nat_tests)
    receives (suc (suc p)) a = grind (arith, nat_tests)

-- the order of the events makes no difference, but for who stands, which is computed
after_last : IsChainEnd (after_all chain opening from_the_last)
after_last =
    let alike = order_free_lem chain chain_has_strict_end.well_formed by_wishes from_the_last refl refl in
    after_wishes
    ∙ same_floor (after_all chain opening by_wishes) (after_all chain opening from_the_last) alike.same_made stands alike.same_received
  where
    stands : (a : ℕ) → (after_all chain opening by_wishes).standing a ≡ (after_all chain opening from_the_last).standing a
    stands zero = refl
    stands (suc zero) = refl
    stands (suc (suc zero)) = refl
    stands (suc (suc (suc a))) = grind (arith, nat_tests)

is_opened : IsOpenedWith chain chain_end
is_opened = record { made = refl; standing = refl; holds = refl; quotas = same_quota; lists = same_length }
  where
    same_quota : (p : ℕ) → (hold_of chain_end p).quota ≡ (program_of chain p).quota
    same_quota zero = refl
    same_quota (suc zero) = refl
    same_quota (suc (suc p)) = refl

    same_length : (p : ℕ) → ranks (hold_of chain_end p) ≡ length (program_of chain p).ranking
    same_length zero = refl
    same_length (suc zero) = refl
    same_length (suc (suc p)) = refl

few_applicants : 3 ≤ 100000
few_applicants = omega arith

few_programs : 2 ≤ 20000
few_programs = omega arith

pub chain_ends : ChainEnds
unfolding floor_of
chain_ends = record {
  tables = refl;
  ranked = live_market_ranked chain chain_has_strict_end.well_formed few_applicants few_programs;
  opened = is_opened;
  wishes = record { floor = after_wishes; quiet = refl };
  last = record { floor = after_last; quiet = refl };
  legal = subst (λ (f : Floor). IsLegal chain f) (sym after_wishes) chain_has_strict_end.strict.legal;
  places = refl;
}
