use Rattle.std.proofs.Common.{◌≡◌, ◌<◌, arith, ap, ◌∙◌, length, get_or, refl, ℕ}
use Rattle.std.proofs.lemmas.List.{get_or_read_under}
use Rattle.mt_terms.specs.Market.{Registered, couple_of}
use Rattle.mt_market.specs.declared.tables.Tables.{Tables}
use Rattle.mt_market.specs.Tables.{registered_of, AreTables}
use Rattle.mt_market.proofs.TablesFacts.{count_of_couples, first_at, second_at}
use Rattle.mt_market.proofs.tables.Roster.members.Goals as goal

pub index-requires-2 : goal.index-requires-2
index-requires-2 c = omega (arith, count_of_couples c.self.inside.tables c.self.invariant, ap (λ (r : Registered). length r.market.couples) c.self.view_is)

-- the members at a place, as the view has them
member : (i : Tables) (v : Registered) (couple n : ℕ) (m : ℕ × ℕ) → AreTables i → registered_of i ≡ v → couple < length v.market.couples → n ≡ couple → m ≡ get_or i.by_applicants.members.items n m
    → m ≡ ((couple_of v.market couple).first, (couple_of v.market couple).second)
member i v couple n m is view below same at =
    let within : couple < length i.by_applicants.members.items = omega (arith, count_of_couples i is, ap (λ (r : Registered). length r.market.couples) view) in
    let read : m ≡ get_or i.by_applicants.members.items couple (0, 0) = get_or_read_under i.by_applicants.members.items couple _ m (0, 0) (rw same at at) within refl in
    let first : m.0 ≡ (couple_of v.market couple).first = ap (λ (x : ℕ × ℕ). x.0) read ∙ first_at i couple is ∙ ap (λ (r : Registered). (couple_of r.market couple).first) view in
    let second : m.1 ≡ (couple_of v.market couple).second = ap (λ (x : ℕ × ℕ). x.1) read ∙ second_at i couple is ∙ ap (λ (r : Registered). (couple_of r.market couple).second) view in
    λ k. (first k, second k)

pub returns-clause-first : goal.returns-clause-first
returns-clause-first c =
    ap (λ (x : ℕ × ℕ). x.0) (member c.self.inside.tables c.args.self.now c.args.couple c.index.result c.index-2.result.now c.self.invariant c.self.view_is c.requires c.index.ensures c.index-2.ensures)

pub returns-clause-second : goal.returns-clause-second
returns-clause-second c =
    ap (λ (x : ℕ × ℕ). x.1) (member c.self.inside.tables c.args.self.now c.args.couple c.index.result c.index-2.result.now c.self.invariant c.self.view_is c.requires c.index.ensures c.index-2.ensures)
