-- What an audit sums up.
use Rattle.std.proofs.Common.{◌≡◌, ◌==◌, ℕ, ◌+◌, ◌<◌, true, false, List, Option, Some, None, IfNone, length, take, set, get_or, sym, ap, arith, ne_eqb, get_or-set_same, get_or-set_other, add-one}
use Rattle.std.specs.List.{sum_by}
use Rattle.std.specs.Option.{is_some}
use Rattle.std.proofs.lemmas.List.Sums.{sum_by_more_le}
use Rattle.mt_terms.specs.Lists.{total_below}
use Rattle.mt_terms.proofs.Totals.{total_below-same}
use Rattle.mt_hall.specs.Audits.{made_in}
use Rattle.mt_hall.specs.declared.audit.Row.{Row}

-- what holds of whatever was found holds if nothing was
pub if_none : {A : Type 0} (o : Option A) (P : Type 0) → P → IfNone o P
if_none None P p = p
if_none (Some x) P p = tt

-- with a row written, this number of proposals more was made
pub rows_more : (rows : List Row) (i : ℕ) (row : Row) → i < length rows → total_below (made_in (set rows i row)) (i + 1) ≡ row.made + total_below (made_in rows) i
rows_more rows i row low =
    let none : Row = record { made = 0; standing = false } in
    let here = ap Row.made (get_or-set_same rows i row none low) in
    let before = total_below-same (made_in (set rows i row)) (made_in rows) i (λ k less. ap Row.made (get_or-set_other rows i k row none (λ e. absurd (omega (arith, less, e))))) in
    let more = ap (total_below (made_in (set rows i row))) (add-one i) in
    omega (arith, here, before, more)

-- a desk's credits and the proposals made there are its live entries
pub row_credits : (rows : List Row) (i : ℕ) (row : Row) (credits entries : ℕ) → i < length rows → credits + row.made ≡ entries
    → credits + total_below (made_in (set rows i row)) (i + 1) ≡ total_below (made_in rows) i + entries
row_credits rows i row credits entries low left = omega (arith, rows_more rows i row low, left)

-- what is left of a number is less than the next term: the sum is another number
pub too_many : {X : Type 0} (f : X → ℕ) (xs : List X) (i left number : ℕ) (d : X) → i < length xs → left + sum_by f (take i xs) ≡ number → left < f (get_or xs i d)
    → false ≡ (sum_by f xs == number)
too_many f xs i left number d low rest less =
    let within = sum_by_more_le f xs i d low in
    sym (ne_eqb (sum_by f xs) number (λ e. absurd (omega (arith, within, rest, less, e))))

-- what holds if nothing was found gives what follows from it there; if something was found there is nothing to show
pub if_none_then : {A P Q : Type 0} (o : Option A) → (P → Q) → IfNone o P → IfNone o Q
if_none_then None f p = f p
if_none_then (Some x) f p = tt

pub if_some : {A : Type 0} (o : Option A) (P : Type 0) → is_some o ≡ true → IfNone o P
if_some None P e = cc
if_some (Some x) P e = tt
