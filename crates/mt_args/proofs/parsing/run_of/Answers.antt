use Rattle.std.proofs.Common.{◌≡◌, ◌∙◌, rules, refl, sym, ap, arith, Some, codes, string_bytes, ℕ}
use Rattle.std.specs.Prelude.{option_map, unwrap_or}
use Rattle.std.specs.Option.{option_copied}
use Rattle.clap.specs.Words.{found_of}
use Rattle.clap.proofs.WalkLemmas.{first_value-rows, one_text-rows}
use Rattle.mt_program.specs.CommandLine.{path_by}
use Rattle.mt_args.specs.CommandLine.{number_at}
use Rattle.mt_args.proofs.OptionReads.{flag_read}
use Rattle.mt_args.proofs.ParsedFacts.{option_read}
use Rattle.mt_args.proofs.parsing.run_of.Goals as goal

pub unwrap-requires : goal.unwrap-requires
unwrap-requires c =
    let read = option_read c.args.matches.now _ _ _ c.requires.0 c.get_one.result c.get_one.ensures.value (omega arith) in
    rw read refl

pub unwrap-requires-2 : goal.unwrap-requires-2
unwrap-requires-2 c =
    let read = option_read c.args.matches.now _ _ _ c.requires.1 c.get_one-2.result c.get_one-2.ensures.value (omega arith) in
    rw read refl

pub unwrap-requires-3 : goal.unwrap-requires-3
unwrap-requires-3 c =
    let read = option_read c.args.matches.now _ _ _ c.requires.2 c.get_one-3.result c.get_one-3.ensures.value (omega arith) in
    rw read refl

some_is : {m n : ℕ} → Some m ≡ Some n → m ≡ n
some_is {m} same = ap (λ o. unwrap_or o m) same

workers_is : (c : goal.After-get_flag) → Some c.unwrap.result ≡ Some (number_at c.requires.0.0)
workers_is c =
    sym c.unwrap.ensures ∙ option_read c.args.matches.now _ _ _ c.requires.0 c.get_one.result c.get_one.ensures.value (omega arith)

budget_is : (c : goal.After-get_flag) → Some c.unwrap-2.result ≡ Some (number_at c.requires.1.0)
budget_is c =
    sym c.unwrap-2.ensures ∙ option_read c.args.matches.now _ _ _ c.requires.1 c.get_one-2.result c.get_one-2.ensures.value (omega arith)

orders_is : (c : goal.After-get_flag) → Some c.unwrap-3.result ≡ Some (number_at c.requires.2.0)
orders_is c =
    sym c.unwrap-3.ensures ∙ option_read c.args.matches.now _ _ _ c.requires.2 c.get_one-3.result c.get_one-3.ensures.value (omega arith)

pub returns-clause-orders : goal.returns-clause-orders
returns-clause-orders c = orders_is c ∙ sym (ap (option_map number_at) c.requires.2.1)

pub returns-clause-within : goal.returns-clause-within
returns-clause-within c = let orders = some_is (orders_is c) in (rw orders c.requires.2.3, rw orders c.requires.2.4)

pub returns-clause-set_aside : goal.returns-clause-set_aside
returns-clause-set_aside c =
    let same = one_text-rows (found_of c.args.matches.now) (codes "set-aside") in
    flag_read _ c.requires.3 c.get_flag.result (λ e. c.get_flag.ensures.none (same ∙ e)) (λ e. c.get_flag.ensures.value (same ∙ e)) (λ e. c.get_flag.ensures.other (same ∙ e))

pub returns-clause-workers : goal.returns-clause-workers
returns-clause-workers c = workers_is c ∙ sym (ap (option_map number_at) c.requires.0.1)

pub returns-clause-budget : goal.returns-clause-budget
returns-clause-budget c = budget_is c ∙ sym (ap (option_map number_at) c.requires.1.1)

pub returns-clause-limits : goal.returns-clause-limits
returns-clause-limits c =
    let workers = some_is (workers_is c) in
    let budget = some_is (budget_is c) in
    (rw workers c.requires.0.3, rw workers c.requires.0.4, rw budget c.requires.1.3)

pub returns-clause-file : goal.returns-clause-file
returns-clause-file c =
    let copied : option_map string_bytes c.in_ok-file.file ≡ option_copied c.path_by-path.result = search rules in
    copied ∙ c.path_by-path.ensures ∙ ap path_by (c.get_str.ensures ∙ first_value-rows (found_of c.args.matches.now) (codes "FILE"))
