use Rattle.std.proofs.Common.{◌≡◌, ◌≢◌, ℕ, Bool, true, false, List, [], ◌∷◌, Option, Some, Result, Ok, Err, IfOk, IfErr, codes, sym, ap, ◌∙◌, subst}
use Rattle.clap.specs.Words.{Row, Text, fault_of, kind_of}
use Rattle.clap.specs.declared.error.kind.ErrorKind.{ErrorKind}
use Rattle.clap.specs.declared.error.kind.ErrorKind.TheVariants.{DisplayHelp, DisplayVersion, OutOfMemory}
use Rattle.mt_args.specs.CommandLine.{AreOrders, AsksForHelp, AsksForVersion, IfRun, IfRunInWays, IsMisuse, IsWithinLimits, OnHelp, OnUsage, OnVersion, file_in, file_of, is_set, is_set_in, is_taken, nrmatch, number_in, number_of}
use Rattle.mt_program.specs.CommandLine.{texts_of}
use Rattle.mt_args.specs.declared.answer.Asked.{Asked}
use Rattle.mt_args.specs.declared.answer.Asked.TheVariants.{Run, Help, Version}
use Rattle.mt_args.specs.declared.answer.AskEnd.{AskEnd}
use Rattle.mt_args.specs.declared.answer.AskEnd.TheVariants.{Usage, Memory}
use Rattle.mt_terms.specs.declared.options.Options.{Options}
use Rattle.mt_args.proofs.parsing.asked.Goals as goal

-- an answer that is a run, or is none, and one that follows from another
run_says : (P : Type 0) → P → (end : Result Asked AskEnd) → IfOk end (λ a. IfRun a (λ _ _. P))
run_says P p (Ok (Run file options orders set_aside)) = p
run_says P p (Ok (Help text)) = tt
run_says P p (Ok (Version text)) = tt
run_says P p (Err e) = tt

no_ways : (Q : ℕ → Bool → Type 0) (end : Result Asked AskEnd) → IfOk end (λ a. IfRun a (λ _ _. ⊥)) → IfOk end (λ a. IfRunInWays a Q)
no_ways Q (Ok (Run file options orders set_aside)) h = absurd h
no_ways Q (Ok (Help text)) h = tt
no_ways Q (Ok (Version text)) h = tt
no_ways Q (Err e) h = tt

no_run : (Q : Option Text → Options → Type 0) (end : Result Asked AskEnd) → IfOk end (λ a. IfRun a (λ _ _. ⊥)) → IfOk end (λ a. IfRun a Q)
no_run Q (Ok (Run file options orders set_aside)) h = absurd h
no_run Q (Ok (Help text)) h = tt
no_run Q (Ok (Version text)) h = tt
no_run Q (Err e) h = tt

help_so : (P Q : Type 0) → (P → Q) → (end : Result Asked AskEnd) → IfOk end (λ a. OnHelp a P) → IfOk end (λ a. OnHelp a Q)
help_so P Q f (Ok (Run file options orders set_aside)) h = tt
help_so P Q f (Ok (Help text)) h = f h
help_so P Q f (Ok (Version text)) h = tt
help_so P Q f (Err e) h = tt

version_so : (P Q : Type 0) → (P → Q) → (end : Result Asked AskEnd) → IfOk end (λ a. OnVersion a P) → IfOk end (λ a. OnVersion a Q)
version_so P Q f (Ok (Run file options orders set_aside)) h = tt
version_so P Q f (Ok (Help text)) h = tt
version_so P Q f (Ok (Version text)) h = f h
version_so P Q f (Err e) h = tt

usage_so : (P Q : Type 0) → (P → Q) → (end : Result Asked AskEnd) → IfErr end (λ e. OnUsage e P) → IfErr end (λ e. OnUsage e Q)
usage_so P Q f (Ok a) h = tt
usage_so P Q f (Err (Usage text)) h = f h
usage_so P Q f (Err Memory) h = tt

usage_by : (P Q R S : Type 0) → (P → Q → R → S) → (end : Result Asked AskEnd) → IfErr end (λ e. OnUsage e P) → IfErr end (λ e. OnUsage e Q) → IfErr end (λ e. OnUsage e R)
    → IfErr end (λ e. OnUsage e S)
usage_by P Q R S f (Ok a) p q r = tt
usage_by P Q R S f (Err (Usage text)) p q r = f p q r
usage_by P Q R S f (Err Memory) p q r = tt

help_differs : DisplayHelp ≡ OutOfMemory → ⊥
help_differs e = cc

version_differs : DisplayVersion ≡ OutOfMemory → ⊥
version_differs e = cc

asks_by : (kind is : ErrorKind) (faults : List ErrorKind) → (is ≡ OutOfMemory → ⊥) → (kind ≢ OutOfMemory → faults ≡ kind ∷ []) → kind ≡ is → faults ≡ is ∷ []
asks_by kind is faults differs err same = err (λ m. differs (sym same ∙ m)) ∙ ap (λ k. k ∷ []) same

pub returns-in-Ok-clause-taken : goal.returns-in-Ok-clause-taken
returns-in-Ok-clause-taken c = run_says (is_taken (texts_of c.args.words.now) ≡ true) c.in-Ok.ensures.taken c.run_of.result

pub returns-in-Ok-clause-file : goal.returns-in-Ok-clause-file
returns-in-Ok-clause-file c = subst (λ (rows : List Row). IfOk c.run_of.result (λ a. IfRun a (λ file _. file ≡ file_in rows))) c.in-Ok.ensures.rows c.run_of.ensures.file

pub returns-in-Ok-clause-workers : goal.returns-in-Ok-clause-workers
returns-in-Ok-clause-workers c = subst (λ (rows : List Row). IfOk c.run_of.result (λ a. IfRun a (λ _ options. Some options.workers ≡ number_in (codes "workers") rows))) c.in-Ok.ensures.rows c.run_of.ensures.workers

pub returns-in-Ok-clause-budget : goal.returns-in-Ok-clause-budget
returns-in-Ok-clause-budget c = subst (λ (rows : List Row). IfOk c.run_of.result (λ a. IfRun a (λ _ options. Some options.budget ≡ number_in (codes "budget") rows))) c.in-Ok.ensures.rows c.run_of.ensures.budget

pub returns-in-Ok-clause-limits : goal.returns-in-Ok-clause-limits
returns-in-Ok-clause-limits c = c.run_of.ensures.limits

pub returns-in-Ok-clause-orders : goal.returns-in-Ok-clause-orders
returns-in-Ok-clause-orders c = subst (λ (rows : List Row). IfOk c.run_of.result (λ a. IfRunInWays a (λ orders _. Some orders ≡ number_in (codes "orders") rows))) c.in-Ok.ensures.rows c.run_of.ensures.orders

pub returns-in-Ok-clause-set_aside : goal.returns-in-Ok-clause-set_aside
returns-in-Ok-clause-set_aside c = subst (λ (rows : List Row). IfOk c.run_of.result (λ a. IfRunInWays a (λ _ set_aside. set_aside ≡ is_set_in (codes "set-aside") rows))) c.in-Ok.ensures.rows c.run_of.ensures.set_aside

pub returns-in-Ok-clause-within : goal.returns-in-Ok-clause-within
returns-in-Ok-clause-within c = c.run_of.ensures.within

pub returns-in-Ok-clause-help : goal.returns-in-Ok-clause-help
returns-in-Ok-clause-help c = help_so ⊥ (AsksForHelp (texts_of c.args.words.now)) (λ none. absurd none) c.run_of.result c.run_of.ensures.run

pub returns-in-Ok-clause-help_untaken : goal.returns-in-Ok-clause-help_untaken
returns-in-Ok-clause-help_untaken c = help_so ⊥ (is_taken (texts_of c.args.words.now) ≡ false) (λ none. absurd none) c.run_of.result c.run_of.ensures.run

pub returns-in-Ok-clause-version : goal.returns-in-Ok-clause-version
returns-in-Ok-clause-version c = version_so ⊥ (AsksForVersion (texts_of c.args.words.now)) (λ none. absurd none) c.run_of.result c.run_of.ensures.no_version

pub returns-in-Ok-clause-version_untaken : goal.returns-in-Ok-clause-version_untaken
returns-in-Ok-clause-version_untaken c = version_so ⊥ (is_taken (texts_of c.args.words.now) ≡ false) (λ none. absurd none) c.run_of.result c.run_of.ensures.no_version

pub returns-in-Ok-clause-usage : goal.returns-in-Ok-clause-usage
returns-in-Ok-clause-usage c = usage_so ⊥ (IsMisuse (texts_of c.args.words.now)) (λ none. absurd none) c.run_of.result c.run_of.ensures.err

pub returns-in-Ok-clause-usage_untaken : goal.returns-in-Ok-clause-usage_untaken
returns-in-Ok-clause-usage_untaken c = usage_so ⊥ (is_taken (texts_of c.args.words.now) ≡ false) (λ none. absurd none) c.run_of.result c.run_of.ensures.err

pub returns-in-Err-clause-taken : goal.returns-in-Err-clause-taken
returns-in-Err-clause-taken c = no_run (λ _ _. is_taken (texts_of c.args.words.now) ≡ true) c.end_of.result c.end_of.ensures.run

pub returns-in-Err-clause-file : goal.returns-in-Err-clause-file
returns-in-Err-clause-file c = no_run (λ file _. file ≡ file_of (texts_of c.args.words.now)) c.end_of.result c.end_of.ensures.run

pub returns-in-Err-clause-workers : goal.returns-in-Err-clause-workers
returns-in-Err-clause-workers c = no_run (λ _ options. Some options.workers ≡ number_of (codes "workers") (texts_of c.args.words.now)) c.end_of.result c.end_of.ensures.run

pub returns-in-Err-clause-budget : goal.returns-in-Err-clause-budget
returns-in-Err-clause-budget c = no_run (λ _ options. Some options.budget ≡ number_of (codes "budget") (texts_of c.args.words.now)) c.end_of.result c.end_of.ensures.run

pub returns-in-Err-clause-limits : goal.returns-in-Err-clause-limits
returns-in-Err-clause-limits c = no_run (λ _ options. IsWithinLimits options) c.end_of.result c.end_of.ensures.run

pub returns-in-Err-clause-orders : goal.returns-in-Err-clause-orders
returns-in-Err-clause-orders c = no_ways (λ orders _. Some orders ≡ number_of (codes "orders") (texts_of c.args.words.now)) c.end_of.result c.end_of.ensures.run

pub returns-in-Err-clause-set_aside : goal.returns-in-Err-clause-set_aside
returns-in-Err-clause-set_aside c = no_ways (λ _ set_aside. set_aside ≡ is_set (codes "set-aside") (texts_of c.args.words.now)) c.end_of.result c.end_of.ensures.run

pub returns-in-Err-clause-within : goal.returns-in-Err-clause-within
returns-in-Err-clause-within c = no_ways (λ orders _. AreOrders orders) c.end_of.result c.end_of.ensures.run

pub returns-in-Err-clause-help : goal.returns-in-Err-clause-help
returns-in-Err-clause-help c = help_so (kind_of c.in-Err.error ≡ DisplayHelp) (AsksForHelp (texts_of c.args.words.now)) (asks_by (kind_of c.in-Err.error) DisplayHelp (fault_of nrmatch (texts_of c.args.words.now)) help_differs c.in-Err.ensures.err) c.end_of.result c.end_of.ensures.help

pub returns-in-Err-clause-help_untaken : goal.returns-in-Err-clause-help_untaken
returns-in-Err-clause-help_untaken c = help_so (kind_of c.in-Err.error ≡ DisplayHelp) (is_taken (texts_of c.args.words.now) ≡ false) (λ is. c.in-Err.ensures.refused (λ m. help_differs (sym is ∙ m))) c.end_of.result c.end_of.ensures.help

pub returns-in-Err-clause-version : goal.returns-in-Err-clause-version
returns-in-Err-clause-version c = version_so (kind_of c.in-Err.error ≡ DisplayVersion) (AsksForVersion (texts_of c.args.words.now)) (asks_by (kind_of c.in-Err.error) DisplayVersion (fault_of nrmatch (texts_of c.args.words.now)) version_differs c.in-Err.ensures.err) c.end_of.result c.end_of.ensures.version

pub returns-in-Err-clause-version_untaken : goal.returns-in-Err-clause-version_untaken
returns-in-Err-clause-version_untaken c = version_so (kind_of c.in-Err.error ≡ DisplayVersion) (is_taken (texts_of c.args.words.now) ≡ false) (λ is. c.in-Err.ensures.refused (λ m. version_differs (sym is ∙ m))) c.end_of.result c.end_of.ensures.version

pub returns-in-Err-clause-usage : goal.returns-in-Err-clause-usage
returns-in-Err-clause-usage c = usage_by (kind_of c.in-Err.error ≢ DisplayHelp) (kind_of c.in-Err.error ≢ DisplayVersion) (kind_of c.in-Err.error ≢ OutOfMemory) (IsMisuse (texts_of c.args.words.now)) (λ h v m. (kind_of c.in-Err.error, h, v, c.in-Err.ensures.err m)) c.end_of.result c.end_of.ensures.usage c.end_of.ensures.usage_no_version c.end_of.ensures.memory

pub returns-in-Err-clause-usage_untaken : goal.returns-in-Err-clause-usage_untaken
returns-in-Err-clause-usage_untaken c = usage_so (kind_of c.in-Err.error ≢ OutOfMemory) (is_taken (texts_of c.args.words.now) ≡ false) (λ m. c.in-Err.ensures.refused m) c.end_of.result c.end_of.ensures.memory
