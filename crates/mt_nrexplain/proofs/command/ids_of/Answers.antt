use Rattle.std.proofs.Common.{◌∙◌, Some, None, ap, map, string_bytes}
use Rattle.std.proofs.lemmas.Result.{IfOk-weaker}
use Rattle.clap.specs.Words.{found_of}
use Rattle.mt_nrexplain.proofs.WordFacts.{ids_of_rows}
use Rattle.mt_nrexplain.proofs.command.ids_of.Goals as goal

pub returns-in-Some : goal.returns-in-Some
returns-in-Some c =
    IfOk-weaker c.owned.result _ _
    (λ v own. own ∙ ids_of_rows (found_of c.args.matches.now) c.get_strs.result c.get_strs.ensures (Some c.in-Some.ids) c.in-Some.is)
    c.owned.ensures

pub returns-in-None : goal.returns-in-None
returns-in-None c =
    ap (map string_bytes) c.new.ensures.items ∙ ids_of_rows (found_of c.args.matches.now) c.get_strs.result c.get_strs.ensures None c.in-None.is
