use Rattle.std.proofs.Common.{ap, sym, ◌∙◌, subst, take, [], ◌∷◌, ◌++◌, arith}
use Rattle.std.proofs.lemmas.Grind.{elements}
use Rattle.std.proofs.lemmas.List.{take_more, map-append}
use Rattle.mt_drafts.specs.Names.{AreNames}
use Rattle.mt_records.specs.Records.{all_seen, record_seen}
use Rattle.mt_drafts.proofs.NameFacts.{names_more}
use Rattle.mt_drafts.proofs.names.NameLists.of.Goals as goal

pub loop-one-preserved : goal.loop-one-preserved
loop-one-preserved c =
    let front = take c.loop-one.one-index c.args.records.now in
    let one = c.one-item.result in
    let same = ap all_seen (take_more c.args.records.now c.loop-one.one-index one c.loop-one-test.true ∙ ap (λ n. front ++ n ∷ []) (sym c.one-item.is)) ∙ map-append _ front (one ∷ []) in
    subst (λ rs. AreNames rs c.push.new.self) (sym same)
    (names_more c.loop-one.names c.push.new.self (all_seen front) (record_seen one) c.loop-one.invariant c.in_ok-push.ensures)

pub returns : goal.returns
returns c = grind (arith, elements)
