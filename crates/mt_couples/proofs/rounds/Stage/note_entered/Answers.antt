use Rattle.std.proofs.Common.{◌∙◌, refl, sym}
use Rattle.std.proofs.lemmas.Bool.{false≢true}
use Rattle.mt_couples.proofs.StageFacts.{noted}
use Rattle.mt_couples.proofs.rounds.Stage.note_entered.Goals as goal

pub returns-then-blocks-clause-entered : goal.returns-then-blocks-clause-entered
returns-then-blocks-clause-entered c =
    let index = c.in_ok-index_better.ensures in
    noted c.args.self.now _ c.args.couple refl refl index.singles index.better index.named index.indexed (λ so. absurd (false≢true so)) c.requires.entered

pub returns-else-blocks-clause-entered : goal.returns-else-blocks-clause-entered
returns-else-blocks-clause-entered c =
    let index = c.in_ok-index_better.ensures in
    noted c.args.self.now _ c.args.couple refl refl index.singles index.better index.named index.indexed
    (λ so. (so, sym c.blocks-2.ensures ∙ c.if-blocks.false)) c.requires.entered
