use Rattle.std.proofs.Common.{◌≡◌, ◌∙◌, [], ◌∷◌, ap, ap₂}
use Rattle.std.specs.Prelude.{codes, decimal}
use Rattle.mt_match_file.specs.Submitted.{shown}
use Rattle.mt_terms.specs.Registration.Ids.{Bytes}
use Rattle.mt_terms.specs.Text.{id_text, line}
use Rattle.mt_explained.proofs.whole.unknown_line.Goals as goal

pub returns : goal.returns
returns c =
    let code : c.as_bytes-code.result.now ≡ decimal 56 = c.as_bytes-code.ensures.value ∙ c.format.ensures.text in
    let id : c.id_or_dash.result.now ≡ id_text (shown c.args.word.now) = c.id_or_dash.ensures.text ∙ ap id_text c.shown.ensures.shown in
    let by : Bytes → Bytes → Bytes = λ code id.
    line (codes "check" ∷ codes "1" ∷ codes "refused" ∷ code ∷ codes "NoSuchAgent" ∷ codes "market" ∷ codes "0" ∷ id ∷ []) in
    c.refusal_line.ensures ∙ ap₂ by code id
