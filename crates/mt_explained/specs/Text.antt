-- The refusal line of a word. This project's own format.
use Rattle.std.specs.Prelude.{[], ◌∷◌, codes, decimal}
use Rattle.mt_terms.specs.Registration.Ids.{Bytes}
use Rattle.mt_terms.specs.Text.{id_text, line}
use Rattle.mt_match_file.specs.Submitted.{shown}
use Rattle.mt_files.specs.Text.{source_word}
use Rattle.mt_files.specs.declared.source.Source.TheVariants.{Market}
use Rattle.mt_explained.specs.declared.codes.TheConstants.{NO_SUCH_AGENT}

-- The one line of a word that names no agent of the market. A word that is no id isn't shown.
abbrev pub unknown_line : Bytes → Bytes
unknown_line word =
    line (
    codes "check" ∷ codes "1" ∷ codes "refused" ∷ decimal NO_SUCH_AGENT ∷ codes "NoSuchAgent" ∷ source_word Market ∷ codes "0"
    ∷ id_text (shown word) ∷ []
    )
