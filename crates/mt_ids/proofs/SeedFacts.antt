-- Digests of fields: one field more, and how a digest of fields begins.
use Rattle.std.proofs.Common.{◌≡◌, ℕ, ◌+◌, ◌<◌, List, [], ◌∷◌, ◌++◌, length, take, get_or, ap, ◌∙◌}
use Rattle.std.proofs.lemmas.Grind.{fold-append}
use Rattle.std.proofs.lemmas.List.{take_more}
use Rattle.std.specs.Hash.DefaultHasher as sip
use Rattle.std.specs.declared.hash.DefaultHasher.{DefaultHasher}
use Rattle.mt_terms.specs.Registration.Ids.{Bytes}
use Rattle.mt_ids.specs.Seeds.{digest_of, with_field, with_fields}

-- the digest of fields and one more
pub digest-push : (fields : List Bytes) (field : Bytes) → digest_of (fields ++ field ∷ []) ≡ with_field (digest_of fields) field
digest-push fields field = fold-append with_field sip.initial fields (field ∷ [])

pub digest_more : (fields : List Bytes) (i : ℕ) → i < length fields → digest_of (take (i + 1) fields) ≡ with_field (digest_of (take i fields)) (get_or fields i [])
digest_more fields i within = ap digest_of (take_more fields i [] within) ∙ digest-push (take i fields) (get_or fields i [])

-- some fields, and then others
pub with_fields-append : (digest : DefaultHasher) (xs ys : List Bytes) → with_fields digest (xs ++ ys) ≡ with_fields (with_fields digest xs) ys
with_fields-append digest xs ys = fold-append with_field digest xs ys
