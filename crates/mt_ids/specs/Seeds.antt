-- What seeds of tables consist of, and what the hashers of a table begin with.
use Rattle.std.specs.Prelude.{ℕ, List, length, nat_le, if◌then◌else◌}
use Rattle.std.specs.List.{fold}
use Rattle.std.specs.Hash as fed
use Rattle.std.specs.Hash.DefaultHasher as sip
use Rattle.std.specs.Hash.FoldHasher as folding
use Rattle.std.specs.declared.hash.DefaultHasher.{DefaultHasher}
use Rattle.std.specs.declared.hash.FoldHasher.{FoldHasher}
use Rattle.mt_terms.specs.Registration.Ids.{Bytes}
use Rattle.mt_ids.specs.Words.{pair_of, word_of}
use Rattle.mt_ids.specs.declared.seed.Seed.{Seed}

abbrev pub first_hasher : Seed → FoldHasher
first_hasher seed = seed.begun

-- a digest with one number more
abbrev pub with_number : DefaultHasher → ℕ → DefaultHasher
with_number digest number = fold sip.write digest (fed.u64 number)

-- A digest with one field more. A field of at most seven bytes is its word. One of at most fifteen is its pair, that number
-- first which has the length. A longer one is its length, and then its bytes. The first number tells which of these it is,
-- so the same bytes, parted in another way, are digested as other numbers.
unfoldable pub with_field : DefaultHasher → Bytes → DefaultHasher
with_field digest field =
    if nat_le (length field) 7 then with_number digest (word_of field)
    else (if nat_le (length field) 15 then with_number (with_number digest (pair_of field).1) (pair_of field).0
    else sip.write (fold sip.write digest (fed.usize (length field))) field)

-- a digest with more fields, in their order
abbrev pub with_fields : DefaultHasher → List Bytes → DefaultHasher
with_fields digest fields = fold with_field digest fields

-- the digest of fields alone
abbrev pub digest_of : List Bytes → DefaultHasher
digest_of fields = with_fields sip.initial fields

-- the seed that a digest gives
abbrev pub seed_by : DefaultHasher → Seed
seed_by digest = record { begun = fold folding.write folding.initial (fed.u64 (sip.finish digest)) }

-- the seed of a table that will hold these fields
abbrev pub seed_of : List Bytes → Seed
seed_of fields = seed_by (digest_of fields)
