-- The front of a dump: what is before its first revision.
--     uuid_in block      the UUID that the headers of a record give
--     HasFront limits texts given bytes uuid first      the last UUID in the front, and the number of the first revision
--     FrontLoaded remaining old uuid first      what a loader knows of the front once it has loaded something
use Rattle.std.specs.Prelude.{◌≡◌, ℕ, false, List, Option, Some, Ok, MatchOption, codes}
use Rattle.std.specs.Option.{option_or}
use Rattle.svn_dump.specs.declared.record.Record.TheVariants.{Other}
use Rattle.svn_dump.specs.declared.sections.Limits.{Limits}
use Rattle.svn_dump.specs.declared.sections.Texts.{Texts}
use Rattle.svn_dump.specs.Blocks.{block_at}
use Rattle.svn_dump.specs.Headers.{header_value, if_once}
use Rattle.svn_dump.specs.Readers.{left_in, found_headers}
use Rattle.svn_dump.specs.Records.{record_at}
use Rattle.svn_history.specs.declared.loader.Loader.{Loader}
use Rattle.svn_history.specs.Loading.{beginning}

abbrev pub uuid_in : List ℕ → Option (List ℕ)
uuid_in block = if_once (header_value block (codes "UUID"))

-- that of the record at the bytes
abbrev pub uuid_at : Limits → List ℕ → Option (List ℕ)
uuid_at limits bytes = uuid_in (found_headers (block_at false limits.headers bytes))

-- records of the front one after another from the bytes on, and the last UUID that they give, or else the one that was given before them
pub data ReadsFront (limits : Limits) (texts : Texts) (given : Option (List ℕ)) (bytes : List ℕ) : Option (List ℕ) → List ℕ → Type 0 where
  no_record : ReadsFront limits texts given bytes given bytes
  one_record : {uuid : Option (List ℕ)} {rest : List ℕ} (mid : List ℕ) → ReadsFront limits texts given bytes uuid mid
      → record_at limits texts mid ≡ Ok (Some Other, rest)
      → ReadsFront limits texts given bytes (option_or (uuid_at limits mid) uuid) rest

-- they go up to the first revision, or up to the end
pub record HasFront (limits : Limits) (texts : Texts) (given : Option (List ℕ)) (bytes : List ℕ) (uuid : Option (List ℕ)) (first : Option ℕ)
    : Type 0 where
  pub mid : List ℕ
  pub reads : ReadsFront limits texts given bytes uuid mid
  pub rest : List ℕ
  pub first_is : record_at limits texts mid ≡ Ok (beginning first, rest)

-- the UUID of the record that was read last, or else the one that is known
abbrev pub given_uuid : {R : Type 0} → Loader R → Option (List ℕ)
given_uuid l = option_or (uuid_in l.records.block.items) l.front.uuid

-- where the bytes are known
abbrev pub FrontLoaded : {R : Type 0} → (R → Option (List ℕ)) → Loader R → Option (List ℕ) → Option ℕ → Type 0
FrontLoaded remaining old uuid first =
    MatchOption (left_in remaining old.records) (Unit {0}) (λ bytes. HasFront old.records.limits old.records.texts (given_uuid old) bytes uuid first)
