-- The table PRISTINE: the texts that files have as they came from the repository.
--     pristines_of rows      the size in bytes of each text by its stand-in, in byte order of these, as its rows give them one after another
--     value_of pristines stand_in      that size, where the table has the text
--     pristine_path stand_in      the path of the text's file
use Rattle.std.specs.Prelude.{ℕ, List, [], ◌++◌, take, drop, codes, Option, Some, None, Result, Ok, Err, is_some, if◌then◌else◌}
use Rattle.std.specs.BTreeMap.{insert_entry}
use Rattle.svn_types.specs.Names.{name_cmp}
use Rattle.svn_types.specs.Pairs.{value_of}
use Rattle.svn_wcdb.specs.declared.fault.Reason.{Reason}
use Rattle.svn_wcdb.specs.declared.fault.Reason.TheVariants.{BadColumn, NoChecksum, NoPristine, Compressed}
use Rattle.svn_wcdb.specs.declared.fault.TableName.TheVariants as tables
use Rattle.svn_wcdb.specs.declared.table.TableRow.{TableRow}
use Rattle.svn_wcdb.specs.Columns.{column, text_in, number_in, is_null}
use Rattle.svn_wcdb.specs.Reading.{◌>>=◌, given, each}
use Rattle.svn_digits.specs.StandIns.{is_stand_in}

-- sizes by stand-ins
abbrev pub Sizes : Type 0
Sizes = List (List ℕ × ℕ)

-- the stand-in of a text is its checksum itself
abbrev pub text_of : Option (List ℕ) → Result (List ℕ) Reason
text_of None = Err NoChecksum
text_of (Some checksum) = if is_stand_in checksum then Ok checksum else Err NoChecksum

-- the stand-in of a row's text
abbrev pub stand_in_of : List ℕ → Result (List ℕ) Reason
stand_in_of row = text_in tables.Pristine 0 (column row 0) >>= text_of

-- the size of a text that isn't compressed
abbrev pub size_of : List ℕ → Result ℕ Reason
size_of row =
    if is_null (column row 1) then number_in tables.Pristine 2 (column row 2) >>= given (BadColumn tables.Pristine 2) else Err Compressed

-- a text and its size, by the columns of a row (wc-metadata.sql)
unfoldable pub pristine_of : List ℕ → Result (List ℕ × ℕ) Reason
pristine_of row = stand_in_of row >>= λ text. size_of row >>= λ size. Ok (text, size)

-- the texts so far, and that of a row
unfoldable pub pristine_after : TableRow → Sizes → Result Sizes Reason
pristine_after row sizes = pristine_of row.bytes >>= λ text. Ok (insert_entry name_cmp sizes text.0 text.1)

abbrev pub pristines_of : List TableRow → Result Sizes Reason
pristines_of rows = each pristine_after rows []

-- a text that the table has
abbrev pub known : Sizes → List ℕ → Result (List ℕ) Reason
known sizes text = if is_some (value_of sizes text) then Ok text else Err NoPristine

-- the text of a file with that checksum
abbrev pub text_among : Sizes → Option (List ℕ) → Result (List ℕ) Reason
text_among sizes checksum = text_of checksum >>= known sizes

-- below `.svn/pristine`, in a folder of the first two digits, which are after `$sha1$`
abbrev pub pristine_path : List ℕ → Option (List ℕ)
pristine_path name =
    if is_stand_in name then Some (take 2 (drop 6 name) ++ codes "/" ++ drop 6 name ++ codes ".svn-base") else None
