-- Tables of a database file.
--     chain_after pages size spare n left bytes      the bytes so far, and `left` more from page n on
--     row_after pages size row rows      the rows so far, and one more
--     tree_after pages size levels n rows      the rows so far, and those of the tree at page n
--     table_rows file root      the rows of the table with that root page, in their order
-- `pages` are what is used of each page, and `size` is how many bytes that are. A table takes no more pages of the file than it has, so `spare` is how many it may still take.
use Rattle.std.specs.Prelude.{ℕ, zero, suc, ◌-◌, ◌/◌, min, Bool, true, List, [], ◌∷◌, ◌++◌, length, take, drop, nat_eq, nat_lt, Result, Ok, Err, if◌then◌else◌}
use Rattle.sqlite_pages.specs.PageMap.{PageMap}
use Rattle.sqlite_format.specs.declared.kind.Tree.TheVariants as trees
use Rattle.sqlite_format.specs.Bytes.{u32_at}
use Rattle.sqlite_format.specs.Varint.{varint_len}
use Rattle.sqlite_format.specs.Cell.{flip_sign, body_key, local_part, spilled_len, first_overflow}
use Rattle.svn_wcdb.specs.declared.fault.Reason.{Reason}
use Rattle.svn_wcdb.specs.declared.fault.Reason.TheVariants.{TooDeep, Loop, BadOverflow, BadRecord}
use Rattle.svn_wcdb.specs.declared.table.Table.{Table}
use Rattle.svn_wcdb.specs.declared.table.TableRow.{TableRow}
use Rattle.svn_wcdb.specs.Images.{File, page_in}
use Rattle.svn_wcdb.specs.Pages.{table_page, bodies_of, children_of}
use Rattle.svn_wcdb.specs.Reading.{◌>>=◌, given, each}
use Rattle.svn_wcdb.specs.Records.{is_record}

-- what was read, and how many pages are spare
abbrev pub Bytes : Type 0
Bytes = List ℕ × ℕ

abbrev pub Rows : Type 0
Rows = List TableRow × ℕ

-- a table as the code has it
abbrev pub seen_rows : Table → Rows
seen_rows table = (table.rows.items, table.spare)

unfoldable pub take_page : ℕ → ℕ → Result ℕ Reason
take_page n zero = Err (Loop n)
take_page n (suc spare) = Ok spare

-- the next page, how many bytes are left for it, and those so far
abbrev pub Link : Type 0
Link = ℕ × ℕ × List ℕ

-- an overflow page has the number of the next, and then as many bytes as fit
unfoldable pub link_after : PageMap → ℕ → ℕ → ℕ → List ℕ → Result Link Reason
link_after pages size n left bytes =
    given (BadOverflow n) (pages n) >>= λ page.
    Ok (u32_at page 0, left - min left (size - 4), bytes ++ take (min left (size - 4)) (drop 4 page))

-- the last page of a chain names none
unfoldable pub chain_end : ℕ → List ℕ → ℕ → Result Bytes Reason
chain_end n bytes spare = if nat_eq n 0 then Ok (bytes, spare) else Err (BadOverflow n)

unfoldable pub chain_after : PageMap → ℕ → ℕ → ℕ → ℕ → List ℕ → Result Bytes Reason
chain_after pages size zero n left bytes = if nat_eq left 0 then chain_end n bytes zero else Err (Loop n)
chain_after pages size (suc spare) n left bytes =
    if nat_eq left 0 then chain_end n bytes (suc spare)
    else link_after pages size n left bytes >>= λ link. chain_after pages size spare link.0 link.1 link.2

-- the length of a row's payload takes at most eight bytes: SQLite reads no longer one
abbrev pub has_short_length : List ℕ → Bool
has_short_length row = nat_lt (varint_len row) 9

-- a row's payload: the part in its cell, and then its overflow pages
unfoldable pub payload_of : PageMap → ℕ → List ℕ → ℕ → Result Bytes Reason
payload_of pages size row spare =
    if has_short_length row
    then chain_after pages size spare (first_overflow trees.Table size row) (spilled_len trees.Table size row) (local_part trees.Table size row)
    else Err BadRecord

-- a row's number; a key has its highest bit the other way round
abbrev pub rowid_of : List ℕ → ℕ
rowid_of row = flip_sign (body_key trees.Table true row)

unfoldable pub row_after : PageMap → ℕ → List ℕ → Rows → Result Rows Reason
row_after pages size row rows =
    payload_of pages size row rows.1 >>= λ read.
    if is_record read.0 then Ok (rows.0 ++ record { rowid = rowid_of row; bytes = read.0 } ∷ [], read.1) else Err BadRecord

-- at most so many levels
unfoldable pub tree_after : PageMap → ℕ → ℕ → ℕ → Rows → Result Rows Reason
tree_after pages size zero n rows = Err (TooDeep n)
tree_after pages size (suc levels) n rows =
    take_page n rows.1 >>= λ spare. table_page pages n >>= λ page.
    if page.leaf then each (row_after pages size) (bodies_of page.bytes n) (rows.0, spare)
    else each (tree_after pages size levels) (children_of page.bytes n) (rows.0, spare)

-- SQLite reads no tree of more than 20 levels
unfoldable pub table_rows : File → ℕ → Result (List TableRow) Reason
table_rows file root = tree_after (page_in file) file.usable 20 root ([], length file.bytes / file.size) >>= λ rows. Ok rows.0
