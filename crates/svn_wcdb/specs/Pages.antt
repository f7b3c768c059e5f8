-- Well-formed pages of tables.
--     is_page kind page header      whether the bytes are a page of that kind: the test for `IsPage` of sqlite_format
--     table_page pages n      page n, if it is one of a table
use Rattle.std.specs.Prelude.{◌↔◌, IsTrue, ℕ, zero, suc, ◌+◌, ◌*◌, Bool, true, false, ◌&&◌, ◌||◌, List, ◌∷◌, [], ◌++◌, length, map, sum_by, slice_index, nat_eq, nat_le, nat_lt, Result, Ok, Err, if◌then◌else◌}
use Rattle.sqlite_pages.specs.PageMap.{PageMap}
use Rattle.sqlite_format.specs.declared.kind.Kind.{Kind}
use Rattle.sqlite_format.specs.declared.kind.Tree.TheVariants.{Table}
use Rattle.sqlite_format.specs.Bytes.{u16_at}
use Rattle.sqlite_format.specs.Kinds.{page_flag}
use Rattle.sqlite_format.specs.Cell.{cell_body, cell_child}
use Rattle.sqlite_format.specs.Page.{header_end, cell_count, content_start, cell_offset, cell_end, page_cells, first_freeblock, free_total, fragments, right_child, IsPage}
use Rattle.svn_wcdb.specs.declared.fault.Reason.{Reason}
use Rattle.svn_wcdb.specs.declared.fault.Reason.TheVariants.{BadPage}
use Rattle.svn_wcdb.specs.Reading.{◌>>=◌, given}

-- each number below n passes
abbrev pub all_below : ℕ → (ℕ → Bool) → Bool
all_below zero passes = true
all_below (suc n) passes = passes n && all_below n passes

abbrev pub is_usable_size : ℕ → Bool
is_usable_size size = nat_le 480 size && nat_le size 65536

-- cell i lies in the content area
abbrev pub is_inside : Kind → List ℕ → ℕ → ℕ → Bool
is_inside kind page header i =
    nat_le (content_start page header) (cell_offset kind.leaf page header i) && nat_le (cell_end kind page header i) (length page)

-- two cells share no byte
abbrev pub are_apart : Kind → List ℕ → ℕ → ℕ → ℕ → Bool
are_apart kind page header i j =
    nat_eq i j
    || (nat_le (cell_end kind page header i) (cell_offset kind.leaf page header j)
    || nat_le (cell_end kind page header j) (cell_offset kind.leaf page header i))

-- the bytes from `from` up to `to` are in no cell
abbrev pub is_clear : Kind → List ℕ → ℕ → ℕ → ℕ → Bool
is_clear kind page header from to =
    all_below (cell_count page header) (λ i. nat_le to (cell_offset kind.leaf page header i) || nat_le (cell_end kind page header i) from)

-- freeblocks from `at` on, each after the one before
abbrev pub is_free_chain : List ℕ → (ℕ → ℕ → Bool) → ℕ → ℕ → ℕ → Bool
is_free_chain page clear zero low at = nat_eq at 0
is_free_chain page clear (suc fuel) low at =
    nat_eq at 0
    || (nat_lt 0 at && (nat_le low at && (nat_le 4 (u16_at page (at + 2)) && (nat_le (at + u16_at page (at + 2)) (length page)
    && (clear at (at + u16_at page (at + 2)) && is_free_chain page clear fuel (at + u16_at page (at + 2) + 4) (u16_at page at))))))

-- cells, freeblocks and fragments are all of the content area
abbrev pub is_tiled : Kind → List ℕ → ℕ → Bool
is_tiled kind page header =
    is_free_chain page (is_clear kind page header) (length page) (content_start page header) (first_freeblock page header)
    && (nat_eq (content_start page header + sum_by length (page_cells kind page header) + free_total page (length page) (first_freeblock page header)
    + fragments page header) (length page)
    && nat_le (fragments page header) 60)

unfoldable pub is_page : Kind → List ℕ → ℕ → Bool
is_page kind page header =
    is_usable_size (length page) && (nat_eq (slice_index page header) (page_flag kind)
    && (nat_le (header_end kind.leaf header + 2 * cell_count page header) (content_start page header)
    && (all_below (cell_count page header) (is_inside kind page header)
    && (nat_le (content_start page header + sum_by length (page_cells kind page header)) (length page)
    && (all_below (cell_count page header) (λ i. all_below (cell_count page header) (are_apart kind page header i))
    && is_tiled kind page header)))))

-- the test is right
abbrev pub TellsPages : Type 0
TellsPages = (kind : Kind) (page : List ℕ) (header : ℕ) → IsTrue (is_page kind page header) ↔ IsPage kind page header

abbrev pub kind_of : Bool → Kind
kind_of leaf = record { tree = Table; leaf = leaf }

-- page 1 begins with the file's header
abbrev pub header_of : ℕ → ℕ
header_of n = if nat_eq n 1 then 100 else 0

-- a page of a table: its bytes, and whether it has rows
pub record TablePage : Type 0 where
  pub leaf : Bool
  pub bytes : List ℕ

unfoldable pub page_of_table : ℕ → List ℕ → Result TablePage Reason
page_of_table n bytes =
    if is_page (kind_of true) bytes (header_of n) then Ok (record { leaf = true; bytes = bytes })
    else if is_page (kind_of false) bytes (header_of n) then Ok (record { leaf = false; bytes = bytes })
    else Err (BadPage n)

unfoldable pub table_page : PageMap → ℕ → Result TablePage Reason
table_page pages n = given (BadPage n) (pages n) >>= page_of_table n

-- the rows of a leaf, each as its cell has it
unfoldable pub bodies_of : List ℕ → ℕ → List (List ℕ)
bodies_of page n = map (cell_body (kind_of true) (length page)) (page_cells (kind_of true) page (header_of n))

-- the pages below an interior page
unfoldable pub children_of : List ℕ → ℕ → List ℕ
children_of page n = map cell_child (page_cells (kind_of false) page (header_of n)) ++ right_child page (header_of n) ∷ []
