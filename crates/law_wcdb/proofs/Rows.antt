-- A worked example, computed: a tree that is read, and which `sqlite_btree` refuses. The leaf at page 3 is the root's child, the one at page 5 is below
-- page 4, which has no cell.
use Rattle.std.proofs.Common.{arith}
use Rattle.std.specs.Prelude.{zero, suc, ◌≡◌, ℕ, true, false, List, [], ◌∷◌, ◌++◌, ◌-◌, replicate, length, nat_eq, pos, if◌then◌else◌, refl}
use Rattle.sqlite_format.specs.declared.kind.Tree.TheVariants.{Table}
use Rattle.sqlite_format.specs.Cell.{local_len, stored_len, body_size, body_key, local_part, first_overflow, cell_size, cell_body, cell_child}
use Rattle.sqlite_format.specs.Page.{cell_count, content_start, right_child, cell_offset, page_cells}
use Rattle.sqlite_format.specs.Varint.{varint_len, varint_value}
use Rattle.sqlite_btree.specs.Part.{Part}
use Rattle.sqlite_btree.specs.Items.{item}
use Rattle.sqlite_btree.specs.Tree.{header_of, IsTop}
use Rattle.sqlite_btree.specs.Chain.{payload_in}
use Rattle.sqlite_btree.specs.Stored.{unordered}
use Rattle.law_wcdb.specs.Laws.{rows_among, table_items}
use Rattle.law_wcdb.specs.Trees.{pages_within}

-- 480 bytes
abbrev page_of : List ℕ → List ℕ
page_of front = front ++ replicate (480 - length front) 0

-- the kind, no freeblock, one cell, where it begins, no fragments; page 4 on the right; the cell's place; page 3 and the key 7
abbrev root : List ℕ
root = page_of (5 ∷ 0 ∷ 0 ∷ 0 ∷ 1 ∷ 0 ∷ 14 ∷ 0 ∷ 0 ∷ 0 ∷ 0 ∷ 4 ∷ 0 ∷ 14 ∷ 0 ∷ 0 ∷ 0 ∷ 3 ∷ 7 ∷ [])

-- no cell, and page 5 on the right
abbrev narrow : List ℕ
narrow = page_of (5 ∷ 0 ∷ 0 ∷ 0 ∷ 0 ∷ 0 ∷ 12 ∷ 0 ∷ 0 ∷ 0 ∷ 0 ∷ 5 ∷ [])

-- one row, whose record is one number
abbrev leaf : ℕ → ℕ → List ℕ
leaf key number = page_of (13 ∷ 0 ∷ 0 ∷ 0 ∷ 1 ∷ 0 ∷ 10 ∷ 0 ∷ 0 ∷ 10 ∷ 2 ∷ key ∷ 2 ∷ number ∷ [])

abbrev pages : Part
pages n =
    if nat_eq n 2 then root else if nat_eq n 3 then leaf 7 8 else if nat_eq n 4 then narrow else if nat_eq n 5 then leaf 9 9 else []

pub items_in_order : table_items pages 480 2 ≡ item true (2 ∷ 7 ∷ 2 ∷ 8 ∷ []) ∷ item false (7 ∷ []) ∷ item true (2 ∷ 9 ∷ 2 ∷ 9 ∷ []) ∷ []
unfolding header_of cell_count content_start right_child cell_offset page_cells cell_size cell_body
    cell_child body_size stored_len local_len varint_len varint_value
items_in_order = refl

pub rows_in_order : rows_among pages 480 (table_items pages 480 2) ≡ (pos 7, 2 ∷ 8 ∷ []) ∷ (pos 9, 2 ∷ 9 ∷ []) ∷ []
unfolding header_of cell_count content_start right_child cell_offset page_cells cell_size cell_body
    cell_child body_size stored_len local_len varint_len varint_value body_key local_part first_overflow payload_in
rows_in_order = refl

pub four_pages : pages_within (unordered Table 480) pages 20 2 ≡ 4
unfolding header_of cell_count content_start right_child cell_offset page_cells cell_size cell_body
    cell_child body_size stored_len local_len varint_len varint_value first_overflow
four_pages = refl

-- whatever height it were to have
pub of_no_height : (height : ℕ) → IsTop (unordered Table 480) pages height 2 → ⊥
unfolding header_of cell_count content_start right_child cell_offset page_cells cell_size cell_child body_size varint_len
of_no_height zero top = omega (arith, top.0.sound.flag)
of_no_height (suc zero) top = omega (arith, top.1.1.0.sound.flag)
of_no_height (suc (suc height)) top = omega (arith, top.1.0.0.sound.flag)
