-- Trees of tables by the words of `sqlite_btree`, without what the reader doesn't test. `pages` has the bytes of each page.
--     IsTreeWithin form pages levels page      a tree of at most so many levels, as `IsTree`, whose leaves need not be equally deep
--     items_within form pages levels page      its items, as `tree_items`
--     pages_within form pages levels page      how many pages it and its rows' payloads take, each as often as it is there
--     IsWholeChain pages usable fuel page left      the `left` bytes from this page on are there, as `IsChain`, whoever else has its pages
use Rattle.std.specs.Prelude.{◌≡◌, ◌⊎◌, ℕ, zero, suc, ◌+◌, ◌-◌, ◌<◌, ◌≤◌, min, true, false, List, [], ◌∷◌, length, map, sum_by, slice_index, nat_eq, if◌then◌else◌}
use Rattle.sqlite_format.specs.declared.kind.Tree.TheVariants.{Table}
use Rattle.sqlite_format.specs.Bytes.{u32_at}
use Rattle.sqlite_format.specs.Varint.{varint_len}
use Rattle.sqlite_format.specs.Cell.{spilled_len, first_overflow, cell_child}
use Rattle.sqlite_format.specs.Kinds.{flag_of}
use Rattle.sqlite_record.specs.Strict.{IsRecord}
use Rattle.sqlite_btree.specs.Part.{Part}
use Rattle.sqlite_btree.specs.Items.{Item, is_row, body_of, Form, cell_item}
use Rattle.sqlite_btree.specs.Tree.{header_of, IsNode, cells_of, right_of, EachChild, fan_items}
use Rattle.sqlite_btree.specs.Chain.{payload_in}

abbrev pub IsTreeWithin : Form → Part → ℕ → ℕ → Type 0
IsTreeWithin form pages zero page = ⊥
IsTreeWithin form pages (suc levels) page =
    IsNode form true pages page
    ⊎ (IsNode form false pages page × EachChild (IsTreeWithin form pages levels) (cells_of form false pages page) (right_of pages page))

abbrev pub items_within : Form → Part → ℕ → ℕ → List Item
items_within form pages zero page = []
items_within form pages (suc levels) page =
    if nat_eq (slice_index (pages page) (header_of page)) (flag_of form.tree true) then map (cell_item form true) (cells_of form true pages page)
    else fan_items form (items_within form pages levels) (cells_of form false pages page) (right_of pages page)

-- the last page names page 0
abbrev pub IsWholeChain : Part → ℕ → ℕ → ℕ → ℕ → Type 0
IsWholeChain pages usable zero page left = (left ≡ 0) × (page ≡ 0)
IsWholeChain pages usable (suc fuel) page left =
    ((left ≡ 0) × (page ≡ 0))
    ⊎ ((0 < left) × (length (pages page) ≡ usable) × IsWholeChain pages usable fuel (u32_at (pages page) 0) (left - min (usable - 4) left))

-- how many pages these bytes are in
abbrev pub chain_pages : Part → ℕ → ℕ → ℕ → ℕ → ℕ
chain_pages pages usable zero page left = 0
chain_pages pages usable (suc fuel) page left =
    if nat_eq left 0 then 0 else suc (chain_pages pages usable fuel (u32_at (pages page) 0) (left - min (usable - 4) left))

abbrev pub row_pages : Part → ℕ → List ℕ → ℕ
row_pages pages usable row = chain_pages pages usable (spilled_len Table usable row) (first_overflow Table usable row) (spilled_len Table usable row)

abbrev pub fan_pages : (ℕ → ℕ) → List (List ℕ) → ℕ → ℕ
fan_pages count [] last = count last
fan_pages count (cell ∷ cells) last = count (cell_child cell) + fan_pages count cells last

abbrev pub pages_within : Form → Part → ℕ → ℕ → ℕ
pages_within form pages zero page = 0
pages_within form pages (suc levels) page =
    suc (if nat_eq (slice_index (pages page) (header_of page)) (flag_of form.tree true)
    then sum_by (λ cell. row_pages pages form.usable (body_of (cell_item form true cell))) (cells_of form true pages page)
    else fan_pages (pages_within form pages levels) (cells_of form false pages page) (right_of pages page))

-- a row of a table has all of its bytes, and they are a record, whose length takes at most eight bytes
pub record IsWholeRow (pages : Part) (usable : ℕ) (row : List ℕ) : Type 0 where
  pub short : varint_len row ≤ 8
  pub chain : IsWholeChain pages usable (spilled_len Table usable row) (first_overflow Table usable row) (spilled_len Table usable row)
  pub whole : IsRecord (payload_in Table usable pages row)

abbrev pub IsWholeItem : Part → ℕ → Item → Type 0
IsWholeItem pages usable x = is_row x ≡ true → IsWholeRow pages usable (body_of x)
