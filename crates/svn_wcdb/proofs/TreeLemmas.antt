-- The tree of a table, page by page.
use Rattle.std.proofs.Common.{◌≡◌, ℕ, zero, suc, ◌+◌, ◌<◌, Bool, true, false, cond, List, [], ◌∷◌, ◌++◌, length, map, get_or, Some, None, Ok, Err, refl, sym, ap, subst, ◌∙◌, arith, length-append, subst₂, ap₂}
use Rattle.std.proofs.Math.Seq.{get_or-append_seam}
use Rattle.std.proofs.lemmas.Bool.Decides.{same_from_decides}
use Rattle.std.specs.Prelude.{◌↔◌}
use Rattle.sqlite_record.specs.Strict.{IsRecord}
use Rattle.std.proofs.lemmas.Bool.{cond-true, cond-false, false_from_ne_true}
use Rattle.std.proofs.lemmas.List.{length-map, get_or-map, get_or_append_left}
use Rattle.std.specs.Prelude.{slice_index, slice_index_or}
use Rattle.sqlite_pages.specs.PageMap.{PageMap}
use Rattle.sqlite_format.specs.declared.kind.Kind.{Kind}
use Rattle.sqlite_format.specs.declared.kind.Tree.{Tree}
use Rattle.sqlite_format.specs.declared.kind.Tree.TheVariants.{Table, Index}
use Rattle.sqlite_format.specs.declared.node.Node.{Node}
use Rattle.sqlite_format.specs.Kinds.{holds_rows}
use Rattle.sqlite_format.specs.Cell.{cell_body, cell_child, IsBody}
use Rattle.sqlite_format.specs.Node.{IsSound, node_cells, node_body}
use Rattle.sqlite_format.specs.Page.{IsPage, cell_count, page_cells, right_child}
use Rattle.sqlite_format.proofs.PageLemmas.{length-page_cells, cell_of_page}
use Rattle.sqlite_format.proofs.CellLemmas.{cell_body_whole}
use Rattle.svn_wcdb.specs.declared.fault.Reason.{Reason}
use Rattle.svn_wcdb.specs.declared.fault.Reason.TheVariants.{BadPage, TooDeep, BadRecord}
use Rattle.svn_wcdb.specs.declared.fault.WcdbFault.{WcdbFault}
use Rattle.svn_wcdb.specs.Pages.{is_page, kind_of, header_of, page_of_table, table_page, bodies_of, children_of}
use Rattle.svn_wcdb.specs.Reading.{each, Fails}
use Rattle.svn_wcdb.specs.Records.{is_record}
use Rattle.svn_wcdb.specs.Tables.{Rows, take_page, payload_of, rowid_of, row_after, tree_after}
use Rattle.svn_wcdb.specs.Trees.{IsNodeOf}
use Rattle.svn_wcdb.specs.declared.table.TableRow.{TableRow}
use Rattle.svn_wcdb.proofs.PageTests.{tells_pages}
use Rattle.svn_wcdb.proofs.RecordTests.{tells_records}
use Rattle.svn_wcdb.proofs.ReadingLemmas.{fails_first}

-- ---- pages

pub no_page_at : (pages : PageMap) (n : ℕ) → pages n ≡ None → table_page pages n ≡ Err (BadPage n)
unfolding table_page
no_page_at pages n none = rw none refl

at_page : (pages : PageMap) (n : ℕ) (bytes : List ℕ) → pages n ≡ Some bytes → table_page pages n ≡ page_of_table n bytes
unfolding table_page
at_page pages n bytes there = rw there refl

is_not : (leaf : Bool) (n : ℕ) (bytes : List ℕ) → ¬ (IsPage (kind_of leaf) bytes (header_of n)) → is_page (kind_of leaf) bytes (header_of n) ≡ false
is_not leaf n bytes none = false_from_ne_true _ (λ t. none ((tells_pages (kind_of leaf) bytes (header_of n)).0 t))

pub bad_page_at : (pages : PageMap) (n : ℕ) (bytes : List ℕ) → pages n ≡ Some bytes → ((leaf : Bool) → ¬ (IsPage (kind_of leaf) bytes (header_of n)))
    → table_page pages n ≡ Err (BadPage n)
unfolding page_of_table
bad_page_at pages n bytes there none =
    at_page pages n bytes there ∙ cond-false _ _ _ (is_not true n bytes (none true)) ∙ cond-false _ _ _ (is_not false n bytes (none false))

-- a page has one flag
not_both : (bytes : List ℕ) (header : ℕ) → IsPage (kind_of true) bytes header → IsPage (kind_of false) bytes header → ⊥
not_both bytes header leaf interior = omega (arith, leaf.flag, interior.flag)

pub page_at : (pages : PageMap) (n : ℕ) (bytes : List ℕ) (leaf : Bool) → pages n ≡ Some bytes → IsPage (kind_of leaf) bytes (header_of n)
    → table_page pages n ≡ Ok (record { leaf = leaf; bytes = bytes })
unfolding page_of_table
page_at pages n bytes true there page = at_page pages n bytes there ∙ cond-true _ _ _ ((tells_pages (kind_of true) bytes (header_of n)).1 page)
page_at pages n bytes false there page =
    at_page pages n bytes there ∙ cond-false _ _ _ (is_not true n bytes (λ leaf. not_both bytes (header_of n) leaf page))
    ∙ cond-true _ _ _ ((tells_pages (kind_of false) bytes (header_of n)).1 page)

-- ---- a page as the code has it

pub kind_is : (kind : Kind) → kind.tree ≡ Table → kind ≡ kind_of kind.leaf
kind_is kind e = ap (λ (tree : Tree). record { tree = tree; leaf = kind.leaf }) e

pub sound_from : (node : Node) (kind : Kind) (bytes : List ℕ) (header : ℕ) → node.kind ≡ kind → node.bytes.now ≡ bytes → node.header ≡ header
    → IsPage kind bytes header → IsSound node
sound_from node kind bytes header k b h page = rw (k, b, h) page

pub page_from : (node : Node) (kind : Kind) (bytes : List ℕ) (header : ℕ) → node.kind ≡ kind → node.bytes.now ≡ bytes → node.header ≡ header
    → IsSound node → IsPage kind bytes header
page_from node kind bytes header k b h sound = rw (sym k, sym b, sym h) sound

-- a page of an index is none of a table
pub not_a_table : (kind : Kind) (leaf : Bool) → kind.tree ≡ Index → kind ≡ kind_of leaf → ⊥
not_a_table kind leaf index same = absurd (differ (sym index ∙ ap (λ (k : Kind). k.tree) same))
  where
    differ : Index ≡ Table → ⊥
    differ e = cc

pub count_of : (node : Node) (size number : ℕ) → IsNodeOf size number node → node.count ≡ cell_count node.bytes.now (header_of number)
count_of node size number is = node.counted ∙ ap (λ (h : ℕ). cell_count node.bytes.now h) is.header

pub leaf_kind : (node : Node) (size number : ℕ) → IsNodeOf size number node → node.kind.leaf ≡ true → node.kind ≡ kind_of true
leaf_kind node size number is leaf = is.kind ∙ ap kind_of leaf

-- a row of a leaf
pub body_whole : (node : Node) (size number i : ℕ) → IsNodeOf size number node → node.kind.leaf ≡ true → i < node.count
    → IsBody Table true size (node_body node i)
body_whole node size number i is leaf within =
    let whole = (cell_of_page is.sound i (omega (arith, within, node.counted))).whole in
    subst₂ (λ (k : Kind) (u : ℕ). IsBody k.tree (holds_rows k) u (node_body node i)) (leaf_kind node size number is leaf) is.size
    (cell_body_whole node.kind (length node.bytes.now) (slice_index_or (node_cells node) i []) (omega (arith, whole))).0

-- ---- its cells

pub length-bodies_of : (page : List ℕ) (n : ℕ) → length (bodies_of page n) ≡ cell_count page (header_of n)
unfolding bodies_of
length-bodies_of page n = length-map (page_cells (kind_of true) page (header_of n)) (cell_body (kind_of true) (length page)) ∙ length-page_cells (kind_of true) page (header_of n)

pub body_of_page : (page : List ℕ) (n i : ℕ) → i < cell_count page (header_of n)
    → get_or (bodies_of page n) i [] ≡ cell_body (kind_of true) (length page) (get_or (page_cells (kind_of true) page (header_of n)) i [])
unfolding bodies_of
body_of_page page n i h =
    get_or-map (cell_body (kind_of true) (length page)) (page_cells (kind_of true) page (header_of n)) i [] []
    (omega (arith, h, length-page_cells (kind_of true) page (header_of n)))

pub body_in : (node : Node) (size number i : ℕ) → IsNodeOf size number node → node.kind.leaf ≡ true → i < node.count
    → node_body node i ≡ get_or (bodies_of node.bytes.now number) i []
body_in node size number i is leaf within =
    ap₂ (λ (k : Kind) (h : ℕ). cell_body k (length node.bytes.now) (get_or (page_cells k node.bytes.now h) i [])) (leaf_kind node size number is leaf) is.header
    ∙ sym (body_of_page node.bytes.now number i (omega (arith, within, count_of node size number is)))

pub length-children_of : (page : List ℕ) (n : ℕ) → length (children_of page n) ≡ cell_count page (header_of n) + 1
unfolding children_of
length-children_of page n =
    omega (
      arith,
      length-append (map cell_child (page_cells (kind_of false) page (header_of n))) (right_child page (header_of n) ∷ []),
      length-map (page_cells (kind_of false) page (header_of n)) cell_child,
      length-page_cells (kind_of false) page (header_of n),
    )

pub child_of_cell : (page : List ℕ) (n i : ℕ) → i < cell_count page (header_of n)
    → cell_child (get_or (page_cells (kind_of false) page (header_of n)) i []) ≡ slice_index (children_of page n) i
unfolding children_of
child_of_cell page n i h =
    let cells = page_cells (kind_of false) page (header_of n) in
    let within : i < length cells = omega (arith, h, length-page_cells (kind_of false) page (header_of n)) in
    sym (get_or_append_left (map cell_child cells) (right_child page (header_of n) ∷ []) 0 i (omega (arith, within, length-map cells cell_child))
    ∙ get_or-map cell_child cells i [] 0 within)

pub last_child : (page : List ℕ) (n i : ℕ) → i ≡ cell_count page (header_of n) → right_child page (header_of n) ≡ slice_index (children_of page n) i
unfolding children_of
last_child page n i h =
    let cells = page_cells (kind_of false) page (header_of n) in
    let last : i ≡ length (map cell_child cells) = omega (arith, h, length-map cells cell_child, length-page_cells (kind_of false) page (header_of n)) in
    sym (ap (λ k. get_or (map cell_child cells ++ right_child page (header_of n) ∷ []) k 0) last
    ∙ get_or-append_seam (map cell_child cells) (right_child page (header_of n)) [] 0)

-- ---- rows

pub record_test : (r : Bool) (found bytes : List ℕ) → ((r ≡ true) ↔ IsRecord found) → found ≡ bytes → is_record bytes ≡ r
record_test r found bytes tells same =
    same_from_decides (is_record bytes) r (tells_records bytes) (subst (λ (b : List ℕ). (r ≡ true) ↔ IsRecord b) same tells)

pub bad_row : (pages : PageMap) (size : ℕ) (row : List ℕ) (rows : Rows) (bytes : List ℕ) (spare : ℕ) → payload_of pages size row rows.1 ≡ Ok (bytes, spare)
    → is_record bytes ≡ false → row_after pages size row rows ≡ Err BadRecord
unfolding row_after
bad_row pages size row rows bytes spare read test = rw (read, test) refl

pub bad_payload : (pages : PageMap) (size : ℕ) (row : List ℕ) (rows : Rows) (e : WcdbFault) → Fails e (payload_of pages size row rows.1)
    → Fails e (row_after pages size row rows)
unfolding row_after
bad_payload pages size row rows e failed =
    fails_first e (payload_of pages size row rows.1)
    (λ read. cond (is_record read.0) (Ok (rows.0 ++ record { rowid = rowid_of row; bytes = read.0 } ∷ [], read.1)) (Err BadRecord)) failed

pub row_pushed : (pages : PageMap) (size : ℕ) (row : List ℕ) (rows : Rows) (bytes : List ℕ) (spare rowid : ℕ) (text : List ℕ) (new : List TableRow)
    → payload_of pages size row rows.1 ≡ Ok (bytes, spare) → is_record bytes ≡ true → rowid ≡ rowid_of row → text ≡ bytes
    → new ≡ rows.0 ++ record { rowid = rowid; bytes = text } ∷ [] → row_after pages size row rows ≡ Ok (new, spare)
unfolding row_after
row_pushed pages size row rows bytes spare rowid text new read test number same pushed = rw (read, test, pushed, number, same) refl

-- ---- the tree

pub no_level : (pages : PageMap) (size levels n : ℕ) (rows : Rows) → levels ≡ 0 → tree_after pages size levels n rows ≡ Err (TooDeep n)
unfolding tree_after
no_level pages size levels n rows none = rw none refl

pub tree_of_leaf : (pages : PageMap) (size levels n spare : ℕ) (rows : Rows) (bytes : List ℕ) → ¬ (levels ≡ 0) → take_page n rows.1 ≡ Ok spare
    → table_page pages n ≡ Ok (record { leaf = true; bytes = bytes })
    → each (row_after pages size) (bodies_of bytes n) (rows.0, spare) ≡ tree_after pages size levels n rows
unfolding tree_after
tree_of_leaf pages size zero n spare rows bytes some taken page = absurd (some refl)
tree_of_leaf pages size (suc levels) n spare rows bytes some taken page = rw (taken, page) refl

pub tree_of_pages : (pages : PageMap) (size levels less n spare : ℕ) (rows : Rows) (bytes : List ℕ) → levels ≡ less + 1 → take_page n rows.1 ≡ Ok spare
    → table_page pages n ≡ Ok (record { leaf = false; bytes = bytes })
    → each (tree_after pages size less) (children_of bytes n) (rows.0, spare) ≡ tree_after pages size levels n rows
unfolding tree_after
tree_of_pages pages size zero less n spare rows bytes some taken page = absurd (omega (arith, some))
tree_of_pages pages size (suc levels) less n spare rows bytes some taken page =
    let same : less ≡ levels = omega (arith, some) in
    rw (taken, page, same) refl

pub no_page_left : (pages : PageMap) (size levels n : ℕ) (rows : Rows) (reason : Reason) → ¬ (levels ≡ 0) → take_page n rows.1 ≡ Err reason
    → tree_after pages size levels n rows ≡ Err reason
unfolding tree_after
no_page_left pages size zero n rows reason some taken = absurd (some refl)
no_page_left pages size (suc levels) n rows reason some taken = rw taken refl

pub bad_node : (pages : PageMap) (size levels n spare : ℕ) (rows : Rows) (e : WcdbFault) → ¬ (levels ≡ 0) → take_page n rows.1 ≡ Ok spare
    → Fails e (table_page pages n) → Fails e (tree_after pages size levels n rows)
unfolding tree_after
bad_node pages size zero n spare rows e some taken failed = absurd (some refl)
bad_node pages size (suc levels) n spare rows e some taken failed =
    rw taken (fails_first e (table_page pages n)
    (λ page. cond page.leaf (each (row_after pages size) (bodies_of page.bytes n) (rows.0, spare)) (each (tree_after pages size levels) (children_of page.bytes n) (rows.0, spare)))
    failed)
