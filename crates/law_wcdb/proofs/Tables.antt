-- The laws.
use Rattle.std.proofs.Common.{◌≡◌, ℕ, ◌/◌, Bool, List, [], length, map, Result, Ok, Err, refl, sym, ap, subst, ◌∙◌, arith}
use Rattle.sqlite_format.specs.declared.kind.Tree.TheVariants.{Table}
use Rattle.sqlite_btree.specs.Part.{all_pages}
use Rattle.sqlite_pages.specs.PageMap.{PageMap}
use Rattle.sqlite_record.specs.Strict.{IsRecord}
use Rattle.sqlite_btree.specs.Cut.{Each}
use Rattle.sqlite_btree.specs.Items.{Item}
use Rattle.sqlite_btree.specs.Chain.{Layout, IsChained}
use Rattle.sqlite_btree.specs.Tree.{tree_items}
use Rattle.sqlite_btree.specs.Stored.{IsTable, IsLaidIn, form_of, no_order, as_row, entries_at}
use Rattle.sqlite_btree.proofs.StoredLemmas.{entries_at-stored}
use Rattle.svn_wcdb.specs.declared.fault.Reason.{Reason}
use Rattle.svn_wcdb.specs.Images.{File, image_of, page_in}
use Rattle.svn_wcdb.specs.Tables.{Rows, tree_after, table_rows}
use Rattle.law_wcdb.specs.Laws.{HasPages, IsTableRead, Row, table_items, stored_tables_are_trees, stored_tables_are_read, shown, rows_read, rows_among, tables_are_trees, trees_are_read, stored_rows_are_read}
use Rattle.law_wcdb.proofs.Choices.{ok_same, bound_ok}
use Rattle.law_wcdb.proofs.Pages.{usable_fits, pages_sized}
use Rattle.law_wcdb.proofs.TreeReads.{tree_read}
use Rattle.law_wcdb.proofs.TreeFaults.{tree_fault}
use Rattle.law_wcdb.proofs.PageCounts.{stored_fits}
use Rattle.law_wcdb.proofs.StoredReads.{IsReadAs, tree_read_as, items_whole}

pub tables_read : tables_are_trees
unfolding table_rows
tables_read bytes file root rows image read =
    let found = bound_ok _ _ _ read in
    let whole = bound_ok _ _ _ found.1 in
    let tree = tree_read (page_in file) file.usable (pages_sized file (usable_fits bytes file image)) 20 root _ whole.0 whole.1 in
    record {
      tree = tree.0;
      whole = tree.1.whole;
      holds = sym tree.1.rows ∙ ap (λ l. shown (l, 0)) (ok_same whole.2) ∙ ok_same found.2;
    }

-- a table that the pages hold, as it is read
tall : (pages : PageMap) (usable root : ℕ) (stored : List Row) (layout : Layout) (order : Item → Item → Bool) → IsLaidIn layout pages
    → (table : IsTable usable layout root stored) → IsReadAs usable 20 order layout.nodes (all_pages pages) table.stored.height root
tall pages usable root stored layout order laid table =
    tree_read_as usable (form_of Table no_order usable layout.spill).order order layout.nodes pages laid.nodes table.stored.height 20 root
    table.stored.shape.top table.stored.shape.shallow

stored_rows : (pages : PageMap) (usable root : ℕ) (stored : List Row) (layout : Layout) → IsLaidIn layout pages → IsTable usable layout root stored
    → rows_among (all_pages pages) usable (table_items (all_pages pages) usable root) ≡ stored
unfolding entries_at
stored_rows pages usable root stored layout laid table =
    let all = all_pages pages in
    let form = form_of Table no_order usable all in
    let is = tall pages usable root stored layout form.order laid table in
    ap (rows_among all usable) (is.items ∙ ap (λ h. tree_items form all h root) (sym is.height))
    ∙ ap (map as_row) (entries_at-stored pages laid table.stored)
    ∙ table.shows

pub stored_read : stored_rows_are_read
stored_read bytes file root rows stored layout image laid table read =
    sym (tables_read bytes file root rows image read).holds ∙ stored_rows (page_in file) file.usable root stored layout laid table

pub stored_trees : stored_tables_are_trees
stored_trees pages usable root stored layout laid table records =
    let all = all_pages pages in
    let order = (form_of Table no_order usable layout.spill).order in
    let is = tall pages usable root stored layout order laid table in
    let items : tree_items (form_of Table no_order usable layout.spill) layout.nodes table.stored.height root ≡ table_items all usable root =
    sym (is.items ∙ is.kept) in
    let holds = stored_rows pages usable root stored layout laid table in
    let node = table.stored.shape.top.0 in
    record {
      tree = is.tree;
      whole = items_whole order layout pages usable (table_items all usable root) (omega (arith, node.size, node.sound.usable.0)) laid.spill
          (subst (Each (IsChained (form_of Table no_order usable layout.spill) layout)) items table.stored.chained)
          (subst (Each (λ (row : Row). IsRecord row.1)) (sym holds) records);
      holds = holds;
    }

few_pages : (bytes : List ℕ) (file : File) (root : ℕ) (rows : List Row) → image_of bytes ≡ Ok file → rows_read file root ≡ Ok rows → HasPages file root
unfolding table_rows
few_pages bytes file root rows image read =
    let found = bound_ok _ _ _ read in
    let whole = bound_ok _ _ _ found.1 in
    let tree = tree_read (page_in file) file.usable (pages_sized file (usable_fits bytes file image)) 20 root _ whole.0 whole.1 in
    omega (arith, tree.1.taken)

is_read : (bytes : List ℕ) (file : File) (root : ℕ) (rows : List Row) → image_of bytes ≡ Ok file
    → IsTableRead (all_pages (page_in file)) file.usable root rows
    → HasPages file root → rows_read file root ≡ Ok rows
unfolding table_rows
is_read bytes file root rows image is few = go (tree_after (page_in file) file.usable 20 root ([], length file.bytes / file.size)) refl
  where
    go : (r : Result Rows Reason) → tree_after (page_in file) file.usable 20 root ([], length file.bytes / file.size) ≡ r → rows_read file root ≡ Ok rows
    go (Ok found) read =
        let all : rows_read file root ≡ Ok (shown found) = rw read refl in
        all ∙ ap Ok (sym (tables_read bytes file root (shown found) image all).holds ∙ is.holds)
    go (Err fault) read =
        let out = tree_fault (page_in file) file.usable (pages_sized file (usable_fits bytes file image)) 20 root _ fault is.tree is.whole read in
        absurd (omega (arith, few, out.2))

pub trees_read : trees_are_read
trees_read bytes file root rows image =
    (λ read. (tables_read bytes file root rows image read, few_pages bytes file root rows image read), λ both. is_read bytes file root rows image both.0 both.1)

pub stored_all_read : stored_tables_are_read
stored_all_read bytes file root stored layout image laid table records =
    (trees_read bytes file root stored image).1
    (stored_trees (page_in file) file.usable root stored layout laid table records, stored_fits bytes file root stored layout image laid table)
