-- What is read of pages and of trees.
use Rattle.std.proofs.Common.{◌≡◌, inl, inr, ℕ, zero, suc, ◌<◌, Bool, true, false, cond, List, [], ◌∷◌, ◌++◌, length, map, Result, Ok, Err, refl, sym, ap, ap₂, subst, subst₂, ◌∙◌, arith, append_assoc, append-nil, eq-eqb, ne_eqb}
use Rattle.std.proofs.lemmas.Bool.{cond-true, cond-false}
use Rattle.std.proofs.lemmas.List.{map-append}
use Rattle.std.proofs.lemmas.List.Sums.{sum_by-cons}
use Rattle.std.specs.Prelude.{◌+◌, sum_by, slice_index}
use Rattle.sqlite_pages.specs.PageMap.{PageMap}
use Rattle.sqlite_format.specs.declared.kind.Tree.TheVariants.{Table}
use Rattle.sqlite_format.specs.Cell.{cell_body, cell_child}
use Rattle.sqlite_format.specs.Page.{IsPage, page_cells, right_child}
use Rattle.sqlite_btree.specs.Cut.{Each}
use Rattle.sqlite_btree.specs.Part.{Part, all_pages}
use Rattle.sqlite_btree.specs.Items.{Item, item, body_of, cell_item, rows_of}
use Rattle.sqlite_btree.specs.Tree.{header_of, IsNode, cells_of, right_of, EachChild, fan_items}
use Rattle.sqlite_btree.specs.Chain.{entry_of}
use Rattle.sqlite_btree.specs.Stored.{unordered, as_row}
use Rattle.sqlite_btree.proofs.CutLemmas.{Each-append, rows_of-append}
use Rattle.svn_wcdb.specs.declared.fault.Reason.{Reason}
use Rattle.svn_wcdb.specs.declared.fault.Reason.TheVariants.{BadPage}
use Rattle.svn_wcdb.specs.Pages as reader
use Rattle.svn_wcdb.specs.Reading.{◌>>=◌, each}
use Rattle.svn_wcdb.specs.Tables.{Rows, take_page, row_after, tree_after}
use Rattle.svn_wcdb.proofs.PageTests.{tells_pages}
use Rattle.law_wcdb.specs.Laws.{shown, rows_among}
use Rattle.law_wcdb.specs.Trees.{IsTreeWithin, items_within, fan_pages, row_pages, pages_within, IsWholeItem}
use Rattle.law_wcdb.proofs.Choices.{ok_same, err_ok, chosen, bound_ok, given_ok}
use Rattle.law_wcdb.proofs.ChainReads.{page_there, row_read}
use Rattle.law_wcdb.proofs.Pages.{AreSized}

-- ---- rows that are read after others

pub record Adds (pages : Part) (usable count : ℕ) (items : List Item) (old new : Rows) : Type 0 where
  pub taken : old.1 ≡ new.1 + count
  pub whole : Each (IsWholeItem pages usable) items
  pub rows : shown new ≡ shown old ++ rows_among pages usable items

rows_among-append : (pages : Part) (usable : ℕ) (xs ys : List Item)
    → rows_among pages usable (xs ++ ys) ≡ rows_among pages usable xs ++ rows_among pages usable ys
rows_among-append pages usable xs ys =
    ap (λ l. map as_row (map (entry_of Table usable pages) l)) (rows_of-append xs ys)
    ∙ ap (map as_row) (map-append (entry_of Table usable pages) (rows_of xs) (rows_of ys))
    ∙ map-append as_row (map (entry_of Table usable pages) (rows_of xs)) (map (entry_of Table usable pages) (rows_of ys))

adds_none : (pages : Part) (usable : ℕ) (old new : Rows) → old ≡ new → Adds pages usable 0 [] old new
adds_none pages usable old new same =
    record { taken = omega (arith, ap (λ (r : Rows). r.1) same); whole = tt; rows = ap shown (sym same) ∙ sym (append-nil (shown old)) }

adds_both : (pages : Part) (usable some more : ℕ) (xs ys : List Item) (old mid new : Rows) → Adds pages usable some xs old mid
    → Adds pages usable more ys mid new
    → Adds pages usable (some + more) (xs ++ ys) old new
adds_both pages usable some more xs ys old mid new first second =
    record {
      taken = omega (arith, first.taken, second.taken);
      whole = Each-append (IsWholeItem pages usable) xs ys first.whole second.whole;
      rows = second.rows ∙ ap (λ l. l ++ rows_among pages usable ys) first.rows
          ∙ append_assoc (shown old) (rows_among pages usable xs) (rows_among pages usable ys)
          ∙ ap (λ l. shown old ++ l) (sym (rows_among-append pages usable xs ys));
    }

-- a divider is no row
adds_divider : (pages : Part) (usable count : ℕ) (body : List ℕ) (xs : List Item) (old new : Rows) → Adds pages usable count xs old new
    → Adds pages usable count (item false body ∷ xs) old new
adds_divider pages usable count body xs old new adds = record { taken = adds.taken; whole = (λ e. cc, adds.whole); rows = adds.rows }

-- ---- a leaf

abbrev pub leaf_pages : Part → ℕ → List (List ℕ) → ℕ
leaf_pages pages usable = sum_by (λ cell. row_pages pages usable (body_of (cell_item (unordered Table usable) true cell)))

pub next_cell : (pages : Part) (usable : ℕ) (cell : List ℕ) (cells : List (List ℕ))
    → leaf_pages pages usable (cell ∷ cells) ≡ row_pages pages usable (body_of (cell_item (unordered Table usable) true cell)) + leaf_pages pages usable cells
next_cell pages usable cell cells = sum_by-cons (λ c. row_pages pages usable (body_of (cell_item (unordered Table usable) true c))) cell cells

leaf_read : (pages : PageMap) (usable : ℕ) → 4 < usable → AreSized pages usable → (cells : List (List ℕ)) (old new : Rows)
    → each (row_after pages usable) (map (cell_body (reader.kind_of true) usable) cells) old ≡ Ok new
    → Adds (all_pages pages) usable (leaf_pages (all_pages pages) usable cells) (map (cell_item (unordered Table usable) true) cells) old new
leaf_read pages usable size sized [] old new read = adds_none (all_pages pages) usable old new (ok_same read)
leaf_read pages usable size sized (cell ∷ cells) old new read =
    let found = bound_ok _ _ _ read in
    let x = cell_item (unordered Table usable) true cell in
    let row = row_read pages usable (cell_body (reader.kind_of true) usable cell) old found.0 size sized found.1 in
    subst (λ count. Adds (all_pages pages) usable count (x ∷ map (cell_item (unordered Table usable) true) cells) old new)
    (sym (next_cell (all_pages pages) usable cell cells))
    (adds_both (all_pages pages) usable (row_pages (all_pages pages) usable (body_of x)) (leaf_pages (all_pages pages) usable cells)
    (x ∷ []) (map (cell_item (unordered Table usable) true) cells) old found.0 new
    (record { taken = row.taken; whole = (λ _. row.whole, tt); rows = row.rows })
    (leaf_read pages usable size sized cells found.0 new found.2))

-- ---- the pages below an interior page

pub fan_read : (pages : Part) (usable : ℕ) (IsSub : ℕ → Type 0) (count : ℕ → ℕ) (items : ℕ → List Item) (step : ℕ → Rows → Result Rows Reason)
    → ((n : ℕ) (old new : Rows) → step n old ≡ Ok new → IsSub n × Adds pages usable (count n) (items n) old new)
    → (cells : List (List ℕ)) (last : ℕ) (old new : Rows) → each step (map cell_child cells ++ last ∷ []) old ≡ Ok new
    → EachChild IsSub cells last × Adds pages usable (fan_pages count cells last) (fan_items (unordered Table usable) items cells last) old new
fan_read pages usable IsSub count items step reads [] last old new read =
    let found = bound_ok _ _ _ read in
    reads last old new (found.1 ∙ found.2)
fan_read pages usable IsSub count items step reads (cell ∷ cells) last old new read =
    let found = bound_ok _ _ _ read in
    let first = reads (cell_child cell) old found.0 found.1 in
    let rest = fan_read pages usable IsSub count items step reads cells last found.0 new found.2 in
    let more = fan_items (unordered Table usable) items cells last in (
      (first.0, rest.0),
      adds_both pages usable (count (cell_child cell)) (fan_pages count cells last)
          (items (cell_child cell)) (cell_item (unordered Table usable) false cell ∷ more) old found.0 new first.1
          (adds_divider pages usable (fan_pages count cells last) _ more found.0 new rest.1),
    )

-- ---- one page

pub same_header : (n : ℕ) → reader.header_of n ≡ header_of n
unfolding header_of
same_header n = refl

abbrev page_as : Bool → List ℕ → reader.TablePage
page_as leaf bytes = record { leaf = leaf; bytes = bytes }

abbrev is_kind : ℕ → List ℕ → Bool → Bool
is_kind n bytes leaf = reader.is_page (reader.kind_of leaf) bytes (reader.header_of n)

record PageKnown (n : ℕ) (bytes : List ℕ) (page : reader.TablePage) : Type 0 where
  same : page.bytes ≡ bytes
  sound : IsPage (reader.kind_of page.leaf) bytes (reader.header_of n)

page_known : (n : ℕ) (bytes : List ℕ) (page : reader.TablePage) → reader.page_of_table n bytes ≡ Ok page → PageKnown n bytes page
unfolding reader.page_of_table
page_known n bytes page read =
    let known : (leaf : Bool) → is_kind n bytes leaf ≡ true → page_as leaf bytes ≡ page → PageKnown n bytes page =
    λ leaf test is. subst (PageKnown n bytes) is (record { same = refl; sound = (tells_pages (reader.kind_of leaf) bytes (reader.header_of n)).0 test }) in
    let interior_or_none = cond (is_kind n bytes false) (Ok (page_as false bytes)) (Err (BadPage n)) in
    elim (chosen (is_kind n bytes true) (Ok (page_as true bytes)) interior_or_none (Ok page) read) [
      | inl leaf ↦ known true leaf.0 (ok_same leaf.1)
      | inr other ↦
          elim (chosen (is_kind n bytes false) (Ok (page_as false bytes)) (Err (BadPage n)) (Ok page) other.1) [
            | inl interior ↦ known false interior.0 (ok_same interior.1)
            | inr none ↦ absurd (err_ok none.1)
          ]
    ]

record NodeKnown (pages : PageMap) (usable n : ℕ) (page : reader.TablePage) : Type 0 where
  node : IsNode (unordered Table usable) page.leaf (all_pages pages) n
  same : page.bytes ≡ all_pages pages n

node_known : (pages : PageMap) (usable n : ℕ) (page : reader.TablePage) → AreSized pages usable → reader.table_page pages n ≡ Ok page
    → NodeKnown pages usable n page
unfolding reader.table_page
node_known pages usable n page sized read =
    let found = bound_ok _ _ _ read in
    let there = page_there pages n found.0 (given_ok _ _ _ found.1) in
    let known = page_known n found.0 page found.2 in
    record {
      node = record {
        sound = subst₂ (λ b h. IsPage (reader.kind_of page.leaf) b h) (sym there) (same_header n) known.sound;
        size = ap length there ∙ sized n found.0 (given_ok _ _ _ found.1);
      };
      same = known.same ∙ sym there;
    }

pub bodies_are : (usable n : ℕ) (pages : Part) (bytes : List ℕ) → bytes ≡ pages n → length (pages n) ≡ usable
    → reader.bodies_of bytes n ≡ map (cell_body (reader.kind_of true) usable) (cells_of (unordered Table usable) true pages n)
unfolding reader.bodies_of
bodies_are usable n pages bytes same size =
    ap (λ b. map (cell_body (reader.kind_of true) (length b)) (page_cells (reader.kind_of true) b (reader.header_of n))) same
    ∙ ap₂ (λ u h. map (cell_body (reader.kind_of true) u) (page_cells (reader.kind_of true) (pages n) h)) size (same_header n)

pub children_are : (usable n : ℕ) (pages : Part) (bytes : List ℕ) → bytes ≡ pages n
    → reader.children_of bytes n ≡ map cell_child (cells_of (unordered Table usable) false pages n) ++ right_of pages n ∷ []
unfolding reader.children_of
children_are usable n pages bytes same =
    ap₂ (λ b h. map cell_child (page_cells (reader.kind_of false) b h) ++ right_child b h ∷ []) same (same_header n)

-- ---- the tree

pub items_of_leaf : (usable levels n : ℕ) (pages : Part) → IsNode (unordered Table usable) true pages n
    → items_within (unordered Table usable) pages (suc levels) n
    ≡ map (cell_item (unordered Table usable) true) (cells_of (unordered Table usable) true pages n)
items_of_leaf usable levels n pages node = cond-true _ _ _ (eq-eqb _ _ node.sound.flag)

pub items_of_interior : (usable levels n : ℕ) (pages : Part) → IsNode (unordered Table usable) false pages n
    → items_within (unordered Table usable) pages (suc levels) n
    ≡ fan_items (unordered Table usable) (items_within (unordered Table usable) pages levels)
    (cells_of (unordered Table usable) false pages n) (right_of pages n)
items_of_interior usable levels n pages node = cond-false _ _ _ (ne_eqb (slice_index (pages n) (header_of n)) 13 (λ e. omega (arith, e, node.sound.flag)))

pub pages_of_leaf : (usable levels n : ℕ) (pages : Part) → IsNode (unordered Table usable) true pages n
    → pages_within (unordered Table usable) pages (suc levels) n ≡ suc (leaf_pages pages usable (cells_of (unordered Table usable) true pages n))
pages_of_leaf usable levels n pages node = ap suc (cond-true _ _ _ (eq-eqb _ _ node.sound.flag))

pub pages_of_interior : (usable levels n : ℕ) (pages : Part) → IsNode (unordered Table usable) false pages n
    → pages_within (unordered Table usable) pages (suc levels) n
    ≡ suc (fan_pages (pages_within (unordered Table usable) pages levels) (cells_of (unordered Table usable) false pages n) (right_of pages n))
pages_of_interior usable levels n pages node =
    ap suc (cond-false _ _ _ (ne_eqb (slice_index (pages n) (header_of n)) 13 (λ e. omega (arith, e, node.sound.flag))))

-- a page was taken first
adds_page : (pages : Part) (usable count all spare : ℕ) (xs ys : List Item) (old new : Rows) → old.1 ≡ suc spare → all ≡ suc count → xs ≡ ys
    → Adds pages usable count ys (old.0, spare) new → Adds pages usable all xs old new
adds_page pages usable count all spare xs ys old new took more same adds =
    record {
      taken = omega (arith, took, more, adds.taken);
      whole = subst (Each (IsWholeItem pages usable)) (sym same) adds.whole;
      rows = adds.rows ∙ ap (λ items. shown old ++ rows_among pages usable items) (sym same);
    }

pub taken_one : (n old spare : ℕ) → take_page n old ≡ Ok spare → old ≡ suc spare
unfolding take_page
taken_one n zero spare read = absurd (err_ok read)
taken_one n (suc old) spare read = ap suc (ok_same read)

abbrev pub Reads : PageMap → ℕ → ℕ → ℕ → Rows → Rows → Type 0
Reads pages usable levels n old new =
    IsTreeWithin (unordered Table usable) (all_pages pages) levels n
    × Adds (all_pages pages) usable (pages_within (unordered Table usable) (all_pages pages) levels n)
    (items_within (unordered Table usable) (all_pages pages) levels n) old new

tree_of_leaf : (pages : PageMap) (usable levels n : ℕ) (bytes : List ℕ) (spare : ℕ) (old new : Rows) → old.1 ≡ suc spare → AreSized pages usable
    → IsNode (unordered Table usable) true (all_pages pages) n → bytes ≡ all_pages pages n
    → each (row_after pages usable) (reader.bodies_of bytes n) (old.0, spare) ≡ Ok new → Reads pages usable (suc levels) n old new
tree_of_leaf pages usable levels n bytes spare old new took sized node same read =
    let all = all_pages pages in (
      inl node,
      adds_page all usable _ _ spare _ _ old new took (pages_of_leaf usable levels n all node) (items_of_leaf usable levels n all node)
          (leaf_read pages usable (omega (arith, node.size, node.sound.usable.0)) sized (cells_of (unordered Table usable) true all n) (old.0, spare) new
          (ap (λ bodies. each (row_after pages usable) bodies (old.0, spare)) (sym (bodies_are usable n all bytes same node.size)) ∙ read)),
    )

tree_of_interior : (pages : PageMap) (usable levels n : ℕ) (bytes : List ℕ) (spare : ℕ) (old new : Rows) → old.1 ≡ suc spare
    → ((c : ℕ) (old new : Rows) → tree_after pages usable levels c old ≡ Ok new → Reads pages usable levels c old new)
    → IsNode (unordered Table usable) false (all_pages pages) n → bytes ≡ all_pages pages n
    → each (tree_after pages usable levels) (reader.children_of bytes n) (old.0, spare) ≡ Ok new → Reads pages usable (suc levels) n old new
tree_of_interior pages usable levels n bytes spare old new took below node same read =
    let all = all_pages pages in
    let form = unordered Table usable in
    let fan = fan_read all usable (IsTreeWithin form all levels) (pages_within form all levels) (items_within form all levels)
    (tree_after pages usable levels) below
    (cells_of form false all n) (right_of all n) (old.0, spare) new
    (ap (λ children. each (tree_after pages usable levels) children (old.0, spare)) (sym (children_are usable n all bytes same)) ∙ read) in (
      inr (node, fan.0),
      adds_page all usable _ _ spare _ _ old new took (pages_of_interior usable levels n all node) (items_of_interior usable levels n all node) fan.1,
    )

-- a page of either kind
abbrev pub rows_of_page : PageMap → ℕ → ℕ → ℕ → Rows → reader.TablePage → Result Rows Reason
rows_of_page pages usable levels n old page =
    cond page.leaf (each (row_after pages usable) (reader.bodies_of page.bytes n) old)
    (each (tree_after pages usable levels) (reader.children_of page.bytes n) old)

tree_of_page : (pages : PageMap) (usable levels n : ℕ) (page : reader.TablePage) (spare : ℕ) (old new : Rows) → old.1 ≡ suc spare → AreSized pages usable
    → ((c : ℕ) (old new : Rows) → tree_after pages usable levels c old ≡ Ok new → Reads pages usable levels c old new) → NodeKnown pages usable n page
    → rows_of_page pages usable levels n (old.0, spare) page ≡ Ok new → Reads pages usable (suc levels) n old new
tree_of_page pages usable levels n page spare old new took sized below known read =
    let node : (leaf : Bool) → page.leaf ≡ leaf → IsNode (unordered Table usable) leaf (all_pages pages) n =
    λ leaf is. subst (λ l. IsNode (unordered Table usable) l (all_pages pages) n) is known.node in
    let rows = each (row_after pages usable) (reader.bodies_of page.bytes n) (old.0, spare) in
    let children = each (tree_after pages usable levels) (reader.children_of page.bytes n) (old.0, spare) in
    elim (chosen page.leaf rows children (Ok new) read) [
      | inl leaf ↦ tree_of_leaf pages usable levels n page.bytes spare old new took sized (node true leaf.0) known.same leaf.1
      | inr interior ↦ tree_of_interior pages usable levels n page.bytes spare old new took below (node false interior.0) known.same interior.1
    ]

pub tree_read : (pages : PageMap) (usable : ℕ) → AreSized pages usable → (levels n : ℕ) (old new : Rows) → tree_after pages usable levels n old ≡ Ok new
    → Reads pages usable levels n old new
unfolding tree_after
tree_read pages usable sized zero n old new read = absurd (err_ok read)
tree_read pages usable sized (suc levels) n old new read =
    let taken = bound_ok (take_page n old.1) (λ spare. reader.table_page pages n >>= rows_of_page pages usable levels n (old.0, spare)) new read in
    let found = bound_ok (reader.table_page pages n) (rows_of_page pages usable levels n (old.0, taken.0)) new taken.2 in
    tree_of_page pages usable levels n found.0 taken.0 old new (taken_one n old.1 taken.0 taken.1) sized (tree_read pages usable sized levels)
    (node_known pages usable n found.0 sized found.1) found.2
