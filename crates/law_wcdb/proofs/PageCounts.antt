-- A table by `sqlite_btree` takes no more pages than the file has.
use Rattle.std.proofs.Common.{◌≡◌, inl, inr, ℕ, zero, suc, ◌+◌, ◌<◌, ◌≤◌, ◌/◌, ◌≢◌, Bool, true, false, List, [], ◌∷◌, ◌++◌, length, map, Ok, refl, sym, ap, subst, ◌∙◌, arith, append_assoc, length-append, ltb-true}
use Rattle.sqlite_pages.specs.PageMap.{PageMap}
use Rattle.sqlite_format.specs.declared.kind.Tree.TheVariants.{Table}
use Rattle.sqlite_format.specs.Cell.{cell_child}
use Rattle.sqlite_format.specs.Page.{page_cells, right_child}
use Rattle.sqlite_btree.specs.Cut.{Each, IsIn}
use Rattle.sqlite_btree.specs.Part.{Part, all_pages}
use Rattle.sqlite_btree.specs.Items.{Item, item, body_of, Form, kind_at, cell_item}
use Rattle.sqlite_btree.specs.Tree.{header_of, cells_of, right_of, EachChild, fan_items, IsTree, tree_items, IsTop, Reaches}
use Rattle.sqlite_btree.specs.Chain.{Layout}
use Rattle.sqlite_btree.specs.Stored.{unordered, IsTable, IsLaidIn, form_of, no_order}
use Rattle.sqlite_btree.proofs.CutLemmas.{Each-left, Each-right}
use Rattle.sqlite_btree.proofs.TreeLemmas.{node_live, reached_live, IsTree-top}
use Rattle.svn_wcdb.specs.Images.{File, image_of, page_in}
use Rattle.law_wcdb.specs.Laws.{Row, HasPages}
use Rattle.law_wcdb.specs.Trees.{pages_within, fan_pages}
use Rattle.law_wcdb.proofs.Pages.{usable_fits, page_number_fits}
use Rattle.law_wcdb.proofs.TreeReads.{leaf_pages, next_cell, pages_of_leaf, pages_of_interior}
use Rattle.law_wcdb.proofs.StoredReads.{table_form, node_there, node_read}
use Rattle.law_wcdb.proofs.PagesApart.{in_one, none_twice_both, no_more_than, fan_nodes, nodes_of, in_nodes, some_child, nodes_none_twice}
use Rattle.law_wcdb.proofs.LinksApart.{row_links, links_of, HasChains, in_links, links_none_twice, row_count}

links_of-append : (spill : Part) (usable : ℕ) (xs ys : List Item) → links_of spill usable (xs ++ ys) ≡ links_of spill usable xs ++ links_of spill usable ys
links_of-append spill usable [] ys = refl
links_of-append spill usable (item false body ∷ xs) ys = links_of-append spill usable xs ys
links_of-append spill usable (item true body ∷ xs) ys =
    ap (λ l. row_links spill usable body ++ l) (links_of-append spill usable xs ys)
    ∙ sym (append_assoc (row_links spill usable body) (links_of spill usable xs) (links_of spill usable ys))

leaf_count : (layout : Layout) (pages : PageMap) (usable : ℕ) → 0 < usable → IsLaidIn layout pages → (cells : List (List ℕ))
    → Each (HasChains layout usable) (map (cell_item (unordered Table usable) true) cells)
    → leaf_pages (all_pages pages) usable cells ≡ length (links_of layout.spill usable (map (cell_item (unordered Table usable) true) cells))
leaf_count layout pages usable size laid [] chains = refl
leaf_count layout pages usable size laid (cell ∷ cells) chains =
    let row = body_of (cell_item (unordered Table usable) true cell) in
    omega (
      arith,
      next_cell (all_pages pages) usable cell cells,
      row_count layout pages usable row size laid.spill (chains.0 refl),
      leaf_count layout pages usable size laid cells chains.1,
      length-append (row_links layout.spill usable row) (links_of layout.spill usable (map (cell_item (unordered Table usable) true) cells)),
    )

-- how many nodes and overflow pages a tree has
abbrev tree_pages : Layout → ℕ → Form → ℕ → ℕ → ℕ
tree_pages layout usable form h n = length (nodes_of form layout.nodes h n) + length (links_of layout.spill usable (tree_items form layout.nodes h n))

fan_count : (layout : Layout) (usable : ℕ) (order : Item → Item → Bool) (h : ℕ) (count : ℕ → ℕ)
    → ((c : ℕ) → IsTree (table_form usable order) layout.nodes h c
    → Each (HasChains layout usable) (tree_items (table_form usable order) layout.nodes h c) → count c ≡ tree_pages layout usable (table_form usable order) h c)
    → (cells : List (List ℕ)) (last : ℕ) → EachChild (IsTree (table_form usable order) layout.nodes h) cells last
    → Each (HasChains layout usable) (fan_items (table_form usable order) (tree_items (table_form usable order) layout.nodes h) cells last)
    → fan_pages count cells last ≡ length (fan_nodes (nodes_of (table_form usable order) layout.nodes h) cells last)
    + length (links_of layout.spill usable (fan_items (table_form usable order) (tree_items (table_form usable order) layout.nodes h) cells last))
fan_count layout usable order h count counts [] last trees chains = counts last trees chains
fan_count layout usable order h count counts (cell ∷ cells) last trees chains =
    let form = table_form usable order in
    let c = cell_child cell in
    let items = tree_items form layout.nodes h c in
    let rest = fan_items form (tree_items form layout.nodes h) cells last in
    let divider = cell_item form false cell in
    omega (
      arith,
      counts c trees.0 (Each-left (HasChains layout usable) items (divider ∷ rest) chains),
      fan_count layout usable order h count counts cells last trees.1 (Each-right (HasChains layout usable) items (divider ∷ rest) chains).1,
      length-append (nodes_of form layout.nodes h c) (fan_nodes (nodes_of form layout.nodes h) cells last),
      ap length (links_of-append layout.spill usable items (divider ∷ rest)),
      length-append (links_of layout.spill usable items) (links_of layout.spill usable (divider ∷ rest)),
    )

tree_count : (layout : Layout) (pages : PageMap) (usable : ℕ) (order : Item → Item → Bool) → IsLaidIn layout pages → (h levels n : ℕ)
    → IsTop (table_form usable order) layout.nodes h n → h < levels → Each (HasChains layout usable) (tree_items (table_form usable order) layout.nodes h n)
    → pages_within (unordered Table usable) (all_pages pages) levels n ≡ tree_pages layout usable (table_form usable order) h n
tree_count layout pages usable order laid h zero n top fits chains = absurd (omega (arith, fits))
tree_count layout pages usable order laid zero (suc levels) n top fits chains =
    let all = all_pages pages in
    let form = table_form usable order in
    let there = node_there layout.nodes pages laid.nodes form true n top.0 in
    pages_of_leaf usable levels n all (node_read usable order layout.nodes pages laid.nodes true n top.0)
    ∙ ap (λ b. suc (leaf_pages all usable (page_cells (kind_at form true) b (header_of n)))) there
    ∙ ap suc (leaf_count layout pages usable (omega (arith, top.0.size, top.0.sound.usable.0)) laid (cells_of form true layout.nodes n) chains)
    ∙ omega arith
tree_count layout pages usable order laid (suc h) (suc levels) n top fits chains =
    let all = all_pages pages in
    let form = table_form usable order in
    let there = node_there layout.nodes pages laid.nodes form false n top.0 in
    let count = pages_within (unordered Table usable) all levels in
    let fan = fan_count layout usable order h count
    (λ c tree has. tree_count layout pages usable order laid h levels c (IsTree-top form layout.nodes h c tree).0 (omega (arith, fits)) has)
    (cells_of form false layout.nodes n) (right_of layout.nodes n) top.1 chains in
    pages_of_interior usable levels n all (node_read usable order layout.nodes pages laid.nodes false n top.0)
    ∙ ap (λ b. suc (fan_pages count (page_cells (kind_at form false) b (header_of n)) (right_child b (header_of n)))) there
    ∙ omega (arith, fan)

top_live : (form : Form) (part : Part) (h page n : ℕ) → IsTop form part h page → Reaches form part h page n → part n ≢ []
top_live form part zero page n top e = subst (λ k. part k ≢ []) (sym e) (node_live top.0)
top_live form part (suc h) page n top (inl e) = subst (λ k. part k ≢ []) (sym e) (node_live top.0)
top_live form part (suc h) page n top (inr some) =
    let c = some_child (IsTree form part h) (λ c. Reaches form part h c n) (cells_of form false part page) (right_of part page) top.1 some in
    reached_live form part h n c.0 c.1 c.2

pub stored_fits : (bytes : List ℕ) (file : File) (root : ℕ) (stored : List Row) (layout : Layout) → image_of bytes ≡ Ok file → IsLaidIn layout (page_in file)
    → IsTable file.usable layout root stored → HasPages file root
stored_fits bytes file root stored layout image laid table =
    let usable = file.usable in
    let is = table.stored in
    let form = form_of Table no_order usable layout.spill in
    let top = is.shape.top in
    let size : 480 ≤ usable = omega (arith, top.0.size, top.0.sound.usable.0) in
    let some : 0 < file.size = omega (arith, size, usable_fits bytes file image) in
    let strict : (x : Item) → form.order x x ≡ true → ⊥ = λ x h. omega (arith, ltb-true _ _ h) in
    let nodes = nodes_of form layout.nodes is.height root in
    let items = tree_items form layout.nodes is.height root in
    let links = links_of layout.spill usable items in
    let live : (n : ℕ) → IsIn n nodes → layout.nodes n ≢ [] =
    λ n at. top_live form layout.nodes is.height root n top (in_nodes form layout.nodes n is.height root at) in
    let linked : (n : ℕ) → IsIn n links → layout.spill n ≢ [] =
    λ n at e. omega (arith, size, ap length e, (in_links layout usable items n is.chained at).size) in
    let apart = none_twice_both nodes links (nodes_none_twice form layout.nodes strict is.height root top is.ascends)
    (links_none_twice layout usable form.order (omega (arith, size)) strict items is.ascends is.chained)
    (λ n p q. linked n q (is.apart n (live n p))) in
    let within : (n : ℕ) → IsIn n (nodes ++ links) → (0 < n) × (n ≤ length file.bytes / file.size) =
    λ n at. elim (in_one n nodes links at) [
      | inl node ↦ page_number_fits file n (layout.nodes n) some (laid.nodes n (live n node))
      | inr link ↦ page_number_fits file n (layout.spill n) some (laid.spill n (linked n link))
    ] in
    omega (
      arith,
      tree_count layout (page_in file) usable form.order laid is.height 20 root top is.shape.shallow is.chained,
      length-append nodes links,
      no_more_than (nodes ++ links) (length file.bytes / file.size) apart within,
    )
