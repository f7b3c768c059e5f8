-- The tree that is read is the one that the pages hold.
use Rattle.std.proofs.Common.{◌≡◌, inl, inr, ◌-◌, min, map, ℕ, zero, suc, ◌<◌, Bool, true, false, List, [], ◌∷◌, ◌++◌, length, refl, sym, ap, ap₂, subst, ◌∙◌, arith}
use Rattle.sqlite_pages.specs.PageMap.{PageMap}
use Rattle.sqlite_format.specs.declared.kind.Tree.TheVariants.{Table}
use Rattle.sqlite_format.specs.Cell.{cell_child, spilled_len, first_overflow}
use Rattle.sqlite_format.specs.Bytes.{u32_at}
use Rattle.sqlite_format.specs.Page.{IsPage, page_cells, right_child}
use Rattle.sqlite_btree.specs.Part.{Part, IsPartOf, all_pages}
use Rattle.sqlite_btree.specs.Items.{Item, item, is_row, body_of, Form, kind_at, cell_item}
use Rattle.sqlite_btree.specs.Tree.{header_of, IsNode, cells_of, right_of, EachChild, fan_items, IsTree, tree_items, IsTop}
use Rattle.sqlite_btree.specs.Cut.{Each}
use Rattle.sqlite_btree.specs.Chain.{Layout, IsChain, IsChained, payload_in}
use Rattle.sqlite_btree.proofs.CutLemmas.{Each-from, Each-in}
use Rattle.sqlite_record.specs.Strict.{IsRecord}
use Rattle.sqlite_btree.specs.Stored.{unordered, height_from}
use Rattle.sqlite_btree.proofs.TreeLemmas.{node_live, EachChild-last, IsTree-top}
use Rattle.law_wcdb.specs.Laws.{Row, rows_among}
use Rattle.law_wcdb.specs.Trees.{IsTreeWithin, items_within, IsWholeChain, IsWholeItem}
use Rattle.law_wcdb.proofs.ChainReads.{page_there}
use Rattle.law_wcdb.proofs.TreeReads.{items_of_leaf, items_of_interior}

abbrev pub table_form : ℕ → (Item → Item → Bool) → Form
table_form usable order = record { tree = Table; usable = usable; order = order }

fan_same : (first second : Form) (P : ℕ → Type 0) (f g : ℕ → List Item) → cell_item first false ≡ cell_item second false → ((n : ℕ) → P n → f n ≡ g n)
    → (cells : List (List ℕ)) (last : ℕ) → EachChild P cells last → fan_items first f cells last ≡ fan_items second g cells last
fan_same first second P f g dividers same [] last all = same last all
fan_same first second P f g dividers same (cell ∷ cells) last all =
    ap₂ (λ xs ys. xs ++ ys) (same (cell_child cell) all.0)
    (ap₂ (λ (d : List ℕ → Item) ys. d cell ∷ ys) dividers (fan_same first second P f g dividers same cells last all.1))

each_child : (P Q : ℕ → Type 0) → ((n : ℕ) → P n → Q n) → (cells : List (List ℕ)) (last : ℕ) → EachChild P cells last → EachChild Q cells last
each_child P Q so [] last all = so last all
each_child P Q so (cell ∷ cells) last all = (so (cell_child cell) all.0, each_child P Q so cells last all.1)

-- a page of the tree is the file's
pub node_there : (part : Part) (pages : PageMap) → IsPartOf part pages → (form : Form) (leaf : Bool) (n : ℕ) → IsNode form leaf part n → all_pages pages n
    ≡ part n
node_there part pages laid form leaf n node = page_there pages n (part n) (laid n (node_live node))

pub node_read : (usable : ℕ) (order : Item → Item → Bool) (part : Part) (pages : PageMap) → IsPartOf part pages → (leaf : Bool) (n : ℕ)
    → IsNode (table_form usable order) leaf part n → IsNode (unordered Table usable) leaf (all_pages pages) n
node_read usable order part pages laid leaf n node =
    let there = node_there part pages laid (table_form usable order) leaf n node in
    record { sound = subst (λ b. IsPage (kind_at (unordered Table usable) leaf) b (header_of n)) (sym there) node.sound; size = ap length there ∙ node.size }

-- a tree of the part, and its height and items, as they are read, in whichever order
pub record IsReadAs (usable levels : ℕ) (order : Item → Item → Bool) (part pages : Part) (h n : ℕ) : Type 0 where
  pub tree : IsTreeWithin (unordered Table usable) pages levels n
  pub kept : tree_items (table_form usable order) pages h n ≡ tree_items (table_form usable order) part h n
  pub height : height_from levels pages n ≡ h
  pub items : items_within (unordered Table usable) pages levels n ≡ tree_items (table_form usable order) pages h n

pub tree_read_as : (usable : ℕ) (old new : Item → Item → Bool) (part : Part) (pages : PageMap) → IsPartOf part pages → (h levels n : ℕ)
    → IsTop (table_form usable old) part h n → h < levels → IsReadAs usable levels new part (all_pages pages) h n
tree_read_as usable old new part pages laid h zero n top fits = absurd (omega (arith, fits))
tree_read_as usable old new part pages laid zero (suc levels) n top fits =
    let node = node_read usable old part pages laid true n top.0 in
    record {
      tree = inl node;
      kept = ap (λ b. map (cell_item (table_form usable new) true) (page_cells (kind_at (unordered Table usable) true) b (header_of n)))
          (node_there part pages laid (table_form usable old) true n top.0);
      height = rw node.sound.flag refl;
      items = items_of_leaf usable levels n (all_pages pages) node;
    }
tree_read_as usable old new part pages laid (suc h) (suc levels) n top fits =
    let all = all_pages pages in
    let form = table_form usable old in
    let node = node_read usable old part pages laid false n top.0 in
    let there = node_there part pages laid form false n top.0 in
    let below : (c : ℕ) → IsTree form part h c → IsReadAs usable levels new part all h c =
    λ c tree. tree_read_as usable old new part pages laid h levels c (IsTree-top form part h c tree).0 (omega (arith, fits)) in
    let children : EachChild (IsTree form part h) (cells_of form false all n) (right_of all n) =
    subst (λ b. EachChild (IsTree form part h) (page_cells (kind_at form false) b (header_of n)) (right_child b (header_of n))) (sym there) top.1 in
    let last = EachChild-last (IsTree form part h) (cells_of form false all n) (right_of all n) children in
    record {
      tree = inr (
        node,
        each_child (IsTree form part h) (IsTreeWithin (unordered Table usable) all levels) (λ c tree. (below c tree).tree)
            (cells_of form false all n) (right_of all n) children,
      );
      kept = fan_same (table_form usable new) (table_form usable new) (IsTree form part h) (tree_items (table_form usable new) all h)
          (tree_items (table_form usable new) part h) refl (λ c tree. (below c tree).kept) (cells_of form false all n) (right_of all n) children
          ∙ ap (λ b. fan_items (table_form usable new) (tree_items (table_form usable new) part h) (page_cells (kind_at form false) b (header_of n))
          (right_child b (header_of n))) there;
      height = rw node.sound.flag (ap suc (below (right_of all n) last).height);
      items = items_of_interior usable levels n all node
          ∙ fan_same (unordered Table usable) (table_form usable new) (IsTree form part h) (items_within (unordered Table usable) all levels)
          (tree_items (table_form usable new) all h) refl (λ c tree. (below c tree).items) (cells_of form false all n) (right_of all n) children;
    }

-- ---- chains and records

chain_whole : (layout : Layout) (pages : PageMap) (usable : ℕ) (row : List ℕ) → 0 < usable → IsPartOf layout.spill pages → (fuel n left : ℕ)
    → IsChain layout usable row fuel n left → IsWholeChain (all_pages pages) usable fuel n left
chain_whole layout pages usable row size laid zero n left chain = chain
chain_whole layout pages usable row size laid (suc fuel) n left (inl end) = inl end
chain_whole layout pages usable row size laid (suc fuel) n left (inr link) =
    let there : all_pages pages n ≡ layout.spill n = page_there pages n (layout.spill n) (laid n (λ e. omega (arith, size, link.2, ap length e))) in
    inr (
      link.0,
      ap length there ∙ link.2,
      subst (λ b. IsWholeChain (all_pages pages) usable fuel (u32_at b 0) (left - min (usable - 4) left)) (sym there)
          (chain_whole layout pages usable row size laid fuel _ _ link.4),
    )

abbrev HasRecord : Part → ℕ → Item → Type 0
HasRecord pages usable x = is_row x ≡ true → IsRecord (payload_in Table usable pages (body_of x))

records_of : (pages : Part) (usable : ℕ) (items : List Item) → Each (λ (row : Row). IsRecord row.1) (rows_among pages usable items)
    → Each (HasRecord pages usable) items
records_of pages usable [] records = tt
records_of pages usable (item true body ∷ items) records = (λ _. records.0, records_of pages usable items records.1)
records_of pages usable (item false body ∷ items) records = (λ e. cc, records_of pages usable items records)

pub items_whole : (order : Item → Item → Bool) (layout : Layout) (pages : PageMap) (usable : ℕ) (items : List Item) → 0 < usable → IsPartOf layout.spill pages
    → Each (IsChained (table_form usable order) layout) items → Each (λ (row : Row). IsRecord row.1) (rows_among (all_pages pages) usable items)
    → Each (IsWholeItem (all_pages pages) usable) items
items_whole order layout pages usable items size laid chained records =
    let have = records_of (all_pages pages) usable items records in
    Each-from (IsWholeItem (all_pages pages) usable) items
    (λ x at is.
    let row = body_of x in
    let here = Each-in (IsChained (table_form usable order) layout) items x chained at is in
    record {
      short = here.short;
      chain = chain_whole layout pages usable row size laid (spilled_len Table usable row) (first_overflow Table usable row) (spilled_len Table usable row)
          here.chain;
      whole = Each-in (HasRecord (all_pages pages) usable) items x have at is;
    })
