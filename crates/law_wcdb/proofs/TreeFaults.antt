-- A tree of whole rows is refused only where it takes more pages than the file has.
use Rattle.std.proofs.Common.{◌≡◌, ◌⊎◌, inl, inr, ℕ, zero, suc, ◌-◌, ◌<◌, Bool, true, false, cond, List, [], ◌∷◌, ◌++◌, length, map, take, drop, min, Option, Some, None, Result, Ok, Err, refl, sym, ap, subst, subst₂, ap₂, ◌+◌, pos_of_ne-zero, ◌∙◌, arith, eqb-true, eq-eqb, ne_eqb}
use Rattle.std.proofs.lemmas.Bool.{cond-true, cond-false, eqb-false, lt-ltb}
use Rattle.std.specs.Prelude.{nat_eq, unwrap_or}
use Rattle.sqlite_pages.specs.PageMap.{PageMap}
use Rattle.sqlite_format.specs.declared.kind.Tree.TheVariants.{Table}
use Rattle.sqlite_format.specs.Bytes.{u32_at}
use Rattle.sqlite_format.specs.Varint.{varint_len}
use Rattle.sqlite_format.specs.Cell.{cell_body, cell_child, local_part, spilled_len, first_overflow}
use Rattle.sqlite_format.specs.Page.{IsPage}
use Rattle.sqlite_record.specs.Strict.{IsRecord}
use Rattle.sqlite_btree.specs.Cut.{Each}
use Rattle.sqlite_btree.specs.Part.{Part, all_pages}
use Rattle.sqlite_btree.specs.Items.{Item, cell_item}
use Rattle.sqlite_btree.specs.Tree.{IsNode, cells_of, right_of, EachChild, fan_items}
use Rattle.sqlite_btree.specs.Chain.{payload_in}
use Rattle.sqlite_btree.specs.Stored.{unordered}
use Rattle.sqlite_btree.proofs.CutLemmas.{Each-left, Each-right}
use Rattle.svn_wcdb.specs.declared.fault.Reason.{Reason}
use Rattle.svn_wcdb.specs.declared.fault.Reason.TheVariants.{Loop, BadRecord}
use Rattle.svn_wcdb.specs.Pages as reader
use Rattle.svn_wcdb.specs.Reading.{◌>>=◌, each}
use Rattle.svn_wcdb.specs.Records.{is_record}
use Rattle.svn_wcdb.specs.Tables.{Bytes, Rows, take_page, link_after, chain_end, chain_after, has_short_length, payload_of, rowid_of, row_after, tree_after}
use Rattle.svn_wcdb.proofs.RecordTests.{tells_records}
use Rattle.svn_wcdb.proofs.TreeLemmas.{page_at}
use Rattle.law_wcdb.specs.Trees.{IsTreeWithin, items_within, pages_within, fan_pages, row_pages, chain_pages, IsWholeChain, IsWholeRow, IsWholeItem}
use Rattle.law_wcdb.proofs.Choices.{err_same, ok_err, chosen, bound_err}
use Rattle.law_wcdb.proofs.Pages.{AreSized}
use Rattle.law_wcdb.proofs.ChainReads.{page_there, one_taken, link_read, payload_read, row_read}
use Rattle.law_wcdb.proofs.TreeReads.{same_header, bodies_are, children_are, items_of_leaf, items_of_interior, pages_of_leaf, pages_of_interior, leaf_pages, next_cell, taken_one, tree_read, rows_of_page}

-- fewer pages are spare than are taken
abbrev pub RunsOut : Reason → ℕ → ℕ → Type 0
RunsOut fault spare count = (n : ℕ) × (fault ≡ Loop n) × (spare < count)

live_page : (pages : PageMap) (n usable : ℕ) → 0 < usable → length (all_pages pages n) ≡ usable → pages n ≡ Some (all_pages pages n)
live_page pages n usable some size = go (pages n) size
  where
    go : (o : Option (List ℕ)) → length (unwrap_or o []) ≡ usable → o ≡ Some (unwrap_or o [])
    go (Some page) h = refl
    go None h = absurd (omega (arith, some, h))

-- ---- chains

ends_at : (pages : Part) (usable fuel n left : ℕ) → IsWholeChain pages usable fuel n left → left ≡ 0 → n ≡ 0
ends_at pages usable zero n left chain none = chain.1
ends_at pages usable (suc fuel) n left (inl end) none = end.1
ends_at pages usable (suc fuel) n left (inr link) none = absurd (omega (arith, link.0, none))

ended : (n : ℕ) (old : List ℕ) (spare : ℕ) (fault : Reason) → n ≡ 0 → chain_end n old spare ≡ Err fault → ⊥
unfolding chain_end
ended n old spare fault end read = ok_err (sym (cond-true _ _ _ (eq-eqb n 0 end)) ∙ read)

link_there : (pages : PageMap) (usable n left : ℕ) (old page : List ℕ) → pages n ≡ Some page
    → link_after pages usable n left old ≡ Ok (u32_at page 0, left - min left (usable - 4), old ++ take (min left (usable - 4)) (drop 4 page))
unfolding link_after
link_there pages usable n left old page there = rw there refl

-- what is read where bytes are left
abbrev links_after : PageMap → ℕ → ℕ → ℕ → ℕ → List ℕ → Result Bytes Reason
links_after pages usable spare n left old = link_after pages usable n left old >>= λ link. chain_after pages usable spare link.0 link.1 link.2

chain_fault : (pages : PageMap) (usable : ℕ) → 4 < usable → (spare fuel n left : ℕ) (old : List ℕ) (fault : Reason)
    → IsWholeChain (all_pages pages) usable fuel n left → chain_after pages usable spare n left old ≡ Err fault
    → RunsOut fault spare (chain_pages (all_pages pages) usable fuel n left)
unfolding chain_after
chain_fault pages usable size zero zero n left old fault chain read =
    absurd (ended n old 0 fault chain.1 (sym (cond-true (nat_eq left 0) (chain_end n old 0) (Err (Loop n)) (eq-eqb left 0 chain.0)) ∙ read))
chain_fault pages usable size zero (suc fuel) n left old fault chain read =
    elim (chosen (nat_eq left 0) (chain_end n old 0) (Err (Loop n)) (Err fault) read) [
      | inl end ↦ absurd (ended n old 0 fault (ends_at (all_pages pages) usable (suc fuel) n left chain (eqb-true left 0 end.0)) end.1)
      | inr none ↦
          let some : 0 < left = pos_of_ne-zero (eqb-false left 0 none.0) in
          (n, sym (err_same none.1), omega (arith, one_taken (all_pages pages) usable fuel n left some))
    ]
chain_fault pages usable size (suc spare) zero n left old fault chain read =
    let end = cond-true (nat_eq left 0) (chain_end n old (suc spare)) (links_after pages usable spare n left old)
    (eq-eqb left 0 chain.0) in
    absurd (ended n old (suc spare) fault chain.1 (sym end ∙ read))
chain_fault pages usable size (suc spare) (suc fuel) n left old fault (inl end) read =
    let ends = cond-true (nat_eq left 0) (chain_end n old (suc spare)) (links_after pages usable spare n left old)
    (eq-eqb left 0 end.0) in
    absurd (ended n old (suc spare) fault end.1 (sym ends ∙ read))
chain_fault pages usable size (suc spare) (suc fuel) n left old fault (inr link) read =
    let all = all_pages pages in
    let more = cond-false (nat_eq left 0) (chain_end n old (suc spare)) (links_after pages usable spare n left old)
    (ne_eqb left 0 (λ e. omega (arith, e, link.0))) in
    let there = link_there pages usable n left old (all n) (live_page pages n usable (omega (arith, size)) link.1) in
    elim (bound_err (link_after pages usable n left old) (λ link. chain_after pages usable spare link.0 link.1 link.2) fault (sym more ∙ read)) [
      | inl failed ↦ absurd (ok_err (sym there ∙ failed))
      | inr first ↦
          let is = link_read pages usable n left old first.0 first.1 in
          let same : is.page ≡ all n = sym (page_there pages n is.page is.there) in
          let next = is.next ∙ ap (λ p. u32_at p 0) same in
          let out = chain_fault pages usable size spare fuel first.0.0 first.0.1 first.0.2 fault
          (subst₂ (λ m k. IsWholeChain all usable fuel m k) (sym next) (sym is.left_is) link.2) first.2 in
          (out.0, out.1, omega (arith, out.2, ap₂ (chain_pages all usable fuel) next is.left_is, one_taken all usable fuel n left link.0))
    ]

-- ---- rows

payload_fault : (pages : PageMap) (usable : ℕ) (row : List ℕ) (spare : ℕ) (fault : Reason) → 4 < usable → IsWholeRow (all_pages pages) usable row
    → payload_of pages usable row spare ≡ Err fault → RunsOut fault spare (row_pages (all_pages pages) usable row)
unfolding payload_of
payload_fault pages usable row spare fault size is read =
    chain_fault pages usable size spare (spilled_len Table usable row) (first_overflow Table usable row) (spilled_len Table usable row)
    (local_part Table usable row) fault is.chain
    (sym (cond-true (has_short_length row) _ _ (lt-ltb (varint_len row) 9 (omega (arith, is.short)))) ∙ read)

row_fault : (pages : PageMap) (usable : ℕ) (row : List ℕ) (old : Rows) (fault : Reason) → 4 < usable → AreSized pages usable
    → IsWholeRow (all_pages pages) usable row
    → row_after pages usable row old ≡ Err fault → RunsOut fault old.1 (row_pages (all_pages pages) usable row)
unfolding row_after payload_in
row_fault pages usable row old fault size sized is read =
    elim (bound_err (payload_of pages usable row old.1)
    (λ read. cond (is_record read.0) (Ok (old.0 ++ record { rowid = rowid_of row; bytes = read.0 } ∷ [], read.1)) (Err BadRecord)) fault read) [
      | inl failed ↦ payload_fault pages usable row old.1 fault size is failed
      | inr found ↦
          let payload = payload_read pages usable row old.1 found.0.0 found.0.1 size sized found.1 in
          let test = (tells_records found.0.0).1 (subst IsRecord (sym payload.bytes) is.whole) in
          absurd (ok_err (sym (cond-true _ _ _ test) ∙ found.2))
    ]

leaf_fault : (pages : PageMap) (usable : ℕ) → 4 < usable → AreSized pages usable → (cells : List (List ℕ)) (old : Rows) (fault : Reason)
    → Each (IsWholeItem (all_pages pages) usable) (map (cell_item (unordered Table usable) true) cells)
    → each (row_after pages usable) (map (cell_body (reader.kind_of true) usable) cells) old ≡ Err fault
    → RunsOut fault old.1 (leaf_pages (all_pages pages) usable cells)
leaf_fault pages usable size sized [] old fault whole read = absurd (ok_err read)
leaf_fault pages usable size sized (cell ∷ cells) old fault whole read =
    let row = cell_body (reader.kind_of true) usable cell in
    let rows = map (cell_body (reader.kind_of true) usable) cells in
    elim (bound_err (row_after pages usable row old) (each (row_after pages usable) rows) fault read) [
      | inl failed ↦
          let out = row_fault pages usable row old fault size sized (whole.0 refl) failed in
          (out.0, out.1, omega (arith, out.2, next_cell (all_pages pages) usable cell cells))
      | inr first ↦
          let out = leaf_fault pages usable size sized cells first.0 fault whole.1 first.2 in
          (out.0, out.1, omega (arith, out.2, next_cell (all_pages pages) usable cell cells, (row_read pages usable row old first.0 size sized first.1).taken))
    ]

-- ---- the pages below an interior page

fan_fault : (pages : Part) (usable : ℕ) (IsSub : ℕ → Type 0) (count : ℕ → ℕ) (items : ℕ → List Item) (step : ℕ → Rows → Result Rows Reason)
    → ((n : ℕ) (old new : Rows) → step n old ≡ Ok new → old.1 ≡ new.1 + count n)
    → ((n : ℕ) (old : Rows) (fault : Reason) → IsSub n → Each (IsWholeItem pages usable) (items n) → step n old ≡ Err fault → RunsOut fault old.1 (count n))
    → (cells : List (List ℕ)) (last : ℕ) (old : Rows) (fault : Reason) → EachChild IsSub cells last
    → Each (IsWholeItem pages usable) (fan_items (unordered Table usable) items cells last)
    → each step (map cell_child cells ++ last ∷ []) old ≡ Err fault → RunsOut fault old.1 (fan_pages count cells last)
fan_fault pages usable IsSub count items step takes faults [] last old fault sub whole read =
    elim (bound_err (step last old) (each step []) fault read) [ inl failed ↦ faults last old fault sub whole failed | inr first ↦ absurd (ok_err first.2) ]
fan_fault pages usable IsSub count items step takes faults (cell ∷ cells) last old fault sub whole read =
    let more = cell_item (unordered Table usable) false cell ∷ fan_items (unordered Table usable) items cells last in
    let left = items (cell_child cell) in
    elim (bound_err (step (cell_child cell) old) (each step (map cell_child cells ++ last ∷ [])) fault read) [
      | inl failed ↦
          let out = faults (cell_child cell) old fault sub.0 (Each-left (IsWholeItem pages usable) left more whole) failed in
          (out.0, out.1, omega (arith, out.2))
      | inr first ↦
          let rest = Each-right (IsWholeItem pages usable) left more whole in
          let out = fan_fault pages usable IsSub count items step takes faults cells last first.0 fault sub.1 rest.1 first.2 in
          (out.0, out.1, omega (arith, out.2, takes (cell_child cell) old first.0 first.1))
    ]

-- ---- the tree

taken_fault : (n spare count : ℕ) (fault : Reason) → take_page n spare ≡ Err fault → RunsOut fault spare (suc count)
unfolding take_page
taken_fault n zero count fault read = (n, sym (err_same read), omega arith)
taken_fault n (suc spare) count fault read = absurd (ok_err read)

node_there : (pages : PageMap) (usable n : ℕ) (leaf : Bool) → IsNode (unordered Table usable) leaf (all_pages pages) n
    → reader.table_page pages n ≡ Ok (record { leaf = leaf; bytes = all_pages pages n })
node_there pages usable n leaf node =
    page_at pages n (all_pages pages n) leaf (live_page pages n usable (omega (arith, node.size, node.sound.usable.0)) node.size)
    (subst (IsPage (reader.kind_of leaf) (all_pages pages n)) (sym (same_header n)) node.sound)

-- what a page of that kind is refused for
page_fault : (pages : PageMap) (usable levels n : ℕ) (leaf : Bool) (old : Rows) (fault : Reason) → IsNode (unordered Table usable) leaf (all_pages pages) n
    → tree_after pages usable (suc levels) n old ≡ Err fault
    → ((count : ℕ) → RunsOut fault old.1 (suc count))
    ⊎ ((spare : ℕ) × (old.1 ≡ suc spare) × (rows_of_page pages usable levels n (old.0, spare) (record { leaf = leaf; bytes = all_pages pages n }) ≡ Err fault))
unfolding tree_after
page_fault pages usable levels n leaf old fault node read =
    let there = node_there pages usable n leaf node in
    elim (bound_err (take_page n old.1) (λ spare. reader.table_page pages n >>= rows_of_page pages usable levels n (old.0, spare)) fault read) [
      | inl failed ↦ inl (λ count. taken_fault n old.1 count fault failed)
      | inr taken ↦ inr (taken.0, taken_one n old.1 taken.0 taken.1, sym (ap (λ r. r >>= rows_of_page pages usable levels n (old.0, taken.0)) there) ∙ taken.2)
    ]

pub tree_fault : (pages : PageMap) (usable : ℕ) → AreSized pages usable → (levels n : ℕ) (old : Rows) (fault : Reason)
    → IsTreeWithin (unordered Table usable) (all_pages pages) levels n
    → Each (IsWholeItem (all_pages pages) usable) (items_within (unordered Table usable) (all_pages pages) levels n)
    → tree_after pages usable levels n old ≡ Err fault
    → RunsOut fault old.1 (pages_within (unordered Table usable) (all_pages pages) levels n)
tree_fault pages usable sized zero n old fault tree whole read = absurd tree
tree_fault pages usable sized (suc levels) n old fault (inl node) whole read =
    let all = all_pages pages in
    let cells = cells_of (unordered Table usable) true all n in
    let taken = pages_of_leaf usable levels n all node in
    elim (page_fault pages usable levels n true old fault node read) [
      | inl none ↦ let out = none (leaf_pages all usable cells) in (out.0, out.1, omega (arith, out.2, taken))
      | inr rest ↦
          let out = leaf_fault pages usable (omega (arith, node.size, node.sound.usable.0)) sized cells (old.0, rest.0) fault
          (subst (Each (IsWholeItem all usable)) (items_of_leaf usable levels n all node) whole)
          (ap (λ bodies. each (row_after pages usable) bodies (old.0, rest.0)) (sym (bodies_are usable n all (all n) refl node.size)) ∙ rest.2) in
          (out.0, out.1, omega (arith, out.2, rest.1, taken))
    ]
tree_fault pages usable sized (suc levels) n old fault (inr fan) whole read =
    let all = all_pages pages in
    let form = unordered Table usable in
    let cells = cells_of form false all n in
    let count = pages_within form all levels in
    let taken = pages_of_interior usable levels n all fan.0 in
    elim (page_fault pages usable levels n false old fault fan.0 read) [
      | inl none ↦ let out = none (fan_pages count cells (right_of all n)) in (out.0, out.1, omega (arith, out.2, taken))
      | inr rest ↦
          let out = fan_fault all usable (IsTreeWithin form all levels) count (items_within form all levels) (tree_after pages usable levels)
          (λ c before after read. (tree_read pages usable sized levels c before after read).1.taken)
          (tree_fault pages usable sized levels) cells (right_of all n) (old.0, rest.0) fault fan.1
          (subst (Each (IsWholeItem all usable)) (items_of_interior usable levels n all fan.0) whole)
          (ap (λ children. each (tree_after pages usable levels) children (old.0, rest.0)) (sym (children_are usable n all (all n) refl)) ∙ rest.2) in
          (out.0, out.1, omega (arith, out.2, rest.1, taken))
    ]
