-- The changes of a list are in place, and the list has each change: what is at a path then.
use Rattle.std.proofs.Common.{◌≡◌, ◌≢◌, Bool, true, false, ◌&&◌, ◌||◌, not, ℕ, zero, suc, ◌<◌, map, List, [], ◌∷◌, length, get_or, refl, sym, ◌∙◌, ap, subst, arith, true≢false}
use Rattle.std.specs.Prelude.{Option, Some, None}
use Rattle.std.specs.declared.cmp.Ordering.TheVariants.{Less}
use Rattle.std.specs.List.{list_any, AllByRecursion}
use Rattle.std.specs.List.Sorted.{IsStrictlySortedBy}
use Rattle.std.proofs.lemmas.Slice.Eq.{bytes_eq-Decides}
use Rattle.svn_types.specs.Names.{Path, path_cmp}
use Rattle.svn_types.specs.Paths.{path_eq}
use Rattle.svn_types.proofs.PathLemmas.{path_eq-symm}
use Rattle.svn_types.proofs.PathsInOrder.{before_apart}
use Rattle.svn_model.specs.declared.base_node.BaseNode.{BaseNode}
use Rattle.svn_model.specs.declared.base_node.BaseNode.TheVariants.{File as FileNode, Dir as DirNode, NotPresent}
use Rattle.svn_model.specs.Nodes.{get_in, is_present, is_dir, is_file}
use Rattle.svn_folder.specs.States.{Seen}
use Rattle.svn_folder.specs.Entries.{has_leaf}
use Rattle.svn_disk.specs.declared.plan.PathChange.{PathChange}
use Rattle.svn_disk.specs.Changes.{comes, has_to_come, has_to_go, HasEachChange, comes_to, IsChanged, EachChanged, AreChanged}
use Rattle.svn_disk.specs.Ends.{IsAtPlace}
use Rattle.svn_disk.specs.Laws.{what_changes_is_in_place}

-- ---- nodes that differ

none_comes : (node : BaseNode) → has_to_come (Some node) (Some node) ≡ false
none_comes (FileNode r q t ps) = ap not ((bytes_eq-Decides t t).1 refl)
none_comes (DirNode r q c ps) = refl
none_comes NotPresent = refl

comes_differs : (old new : Option BaseNode) (node : BaseNode) → new ≡ Some node → has_to_come old (Some node) ≡ true → old ≢ new
comes_differs old new node is come same =
    true≢false (sym come ∙ ap (λ (o : Option BaseNode). has_to_come o (Some node)) (same ∙ is) ∙ none_comes node)

-- a file that has nothing in its place
record GoesFrom (old new : Option BaseNode) : Type 0 where
  differs : old ≢ new
  goes : has_to_go old new ≡ true
  file : is_dir old ≡ false

goes_from : (old new : Option BaseNode) → is_file old ≡ true → is_present new ≡ false → GoesFrom old new
goes_from (Some (FileNode r q t ps)) None file none = record { differs = λ (same : Some (FileNode r q t ps) ≡ None). cc; goes = refl; file = refl }
goes_from (Some (FileNode r q t ps)) (Some NotPresent) file none =
    record { differs = λ (same : Some (FileNode r q t ps) ≡ Some NotPresent). cc; goes = refl; file = refl }
goes_from (Some (FileNode r q t ps)) (Some (FileNode r2 q2 t2 ps2)) file none = absurd (true≢false none)
goes_from (Some (FileNode r q t ps)) (Some (DirNode r2 q2 c2 ps2)) file none = absurd (true≢false none)
goes_from (Some (DirNode r q c ps)) new file none = absurd (true≢false (sym file))
goes_from (Some NotPresent) new file none = absurd (true≢false (sym file))
goes_from None new file none = absurd (true≢false (sym file))

-- ---- one of a list

changed_in : (old new : List (Path × BaseNode)) (all changes : List PathChange) (left : Seen) (k : ℕ) (change : PathChange) → EachChanged old new all changes left
    → k < length changes → get_or changes k change ≡ change → IsChanged old new all change left
changed_in old new all [] left k change each below is = absurd (omega arith)
changed_in old new all (x ∷ xs) left zero change each below is = subst (λ (y : PathChange). IsChanged old new all y left) is each.0
changed_in old new all (x ∷ xs) left (suc k) change each below is = changed_in old new all xs left k change each.1 (omega arith) is

-- nothing comes to a path before the first change
none_after : (p : Path) (x : PathChange) (xs : List PathChange) → x.path ≡ p
    → AllByRecursion (λ (q : Path). path_cmp x.path q ≡ Less) (map (λ (change : PathChange). change.path) xs) → list_any (comes_to p) xs ≡ false
none_after p x [] at later = refl
none_after p x (y ∷ ys) at later =
    let apart : path_eq y.path p ≡ false = path_eq-symm y.path p ∙ ap (λ (q : Path). path_eq q y.path) (sym at) ∙ before_apart x.path y.path later.0 in
    none_too (comes y.change) (path_eq y.path p) (list_any (comes_to p) ys) apart (none_after p x ys at later.1)
  where
    none_too : (b e r : Bool) → e ≡ false → r ≡ false → ((b && e) || r) ≡ false
    none_too true e r a h = ap (λ c. c || r) a ∙ h
    none_too false e r a h = h

before_one : (x change : PathChange) (xs : List PathChange) (k : ℕ) → k < length xs → get_or xs k change ≡ change
    → AllByRecursion (λ (q : Path). path_cmp x.path q ≡ Less) (map (λ (y : PathChange). y.path) xs) → path_cmp x.path change.path ≡ Less
before_one x change [] k below is later = absurd (omega arith)
before_one x change (y ∷ ys) zero below is later = ap (λ (z : PathChange). path_cmp x.path z.path) (sym is) ∙ later.0
before_one x change (y ∷ ys) (suc k) below is later = before_one x change ys k (omega arith) is later.1

-- each path is there once
none_comes_to : (p : Path) (change : PathChange) (changes : List PathChange) (k : ℕ) → k < length changes → get_or changes k change ≡ change → change.path ≡ p
    → comes change.change ≡ false → IsStrictlySortedBy path_cmp (map (λ (y : PathChange). y.path) changes) → list_any (comes_to p) changes ≡ false
unfolding IsStrictlySortedBy
none_comes_to p change [] k below is at none order = refl
none_comes_to p change (x ∷ xs) zero below is at none order =
    ap (λ (b : Bool). (b && path_eq x.path p) || list_any (comes_to p) xs) (ap (λ (y : PathChange). comes y.change) is ∙ none)
    ∙ none_after p x xs (ap (λ (y : PathChange). y.path) is ∙ at) order.0
none_comes_to p change (x ∷ xs) (suc k) below is at none order =
    let apart : path_eq x.path p ≡ false = ap (path_eq x.path) (sym at) ∙ before_apart x.path change.path (before_one x change xs k (omega arith) is order.0) in
    none_too (comes x.change) (path_eq x.path p) (list_any (comes_to p) xs) apart (none_comes_to p change xs k (omega arith) is at none order.1)
  where
    none_too : (b e r : Bool) → e ≡ false → r ≡ false → ((b && e) || r) ≡ false
    none_too true e r a h = ap (λ c. c || r) a ∙ h
    none_too false e r a h = h

-- ---- what is at a path

module _ (old new : List (Path × BaseNode)) (changes : List PathChange) (left : Seen) (p : Path) (each : HasEachChange old new changes)
    (are : AreChanged old new changes left) where
  come_there : (node : BaseNode) → get_in new p ≡ Some node → has_to_come (get_in old p) (Some node) ≡ true → IsAtPlace node (left p)
  come_there node is come =
      let has = each.each p (comes_differs (get_in old p) (get_in new p) node is come) in
      let changed = changed_in old new changes changes left has.listed.0 has.change are has.listed.1 has.listed.2 in
      subst (λ (q : Path). IsAtPlace node (left q)) has.at
      (changed.there (has.is.made (ap (has_to_come (get_in old p)) is ∙ come)) node (ap (get_in new) has.at ∙ is))

  gone_there : is_file (get_in old p) ≡ true → is_present (get_in new p) ≡ false → has_leaf (left p) ≡ false
  gone_there file none =
      let from = goes_from (get_in old p) (get_in new p) file none in
      let has = each.each p from.differs in
      let changed = changed_in old new changes changes left has.listed.0 has.change are has.listed.1 has.listed.2 in
      let comes_none : comes has.change.change ≡ false = none_there (comes has.change.change) has.is.there in
      let free : list_any (comes_to has.change.path) changes ≡ false =
      none_comes_to has.change.path has.change changes has.listed.0 has.listed.1 has.listed.2 refl comes_none each.order in
      subst (λ (q : Path). has_leaf (left q) ≡ false) has.at
      (changed.gone (has.is.removed ∙ from.goes) (ap (λ (q : Path). is_dir (get_in old q)) has.at ∙ from.file) free)
    where
      none_there : (b : Bool) → (b ≡ true → is_present (get_in new p) ≡ true) → b ≡ false
      none_there true there = absurd (true≢false (sym (there refl) ∙ none))
      none_there false there = refl

pub in_place : what_changes_is_in_place
in_place old new changes left p each are =
    (come_there old new changes left p each are, gone_there old new changes left p each are)
