-- Which steps of a checkout are of its copy, and what the work of a copy is about.
use Rattle.std.proofs.Common.{◌≡◌, Bool, true, false, ◌&&◌, ◌||◌, not, List, [], ◌∷◌, ◌++◌, refl, sym, ◌∙◌, ap, subst, true≢false, append_assoc}
use Rattle.std.specs.Prelude.{ℕ, ◌<◌, length, get_or, bytes_eq, codes, None, Result}
use Rattle.std.specs.List.{list_all, list_any}
use Rattle.std.proofs.lemmas.Bool.{and_parts}
use Rattle.std.proofs.lemmas.List.Folds.{list_all-append, list_any-append, list_all_at}
use Rattle.svn_types.specs.Names.{Path}
use Rattle.svn_types.specs.Paths.{is_within, path_eq}
use Rattle.svn_types.proofs.NameLemmas.{Name}
use Rattle.svn_types.proofs.PathLemmas.{path_eq-same}
use Rattle.svn_model.specs.declared.base_node.BaseNode.{BaseNode}
use Rattle.svn_model.specs.declared.base_node.BaseNode.TheVariants.{File as FileNode, Dir as DirNode, NotPresent}
use Rattle.svn_wcrows.specs.declared.work.Work.{Work}
use Rattle.svn_wcrows.specs.declared.work.Work.TheVariants.{MakeDirectory, InstallFile}
use Rattle.svn_folder.specs.declared.entry.Entry.TheVariants.{Directory}
use Rattle.svn_folder.specs.declared.step.Step.{Step}
use Rattle.svn_folder.specs.declared.step.Step.TheVariants.{Make, SyncFile, SyncDirectory, Rename, RenameDirectory, RemoveFile, RemoveDirectory}
use Rattle.svn_folder.specs.Pasts.{Past}
use Rattle.svn_folder.specs.Files.{is_sync}
use Rattle.svn_disk.specs.Goes.{Keeps, Stops, Goes}
use Rattle.svn_disk.specs.Places.{is_inside, is_placing, is_outside, is_node, is_reserved, is_naming, is_of_copy, temporary_place, IsTemporary}
use Rattle.svn_disk.specs.Plans.{entry_work, node_work, work_of, path_of}
use Rattle.svn_disk.proofs.Going.{keeps_wider, stops_wider, goes_wider, one_each}
use Rattle.svn_disk.proofs.Moving.{same_name}

-- ---- syncs are anywhere

pub sync_inside : (n : Name) (step : Step) → is_sync step ≡ true → is_inside n step ≡ true
sync_inside n (Make p e t) h = absurd (true≢false (sym h))
sync_inside n (SyncFile p) h = refl
sync_inside n (SyncDirectory p) h = refl
sync_inside n (Rename p q) h = absurd (true≢false (sym h))
sync_inside n (RenameDirectory k m) h = absurd (true≢false (sym h))
sync_inside n (RemoveFile p) h = absurd (true≢false (sym h))
sync_inside n (RemoveDirectory p) h = absurd (true≢false (sym h))

pub sync_placing : (n : Name) (free : Path → Bool) (step : Step) → is_sync step ≡ true → is_placing n free step ≡ true
sync_placing n free (Make p e t) h = absurd (true≢false (sym h))
sync_placing n free (SyncFile p) h = refl
sync_placing n free (SyncDirectory p) h = refl
sync_placing n free (Rename p q) h = absurd (true≢false (sym h))
sync_placing n free (RenameDirectory k m) h = absurd (true≢false (sym h))
sync_placing n free (RemoveFile p) h = absurd (true≢false (sym h))
sync_placing n free (RemoveDirectory p) h = absurd (true≢false (sym h))

pub syncs_inside : {T : Type 0} → {E : Type 0} → (n : Name) (old new : Past) (result : Result T E) → Goes is_sync old result new → Goes (is_inside n) old result new
syncs_inside n old new result goes = goes_wider is_sync (is_inside n) (sync_inside n) old new result goes

pub syncs_placing : {T : Type 0} → {E : Type 0} → (n : Name) (free : Path → Bool) (old new : Past) (result : Result T E) → Goes is_sync old result new
    → Goes (is_placing n free) old result new
syncs_placing n free old new result goes = goes_wider is_sync (is_placing n free) (sync_placing n free) old new result goes

-- ---- steps of the copy

module _ (copy : List (Path × BaseNode)) where
  first_of : (a b c d : Bool) → a ≡ true → (a || b || c || d) ≡ true
  first_of a b c d h = ap (λ x. x || b || c || d) h

  second_of : (a b c d : Bool) → b ≡ true → (a || b || c || d) ≡ true
  second_of true b c d h = refl
  second_of false b c d h = ap (λ x. x || c || d) h

  third_of : (a b c d : Bool) → c ≡ true → (a || b || c || d) ≡ true
  third_of true b c d h = refl
  third_of false true c d h = refl
  third_of false false c d h = ap (λ x. x || d) h

  last_of : (a b c d : Bool) → d ≡ true → (a || b || c || d) ≡ true
  last_of true b c d h = refl
  last_of false true c d h = refl
  last_of false false true d h = refl
  last_of false false false d h = h

  abbrev one : Step → Bool
  one step = is_inside (codes ".svn-new") step

  abbrev three : Step → Bool
  three step = is_inside (codes ".svn") step

  abbrev four : Step → Bool
  four step = is_placing (codes ".svn") (is_node copy) step

  -- in the folder in which a copy is made
  made_of : (n : Name) → n ≡ codes ".svn-new" → (step : Step) → is_inside n step ≡ true → is_of_copy copy step ≡ true
  made_of n is step h = first_of (one step) (is_naming step) (three step) (four step) (ap (λ (m : Name). is_inside m step) (sym is) ∙ h)

  -- in its own
  inside_of : (n : Name) → n ≡ codes ".svn" → (step : Step) → is_inside n step ≡ true → is_of_copy copy step ≡ true
  inside_of n is step h = third_of (one step) (is_naming step) (three step) (four step) (ap (λ (m : Name). is_inside m step) (sym is) ∙ h)

  -- at its nodes
  placing_of : (n : Name) → n ≡ codes ".svn" → (step : Step) → is_placing n (is_node copy) step ≡ true → is_of_copy copy step ≡ true
  placing_of n is step h =
      last_of (one step) (is_naming step) (three step) (four step) (ap (λ (m : Name). is_placing m (is_node copy) step) (sym is) ∙ h)

  module _ (n : Name) (old new : Past) where
    pub made_keeps : n ≡ codes ".svn-new" → Keeps (is_inside n) old new → Keeps (is_of_copy copy) old new
    made_keeps is keeps = keeps_wider (is_inside n) (is_of_copy copy) (made_of n is) old new keeps

    pub made_stops : n ≡ codes ".svn-new" → Stops (is_inside n) old new → Stops (is_of_copy copy) old new
    made_stops is stops = stops_wider (is_inside n) (is_of_copy copy) (made_of n is) old new stops

    pub inside_goes : {T : Type 0} → {E : Type 0} → n ≡ codes ".svn" → (result : Result T E) → Goes (is_inside n) old result new
        → Goes (is_of_copy copy) old result new
    inside_goes is result goes = goes_wider (is_inside n) (is_of_copy copy) (inside_of n is) old new result goes

    pub placing_keeps : n ≡ codes ".svn" → Keeps (is_placing n (is_node copy)) old new → Keeps (is_of_copy copy) old new
    placing_keeps is keeps = keeps_wider (is_placing n (is_node copy)) (is_of_copy copy) (placing_of n is) old new keeps

    pub placing_stops : n ≡ codes ".svn" → Stops (is_placing n (is_node copy)) old new → Stops (is_of_copy copy) old new
    placing_stops is stops = stops_wider (is_placing n (is_node copy)) (is_of_copy copy) (placing_of n is) old new stops

-- it gets its name
pub naming_of_copy : (copy : List (Path × BaseNode)) → list_all (is_of_copy copy) (RenameDirectory (codes ".svn-new") (codes ".svn") ∷ []) ≡ true
naming_of_copy copy = refl

-- ---- the nodes that work is about

pub node_outside : (copy : List (Path × BaseNode)) (p : Path) → is_node copy p ≡ true → is_outside p ≡ true
node_outside copy p h = (and_parts (is_outside p) (list_any (λ entry. path_eq entry.0 p) copy) h).0

or_parts : (a b : Bool) → (a || b) ≡ false → (a ≡ false) × (b ≡ false)
or_parts true b h = absurd (true≢false h)
or_parts false b h = (refl, h)

or_last : (a b : Bool) → b ≡ true → (a || b) ≡ true
or_last true b h = refl
or_last false b h = h

-- an entry is in the list that it is in
is_among : (front rest : List (Path × BaseNode)) (p : Path) (node : BaseNode) → list_any (λ entry. path_eq entry.0 p) (front ++ (p, node) ∷ rest) ≡ true
is_among front rest p node =
    list_any-append (λ entry. path_eq entry.0 p) front ((p, node) ∷ rest)
    ∙ or_last (list_any (λ entry. path_eq entry.0 p) front) (list_any (λ entry. path_eq entry.0 p) ((p, node) ∷ rest))
    (ap (λ b. b || list_any (λ entry. path_eq entry.0 p) rest) (path_eq-same p))

module _ (all : List (Path × BaseNode)) where
  abbrev is_free : Work → Bool
  is_free item = is_node all (path_of item)

  node_free : (p : Path) (node : BaseNode) → is_node all p ≡ true → list_all is_free (node_work p node) ≡ true
  node_free p (FileNode r q t ps) h = ap (λ b. b && true) h
  node_free p (DirNode r q c ps) h = ap (λ b. b && true) h
  node_free p NotPresent h = refl

  entry_free : (p : Path) (node : BaseNode) → is_reserved p ≡ false → list_any (λ entry. path_eq entry.0 p) all ≡ true
      → list_all is_free (entry_work (p, node)) ≡ true
  entry_free [] node h among = refl
  entry_free (n ∷ p) node h among =
      node_free (n ∷ p) node (ap (λ b. not b && list_any (λ entry. path_eq entry.0 (n ∷ p)) all) (or_parts (bytes_eq n (codes ".svn")) (is_reserved p) h).0 ∙ among)

each_free : (front rest : List (Path × BaseNode)) → list_any (λ entry. is_reserved entry.0) rest ≡ false
    → list_all (is_free (front ++ rest)) (work_of rest) ≡ true
each_free front [] h = refl
each_free front ((p, node) ∷ rest) h =
    let parts = or_parts (is_reserved p) (list_any (λ entry. is_reserved entry.0) rest) h in
    let all = front ++ (p, node) ∷ rest in
    let first : list_all (is_free all) (entry_work (p, node)) ≡ true = entry_free all p node parts.0 (is_among front rest p node) in
    let more : list_all (is_free all) (work_of rest) ≡ true =
    subst (λ (xs : List (Path × BaseNode)). list_all (is_free xs) (work_of rest) ≡ true) (append_assoc front ((p, node) ∷ []) rest)
    (each_free (front ++ (p, node) ∷ []) rest parts.1) in
    list_all-append (is_free all) (entry_work (p, node)) (work_of rest) ∙ ap (λ b. b && list_all (is_free all) (work_of rest)) first ∙ more

pub work_free : (copy : List (Path × BaseNode)) → list_any (λ entry. is_reserved entry.0) copy ≡ false
    → list_all (λ item. is_node copy (path_of item)) (work_of copy) ≡ true
work_free copy h = each_free [] copy h

-- ---- what has no name yet

pub temporary_within : (n : Name) (p : Path) → IsTemporary n p → is_within (temporary_place n) p ≡ true
temporary_within n p (name, is) = ap (is_within (temporary_place n)) is ∙ ap (λ b. b && true) (same_name n)

pub makes_free : (n : Name) (free : Path → Bool) (p : Path) → free p ≡ true → list_all (is_placing n free) (Make p Directory None ∷ []) ≡ true
makes_free n free p h = one_each (is_placing n free) (Make p Directory None) h

pub renames_free : (n : Name) (free : Path → Bool) (p q : Path) → IsTemporary n p → free q ≡ true → list_all (is_placing n free) (Rename p q ∷ []) ≡ true
renames_free n free p q temporary h = one_each (is_placing n free) (Rename p q) (ap (λ b. b && free q) (temporary_within n p temporary) ∙ h)

-- ---- items of a list

pub all_item : {X : Type 0} (P : X → Bool) (xs : List X) (i : ℕ) (d x : X) → i < length xs → x ≡ get_or xs i d → list_all P xs ≡ true → P x ≡ true
all_item P xs i d x below is all = by (P x) refl
  where
    by : (b : Bool) → P x ≡ b → b ≡ true
    by true e = refl
    by false e = absurd (true≢false (sym all ∙ list_all_at P xs i d below (ap P (sym is) ∙ e)))
