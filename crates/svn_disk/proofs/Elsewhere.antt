-- The steps of a checkout are apart from each path that isn't in its folders, nor that of a node or below one, and so are those of a change.
use Rattle.std.proofs.Common.{◌≡◌, Bool, true, false, ◌&&◌, ◌||◌, not, List, [], ◌∷◌, refl, sym, ◌∙◌, ap, true≢false}
use Rattle.std.specs.Prelude.{bytes_eq, codes}
use Rattle.std.specs.List.{list_all}
use Rattle.std.proofs.lemmas.Bool.{and_parts}
use Rattle.svn_types.specs.Names.{Path}
use Rattle.svn_types.specs.Paths.{is_within}
use Rattle.svn_types.proofs.NameLemmas.{Name}
use Rattle.svn_types.proofs.PathLemmas.{is_within-chain, same_path}
use Rattle.svn_model.specs.declared.base_node.BaseNode.{BaseNode}
use Rattle.svn_folder.specs.declared.step.Step.{Step}
use Rattle.svn_folder.specs.declared.step.Step.TheVariants.{Make, SyncFile, SyncDirectory, Rename, RenameDirectory, RemoveFile, RemoveDirectory}
use Rattle.svn_folder.specs.Entries.{is_leaf}
use Rattle.svn_folder.specs.Laws.{is_apart, AreApart}
use Rattle.svn_folder.proofs.Apart.{run_apart}
use Rattle.svn_disk.specs.Places.{is_inside, is_placing, is_naming, is_node, is_of_copy, is_changing, is_either, is_of_change, temporary_place}
use Rattle.svn_disk.specs.Laws.{a_checkout_changes_nothing_else, a_change_changes_nothing_else}
use Rattle.svn_disk.proofs.Beside.{each_off}

-- what is within a path is off another that isn't
off : (n q p : Path) → is_within n q ≡ true → is_within n p ≡ false → not (is_within q p) ≡ true
off n q p inside other = by (is_within q p) refl
  where
    by : (b : Bool) → is_within q p ≡ b → not b ≡ true
    by false e = refl
    by true e = absurd (true≢false (sym (is_within-chain n q p inside e) ∙ other))

off_both : (q r p : Path) → not (is_within q p) ≡ true → not (is_within r p) ≡ true → (not (is_within q p) && not (is_within r p)) ≡ true
off_both q r p h k = ap (λ b. b && not (is_within r p)) h ∙ k

one_of : (P : Type 0) (a b c d : Bool) → (a ≡ true → P) → (b ≡ true → P) → (c ≡ true → P) → (d ≡ true → P) → (a || b || c || d) ≡ true → P
one_of P true b c d f g h k e = f refl
one_of P false true c d f g h k e = g refl
one_of P false false true d f g h k e = h refl
one_of P false false false d f g h k e = k e

inside_apart : (n : Name) (p : Path) → is_within (n ∷ []) p ≡ false → (step : Step) → is_inside n step ≡ true → is_apart step p ≡ true
inside_apart n p other (Make q e t) h = off (n ∷ []) q p h other
inside_apart n p other (SyncFile q) h = refl
inside_apart n p other (SyncDirectory q) h = refl
inside_apart n p other (Rename q r) h =
    let parts = and_parts (is_within (n ∷ []) q) (is_within (n ∷ []) r) h in
    off_both q r p (off (n ∷ []) q p parts.0 other) (off (n ∷ []) r p parts.1 other)
inside_apart n p other (RenameDirectory k m) h = absurd (true≢false (sym h))
inside_apart n p other (RemoveFile q) h = off (n ∷ []) q p h other
inside_apart n p other (RemoveDirectory q) h = off (n ∷ []) q p h other

module _ (copy : List (Path × BaseNode)) (p : Path) (new : is_within (codes ".svn-new" ∷ []) p ≡ false) (svn : is_within (codes ".svn" ∷ []) p ≡ false)
    (nodes : (q : Path) → is_node copy q ≡ true → is_within q p ≡ false) where
  node_off : (q : Path) → is_node copy q ≡ true → not (is_within q p) ≡ true
  node_off q h = ap not (nodes q h)

  -- what has no name yet is in the folder
  temporary_off : (q : Path) → is_within (temporary_place (codes ".svn")) q ≡ true → not (is_within q p) ≡ true
  temporary_off q h = off (codes ".svn" ∷ []) q p (is_within-chain (codes ".svn" ∷ []) (temporary_place (codes ".svn")) q refl h) svn

  placing_apart : (step : Step) → is_placing (codes ".svn") (is_node copy) step ≡ true → is_apart step p ≡ true
  placing_apart (Make q e t) h = node_off q h
  placing_apart (SyncFile q) h = refl
  placing_apart (SyncDirectory q) h = refl
  placing_apart (Rename q r) h =
      let parts = and_parts (is_within (temporary_place (codes ".svn")) q) (is_node copy r) h in
      off_both q r p (temporary_off q parts.0) (node_off r parts.1)
  placing_apart (RenameDirectory k m) h = absurd (true≢false (sym h))
  placing_apart (RemoveFile q) h = absurd (true≢false (sym h))
  placing_apart (RemoveDirectory q) h = absurd (true≢false (sym h))

  -- a name that is this one isn't at the path
  name_off : (k n : Name) → bytes_eq k n ≡ true → is_within (n ∷ []) p ≡ false → not (is_within (k ∷ []) p) ≡ true
  name_off k n same other =
      ap (λ (x : Path). not (is_within x p)) (same_path (k ∷ []) (n ∷ []) (ap (λ b. b && true) same)) ∙ ap not other

  naming_apart : (step : Step) → is_naming step ≡ true → is_apart step p ≡ true
  naming_apart (Make q e t) h = absurd (true≢false (sym h))
  naming_apart (SyncFile q) h = refl
  naming_apart (SyncDirectory q) h = refl
  naming_apart (Rename q r) h = absurd (true≢false (sym h))
  naming_apart (RenameDirectory k m) h =
      let parts = and_parts (bytes_eq k (codes ".svn-new")) (bytes_eq m (codes ".svn")) h in
      off_both (k ∷ []) (m ∷ []) p (name_off k (codes ".svn-new") parts.0 new) (name_off m (codes ".svn") parts.1 svn)
  naming_apart (RemoveFile q) h = absurd (true≢false (sym h))
  naming_apart (RemoveDirectory q) h = absurd (true≢false (sym h))

  step_apart : (step : Step) → is_of_copy copy step ≡ true → is_apart step p ≡ true
  step_apart step h =
      one_of (is_apart step p ≡ true) (is_inside (codes ".svn-new") step) (is_naming step) (is_inside (codes ".svn") step)
      (is_placing (codes ".svn") (is_node copy) step) (inside_apart (codes ".svn-new") p new step) (naming_apart step) (inside_apart (codes ".svn") p svn step)
      (placing_apart step) h

  each_apart : (steps : List Step) → list_all (is_of_copy copy) steps ≡ true → AreApart steps p
  each_apart [] h = tt
  each_apart (step ∷ steps) h =
      let parts = and_parts (is_of_copy copy step) (list_all (is_of_copy copy) steps) h in (step_apart step parts.0, each_apart steps parts.1)

pub nothing_else : a_checkout_changes_nothing_else
nothing_else copy s steps p new svn nodes all = run_apart s steps p (each_apart copy p new svn nodes steps all)

-- ---- of a change

module _ (old new : List (Path × BaseNode)) (p : Path) (svn : is_within (codes ".svn" ∷ []) p ≡ false)
    (nodes : (q : Path) → is_either old new q ≡ true → is_within q p ≡ false) where
  either_off : (q : Path) → is_either old new q ≡ true → not (is_within q p) ≡ true
  either_off q h = ap not (nodes q h)

  changing_apart : (step : Step) → is_changing (codes ".svn") (is_either old new) step ≡ true → is_apart step p ≡ true
  changing_apart (Make q e t) h = either_off q (and_parts (not (is_leaf e)) (is_either old new q) h).1
  changing_apart (SyncFile q) h = refl
  changing_apart (SyncDirectory q) h = refl
  changing_apart (Rename q r) h =
      let parts = and_parts (is_within (temporary_place (codes ".svn")) q) (is_either old new r) h in
      off_both q r p
      (off (codes ".svn" ∷ []) q p (is_within-chain (codes ".svn" ∷ []) (temporary_place (codes ".svn")) q refl parts.0) svn) (either_off r parts.1)
  changing_apart (RenameDirectory k m) h = absurd (true≢false (sym h))
  changing_apart (RemoveFile q) h = either_off q h
  changing_apart (RemoveDirectory q) h = either_off q h

  change_apart : (step : Step) → is_of_change old new step ≡ true → is_apart step p ≡ true
  change_apart step h = by (is_inside (codes ".svn") step) refl
    where
      by : (b : Bool) → is_inside (codes ".svn") step ≡ b → is_apart step p ≡ true
      by true e = inside_apart (codes ".svn") p svn step e
      by false e = changing_apart step (sym (ap (λ b. b || is_changing (codes ".svn") (is_either old new) step) e) ∙ h)

pub nothing_else_changed : a_change_changes_nothing_else
nothing_else_changed old new s steps p svn nodes all = run_apart s steps p (each_off (is_of_change old new) p (change_apart old new p svn nodes) steps all)
