-- What the actions of a path leave as it is: its place in the target, a directory, a present node.
use Rattle.std.proofs.Common.{◌≡◌, Bool, true, false, List, [], ◌∷◌, ◌++◌, refl, sym, ◌∙◌, subst, true≢false}
use Rattle.std.specs.Prelude.{Option, Some, None, is_some}
use Rattle.svn_lists.proofs.Every.{all_map}
use Rattle.svn_types.specs.Names.{Path}
use Rattle.svn_types.specs.declared.kind.Kind.{Kind}
use Rattle.svn_types.specs.declared.kind.Kind.TheVariants.{File, Directory}
use Rattle.svn_editor.specs.Steps.{Action, Delete, Open, Add, Change, Text, Close}
use Rattle.svn_model.specs.Follow.{DriveInput, is_kept, target_path}
use Rattle.svn_model.specs.declared.base_node.BaseNode.{BaseNode}
use Rattle.svn_model.specs.declared.base_node.BaseNode.TheVariants.{File as FileNode, Dir as DirNode, NotPresent}
use Rattle.svn_model.specs.Nodes.{is_present, is_dir, node_path}
use Rattle.svn_model.specs.Effects.{added_node}
use Rattle.law_copy.proofs.OneNode.{dir_present}
use Rattle.law_drive.proofs.Courses.{inner_of, AllOf, Course, nothing, gone_only, touched, added, replaced}
use Rattle.law_update.proofs.States.{acted, acted-append, act}

-- ---- the place in the target

-- a present node is at that repository path
abbrev pub PathIs : Path → Option BaseNode → Type 0
PathIs q found = is_present found ≡ true → node_path found ≡ q

-- each action leaves it at the path's place, or puts it there
act_path : (d : DriveInput) (p : Path) (before : List Action) (a : Action) (found : Option BaseNode) → PathIs (target_path d p) found
    → PathIs (target_path d p) (act d p before a found)
act_path d p before (Delete r) found h = λ k. absurd (true≢false (sym k))
act_path d p before (Open Directory r) (Some (DirNode v q c ps)) h = λ k. refl
act_path d p before (Open n r) found h = h
act_path d p before (Add File) found h = λ k. absurd (true≢false (sym k))
act_path d p before (Add Directory) found h = λ k. refl
act_path d p before (Change k c) found h = h
act_path d p before (Text s t) found h = h
act_path d p before (Close Directory s) (Some (DirNode v q c ps)) h = λ k. h refl
act_path d p before (Close File s) (Some NotPresent) h = λ k. refl
act_path d p before (Close File s) (Some (FileNode v q t ps)) h = λ k. refl
act_path d p before (Close n s) found h = h

pub acted_path : (d : DriveInput) (p : Path) (before acts : List Action) (found : Option BaseNode) → PathIs (target_path d p) found
    → PathIs (target_path d p) (acted d p before found acts)
acted_path d p before [] found h = h
acted_path d p before (a ∷ acts) found h = acted_path d p (before ++ a ∷ []) acts (act d p before a found) (act_path d p before a found h)

-- after an add a present node is at the target's path, whatever was there
pub added_path : (d : DriveInput) (p : Path) (before inner : List Action) (k : Kind) (found : Option BaseNode)
    → PathIs (target_path d p) (acted d p [] found (before ++ Add k ∷ inner))
added_path d p before inner k found =
    subst (PathIs (target_path d p)) (sym (acted-append d p [] before (Add k ∷ inner) found))
    (acted_path d p (before ++ Add k ∷ []) inner (Some (added_node k d.target (target_path d p))) (fresh k))
  where
    fresh : (k : Kind) → PathIs (target_path d p) (Some (added_node k d.target (target_path d p)))
    fresh File e = absurd (true≢false (sym e))
    fresh Directory e = refl

-- ---- nodes

pub present_some : (found : Option BaseNode) → is_present found ≡ true → is_some found ≡ true
present_some None k = absurd (true≢false (sym k))
present_some (Some found) k = refl

-- all but a delete and an add
abbrev pub leaves : Action → Bool
leaves (Delete r) = false
leaves (Add k) = false
leaves _ = true

pub inner_leaves : (k : Kind) (acts : List Action) → AllOf (inner_of k) acts → AllOf leaves acts
inner_leaves k = all_map (λ a. inner_of k a ≡ true) (λ a. leaves a ≡ true) each
  where
    each : (a : Action) → inner_of k a ≡ true → leaves a ≡ true
    each (Delete r) e = e
    each (Add l) e = e
    each a e = refl

-- the actions of a kept path are such
pub kept_leaves : (d : DriveInput) (p : Path) (l : List Action) → Course d p l → is_kept d p ≡ true → AllOf leaves l
kept_leaves d p l nothing k = tt
kept_leaves d p l (gone_only r f) k = absurd (true≢false (sym k ∙ f))
kept_leaves d p l (touched n r {inner} z f b) k = (refl, inner_leaves n inner b.of_kind)
kept_leaves d p l (added n z f b) k = absurd (true≢false (sym k ∙ f))
kept_leaves d p l (replaced r n z f b) k = absurd (true≢false (sym k ∙ f))

module _ (d : DriveInput) (p : Path) where
  -- what each of them keeps all of them keep
  all_keep : (P : Option BaseNode → Type 0)
      → ((before : List Action) (a : Action) (found : Option BaseNode) → leaves a ≡ true → P found → P (act d p before a found))
      → (before acts : List Action) (found : Option BaseNode) → AllOf leaves acts → P found → P (acted d p before found acts)
  all_keep P each before [] found l k = k
  all_keep P each before (a ∷ acts) found l k =
      all_keep P each (before ++ a ∷ []) acts (act d p before a found) l.1 (each before a found l.0 k)

  -- each leaves a directory one, a present node present, and some entry some entry
  dir_kept : (before : List Action) (a : Action) (found : Option BaseNode) → leaves a ≡ true → is_dir found ≡ true
      → is_dir (act d p before a found) ≡ true
  dir_kept before (Delete r) found l k = absurd (true≢false (sym l))
  dir_kept before (Add n) found l k = absurd (true≢false (sym l))
  dir_kept before (Open Directory r) (Some (DirNode v q c ps)) l k = refl
  dir_kept before (Open Directory r) found l k = absurd (true≢false (sym k))
  dir_kept before (Open File r) found l k = k
  dir_kept before (Change n x) found l k = k
  dir_kept before (Text s t) found l k = k
  dir_kept before (Close n s) (Some (DirNode v q c ps)) l k = closes n
    where
      closes : (n : Kind) → is_dir (act d p before (Close n s) (Some (DirNode v q c ps))) ≡ true
      closes File = refl
      closes Directory = refl
  dir_kept before (Close n s) found l k = absurd (true≢false (sym k))

  present_kept : (before : List Action) (a : Action) (found : Option BaseNode) → leaves a ≡ true → is_present found ≡ true
      → is_present (act d p before a found) ≡ true
  present_kept before a (Some (DirNode v q c ps)) l k =
      dir_present (act d p before a (Some (DirNode v q c ps))) (dir_kept before a (Some (DirNode v q c ps)) l refl)
  present_kept before (Delete r) (Some (FileNode v q t ps)) l k = absurd (true≢false (sym l))
  present_kept before (Add n) (Some (FileNode v q t ps)) l k = absurd (true≢false (sym l))
  present_kept before (Open File r) (Some (FileNode v q t ps)) l k = refl
  present_kept before (Open Directory r) (Some (FileNode v q t ps)) l k = refl
  present_kept before (Change n x) (Some (FileNode v q t ps)) l k = refl
  present_kept before (Text s x) (Some (FileNode v q t ps)) l k = refl
  present_kept before (Close File s) (Some (FileNode v q t ps)) l k = refl
  present_kept before (Close Directory s) (Some (FileNode v q t ps)) l k = refl
  present_kept before a found l k = absurd (true≢false (sym k))

  some_kept : (before : List Action) (a : Action) (found : Option BaseNode) → leaves a ≡ true → is_some found ≡ true
      → is_some (act d p before a found) ≡ true
  some_kept before a (Some (DirNode v q c ps)) l k =
      present_some (act d p before a (Some (DirNode v q c ps))) (present_kept before a (Some (DirNode v q c ps)) l refl)
  some_kept before a (Some (FileNode v q t ps)) l k =
      present_some (act d p before a (Some (FileNode v q t ps))) (present_kept before a (Some (FileNode v q t ps)) l refl)
  some_kept before (Delete r) (Some NotPresent) l k = absurd (true≢false (sym l))
  some_kept before (Add n) (Some NotPresent) l k = refl
  some_kept before (Open File r) (Some NotPresent) l k = refl
  some_kept before (Open Directory r) (Some NotPresent) l k = refl
  some_kept before (Change n x) (Some NotPresent) l k = refl
  some_kept before (Text s x) (Some NotPresent) l k = refl
  some_kept before (Close File s) (Some NotPresent) l k = refl
  some_kept before (Close Directory s) (Some NotPresent) l k = refl
  some_kept before a None l k = absurd (true≢false (sym k))

  pub keep_dir : (before acts : List Action) (found : Option BaseNode) → AllOf leaves acts → is_dir found ≡ true
      → is_dir (acted d p before found acts) ≡ true
  keep_dir = all_keep (λ o. is_dir o ≡ true) dir_kept

  pub keep_present : (before acts : List Action) (found : Option BaseNode) → AllOf leaves acts → is_present found ≡ true
      → is_present (acted d p before found acts) ≡ true
  keep_present = all_keep (λ o. is_present o ≡ true) present_kept

  pub keep_some : (before acts : List Action) (found : Option BaseNode) → AllOf leaves acts → is_some found ≡ true
      → is_some (acted d p before found acts) ≡ true
  keep_some = all_keep (λ o. is_some o ≡ true) some_kept
