-- Marks that are enough after each step, as a program keeps them.
use Rattle.std.proofs.Common.{◌≡◌, ℕ, Bool, true, false, ◌&&◌, ◌||◌, ◌⊎◌, inl, inr, not, List, [], ◌∷◌, length, refl, sym, ◌∙◌, ap, subst, true≢false, arith}
use Rattle.std.specs.Prelude.{Option, cond, Result, Ok, Err, IfOk, OnOk}
use Rattle.std.proofs.lemmas.Bool.{and_parts}
use Rattle.std.specs.BTreeSet.{BTreeSet, contains}
use Rattle.std.specs.BTreeMap.{is_at}
use Rattle.svn_types.specs.Names.{Path, path_cmp}
use Rattle.svn_types.specs.Paths.{path_eq, parent}
use Rattle.svn_types.proofs.NameLemmas.{Name}
use Rattle.svn_types.proofs.PathLemmas.{path_eq-same}
use Rattle.svn_types.proofs.PathsInOrder.{at_path}
use Rattle.svn_folder.specs.declared.entry.Entry.{Entry}
use Rattle.svn_folder.specs.declared.entry.Mode.{Mode}
use Rattle.svn_folder.specs.declared.entry.Entry.TheVariants.{File, Directory, Link}
use Rattle.svn_folder.specs.declared.step.Step.{Step}
use Rattle.svn_folder.specs.declared.step.Step.TheVariants.{Make, SyncFile, SyncDirectory, Rename, RenameDirectory, RemoveFile, RemoveDirectory}
use Rattle.svn_folder.specs.declared.unsynced.Done.TheVariants.{Bytes, Names, Unknown}
use Rattle.svn_folder.specs.Entries.{is_file, is_leaf, has_directory}
use Rattle.svn_folder.specs.States.{State, seen, nothing}
use Rattle.svn_folder.specs.Steps.{put, fits, after, is_none_older}
use Rattle.svn_folder.specs.Syncing.{Marks, no_marks, IsSyncedBut, AreWithin, AreEnough, AreEnoughFor}
use Rattle.svn_folder.specs.Marking.{without, without_files}
use Rattle.svn_folder.proofs.Marked.{or_right, or_false, off_parent, leaf_apart, within_marks, make_enough, remove_file_enough, remove_directory_enough, rename_enough, sync_file_enough, root_named}
use Rattle.svn_folder.proofs.Named.{sync_kept, sync_counted, counts_unmarked, move_marked, move_synced}

-- ---- sets of paths

pub put_in : (old new : BTreeSet Path) (p r q : Path) → r ≡ p → contains path_cmp new q ≡ cond (is_at (path_cmp r) q) true (contains path_cmp old q)
    → contains path_cmp new q ≡ (path_eq p q || contains path_cmp old q)
put_in old new p r q same h =
    h ∙ ap (λ b. cond b true (contains path_cmp old q)) (ap (λ (x : Path). is_at (path_cmp x) q) same ∙ at_path p q) ∙ by (path_eq p q)
  where
    by : (b : Bool) → cond b true (contains path_cmp old q) ≡ (b || contains path_cmp old q)
    by true = refl
    by false = refl

pub taken_out : (old new : BTreeSet Path) (p q : Path)
    → contains path_cmp new q ≡ cond (is_at (path_cmp p) q) false (contains path_cmp old q)
    → contains path_cmp new q ≡ (not (path_eq p q) && contains path_cmp old q)
taken_out old new p q h = h ∙ ap (λ b. cond b false (contains path_cmp old q)) (at_path p q) ∙ by (path_eq p q)
  where
    by : (b : Bool) → cond b false (contains path_cmp old q) ≡ (not b && contains path_cmp old q)
    by true = refl
    by false = refl

marked_here : (b : Bool) (old new : BTreeSet Path) (p : Path) → contains path_cmp new p ≡ (path_eq p p || contains path_cmp old p)
    → (b || contains path_cmp new p) ≡ true
marked_here b old new p h = or_right b (contains path_cmp new p) (h ∙ ap (λ x. x || contains path_cmp old p) (path_eq-same p))

pub marked_if : {T E : Type 0} (r : Result T E) (b : Bool) (old new : BTreeSet Path) (p : Path)
    → OnOk r ((q : Path) → contains path_cmp new q ≡ (path_eq p q || contains path_cmp old q)) → OnOk r ((b || contains path_cmp new p) ≡ true)
marked_if (Ok v) b old new p h = marked_here b old new p (h p)
marked_if (Err e) b old new p h = tt

-- ---- marks

pub within_chain : (one two three : Marks) → AreWithin one two → AreWithin two three → AreWithin one three
within_chain one two three h k p = (λ x. (k p).0 ((h p).0 x), λ x. (k p).1 ((h p).1 x))

pub within_itself : (marks : Marks) → AreWithin marks marks
within_itself marks p = (λ x. x, λ x. x)

kept : (q p : Path) (b : Bool) → path_eq q p ≡ false → b ≡ true → (not (path_eq q p) && b) ≡ true
kept q p b e h = ap (λ x. not x && b) e ∙ h

-- ---- several files

without_both : (q : Path) (one two : Marks) → AreWithin one two → AreWithin (without (Bytes q) one) (without (Bytes q) two)
without_both q one two h p =
    (λ m. let parts = and_parts (not (path_eq q p)) (one.files p) m in ap (λ b. b && two.files p) parts.0 ∙ (h p).0 parts.1, (h p).1)

files_both : (paths : List Path) (one two : Marks) → AreWithin one two → AreWithin (without_files paths one) (without_files paths two)
files_both [] one two h = h
files_both (q ∷ paths) one two h = files_both paths (without (Bytes q) one) (without (Bytes q) two) (without_both q one two h)

-- one more is on the disk
pub files_next : (paths more : List Path) (q : Path) (marks one two : Marks) → paths ≡ q ∷ more → AreWithin marks (without_files paths one)
    → AreWithin (without (Bytes q) one) two → AreWithin marks (without_files more two)
files_next paths more q marks one two is h k =
    within_chain marks (without_files (q ∷ more) one) (without_files more two)
    (subst (λ (l : List Path). AreWithin marks (without_files l one)) is h) (files_both more (without (Bytes q) one) two k)

pub files_all : (paths : List Path) (marks one : Marks) → length paths ≡ 0 → AreWithin marks (without_files paths one) → AreWithin marks one
files_all [] marks one none h = h
files_all (q ∷ paths) marks one none h = absurd (omega arith)

-- ---- each step

module _ (old new : Marks) (within : AreWithin old new) where
  pub made : (q : Path) (e : Entry) (t : Option ℕ) → new.directories (parent q) ≡ true → (new.files q || not (is_file e)) ≡ true
      → (not (is_leaf e) ≡ true → new.directories q ≡ true) → AreEnough (Make q e t) old new
  made q e t name bytes names s on free =
      make_enough old new q e s (record { bytes = bytes; name = name; names = names; elsewhere = λ p h. within p }) on free

  pub made_file : (q : Path) (e : Entry) (bytes : List ℕ) (mode : Mode) → e ≡ File bytes mode → new.directories (parent q) ≡ true → new.files q ≡ true
      → (t : Option ℕ) → AreEnough (Make q e t) old new
  made_file q e bytes mode is name marked t =
      made q e t name (ap (λ b. b || not (is_file e)) marked)
      (λ none. absurd (true≢false (sym none ∙ ap (λ (x : Entry). not (is_leaf x)) is)))

  pub file_made : (q : Path) → new.directories (parent q) ≡ true → new.files q ≡ true
      → (bytes : List ℕ) (mode : Mode) (t : Option ℕ) → AreEnough (Make q (File bytes mode) t) old new
  file_made q name marked bytes mode t = made_file q (File bytes mode) bytes mode refl name marked t

  pub made_directory : (q : Path) (e : Entry) → e ≡ Directory → new.directories (parent q) ≡ true → new.directories q ≡ true
      → (t : Option ℕ) → AreEnough (Make q e t) old new
  made_directory q e is name marked t = made q e t name (or_right (new.files q) (not (is_file e)) (ap (λ (x : Entry). not (is_file x)) is)) (λ there. marked)

  pub made_link : (q : Path) (e : Entry) (target : List ℕ) → e ≡ Link target → new.directories (parent q) ≡ true → (t : Option ℕ) → AreEnough (Make q e t) old new
  made_link q e target is name t =
      made q e t name (or_right (new.files q) (not (is_file e)) (ap (λ (x : Entry). not (is_file x)) is))
      (λ none. absurd (true≢false (sym none ∙ ap (λ (x : Entry). not (is_leaf x)) is)))

  pub removed_file : (q r : Path) → r ≡ q → new.directories (parent q) ≡ true → AreEnough (RemoveFile q) old (without (Bytes r) new)
  removed_file q r same name s on leaf =
      subst (λ (x : Path). IsSyncedBut (without (Bytes x) new) (put q nothing s)) (sym same)
      (remove_file_enough old (without (Bytes q) new) q s
      (record {
        bytes = or_right (not (path_eq q q) && new.files q) true refl;
        name = name;
        names = λ none. absurd (true≢false (sym none));
        elsewhere = λ p h. (λ m. kept q p (new.files p) h ((within p).0 m), (within p).1);
      }) on leaf)

  pub removed_directory : (q r : Path) → r ≡ q → new.directories (parent q) ≡ true → AreEnough (RemoveDirectory q) old (without (Names r) new)
  removed_directory q r same name s on fit =
      subst (λ (x : Path). IsSyncedBut (without (Names x) new) (put q nothing s)) (sym same)
      (remove_directory_enough old (without (Names q) new) q s
      (record {
        bytes = or_right (new.files q) true refl;
        name = kept q (parent q) (new.directories (parent q)) (off_parent q fit.1) name;
        names = λ none. absurd (true≢false (sym none));
        elsewhere = λ p h. ((within p).0, λ m. kept q p (new.directories p) h ((within p).1 m));
      }) on fit)

  -- ---- a rename

  module _ (p q : Path) (name : new.directories (parent p) ≡ true) (new_name : new.directories (parent q) ≡ true) where
    abbrev between : Marks
    between = without (Bytes p) new

    away : AreEnoughFor p nothing old between
    away = record {
      bytes = or_right (not (path_eq p p) && new.files p) true refl;
      name = name;
      names = λ none. absurd (true≢false (sym none));
      elsewhere = λ x h. (λ m. kept p x (new.files x) h ((within x).0 m), (within x).1);
    }

    module _ (s : State) (on : IsSyncedBut old s) (fit : fits (Rename p q) s) where
      no_directory : has_directory (seen s p) ≡ true → new.directories q ≡ true
      no_directory h = absurd (true≢false (sym h ∙ leaf_apart (seen s p) fit.0))

      renamed_by : (marks : Marks) → AreEnoughFor q (s p).now between marks → IsSyncedBut marks (after (Rename p q) s)
      renamed_by marks here = rename_enough old between marks p q s away here on (fit.0, fit.1.0, fit.1.1)

    -- the bytes that move are on the disk
    pub renamed_synced : (r : Path) → r ≡ q → old.files p ≡ false → AreEnough (Rename p q) old (without (Bytes r) new)
    renamed_synced r same free s on fit =
        subst (λ (x : Path). IsSyncedBut (without (Bytes x) new) (after (Rename p q) s)) (sym same)
        (renamed_by s on fit (without (Bytes q) new)
        (record {
          bytes = or_right (not (path_eq q q) && new.files q) (s p).now.is_synced (or_false (old.files p) (s p).now.is_synced (on.bytes p) free);
          name = new_name;
          names = no_directory s on fit;
          elsewhere = λ x h. (λ m. kept q x (new.files x) h (and_parts (not (path_eq p x)) (new.files x) m).1, λ m. m);
        }))

    -- they aren't
    pub renamed_onto_itself : new.files q ≡ true → AreEnough (Rename p q) old new
    renamed_onto_itself marked s on fit =
        renamed_by s on fit new
        (record {
          bytes = ap (λ b. b || (s p).now.is_synced) marked;
          name = new_name;
          names = no_directory s on fit;
          elsewhere = λ x h. (λ m. (and_parts (not (path_eq p x)) (new.files x) m).1, λ m. m);
        })

    pub renamed : (r : Path) → r ≡ p → new.files q ≡ true → path_eq p q ≡ false → AreEnough (Rename p q) old (without (Bytes r) new)
    renamed r same marked apart s on fit =
        subst (λ (x : Path). IsSyncedBut (without (Bytes x) new) (after (Rename p q) s)) (sym same)
        (renamed_by s on fit between
        (record {
          bytes = ap (λ b. b || (s p).now.is_synced) (kept p q (new.files q) apart marked);
          name = new_name;
          names = no_directory s on fit;
          elsewhere = λ x h. (λ m. m, λ m. m);
        }))

-- ---- syncs and moves, before which nothing is marked

module _ (marks : Marks) where
  pub file_synced : (q r : Path) → r ≡ q → AreEnough (SyncFile q) marks (without (Bytes r) marks)
  file_synced q r same s on fit =
      subst (λ (x : Path). IsSyncedBut (without (Bytes x) marks) (after (SyncFile q) s)) (sym same)
      (sync_file_enough marks (without (Bytes q) marks) q s on (λ p h m. kept q p (marks.files p) h m) (λ p m. m))

  pub file_kept : (q : Path) → AreEnough (SyncFile q) marks marks
  file_kept q s on fit = sync_file_enough marks marks q s on (λ p h m. m) (λ p m. m)

  pub directory_kept : (d : Path) → AreEnough (SyncDirectory d) marks marks
  directory_kept d s on fit = sync_kept marks marks d s on (λ p m. m) (λ p m. m)

  pub directory_synced : (d r : Path) → r ≡ d → (d ≡ []) ⊎ (marks.directories (parent d) ≡ false) → AreEnough (SyncDirectory d) marks (without (Names r) marks)
  directory_synced d r same counts s on fit =
      subst (λ (x : Path). IsSyncedBut (without (Names x) marks) (after (SyncDirectory d) s)) (sym same)
      (sync_counted marks (without (Names d) marks) d s on (λ p m. m) (λ p h m. kept d p (marks.directories p) h m) (by counts))
    where
      by : (d ≡ []) ⊎ (marks.directories (parent d) ≡ false) → is_none_older (s d).older ≡ true
      by (inl root) = ap (λ (x : Path). is_none_older (s x).older) root ∙ root_named marks s on
      by (inr free) = counts_unmarked marks d s on fit free

  pub directory_moved : (m n : Name) → AreWithin marks no_marks → AreEnough (RenameDirectory m n) marks marks
  directory_moved m n none s on fit =
      within_marks no_marks (after (RenameDirectory m n) s) (move_synced m n s (within_marks marks s on no_marks none)) marks
      (λ p. (λ x. absurd (true≢false (sym x)), λ x. absurd (true≢false (sym x))))

  pub directory_lost : (m n : Name) → AreEnough (RenameDirectory m n) marks (without Unknown marks)
  directory_lost m n s on fit = move_marked marks m n s on (without Unknown marks) (λ p. (refl, refl))

-- for the step that it is
pub made_by : {D E : Type 0} (r : Result D E) (new : D → Marks) (marks : Marks) (step : Step) (q : Path) (e : Entry) (t : Option ℕ) → step ≡ Make q e t
    → IfOk r (λ done. (u : Option ℕ) → AreEnough (Make q e u) marks (new done)) → IfOk r (λ done. AreEnough step marks (new done))
made_by (Ok done) new marks step q e t is h = subst (λ (x : Step). AreEnough x marks (new done)) (sym is) (h t)
made_by (Err fault) new marks step q e t is h = tt
