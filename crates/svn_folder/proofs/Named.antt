-- Marks that are enough after a sync of a directory, and after a directory has another name.
use Rattle.std.proofs.Common.{◌≡◌, Bool, true, false, ◌&&◌, ◌||◌, [], ◌∷◌, refl, sym, ◌∙◌, ap, true≢false}
use Rattle.std.specs.Prelude.{cond, bytes_eq, is_some}
use Rattle.svn_types.specs.Names.{Path}
use Rattle.svn_types.specs.Paths.{path_eq, parent}
use Rattle.svn_types.proofs.NameLemmas.{Name}
use Rattle.svn_types.proofs.PathLemmas.{path_eq-symm}
use Rattle.svn_folder.specs.declared.step.Step.TheVariants.{RenameDirectory}
use Rattle.svn_folder.specs.Entries.{has_directory}
use Rattle.svn_folder.specs.States.{Place, State, seen, with_name}
use Rattle.svn_folder.specs.Steps.{sync_directory, is_none_older, is_in, moved, after}
use Rattle.svn_folder.specs.Syncing.{Marks, no_marks, IsSyncedBut, IsSynced}
use Rattle.svn_folder.proofs.Showing.{sync_directory-shown, move_root, move_away, move_here, move_elsewhere, moved_away, moved_here, moved_elsewhere}
use Rattle.svn_folder.proofs.Marked.{or_right, or_false, or_both, directory_some, is_there, root_named, older_named, synced_either}

-- ---- a sync of a directory

module _ (marks new : Marks) (d : Path) (s : State) (on : IsSyncedBut marks s)
    (files : (p : Path) → marks.files p ≡ true → new.files p ≡ true) where
  abbrev synced : State
  synced = sync_directory d s

  still_named : (p : Path) → is_none_older (s p).older ≡ true → is_none_older (synced p).older ≡ true
  still_named p h = older_named (is_in d p && is_none_older (s d).older) (s p) h

  -- if each name that isn't on the disk then is in a marked directory
  sync_enough : ((p : Path) → has_directory (seen s (parent p)) ≡ true → (new.directories (parent p) || is_none_older (synced p).older) ≡ true)
      → IsSyncedBut new synced
  sync_enough names = record {
    root = ap (λ b. has_directory (seen s []) && b) (root_named marks s on) ∙ ap (λ b. b && true) (is_there marks s on);
    inside = λ p h. ap has_directory (sync_directory-shown d s (parent p)) ∙ on.inside p (sym (ap is_some (sync_directory-shown d s p)) ∙ h);
    bytes = λ p. ap (λ b. new.files p || b) (synced_either (is_in d p && is_none_older (s d).older) (with_name (s p)) (s p) refl)
        ∙ or_both (marks.files p) (new.files p) (s p).now.is_synced (s p).now.is_synced (files p) (λ h. h) (on.bytes p);
    names = λ p h. names p (sym (ap has_directory (sync_directory-shown d s (parent p))) ∙ h);
  }

  named : (p : Path) → (marks.directories (parent p) ≡ true → new.directories (parent p) ≡ true) → has_directory (seen s (parent p)) ≡ true
      → (new.directories (parent p) || is_none_older (synced p).older) ≡ true
  named p more h =
      or_both (marks.directories (parent p)) (new.directories (parent p)) (is_none_older (s p).older) (is_none_older (synced p).older) more (still_named p) (on.names p h)

  pub sync_kept : ((p : Path) → marks.directories p ≡ true → new.directories p ≡ true) → IsSyncedBut new synced
  sync_kept more = sync_enough (λ p h. named p (more (parent p)) h)

  module _ (more : (p : Path) → path_eq d p ≡ false → marks.directories p ≡ true → new.directories p ≡ true) (counts : is_none_older (s d).older ≡ true) where
    synced_here : (n : Name) (p : Path) → path_eq d (parent (n ∷ p)) ≡ true → is_none_older (synced (n ∷ p)).older ≡ true
    synced_here n p e =
        ap (λ b. is_none_older (cond (b && is_none_older (s d).older) (with_name (s (n ∷ p))) (s (n ∷ p))).older) (path_eq-symm (parent (n ∷ p)) d ∙ e)
        ∙ ap (λ b. is_none_older (cond b (with_name (s (n ∷ p))) (s (n ∷ p))).older) counts

    names_counted : (p : Path) → has_directory (seen s (parent p)) ≡ true → (new.directories (parent p) || is_none_older (synced p).older) ≡ true
    names_counted [] h = or_right (new.directories []) (is_none_older (s []).older) (root_named marks s on)
    names_counted (n ∷ p) h = by (path_eq d (parent (n ∷ p))) refl
      where
        by : (b : Bool) → path_eq d (parent (n ∷ p)) ≡ b → (new.directories (parent (n ∷ p)) || is_none_older (synced (n ∷ p)).older) ≡ true
        by true e = or_right (new.directories (parent (n ∷ p))) (is_none_older (synced (n ∷ p)).older) (synced_here n p e)
        by false e = named (n ∷ p) (more (parent (n ∷ p)) e) h

    pub sync_counted : IsSyncedBut new synced
    sync_counted = sync_enough names_counted

-- a sync counts if the directory's name is in none that is marked
pub counts_unmarked : (marks : Marks) (d : Path) (s : State) → IsSyncedBut marks s → has_directory (seen s d) ≡ true → marks.directories (parent d) ≡ false
    → is_none_older (s d).older ≡ true
counts_unmarked marks d s on there free =
    or_false (marks.directories (parent d)) (is_none_older (s d).older) (on.names d (on.inside d (directory_some (seen s d) there))) free

-- ---- a directory with another name

module _ (marks : Marks) (m n : Name) (s : State) (on : IsSyncedBut marks s) where
  abbrev now : State
  now = after (RenameDirectory m n) s

  top_there : has_directory (seen now []) ≡ true
  top_there = ap has_directory (move_root m n s) ∙ is_there marks s on

  move_inside : (p : Path) → is_some (seen now p) ≡ true → has_directory (seen now (parent p)) ≡ true
  move_inside [] h = top_there
  move_inside (k ∷ []) h = top_there
  move_inside (k ∷ j ∷ p) h = by (bytes_eq m k) refl (bytes_eq n k) refl
    where
      by : (a : Bool) → bytes_eq m k ≡ a → (b : Bool) → bytes_eq n k ≡ b → has_directory (seen now (k ∷ parent (j ∷ p))) ≡ true
      by true e b f = absurd (true≢false (sym h ∙ ap is_some (move_away m n s k (j ∷ p) e)))
      by false e true f =
          ap has_directory (move_here m n s k (parent (j ∷ p)) e f)
          ∙ on.inside (m ∷ j ∷ p) (sym (ap is_some (move_here m n s k (j ∷ p) e f)) ∙ h)
      by false e false f =
          ap has_directory (move_elsewhere m n s k (parent (j ∷ p)) e f)
          ∙ on.inside (k ∷ j ∷ p) (sym (ap is_some (move_elsewhere m n s k (j ∷ p) e f)) ∙ h)

  move_top : (has_directory (seen now []) && is_none_older (now []).older) ≡ true
  move_top = on.root

  -- if everything is marked
  pub move_marked : (new : Marks) → ((p : Path) → (new.files p ≡ true) × (new.directories p ≡ true)) → IsSyncedBut new now
  move_marked new all = record {
    root = move_top;
    inside = move_inside;
    bytes = λ p. ap (λ b. b || (now p).now.is_synced) (all p).0;
    names = λ p h. ap (λ b. b || is_none_older (now p).older) (all (parent p)).1;
  }

module _ (m n : Name) (s : State) (on : IsSynced s) where
  abbrev place_of : Path → Place
  place_of = moved m n s

  move_bytes_at : (p : Path) → (place_of p).now.is_synced ≡ true
  move_bytes_at [] = on.bytes []
  move_bytes_at (k ∷ p) = by (bytes_eq m k) refl (bytes_eq n k) refl
    where
      by : (a : Bool) → bytes_eq m k ≡ a → (b : Bool) → bytes_eq n k ≡ b → (place_of (k ∷ p)).now.is_synced ≡ true
      by true e b f = ap (λ (place : Place). place.now.is_synced) (moved_away m n s k p e)
      by false e true f = ap (λ (place : Place). place.now.is_synced) (moved_here m n s k p e f) ∙ on.bytes (m ∷ p)
      by false e false f = ap (λ (place : Place). place.now.is_synced) (moved_elsewhere m n s k p e f) ∙ on.bytes (k ∷ p)

  -- of what is in a directory of the folder itself, or below
  above_named : (k : Name) (p : Path) (t : Name) → ((q : Path) → seen (after (RenameDirectory m n) s) (k ∷ q) ≡ seen s (t ∷ q))
      → has_directory (seen (after (RenameDirectory m n) s) (parent (k ∷ p))) ≡ true → is_none_older (s (t ∷ p)).older ≡ true
  above_named k [] t same h = on.names (t ∷ []) (is_there no_marks s on)
  above_named k (j ∷ p) t same h = on.names (t ∷ j ∷ p) (sym (ap has_directory (same (parent (j ∷ p)))) ∙ h)

  move_names_at : (p : Path) → has_directory (seen (after (RenameDirectory m n) s) (parent p)) ≡ true → is_none_older (place_of p).older ≡ true
  move_names_at [] h = root_named no_marks s on
  move_names_at (k ∷ p) h = by (bytes_eq m k) refl (bytes_eq n k) refl
    where
      by : (a : Bool) → bytes_eq m k ≡ a → (b : Bool) → bytes_eq n k ≡ b → is_none_older (place_of (k ∷ p)).older ≡ true
      by true e b f = ap (λ (place : Place). is_none_older place.older) (moved_away m n s k p e)
      by false e true f =
          ap (λ (place : Place). is_none_older place.older) (moved_here m n s k p e f)
          ∙ above_named k p m (λ q. move_here m n s k q e f) h
      by false e false f =
          ap (λ (place : Place). is_none_older place.older) (moved_elsewhere m n s k p e f)
          ∙ above_named k p k (λ q. move_elsewhere m n s k q e f) h

  -- if everything is on the disk it still is
  pub move_synced : IsSynced (after (RenameDirectory m n) s)
  move_synced = record {
    root = on.root;
    inside = move_inside no_marks m n s on;
    bytes = λ p. synced_either (is_in [] p && is_none_older (place_of []).older) (with_name (place_of p)) (place_of p) refl ∙ move_bytes_at p;
    names = λ p h. older_named (is_in [] p && is_none_older (place_of []).older) (place_of p) (move_names_at p h);
  }
