-- Marks at what isn't on the disk yet: those that are enough after each step.
use Rattle.std.proofs.Common.{◌≡◌, Bool, true, false, ◌&&◌, ◌||◌, ◌⊎◌, inl, inr, not, [], ◌∷◌, refl, sym, ◌∙◌, ap, subst, true≢false}
use Rattle.std.specs.Prelude.{cond, Option, Some, None, is_some}
use Rattle.std.proofs.lemmas.Bool.{and_parts}
use Rattle.svn_types.specs.Names.{Path}
use Rattle.svn_types.specs.Paths.{path_eq, is_root, parent, child}
use Rattle.svn_types.proofs.NameLemmas.{Name}
use Rattle.svn_types.proofs.PathLemmas.{same_path, path_eq-symm, path_eq-child, path_cases, parent-child}
use Rattle.svn_folder.specs.declared.entry.Entry.{Entry}
use Rattle.svn_folder.specs.declared.entry.Entry.TheVariants.{File, Directory, Link}
use Rattle.svn_folder.specs.Entries.{has_file, has_leaf, has_directory}
use Rattle.svn_folder.specs.States.{Held, Place, State, seen, nothing, fresh, with_bytes, with_name}
use Rattle.svn_folder.specs.Steps.{put, sync_file, is_none_older}
use Rattle.svn_folder.specs.Syncing.{Marks, IsSyncedBut, AreWithin, AreEnoughFor}
use Rattle.svn_folder.proofs.Showing.{put_here, put_elsewhere, put_at, put_off, sync_file-shown}

-- ---- tests

or_more : (a b c : Bool) → (a ≡ true → b ≡ true) → (a || c) ≡ true → (b || c) ≡ true
or_more true b c f h = ap (λ x. x || c) (f refl)
or_more false true c f h = refl
or_more false false c f h = h

pub or_right : (a b : Bool) → b ≡ true → (a || b) ≡ true
or_right true b h = refl
or_right false b h = h

pub or_both : (a b c d : Bool) → (a ≡ true → b ≡ true) → (c ≡ true → d ≡ true) → (a || c) ≡ true → (b || d) ≡ true
or_both true b c d f g h = ap (λ x. x || d) (f refl)
or_both false true c d f g h = refl
or_both false false c d f g h = g h

pub or_false : (a b : Bool) → (a || b) ≡ true → a ≡ false → b ≡ true
or_false true b h other = absurd (true≢false other)
or_false false b h other = h

-- ---- entries

pub directory_some : (o : Option Entry) → has_directory o ≡ true → is_some o ≡ true
directory_some None h = absurd (true≢false (sym h))
directory_some (Some e) h = refl

pub leaf_some : (o : Option Entry) → has_leaf o ≡ true → is_some o ≡ true
leaf_some None h = absurd (true≢false (sym h))
leaf_some (Some e) h = refl

pub leaf_apart : (o : Option Entry) → has_leaf o ≡ true → has_directory o ≡ false
leaf_apart None h = refl
leaf_apart (Some e) h = ap not h

file_leaf : (o : Option Entry) → has_file o ≡ true → has_directory o ≡ false
file_leaf None h = refl
file_leaf (Some (File bytes mode)) h = refl
file_leaf (Some Directory) h = absurd (true≢false (sym h))
file_leaf (Some (Link target)) h = refl

-- ---- paths

off_root : (q : Path) → is_root q ≡ false → path_eq q [] ≡ false
off_root [] h = absurd (true≢false h)
off_root (n ∷ q) h = refl

pub off_parent : (q : Path) → is_root q ≡ false → path_eq q (parent q) ≡ false
off_parent q h = by (path_cases q)
  where
    by : (q ≡ []) ⊎ ((r : Path) × (name : Name) × (q ≡ child r name)) → path_eq q (parent q) ≡ false
    by (inl none) = absurd (true≢false (sym (ap is_root none) ∙ h))
    by (inr (r, name, is)) =
        subst (λ (x : Path). path_eq x (parent x) ≡ false) (sym is)
        (ap (path_eq (child r name)) (parent-child r name) ∙ path_eq-symm (child r name) r ∙ path_eq-child r name)

-- a path whose parent isn't the root has that parent and a name
under_parent : (p q : Path) → is_root q ≡ false → path_eq q (parent p) ≡ true → (name : Name) × (p ≡ child q name)
under_parent p q h e = by (path_cases p)
  where
    at : q ≡ parent p
    at = same_path q (parent p) e

    by : (p ≡ []) ⊎ ((r : Path) × (name : Name) × (p ≡ child r name)) → (name : Name) × (p ≡ child q name)
    by (inl none) = absurd (true≢false (sym (ap is_root (at ∙ ap parent none)) ∙ h))
    by (inr (r, name, is)) = (name, is ∙ ap (λ (x : Path). child x name) (sym (at ∙ ap parent is ∙ parent-child r name)))

-- ---- what is known of a folder

module _ (marks : Marks) (s : State) (on : IsSyncedBut marks s) where
  pub is_there : has_directory (seen s []) ≡ true
  is_there = (and_parts (has_directory (seen s [])) (is_none_older (s []).older) on.root).0

  pub root_named : is_none_older (s []).older ≡ true
  root_named = (and_parts (has_directory (seen s [])) (is_none_older (s []).older) on.root).1

  -- nothing is in what is no directory
  pub none_inside : (q : Path) (name : Name) → has_directory (seen s q) ≡ false → seen s (child q name) ≡ None
  none_inside q name other = by (seen s (child q name)) refl
    where
      by : (o : Option Entry) → seen s (child q name) ≡ o → o ≡ None
      by None e = refl
      by (Some x) e = absurd (true≢false (sym (on.inside (child q name) (ap is_some e)) ∙ ap (λ (r : Path). has_directory (seen s r)) (parent-child q name) ∙ other))

  not_root : (q : Path) → has_directory (seen s q) ≡ false → is_root q ≡ false
  not_root [] other = absurd (true≢false (sym is_there ∙ other))
  not_root (n ∷ q) other = refl

  pub within_marks : (more : Marks) → AreWithin marks more → IsSyncedBut more s
  within_marks more within = record {
    root = on.root;
    inside = on.inside;
    bytes = λ p. or_more (marks.files p) (more.files p) (s p).now.is_synced (within p).0 (on.bytes p);
    names = λ p h. or_more (marks.directories (parent p)) (more.directories (parent p)) (is_none_older (s p).older) (within (parent p)).1 (on.names p h);
  }

-- ---- something else at one path

module _ (marks new : Marks) (q : Path) (held : Held) (s : State) (on : IsSyncedBut marks s) (enough : AreEnoughFor q held marks new)
    (below : is_root q ≡ false) (within : has_directory (seen s (parent q)) ≡ true) (free : (name : Name) → seen s (child q name) ≡ None) where
  abbrev now : State
  now = put q held s

  put_root : (has_directory (seen now []) && is_none_older (now []).older) ≡ true
  put_root = ap (λ (place : Place). has_directory place.now.entry && is_none_older place.older) (put_off q [] held s (off_root q below)) ∙ on.root

  -- the directory that it is in is another path
  parent_stays : has_directory (seen now (parent q)) ≡ true
  parent_stays = ap has_directory (put_elsewhere q (parent q) held s (off_parent q below)) ∙ within

  put_inside : (p : Path) → is_some (seen now p) ≡ true → has_directory (seen now (parent p)) ≡ true
  put_inside p h = by (path_eq q p) refl (path_eq q (parent p)) refl
    where
      by : (a : Bool) → path_eq q p ≡ a → (b : Bool) → path_eq q (parent p) ≡ b → has_directory (seen now (parent p)) ≡ true
      by true e b f = subst (λ (x : Path). has_directory (seen now (parent x)) ≡ true) (same_path q p e) parent_stays
      by false e true f =
          let at = under_parent p q below f in
          absurd (true≢false (sym h ∙ ap is_some (put_elsewhere q p held s e ∙ ap (seen s) at.1 ∙ free at.0)))
      by false e false f =
          ap has_directory (put_elsewhere q (parent p) held s f) ∙ on.inside p (sym (ap is_some (put_elsewhere q p held s e)) ∙ h)

  put_bytes : (p : Path) → (new.files p || (now p).now.is_synced) ≡ true
  put_bytes p = by (path_eq q p) refl
    where
      by : (a : Bool) → path_eq q p ≡ a → (new.files p || (now p).now.is_synced) ≡ true
      by true e =
          ap (λ (place : Place). new.files p || place.now.is_synced) (put_at q p held s e)
          ∙ ap (λ (x : Path). new.files x || held.is_synced) (sym (same_path q p e)) ∙ enough.bytes
      by false e =
          ap (λ (place : Place). new.files p || place.now.is_synced) (put_off q p held s e)
          ∙ or_more (marks.files p) (new.files p) (s p).now.is_synced (enough.elsewhere p e).0 (on.bytes p)

  put_names : (p : Path) → has_directory (seen now (parent p)) ≡ true → (new.directories (parent p) || is_none_older (now p).older) ≡ true
  put_names p h = by (path_eq q p) refl (path_eq q (parent p)) refl
    where
      marked : new.directories (parent p) ≡ true → (new.directories (parent p) || is_none_older (now p).older) ≡ true
      marked m = ap (λ b. b || is_none_older (now p).older) m

      by : (a : Bool) → path_eq q p ≡ a → (b : Bool) → path_eq q (parent p) ≡ b → (new.directories (parent p) || is_none_older (now p).older) ≡ true
      by true e b f = marked (ap (λ (x : Path). new.directories (parent x)) (sym (same_path q p e)) ∙ enough.name)
      by false e true f =
          marked (ap new.directories (sym (same_path q (parent p) f)) ∙ enough.names (sym (ap has_directory (put_here q (parent p) held s f)) ∙ h))
      by false e false f =
          ap (λ (place : Place). new.directories (parent p) || is_none_older place.older) (put_off q p held s e)
          ∙ or_more (marks.directories (parent p)) (new.directories (parent p)) (is_none_older (s p).older) (enough.elsewhere (parent p) f).1
          (on.names p (sym (ap has_directory (put_elsewhere q (parent p) held s f)) ∙ h))

  pub put_enough : IsSyncedBut new now
  put_enough = record { root = put_root; inside = put_inside; bytes = put_bytes; names = put_names }

-- ---- steps that put something at a path

pub make_enough : (marks new : Marks) (q : Path) (e : Entry) (s : State) → AreEnoughFor q (fresh e) marks new → IsSyncedBut marks s
    → (seen s q ≡ None) × (has_directory (seen s (parent q)) ≡ true) → IsSyncedBut new (put q (fresh e) s)
make_enough marks new q e s enough on free =
    let none : has_directory (seen s q) ≡ false = ap has_directory free.0 in
    put_enough marks new q (fresh e) s on enough (not_root marks s on q none) free.1 (λ name. none_inside marks s on q name none)

pub remove_file_enough : (marks new : Marks) (q : Path) (s : State) → AreEnoughFor q nothing marks new → IsSyncedBut marks s
    → has_leaf (seen s q) ≡ true → IsSyncedBut new (put q nothing s)
remove_file_enough marks new q s enough on leaf =
    let none = leaf_apart (seen s q) leaf in
    put_enough marks new q nothing s on enough (not_root marks s on q none) (on.inside q (leaf_some (seen s q) leaf)) (λ name. none_inside marks s on q name none)

pub remove_directory_enough : (marks new : Marks) (q : Path) (s : State) → AreEnoughFor q nothing marks new → IsSyncedBut marks s
    → (has_directory (seen s q) ≡ true) × (is_root q ≡ false) × ((name : Name) → seen s (child q name) ≡ None) → IsSyncedBut new (put q nothing s)
remove_directory_enough marks new q s enough on fit =
    put_enough marks new q nothing s on enough fit.1 (on.inside q (directory_some (seen s q) fit.0)) fit.2

-- in between nothing is at the old path
pub rename_enough : (marks between new : Marks) (p q : Path) (s : State) → AreEnoughFor p nothing marks between
    → AreEnoughFor q (s p).now between new → IsSyncedBut marks s
    → (has_leaf (seen s p) ≡ true) × (has_directory (seen s q) ≡ false) × (has_directory (seen s (parent q)) ≡ true)
    → IsSyncedBut new (put q (s p).now (put p nothing s))
rename_enough marks between new p q s away here on fit =
    let gone = remove_file_enough marks between p s away on fit.0 in
    let none : has_directory (seen (put p nothing s) q) ≡ false = by (path_eq p q) refl in
    put_enough between new q (s p).now (put p nothing s) gone here (not_root between (put p nothing s) gone q none) within (λ name. none_inside between (put p nothing s) gone q name none)
  where
    by : (b : Bool) → path_eq p q ≡ b → has_directory (seen (put p nothing s) q) ≡ false
    by true e = ap has_directory (put_here p q nothing s e)
    by false e = ap has_directory (put_elsewhere p q nothing s e) ∙ fit.1

    apart : (b : Bool) → path_eq p (parent q) ≡ b → b ≡ false
    apart false e = refl
    apart true e = absurd (true≢false (sym (ap (λ (r : Path). has_directory (seen s r)) (same_path p (parent q) e) ∙ fit.2) ∙ leaf_apart (seen s p) fit.0))

    within : has_directory (seen (put p nothing s) (parent q)) ≡ true
    within = ap has_directory (put_elsewhere p (parent q) nothing s (apart (path_eq p (parent q)) refl)) ∙ fit.2

-- ---- syncs

older_either : (b : Bool) (x y : Place) → is_none_older x.older ≡ is_none_older y.older → is_none_older (cond b x y).older ≡ is_none_older y.older
older_either true x y h = h
older_either false x y h = refl

pub synced_either : (b : Bool) (x y : Place) → x.now.is_synced ≡ y.now.is_synced → (cond b x y).now.is_synced ≡ y.now.is_synced
synced_either true x y h = h
synced_either false x y h = refl

pub older_named : (b : Bool) (place : Place) → is_none_older place.older ≡ true → is_none_older (cond b (with_name place) place).older ≡ true
older_named true place h = refl
older_named false place h = h

module _ (marks new : Marks) (q : Path) (s : State) (on : IsSyncedBut marks s)
    (elsewhere : (p : Path) → path_eq q p ≡ false → marks.files p ≡ true → new.files p ≡ true)
    (names : (p : Path) → marks.directories p ≡ true → new.directories p ≡ true) where
  abbrev file_synced : State
  file_synced = sync_file q s

  same_older : (p : Path) → is_none_older (file_synced p).older ≡ is_none_older (s p).older
  same_older p = older_either (path_eq q p) (with_bytes (s p)) (s p) refl

  sync_file_bytes : (p : Path) → (new.files p || (file_synced p).now.is_synced) ≡ true
  sync_file_bytes p = by (path_eq q p) refl
    where
      by : (b : Bool) → path_eq q p ≡ b → (new.files p || (file_synced p).now.is_synced) ≡ true
      by true e = or_right (new.files p) (file_synced p).now.is_synced (ap (λ b. (cond b (with_bytes (s p)) (s p)).now.is_synced) e)
      by false e =
          ap (λ b. new.files p || (cond b (with_bytes (s p)) (s p)).now.is_synced) e
          ∙ or_more (marks.files p) (new.files p) (s p).now.is_synced (elsewhere p e) (on.bytes p)

  pub sync_file_enough : IsSyncedBut new file_synced
  sync_file_enough = record {
    root = ap has_root (sync_file-shown q s []) ∙ ap (λ b. has_directory (seen s []) && b) (same_older []) ∙ on.root;
    inside = λ p h. ap has_directory (sync_file-shown q s (parent p)) ∙ on.inside p (sym (ap is_some (sync_file-shown q s p)) ∙ h);
    bytes = sync_file_bytes;
    names = λ p h. ap (λ b. new.directories (parent p) || b) (same_older p)
        ∙ or_more (marks.directories (parent p)) (new.directories (parent p)) (is_none_older (s p).older) (names (parent p))
        (on.names p (sym (ap has_directory (sync_file-shown q s (parent p))) ∙ h));
  }
    where
      has_root : Option Entry → Bool
      has_root e = has_directory e && is_none_older (file_synced []).older
