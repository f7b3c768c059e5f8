-- The open directories of an order check after one more call.
use Rattle.std.proofs.Common.{◌≡◌, ℕ, ◌-◌, ◌<◌, Bool, true, false, ◌&&◌, ◌||◌, List, [], ◌∷◌, ◌++◌, length, map, take, refl, sym}
use Rattle.std.proofs.Common.{◌∙◌, ap, subst, inl, inr, true≢false, arith}
use Rattle.std.specs.Prelude.{Option, Some, None, ◌⊎◌, slice_get, nat_eq}
use Rattle.std.specs.List.{list_any}
use Rattle.std.proofs.lemmas.List.{length-append, length-map, map-append, take-map, take_at}
use Rattle.std.proofs.lemmas.Option.{same_Some, slice_get_within}
use Rattle.std.proofs.Math.Bool.{and-false, or-false, or-true}
use Rattle.std.proofs.lemmas.Bool.{eq-eqb, false_from_ne_true, eqb-true}
use Rattle.svn_lists.proofs.Places.{slice_get_push_cases, slice_get_from_take}
use Rattle.svn_lists.proofs.Somewhere.{any_push, any_still, any_weaker}
use Rattle.svn_types.specs.declared.kind.Kind.TheVariants.{Directory}
use Rattle.svn_types.specs.Names.{Path}
use Rattle.svn_types.specs.Paths.{path_eq, parent, child}
use Rattle.svn_editor.specs.declared.call.Call.{Call}
use Rattle.svn_editor.specs.declared.call.Call.TheVariants.{OpenRoot, DeleteEntry, ChangeDirProp}
use Rattle.svn_editor.specs.declared.call.Call.TheVariants.{CloseDirectory}
use Rattle.svn_order.specs.declared.directories.OpenedDirectory.{OpenedDirectory}
use Rattle.svn_order.specs.declared.order.OrderCheck.{OrderCheck}
use Rattle.svn_editor.specs.Calls.{Given, number_eq, opens_entry, deletes, changes_dir, opens_subdirectory, all_given, path_of, innermost}
use Rattle.svn_editor.specs.Calls.{changed_late}
use Rattle.svn_order.specs.NameSets.{has_name}
use Rattle.svn_order.specs.Directories.{entry_name, shown, IsNew, InsertsOpened, InsertsDeleted, ChangesAt, with_subdirectory, with_change}
use Rattle.svn_order.specs.Directories.{without_last, Opens}
use Rattle.svn_order.specs.StandsAfter.{open_directories, token_and_path, IsDirectoryOf, Holds}
use Rattle.svn_order.specs.OrderChanges.{Enters}
use Rattle.svn_types.proofs.PathLemmas.{same_path, parent-child, path_eq-child, path_eq-children}
use Rattle.svn_editor.proofs.OneMore.{late_more, late_none}
use Rattle.svn_editor.proofs.Nested.{nested_depth}
use Rattle.svn_order.proofs.Sound.{IsSound, IsKnown, touches, opens_touches}
use Rattle.svn_order.proofs.OpenDirectories.{new_childless}
use Rattle.svn_order.proofs.Looking.{given_at, same_length, IsParent, held, path_held, innermost_place}

abbrev pub AreDirectories : List OpenedDirectory → List Call → Type 0
AreDirectories ds calls = (i : ℕ) (d : OpenedDirectory) → slice_get ds i ≡ Some d → IsDirectoryOf calls d

-- ---- places and paths

-- a directory is at the length of its path
pub depth_held : (s : OrderCheck) (calls : List Call) (i : ℕ) (d : OpenedDirectory) → Holds s calls → IsSound calls
    → slice_get s.directories.items i ≡ Some d → length d.path ≡ i
depth_held s calls i d h sound e =
    let at = given_at s.directories.items (open_directories calls) i d h.nesting e in
    ap length at.path ∙ nested_depth (open_directories calls) 0 0 None i at.given_as sound.nested at.is ∙ omega arith

-- an entry of another directory
other_entry : (q p : Path) (n : List ℕ) → (length p ≡ length (parent q) → ⊥) → path_eq q (child p n) ≡ false
other_entry q p n h =
    false_from_ne_true (path_eq q (child p n)) (λ e. h (ap length (sym (ap parent (same_path q (child p n) e) ∙ parent-child p n))))

-- ---- directories that a call leaves as they are

pub record IsApart (c : Call) (d : OpenedDirectory) : Type 0 where
  pub subdirectory : opens_subdirectory d.token c ≡ false
  pub change : changes_dir d.token c ≡ false
  pub opened : (n : List ℕ) → opens_entry (child d.path n) c ≡ false
  pub deleted : (n : List ℕ) → deletes (child d.path n) c ≡ false

pub directory_still : (calls : List Call) (c : Call) (d : OpenedDirectory) → IsApart c d → IsDirectoryOf calls d
    → IsDirectoryOf (calls ++ c ∷ []) d
directory_still calls c d a was = record {
  subdirectory = any_still (opens_subdirectory d.token) calls c a.subdirectory ∙ was.subdirectory;
  late = late_more calls c d.token ∙ ap (λ b. changed_late calls d.token || list_any (opens_subdirectory d.token) calls && b) a.change
      ∙ ap (λ b. changed_late calls d.token || b) (and-false (list_any (opens_subdirectory d.token) calls))
      ∙ or-false (changed_late calls d.token) ∙ was.late;
  opened = λ n. any_still (opens_entry (child d.path n)) calls c (a.opened n) ∙ was.opened n;
  deleted = λ n. any_still (deletes (child d.path n)) calls c (a.deleted n) ∙ was.deleted n;
}

pub directories_still : (ds : List OpenedDirectory) (calls : List Call) (c : Call) → ((d : OpenedDirectory) → IsApart c d)
    → AreDirectories ds calls → AreDirectories ds (calls ++ c ∷ [])
directories_still ds calls c a h i d e = directory_still calls c d (a d) (h i d e)

-- ---- one directory changed

-- What a change at a place makes of the directories, where the call leaves the others as they are.
pub changed_at_place : (s : OrderCheck) (es : List OpenedDirectory) (calls : List Call) (c : Call) (i : ℕ)
    (Change : OpenedDirectory → OpenedDirectory → Type 0)
    → Holds s calls → IsSound calls → ChangesAt i Change s.directories.items es
    → ((d : OpenedDirectory) → (length d.path ≡ i → ⊥) → (d.path ≡ path_of calls d.token) → IsApart c d)
    → ((b d : OpenedDirectory) → slice_get s.directories.items i ≡ Some b → IsDirectoryOf calls b → Change b d
    → IsDirectoryOf (calls ++ c ∷ []) d)
    → AreDirectories es (calls ++ c ∷ [])
changed_at_place s es calls c i Change h sound change apart here j d e = by (nat_eq j i) refl
  where
    by : (b : Bool) → nat_eq j i ≡ b → IsDirectoryOf (calls ++ c ∷ []) d
    by true q =
        let r = change.changed d (ap (slice_get es) (sym (eqb-true j i q)) ∙ e) in
        here r.0 d r.1 (h.directories i r.0 r.1) r.2
    by false q =
        let elsewhere : (j ≡ i → ⊥) = λ k. true≢false (sym (eq-eqb j i k) ∙ q) in
        let old = change.others j d e elsewhere in
        directory_still calls c d
        (apart d (λ k. elsewhere (sym (depth_held s calls j d h sound old) ∙ k)) (path_held s calls j d h sound old))
        (h.directories j d old)

-- ---- an entry opened

-- the call opens or adds just this entry
pub record IsOpenOf (c : Call) (q : Path) : Type 0 where
  pub opens : (p : Path) → opens_entry p c ≡ path_eq q p
  pub no_delete : (p : Path) → deletes p c ≡ false
  pub no_change : (t : ℕ) → changes_dir t c ≡ false

pub record IsEntryOf (b : OpenedDirectory) (q : Path) : Type 0 where
  pub path : b.path ≡ parent q
  pub entry : child (parent q) (entry_name q) ≡ q

-- the names of the directory after an entry of it is opened
opened_names : (calls : List Call) (c : Call) (q : Path) (b d : OpenedDirectory) → IsOpenOf c q → IsEntryOf b q
    → InsertsOpened (entry_name q) b d → IsDirectoryOf calls b → (n : List ℕ)
    → list_any (opens_entry (child d.path n)) (calls ++ c ∷ []) ≡ has_name d.opened n
opened_names calls c q b d o e change was n =
    let same : d.path ≡ b.path = ap (λ p. p.1) change.shown in
    any_push (opens_entry (child d.path n)) calls c
    ∙ ap (λ (p : Path). list_any (opens_entry (child p n)) calls || opens_entry (child p n) c) same
    ∙ ap (λ x. x || opens_entry (child b.path n) c) (was.opened n)
    ∙ ap (λ x. has_name b.opened n || x)
    (o.opens (child b.path n) ∙ ap (λ (p : Path). path_eq p (child b.path n)) (sym e.entry)
    ∙ ap (λ (p : Path). path_eq (child (parent q) (entry_name q)) (child p n)) e.path
    ∙ path_eq-children (parent q) (entry_name q) n)
    ∙ sym (change.opened n)

still_deleted : (calls : List Call) (c : Call) (q : Path) (b d : OpenedDirectory) → IsOpenOf c q → InsertsOpened (entry_name q) b d
    → IsDirectoryOf calls b → (n : List ℕ) → list_any (deletes (child d.path n)) (calls ++ c ∷ []) ≡ has_name d.deleted n
still_deleted calls c q b d o change was n =
    any_still (deletes (child d.path n)) calls c (o.no_delete (child d.path n))
    ∙ ap (λ (p : Path). list_any (deletes (child p n)) calls) (ap (λ p. p.1) change.shown) ∙ was.deleted n
    ∙ ap (λ (x : List (List ℕ)). has_name x n) (sym change.deleted)

not_changed_late : (calls : List Call) (c : Call) (t : ℕ) → changes_dir t c ≡ false
    → changed_late (calls ++ c ∷ []) t ≡ changed_late calls t
not_changed_late calls c t h =
    late_more calls c t ∙ ap (λ b. changed_late calls t || list_any (opens_subdirectory t) calls && b) h
    ∙ ap (λ b. changed_late calls t || b) (and-false (list_any (opens_subdirectory t) calls)) ∙ or-false (changed_late calls t)

-- a file is opened in the directory
file_in : (calls : List Call) (c : Call) (q : Path) (b d : OpenedDirectory) → IsOpenOf c q → ((t : ℕ) → opens_subdirectory t c ≡ false)
    → IsEntryOf b q → InsertsOpened (entry_name q) b d → IsDirectoryOf calls b → IsDirectoryOf (calls ++ c ∷ []) d
file_in calls c q b d o none e change was =
    let number : d.token ≡ b.token = ap (λ p. p.0) change.shown in
    record {
      subdirectory =
          any_still (opens_subdirectory d.token) calls c (none d.token) ∙ ap (λ t. list_any (opens_subdirectory t) calls) number
          ∙ was.subdirectory ∙ sym change.subdirectory;
      late = not_changed_late calls c d.token (o.no_change d.token) ∙ ap (changed_late calls) number ∙ was.late ∙ sym change.late;
      opened = opened_names calls c q b d o e change was;
      deleted = still_deleted calls c q b d o change was;
    }

-- a directory is opened in the directory
directory_in : (calls : List Call) (c : Call) (q : Path) (a b d : OpenedDirectory) → IsOpenOf c q → opens_subdirectory b.token c ≡ true
    → IsEntryOf a q → InsertsOpened (entry_name q) a b → d ≡ with_subdirectory b → IsDirectoryOf calls a → IsDirectoryOf (calls ++ c ∷ []) d
directory_in calls c q a b d o some e change mark was =
    subst (IsDirectoryOf (calls ++ c ∷ [])) (sym mark) record {
      subdirectory =
          any_push (opens_subdirectory b.token) calls c ∙ ap (λ x. list_any (opens_subdirectory b.token) calls || x) some
          ∙ or-true (list_any (opens_subdirectory b.token) calls);
      late =
          not_changed_late calls c b.token (o.no_change b.token) ∙ ap (changed_late calls) (ap (λ p. p.0) change.shown) ∙ was.late
          ∙ sym change.late;
      opened = opened_names calls c q a b o e change was;
      deleted = still_deleted calls c q a b o change was;
    }

-- a directory that doesn't have the entry
apart_open : (c : Call) (q : Path) (d : OpenedDirectory) → IsOpenOf c q → opens_subdirectory d.token c ≡ false
    → (length d.path ≡ length (parent q) → ⊥) → IsApart c d
apart_open c q d o none far = record {
  subdirectory = none;
  change = o.no_change d.token;
  opened = λ n. o.opens (child d.path n) ∙ other_entry q d.path n far;
  deleted = λ n. o.no_delete (child d.path n);
}

entry_in : (s : OrderCheck) (calls : List Call) (t : ℕ) (q : Path) (b : OpenedDirectory) → IsParent s calls t q
    → slice_get s.directories.items (length (parent q)) ≡ Some b → IsEntryOf b q
entry_in s calls t q b p e =
    let same : p.directory ≡ b = same_Some p.directory b (sym p.is ∙ e) in
    record { path = ap (λ d. d.path) (sym same) ∙ p.path; entry = ap (λ (r : Path). child r (entry_name q)) (sym p.path) ∙ p.entry }

pub file_opened : (s : OrderCheck) (es : List OpenedDirectory) (calls : List Call) (c : Call) (t : ℕ) (q : Path) → Holds s calls
    → IsSound calls → IsParent s calls t q → IsOpenOf c q → ((t : ℕ) → opens_subdirectory t c ≡ false)
    → ChangesAt (length (parent q)) (InsertsOpened (entry_name q)) s.directories.items es → AreDirectories es (calls ++ c ∷ [])
file_opened s es calls c t q h sound p o none change =
    changed_at_place s es calls c (length (parent q)) (InsertsOpened (entry_name q)) h sound change
    (λ d far path. apart_open c q d o (none d.token) far)
    (λ b d at was inserts. file_in calls c q b d o none (entry_in s calls t q b p at) inserts was)

-- ---- an entry deleted

pub entry_deleted : (s : OrderCheck) (es : List OpenedDirectory) (calls : List Call) (q : Path) (rev t : ℕ) → Holds s calls → IsSound calls
    → IsParent s calls t q → ChangesAt (length (parent q)) (InsertsDeleted (entry_name q)) s.directories.items es
    → AreDirectories es (calls ++ DeleteEntry q rev t ∷ [])
entry_deleted s es calls q rev t h sound p change =
    changed_at_place s es calls (DeleteEntry q rev t) (length (parent q)) (InsertsDeleted (entry_name q)) h sound change
    (λ d far path. record { subdirectory = refl; change = refl; opened = λ n. refl; deleted = λ n. other_entry q d.path n far })
    here
  where
    here : (b d : OpenedDirectory) → slice_get s.directories.items (length (parent q)) ≡ Some b → IsDirectoryOf calls b
        → InsertsDeleted (entry_name q) b d → IsDirectoryOf (calls ++ DeleteEntry q rev t ∷ []) d
    here b d at was inserts =
        let e = entry_in s calls t q b p at in
        let number : d.token ≡ b.token = ap (λ p. p.0) inserts.shown in
        let same : d.path ≡ b.path = ap (λ p. p.1) inserts.shown in
        record {
          subdirectory =
              any_still (opens_subdirectory d.token) calls (DeleteEntry q rev t) refl
              ∙ ap (λ n. list_any (opens_subdirectory n) calls) number ∙ was.subdirectory ∙ sym inserts.subdirectory;
          late = not_changed_late calls (DeleteEntry q rev t) d.token refl ∙ ap (changed_late calls) number ∙ was.late ∙ sym inserts.late;
          opened =
              λ n. any_still (opens_entry (child d.path n)) calls (DeleteEntry q rev t) refl
              ∙ ap (λ (r : Path). list_any (opens_entry (child r n)) calls) same ∙ was.opened n
              ∙ ap (λ (x : List (List ℕ)). has_name x n) (sym inserts.opened);
          deleted = λ n. any_push (deletes (child d.path n)) calls (DeleteEntry q rev t)
              ∙ ap (λ (r : Path). list_any (deletes (child r n)) calls || path_eq q (child r n)) same
              ∙ ap (λ x. x || path_eq q (child b.path n)) (was.deleted n)
              ∙ ap (λ x. has_name b.deleted n || x)
              (ap (λ (r : Path). path_eq r (child b.path n)) (sym e.entry)
              ∙ ap (λ (r : Path). path_eq (child (parent q) (entry_name q)) (child r n)) e.path
              ∙ path_eq-children (parent q) (entry_name q) n)
              ∙ sym (inserts.deleted n);
        }

-- ---- a property changed

-- the last directory has the innermost token
innermost_token : (s : OrderCheck) (calls : List Call) (t : ℕ) → Holds s calls → IsSound calls → (k : IsKnown calls t Directory)
    → number_eq (innermost calls) (Some t) ≡ true → (b : OpenedDirectory)
    → slice_get s.directories.items (length s.directories.items - 1) ≡ Some b → b.token ≡ t
innermost_token s calls t h sound k inner b at =
    let d = held s calls t h sound k in
    let place = innermost_place s calls t h sound k inner in
    ap (λ x. x.token) (same_Some b d.directory (sym at ∙ ap (slice_get s.directories.items) (sym place) ∙ d.is)) ∙ d.token

pub prop_changed : (s : OrderCheck) (es : List OpenedDirectory) (calls : List Call) (t : ℕ) (name : List ℕ) (value : Option (List ℕ))
    → Holds s calls → IsSound calls → (k : IsKnown calls t Directory) → number_eq (innermost calls) (Some t) ≡ true
    → ChangesAt (length s.directories.items - 1) (λ b d. d ≡ with_change b) s.directories.items es
    → AreDirectories es (calls ++ ChangeDirProp t name value ∷ [])
prop_changed s es calls t name value h sound k inner change =
    changed_at_place s es calls (ChangeDirProp t name value) (length s.directories.items - 1) (λ b d. d ≡ with_change b) h sound change
    (λ d far path. record { subdirectory = refl; change = other d far path; opened = λ n. refl; deleted = λ n. refl })
    here
  where
    place : length (path_of calls t) ≡ length s.directories.items - 1
    place = innermost_place s calls t h sound k inner

    other : (d : OpenedDirectory) → (length d.path ≡ length s.directories.items - 1 → ⊥) → d.path ≡ path_of calls d.token
        → nat_eq t d.token ≡ false
    other d far path = false_from_ne_true (nat_eq t d.token)
        (λ q. far (ap length (path ∙ ap (path_of calls) (sym (eqb-true t d.token q))) ∙ place))

    here : (b d : OpenedDirectory) → slice_get s.directories.items (length s.directories.items - 1) ≡ Some b → IsDirectoryOf calls b
        → d ≡ with_change b → IsDirectoryOf (calls ++ ChangeDirProp t name value ∷ []) d
    here b d at was mark =
        let this = innermost_token s calls t h sound k inner b at in
        subst (IsDirectoryOf (calls ++ ChangeDirProp t name value ∷ [])) (sym mark) record {
          subdirectory = any_still (opens_subdirectory b.token) calls (ChangeDirProp t name value) refl ∙ was.subdirectory;
          late = late_more calls (ChangeDirProp t name value) b.token
              ∙ ap (λ x. changed_late calls b.token || list_any (opens_subdirectory b.token) calls && x) (eq-eqb t b.token (sym this))
              ∙ ap (λ x. changed_late calls b.token || x) (and_true (list_any (opens_subdirectory b.token) calls))
              ∙ ap (λ x. x || list_any (opens_subdirectory b.token) calls) was.late ∙ ap (λ x. b.is_changed_late || x) was.subdirectory;
          opened = λ n. any_still (opens_entry (child b.path n)) calls (ChangeDirProp t name value) refl ∙ was.opened n;
          deleted = λ n. any_still (deletes (child b.path n)) calls (ChangeDirProp t name value) refl ∙ was.deleted n;
        }
      where
        and_true : (a : Bool) → (a && true) ≡ a
        and_true true = refl
        and_true false = refl

-- ---- a directory opened

-- what was never given or named before, of the entries of an entry that is opened now
new_directory : (calls : List Call) (c : Call) (q : Path) (t : ℕ) (d : OpenedDirectory) → IsSound calls → IsOpenOf c q → IsNew q t d
    → list_any (opens_entry q) calls ≡ false → t ≡ length (all_given calls) → opens_subdirectory t c ≡ false
    → IsDirectoryOf (calls ++ c ∷ []) d
new_directory calls c q t d sound o new fresh number none =
    let token : d.token ≡ t = ap (λ p. p.0) new.shown in
    let path : d.path ≡ q = ap (λ p. p.1) new.shown in
    let childless : list_any (opens_subdirectory t) calls ≡ false = new_childless calls t sound (omega arith) in
    record {
      subdirectory =
          ap (λ x. list_any (opens_subdirectory x) (calls ++ c ∷ [])) token ∙ any_still (opens_subdirectory t) calls c none ∙ childless
          ∙ sym new.no_subdirectory;
      late =
          ap (changed_late (calls ++ c ∷ [])) token ∙ not_changed_late calls c t (o.no_change t) ∙ late_none calls t childless
          ∙ sym new.not_late;
      opened = λ n. ap (λ (p : Path). list_any (opens_entry (child p n)) (calls ++ c ∷ [])) path
          ∙ any_still (opens_entry (child q n)) calls c (o.opens (child q n) ∙ path_eq-child q n)
          ∙ any_weaker (opens_entry (child q n)) (touches (child q n)) calls (opens_touches q n) (sound.entries_in q n fresh)
          ∙ ap (λ (s : List (List ℕ)). has_name s n) (sym new.opened);
      deleted = λ n. ap (λ (p : Path). list_any (deletes (child p n)) (calls ++ c ∷ [])) path
          ∙ any_still (deletes (child q n)) calls c (o.no_delete (child q n))
          ∙ any_weaker (deletes (child q n)) (touches (child q n)) calls (deletes_touches q n) (sound.entries_in q n fresh)
          ∙ ap (λ (s : List (List ℕ)). has_name s n) (sym new.deleted);
    }
  where
    deletes_touches : (q : Path) (n : List ℕ) (x : Call) → deletes (child q n) x ≡ true → touches (child q n) x ≡ true
    deletes_touches q n (DeleteEntry path rev parent) e = e
    deletes_touches q n _ e = absurd (true≢false (sym e))

-- the root is opened, and nothing was open
pub root_opened : (s : OrderCheck) (es : List OpenedDirectory) (calls : List Call) (base t : ℕ) → Holds s calls → IsSound calls
    → list_any (opens_entry []) calls ≡ false → t ≡ length (all_given calls) → length s.directories.items ≡ 0
    → Opens s.directories.items [] t es → AreDirectories es (calls ++ OpenRoot base t ∷ [])
root_opened s es calls base t h sound fresh number none opens i d e =
    by (slice_get_push_cases s.directories.items opens.0 i d (ap (λ xs. slice_get xs i) (sym opens.2) ∙ e))
  where
    by : (slice_get s.directories.items i ≡ Some d) ⊎ ((i ≡ length s.directories.items) × (opens.0 ≡ d))
        → IsDirectoryOf (calls ++ OpenRoot base t ∷ []) d
    by (inl old) = let l : i < length s.directories.items = slice_get_within s.directories.items i d old in absurd (omega arith)
    by (inr new) = subst (IsDirectoryOf (calls ++ OpenRoot base t ∷ [])) new.1
        (new_directory calls (OpenRoot base t) [] t opens.0 sound record { opens = λ p. refl; no_delete = λ p. refl; no_change = λ n. refl }
        opens.1 fresh number refl)

-- a directory is opened in the innermost one
pub directory_opened : (s : OrderCheck) (es : List OpenedDirectory) (calls : List Call) (c : Call) (m t : ℕ) (q : Path) → Holds s calls
    → IsSound calls → IsParent s calls m q → (k : IsKnown calls m Directory) → number_eq (innermost calls) (Some m) ≡ true → IsOpenOf c q
    → ((n : ℕ) → opens_subdirectory n c ≡ nat_eq m n) → list_any (opens_entry q) calls ≡ false → t ≡ length (all_given calls)
    → Enters q t s.directories.items es → AreDirectories es (calls ++ c ∷ [])
directory_opened s es calls c m t q h sound p k inner o below fresh number enters i d e =
    by (slice_get_push_cases enters.marked enters.opened.0 i d (ap (λ xs. slice_get xs i) (sym enters.opened.2) ∙ e))
  where
    entered : ChangesAt (length (parent q)) (InsertsOpened (entry_name q)) s.directories.items enters.entered
    entered = enters.entry p.below_root

    same_count : length enters.entered ≡ length s.directories.items
    same_count = sym (length-map enters.entered shown) ∙ ap length entered.shown ∙ length-map s.directories.items shown

    last : length (parent q) ≡ length enters.entered - 1
    last =
        let place = innermost_place s calls m h sound k inner in
        let depth : length (parent q) ≡ length (path_of calls m) =
        ap length (sym p.path ∙ path_held s calls (length (parent q)) p.directory h sound p.is ∙ ap (path_of calls) p.token) in
        omega (arith, same_count)

    known_before : m < length (all_given calls)
    known_before = slice_get_within (all_given calls) m k.given_as k.is

    old_here : slice_get enters.marked i ≡ Some d → (b : Bool) → nat_eq i (length (parent q)) ≡ b → IsDirectoryOf (calls ++ c ∷ []) d
    old_here old true at =
        let place : i ≡ length (parent q) = eqb-true i (length (parent q)) at in
        let r = enters.subdirectory.changed d (ap (slice_get enters.marked) (sym (place ∙ last)) ∙ old) in
        let w = entered.changed r.0 (ap (slice_get enters.entered) last ∙ r.1) in
        let this : w.0.token ≡ m = ap (λ x. x.token) (same_Some w.0 p.directory (sym w.1 ∙ p.is)) ∙ p.token in
        let marked : r.0.token ≡ m = ap (λ x. x.0) w.2.shown ∙ this in
        directory_in calls c q w.0 r.0 d o (below r.0.token ∙ eq-eqb m r.0.token (sym marked)) (entry_in s calls m q w.0 p w.1) w.2 r.2
        (h.directories (length (parent q)) w.0 w.1)
    old_here old false at =
        let far : (i ≡ length (parent q) → ⊥) = λ x. true≢false (sym (eq-eqb i (length (parent q)) x) ∙ at) in
        let before = entered.others i d (enters.subdirectory.others i d old (λ x. far (x ∙ sym last))) far in
        let depth = depth_held s calls i d h sound before in
        let path = path_held s calls i d h sound before in
        let other : nat_eq m d.token ≡ false = false_from_ne_true (nat_eq m d.token)
        (λ x. far (sym depth ∙ ap length (path ∙ ap (path_of calls) (sym (eqb-true m d.token x)))
        ∙ innermost_place s calls m h sound k inner
        ∙ ap (λ y. y - 1) (sym same_count) ∙ sym last)) in
        directory_still calls c d (apart_open c q d o (below d.token ∙ other) (λ x. far (sym depth ∙ x))) (h.directories i d before)

    by : (slice_get enters.marked i ≡ Some d) ⊎ ((i ≡ length enters.marked) × (enters.opened.0 ≡ d)) → IsDirectoryOf (calls ++ c ∷ []) d
    by (inl old) = old_here old (nat_eq i (length (parent q))) refl
    by (inr new) = subst (IsDirectoryOf (calls ++ c ∷ [])) new.1
        (new_directory calls c q t enters.opened.0 sound o enters.opened.1 fresh number
        (below t ∙ false_from_ne_true (nat_eq m t) (λ x. let y : m ≡ t = eqb-true m t x in absurd (omega (arith, known_before)))))

-- ---- a directory closed

pub directory_closed : (s : OrderCheck) (es : List OpenedDirectory) (calls : List Call) (t : ℕ) → Holds s calls
    → es ≡ without_last s.directories.items → AreDirectories es (calls ++ CloseDirectory t ∷ [])
directory_closed s es calls t h less i d e =
    directory_still calls (CloseDirectory t) d record { subdirectory = refl; change = refl; opened = λ n. refl; deleted = λ n. refl }
    (h.directories i d (slice_get_from_take (length s.directories.items - 1) s.directories.items i d
    (ap (λ xs. slice_get xs i) (sym less) ∙ e)))

-- ---- what the directories show

pub shown_more : (ds es : List OpenedDirectory) (gs : List Given) (g : Given) (t : ℕ) (p : Path) → map shown ds ≡ map token_and_path gs
    → token_and_path g ≡ (t, p) → Opens ds p t es → map shown es ≡ map token_and_path (gs ++ g ∷ [])
shown_more ds es gs g t p h e opens =
    ap (map shown) opens.2 ∙ map-append shown ds (opens.0 ∷ []) ∙ ap (λ xs. xs ++ shown opens.0 ∷ []) h
    ∙ ap (λ x. map token_and_path gs ++ x ∷ []) (opens.1.shown ∙ sym e)
    ∙ sym (map-append token_and_path gs (g ∷ []))

pub shown_less : (ds es : List OpenedDirectory) (gs : List Given) (g : Given) → map shown ds ≡ map token_and_path (gs ++ g ∷ [])
    → es ≡ without_last ds → map shown es ≡ map token_and_path gs
shown_less ds es gs g h less =
    ap (map shown) less ∙ sym (take-map shown (length ds - 1) ds) ∙ ap (take (length ds - 1)) (h ∙ map-append token_and_path gs (g ∷ []))
    ∙ take_at (map token_and_path gs) (token_and_path g ∷ []) (length ds - 1) count
  where
    count : length (map token_and_path gs) ≡ length ds - 1
    count =
        let a = same_length ds (gs ++ g ∷ []) h in
        let b = length-append gs (g ∷ []) in
        let c = length-map gs token_and_path in
        omega arith
