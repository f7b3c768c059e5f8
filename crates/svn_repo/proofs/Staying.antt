-- What no change removes stays, and keeps its line: the law of lines.
use Rattle.std.proofs.Common.{◌≡◌, ℕ, Bool, true, false, cond, List, [], ◌∷◌, ◌++◌, append_assoc, length, refl, Option, Some, None, subst}
use Rattle.std.proofs.Common.{sym, ap, ◌∙◌, append-nil}
use Rattle.std.specs.Prelude.{nat_lt}
use Rattle.std.specs.List.{list_any, slice_get}
use Rattle.std.specs.Option.{option_and_then, option_map, option_or, is_some}
use Rattle.std.proofs.lemmas.Bool.{eq-eqb, or_parts}
use Rattle.std.proofs.lemmas.List.Folds.{list_any-append}
use Rattle.std.proofs.lemmas.Option.{slice_get_within}
use Rattle.svn_lists.proofs.Options.{and_then_parts, option_or_none}
use Rattle.svn_types.specs.declared.kind.Kind.{Kind}
use Rattle.svn_types.specs.declared.kind.Kind.TheVariants.{File, Directory}
use Rattle.svn_repo.specs.declared.change.Change.{Change}
use Rattle.svn_repo.specs.declared.change.Change.TheVariants.{MakeDir, PutFile, SetProp, Remove, CopyFrom}
use Rattle.svn_repo.specs.declared.change.CommitFault.{CommitFault}
use Rattle.svn_repo.specs.declared.change.CommitFault.TheVariants.{Exists, NotFile}
use Rattle.svn_types.specs.Names.{Path}
use Rattle.svn_repo.specs.History.{History, NodeRow, Nodes, node_at, child_in, walk, look}
use Rattle.svn_repo.specs.Readings.{IsHistory, row_or_empty, line_of, kind_of, are_related}
use Rattle.svn_repo.specs.Walks.{rest_below, led}
use Rattle.svn_repo.specs.Trees.{Place, Tree, place_of, place_at, tree_at, touched, touch, graft, is_within, leaf, nothing, with_prop}
use Rattle.svn_repo.specs.Trees.{place_with_prop, is_directory_place}
use Rattle.svn_repo.specs.Changes.{Pending, latest_pending, root_fault, above_fault, fault_if, depth_fault, size_fault, file_fault_at}
use Rattle.svn_repo.specs.Changes.{directory_fault_at, copy_fault, copy_depth_fault, walk_fault, revision_fault, change_fault}
use Rattle.svn_repo.specs.Changes.{changes_fault, after_change, after_changes, with_text, IsCommit, IsRevision, StandsIn}
use Rattle.svn_repo.specs.Laws.{ChangesKeepLines, AreCommits, NodesExist, no_commit, one_more, latest_of, removes}
use Rattle.svn_repo.proofs.Walking.{walk-append, rest_below_is}
use Rattle.svn_repo.proofs.Faults.{some_directory}
use Rattle.svn_repo.proofs.Meanings.{rest_below_append, some_row, latest_after, stays}

-- something of the line and the kind of x is there
abbrev Keeps : Option Place → Place → Type 0
Keeps o x = (y : Place) × (o ≡ Some y) × (y.line ≡ x.line) × (y.kind ≡ x.kind)

-- every place above q is a directory
abbrev AreDirectories : Tree → Path → Type 0
AreDirectories t q = (p : Path) (name : List ℕ) (r : Path) → q ≡ p ++ name ∷ r → is_directory_place (t p) ≡ true

-- a node of the line is at q
abbrev Stands : Tree → Path → ℕ → Type 0
Stands t q line = AreDirectories t q × ((x : Place) × (t q ≡ Some x) × (x.line ≡ line))

-- ---- what a fault rules out

not_free : (o : Option Place) → is_some o ≡ true → fault_if (is_some o) Exists ≡ None → ⊥
not_free o e f = let bad : Some Exists ≡ None = sym (ap (λ b. fault_if b Exists) e) ∙ f in cc

not_directory : (o : Option Place) → is_directory_place o ≡ true → fault_if (is_directory_place o) NotFile ≡ None → ⊥
not_directory o e f = let bad : Some NotFile ≡ None = sym (ap (λ b. fault_if b NotFile) e) ∙ f in cc

free_for_directory : (h : History) (s : Pending) (p : Path) → change_fault h s (MakeDir p) ≡ None
    → fault_if (is_some (s.tree p)) Exists ≡ None
free_for_directory h s p none =
    let a = option_or_none (root_fault p) (directory_fault_at s.tree p) none in
    let b = option_or_none (above_fault s.tree p) (option_or (fault_if (is_some (s.tree p)) Exists) (depth_fault p)) a.1 in
    (option_or_none (fault_if (is_some (s.tree p)) Exists) (depth_fault p) b.1).0

free_for_copy : (h : History) (s : Pending) (rev : ℕ) (source p : Path) → change_fault h s (CopyFrom rev source p) ≡ None
    → fault_if (is_some (s.tree p)) Exists ≡ None
free_for_copy h s rev source p none =
    let a = option_or_none (root_fault p) (copy_fault h s.tree rev source p) none in
    let rest : Option CommitFault = option_or (fault_if (is_some (s.tree p)) Exists) (copy_depth_fault (node_at h) (look h rev source) p) in
    let b = option_or_none (revision_fault h rev)
    (option_or (walk_fault (tree_at h rev) source) (option_or (above_fault s.tree p) rest)) a.1 in
    let c = option_or_none (walk_fault (tree_at h rev) source) (option_or (above_fault s.tree p) rest) b.1 in
    let d = option_or_none (above_fault s.tree p) rest c.1 in
    (option_or_none (fault_if (is_some (s.tree p)) Exists) (copy_depth_fault (node_at h) (look h rev source) p) d.1).0

free_for_text : (h : History) (s : Pending) (p : Path) (text : List ℕ) → change_fault h s (PutFile p text) ≡ None
    → fault_if (is_directory_place (s.tree p)) NotFile ≡ None
free_for_text h s p text none =
    let a = option_or_none (root_fault p) (option_or (size_fault text) (file_fault_at s.tree p)) none in
    let b = option_or_none (size_fault text) (file_fault_at s.tree p) a.1 in
    let c = option_or_none (above_fault s.tree p) (option_or (fault_if (is_directory_place (s.tree p)) NotFile) (depth_fault p)) b.1 in
    (option_or_none (fault_if (is_directory_place (s.tree p)) NotFile) (depth_fault p) c.1).0

-- ---- kinds

same_kind : (x y : Place) → x.kind ≡ y.kind → is_directory_place (Some x) ≡ is_directory_place (Some y)
same_kind x y e = rw e refl

directory_of : (x : Place) → x.kind ≡ Directory → is_directory_place (Some x) ≡ true
directory_of x e = rw e refl

file_by : (x : Place) (k : Kind) → x.kind ≡ k → fault_if (is_directory_place (Some x)) NotFile ≡ None → File ≡ x.kind
file_by x File e f = sym e
file_by x Directory e f = absurd (not_directory (Some x) (directory_of x e) f)

directory_stands : (o : Option Place) → is_directory_place o ≡ true → (x : Place) × (o ≡ Some x)
directory_stands None e = let bad : false ≡ true = e in cc
directory_stands (Some x) e = (x, refl)

-- ---- one place and one graft

touch_keeps : (b : Bool) (o : Option Place) (x : Place) → o ≡ Some x → Keeps (cond b (option_map touched o) o) x
touch_keeps b None x e = cc
touch_keeps true (Some z) x e = let s : z ≡ x = cc in (touched z, refl, ap (λ p. p.line) s, ap (λ p. p.kind) s)
touch_keeps false (Some z) x e = let s : z ≡ x = cc in (z, refl, ap (λ p. p.line) s, ap (λ p. p.kind) s)

text_keeps : (lines : ℕ) (o : Option Place) (text : List ℕ) (x : Place) → o ≡ Some x → fault_if (is_directory_place o) NotFile ≡ None
    → Keeps (Some (with_text lines o text)) x
text_keeps lines None text x e f = cc
text_keeps lines (Some z) text x e f =
    let s : z ≡ x = cc in (
      with_text lines (Some z) text,
      refl,
      ap (λ p. p.line) s,
      file_by x x.kind refl
          (subst (λ (p : Place). fault_if (is_directory_place (Some p)) NotFile ≡ None) s f),
    )

prop_keeps : (name : List ℕ) (value : Option (List ℕ)) (o : Option Place) (x : Place) → o ≡ Some x
    → Keeps (option_map (place_with_prop name value) o) x
prop_keeps name value None x e = cc
prop_keeps name value (Some z) x e = let s : z ≡ x = cc in (place_with_prop name value z, refl, ap (λ p. p.line) s, ap (λ p. p.kind) s)

graft_keeps : (t : Tree) (p : Path) (part : Tree) (q : Path) (x : Place) → ((r : Path) → q ≡ p ++ r → Keeps (part r) x) → t q ≡ Some x
    → Keeps (graft t p part q) x
graft_keeps t p part q x inner e = by (rest_below p q) refl
  where
    by : (o : Option Path) → rest_below p q ≡ o → Keeps (led o part (touch t p q)) x
    by None r = touch_keeps (is_within q p) (t q) x e
    by (Some rest) r = inner rest (rest_below_is p q rest r)

-- the place at the end of the way is that at the path
at_end : (t : Tree) (q p : Path) (x : Place) → t q ≡ Some x → q ≡ p ++ [] → t p ≡ Some x
at_end t q p x e is = ap t (sym (append-nil p) ∙ sym is) ∙ e

occupied : (t : Tree) (q p r : Path) (x : Place) → AreDirectories t q → t q ≡ Some x → q ≡ p ++ r → is_some (t p) ≡ true
occupied t q p [] x above e is = ap is_some (at_end t q p x e is)
occupied t q p (m ∷ r) x above e is = some_directory (t p) (above p m r is)

-- ---- one change

within_append : (p r : Path) → is_within p (p ++ r) ≡ true
within_append p r = ap is_some (rest_below_append p r)

not_within : (p q r : Path) → q ≡ p ++ r → is_within p q ≡ false → ⊥
not_within p q r is e = let bad : true ≡ false = sym (within_append p r) ∙ ap (is_within p) (sym is) ∙ e in cc

kept_at : (h : History) (s : Pending) (c : Change) (q : Path) (x : Place) → change_fault h s c ≡ None → removes q c ≡ false
    → AreDirectories s.tree q → s.tree q ≡ Some x → Keeps ((after_change h s c).tree q) x
kept_at h s (MakeDir p) q x none left above e =
    graft_keeps s.tree p _ q x (λ r is. absurd (not_free (s.tree p) (occupied s.tree q p r x above e is) (free_for_directory h s p none))) e
kept_at h s (PutFile p text) q x none left above e = graft_keeps s.tree p (leaf (with_text s.lines (s.tree p) text)) q x at e
  where
    at : (r : Path) → q ≡ p ++ r → Keeps (leaf (with_text s.lines (s.tree p) text) r) x
    at [] is = text_keeps s.lines (s.tree p) text x (at_end s.tree q p x e is) (free_for_text h s p text none)
    at (m ∷ r) is = absurd (not_directory (s.tree p) (above p m r is) (free_for_text h s p text none))
kept_at h s (SetProp p name value) q x none left above e = graft_keeps s.tree p (with_prop s.tree p name value) q x at e
  where
    at : (r : Path) → q ≡ p ++ r → Keeps (with_prop s.tree p name value r) x
    at [] is = prop_keeps name value (s.tree p) x (at_end s.tree q p x e is)
    at (m ∷ r) is = (x, ap s.tree (sym is) ∙ e, refl, refl)
kept_at h s (Remove p) q x none left above e = graft_keeps s.tree p nothing q x (λ r is. absurd (not_within p q r is left)) e
kept_at h s (CopyFrom rev source p) q x none left above e =
    graft_keeps s.tree p _ q x (λ r is. absurd (not_free (s.tree p) (occupied s.tree q p r x above e is)
    (free_for_copy h s rev source p none))) e

-- what removes no node at or above a path removes none at or above a path above it
removes_above : (p r : Path) (c : Change) → removes (p ++ r) c ≡ false → removes p c ≡ false
removes_above p r (MakeDir path) e = refl
removes_above p r (PutFile path text) e = refl
removes_above p r (SetProp path name value) e = refl
removes_above p r (Remove path) e = by (rest_below path p) refl
  where
    by : (o : Option Path) → rest_below path p ≡ o → is_some o ≡ false
    by None f = refl
    by (Some z) f = absurd (not_within path (p ++ r) (z ++ r) (ap (λ (v : Path). v ++ r) (rest_below_is path p z f)
        ∙ append_assoc path z r) e)
removes_above p r (CopyFrom rev source path) e = refl

above_kept : (h : History) (s : Pending) (c : Change) (q : Path) → change_fault h s c ≡ None → removes q c ≡ false → AreDirectories s.tree q
    → AreDirectories (after_change h s c).tree q
above_kept h s c q none left above p name r is =
    let z = directory_stands (s.tree p) (above p name r is) in
    let aside : removes p c ≡ false = removes_above p (name ∷ r) c (subst (λ (v : Path). removes v c ≡ false) is left) in
    let upper : AreDirectories s.tree p = λ a n b e. above a n (b ++ name ∷ r) (is ∙ ap (λ (v : Path). v ++ name ∷ r) e
    ∙ append_assoc a (n ∷ b) (name ∷ r)) in
    let k = kept_at h s c p z.0 none aside upper z.1 in
    ap is_directory_place k.1 ∙ same_kind k.0 z.0 k.3 ∙ ap is_directory_place (sym z.1) ∙ above p name r is

-- ---- the changes of a commit

all_kept : (h : History) (s : Pending) (cs : List Change) (q : Path) (line : ℕ) → changes_fault h s cs ≡ None
    → list_any (removes q) cs ≡ false → Stands s.tree q line → Stands (after_changes h s cs).tree q line
all_kept h s [] q line none left stands = stands
all_kept h s (c ∷ cs) q line none left stands =
    let f = option_or_none (change_fault h s c) (changes_fault h (after_change h s c) cs) none in
    let n = or_parts (removes q c) (list_any (removes q) cs) left in
    let x = stands.1 in
    let k = kept_at h s c q x.0 f.0 n.0 stands.0 x.1 in
    all_kept h (after_change h s c) cs q line f.1 n.1 (above_kept h s c q f.0 n.0 stands.0, (k.0, k.1, k.2 ∙ x.2))

-- what is in a revision, as a place of its tree
place_in : (h mid : History) (r : ℕ) (q : Path) (y : Place) → StandsIn h mid r q (Some y) → Keeps (tree_at mid r q) y
place_in h mid r q y stands =
    let n : ℕ = stands.0 in
    let row : NodeRow = stands.1 in
    let number : Option ℕ = cond (nat_lt n (length mid.nodes)) (Some n) None in (
      place_of number row,
      ap (option_and_then (place_at (node_at mid) (length mid.nodes))) stands.2
          ∙ ap (option_map (place_of number)) stands.3,
      stands.5.0,
      stands.5.1,
    )

stands_after : (h mid : History) (changes : List Change) (q : Path) (line : ℕ) → IsCommit h mid changes
    → list_any (removes q) changes ≡ false → Stands (tree_at h (latest_of h)) q line → Stands (tree_at mid (latest_of mid)) q line
stands_after h mid changes q line commit left stands =
    subst (λ (r : ℕ). Stands (tree_at mid r) q line) (sym (latest_after h mid changes commit)) (above, (here.0, here.1, here.2 ∙ x.2))
  where
    revision : IsRevision h mid (after_changes h (latest_pending h) changes)
    revision = commit.1

    made : Stands (after_changes h (latest_pending h) changes).tree q line
    made = all_kept h (latest_pending h) changes q line commit.0 left stands

    in_revision : (p : Path) (y : Place) → (after_changes h (latest_pending h) changes).tree p ≡ Some y
        → Keeps (tree_at mid (length h.roots) p) y
    in_revision p y e = place_in h mid (length h.roots) p y (subst (StandsIn h mid (length h.roots) p) e (revision.tree p))

    x : (y : Place) × ((after_changes h (latest_pending h) changes).tree q ≡ Some y) × (y.line ≡ line)
    x = made.1

    here : Keeps (tree_at mid (length h.roots) q) x.0
    here = in_revision q x.0 x.1

    above : AreDirectories (tree_at mid (length h.roots)) q
    above p name r is =
        let d = made.0 p name r is in
        let z = directory_stands ((after_changes h (latest_pending h) changes).tree p) d in
        let k = in_revision p z.0 z.1 in
        ap is_directory_place k.1 ∙ same_kind k.0 z.0 k.3 ∙ ap is_directory_place (sym z.1) ∙ d

all_commits : (h h' : History) (changes : List Change) (q : Path) (line : ℕ) → AreCommits h changes h'
    → list_any (removes q) changes ≡ false → Stands (tree_at h (latest_of h)) q line → Stands (tree_at h' (latest_of h')) q line
all_commits h h' changes q line no_commit left stands = stands
all_commits h h' changes q line (one_more mid first rest commit commits) left stands =
    let n = or_parts (list_any (removes q) first) (list_any (removes q) rest) (sym (list_any-append (removes q) first rest) ∙ left) in
    all_commits mid h' rest q line commits n.1 (stands_after h mid first q line commit n.0 stands)

-- ---- what is in a repository

walk_split : (f : Nodes) (n m : ℕ) (p q : Path) → walk f n (p ++ q) ≡ Some m → (k : ℕ) × (walk f n p ≡ Some k) × (walk f k q ≡ Some m)
walk_split f n m p q e = and_then_parts (λ k. walk f k q) (walk f n p) m (sym (walk-append f n p q) ∙ e)

no_child : (row : NodeRow) (name : List ℕ) (c : ℕ) → row.entries ≡ [] → child_in (Some row) name ≡ Some c → ⊥
no_child row name c e f = let bad : None ≡ Some c = sym (ap (λ es. child_in (Some (record row { entries = es })) name) e) ∙ f in cc

module _ (h : History) (history : IsHistory h) (exist : NodesExist h) (r : ℕ) where
  place_here : (p : Path) (k : ℕ) (row : NodeRow) → look h r p ≡ Some k → node_at h k ≡ Some row
      → tree_at h r p ≡ Some (place_of (cond (nat_lt k (length h.nodes)) (Some k) None) row)
  place_here p k row e f = ap (option_and_then (place_at (node_at h) (length h.nodes))) e
      ∙ ap (option_map (place_of (cond (nat_lt k (length h.nodes)) (Some k) None))) f

  directories : (q : Path) (m : ℕ) → look h r q ≡ Some m → AreDirectories (tree_at h r) q
  directories q m e p name rest is =
      let top = and_then_parts (λ n. walk (node_at h) n (p ++ name ∷ rest)) (slice_get h.roots r) m (ap (look h r) (sym is) ∙ e) in
      let k = walk_split (node_at h) top.0 m p (name ∷ rest) top.2 in
      let found : look h r p ≡ Some k.0 = ap (option_and_then (λ n. walk (node_at h) n p)) top.1 ∙ k.1 in
      let row = some_row (node_at h k.0) (exist r p k.0 found) in
      let c = and_then_parts (λ n. walk (node_at h) n rest) (child_in (node_at h k.0) name) m k.2 in
      ap is_directory_place (place_here p k.0 row.0 found row.1)
      ∙ by k.0 row.0 c.0 found row.1 (ap (λ o. child_in o name) (sym row.1) ∙ c.1) row.0.kind refl
    where
      by : (k : ℕ) (row : NodeRow) (c : ℕ) → look h r p ≡ Some k → node_at h k ≡ Some row → child_in (Some row) name ≡ Some c
          → (kind : Kind) → row.kind ≡ kind → is_directory_place
          (Some (place_of (cond (nat_lt k (length h.nodes)) (Some k) None) row)) ≡ true
      by k row c found is_row child Directory e = directory_of (place_of (cond (nat_lt k (length h.nodes)) (Some k) None) row) e
      by k row c found is_row child File e =
          let file : kind_of h k ≡ File = ap (λ o. (row_or_empty o).kind) is_row ∙ e in
          let none : row.entries ≡ [] = ap (λ o. (row_or_empty o).entries) (sym is_row) ∙ history.files_are_leaves r p k found file in
          absurd (no_child row name c none child)

  stands_at : (q : Path) (m : ℕ) → look h r q ≡ Some m → Stands (tree_at h r) q (line_of h m)
  stands_at q m e =
      let row = some_row (node_at h m) (exist r q m e) in (
        directories q m e,
        (
          place_of (cond (nat_lt m (length h.nodes)) (Some m) None) row.0,
          place_here q m row.0 e row.1,
          ap
              (λ o. (row_or_empty o).line) (sym row.1),
        ),
      )

node_standing : (h : History) (r : ℕ) (q : Path) (x : Place) → tree_at h r q ≡ Some x
    → (n : ℕ) × (look h r q ≡ Some n) × (line_of h n ≡ x.line)
node_standing h r q x e =
    let n = and_then_parts (place_at (node_at h) (length h.nodes)) (look h r q) x e in
    (n.0, n.1, by n.0 (node_at h n.0) n.2)
  where
    by : (n : ℕ) (o : Option NodeRow) → option_map (place_of (cond (nat_lt n (length h.nodes)) (Some n) None)) o ≡ Some x
        → (row_or_empty o).line ≡ x.line
    by n None f = cc
    by n (Some row) f = let s : place_of (cond (nat_lt n (length h.nodes)) (Some n) None) row ≡ x = cc in ap (λ p. p.line) s

pub lines : ChangesKeepLines
lines h h' changes q m history exist commits stay e =
    let line : ℕ = line_of h m in
    let row = some_row (node_at h m) (exist (latest_of h) q m e) in
    let stands : Stands (tree_at h' (latest_of h')) q line =
    all_commits h h' changes q line commits stay (stands_at h history exist (latest_of h) q m e) in
    let x = stands.1 in
    let n = node_standing h' (latest_of h') q x.0 x.1 in
    let still : line_of h' m ≡ line = ap (λ o. (row_or_empty o).line)
    ((stays h h' changes commits).1 m (slice_get_within h.nodes m row.0 row.1)) in
    ap (are_related h' (Some m)) n.1 ∙ eq-eqb (line_of h' m) (line_of h' n.0) (still ∙ sym x.2 ∙ sym n.2)
