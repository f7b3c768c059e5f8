-- What a commit makes is within the limits, and of its line's kind: a law of the definitions alone.
use Rattle.std.proofs.Common.{◌≡◌, ℕ, zero, suc, ◌+◌, ◌-◌, ◌<◌, ◌≤◌, Bool, true, false, cond, ◌||◌, List, [], ◌∷◌, ◌++◌, length, refl}
use Rattle.std.proofs.Common.{arith, Option, Some, None, subst, sym, ap, ◌∙◌, append-nil, length-append, inl, inr}
use Rattle.std.specs.Prelude.{nat_lt, nat_eq}
use Rattle.std.specs.List.{All, list_any, slice_get}
use Rattle.std.specs.Map.{values_of}
use Rattle.std.specs.BTreeMap.{is_at}
use Rattle.std.specs.Option.{option_and_then, option_map, option_or, is_some}
use Rattle.std.proofs.lemmas.Bool.{cases_lt, lt-ltb, eq-eqb, ne_eqb}
use Rattle.std.proofs.lemmas.List.Elements.{All-nil}
use Rattle.svn_lists.proofs.Options.{and_then_parts, option_or_none}
use Rattle.svn_types.specs.declared.kind.Kind.{Kind}
use Rattle.svn_types.specs.declared.kind.Kind.TheVariants.{File, Directory}
use Rattle.svn_repo.specs.declared.change.Change.{Change}
use Rattle.svn_repo.specs.declared.change.Change.TheVariants.{MakeDir, PutFile, SetProp, Remove, CopyFrom}
use Rattle.svn_repo.specs.declared.change.CommitFault.{CommitFault}
use Rattle.svn_repo.specs.declared.change.CommitFault.TheVariants.{Exists, NotFile, IsRoot, TooDeep, TooLong}
use Rattle.svn_types.specs.Names.{Path, name_cmp}
use Rattle.svn_types.specs.Pairs.{InNameOrder, value_of}
use Rattle.svn_repo.specs.History.{History, Nodes, NodeRow, node_at, entries_at, child_in, walk, look, reaches}
use Rattle.svn_types.specs.Limits.{path_limit, size_limit}
use Rattle.svn_repo.specs.Walks.{rest_below, led}
use Rattle.svn_repo.specs.Trees.{Place, Tree, place_at, tree_at, touched, touch, graft, is_within, leaf, nothing, with_prop}
use Rattle.svn_repo.specs.Trees.{place_with_prop, is_directory_place}
use Rattle.svn_repo.specs.Stored.{IsLawfulPlace, IsLawfulTree}
use Rattle.svn_repo.specs.Changes.{Pending, root_fault, depth_fault, size_fault, value_fault, above_fault, walk_fault, fault_if}
use Rattle.svn_repo.specs.Changes.{directory_fault_at, file_fault_at, copy_depth_fault, change_fault, after_change, changes_fault}
use Rattle.svn_repo.specs.Changes.{after_changes, new_directory, with_text, lines_after}
use Rattle.svn_repo.proofs.Walking.{walk_on, rest_below_is}
use Rattle.svn_repo.proofs.Pendings.{CanCopy, can_copy}
use Rattle.svn_name_map.proofs.Pairs.{in_order-nil, in_order-with_value, values-with_value}

-- ---- a walk reaches its whole length

found_passes : (es : List (List ℕ × ℕ)) (u : ℕ → Bool) (name : List ℕ) (m : ℕ) → value_of es name ≡ Some m → u m ≡ true
    → list_any (λ e. u e.1) es ≡ true
found_passes [] u name m e h = cc
found_passes (x ∷ es) u name m e h = by (is_at (name_cmp name) x.0) e (found_passes es u name m)
  where
    by : (b : Bool) → cond b (Some x.1) (value_of es name) ≡ Some m
        → (value_of es name ≡ Some m → u m ≡ true → list_any (λ e. u e.1) es ≡ true) → (u x.1 || list_any (λ e. u e.1) es) ≡ true
    by true e rest = let s : x.1 ≡ m = cc in rw (s, h) refl
    by false e rest = rw (rest e h) (or_true (u x.1))
      where
        or_true : (b : Bool) → (b || true) ≡ true
        or_true true = refl
        or_true false = refl

child_passes : (o : Option NodeRow) (u : ℕ → Bool) (name : List ℕ) (m : ℕ) → child_in o name ≡ Some m → u m ≡ true
    → list_any (λ e. u e.1) (entries_at o) ≡ true
child_passes None u name m e h = cc
child_passes (Some row) u name m e h = found_passes row.entries u name m e h

pub walk_reaches : (f : Nodes) (n m : ℕ) (r : Path) → walk f n r ≡ Some m → (j : ℕ) → j ≤ length r → reaches f j n ≡ true
walk_reaches f n m r e zero h = refl
walk_reaches f n m [] e (suc j) h = absurd (omega arith)
walk_reaches f n m (x ∷ r) e (suc j) h =
    let s = and_then_parts (λ c. walk f c r) (child_in (f n) x) m e in
    child_passes (f n) (reaches f j) x s.0 s.1 (walk_reaches f s.0 m r s.2 j (omega arith))

-- ---- a place

pub renumbered : (kinds : ℕ → Kind) (lines : ℕ) (q : Path) (x y : Place) → x.line ≡ y.line → x.kind ≡ y.kind → x.text ≡ y.text
    → x.props ≡ y.props → IsLawfulPlace kinds lines q y → IsLawfulPlace kinds lines q x
renumbered kinds lines q x y line kind text props l = record {
  short = l.short;
  props_in_order = subst InNameOrder (sym props) l.props_in_order;
  props_small = subst (λ (ps : List (List ℕ × List ℕ)). All (λ v. length v ≤ size_limit) (values_of ps)) (sym props) l.props_small;
  text_small = rw text l.text_small;
  line = rw line l.line;
  kind = kind ∙ l.kind ∙ ap kinds (sym line);
  root_line = λ at_root. line ∙ l.root_line at_root;
}

-- the kinds with that of one more line
abbrev with_kind : (ℕ → Kind) → ℕ → Kind → ℕ → Kind
with_kind kinds line kind l = cond (nat_eq l line) kind (kinds l)

old_kind : (kinds : ℕ → Kind) (line : ℕ) (kind : Kind) (l : ℕ) → l < line → with_kind kinds line kind l ≡ kinds l
old_kind kinds line kind l h = ap (λ b. cond b kind (kinds l)) (ne_eqb l line (λ e. absurd (omega arith)))

new_kind : (kinds : ℕ → Kind) (line : ℕ) (kind : Kind) → with_kind kinds line kind line ≡ kind
new_kind kinds line kind = ap (λ b. cond b kind (kinds line)) (eq-eqb line line refl)

widened : (kinds : ℕ → Kind) (lines : ℕ) (kind : Kind) (q : Path) (x : Place) → IsLawfulPlace kinds lines q x
    → IsLawfulPlace (with_kind kinds lines kind) (lines + 1) q x
widened kinds lines kind q x l = record {
  short = l.short;
  props_in_order = l.props_in_order;
  props_small = l.props_small;
  text_small = l.text_small;
  line = omega (arith, l.line);
  kind = l.kind ∙ sym (old_kind kinds lines kind x.line l.line);
  root_line = l.root_line;
}

root_refused : (p q : Path) → root_fault p ≡ None → p ++ q ≡ [] → ⊥
root_refused [] q h e = let bad : Some IsRoot ≡ None = h in cc
root_refused (m ∷ p) q h e = cc

not_the_root : (p : Path) → root_fault p ≡ None → p ≡ [] → ⊥
not_the_root [] h e = let bad : Some IsRoot ≡ None = h in cc
not_the_root (m ∷ p) h e = cc

-- a node with no properties, at a short path that isn't the root
bare : (kinds : ℕ → Kind) (lines : ℕ) (q : Path) (x : Place) → root_fault q ≡ None → length q ≤ path_limit → x.props ≡ []
    → length x.text ≤ size_limit
    → x.line < lines → x.kind ≡ kinds x.line → IsLawfulPlace kinds lines q x
bare kinds lines q x below short props text line kind = record {
  short = short;
  props_in_order = subst InNameOrder (sym props) (in_order-nil (List ℕ));
  props_small = subst (λ (ps : List (List ℕ × List ℕ)). All (λ v. length v ≤ size_limit) (values_of ps)) (sym props)
      (All-nil (λ v. length v ≤ size_limit));
  text_small = text;
  line = line;
  kind = kind;
  root_line = λ at_root. absurd (not_the_root q below at_root);
}

-- ---- a graft

graft_lawful : (kinds : ℕ → Kind) (lines : ℕ) (t : Tree) (p : Path) (part : Tree) → IsLawfulTree kinds lines t
    → ((r : Path) (x : Place) → part r ≡ Some x → IsLawfulPlace kinds lines (p ++ r) x) → IsLawfulTree kinds lines (graft t p part)
graft_lawful kinds lines t p part old new q x = by (rest_below p q) refl
  where
    by_touch : (b : Bool) (o : Option Place) → t q ≡ o → cond b (option_map touched o) o ≡ Some x → IsLawfulPlace kinds lines q x
    by_touch true None r e = cc
    by_touch false None r e = cc
    by_touch true (Some y) r e = let s : touched y ≡ x = cc in
        subst (IsLawfulPlace kinds lines q) s (renumbered kinds lines q (touched y) y refl refl refl refl (old q y r))
    by_touch false (Some y) r e = let s : y ≡ x = cc in subst (IsLawfulPlace kinds lines q) s (old q y r)

    by : (o : Option Path) → rest_below p q ≡ o → led o part (touch t p q) ≡ Some x → IsLawfulPlace kinds lines q x
    by None r e = by_touch (is_within q p) (t q) refl e
    by (Some rest) r e = subst (λ z. IsLawfulPlace kinds lines z x) (sym (rest_below_is p q rest r)) (new rest x e)

leaf_lawful : (kinds : ℕ → Kind) (lines : ℕ) (p : Path) (y : Place) → IsLawfulPlace kinds lines p y → (r : Path) (x : Place)
    → leaf y r ≡ Some x → IsLawfulPlace kinds lines (p ++ r) x
leaf_lawful kinds lines p y l [] x e =
    let s : y ≡ x = cc in
    let same : p ≡ p ++ [] = sym (append-nil p) in
    subst (λ z. IsLawfulPlace kinds lines z x) same (subst (IsLawfulPlace kinds lines p) s l)
leaf_lawful kinds lines p y l (m ∷ r) x e = cc

-- ---- what no fault means

below_limit : (limit n : ℕ) (e : CommitFault) → fault_if (nat_lt limit n) e ≡ None → n ≤ limit
below_limit limit n e h = elim (cases_lt limit n) [
  | inl past ↦ let bad : Some e ≡ None = sym (ap (λ b. fault_if b e) (lt-ltb limit n past)) ∙ h in cc
  | inr fits ↦ fits
]

file_by_fault : (y : Place) → fault_if (is_directory_place (Some y)) NotFile ≡ None → y.kind ≡ File
file_by_fault y = by y.kind refl
  where
    by : (k : Kind) → y.kind ≡ k → fault_if (is_directory_place (Some (record y { kind = k }))) NotFile ≡ None → y.kind ≡ File
    by File e h = e
    by Directory e h = let bad : Some NotFile ≡ None = h in cc

-- ---- one change

-- the changes so far have made lawful trees whose kinds are those of the lines
pub record IsLawfulState (h : History) (s : Pending) : Type 0 where
  pub kinds : ℕ → Kind
  pub tree : IsLawfulTree kinds s.lines s.tree
  pub past : (r : ℕ) → IsLawfulTree kinds s.lines (tree_at h r)

made_dir : (h : History) (s : Pending) (p : Path) → IsLawfulState h s → root_fault p ≡ None → length p ≤ path_limit
    → IsLawfulState h (after_change h s (MakeDir p))
made_dir h s p l below short = record {
  kinds = with_kind l.kinds s.lines Directory;
  tree = graft_lawful (with_kind l.kinds s.lines Directory) (s.lines + 1) s.tree p (leaf (new_directory s.lines))
      (λ q x e. widened l.kinds s.lines Directory q x (l.tree q x e))
      (leaf_lawful (with_kind l.kinds s.lines Directory) (s.lines + 1) p (new_directory s.lines)
      (bare (with_kind l.kinds s.lines Directory) (s.lines + 1) p (new_directory s.lines) below short refl (omega arith) (omega arith)
      (sym (new_kind l.kinds s.lines Directory))));
  past = λ r q x e. widened l.kinds s.lines Directory q x (l.past r q x e);
}

put_new_file : (h : History) (s : Pending) (p : Path) (text : List ℕ) → IsLawfulState h s → root_fault p ≡ None → length p ≤ path_limit
    → length text ≤ size_limit → IsLawfulState h (record {
      tree = graft s.tree p
          (leaf (with_text s.lines None text));
      lines = s.lines + 1;
    })
put_new_file h s p text l below short small = record {
  kinds = with_kind l.kinds s.lines File;
  tree = graft_lawful (with_kind l.kinds s.lines File) (s.lines + 1) s.tree p (leaf (with_text s.lines None text))
      (λ q x e. widened l.kinds s.lines File q x (l.tree q x e))
      (leaf_lawful (with_kind l.kinds s.lines File) (s.lines + 1) p (with_text s.lines None text)
      (bare (with_kind l.kinds s.lines File) (s.lines + 1) p (with_text s.lines None text) below short refl small (omega arith)
      (sym (new_kind l.kinds s.lines File))));
  past = λ r q x e. widened l.kinds s.lines File q x (l.past r q x e);
}

put_old_file : (h : History) (s : Pending) (p : Path) (text : List ℕ) (y : Place) → IsLawfulState h s → s.tree p ≡ Some y → y.kind ≡ File
    → length text ≤ size_limit → IsLawfulState h (record {
      tree = graft s.tree p
          (leaf (with_text s.lines (Some y) text));
      lines = s.lines;
    })
put_old_file h s p text y l here is_file small =
    let was : IsLawfulPlace l.kinds s.lines p y = l.tree p y here in
    let now : IsLawfulPlace l.kinds s.lines p (with_text s.lines (Some y) text) = record {
      short = was.short;
      props_in_order = was.props_in_order;
      props_small = was.props_small;
      text_small = small;
      line = was.line;
      kind = sym is_file ∙ was.kind;
      root_line = was.root_line;
    } in
    record {
      kinds = l.kinds;
      tree = graft_lawful l.kinds s.lines s.tree p (leaf (with_text s.lines (Some y) text)) l.tree
          (leaf_lawful l.kinds s.lines p (with_text s.lines (Some y) text) now);
      past = l.past;
    }

put_file : (h : History) (s : Pending) (p : Path) (text : List ℕ) (o : Option Place) → s.tree p ≡ o → IsLawfulState h s
    → root_fault p ≡ None → fault_if (is_directory_place o) NotFile ≡ None → length p ≤ path_limit → length text ≤ size_limit
    → IsLawfulState h (record { tree = graft s.tree p (leaf (with_text s.lines o text)); lines = lines_after s.lines o })
put_file h s p text None here l below fault short small = put_new_file h s p text l below short small
put_file h s p text (Some y) here l below fault short small = put_old_file h s p text y l here (file_by_fault y fault) small

small_value : (value : Option (List ℕ)) → value_fault value ≡ None → (v : List ℕ) → value ≡ Some v → length v ≤ size_limit
small_value None h v e = cc
small_value (Some w) h v e = let s : w ≡ v = cc in
    subst (λ (z : List ℕ). length z ≤ size_limit) s (below_limit size_limit (length w) TooLong h)

prop_lawful : (kinds : ℕ → Kind) (lines : ℕ) (t : Tree) (p : Path) (name : List ℕ) (value : Option (List ℕ)) → IsLawfulTree kinds lines t
    → value_fault value ≡ None → (r : Path) (x : Place) → with_prop t p name value r ≡ Some x → IsLawfulPlace kinds lines (p ++ r) x
prop_lawful kinds lines t p name value l h [] x e = by (t p) refl e
  where
    by : (o : Option Place) → t p ≡ o → option_map (place_with_prop name value) o ≡ Some x → IsLawfulPlace kinds lines (p ++ []) x
    by None here e = cc
    by (Some y) here e =
        let s : place_with_prop name value y ≡ x = cc in
        let was : IsLawfulPlace kinds lines p y = l p y here in
        let now : IsLawfulPlace kinds lines p (place_with_prop name value y) = record {
          short = was.short;
          props_in_order = in_order-with_value y.props name value was.props_in_order;
          props_small = values-with_value (λ v. length v ≤ size_limit) y.props name value was.props_small (small_value value h);
          text_small = was.text_small;
          line = was.line;
          kind = was.kind;
          root_line = was.root_line;
        } in
        subst (λ z. IsLawfulPlace kinds lines z x) (sym (append-nil p)) (subst (IsLawfulPlace kinds lines p) s now)
prop_lawful kinds lines t p name value l h (m ∷ r) x e = l (p ++ m ∷ r) x e

copy_short : (h : History) (rev : ℕ) (source path r : Path) (x : Place) → copy_depth_fault (node_at h) (look h rev source) path ≡ None
    → is_some (look h rev source) ≡ true → tree_at h rev (source ++ r) ≡ Some x → length (path ++ r) ≤ path_limit
copy_short h rev source path r x fault there e = by (look h rev source) refl fault there
  where
    by_length : (n m : ℕ) → walk (node_at h) n r ≡ Some m → reaches (node_at h) (path_limit + 1 - length path) n ≡ false
        → length (path ++ r) ≤ path_limit
    by_length n m w f = elim (cases_lt path_limit (length path + length r)) [
      | inl past ↦ let bad : reaches (node_at h) (path_limit + 1 - length path) n ≡ true =
          walk_reaches (node_at h) n m r w (path_limit + 1 - length path) (omega arith) in cc
      | inr fits ↦ omega (arith, length-append path r)
    ]

    not_reached : (b : Bool) → fault_if b TooDeep ≡ None → b ≡ false
    not_reached true e = cc
    not_reached false e = refl

    by : (o : Option ℕ) → look h rev source ≡ o → copy_depth_fault (node_at h) o path ≡ None → is_some o ≡ true
        → length (path ++ r) ≤ path_limit
    by None found fault there = cc
    by (Some n) found fault there =
        let top = and_then_parts (λ k. walk (node_at h) k source) (slice_get h.roots rev) n found in
        let placed = and_then_parts (place_at (node_at h) (length h.nodes)) (look h rev (source ++ r)) x e in
        let from_top : walk (node_at h) top.0 (source ++ r) ≡ Some placed.0 =
        ap (option_and_then (λ k. walk (node_at h) k (source ++ r))) (sym top.1) ∙ placed.1 in
        by_length n placed.0 (sym (walk_on (node_at h) top.0 n source r top.2) ∙ from_top)
        (not_reached (reaches (node_at h) (path_limit + 1 - length path) n) fault)

looked_by_tree : (h : History) (rev : ℕ) (source : Path) → is_some (tree_at h rev source) ≡ true → is_some (look h rev source) ≡ true
looked_by_tree h rev source t = by (look h rev source) t
  where
    by : (o : Option ℕ) → is_some (option_and_then (place_at (node_at h) (length h.nodes)) o) ≡ true → is_some o ≡ true
    by None t = t
    by (Some n) t = refl

copied : (h : History) (s : Pending) (rev : ℕ) (source path : Path) → IsLawfulState h s → CanCopy h s.tree rev source path
    → IsLawfulState h (after_change h s (CopyFrom rev source path))
copied h s rev source path l can = record {
  kinds = l.kinds;
  tree = graft_lawful l.kinds s.lines s.tree path (λ q. tree_at h rev (source ++ q)) l.tree (λ r x e.
      (let was : IsLawfulPlace l.kinds s.lines (source ++ r) x = l.past rev (source ++ r) x e in
      record {
        short = copy_short h rev source path r x can.depth (looked_by_tree h rev source can.present) e;
        props_in_order = was.props_in_order;
        props_small = was.props_small;
        text_small = was.text_small;
        line = was.line;
        kind = was.kind;
        root_line = λ at_root. absurd (root_refused path r can.not_root at_root);
      }));
  past = l.past;
}

pub change_lawful : (h : History) (s : Pending) (c : Change) → change_fault h s c ≡ None → IsLawfulState h s
    → IsLawfulState h (after_change h s c)
change_lawful h s (MakeDir p) e l =
    let a = option_or_none (root_fault p) (directory_fault_at s.tree p) e in
    let b = option_or_none (above_fault s.tree p) (option_or (fault_if (is_some (s.tree p)) Exists) (depth_fault p)) a.1 in
    let d = option_or_none (fault_if (is_some (s.tree p)) Exists) (depth_fault p) b.1 in
    made_dir h s p l a.0 (below_limit path_limit (length p) TooDeep d.1)
change_lawful h s (PutFile p text) e l =
    let a = option_or_none (root_fault p) (option_or (size_fault text) (file_fault_at s.tree p)) e in
    let b = option_or_none (size_fault text) (file_fault_at s.tree p) a.1 in
    let d = option_or_none (above_fault s.tree p) (option_or (fault_if (is_directory_place (s.tree p)) NotFile) (depth_fault p)) b.1 in
    let f = option_or_none (fault_if (is_directory_place (s.tree p)) NotFile) (depth_fault p) d.1 in
    put_file h s p text (s.tree p) refl l a.0 f.0 (below_limit path_limit (length p) TooDeep f.1)
    (below_limit size_limit (length text) TooLong b.0)
change_lawful h s (SetProp p name value) e l =
    let a = option_or_none (value_fault value) (walk_fault s.tree p) e in
    record {
      kinds = l.kinds;
      tree = graft_lawful l.kinds s.lines s.tree p (with_prop s.tree p name value) l.tree
          (prop_lawful l.kinds s.lines s.tree p name value l.tree a.0);
      past = l.past;
    }
change_lawful h s (Remove p) e l = record {
  kinds = l.kinds;
  tree = graft_lawful l.kinds s.lines s.tree p nothing l.tree (λ r x e. cc);
  past = l.past;
}
change_lawful h s (CopyFrom rev source path) e l = copied h s rev source path l (can_copy h s rev source path e)

pub changes_lawful : (h : History) (s : Pending) (cs : List Change) → changes_fault h s cs ≡ None → IsLawfulState h s
    → IsLawfulState h (after_changes h s cs)
changes_lawful h s [] e l = l
changes_lawful h s (c ∷ cs) e l =
    let a = option_or_none (change_fault h s c) (changes_fault h (after_change h s c) cs) e in
    changes_lawful h (after_change h s c) cs a.1 (change_lawful h s c a.0 l)
