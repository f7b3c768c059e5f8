-- The laws of commits, from their definition.
use Rattle.std.proofs.Common.{◌≡◌, ℕ, ◌<◌, true, false, cond, List, [], ◌∷◌, ◌++◌, length, refl, arith, Option, Some}
use Rattle.std.proofs.Common.{None, subst, sym, ap, ◌∙◌, append-nil, inl, inr}
use Rattle.std.specs.Prelude.{nat_lt, IsSome}
use Rattle.std.specs.List.{list_any, slice_get}
use Rattle.std.specs.Option.{option_and_then, option_map, is_some}
use Rattle.std.proofs.lemmas.Bool.{cases_lt, lt-ltb}
use Rattle.std.proofs.lemmas.List.Folds.{list_any-append}
use Rattle.std.proofs.lemmas.Option.{slice_get_within}
use Rattle.svn_lists.proofs.Options.{and_then_parts}
use Rattle.svn_lists.proofs.Places.{slice_get_in}
use Rattle.svn_repo.specs.declared.change.Change.{Change}
use Rattle.svn_repo.specs.declared.change.Change.TheVariants.{MakeDir, PutFile, SetProp, Remove, CopyFrom}
use Rattle.svn_types.specs.Names.{Path}
use Rattle.svn_repo.specs.History.{History, NodeRow, node_at, look, walk}
use Rattle.svn_repo.specs.Walks.{rest_below, led}
use Rattle.svn_repo.specs.Trees.{Place, Tree, place_of, place_at, tree_at, touched, touch, graft, is_within, with_prop}
use Rattle.svn_repo.specs.Changes.{Pending, latest_pending, after_change, after_changes, IsCommit, IsRevision, StandsIn}
use Rattle.svn_repo.specs.Laws.{RevisionsStay, CopiesKeepNodes, UntouchedPathsKeepNodes, touches, NodesExist, no_commit, one_more}
use Rattle.svn_repo.specs.Laws.{latest_of}
use Rattle.svn_repo.proofs.Walking.{rest_below_is}
use Rattle.svn_repo.proofs.Thawing.{rest_below_self}
use Rattle.std.proofs.lemmas.Bool.{or_parts}
use Rattle.std.proofs.lemmas.Slice.Eq.{bytes_eq-Decides}

pub rest_below_append : (p q : Path) → rest_below p (p ++ q) ≡ Some q
rest_below_append [] q = refl
rest_below_append (m ∷ p) q = rw ((bytes_eq-Decides m m).1 refl) (rest_below_append p q)

-- ---- untouched paths

graft_apart : (t : Tree) (path : Path) (part : Tree) (p : Path) → is_within path p ≡ false → is_within p path ≡ false
    → graft t path part p ≡ t p
graft_apart t path part p outside apart = by (rest_below path p) outside ∙ ap (λ b. cond b (option_map touched (t p)) (t p)) apart
  where
    by : (o : Option Path) → is_some o ≡ false → led o part (touch t path p) ≡ touch t path p
    by None e = refl
    by (Some r) e = let bad : true ≡ false = e in cc

prop_apart : (t : Tree) (path : Path) (name : List ℕ) (value : Option (List ℕ)) (p : Path) → is_within p path ≡ false
    → graft t path (with_prop t path name value) p ≡ t p
prop_apart t path name value p apart = by (rest_below path p) refl
  where
    by : (o : Option Path) → rest_below path p ≡ o → led o (with_prop t path name value) (touch t path p) ≡ t p
    by None e = ap (λ b. cond b (option_map touched (t p)) (t p)) apart
    by (Some []) e =
        let same : p ≡ path = rest_below_is path p [] e ∙ append-nil path in
        let bad : true ≡ false = sym (ap is_some (rest_below_self path)) ∙ ap (λ z. is_within z path) (sym same) ∙ apart in cc
    by (Some (m ∷ r)) e = ap t (sym (rest_below_is path p (m ∷ r) e))

untouched : (h : History) (s : Pending) (c : Change) (p : Path) → touches p c ≡ false → (after_change h s c).tree p ≡ s.tree p
untouched h s (MakeDir path) p e = let n = or_parts (is_within p path) (is_within path p) e in graft_apart s.tree path _ p n.1 n.0
untouched h s (PutFile path text) p e = let n = or_parts (is_within p path) (is_within path p) e in graft_apart s.tree path _ p n.1 n.0
untouched h s (SetProp path name value) p e = prop_apart s.tree path name value p e
untouched h s (Remove path) p e = let n = or_parts (is_within p path) (is_within path p) e in graft_apart s.tree path _ p n.1 n.0
untouched h s (CopyFrom rev source path) p e = let n = or_parts (is_within p path) (is_within path p) e in
    graft_apart s.tree path _ p n.1 n.0

all_untouched : (h : History) (s : Pending) (cs : List Change) (p : Path) → list_any (touches p) cs ≡ false
    → (after_changes h s cs).tree p ≡ s.tree p
all_untouched h s [] p e = refl
all_untouched h s (c ∷ cs) p e =
    let n = or_parts (touches p c) (list_any (touches p) cs) e in
    all_untouched h (after_change h s c) cs p n.1 ∙ untouched h s c p n.0

-- ---- nodes

none_some : IsSome {T = NodeRow} None → ⊥
none_some e = let bad : false ≡ true = e in cc

pub some_row : (o : Option NodeRow) → IsSome o → (row : NodeRow) × (o ≡ Some row)
some_row None e = absurd (none_some e)
some_row (Some row) e = (row, refl)

is_some_by : (o : Option NodeRow) (row : NodeRow) → o ≡ Some row → IsSome o
is_some_by None row e = cc
is_some_by (Some x) row e = search

pub latest_after : (h mid : History) (changes : List Change) → IsCommit h mid changes → latest_of mid ≡ length h.roots
latest_after h mid changes commit = let revision : IsRevision h mid (after_changes h (latest_pending h) changes) = commit.1 in
    omega (arith, revision.revisions)

grown : (h mid : History) (changes : List Change) → IsCommit h mid changes → (n : ℕ) → n < length h.nodes → n < length mid.nodes
grown h mid changes commit n below =
    let revision : IsRevision h mid (after_changes h (latest_pending h) changes) = commit.1 in
    let row = slice_get_in h.nodes n below in
    slice_get_within mid.nodes n row.0 (revision.old_nodes n below ∙ row.1)

pub stays : RevisionsStay
stays h h' changes no_commit = ((λ r p b. refl), (λ n b. refl))
stays h h' changes (one_more mid first rest commit commits) =
    let revision : IsRevision h mid (after_changes h (latest_pending h) first) = commit.1 in
    let later = stays mid h' rest commits in (
      (λ r p b. later.0 r p (omega (arith, revision.revisions)) ∙ revision.old_revisions r p b),
      (λ n b. later.1 n (grown h mid first commit n b) ∙ revision.old_nodes n b),
    )

-- what is at any path after a commit is a node
pub exist_after : (h mid : History) (changes : List Change) → NodesExist h → IsCommit h mid changes → NodesExist mid
exist_after h mid changes exist commit r p n e = elim (cases_lt r (length h.roots)) [
  | inl below ↦
      let row = some_row (node_at h n) (exist r p n (sym (revision.old_revisions r p below) ∙ e)) in
      is_some_by (node_at mid n) row.0 (revision.old_nodes n (slice_get_within h.nodes n row.0 row.1) ∙ row.1)
  | inr past ↦
      let top = and_then_parts (λ k. walk (node_at mid) k p) (slice_get mid.roots r) n e in
      let last : r ≡ length h.roots = (let inside = slice_get_within mid.roots r top.0 top.1 in
      omega (arith, inside, past, revision.revisions)) in
      by_place ((after_changes h (latest_pending h) changes).tree p) (revision.tree p) (ap (λ k. look mid k p) (sym last) ∙ e)
]
  where
    revision : IsRevision h mid (after_changes h (latest_pending h) changes)
    revision = commit.1

    by_place : (o : Option Place) → StandsIn h mid (length h.roots) p o → look mid (length h.roots) p ≡ Some n → IsSome (node_at mid n)
    by_place None stands f = let bad : Some n ≡ None = sym f ∙ stands in cc
    by_place (Some x) stands f =
        let number : Some stands.0 ≡ Some n = sym stands.2 ∙ f in
        let same : stands.0 ≡ n = cc in
        is_some_by (node_at mid n) stands.1 (ap (node_at mid) (sym same) ∙ stands.3)

-- ---- numbers

number_kept : (h mid : History) (r : ℕ) (p : Path) (o : Option ℕ) → ((n : ℕ) → o ≡ Some n → IsSome (node_at h n))
    → StandsIn h mid r p (option_and_then (place_at (node_at h) (length h.nodes)) o) → look mid r p ≡ o
number_kept h mid r p None exist stands = stands
number_kept h mid r p (Some n) exist stands =
    let row = some_row (node_at h n) (exist n refl) in
    let below : n < length h.nodes = slice_get_within h.nodes n row.0 row.1 in
    let number : cond (nat_lt n (length h.nodes)) (Some n) None ≡ Some n =
    ap (λ b. cond b (Some n) None) (lt-ltb n (length h.nodes) below) in
    let place : place_at (node_at h) (length h.nodes) n ≡ Some (place_of (Some n) row.0) =
    ap (option_map (place_of (cond (nat_lt n (length h.nodes)) (Some n) None))) row.1 ∙ ap (λ o. Some (place_of o row.0)) number in
    let here : StandsIn h mid r p (Some (place_of (Some n) row.0)) = subst (StandsIn h mid r p) place stands in
    let same : here.0 ≡ n = here.4 in
    here.2 ∙ ap Some same

one_commit : (h mid : History) (changes : List Change) (p : Path) → NodesExist h → IsCommit h mid changes
    → list_any (touches p) changes ≡ false → look mid (latest_of mid) p ≡ look h (latest_of h) p
one_commit h mid changes p exist commit e =
    let revision : IsRevision h mid (after_changes h (latest_pending h) changes) = commit.1 in
    let stands : StandsIn h mid (length h.roots) p ((latest_pending h).tree p) =
    subst (StandsIn h mid (length h.roots) p) (all_untouched h (latest_pending h) changes p e) (revision.tree p) in
    ap (λ r. look mid r p) (latest_after h mid changes commit)
    ∙ number_kept h mid (length h.roots) p (look h (latest_of h) p) (λ n f. exist (latest_of h) p n f) stands

pub keeps : UntouchedPathsKeepNodes
keeps h h' changes p exist no_commit e = refl
keeps h h' changes p exist (one_more mid first rest commit commits) e =
    let n = or_parts (list_any (touches p) first) (list_any (touches p) rest) (sym (list_any-append (touches p) first rest) ∙ e) in
    keeps mid h' rest p (exist_after h mid first exist commit) commits n.1 ∙ one_commit h mid first p exist commit n.0

-- ---- copies

-- what a copy puts at its path
copied : (h : History) (s : Pending) (rev : ℕ) (source path q : Path)
    → (after_change h s (CopyFrom rev source path)).tree (path ++ q) ≡ tree_at h rev (source ++ q)
copied h s rev source path q = ap (λ o. led o (λ r. tree_at h rev (source ++ r)) (touch s.tree path (path ++ q))) (rest_below_append path q)

after_append : (h : History) (s : Pending) (before : List Change) (c : Change) (after : List Change)
    → after_changes h s (before ++ c ∷ after) ≡ after_changes h (after_change h (after_changes h s before) c) after
after_append h s [] c after = refl
after_append h s (b ∷ before) c after = after_append h (after_change h s b) before c after

pub copies : CopiesKeepNodes
copies h h' before after rev source path q exist commit e =
    let changes : List Change = before ++ CopyFrom rev source path ∷ after in
    let mid : Pending = after_changes h (latest_pending h) before in
    let revision : IsRevision h h' (after_changes h (latest_pending h) changes) = commit.1 in
    let part : (after_changes h (latest_pending h) changes).tree (path ++ q) ≡ tree_at h rev (source ++ q) =
    ap (λ (s : Pending). s.tree (path ++ q)) (after_append h (latest_pending h) before (CopyFrom rev source path) after)
    ∙ all_untouched h (after_change h mid (CopyFrom rev source path)) after (path ++ q) e ∙ copied h mid rev source path q in
    let stands : StandsIn h h' (length h.roots) (path ++ q) (tree_at h rev (source ++ q)) =
    subst (StandsIn h h' (length h.roots) (path ++ q)) part (revision.tree (path ++ q)) in
    ap (λ r. look h' r (path ++ q)) (latest_after h h' changes commit)
    ∙ number_kept h h' (length h.roots) (path ++ q) (look h rev (source ++ q)) (λ n f. exist rev (source ++ q) n f) stands
