-- A draft on which all changes were made is one more revision.
use Rattle.std.proofs.Common.{◌≡◌, ℕ, zero, suc, ◌-◌, ◌<◌, ◌≤◌, true, false, cond, List, [], ◌∷◌, ◌++◌, length, take, map, refl, arith}
use Rattle.std.proofs.Common.{Option, Some, None, subst, sym, ap, ◌∙◌, length-append, inl, inr}
use Rattle.std.specs.Prelude.{nat_lt}
use Rattle.std.specs.List.{slice_get}
use Rattle.std.specs.Option.{option_and_then, option_map}
use Rattle.std.proofs.lemmas.Bool.{cases_lt, cases_eq, lt-ltb, le-ltb}
use Rattle.std.proofs.lemmas.Option.{slice_get_within, slice_get_past}
use Rattle.std.proofs.lemmas.List.{length-map}
use Rattle.svn_lists.proofs.Options.{and_then_parts, and_then_same}
use Rattle.svn_lists.proofs.Places.{take_from_places, slice_get-append, slice_get-push}
use Rattle.svn_types.specs.declared.kind.Kind.{Kind}
use Rattle.svn_types.specs.declared.kind.Kind.TheVariants.{File, Directory}
use Rattle.svn_repo.specs.declared.store.Node.{Node}
use Rattle.svn_repo.specs.declared.store.Content.{Content}
use Rattle.svn_repo.specs.declared.store.Content.TheVariants.{Text, Listing}
use Rattle.svn_repo.specs.declared.change.Change.{Change}
use Rattle.svn_types.specs.Names.{Path}
use Rattle.svn_repo.specs.History.{History, Nodes, NodeRow, node_at, entries_at, child_in, walk, look, IsDirectoryIn}
use Rattle.svn_repo.specs.Stored.{row_of, rows, entries_of, history_of, IsRepository, IsLawfulRow, IsLawfulPlace, IsLawfulTree, IsHeight}
use Rattle.svn_repo.specs.Stored.{AreHeights}
use Rattle.svn_repo.specs.Trees.{Place, Tree, place_of, place_at, tree_at, is_directory_place}
use Rattle.svn_repo.specs.Drafts.{IsDraft, IsDraftEntries, IsClosedIn, KeepsOld, AreRootsBelow, IsPast, tree_in}
use Rattle.svn_repo.specs.Changes.{Pending, pending_in, latest_pending, commit_fault, changes_fault, after_changes, AllMade, IsRevision}
use Rattle.svn_repo.specs.Changes.{StandsIn, IsNumbered}
use Rattle.svn_repo.proofs.Entering.{no_entries, old_entries}
use Rattle.svn_repo.proofs.OldRevisions.{nodes_are}
use Rattle.svn_repo.proofs.Lawful.{IsLawfulState, changes_lawful, renumbered}
use Rattle.svn_repo.proofs.Thawing.{walk_same, in_range}

module _ (roots : List ℕ) (old : List Node) (lines : ℕ) (from : ℕ)
    (sound : IsRepository (history_of roots old lines)) (last : slice_get roots (length roots - 1) ≡ Some from) where
  size : length (map row_of old) ≡ length old
  size = simp length-map

  closed : IsClosedIn old
  closed n m name e = rw size at (sound.closed n m name (ap (λ o. child_in o name) (nodes_are old n) ∙ e))

  from_row : IsDirectoryIn (map row_of old) from
  from_row = sound.roots (length roots - 1) from last

  pub from_inside : from < length old
  from_inside = let b = slice_get_within (map row_of old) from from_row.0 from_row.1 in rw size at b

  pub start_draft : IsDraft (length old) old from
  start_draft = record {
    base_in = omega arith;
    root_in = from_inside;
    closed = closed;
    old_closed = λ n m name h e. closed n m name e;
    distinct = λ p q m h v w. let b : m < length old = in_range old closed from m p from_inside v in absurd (omega arith);
    each = λ n. each_row n (rows old n) refl;
  }
    where
      each_row : (n : ℕ) (o : Option NodeRow) → rows old n ≡ o → IsDraftEntries (length old) n (entries_at o)
      each_row n None e = no_entries (length old) n [] refl
      each_row n (Some row) e =
          let lawful : IsLawfulRow row = sound.rows n row (nodes_are old n ∙ e) in
          old_entries (length old) n row.entries lawful.in_order lawful.named
          (λ name m f. closed n m name (ap (λ o. child_in o name) e ∙ f))

  pub roots_below : AreRootsBelow (length old) roots
  roots_below r n e = let d = sound.roots r n e in let b = slice_get_within (map row_of old) n d.0 d.1 in rw size at b

  pub start_past : (heights : List ℕ) → AreHeights old heights → IsPast roots heights old
  start_past heights known = record {
    roots_in = λ r n e. rw known.size (roots_below r n e);
    old = record {
      inside = omega (arith, known.size);
      closed = λ n m name h e. rw known.size (closed n m name e);
      known = λ n k e. subst (λ (nodes : List Node). IsHeight (rows nodes) n k) whole (known.each n k e);
    };
  }
    where
      whole : old ≡ take (length heights) old
      whole = sym (ap (λ k. take k old) known.size ∙ take_from_places old old (omega arith) (λ m h. refl))

  pub start_state : IsLawfulState (history_of roots old lines) (latest_pending (history_of roots old lines))
  start_state = record { kinds = sound.kinds; tree = sound.trees (length roots - 1); past = sound.trees }

  start_tree : (q : Path) → (latest_pending (history_of roots old lines)).tree q ≡ tree_in (length old) old from q
  start_tree q =
      let nodes : (λ n. slice_get (map row_of old) n) ≡ rows old = λ i n. nodes_are old n i in
      let P : ℕ → Option Place = λ k. option_and_then (place_at (λ n. slice_get (map row_of old) n) k)
      (look (history_of roots old lines) (length roots - 1) q) in
      let Q : Option ℕ → Option Place = λ o. option_and_then (place_at (λ n. slice_get (map row_of old) n) (length old))
      (option_and_then (λ m. walk (λ n. slice_get (map row_of old) n) m q) o) in
      let R : Nodes → Option Place = λ f. option_and_then (place_at f (length old)) (walk f from q) in
      ap P size ∙ ap Q last ∙ ap R nodes

  pub start_pending : latest_pending (history_of roots old lines) ≡ pending_in (length old) old from lines
  start_pending = let P : Tree → Pending = λ t. record { tree = t; lines = lines } in
      let same : (latest_pending (history_of roots old lines)).tree ≡ tree_in (length old) old from = λ i q. start_tree q i in ap P same

-- ---- what is in the new revision

module _ (roots : List ℕ) (old new : List Node) (lines next : ℕ) (from root : ℕ) (changes : List Change)
    (sound : IsRepository (history_of roots old lines)) (last : slice_get roots (length roots - 1) ≡ Some from)
    (made : AllMade roots old new from lines root next changes) (kept : KeepsOld (length old) old new) where
  before : History
  before = history_of roots old lines

  pub no_fault : commit_fault (history_of roots old lines) changes ≡ None
  no_fault = ap (λ s. changes_fault (history_of roots old lines) s changes) (start_pending roots old lines from sound last) ∙ made.no_fault

  pub pending : pending_in (length old) new root next ≡ after_changes (history_of roots old lines)
      (latest_pending (history_of roots old lines)) changes
  pending = made.pending ∙ sym (ap (λ s. after_changes (history_of roots old lines) s changes)
      (start_pending roots old lines from sound last))

  old_size : length (map row_of old) ≡ length old
  old_size = simp length-map

  new_size : length (map row_of new) ≡ length new
  new_size = simp length-map

  new_nodes : (λ n. slice_get (map row_of new) n) ≡ rows new
  new_nodes = λ i n. nodes_are new n i

  old_nodes : (λ n. slice_get (map row_of old) n) ≡ rows old
  old_nodes = λ i n. nodes_are old n i

  new_look : (q : Path) → look (history_of (roots ++ root ∷ []) new next) (length roots) q ≡ walk (rows new) root q
  new_look q =
      ap (option_and_then (λ n. walk (λ m. slice_get (map row_of new) m) n q)) (slice_get-push roots root)
      ∙ (let W : Nodes → Option ℕ = λ f. walk f root q in ap W new_nodes)

  rows_kept : (m : ℕ) → m < length old → rows new m ≡ rows old m
  rows_kept m h = ap (option_map row_of) (kept.same m h)

  row_inside : (n : ℕ) (o : Option Node) → slice_get new n ≡ o → n < length new → (row : NodeRow) × (rows new n ≡ Some row)
  row_inside n None e h = let b : length new ≤ n = none_past new n e in absurd (omega arith)
    where
      none_past : (xs : List Node) (k : ℕ) → slice_get xs k ≡ None → length xs ≤ k
      none_past [] k e = omega arith
      none_past (x ∷ xs) zero e = cc
      none_past (x ∷ xs) (suc k) e = let r : length xs ≤ k = none_past xs k e in omega arith
  row_inside n (Some x) e h = (row_of x, ap (option_map row_of) e)

  numbered : (n : ℕ) (row : NodeRow) → IsNumbered (history_of roots old lines) (place_of (cond (nat_lt n (length old)) (Some n) None) row) n
  numbered n row = elim (cases_lt n (length old)) [
    | inl h ↦ let e : nat_lt n (length old) ≡ true = lt-ltb n (length old) h in rw e refl
    | inr h ↦ let e : nat_lt n (length old) ≡ false = le-ltb n (length old) h in rw e (omega (arith, old_size))
  ]

  stands_by : (q : Path) (o : Option ℕ) → walk (rows new) root q ≡ o
      → StandsIn (history_of roots old lines) (history_of (roots ++ root ∷ []) new next) (length roots) q
      (option_and_then (place_at (rows new) (length old)) o)
  stands_by q None e = new_look q ∙ e
  stands_by q (Some n) e =
      let inside : n < length new = in_range new made.draft.closed root n q made.draft.root_in e in
      let r = row_inside n (slice_get new n) refl inside in
      let S : Option NodeRow → Type 0 = λ x. StandsIn (history_of roots old lines) (history_of (roots ++ root ∷ []) new next)
      (length roots) q (option_map (place_of (cond (nat_lt n (length old)) (Some n) None)) x) in
      subst S (sym r.1) (n, r.0, new_look q ∙ e, nodes_are new n ∙ r.1, numbered n r.0, (refl, refl, refl, refl))

  stands : (q : Path) → StandsIn (history_of roots old lines) (history_of (roots ++ root ∷ []) new next) (length roots) q
      ((after_changes (history_of roots old lines) (latest_pending (history_of roots old lines)) changes).tree q)
  stands q = subst (λ s. StandsIn (history_of roots old lines) (history_of (roots ++ root ∷ []) new next) (length roots) q (s.tree q))
      pending (stands_by q (walk (rows new) root q) refl)

  walk_kept : (n : ℕ) (q : Path) → n < length old → walk (rows new) n q ≡ walk (rows old) n q
  walk_kept = walk_same (λ k. k < length old) (rows old) (rows new)
      (λ k m x h e. (start_draft roots old lines from sound last).closed k m x e) rows_kept

  root_inside : (r n : ℕ) → slice_get roots r ≡ Some n → n < length old
  root_inside r n e = let d = sound.roots r n e in let b = slice_get_within (map row_of old) n d.0 d.1 in rw old_size at b

  look_kept : (r : ℕ) (q : Path) → r < length roots → look (history_of (roots ++ root ∷ []) new next) r q ≡ look
      (history_of roots old lines) r q
  look_kept r q h =
      ap (option_and_then (λ n. walk (λ m. slice_get (map row_of new) m) n q)) (slice_get-append roots (root ∷ []) r h)
      ∙ and_then_same (λ n. walk (λ m. slice_get (map row_of new) m) n q) (λ n. walk (λ m. slice_get (map row_of old) m) n q)
      (slice_get roots r) (λ n e.
      (let V : Nodes → Option ℕ = λ f. walk f n q in ap V new_nodes ∙ walk_kept n q (root_inside r n e) ∙ sym (ap V old_nodes)))

  node_kept : (n : ℕ) → n < length (map row_of old) → node_at (history_of (roots ++ root ∷ []) new next) n ≡ node_at
      (history_of roots old lines) n
  node_kept n h = nodes_are new n ∙ rows_kept n (rw old_size at h) ∙ sym (nodes_are old n)

  pub is_revision : IsRevision (history_of roots old lines) (history_of (roots ++ root ∷ []) new next)
      (after_changes (history_of roots old lines) (latest_pending (history_of roots old lines)) changes)
  is_revision = record {
    revisions = omega (arith, length-append roots (root ∷ []));
    tree = stands;
    distinct = λ p q n h v w. made.draft.distinct p q n (rw old_size at h) (sym (new_look p) ∙ v) (sym (new_look q) ∙ w);
    old_revisions = look_kept;
    old_nodes = node_kept;
    lines = ap (λ s. s.lines) pending;
  }

  directory_kept : (n : ℕ) → n < length old → IsDirectoryIn (map row_of old) n → IsDirectoryIn (map row_of new) n
  directory_kept n h d = (d.0, nodes_are new n ∙ rows_kept n h ∙ sym (nodes_are old n) ∙ d.1, d.2)

  directory_by : (n : ℕ) (number : Option ℕ) (o : Option NodeRow) → rows new n ≡ o
      → is_directory_place (option_map (place_of number) o) ≡ true → IsDirectoryIn (map row_of new) n
  directory_by n number None e h = let bad : false ≡ true = h in cc
  directory_by n number (Some row) e h = (row, nodes_are new n ∙ e, by_kind row.kind h)
    where
      by_kind : (k : Kind) → is_directory_place (Some (place_of number (record row { kind = k }))) ≡ true → k ≡ Directory
      by_kind File h = let bad : false ≡ true = h in cc
      by_kind Directory h = refl

  from_directory : is_directory_place (tree_in (length old) old from []) ≡ true
  from_directory =
      let d = sound.roots (length roots - 1) from last in
      let row : rows old from ≡ Some d.0 = sym (nodes_are old from) ∙ d.1 in
      rw row (directory_row d.0 d.2)
    where
      directory_row : (r : NodeRow) → r.kind ≡ Directory
          → is_directory_place (Some (place_of (cond (nat_lt from (length old)) (Some from) None) r)) ≡ true
      directory_row r e = rw e refl

  new_root : IsDirectoryIn (map row_of new) root
  new_root = directory_by root (cond (nat_lt root (length old)) (Some root) None) (rows new root) refl (made.directory from_directory)

  all_roots : (r n : ℕ) → slice_get (roots ++ root ∷ []) r ≡ Some n → IsDirectoryIn (map row_of new) n
  all_roots r n e = elim (cases_lt r (length roots)) [
    | inl h ↦
        let e2 : slice_get roots r ≡ Some n = sym (slice_get-append roots (root ∷ []) r h) ∙ e in
        directory_kept n (root_inside r n e2) (sound.roots r n e2)
    | inr h ↦
        let within : r < length (roots ++ root ∷ []) = slice_get_within (roots ++ root ∷ []) r n e in
        let here : r ≡ length roots = omega (arith, length-append roots (root ∷ [])) in
        let e2 : Some root ≡ Some n = sym (slice_get-push roots root) ∙ ap (slice_get (roots ++ root ∷ [])) (sym here) ∙ e in
        let same : root ≡ n = cc in
        subst (IsDirectoryIn (map row_of new)) same new_root
  ]

  -- ---- what is there is lawful

  state : IsLawfulState (history_of roots old lines)
      (after_changes (history_of roots old lines) (latest_pending (history_of roots old lines)) changes)
  state = changes_lawful (history_of roots old lines) (latest_pending (history_of roots old lines)) changes no_fault
      (start_state roots old lines from sound last)

  after_lines : (after_changes (history_of roots old lines) (latest_pending (history_of roots old lines)) changes).lines ≡ next
  after_lines = ap (λ s. s.lines) (sym pending)

  new_place : (m : ℕ) → place_at (λ k. slice_get (map row_of new) k) (length (map row_of new)) m ≡ option_map
      (place_of (cond (nat_lt m (length new)) (Some m) None)) (rows new m)
  new_place m = ap (λ k. option_map (place_of (cond (nat_lt m k) (Some m) None)) (slice_get (map row_of new) m)) new_size
      ∙ ap (option_map (place_of (cond (nat_lt m (length new)) (Some m) None))) (nodes_are new m)

  -- a place in the tree is lawful whatever its number is
  by_row : (kinds : ℕ → Kind) (q : Path) (a b : Option ℕ) (o : Option NodeRow) (x : Place) → option_map (place_of a) o ≡ Some x
      → ((y : Place) → option_map (place_of b) o ≡ Some y → IsLawfulPlace kinds next q y) → IsLawfulPlace kinds next q x
  by_row kinds q a b None x e lawful = cc
  by_row kinds q a b (Some row) x e lawful =
      let s : place_of a row ≡ x = cc in
      subst (IsLawfulPlace kinds next q) s (renumbered kinds next q (place_of a row) (place_of b row) refl refl refl refl
      (lawful (place_of b row) refl))

  lawful_new : (q : Path) (x : Place) → tree_at (history_of (roots ++ root ∷ []) new next) (length roots) q ≡ Some x
      → IsLawfulPlace state.kinds next q x
  lawful_new q x e =
      let s = and_then_parts (place_at (λ k. slice_get (map row_of new) k) (length (map row_of new)))
      (look (history_of (roots ++ root ∷ []) new next) (length roots) q) x e in
      let walked : walk (rows new) root q ≡ Some s.0 = sym (new_look q) ∙ s.1 in
      by_row state.kinds q (cond (nat_lt s.0 (length new)) (Some s.0) None) (cond (nat_lt s.0 (length old)) (Some s.0) None)
      (rows new s.0) x (sym (new_place s.0) ∙ s.2) (λ y f.
      subst (λ k. IsLawfulPlace state.kinds k q y) after_lines
      (state.tree q y (ap (λ z. z.tree q) (sym pending) ∙ ap (option_and_then (place_at (rows new) (length old))) walked ∙ f)))

  lawful_old : (r : ℕ) (q : Path) (x : Place) → r < length roots → tree_at (history_of (roots ++ root ∷ []) new next) r q ≡ Some x
      → IsLawfulPlace state.kinds next q x
  lawful_old r q x h e =
      let s = and_then_parts (place_at (λ k. slice_get (map row_of new) k) (length (map row_of new)))
      (look (history_of (roots ++ root ∷ []) new next) r q) x e in
      let looked : look (history_of roots old lines) r q ≡ Some s.0 = sym (look_kept r q h) ∙ s.1 in
      let top = and_then_parts (λ n. walk (λ m. slice_get (map row_of old) m) n q) (slice_get roots r) s.0 looked in
      let below : s.0 < length old = old_walk top.0 s.0 q (root_inside r top.0 top.1) top.2 in
      by_row state.kinds q (cond (nat_lt s.0 (length new)) (Some s.0) None) (cond (nat_lt s.0 (length (map row_of old))) (Some s.0) None)
      (rows new s.0) x (sym (new_place s.0) ∙ s.2) (λ y f.
      subst (λ k. IsLawfulPlace state.kinds k q y) after_lines
      (state.past r q y (ap (option_and_then (place_at (λ n. slice_get (map row_of old) n) (length (map row_of old)))) looked
      ∙ ap (option_map (place_of (cond (nat_lt s.0 (length (map row_of old))) (Some s.0) None))) (nodes_are old s.0
      ∙ sym (rows_kept s.0 below)) ∙ f)))
    where
      old_walk : (n m : ℕ) (q : Path) → n < length old → walk (λ m. slice_get (map row_of old) m) n q ≡ Some m → m < length old
      old_walk n m q h e = (let V : Nodes → Option ℕ = λ f. walk f n q in
          in_range old (start_draft roots old lines from sound last).closed n m q h (sym (ap V old_nodes) ∙ e))

  lawful_trees : (r : ℕ) → IsLawfulTree state.kinds next (tree_at (history_of (roots ++ root ∷ []) new next) r)
  lawful_trees r q x e = elim (cases_lt r (length roots)) [
    | inl h ↦ lawful_old r q x h e
    | inr h ↦ elim (cases_eq r (length roots)) [
      | inl same ↦ lawful_new q x (ap (λ k. tree_at (history_of (roots ++ root ∷ []) new next) k q) (sym same) ∙ e)
      | inr other ↦
          let past : slice_get (roots ++ root ∷ []) r ≡ None =
          slice_get_past (roots ++ root ∷ []) r (omega (arith, length-append roots (root ∷ []))) in
          let bad : None ≡ Some x = sym (ap (λ o. option_and_then (place_at (λ k. slice_get (map row_of new) k) (length (map row_of new)))
          (option_and_then (λ n. walk (λ k. slice_get (map row_of new) k) n q) o)) past) ∙ e in cc
    ]
  ]

  lawful_rows : (n : ℕ) (row : NodeRow) → slice_get (map row_of new) n ≡ Some row → IsLawfulRow row
  lawful_rows n row e = by (slice_get new n) refl (sym (nodes_are new n) ∙ e)
    where
      by_content : (c : Content) (node : Node) → node.content ≡ c → IsDraftEntries (length old) n (entries_of c)
          → IsLawfulRow (row_of (record node { content = c }))
      by_content (Text text) node is each = record { leaf = λ k. refl; no_text = λ k. cc; in_order = each.in_order; named = each.named }
      by_content (Listing entries) node is each = record {
        leaf = λ k. cc;
        no_text = λ k. refl;
        in_order = each.in_order;
        named =
            each.named;
      }

      by : (o : Option Node) → slice_get new n ≡ o → option_map row_of o ≡ Some row → IsLawfulRow row
      by None at e = cc
      by (Some node) at e =
          let s : row_of node ≡ row = cc in
          let here : entries_at (rows new n) ≡ entries_of node.content = ap (λ o. entries_at (option_map row_of o)) at in
          subst IsLawfulRow s (by_content node.content node refl (subst (IsDraftEntries (length old) n) here (made.draft.each n)))

  pub still_sound : IsRepository (history_of (roots ++ root ∷ []) new next)
  still_sound = record {
    some_revision = omega (arith, length-append roots (root ∷ []));
    roots = all_roots;
    closed = λ n m name e. rw new_size (made.draft.closed n m name (ap (λ o. child_in o name) (sym (nodes_are new n)) ∙ e));
    lines = rw new_size made.bounded;
    rows = lawful_rows;
    kinds = state.kinds;
    trees = lawful_trees;
  }
