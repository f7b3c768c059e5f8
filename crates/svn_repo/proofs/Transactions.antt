-- A transaction: how it begins, what one change more makes of it, and how it becomes one more revision.
use Rattle.std.proofs.Common.{◌≡◌, ℕ, ◌-◌, ◌<◌, ◌≤◌, cond, List, [], ◌∷◌, ◌++◌, length, take, map, refl, arith}
use Rattle.std.proofs.Common.{Option, Some, None, subst, sym, ap, ◌∙◌, length-take-le, take_all}
use Rattle.std.specs.Prelude.{nat_lt}
use Rattle.std.specs.List.{slice_get}
use Rattle.std.specs.Option.{option_and_then, option_map}
use Rattle.std.proofs.lemmas.List.{length-map}
use Rattle.std.proofs.lemmas.Option.{slice_get_within}
use Rattle.svn_lists.proofs.Places.{take_from_places, slice_get-take, slice_get-last}
use Rattle.svn_repo.specs.declared.store.Node.{Node}
use Rattle.svn_repo.specs.declared.change.Change.{Change}
use Rattle.svn_repo.specs.declared.change.CommitFault.{CommitFault}
use Rattle.svn_types.specs.Names.{Path}
use Rattle.svn_repo.specs.History.{History, Nodes, walk}
use Rattle.svn_repo.specs.Stored.{row_of, rows, history_of, IsHeight, IsStored, AreHeights}
use Rattle.svn_repo.specs.Heights.{IsOrdered}
use Rattle.svn_repo.specs.Trees.{place_of, place_at, tree_below}
use Rattle.svn_repo.specs.Drafts.{IsDraft, KeepsOld, AreRootsBelow, IsPast, past_in, tree_in}
use Rattle.svn_repo.specs.Changes.{Pending, pending_in, change_fault, after_change}
use Rattle.svn_repo.specs.Changes.{IsMade, AllMade, IsRevision}
use Rattle.svn_repo.specs.Transactions.{OpenRevision, IsOpen, IsBegun, IsChanged, open_in, pending_of}
use Rattle.svn_repo.proofs.OldRevisions.{nodes_are, past_kept}
use Rattle.svn_repo.proofs.Runs.{no_fault-push, after_changes-push}
use Rattle.svn_repo.proofs.Tallest.{draft_ordered, heights_kept}
use Rattle.svn_repo.proofs.Commits.{start_draft, start_past, start_pending, roots_below, still_sound, is_revision, pending}

-- ---- the nodes before the base

kept_take : (base : ℕ) (old new : List Node) → base ≤ length old → KeepsOld base old new → take base new ≡ take base old
kept_take base old new inside kept =
    let size : length (take base old) ≡ base = length-take-le base old inside in
    ap (λ k. take k new) (sym size)
    ∙ take_from_places (take base old) new (omega (arith, kept.grown))
    (λ m h. kept.same m (omega arith) ∙ sym (slice_get-take old base m (omega arith)))

-- ---- what is pending, from what is stored

pub pending_is : (base : ℕ) (roots : List ℕ) (nodes : List Node) (lines root next : ℕ) → base ≤ length nodes
    → pending_of (open_in base roots nodes lines root next) ≡ pending_in base nodes root next
pending_is base roots nodes lines root next inside =
    let size : length (map row_of (take base nodes)) ≡ base = simp (length-map, length-take-le base nodes inside) in
    let same : (λ n. slice_get (map row_of nodes) n) ≡ rows nodes = λ i n. nodes_are nodes n i in
    let B : ℕ → Pending = λ b. record { tree = tree_below (λ n. slice_get (map row_of nodes) n) b root; lines = next } in
    let F : Nodes → Pending = λ f. record { tree = tree_below f base root; lines = next } in
    ap B size ∙ ap F same

-- ---- a transaction without changes

module _ (roots : List ℕ) (nodes : List Node) (lines : ℕ) (heights : List ℕ) (from : ℕ)
    (stored : IsStored roots nodes lines heights) (last : slice_get roots (length roots - 1) ≡ Some from) where
  none_made : AllMade roots nodes nodes from lines from lines []
  none_made = record {
    draft = start_draft roots nodes lines from stored.repository last;
    bounded = (let size : length (map row_of nodes) ≡ length nodes = simp length-map in omega (arith, stored.repository.lines));
    directory = λ d. d;
    no_fault = refl;
    pending = refl;
  }

  module _ (base : ℕ) (size : base ≡ length nodes) where
    whole : take base nodes ≡ nodes
    whole = take_all base nodes (omega arith)

    pub is_begun_open : IsOpen base roots nodes lines from lines heights
    is_begun_open = record {
      inside = omega arith;
      stored = subst (λ (v : List Node). IsStored roots v lines heights) (sym whole) stored;
      from = from;
      last = last;
      changes = [];
      made = subst (λ (v : List Node). AllMade roots v nodes from lines from lines []) (sym whole) none_made;
    }

    pub is_begun : IsBegun (history_of roots nodes lines) (open_in base roots nodes lines from lines)
    is_begun = (
      ap (λ (v : List Node). history_of roots v lines) whole,
      pending_is base roots nodes lines from lines (omega arith) ∙ ap (λ (b : ℕ). pending_in b nodes from lines) size
          ∙ sym (start_pending roots nodes lines from stored.repository last),
    )

-- ---- a transaction with changes

module _ (base : ℕ) (roots : List ℕ) (nodes : List Node) (lines root next : ℕ) (heights : List ℕ)
    (o : IsOpen base roots nodes lines root next heights) where
  size : length (take base nodes) ≡ base
  size = length-take-le base nodes o.inside

  kept : KeepsOld (length (take base nodes)) (take base nodes) nodes
  kept = record {
    grown = omega (arith, size, o.inside);
    same = λ m h. sym (slice_get-take nodes base m (omega (arith, size)));
  }

  pub height_count : length heights ≡ base
  height_count = o.stored.known.size ∙ size

  pub is_draft : IsDraft base nodes root
  is_draft = subst (λ (b : ℕ). IsDraft b nodes root) size o.made.draft

  pub is_past : IsPast roots heights nodes
  is_past = past_kept roots heights (take base nodes) nodes o.stored.known.size
      (start_past roots (take base nodes) lines o.from o.stored.repository o.last heights o.stored.known) kept

  pub roots_old : AreRootsBelow base roots
  roots_old = subst (λ (b : ℕ). AreRootsBelow b roots) size
      (roots_below roots (take base nodes) lines o.from o.stored.repository o.last)

  -- a fault of the nodes, each read through what holds them, is that of the transaction
  fault_here : (hs : List ℕ) (ns : List Node) → hs ≡ heights → ns ≡ nodes → (l : ℕ) (change : Change)
      → change_fault (past_in (length hs) roots ns l) (pending_in (length hs) ns root next) change ≡ change_fault
      (past_in base roots nodes l) (pending_in base nodes root next) change
  fault_here hs ns hs_are ns_are l change =
      ap (λ (v : List Node). change_fault (past_in (length hs) roots v l) (pending_in (length hs) v root next) change) ns_are
      ∙ ap (λ (b : ℕ). change_fault (past_in b roots nodes l) (pending_in b nodes root next) change) (ap length hs_are ∙ height_count)

  module _ (hs : List ℕ) (ns : List Node) (hs_are : hs ≡ heights) (ns_are : ns ≡ nodes) (change : Change)
      (found : Option CommitFault) (told : (l s : ℕ) → found ≡ change_fault (past_in (length hs) roots ns l)
      (pending_in (length hs) ns root s) change) where
    pub fault_told : (v : OpenRevision) → open_in base roots nodes lines root next ≡ v
        → found ≡ change_fault v.history (pending_of v) change
    fault_told v seen =
        told lines next ∙ fault_here hs ns hs_are ns_are lines change
        ∙ ap (λ (s : Pending). change_fault (past_in base roots nodes lines) s change)
        (sym (pending_is base roots nodes lines root next o.inside))
        ∙ ap (λ (w : OpenRevision). change_fault w.history (pending_of w) change) seen

    pub can_be_made : found ≡ None → (l : ℕ) → change_fault (past_in base roots nodes l) (pending_in base nodes root next) change ≡ None
    can_be_made none l = sym (told l next ∙ fault_here hs ns hs_are ns_are l change) ∙ none

  -- one change more
  module _ (new : List Node) (to after : ℕ) (change : Change) (stays : KeepsOld base nodes new)
      (can : (l : ℕ) → change_fault (past_in base roots nodes l) (pending_in base nodes root next) change ≡ None)
      (step : IsMade base roots nodes new root next to after change) where
    abbrev h : History
    h = history_of roots (take base nodes) lines

    abbrev first : Pending
    first = pending_in (length (take base nodes)) (take base nodes) o.from lines

    same_old : take base new ≡ take base nodes
    same_old = kept_take base nodes new o.inside stays

    here : IsMade (length (take base nodes)) roots nodes new root next to after change
    here = subst (λ (b : ℕ). IsMade b roots nodes new root next to after change) (sym size) step

    one_more : AllMade roots (take base nodes) new o.from lines to after (o.changes ++ change ∷ [])
    one_more = record {
      draft = here.draft;
      bounded = here.bounded;
      directory = λ d. here.directory (o.made.directory d);
      no_fault = no_fault-push h first o.changes change o.made.no_fault
          (ap (λ (s : Pending). change_fault h s change) (sym o.made.pending)
          ∙ ap (λ (b : ℕ). change_fault h (pending_in b nodes root next) change) size ∙ can lines);
      pending = here.pending lines
          ∙ ap (λ (b : ℕ). after_change (past_in b roots nodes lines) (pending_in (length (take base nodes)) nodes root next) change) size
          ∙ ap (λ (s : Pending). after_change h s change) o.made.pending ∙ sym (after_changes-push h first o.changes change);
    }

    pub is_changed_open : IsOpen base roots new lines to after heights
    is_changed_open = record {
      inside = omega (arith, o.inside, stays.grown);
      stored = subst (λ (v : List Node). IsStored roots v lines heights) (sym same_old) o.stored;
      from = o.from;
      last = o.last;
      changes = o.changes ++ change ∷ [];
      made = subst (λ (v : List Node). AllMade roots v new o.from lines to after (o.changes ++ change ∷ [])) (sym same_old) one_more;
    }

    pub is_changed : IsChanged (open_in base roots nodes lines root next) change (open_in base roots new lines to after)
    is_changed = (
      ap (λ (v : List Node). history_of roots v lines) same_old,
      pending_is base roots new lines to after (omega (arith, o.inside, stays.grown)) ∙ step.pending lines
          ∙ ap (λ (s : Pending). after_change (past_in base roots nodes lines) s change)
          (sym (pending_is base roots nodes lines root next o.inside)),
    )

  -- the changes are given up
  module _ (new : List Node) (given_up : new ≡ take base nodes) where
    old_stored : IsStored roots new lines heights
    old_stored = subst (λ (v : List Node). IsStored roots v lines heights) (sym given_up) o.stored

    old_history : history_of roots new lines ≡ past_in base roots nodes lines
    old_history = ap (λ (v : List Node). history_of roots v lines) given_up

    module _ (count from : ℕ) (count_is : count ≡ length new) (last : slice_get roots (length roots - 1) ≡ Some from) where
      pub is_aborted_open : IsOpen count roots new lines from lines heights
      is_aborted_open = is_begun_open roots new lines heights from old_stored last count count_is

      pub is_aborted : IsBegun (past_in base roots nodes lines) (open_in count roots new lines from lines)
      is_aborted = subst (λ (g : History). IsBegun g (open_in count roots new lines from lines)) old_history
          (is_begun roots new lines heights from old_stored last count count_is)

  -- what a change leaves that ran out of memory
  pub given_up : (mid new : List Node) → KeepsOld base nodes mid → new ≡ take base mid → new ≡ take base nodes
  given_up mid new stays e = e ∙ kept_take base nodes mid o.inside stays

  -- the heights of the nodes can be added
  pub is_ordered : IsOrdered nodes (length heights)
  is_ordered = subst (IsOrdered nodes) (sym height_count) (draft_ordered base nodes root is_draft)

  pub old_heights : (n k : ℕ) → slice_get heights n ≡ Some k → IsHeight (rows nodes) n k
  old_heights n k e =
      let below : n < length heights = slice_get_within heights n k e in
      heights_kept (take base nodes) nodes heights root o.stored.known o.made.draft kept n k e (omega (arith, o.stored.known.size))

  -- one revision more
  module _ (roots' heights' : List ℕ) (pushed : roots' ≡ roots ++ root ∷ []) (known : AreHeights nodes heights') where
    pub next_stored : IsStored roots' nodes next heights'
    next_stored = subst (λ (r : List ℕ). IsStored r nodes next heights') (sym pushed) (record {
      repository = still_sound roots (take base nodes) nodes lines next o.from root o.changes o.stored.repository o.last o.made kept;
      known = known;
    })

    pub next_last : slice_get roots' (length roots' - 1) ≡ Some root
    next_last = subst (λ (r : List ℕ). slice_get r (length r - 1) ≡ Some root) (sym pushed)
        (slice_get-last roots root)

    module _ (count : ℕ) (count_is : count ≡ length nodes) where
      pub is_next_open : IsOpen count roots' nodes next root next heights'
      is_next_open = is_begun_open roots' nodes next heights' root next_stored next_last count count_is

      next_history : history_of roots' nodes next ≡ past_in count roots' nodes next
      next_history = ap (λ (v : List Node). history_of roots' v next) (sym (take_all count nodes (omega arith)))

      pub is_next : IsBegun (past_in count roots' nodes next) (open_in count roots' nodes next root next)
      is_next = subst (λ (g : History). IsBegun g (open_in count roots' nodes next root next)) next_history
          (is_begun roots' nodes next heights' root next_stored next_last count count_is)

      pub next_revision : IsRevision (past_in base roots nodes lines) (past_in count roots' nodes next)
          (pending_of (open_in base roots nodes lines root next))
      next_revision =
          let R : List ℕ → Pending → Type 0 = λ r s. IsRevision (past_in base roots nodes lines) (history_of r nodes next) s in
          let by_changes = is_revision roots (take base nodes) nodes lines next o.from root o.changes o.stored.repository o.last o.made
          kept in
          let by_draft = subst (R (roots ++ root ∷ [])) (sym (pending roots (take base nodes) nodes lines next o.from root o.changes
          o.stored.repository o.last o.made kept)) by_changes in
          let seen : R (roots ++ root ∷ []) (pending_of (open_in base roots nodes lines root next)) =
          subst (R (roots ++ root ∷ [])) (sym (pending_is base roots nodes lines root next o.inside))
          (subst (λ (b : ℕ). R (roots ++ root ∷ []) (pending_in b nodes root next)) size by_draft) in
          subst (λ (g : History). IsRevision (past_in base roots nodes lines) g (pending_of (open_in base roots nodes lines root next)))
          next_history (subst (λ (r : List ℕ). R r (pending_of (open_in base roots nodes lines root next))) (sym pushed) seen)

-- ---- what the look-ups find

module _ (base : ℕ) (roots : List ℕ) (nodes : List Node) (lines root next : ℕ) (inside : base ≤ length nodes) (q : Path) where
  tree_is : (pending_of (open_in base roots nodes lines root next)).tree q ≡ tree_in base nodes root q
  tree_is = ap (λ (s : Pending). s.tree q) (pending_is base roots nodes lines root next inside)

  pub no_node_at : None ≡ walk (rows nodes) root q → (pending_of (open_in base roots nodes lines root next)).tree q ≡ None
  no_node_at e = tree_is ∙ ap (option_and_then (place_at (rows nodes) base)) (sym e)

  module _ (n : ℕ) (found : Some n ≡ walk (rows nodes) root q) where
    pub place_is : (node : Node) → slice_get nodes n ≡ Some node
        → (number : Option ℕ) × ((pending_of (open_in base roots nodes lines root next)).tree q ≡ Some (place_of number (row_of node)))
    place_is node e = (
      cond (nat_lt n base) (Some n) None,
      tree_is ∙ ap (option_and_then (place_at (rows nodes) base)) (sym found)
          ∙ ap (λ o. option_map (place_of (cond (nat_lt n base) (Some n) None)) (option_map row_of o)) e,
    )

    pub no_place_at : slice_get nodes n ≡ None → (pending_of (open_in base roots nodes lines root next)).tree q ≡ None
    no_place_at e = tree_is ∙ ap (option_and_then (place_at (rows nodes) base)) (sym found)
        ∙ ap (λ o. option_map (place_of (cond (nat_lt n base) (Some n) None)) (option_map row_of o)) e
