-- Copies in whatever order their rows are: their nodes by path, and the databases that stand for them.
use Rattle.std.proofs.Common.{◌≡◌, Bool, true, false, ◌⊎◌, inl, inr, List, [], ◌∷◌, refl, sym, ◌∙◌, ap, subst, true≢false}
use Rattle.std.specs.Prelude.{ℕ, codes, cond, nat_eq, Option, Some, None, Result, Ok, Err, OnOk}
use Rattle.std.specs.BTreeMap.{is_at}
use Rattle.std.specs.List.{list_all}
use Rattle.std.specs.Cmp.Lexicographic.{pointwise}
use Rattle.std.specs.Map.{lookup}
use Rattle.svn_types.specs.Names.{Path, path_cmp}
use Rattle.svn_types.proofs.NameLemmas.{Name}
use Rattle.svn_repo.specs.History.{History}
use Rattle.svn_model.specs.declared.base_node.BaseNode.{BaseNode}
use Rattle.svn_model.specs.declared.base_node.BaseNode.TheVariants.{File as FileNode, Dir as DirNode, NotPresent}
use Rattle.svn_model.specs.Nodes.{get_in, IsTrueOf}
use Rattle.svn_model.specs.Refusals.{nodes_fault}
use Rattle.svn_wcdb.specs.Bases.{Base, base_tree_of}
use Rattle.svn_wcdb.specs.Reading.{Place}
use Rattle.svn_wcrows.specs.Copies.{StandsFor}
use Rattle.svn_folder.specs.declared.entry.Entry.{Entry}
use Rattle.svn_folder.specs.declared.entry.Entry.TheVariants.{File}
use Rattle.svn_folder.specs.declared.step.Step.{Step}
use Rattle.svn_folder.specs.States.{Seen, State, seen}
use Rattle.svn_folder.specs.Steps.{run}
use Rattle.svn_folder.specs.Crashes.{RunMayLeave}
use Rattle.svn_folder.specs.Pasts.{Past, Known}
use Rattle.svn_disk.specs.Goes.{IsAlways, Keeps, Stops}
use Rattle.svn_disk.specs.Places.{is_inside, database_place, text_below}
use Rattle.svn_disk.specs.Plans.{text_of_node}
use Rattle.svn_disk.specs.Crashes.{IsDatabaseOf, OfText, EachText, IsWhole, IsOneOf, AreNodesOf, IsThere, IsOldOrNew, IsThereOrTrue, IsTrueThere, IsTextAt, HasDatabase, IsSafe, IsKept, LeavesFrom, AfterFrom, Adds, AddsSome, Leads, Breaks, Runs}
use Rattle.svn_disk.proofs.Leaving.{each_apart}
use Rattle.svn_disk.proofs.Whole.{safe_apart, safe_left}
use Rattle.svn_disk.proofs.Running.{leads_more, breaks_more, keeps_leads, stops_breaks, leads_none, breaks_none, leads_along, breaks_along}

abbrev svn : Name
svn = codes ".svn"

-- ---- nodes by path

-- the text of a node that is found
each_at : (P : List ℕ → Type 0) (p : Path) (nodes : List (Path × BaseNode)) (node : BaseNode) → EachText P nodes → get_in nodes p ≡ Some node → OfText P node
each_at P p [] node each found = absurd (none found)
  where
    some : Option BaseNode → Bool
    some (Some x) = true
    some None = false

    none : None ≡ Some node → ⊥
    none e = true≢false (sym (ap some e))
each_at P p (entry ∷ nodes) node each found = by (is_at (path_cmp p) entry.0) refl (λ later. each_at P p nodes node each.1 later)
  where
    in_some : Option BaseNode → BaseNode
    in_some (Some x) = x
    in_some None = node

    by : (b : Bool) → is_at (path_cmp p) entry.0 ≡ b → (get_in nodes p ≡ Some node → OfText P node) → OfText P node
    by true e rest =
        subst (OfText P) (ap in_some (sym (ap (λ x. cond x (Some entry.1) (get_in nodes p)) e) ∙ found)) each.0
    by false e rest = rest (sym (ap (λ x. cond x (Some entry.1) (get_in nodes p)) e) ∙ found)

file_text : (P : List ℕ → Type 0) (node : BaseNode) (t : List ℕ) → text_of_node node ≡ Some t → OfText P node → P t
file_text P (FileNode r q x ps) t is h = subst P (ap in_some is) h
  where
    in_some : Option (List ℕ) → List ℕ
    in_some (Some y) = y
    in_some None = x
file_text P (DirNode r q c ps) t is h = absurd (true≢false (sym (ap some is)))
  where
    some : Option (List ℕ) → Bool
    some (Some x) = true
    some None = false
file_text P NotPresent t is h = absurd (true≢false (sym (ap some is)))
  where
    some : Option (List ℕ) → Bool
    some (Some x) = true
    some None = false

-- a copy has a text at a path, and its texts are there
pub kept_text : (P : List ℕ → Type 0) (copy nodes : List (Path × BaseNode)) (p : Path) (t : List ℕ) → AreNodesOf copy nodes → EachText P nodes → IsTextAt copy p t → P t
kept_text P copy nodes p t are each at =
    file_text P at.node t at.text (each_at P p nodes at.node each (are.same p ∙ at.found))

-- and so it is that of a node with this text
pub kept_of_file : (P : State → List ℕ → Type 0) (now : Past) (copy : List (Path × BaseNode)) (p : Path) (node : BaseNode) (t : List ℕ)
    → Some t ≡ text_of_node node → IsTextAt copy p t → (old : List (Path × BaseNode)) → AreNodesOf copy old
    → IsAlways (λ s. EachText (P s) old → OfText (P s) node) now
kept_of_file P now copy p node t is at old are s steps known olds = by node is
  where
    text : P (run s steps) t
    text = kept_text (P (run s steps)) copy old p t are olds at

    in_some : Option (List ℕ) → List ℕ
    in_some (Some x) = x
    in_some None = t

    by : (n : BaseNode) → Some t ≡ text_of_node n → OfText (P (run s steps)) n
    by (FileNode r q x ps) e = subst (P (run s steps)) (ap in_some e) text
    by (DirNode r q c ps) e = tt
    by NotPresent e = tt

-- ---- copies with the same nodes

pub same_copies : (copy other nodes : List (Path × BaseNode)) → AreNodesOf copy nodes → AreNodesOf other nodes → (p : Path) → get_in copy p ≡ get_in other p
same_copies copy other nodes are others p = sym (are.same p) ∙ others.same p

pub are_others : (copy other nodes : List (Path × BaseNode)) → ((p : Path) → get_in copy p ≡ get_in other p) → AreNodesOf copy nodes → AreNodesOf other nodes
are_others copy other nodes same are = record { once = are.once; same = λ p. are.same p ∙ same p }

pub there_others : (copy other : List (Path × BaseNode)) → ((p : Path) → get_in copy p ≡ get_in other p) → (left : Seen) → IsThere copy left → IsThere other left
there_others copy other same left there = record { nodes = there.nodes; are = are_others copy other there.nodes same there.are; whole = there.whole }

pub kept_others : (copy other : List (Path × BaseNode)) → ((p : Path) → get_in copy p ≡ get_in other p) → (s : State) → IsKept copy s → IsKept other s
kept_others copy other same s kept = record { nodes = kept.nodes; are = are_others copy other kept.nodes same kept.are; safe = kept.safe }

-- ---- bytes stand for one list of nodes

one_list : (one two : List (Path × BaseNode)) (bytes : List ℕ) → StandsFor one bytes → StandsFor two bytes → one ≡ two
one_list one two bytes a b =
    sym a.nodes_are ∙ ap (λ (base : Base). base.nodes) (ap in_ok (sym a.read ∙ b.read)) ∙ b.nodes_are
  where
    in_ok : Result Base Place → Base
    in_ok (Ok base) = base
    in_ok (Err place) = a.base

pub one_database : (one two : List (Path × BaseNode)) (found : Option Entry) → IsDatabaseOf one found → IsDatabaseOf two found → one ≡ two
one_database one two found a b =
    one_list one two a.bytes a.stands (subst (StandsFor two) (ap in_file (sym b.is_file ∙ a.is_file)) b.stands)
  where
    in_file : Option Entry → List ℕ
    in_file (Some (File bytes mode)) = bytes
    in_file _ = []

-- ---- from nodes to copies

module _ (one two old new : List (Path × BaseNode)) (are_old : AreNodesOf one old) (are_new : AreNodesOf two new) where
  pub either_there : (left : Seen) → IsOneOf old new left → IsOldOrNew one two left
  either_there left (inl whole) = inl (record { nodes = old; are = are_old; whole = whole })
  either_there left (inr whole) = inr (record { nodes = new; are = are_new; whole = whole })

pub whole_there : (copy nodes : List (Path × BaseNode)) → AreNodesOf copy nodes → (left : Seen) → IsWhole svn nodes left → IsThere copy left
whole_there copy nodes are left whole = record { nodes = nodes; are = are; whole = whole }

pub kept_left : (copy : List (Path × BaseNode)) (s : State) → IsKept copy s → (left : Seen) → RunMayLeave s [] left → IsThere copy left
kept_left copy s kept left may = record { nodes = kept.nodes; are = kept.are; whole = safe_left svn kept.nodes s kept.safe left may }

-- a copy is on the disk in some order of its rows: what holds of each order holds of it
module _ (copy : List (Path × BaseNode)) (C : Seen → Type 0) where
  pub leads_kept : {J : State → Type 0} → {old new : Past} → ((nodes : List (Path × BaseNode)) → AreNodesOf copy nodes → Leads (IsSafe svn nodes) C J old new)
      → Leads (IsKept copy) C J old new
  leads_kept leads = record { each = λ s steps is kept. (leads kept.nodes kept.are).each s steps is kept.safe }

  pub breaks_kept : {old new : Past} → ((nodes : List (Path × BaseNode)) → AreNodesOf copy nodes → Breaks (IsSafe svn nodes) C old new) → Breaks (IsKept copy) C old new
  breaks_kept breaks = record { each = λ s steps is kept. (breaks kept.nodes kept.are).each s steps is kept.safe }

-- something is added, and then the new copy takes the place of the old one
module _ (one two : List (Path × BaseNode)) where
  some_there : (nodes : List (Path × BaseNode)) → AreNodesOf one nodes → (left : Seen) → IsWhole svn nodes left → IsOldOrNew one two left
  some_there nodes are left whole = inl (whole_there one nodes are left whole)

  added_leads : (old now : Past) → Adds svn old now → (nodes : List (Path × BaseNode)) → AreNodesOf one nodes
      → Leads (IsSafe svn nodes) (IsOldOrNew one two) (IsSafe svn nodes) old now
  added_leads old now adds nodes are = leads_along (λ s safe. safe) (some_there nodes are) (λ s safe. safe) (adds.leads nodes)

  pub added_breaks : (old now : Past) → AddsSome svn old now → Breaks (IsKept one) (IsOldOrNew one two) old now
  added_breaks old now some =
      breaks_kept one (IsOldOrNew one two)
      (λ nodes are. breaks_along (λ s safe. safe) (some_there nodes are) (some.breaks nodes))

  pub brought_runs : {T : Type 0} → {E : Type 0} → (new : List (Path × BaseNode)) → AreNodesOf two new → (old now past : Past) (result : Result T E) → Adds svn old now
      → ((nodes : List (Path × BaseNode)) → AreNodesOf one nodes → Runs (IsSafe svn nodes) (IsOneOf nodes new) (IsSafe svn new) now result past)
      → Runs (IsKept one) (IsOldOrNew one two) (IsKept two) old result past
  brought_runs new are_new old now past (Ok value) adds runs = (
    leads_kept one (IsOldOrNew one two)
        (λ nodes are. leads_more (added_leads old now adds nodes are)
        (leads_along (λ s safe. safe) (either_there one two nodes new are are_new) (λ s safe. record { nodes = new; are = are_new; safe = safe }) (runs nodes are).0)),
    tt,
  )
  brought_runs new are_new old now past (Err fault) adds runs = (
    tt,
    breaks_kept one (IsOldOrNew one two)
        (λ nodes are. breaks_more (added_leads old now adds nodes are)
        (breaks_along (λ s safe. safe) (either_there one two nodes new are are_new) (runs nodes are).1)),
  )

  -- nothing is done
  pub kept_none : (now : Past) → Breaks (IsKept one) (IsOldOrNew one two) now now
  kept_none now = breaks_none (IsKept one) (IsOldOrNew one two) (IsKept one) (λ s kept left may. inl (kept_left one s kept left may)) now

  -- nor has to be
  pub same_leads : one ≡ two → (now : Past) → Leads (IsKept one) (IsOldOrNew one two) (IsKept two) now now
  same_leads same now =
      leads_along (λ s kept. kept) (λ left there. there) (λ s kept. subst (λ (xs : List (Path × BaseNode)). IsKept xs s) same kept)
      (leads_none (IsKept one) (IsOldOrNew one two) (λ s kept left may. inl (kept_left one s kept left may)) now)

-- the database says in which order they are
module _ (copy nodes : List (Path × BaseNode)) (old : Past) (database : IsAlways (λ s. IsDatabaseOf nodes (seen s (database_place svn))) old) where
  kept_nodes : (s : State) (steps : List Step) → old ≡ Known s steps → (kept : IsKept copy (run s steps)) → kept.nodes ≡ nodes
  kept_nodes s steps is kept =
      one_database kept.nodes nodes (seen (run s steps) (database_place svn)) kept.safe.database.0 (database s steps is)

  leads_read : (C : Seen → Type 0) (J : State → Type 0) (new : Past) → (AreNodesOf copy nodes → Leads (IsSafe svn nodes) C J old new) → Leads (IsKept copy) C J old new
  leads_read C J new leads = record {
    each = λ s steps is kept.
        let same = kept_nodes s steps is kept in
        (leads (subst (AreNodesOf copy) same kept.are)).each s steps is (subst (λ (xs : List (Path × BaseNode)). IsSafe svn xs (run s steps)) same kept.safe);
  }

  breaks_read : (C : Seen → Type 0) (new : Past) → (AreNodesOf copy nodes → Breaks (IsSafe svn nodes) C old new) → Breaks (IsKept copy) C old new
  breaks_read C new breaks = record {
    each = λ s steps is kept.
        let same = kept_nodes s steps is kept in
        (breaks (subst (AreNodesOf copy) same kept.are)).each s steps is (subst (λ (xs : List (Path × BaseNode)). IsSafe svn xs (run s steps)) same kept.safe);
  }

  pub runs_read : {T : Type 0} → {E : Type 0} → (new : Past) (result : Result T E) → Runs (IsSafe svn nodes) (IsWhole svn nodes) (IsSafe svn nodes) old result new
      → Runs (IsKept copy) (IsThere copy) (IsKept copy) old result new
  runs_read new (Ok value) runs = (
    leads_read (IsThere copy) (IsKept copy) new
        (λ are. leads_along (λ s safe. safe) (whole_there copy nodes are) (λ s safe. record { nodes = nodes; are = are; safe = safe }) runs.0),
    tt,
  )
  runs_read new (Err fault) runs = (
    tt,
    breaks_read (IsThere copy) new
        (λ are. breaks_along (λ s safe. safe) (whole_there copy nodes are) runs.1),
  )

-- ---- a copy that was read

module _ (copy other : List (Path × BaseNode)) (old : Past) (has : IsAlways (HasDatabase other) old) where
  -- the one that is there has its nodes
  has_same : (s : State) (steps : List Step) → old ≡ Known s steps → IsKept copy (run s steps) → (p : Path) → get_in copy p ≡ get_in other p
  has_same s steps is kept =
      let read = has s steps is in
      let same = one_database read.nodes kept.nodes (seen (run s steps) (database_place svn)) read.database kept.safe.database.0 in
      same_copies copy other kept.nodes kept.are (subst (AreNodesOf other) same read.are)

  pub leaves_read : (h : History) (new : List (Path × BaseNode)) (past : Past) → IsTrueOf h (get_in new) → LeavesFrom (IsKept other) (IsOldOrNew other new) old past
      → LeavesFrom (IsKept copy) (IsThereOrTrue copy h) old past
  leaves_read h new past is_true leaves s steps is kept left may = by (leaves s steps is (kept_others copy other same (run s steps) kept) left may)
    where
      same : (p : Path) → get_in copy p ≡ get_in other p
      same = has_same s steps is kept

      by : IsOldOrNew other new left → IsThereOrTrue copy h left
      by (inl there) = inl (there_others other copy (λ p. sym (same p)) left there)
      by (inr there) = inr (record { copy = new; is_true = is_true; there = there })

  pub after_read : (h : History) (new : List (Path × BaseNode)) (past : Past) → IsTrueOf h (get_in new) → AfterFrom (IsKept other) (IsThere new) old past
      → AfterFrom (IsKept copy) (IsTrueThere h) old past
  after_read h new past is_true after s steps is kept left may =
      record {
        copy = new;
        is_true = is_true;
        there = after s steps is (kept_others copy other (has_same s steps is kept) (run s steps) kept) left may;
      }

  pub after_read_ok : {T : Type 0} → {E : Type 0} → (h : History) (new : List (Path × BaseNode)) (past : Past) (result : Result T E) → IsTrueOf h (get_in new)
      → OnOk result (AfterFrom (IsKept other) (IsThere new) old past) → OnOk result (AfterFrom (IsKept copy) (IsTrueThere h) old past)
  after_read_ok h new past (Ok value) is_true after = after_read h new past is_true after
  after_read_ok h new past (Err fault) is_true after = tt

-- ---- nodes that are looked through

module _ (P : State → List ℕ → Type 0) (now : Past) (old all : List (Path × BaseNode)) where
  -- the texts of what is left are all that is missing, if those of the old copy are there
  abbrev pub IsMissingIn : List (Path × BaseNode) → Type 0
  IsMissingIn rest = IsAlways (λ s. EachText (P s) old → EachText (P s) rest → EachText (P s) all) now

  pub next_missing : (rest more : List (Path × BaseNode)) (entry : Path × BaseNode) → rest ≡ entry ∷ more
      → IsAlways (λ s. EachText (P s) old → OfText (P s) entry.1) now → IsMissingIn rest → IsMissingIn more
  next_missing rest more entry is here before s steps known olds later =
      before s steps known olds (subst (EachText (P (run s steps))) (sym is) (here s steps known olds, later))

  pub none_missing : (rest : List (Path × BaseNode)) → rest ≡ [] → IsMissingIn rest → IsAlways (λ s. EachText (P s) old → EachText (P s) all) now
  none_missing rest is before s steps known olds = before s steps known olds (subst (EachText (P (run s steps))) (sym is) tt)

-- nothing is done to it
pub mend_none : (h : History) (copy : List (Path × BaseNode)) (now : Past) → Breaks (IsKept copy) (IsThereOrTrue copy h) now now
mend_none h copy now = breaks_none (IsKept copy) (IsThereOrTrue copy h) (IsKept copy) (λ s kept left may. inl (kept_left copy s kept left may)) now

-- ---- what is done beside it, in the folder in which another was made

abbrev aside : Name
aside = codes ".svn-new"

aside_safe : (nodes : List (Path × BaseNode)) (s : State) (more : List Step) → list_all (is_inside aside) more ≡ true → IsSafe svn nodes s
    → IsSafe svn nodes (run s more) × ((left : Seen) → RunMayLeave s more left → IsWhole svn nodes left)
aside_safe nodes s more each safe =
    safe_apart svn nodes s more (λ t is. each_apart aside svn (codes "pristine" ∷ text_below t) refl more each) (each_apart aside svn (codes "wc.db" ∷ []) refl more each)
    safe

module _ (copy : List (Path × BaseNode)) (old new : Past) where
  pub aside_leads : Keeps (is_inside aside) old new → Leads (IsKept copy) (IsThere copy) (IsKept copy) old new
  aside_leads keeps =
      leads_kept copy (IsThere copy)
      (λ nodes are. leads_along (λ s safe. safe) (whole_there copy nodes are) (λ s safe. record { nodes = nodes; are = are; safe = safe })
      (keeps_leads (IsSafe svn nodes) (IsWhole svn nodes) (IsSafe svn nodes) (is_inside aside) old new (aside_safe nodes) keeps))

  pub aside_breaks : Stops (is_inside aside) old new → Breaks (IsKept copy) (IsThere copy) old new
  aside_breaks stops =
      breaks_kept copy (IsThere copy)
      (λ nodes are. breaks_along (λ s safe. safe) (whole_there copy nodes are)
      (stops_breaks (IsSafe svn nodes) (IsWhole svn nodes) (IsSafe svn nodes) (is_inside aside) old new
      (λ s more each safe left may. (aside_safe nodes s more each safe).1 left may) stops))

pub there_none : (copy : List (Path × BaseNode)) (now : Past) → Breaks (IsKept copy) (IsThere copy) now now
there_none copy now = breaks_none (IsKept copy) (IsThere copy) (IsKept copy) (kept_left copy) now
