-- The same revisions, loaded twice, make the same history but for the numbers of its nodes.
use Rattle.std.proofs.Common.{◌≡◌, ℕ, ◌+◌, ◌-◌, ◌<◌, ◌≤◌, Bool, cond, List, [], ◌∷◌, length, Option, Some, None, Ok, refl, subst, sym, ap, ◌∙◌, arith, inl, inr}
use Rattle.std.specs.Prelude.{option_map, option_and_then, MatchOption, ◌⊎◌}
use Rattle.std.proofs.lemmas.Bool.{cases_lt, lt-ltb}
use Rattle.std.proofs.lemmas.Option.{same_Some, slice_get_within, slice_get_past}
use Rattle.svn_lists.proofs.Options.{and_then_same}
use Rattle.svn_types.specs.Names.{Path}
use Rattle.svn_repo.specs.declared.change.Change.{Change}
use Rattle.svn_repo.specs.History.{History, NodeRow, node_at, look, walk}
use Rattle.svn_repo.specs.Laws.{NodesExist}
use Rattle.svn_repo.specs.Trees.{Place, Tree, place_of, place_at, tree_at}
use Rattle.svn_repo.specs.Changes.{IsCommit, IsRevision, IsNumbered, StandsIn, after_changes, latest_pending}
use Rattle.svn_repo.proofs.Meanings.{some_row, exist_after}
use Rattle.svn_dump.specs.declared.record.NodeRecord.{NodeRecord}
use Rattle.svn_dump.specs.declared.sections.Texts.{Texts}
use Rattle.svn_history.specs.Steps.{begun, with_changes}
use Rattle.svn_history.specs.Changes.{revision_changes}
use Rattle.svn_history.specs.Loading.{Revisions, EmptyCommits, no_commit, one_commit, FillsGap, Loads, loads_nothing, revision_0, one_revision}
use Rattle.svn_history.specs.SameHistories.{Seen, seen, seen_at, IsSame, DumpsLoadAsOne}
use Rattle.svn_history.proofs.OneReading.{dump_once}
use Rattle.svn_history.proofs.SameDrafts.{SameNumber, SamePlace, SamePlaces, SameTree, SameDraft, all_changed_same, revision_agrees}

-- ---- the same history

pub same_itself : (h : History) → IsSame h h
same_itself h = record {
  revisions = refl;
  lines = refl;
  nodes = λ r q. refl;
  shared = λ r s p q e. e;
  shared_too = λ r s p q e. e;
}

pub flipped : (a b : History) → IsSame a b → IsSame b a
flipped a b s = record {
  revisions = sym s.revisions;
  lines = sym s.lines;
  nodes = λ r q. sym (s.nodes r q);
  shared = s.shared_too;
  shared_too = s.shared;
}

-- the one number is where the other is
abbrev Both : History → History → ℕ → ℕ → Type 0
Both a b m n = (r : ℕ) × (p : Path) × (look a r p ≡ Some m) × (look b r p ≡ Some n)

-- ---- what is at a path

seen_row : (h : History) (r n : ℕ) (q : Path) (row : NodeRow) → look h r q ≡ Some n → node_at h n ≡ Some row → seen_at h r q ≡ Some (seen row)
seen_row h r n q row at is =
    ap (λ (o : Option ℕ). option_map seen (option_and_then (node_at h) o)) at ∙ ap (option_map seen) is

seen_none : (h : History) (r : ℕ) (q : Path) → look h r q ≡ None → seen_at h r q ≡ None
seen_none h r q at = ap (λ (o : Option ℕ). option_map seen (option_and_then (node_at h) o)) at

-- where nothing is seen nothing is, since what stands is a node
none_seen : (h : History) (r : ℕ) (q : Path) → NodesExist h → seen_at h r q ≡ None → look h r q ≡ None
none_seen h r q exist e = by (look h r q) refl
  where
    by : (o : Option ℕ) → look h r q ≡ o → o ≡ None
    by None at = refl
    by (Some n) at =
        let row = some_row (node_at h n) (exist r q n at) in
        let bad : Some (seen row.0) ≡ None = sym (seen_row h r n q row.0 at row.1) ∙ e in cc

number_seen : (a b : History) (r n : ℕ) (q : Path) → IsSame a b → NodesExist a → NodesExist b → look a r q ≡ Some n
    → (m : ℕ) × (look b r q ≡ Some m)
number_seen a b r n q same exist_a exist_b at = by (look b r q) refl
  where
    by : (o : Option ℕ) → look b r q ≡ o → (m : ℕ) × (o ≡ Some m)
    by (Some m) there = (m, refl)
    by None there =
        let none : look a r q ≡ None = none_seen a r q exist_a (same.nodes r q ∙ seen_none b r q there) in
        let bad : Some n ≡ None = sym at ∙ none in cc

-- ---- trees

placed : (h : History) (r n : ℕ) (q : Path) (row : NodeRow) → look h r q ≡ Some n → node_at h n ≡ Some row
    → tree_at h r q ≡ Some (place_of (Some n) row)
placed h r n q row at is =
    let F : Bool → Option Place = λ b. option_map (place_of (cond b (Some n) None)) (node_at h n) in
    ap (λ (o : Option ℕ). option_and_then (place_at (node_at h) (length h.nodes)) o) at
    ∙ ap F (lt-ltb n (length h.nodes) (slice_get_within h.nodes n row is)) ∙ ap (option_map (place_of (Some n))) is

same_rows : (R : ℕ → ℕ → Type 0) (m n : ℕ) (x y : NodeRow) → R m n → seen x ≡ seen y → SamePlace R (place_of (Some m) x) (place_of (Some n) y)
same_rows R m n x y number e = record {
  line = ap (λ (s : Seen). s.0) e;
  kind = ap (λ (s : Seen). s.1) e;
  text = ap (λ (s : Seen). s.2) e;
  props = ap (λ (s : Seen). s.3) e;
  number = number;
}

module _ (a b : History) (same : IsSame a b) (exist_a : NodesExist a) (exist_b : NodesExist b) where
  trees_same : (r : ℕ) → SameTree (Both a b) (tree_at a r) (tree_at b r)
  trees_same r q = by (look a r q) refl (look b r q) refl
    where
      none_tree : (h : History) → look h r q ≡ None → tree_at h r q ≡ None
      none_tree h at = ap (λ (o : Option ℕ). option_and_then (place_at (node_at h) (length h.nodes)) o) at

      both : (o p : Option Place) → tree_at a r q ≡ o → tree_at b r q ≡ p → SamePlaces (Both a b) o p
          → SamePlaces (Both a b) (tree_at a r q) (tree_at b r q)
      both o p e f s =
          subst (λ (z : Option Place). SamePlaces (Both a b) z (tree_at b r q)) (sym e)
          (subst (λ (z : Option Place). SamePlaces (Both a b) o z) (sym f) s)

      by : (o : Option ℕ) → look a r q ≡ o → (p : Option ℕ) → look b r q ≡ p → SamePlaces (Both a b) (tree_at a r q) (tree_at b r q)
      by None e None f = both None None (none_tree a e) (none_tree b f) tt
      by None e (Some n) f =
          let none : look b r q ≡ None = none_seen b r q exist_b (sym (same.nodes r q) ∙ seen_none a r q e) in
          let bad : Some n ≡ None = sym f ∙ none in absurd (cc)
      by (Some m) e None f =
          let none : look a r q ≡ None = none_seen a r q exist_a (same.nodes r q ∙ seen_none b r q f) in
          let bad : Some m ≡ None = sym e ∙ none in absurd (cc)
      by (Some m) e (Some n) f =
          let x = some_row (node_at a m) (exist_a r q m e) in
          let y = some_row (node_at b n) (exist_b r q n f) in
          let rows : seen x.0 ≡ seen y.0 =
          same_Some (seen x.0) (seen y.0) (sym (seen_row a r m q x.0 e x.1) ∙ same.nodes r q ∙ seen_row b r n q y.0 f y.1) in
          both (Some (place_of (Some m) x.0)) (Some (place_of (Some n) y.0)) (placed a r m q x.0 e x.1) (placed b r n q y.0 f y.1)
          (same_rows (Both a b) m n x.0 y.0 (r, q, e, f) rows)

  latest_same : (r s : ℕ) → r ≡ s → SameTree (Both a b) (tree_at a r) (tree_at b s)
  latest_same r s e = subst (λ n. SameTree (Both a b) (tree_at a r) (tree_at b n)) e (trees_same r)

  pub drafts_same : SameDraft (Both a b) (begun a) (begun b)
  drafts_same = record {
    lines = same.lines;
    tree = latest_same (length a.roots - 1) (length b.roots - 1) (ap (λ n. n - 1) same.revisions);
    past = trees_same;
  }

-- ---- a commit

-- a place but for its number
abbrev pub view : Place → Seen
view x = (x.line, x.kind, x.text, x.props)

viewed : (R : ℕ → ℕ → Type 0) (o p : Option Place) → SamePlaces R o p → option_map view o ≡ option_map view p
viewed R None None s = refl
viewed R None (Some y) s = absurd s
viewed R (Some x) None s = absurd s
viewed R (Some x) (Some y) s = λ i. Some (s.line i, s.kind i, s.text i, s.props i)

module _ (h k : History) (cs : List Change) (exist : NodesExist h) (commit : IsCommit h k cs) where
  revision : IsRevision h k (after_changes h (latest_pending h) cs)
  revision = commit.1

  tree : Tree
  tree = (after_changes h (latest_pending h) cs).tree

  pub seen_before : (r : ℕ) (q : Path) → r < length h.roots → seen_at k r q ≡ seen_at h r q
  seen_before r q below =
      ap (λ (o : Option ℕ). option_map seen (option_and_then (node_at k) o)) (revision.old_revisions r q below)
      ∙ ap (option_map seen)
      (and_then_same (node_at k) (node_at h) (look h r q)
      (λ n at. (let row = some_row (node_at h n) (exist r q n at) in
      revision.old_nodes n (slice_get_within h.nodes n row.0 row.1))))

  pub seen_now : (q : Path) → seen_at k (length h.roots) q ≡ option_map view ((after_changes h (latest_pending h) cs).tree q)
  seen_now q = by ((after_changes h (latest_pending h) cs).tree q) (revision.tree q)
    where
      by : (o : Option Place) → StandsIn h k (length h.roots) q o → seen_at k (length h.roots) q ≡ option_map view o
      by None stands = seen_none k (length h.roots) q stands
      by (Some x) stands =
          let own = stands.5 in
          seen_row k (length h.roots) stands.0 q stands.1 stands.2 stands.3
          ∙ (λ i. Some (own.0 i, own.1 i, own.2 i, own.3 i))

  pub nothing_after : (r : ℕ) (q : Path) → length h.roots < r → look k r q ≡ None
  nothing_after r q past =
      ap (option_and_then (λ n. walk (node_at k) n q)) (slice_get_past k.roots r (omega (arith, past, revision.revisions)))

module _ (a b c d : History) (cs : List Change) (same : IsSame a b) (exist_a : NodesExist a) (exist_b : NodesExist b) (first : IsCommit a c cs)
    (other : IsCommit b d cs) where
  one : IsRevision a c (after_changes a (latest_pending a) cs)
  one = first.1

  two : IsRevision b d (after_changes b (latest_pending b) cs)
  two = other.1

  after : SameDraft (Both a b) (with_changes (begun a) cs) (with_changes (begun b) cs)
  after = all_changed_same (Both a b) (begun a) (begun b) cs (drafts_same a b same exist_a exist_b)

  nodes_same : (r : ℕ) (q : Path) → seen_at c r q ≡ seen_at d r q
  nodes_same r q = elim (cases_lt r (length a.roots)) [
    | inl below ↦ seen_before a c cs exist_a first r q below ∙ same.nodes r q
        ∙ sym (seen_before b d cs exist_b other r q (omega (arith, below, same.revisions)))
    | inr past ↦ elim (cases_lt (length a.roots) r) [
      | inl behind ↦ seen_none c r q (nothing_after a c cs exist_a first r q behind)
          ∙ sym (seen_none d r q (nothing_after b d cs exist_b other r q (omega (arith, behind, same.revisions))))
      | inr level ↦
          let here : r ≡ length a.roots = omega (arith, past, level) in
          let there : r ≡ length b.roots = omega (arith, here, same.revisions) in
          ap (λ n. seen_at c n q) here ∙ seen_now a c cs exist_a first q
          ∙ viewed (Both a b) ((after_changes a (latest_pending a) cs).tree q) ((after_changes b (latest_pending b) cs).tree q) (after.tree q)
          ∙ sym (seen_now b d cs exist_b other q) ∙ ap (λ n. seen_at d n q) (sym there)
    ]
  ]

  -- a node of before, with its number in the other; or a fresh one
  data Origin (r : ℕ) (p : Path) (n : ℕ) : Type 0 where
    known : (m : ℕ) → look d r p ≡ Some m → Both a b n m → Origin r p n
    fresh : length a.nodes ≤ n → r ≡ length a.roots → Origin r p n

  origin : (r n : ℕ) (p : Path) → look c r p ≡ Some n → Origin r p n
  origin r n p at = elim (cases_lt r (length a.roots)) [
    | inl below ↦
        let was : look a r p ≡ Some n = sym (one.old_revisions r p below) ∙ at in
        let m = number_seen a b r n p same exist_a exist_b was in
        known m.0 (two.old_revisions r p (omega (arith, below, same.revisions)) ∙ m.1) (r, p, was, m.1)
    | inr past ↦ elim (cases_lt (length a.roots) r) [
      | inl behind ↦
          let bad : Some n ≡ None = sym at ∙ nothing_after a c cs exist_a first r p behind in absurd (cc)
      | inr level ↦
          let here : r ≡ length a.roots = omega (arith, past, level) in
          let there : length b.roots ≡ r = omega (arith, here, same.revisions) in
          by here there ((after_changes a (latest_pending a) cs).tree p) ((after_changes b (latest_pending b) cs).tree p) (one.tree p)
          (two.tree p) (after.tree p)
    ]
  ]
    where
      numbered : (x y : Place) (k m : ℕ) (s : SamePlace (Both a b) x y) → r ≡ length a.roots → k ≡ n → IsNumbered a x k → IsNumbered b y m
          → look d r p ≡ Some m → Origin r p n
      numbered x y k m s here e f g there = by_number x.number y.number s.number f g
        where
          by_number : (u v : Option ℕ) → SameNumber (Both a b) u v → MatchOption u (length a.nodes ≤ k) (λ i. k ≡ i)
              → MatchOption v (length b.nodes ≤ m) (λ j. m ≡ j) → Origin r p n
          by_number None v s f g = fresh (omega (arith, e, f)) here
          by_number (Some i) None s f g = absurd s
          by_number (Some i) (Some j) s f g =
              known m there (subst (λ z. Both a b z m) (sym f ∙ e) (subst (λ z. Both a b i z) (sym g) s))

      by : r ≡ length a.roots → length b.roots ≡ r → (o u : Option Place) → StandsIn a c (length a.roots) p o
          → StandsIn b d (length b.roots) p u → SamePlaces (Both a b) o u → Origin r p n
      by here there None u f g s =
          let bad : Some n ≡ None = sym at ∙ ap (λ z. look c z p) here ∙ f in absurd (cc)
      by here there (Some x) None f g s = absurd s
      by here there (Some x) (Some y) f g s =
          let number : Some f.0 ≡ Some n = sym f.2 ∙ ap (λ z. look c z p) (sym here) ∙ at in
          numbered x y f.0 g.0 s here (same_Some f.0 n number) f.4 g.4 (ap (λ z. look d z p) (sym there) ∙ g.2)

  pub shared_so : (r s : ℕ) (p q : Path) → look c r p ≡ look c s q → look d r p ≡ look d s q
  shared_so r s p q e = by (look c r p) (look c s q) refl refl e
    where
      join : (n : ℕ) → look c r p ≡ Some n → look c s q ≡ Some n → Origin r p n → Origin s q n → look d r p ≡ look d s q
      join n f g (known m there old) (known k here new) =
          let level : Some m ≡ Some k =
          sym old.3 ∙ same.shared old.0 new.0 old.1 new.1 (old.2 ∙ sym new.2) ∙ new.3 in
          there ∙ level ∙ sym here
      join n f g (known m there old) (fresh new now) =
          let row = some_row (node_at a n) (exist_a old.0 old.1 n old.2) in
          let within = slice_get_within a.nodes n row.0 row.1 in absurd (omega (arith, within, new))
      join n f g (fresh new now) (known k here old) =
          let row = some_row (node_at a n) (exist_a old.0 old.1 n old.2) in
          let within = slice_get_within a.nodes n row.0 row.1 in absurd (omega (arith, within, new))
      join n f g (fresh new now) (fresh too then_) =
          let one_path : p ≡ q = one.distinct p q n new (ap (λ z. look c z p) (sym now) ∙ f) (ap (λ z. look c z q) (sym then_) ∙ g) in
          (λ i. look d ((now ∙ sym then_) i) (one_path i))

      by : (o u : Option ℕ) → look c r p ≡ o → look c s q ≡ u → o ≡ u → look d r p ≡ look d s q
      by None None f g e =
          none_seen d r p (exist_after b d cs exist_b other) (sym (nodes_same r p) ∙ seen_none c r p f)
          ∙ sym (none_seen d s q (exist_after b d cs exist_b other) (sym (nodes_same s q) ∙ seen_none c s q g))
      by None (Some n) f g e = absurd (cc)
      by (Some m) None f g e = absurd (cc)
      by (Some m) (Some n) f g e =
          let level : look c s q ≡ Some m = g ∙ sym e in
          join m f level (origin r m p f) (origin s m q level)

pub commits_same : (a b c d : History) (cs : List Change) → IsSame a b → NodesExist a → NodesExist b → IsCommit a c cs → IsCommit b d cs
    → IsSame c d
commits_same a b c d cs same exist_a exist_b first other =
    let after = all_changed_same (Both a b) (begun a) (begun b) cs (drafts_same a b same exist_a exist_b) in
    record {
      revisions = (let x = first.1 in let y = other.1 in omega (arith, x.revisions, y.revisions, same.revisions));
      lines = (let x = first.1 in let y = other.1 in x.lines ∙ after.lines ∙ sym y.lines);
      nodes = nodes_same a b c d cs same exist_a exist_b first other;
      shared = shared_so a b c d cs same exist_a exist_b first other;
      shared_too = shared_so b a d c cs (flipped a b same) exist_b exist_a other first;
    }

-- ---- gaps

grown : (h k : History) (cs : List Change) → IsCommit h k cs → length k.roots ≡ length h.roots + 1
grown h k cs commit = (let is = commit.1 in is.revisions)

not_fewer : (h k : History) → EmptyCommits h k → length h.roots ≤ length k.roots
not_fewer h k no_commit = omega arith
not_fewer h k (one_commit mid commits last) =
    let before = not_fewer h mid commits in let more = grown mid k [] last in omega (arith, before, more)

record Filled (c d : History) : Type 0 where
  pub same : IsSame c d
  pub one_exists : NodesExist c
  pub other_exists : NodesExist d

filled : (a b c d : History) → IsSame a b → NodesExist a → NodesExist b → EmptyCommits a c → EmptyCommits b d
    → length c.roots ≡ length d.roots → Filled c d
filled a b c d same exist_a exist_b no_commit no_commit size = record { same = same; one_exists = exist_a; other_exists = exist_b }
filled a b c d same exist_a exist_b no_commit (one_commit mid commits last) size =
    let before = not_fewer b mid commits in
    let more = grown mid d [] last in absurd (omega (arith, before, more, size, same.revisions))
filled a b c d same exist_a exist_b (one_commit mid commits last) no_commit size =
    let before = not_fewer a mid commits in
    let more = grown mid c [] last in absurd (omega (arith, before, more, size, same.revisions))
filled a b c d same exist_a exist_b (one_commit mid commits last) (one_commit other others final) size =
    let more = grown mid c [] last in
    let too = grown other d [] final in
    let before = filled a b mid other same exist_a exist_b commits others (omega (arith, more, too, size)) in
    record {
      same = commits_same mid other c d [] before.same before.one_exists before.other_exists last final;
      one_exists = exist_after mid c [] before.one_exists last;
      other_exists = exist_after other d [] before.other_exists final;
    }

-- ---- revisions

record OneLoaded (texts : Texts) (h : History) (rev : ℕ) (nodes : List NodeRecord) (rest : Revisions) (h' : History) : Type 0 where
  pub filled : History
  pub mid : History
  pub changes : List Change
  pub above : 0 < rev
  pub gap : FillsGap rev h filled
  pub made : revision_changes texts nodes (begun filled) ≡ Ok changes
  pub commit : IsCommit filled mid changes
  pub loads : Loads texts mid rest h'

-- what loading the revisions is
abbrev View : Texts → History → Revisions → History → Type 0
View texts h [] h' = h ≡ h'
View texts h (r ∷ rest) h' = ((r.0 ≡ 0) × Loads texts h rest h') ⊎ OneLoaded texts h r.0 r.1 rest h'

viewed_so : (texts : Texts) (h h' : History) (rs : Revisions) → Loads texts h rs h' → View texts h rs h'
viewed_so texts h h' rs loads_nothing = refl
viewed_so texts h h' rs (revision_0 loads) = inl (refl, loads)
viewed_so texts h h' rs (one_revision filled mid changes above gap made commit loads) =
    inr (record { filled = filled; mid = mid; changes = changes; above = above; gap = gap; made = made; commit = commit; loads = loads })

loaded_same : (texts : Texts) (rs : Revisions) (h k a b : History) → IsSame h k → NodesExist h → NodesExist k → Loads texts h rs a
    → Loads texts k rs b → IsSame a b
loaded_same texts [] h k a b same exist_h exist_k l m =
    subst (λ (z : History). IsSame z b) (viewed_so texts h a [] l)
    (subst (λ (z : History). IsSame h z) (viewed_so texts k b [] m) same)
loaded_same texts (r ∷ rs) h k a b same exist_h exist_k l m =
    by (λ i j. loaded_same texts rs i j a b) (viewed_so texts h a (r ∷ rs) l) (viewed_so texts k b (r ∷ rs) m)
  where
    by : ((i j : History) → IsSame i j → NodesExist i → NodesExist j → Loads texts i rs a → Loads texts j rs b → IsSame a b)
        → View texts h (r ∷ rs) a → View texts k (r ∷ rs) b → IsSame a b
    by rest (inl x) (inl y) = rest h k same exist_h exist_k x.1 y.1
    by rest (inl x) (inr y) = absurd (omega (arith, x.0, y.above))
    by rest (inr x) (inl y) = absurd (omega (arith, y.0, x.above))
    by rest (inr x) (inr y) =
        let gap = filled h k x.filled y.filled same exist_h exist_k x.gap.commits y.gap.commits (x.gap.size ∙ sym y.gap.size) in
        let drafts = drafts_same x.filled y.filled gap.same gap.one_exists gap.other_exists in
        let changes : x.changes ≡ y.changes =
        revision_agrees (Both x.filled y.filled) texts r.1 (begun x.filled) (begun y.filled) drafts x.changes y.changes x.made y.made in
        let commit : IsCommit y.filled y.mid x.changes = subst (IsCommit y.filled y.mid) (sym changes) y.commit in
        rest x.mid y.mid
        (commits_same x.filled y.filled x.mid y.mid x.changes gap.same gap.one_exists gap.other_exists x.commit commit)
        (exist_after x.filled x.mid x.changes gap.one_exists x.commit) (exist_after y.filled y.mid x.changes gap.other_exists commit)
        x.loads y.loads

pub dumps_load_as_one : DumpsLoadAsOne
dumps_load_as_one limits texts bytes h a b exist l m =
    let revisions : l.revisions ≡ m.revisions = dump_once limits texts bytes l.revisions m.revisions l.bytes m.bytes in
    loaded_same texts m.revisions h h a b (same_itself h) exist exist
    (subst (λ (rs : Revisions). Loads texts h rs a) revisions l.loads) m.loads
