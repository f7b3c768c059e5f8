-- What the report of a copy says of all its nodes.
use Rattle.std.proofs.Common.{◌≡◌, Bool, true, false, cond, ◌&&◌, ◌||◌, not, List, ℕ, [], ◌∷◌, ◌++◌, nat_eq, refl, sym, ap, ◌∙◌, Option}
use Rattle.std.proofs.Common.{Some, None, true≢false}
use Rattle.std.proofs.Common.{append_assoc, append-nil, ◌+◌, suc, take, arith}
use Rattle.std.specs.Prelude.{slice_get}
use Rattle.std.specs.List.{list_any}
use Rattle.std.specs.Option.{option_to_list}
use Rattle.std.proofs.lemmas.List.Folds.{list_any-append}
use Rattle.std.proofs.lemmas.Bool.{eq-eqb, not-true, or_parts}
use Rattle.std.proofs.lemmas.Option.{same_Some}
use Rattle.svn_lists.proofs.Options.{some-none}
use Rattle.svn_lists.proofs.Places.{take_next}
use Rattle.svn_types.specs.Names.{Path}
use Rattle.svn_types.specs.Paths.{path_eq, is_root, child, parent, last_name}
use Rattle.svn_types.proofs.PathLemmas.{same_path, path_eq-symm, is_root-child, parent-child, last_name-child}
use Rattle.svn_report.specs.declared.entry.ReportEntry.{ReportEntry}
use Rattle.svn_report.specs.declared.entry.ReportEntry.TheVariants.{SetPath, LinkPath, DeletePath}
use Rattle.svn_report.specs.Reports.{Entries, entry_at}
use Rattle.svn_model.specs.declared.base_node.BaseNode.{BaseNode}
use Rattle.svn_model.specs.declared.base_node.BaseNode.TheVariants.{File as FileNode, Dir as DirNode, NotPresent}
use Rattle.svn_model.specs.Nodes.{get_in, InPathOrder, IsWorkingCopy, is_present, is_not_present, is_incomplete, is_dir, node_path}
use Rattle.svn_model.specs.Nodes.{node_revision}
use Rattle.svn_model.specs.Crawl.{is_switched, entry_for, crawl}
use Rattle.law_copy.proofs.Crawls.{crawled, entry_at-crawl}
use Rattle.svn_wc.specs.Crawling.{is_link, is_complete_set, is_root_alone}
use Rattle.svn_wc.specs.Unswitched.{is_level, IsUnswitched, IsLevel}
use Rattle.svn_wc.proofs.LevelCrawl.{AtLevel, at_level}
use Rattle.svn_wc.proofs.Unswitched.{from_below}

-- one entry more
pub none_more : (es : Entries) (i : ℕ) → list_any (λ (e : Path × ReportEntry). is_link e.1) (take i es) ≡ false
    → list_any (λ (e : Path × ReportEntry). is_link e.1) (option_to_list (slice_get es i)) ≡ false
    → list_any (λ (e : Path × ReportEntry). is_link e.1) (take (i + 1) es) ≡ false
none_more es i before here =
    let p : Path × ReportEntry → Bool = λ e. is_link e.1 in
    let next : i + 1 ≡ suc i = omega arith in
    ap (λ (k : ℕ). list_any p (take k es)) next ∙ sym (ap (list_any p) (take_next es i))
    ∙ list_any-append p (take i es) (option_to_list (slice_get es i)) ∙ (λ j. before j || here j)

-- what isn't among the entries is at no path
found_link : (es : Entries) (p : Path) (x : ReportEntry) → list_any (λ (e : Path × ReportEntry). is_link e.1) es ≡ false
    → entry_at es p ≡ Some x → is_link x ≡ false
found_link [] p x none found = absurd cc
found_link (e ∷ es) p x none found = by (path_eq e.0 p) (found_link es p x parts.1) found
  where
    parts : (is_link e.1 ≡ false) × (list_any (λ (e : Path × ReportEntry). is_link e.1) es ≡ false)
    parts = or_parts (is_link e.1) (list_any (λ (e : Path × ReportEntry). is_link e.1) es) none

    by : (b : Bool) → (entry_at es p ≡ Some x → is_link x ≡ false) → cond b (Some e.1) (entry_at es p) ≡ Some x → is_link x ≡ false
    by true later found = ap is_link (sym (same_Some e.1 x found)) ∙ parts.0
    by false later found = later found

-- a switched node is reported by a link
link_for : (p : Path) (above : Option BaseNode) (n : BaseNode) → is_root p ≡ false → is_present (Some n) ≡ true
    → is_switched p above (Some n) ≡ true
    → entry_for p above (Some n) ≡ Some (LinkPath (node_path (Some n)) (node_revision (Some n)) (is_incomplete (Some n)))
link_for p above n root present switched = rw (root, there n present, switched) refl
  where
    there : (n : BaseNode) → is_present (Some n) ≡ true → is_not_present (Some n) ≡ false
    there (FileNode r q text props) e = refl
    there (DirNode r q complete props) e = refl
    there NotPresent e = absurd (true≢false (sym e))

module _ (nodes : List (Path × BaseNode)) (order : InPathOrder nodes) (shape : IsWorkingCopy (get_in nodes))
    (none : list_any (λ (e : Path × ReportEntry). is_link e.1) (crawl nodes).entries ≡ false) where
  -- a node below a directory
  module _ (q : Path) (name : List ℕ) (n : BaseNode) (stands : get_in nodes (child q name) ≡ Some n)
      (present : is_present (Some n) ≡ true) where
    reported : is_switched (child q name) (get_in nodes (parent (child q name))) (Some n) ≡ true → ⊥
    reported switched =
        let link = link_for (child q name) (get_in nodes (parent (child q name))) n (is_root-child q name) present switched in
        true≢false
        (found_link (crawl nodes).entries (child q name)
        (LinkPath (node_path (Some n)) (node_revision (Some n)) (is_incomplete (Some n))) none
        (entry_at-crawl nodes order (child q name) ∙ ap (crawled nodes (child q name)) stands ∙ link))

    not_switched : node_path (Some n) ≡ node_path (get_in nodes q) ++ name ∷ []
    not_switched =
        by (path_eq (node_path (Some n)) (node_path (get_in nodes (parent (child q name))) ++ last_name (child q name))) refl
        ∙ (λ i. node_path (get_in nodes (parent-child q name i)) ++ last_name-child q name i)
      where
        by : (b : Bool)
            → path_eq (node_path (Some n)) (node_path (get_in nodes (parent (child q name))) ++ last_name (child q name)) ≡ b
            → node_path (Some n) ≡ node_path (get_in nodes (parent (child q name))) ++ last_name (child q name)
        by true e = same_path _ _ e
        by false e = absurd (reported (ap not e))

  -- a report without a link
  pub no_link_unswitched : IsUnswitched (get_in nodes)
  no_link_unswitched = from_below (get_in nodes) shape (λ q name present. by q name (get_in nodes (child q name)) refl present)
    where
      by : (q : Path) (name : List ℕ) (o : Option BaseNode) → get_in nodes (child q name) ≡ o → is_present o ≡ true
          → node_path o ≡ node_path (get_in nodes q) ++ name ∷ []
      by q name None stands present = absurd (true≢false (sym present))
      by q name (Some n) stands present = not_switched q name n stands present

-- ---- a report of the root alone

-- what is reported by no entry, below a directory that is complete, is level as that
silent_level : (p : Path) (above : Option BaseNode) (n : BaseNode) (rev : ℕ) → is_root p ≡ false → is_incomplete above ≡ false
    → node_revision above ≡ rev → entry_for p above (Some n) ≡ None → is_level rev n ≡ true
silent_level p above NotPresent rev root complete same silent =
    let told : entry_for p above (Some NotPresent) ≡ Some DeletePath = rw (root, complete) refl in
    absurd (some-none DeletePath (sym told ∙ silent))
silent_level p above (FileNode r q text props) rev root complete same silent =
    by (is_switched p above (Some (FileNode r q text props))) refl (nat_eq r (node_revision above)) refl
  where
    by : (s : Bool) → is_switched p above (Some (FileNode r q text props)) ≡ s → (b : Bool) → nat_eq r (node_revision above) ≡ b
        → nat_eq r rev ≡ true
    by true s b e =
        absurd (some-none _ (sym (link_for p above (FileNode r q text props) root refl s) ∙ silent))
    by false s false e =
        let told : entry_for p above (Some (FileNode r q text props)) ≡ Some (SetPath r false) = rw (root, s, complete, e) refl in
        absurd (some-none _ (sym told ∙ silent))
    by false s true e = ap (nat_eq r) (sym same) ∙ e
silent_level p above (DirNode r q whole props) rev root complete same silent =
    by (is_switched p above (Some (DirNode r q whole props))) refl whole refl (nat_eq r (node_revision above)) refl
  where
    by : (s : Bool) → is_switched p above (Some (DirNode r q whole props)) ≡ s → (c : Bool) → whole ≡ c → (b : Bool)
        → nat_eq r (node_revision above) ≡ b → (whole && nat_eq r rev) ≡ true
    by true s c d b e =
        absurd (some-none _ (sym (link_for p above (DirNode r q whole props) root refl s) ∙ silent))
    by false s false d b e =
        let told : entry_for p above (Some (DirNode r q whole props)) ≡ Some (SetPath r (not whole)) = rw (root, s, complete, d) refl in
        absurd (some-none _ (sym told ∙ silent))
    by false s true d false e =
        let told : entry_for p above (Some (DirNode r q whole props)) ≡ Some (SetPath r (not whole)) = rw (root, s, complete, d, e) refl in
        absurd (some-none _ (sym told ∙ silent))
    by false s true d true e = λ i. d i && (ap (nat_eq r) (sym same) ∙ e) i

-- of one entry
record IsAlone (es : Entries) : Type 0 where
  entry : Path × ReportEntry
  entries : es ≡ entry ∷ []
  complete : is_complete_set entry.1 ≡ true

one_entry : (es : Entries) → is_root_alone es ≡ true → IsAlone es
one_entry [] h = absurd (true≢false (sym h))
one_entry (e ∷ []) h = record { entry = e; entries = refl; complete = h }
one_entry (e ∷ f ∷ es) h = absurd (true≢false (sym h))

module _ (nodes : List (Path × BaseNode)) (order : InPathOrder nodes) (shape : IsWorkingCopy (get_in nodes))
    (alone : is_root_alone (crawl nodes).entries ≡ true) where
  one : IsAlone (crawl nodes).entries
  one = one_entry (crawl nodes).entries alone

  -- the root's node, and its revision
  abbrev rev : ℕ
  rev = node_revision (get_in nodes [])

  at_root : (n : BaseNode) → get_in nodes [] ≡ Some n → (one.entry.0 ≡ []) × (is_level rev n ≡ true)
  at_root n stands = by (path_eq one.entry.0 []) refl found
    where
      found : entry_at (one.entry ∷ []) [] ≡ Some (SetPath (node_revision (Some n)) (is_incomplete (Some n)))
      found =
          ap (λ (es : Entries). entry_at es []) (sym one.entries) ∙ entry_at-crawl nodes order [] ∙ ap (crawled nodes []) stands

      is_dir_here : is_dir (Some n) ≡ true
      is_dir_here = sym (ap is_dir stands) ∙ shape.root

      level : (n : BaseNode) → is_dir (Some n) ≡ true → is_incomplete (Some n) ≡ false → is_level (node_revision (Some n)) n ≡ true
      level (DirNode r q true props) dir complete = eq-eqb r r refl
      level (DirNode r q false props) dir complete = absurd (true≢false complete)
      level (FileNode r q text props) dir complete = absurd (true≢false (sym dir))
      level NotPresent dir complete = absurd (true≢false (sym dir))

      by : (b : Bool) → path_eq one.entry.0 [] ≡ b
          → cond b (Some one.entry.1) None ≡ Some (SetPath (node_revision (Some n)) (is_incomplete (Some n)))
          → (one.entry.0 ≡ []) × (is_level rev n ≡ true)
      by false e found = absurd (some-none _ (sym found))
      by true e found =
          let complete : is_incomplete (Some n) ≡ false =
          not-true (is_incomplete (Some n)) (ap is_complete_set (sym (same_Some _ _ found)) ∙ one.complete) in (
            same_path one.entry.0 [] e,
            ap (λ (r : ℕ). is_level r n) (ap node_revision stands) ∙ level n is_dir_here complete,
          )

  -- the root
  root_level : (n : BaseNode) → get_in nodes [] ≡ Some n → is_level rev n ≡ true
  root_level n stands = (at_root n stands).1

  only_root : one.entry.0 ≡ []
  only_root = by (get_in nodes []) refl
    where
      by : (o : Option BaseNode) → get_in nodes [] ≡ o → one.entry.0 ≡ []
      by None e = absurd (true≢false (sym shape.root ∙ ap is_dir e))
      by (Some n) e = (at_root n e).0

  -- a node below one that is level
  below_level : (q : Path) (name : List ℕ) → ((m : BaseNode) → get_in nodes q ≡ Some m → is_level rev m ≡ true) → (n : BaseNode)
      → get_in nodes (child q name) ≡ Some n → is_level rev n ≡ true
  below_level q name above n stands = by (get_in nodes q) refl
    where
      apart : path_eq [] (child q name) ≡ false
      apart = path_eq-symm [] (child q name) ∙ not_root q
        where
          not_root : (q : Path) → path_eq (child q name) [] ≡ false
          not_root [] = refl
          not_root (m ∷ q) = refl

      silent : entry_for (child q name) (get_in nodes (parent (child q name))) (Some n) ≡ None
      silent =
          sym (entry_at-crawl nodes order (child q name) ∙ ap (crawled nodes (child q name)) stands)
          ∙ ap (λ (es : Entries). entry_at es (child q name)) one.entries
          ∙ ap (λ (b : Bool). cond b (Some one.entry.1) None) (ap (λ (p : Path). path_eq p (child q name)) only_root ∙ apart)

      by : (o : Option BaseNode) → get_in nodes q ≡ o → is_level rev n ≡ true
      by None e =
          absurd (true≢false
          (sym (shape.parents q name (λ none. some-none n (sym stands ∙ none))) ∙ ap is_dir e))
      by (Some m) e =
          let here : AtLevel rev (Some m) = at_level rev m (above m e) in
          let up : get_in nodes (parent (child q name)) ≡ Some m = ap (get_in nodes) (parent-child q name) ∙ e in
          silent_level (child q name) (get_in nodes (parent (child q name))) n rev (is_root-child q name) (ap is_incomplete up ∙ here.complete)
          (ap node_revision up ∙ here.revision) silent

  all_below : (q r : Path) → ((m : BaseNode) → get_in nodes q ≡ Some m → is_level rev m ≡ true) → (n : BaseNode)
      → get_in nodes (q ++ r) ≡ Some n → is_level rev n ≡ true
  all_below q [] above n stands = above n (ap (get_in nodes) (sym (append-nil q)) ∙ stands)
  all_below q (name ∷ r) above n stands =
      all_below (q ++ name ∷ []) r (below_level q name above) n (ap (get_in nodes) (append_assoc q (name ∷ []) r) ∙ stands)

  pub root_alone_level : IsLevel (get_in nodes)
  root_alone_level = (rev, λ p n stands. all_below [] p root_level n stands)

-- ---- what is known, or else is learned

pub learned : (known new : Bool) (P : Type 0) → (known ≡ true → P) → (new ≡ true → known ≡ false → P) → new ≡ true → P
learned true new P before now is = before refl
learned false new P before now is = now is refl
