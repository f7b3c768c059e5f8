-- What a copy reports if no path is switched, and all nodes are present, complete and of one revision: the root alone.
use Rattle.std.proofs.Common.{◌≡◌, ◌≢◌, ℕ, Bool, true, false, ◌&&◌, not, cond, List, [], ◌∷◌, ◌++◌, nat_eq, refl, sym, ap, ◌∙◌, subst}
use Rattle.std.proofs.Common.{Option, Some}
use Rattle.std.proofs.Common.{None, true≢false, ◌⊎◌, inl, inr, append_assoc}
use Rattle.std.specs.Prelude.{filter_map}
use Rattle.std.specs.List.{list_all, cons_option}
use Rattle.std.specs.Option.{is_some, option_map, option_or}
use Rattle.std.proofs.lemmas.Bool.{and_parts, eqb-true, eq-eqb}
use Rattle.svn_lists.proofs.Parts.{append_one}
use Rattle.svn_types.specs.Names.{Path}
use Rattle.svn_types.specs.Paths.{path_eq, is_root, child, parent, last_name}
use Rattle.svn_types.proofs.PathLemmas.{path_eq_from, path_cases, parent-child, parent_and_last}
use Rattle.svn_types.proofs.PathsInOrder.{not_before_itself}
use Rattle.svn_report.specs.declared.entry.ReportEntry.{ReportEntry}
use Rattle.svn_report.specs.declared.entry.ReportEntry.TheVariants.{SetPath}
use Rattle.svn_report.specs.Reports.{ReportView, with_entry}
use Rattle.svn_model.specs.declared.base_node.BaseNode.{BaseNode}
use Rattle.svn_model.specs.declared.base_node.BaseNode.TheVariants.{File as FileNode, Dir as DirNode, NotPresent}
use Rattle.svn_model.specs.Nodes.{get_in, InPathOrder, IsWorkingCopy, is_present, is_not_present, is_incomplete, is_dir, node_path}
use Rattle.svn_model.specs.Nodes.{node_revision}
use Rattle.svn_model.specs.Crawl.{is_switched, entry_for, reported_at, crawl}
use Rattle.law_copy.proofs.CrawlReports.{root_first}
use Rattle.law_copy.proofs.NodeLists.{get_in-first}
use Rattle.law_copy.proofs.Lookups.{get_in-append}
use Rattle.svn_nodes.proofs.NodeOrder.{at_first, before_behind}
use Rattle.svn_wc.specs.Unswitched.{is_level, IsUnswitched, IsLevel}
use Rattle.svn_wc.proofs.Ancestors.{next_stands}
use Rattle.svn_wc.proofs.Unswitched.{dir_present}

-- ---- one node

-- what is there, and is level
pub record AtLevel (rev : ℕ) (o : Option BaseNode) : Type 0 where
  pub present : is_present o ≡ true
  pub there : is_not_present o ≡ false
  pub complete : is_incomplete o ≡ false
  pub revision : node_revision o ≡ rev

pub at_level : (rev : ℕ) (n : BaseNode) → is_level rev n ≡ true → AtLevel rev (Some n)
at_level rev (FileNode r q text props) h = record { present = refl; there = refl; complete = refl; revision = eqb-true r rev h }
at_level rev (DirNode r q complete props) h =
    let parts = and_parts complete (nat_eq r rev) h in
    record { present = refl; there = refl; complete = ap not parts.0; revision = eqb-true r rev parts.1 }
at_level rev NotPresent h = absurd (true≢false (sym h))

found_level : (rev : ℕ) (es : List (Path × BaseNode)) (p : Path) → list_all (λ e. is_level rev e.1) es ≡ true → get_in es p ≢ None
    → AtLevel rev (get_in es p)
found_level rev [] p h some = absurd (some refl)
found_level rev (e ∷ es) p h some =
    subst (AtLevel rev) (sym (get_in-first e es p))
    (by (path_eq e.0 p) (found_level rev es p (and_parts _ _ h).1) (λ none. some (get_in-first e es p ∙ none)))
  where
    by : (b : Bool) → (get_in es p ≢ None → AtLevel rev (get_in es p)) → (cond b (Some e.1) (get_in es p) ≡ None → ⊥)
        → AtLevel rev (cond b (Some e.1) (get_in es p))
    by true rest k = at_level rev e.1 (and_parts _ _ h).0
    by false rest k = rest k

root_is : (p : Path) → is_root p ≡ true → p ≡ []
root_is [] h = refl
root_is (n ∷ p) h = absurd (true≢false (sym h))

root_found : (e : Path × BaseNode) → e.0 ≡ [] → is_some (get_in (e ∷ []) []) ≡ true
root_found e is = ap (λ (p : Path). is_some (get_in (e ∷ []) p)) (sym is) ∙ ap is_some (at_first e [])

-- ---- all of them

-- what is known of each path, of the list
pub all_level : (nodes : List (Path × BaseNode)) → InPathOrder nodes → IsWorkingCopy (get_in nodes) → IsLevel (get_in nodes)
    → (rev : ℕ) → node_revision (get_in nodes []) ≡ rev → list_all (λ e. is_level rev e.1) nodes ≡ true
all_level nodes order shape level rev root =
    subst (λ r. list_all (λ (e : Path × BaseNode). is_level r e.1) nodes ≡ true) (same (get_in nodes []) refl) (each [] nodes refl)
  where
    same : (o : Option BaseNode) → get_in nodes [] ≡ o → level.0 ≡ rev
    same None e = absurd (true≢false (sym shape.root ∙ ap is_dir e))
    same (Some n) e =
        let here : AtLevel level.0 (Some n) = at_level level.0 n (level.1 [] n e) in sym here.revision ∙ ap node_revision (sym e) ∙ root

    each : (done left : List (Path × BaseNode)) → nodes ≡ done ++ left → list_all (λ (e : Path × BaseNode). is_level level.0 e.1) left ≡ true
    each done [] parts = refl
    each done (e ∷ left) parts = λ i.
        level.1 e.0 e.1 (next_stands nodes done e left parts order) i && each (done ++ e ∷ []) left (parts ∙ append_one done e left) i

module _ (nodes : List (Path × BaseNode)) (order : InPathOrder nodes) (shape : IsWorkingCopy (get_in nodes))
    (unswitched : IsUnswitched (get_in nodes)) (rev : ℕ) (level : list_all (λ e. is_level rev e.1) nodes ≡ true) where
  -- nothing is reported of a node below the root
  module _ (e : Path × BaseNode) (stands : get_in nodes e.0 ≡ Some e.1) (below : is_root e.0 ≡ false) where
    some : get_in nodes e.0 ≢ None
    some none = true≢false (ap is_some (sym stands ∙ none))

    above_dir : is_dir (get_in nodes (parent e.0)) ≡ true
    above_dir = by (path_cases e.0)
      where
        by : (e.0 ≡ []) ⊎ ((q : Path) × (name : List ℕ) × (e.0 ≡ child q name)) → is_dir (get_in nodes (parent e.0)) ≡ true
        by (inl root) = absurd (true≢false (sym (ap is_root root) ∙ below))
        by (inr (q, name, is)) =
            ap (λ p. is_dir (get_in nodes p)) (ap parent is ∙ parent-child q name)
            ∙ shape.parents q name (λ none. some (ap (get_in nodes) is ∙ none))

    here : AtLevel rev (Some e.1)
    here = subst (AtLevel rev) stands (found_level rev nodes e.0 level some)

    above : AtLevel rev (get_in nodes (parent e.0))
    above =
        found_level rev nodes (parent e.0) level
        (λ none. true≢false (sym (dir_present _ above_dir) ∙ ap is_present none))

    joined : node_path (Some e.1) ≡ node_path (get_in nodes (parent e.0)) ++ last_name e.0
    joined =
        ap node_path (sym stands) ∙ unswitched e.0 (ap is_present stands ∙ here.present)
        ∙ ap (λ (p : Path). node_path (get_in nodes []) ++ p) (sym (parent_and_last e.0))
        ∙ sym (append_assoc (node_path (get_in nodes [])) (parent e.0) (last_name e.0))
        ∙ ap (λ (p : Path). p ++ last_name e.0) (sym (unswitched (parent e.0) above.present))

    switched : is_switched e.0 (get_in nodes (parent e.0)) (Some e.1) ≡ false
    switched = ap not (path_eq_from _ _ joined)

    same : nat_eq (node_revision (Some e.1)) (node_revision (get_in nodes (parent e.0))) ≡ true
    same = eq-eqb _ _ (here.revision ∙ sym above.revision)

    silent : entry_for e.0 (get_in nodes (parent e.0)) (Some e.1) ≡ None
    silent = rw (below, here.there, switched, above.complete, here.complete, same) refl

    unreported : reported_at nodes e ≡ None
    unreported = ap (option_map (λ (entry : ReportEntry). (e.0, entry))) silent

  -- nor of those after a node that include the root
  rest_silent : (done left : List (Path × BaseNode)) → nodes ≡ done ++ left → is_some (get_in done []) ≡ true
      → filter_map (reported_at nodes) left ≡ []
  rest_silent done [] parts root = refl
  rest_silent done (e ∷ left) parts root =
      ap (λ o. cons_option o (filter_map (reported_at nodes) left)) (unreported e (next_stands nodes done e left parts order) (below (is_root e.0) refl))
      ∙ rest_silent (done ++ e ∷ []) left (parts ∙ append_one done e left) (ap is_some (get_in-append done (e ∷ []) [])
      ∙ found (get_in done []) root)
    where
      found : (o : Option BaseNode) → is_some o ≡ true → is_some (option_or o (get_in (e ∷ []) [])) ≡ true
      found None h = absurd (true≢false (sym h))
      found (Some n) h = refl

      below : (b : Bool) → is_root e.0 ≡ b → b ≡ false
      below false k = refl
      below true k =
          let at_root : e.0 ≡ [] = root_is e.0 k in
          absurd (not_before_itself []
          (before_behind done (e ∷ left) (subst InPathOrder parts order) [] [] root
          (ap (λ (p : Path). is_some (get_in (e ∷ left) p)) (sym at_root) ∙ ap is_some (at_first e left))))

  -- of a report of the root's node alone
  pub level_report : (n : BaseNode) → get_in nodes [] ≡ Some n → node_revision (Some n) ≡ rev → (old r : ReportView)
      → old.root ≡ node_path (get_in nodes []) → old.entries ≡ []
      → r ≡ with_entry old [] (SetPath (node_revision (Some n)) (is_incomplete (Some n))) → r ≡ crawl nodes
  level_report n stands revision old r root none is =
      let here : AtLevel rev (Some n) =
      subst (AtLevel rev) stands (found_level rev nodes [] level (λ absent. true≢false (ap is_some (sym stands ∙ absent)))) in
      is ∙ (λ i. record { root = root i; entries = none i ++ ([], SetPath (revision i) (here.complete i)) ∷ [] }) ∙ by nodes refl
    where
      by : (es : List (Path × BaseNode)) → nodes ≡ es
          → with_entry (record { root = node_path (get_in nodes []); entries = [] }) [] (SetPath rev false) ≡ crawl nodes
      by [] none = absurd (true≢false (sym shape.root ∙ ap (λ (l : List (Path × BaseNode)). is_dir (get_in l [])) none))
      by (e ∷ es) parts =
          let first : is_root e.0 ≡ true =
          root_first e es (subst InPathOrder parts order) (ap (λ (l : List (Path × BaseNode)). is_dir (get_in l [])) (sym parts) ∙ shape.root) in
          let at_root : e.0 ≡ [] = root_is e.0 first in
          let stands : get_in nodes e.0 ≡ Some e.1 = next_stands nodes [] e es parts order in
          let here : AtLevel rev (Some e.1) =
          subst (AtLevel rev) stands (found_level rev nodes e.0 level (λ none. true≢false (ap is_some (sym stands ∙ none)))) in
          let entry : entry_for e.0 (get_in nodes (parent e.0)) (Some e.1) ≡ Some (SetPath rev false) =
          rw first (λ i. Some (SetPath (here.revision i) (here.complete i))) in
          let entries : filter_map (reported_at nodes) nodes ≡ ([], SetPath rev false) ∷ [] =
          ap (filter_map (reported_at nodes)) parts
          ∙ ap (λ o. cons_option o (filter_map (reported_at nodes) es)) (ap (option_map (λ (x : ReportEntry). (e.0, x))) entry)
          ∙ (λ i. (at_root i, SetPath rev false) ∷ rest_silent (e ∷ []) es parts (root_found e at_root) i) in
          λ i. record { root = node_path (get_in nodes []); entries = sym entries i }
