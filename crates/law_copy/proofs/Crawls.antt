-- What a crawl has at each path.
use Rattle.std.proofs.Common.{◌≡◌, Bool, true, false, List, [], ◌∷◌, refl, sym, ◌∙◌, ap, subst}
use Rattle.std.specs.Prelude.{Option, Some, None, cond, filter_map, option_map}
use Rattle.std.specs.List.{cons_option}
use Rattle.svn_types.specs.Names.{Path}
use Rattle.svn_types.specs.Paths.{path_eq, parent}
use Rattle.svn_types.proofs.PathLemmas.{same_path}
use Rattle.svn_report.specs.declared.entry.ReportEntry.{ReportEntry}
use Rattle.svn_report.specs.Reports.{entry_at}
use Rattle.svn_model.specs.declared.base_node.BaseNode.{BaseNode}
use Rattle.svn_model.specs.Nodes.{get_in, InPathOrder}
use Rattle.svn_model.specs.Crawl.{entry_for, reported_at, crawl}
use Rattle.law_copy.proofs.NodeLists.{get_in-first, absent_after, rest_in_order}

abbrev pub crawled : List (Path × BaseNode) → Path → Option BaseNode → Option ReportEntry
crawled all p None = None
crawled all p (Some b) = entry_for p (get_in all (parent p)) (Some b)

entry_at-crawled : (all es : List (Path × BaseNode)) → InPathOrder es → (p : Path)
    → entry_at (filter_map (reported_at all) es) p ≡ crawled all p (get_in es p)
entry_at-crawled all [] h p = refl
entry_at-crawled all (e ∷ es) h p =
    by (entry_for e.0 (get_in all (parent e.0)) (Some e.1)) (path_eq e.0 p) refl refl (entry_at-crawled all es (rest_in_order e es h) p)
    ∙ ap (crawled all p) (sym (get_in-first e es p))
  where
    rest : List (Path × ReportEntry)
    rest = filter_map (reported_at all) es

    here : path_eq e.0 p ≡ true → crawled all p (Some e.1) ≡ entry_for e.0 (get_in all (parent e.0)) (Some e.1)
    here q = ap (λ x. entry_for x (get_in all (parent x)) (Some e.1)) (sym (same_path e.0 p q))

    none : path_eq e.0 p ≡ true → crawled all p (get_in es p) ≡ None
    none q = ap (crawled all p) (subst (λ x. get_in es x ≡ None) (same_path e.0 p q) (absent_after e es h))

    by : (o : Option ReportEntry) (b : Bool) → entry_for e.0 (get_in all (parent e.0)) (Some e.1) ≡ o → path_eq e.0 p ≡ b
        → entry_at rest p ≡ crawled all p (get_in es p)
        → entry_at (cons_option (option_map (λ entry. (e.0, entry)) o) rest) p ≡ crawled all p (cond b (Some e.1) (get_in es p))
    by (Some x) true q c ih = ap (λ b. cond b (Some x) (entry_at rest p)) c ∙ sym q ∙ sym (here c)
    by (Some x) false q c ih = ap (λ b. cond b (Some x) (entry_at rest p)) c ∙ ih
    by None true q c ih = ih ∙ none c ∙ sym q ∙ sym (here c)
    by None false q c ih = ih

pub entry_at-crawl : (nodes : List (Path × BaseNode)) → InPathOrder nodes → (p : Path)
    → entry_at (crawl nodes).entries p ≡ crawled nodes p (get_in nodes p)
entry_at-crawl nodes h p = entry_at-crawled nodes nodes h p
