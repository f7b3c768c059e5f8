-- What a copy of the nodes below a path has.
use Rattle.std.proofs.Common.{◌≡◌, Bool, true, false, ◌&&◌, cond, List, [], ◌∷◌, ◌++◌, length, drop, refl, sym, ap, ◌∙◌}
use Rattle.std.proofs.Common.{Option, Some, None, true≢false, ◌⊎◌, inl, inr}
use Rattle.std.specs.List.{cons_option}
use Rattle.std.specs.BTreeMap.{is_at}
use Rattle.svn_lists.proofs.Equality.{bytes_eq-same}
use Rattle.svn_types.specs.Names.{Path, path_cmp}
use Rattle.svn_types.specs.Paths.{path_eq, is_within}
use Rattle.svn_types.proofs.PathLemmas.{same_path, split_within, within_append}
use Rattle.svn_model.specs.declared.base_node.BaseNode.{BaseNode}
use Rattle.svn_model.specs.Nodes.{get_in}
use Rattle.law_copy.proofs.Lookups.{at_path}
use Rattle.svn_model.specs.declared.wc_fault.WcFault.{WcFault}
use Rattle.svn_wc.specs.Building.{Refuses}
use Rattle.svn_audit.specs.Below.{node_below, nodes_below, IsFaultOrMemory}

dropped : (a r : Path) → drop (length a) (a ++ r) ≡ r
dropped [] r = refl
dropped (n ∷ a) r = dropped a r

same_below : (a p r : Path) → path_eq (a ++ p) (a ++ r) ≡ path_eq p r
same_below [] p r = refl
same_below (n ∷ a) p r = ap (λ b. b && path_eq (a ++ p) (a ++ r)) (bytes_eq-same n) ∙ same_below a p r

-- the place of a path is found where that path's rest is
at_rest : (a p : Path) (e : Path) (r : Path) → e ≡ a ++ r → is_at (path_cmp p) (drop (length a) e) ≡ is_at (path_cmp (a ++ p)) e
at_rest a p e r is =
    ap (λ (q : Path). is_at (path_cmp p) q) (ap (drop (length a)) is ∙ dropped a r) ∙ at_path p r ∙ sym (same_below a p r)
    ∙ sym (at_path (a ++ p) (a ++ r)) ∙ ap (λ (q : Path). is_at (path_cmp (a ++ p)) q) (sym is)

-- nothing below is elsewhere
not_elsewhere : (a p e : Path) → is_within a e ≡ false → is_at (path_cmp (a ++ p)) e ≡ false
not_elsewhere a p e other = at_path (a ++ p) e ∙ by (path_eq (a ++ p) e) refl
  where
    by : (b : Bool) → path_eq (a ++ p) e ≡ b → b ≡ false
    by false t = refl
    by true t =
        absurd (true≢false (sym (ap (is_within a) (sym (same_path (a ++ p) e t)) ∙ within_append a p) ∙ other))

pub get_below : (a : Path) (nodes : List (Path × BaseNode)) (p : Path) → get_in (nodes_below a nodes) p ≡ get_in nodes (a ++ p)
get_below a [] p = refl
get_below a (e ∷ es) p = by (is_within a e.0) refl (get_below a es p)
  where
    by : (b : Bool) → is_within a e.0 ≡ b → get_in (nodes_below a es) p ≡ get_in es (a ++ p)
        → get_in (cons_option (cond b (Some (drop (length a) e.0, e.1)) None) (nodes_below a es)) p
        ≡ cond (is_at (path_cmp (a ++ p)) e.0) (Some e.1) (get_in es (a ++ p))
    by true within rest =
        let on = split_within a e.0 within in
        ap (λ b. cond b (Some e.1) (get_in (nodes_below a es) p)) (at_rest a p e.0 on.0 on.1)
        ∙ ap (λ o. cond (is_at (path_cmp (a ++ p)) e.0) (Some e.1) o) rest
    by false other rest = rest ∙ sym (ap (λ b. cond b (Some e.1) (get_in es (a ++ p))) (not_elsewhere a p e.0 other))

pub below-append : (a : Path) (xs ys : List (Path × BaseNode)) → nodes_below a (xs ++ ys) ≡ nodes_below a xs ++ nodes_below a ys
below-append a [] ys = refl
below-append a (x ∷ xs) ys = by (node_below a x) (below-append a xs ys)
  where
    by : (o : Option (Path × BaseNode)) → nodes_below a (xs ++ ys) ≡ nodes_below a xs ++ nodes_below a ys
        → cons_option o (nodes_below a (xs ++ ys)) ≡ cons_option o (nodes_below a xs) ++ nodes_below a ys
    by None e = e
    by (Some u) e = ap (λ us. u ∷ us) e

-- all nodes are below the root
pub all_below : (nodes : List (Path × BaseNode)) → nodes_below [] nodes ≡ nodes
all_below [] = refl
all_below (e ∷ es) = ap (λ (l : List (Path × BaseNode)). e ∷ l) (all_below es)

pub root_below : (a : Path) (nodes : List (Path × BaseNode)) → a ≡ [] → nodes_below a nodes ≡ nodes
root_below a nodes is = ap (λ (p : Path). nodes_below p nodes) is ∙ all_below nodes

pub is_fault : (fault : Option WcFault) (e : WcFault) → Refuses fault e → IsFaultOrMemory fault e
is_fault None e h = inl h
is_fault (Some f) e h = inr (ap Some (sym h))
