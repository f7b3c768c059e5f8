-- Nodes below a path are removed: handfuls of their paths are noted, and go.
use Rattle.std.proofs.Common.{◌≡◌, ℕ, ◌+◌, ◌∷◌, ◌++◌, ◌||◌, [], true, false, cond, List, map, take, refl, sym, ap, ◌∙◌, Option, Some, None}
use Rattle.std.specs.Option.{option_map_or}
use Rattle.std.specs.List.{list_any}
use Rattle.std.proofs.lemmas.List.{map-append}
use Rattle.svn_lists.proofs.Options.{removed_twice}
use Rattle.svn_lists.proofs.Somewhere.{any_push}
use Rattle.svn_types.specs.Names.{Path}
use Rattle.svn_types.specs.Paths.{path_eq, is_within}
use Rattle.svn_model.specs.declared.base_node.BaseNode.{BaseNode}
use Rattle.svn_nodes.specs.Handfuls.{is_noted}
use Rattle.svn_nodes.proofs.Ranges.{Taken, taken_more}

-- ---- a handful

-- the nodes were taken one by one, and their paths noted
pub record Noted (path : Path) (es : List (Path × BaseNode)) (places : List (Option Path)) (left : List (Path × BaseNode)) : Type 0 where
  pub paths : List Path
  pub are : places ≡ map (λ (q : Path). Some q) paths
  pub taken : Taken path es paths left

pub noted_none : (path : Path) (es : List (Path × BaseNode)) (places : List (Option Path)) (left : List (Path × BaseNode))
    → places ≡ [] → Taken path es [] left → Noted path es places left
noted_none path es places left none t = record { paths = []; are = none; taken = t }

pub noted_more : (path : Path) (es : List (Path × BaseNode)) (places : List (Option Path)) (e : Path × BaseNode)
    (left : List (Path × BaseNode)) → Noted path es places (e ∷ left) → is_within path e.0 ≡ true
    → Noted path es (places ++ Some e.0 ∷ []) left
noted_more path es places e left t w = record {
  paths = t.paths ++ e.0 ∷ [];
  are = ap (λ (l : List (Option Path)). l ++ Some e.0 ∷ []) t.are ∙ sym (map-append (λ (q : Path). Some q) t.paths (e.0 ∷ []));
  taken = taken_more path es t.paths e left t.taken w;
}

pub noted_paths : (paths : List Path) (p : Path) → is_noted (map (λ (q : Path). Some q) paths) p ≡ list_any (λ q. path_eq q p) paths
noted_paths [] p = refl
noted_paths (q ∷ paths) p = ap (λ b. path_eq q p || b) (noted_paths paths p)

-- ---- one after the other

-- what is noted next goes too
pub noted_next : (places : List (Option Path)) (i : ℕ) (o : Option Path) (p : Path) (old now new : Option BaseNode)
    → take (i + 1) places ≡ take i places ++ o ∷ [] → now ≡ cond (is_noted (take i places) p) None old
    → new ≡ cond (option_map_or (λ q. path_eq q p) o false) None now → new ≡ cond (is_noted (take (i + 1) places) p) None old
noted_next places i o p old now new more before after =
    after ∙ ap (cond (option_map_or (λ q. path_eq q p) o false) None) before
    ∙ removed_twice (is_noted (take i places) p) (option_map_or (λ q. path_eq q p) o false) old
    ∙ ap (λ b. cond b None old) (sym (ap (λ (l : List (Option Path)). is_noted l p) more
    ∙ any_push (λ (o : Option Path). option_map_or (λ q. path_eq q p) o false) (take i places) o))
