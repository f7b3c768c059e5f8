-- Nodes that are what the repository has at one revision are level; and level nodes have the root's revision.
use Rattle.std.proofs.Common.{◌≡◌, ℕ, true, ◌&&◌, List, [], nat_eq, refl, sym, ap, subst, ◌∙◌, true≢false}
use Rattle.std.specs.Prelude.{Option, Some, None, option_map}
use Rattle.std.specs.Coded.{Coded-set, coded_bool}
use Rattle.std.proofs.lemmas.Bool.{and_parts, eqb-true, eq-eqb}
use Rattle.std.proofs.lemmas.Option.{same_Some}
use Rattle.svn_types.specs.declared.kind.Kind.{Kind}
use Rattle.svn_types.specs.declared.kind.Kind.TheVariants.{File, Directory}
use Rattle.svn_types.specs.Names.{Path}
use Rattle.svn_repo.specs.History.{History}
use Rattle.svn_repo.specs.Readings.{kind_of, text_of, props_of}
use Rattle.svn_model.specs.declared.base_node.BaseNode.{BaseNode}
use Rattle.svn_model.specs.declared.base_node.BaseNode.TheVariants.{File as FileNode, Dir as DirNode, NotPresent}
use Rattle.svn_model.specs.Nodes.{WorkingCopy, IsWorkingCopy, is_dir, node_revision, base_node, base_node_by}
use Rattle.svn_wc.specs.Unswitched.{is_level, IsLevel}

base_level : (kind : Kind) (rev : ℕ) (q : Path) (text : List ℕ) (props : List (List ℕ × List ℕ))
    → is_level rev (base_node_by kind rev q text props) ≡ true
base_level File rev q text props = eq-eqb rev rev refl
base_level Directory rev q text props = eq-eqb rev rev refl

-- wherever they come from
pub made_level : (h : History) (rev : ℕ) (at : Path → Path) (found : Path → Option ℕ)
    → IsLevel (λ p. option_map (base_node h rev (at p)) (found p))
made_level h rev at found = (rev, λ p n stands. by p n (found p) stands)
  where
    by : (p : Path) (n : BaseNode) (o : Option ℕ) → option_map (base_node h rev (at p)) o ≡ Some n → is_level rev n ≡ true
    by p n None e = absurd cc
    by p n (Some id) e = ap (is_level rev) (sym (same_Some _ n e)) ∙ base_level (kind_of h id) rev (at p) (text_of h id) (props_of h id)

-- level nodes are so by the root's revision, which says no more than that they are
abbrev pub IsLevelByRoot : WorkingCopy → Type 0
IsLevelByRoot w = (p : Path) (n : BaseNode) → w p ≡ Some n → is_level (node_revision (w [])) n ≡ true

pub IsLevelByRoot-prop : (w : WorkingCopy) (a b : IsLevelByRoot w) → a ≡ b
IsLevelByRoot-prop w a b i = λ p n stands. Coded-set coded_bool _ _ (a p n stands) (b p n stands) i

pub by_root : (w : WorkingCopy) → IsWorkingCopy w → IsLevel w → IsLevelByRoot w
by_root w shape level p n stands = subst (λ (r : ℕ). is_level r n ≡ true) (by (w []) refl shape.root) (level.1 p n stands)
  where
    by : (o : Option BaseNode) → w [] ≡ o → is_dir o ≡ true → level.0 ≡ node_revision (w [])
    by (Some (DirNode r q complete props)) e dir =
        let here : (complete && nat_eq r level.0) ≡ true = level.1 [] (DirNode r q complete props) e in
        sym (eqb-true r level.0 (and_parts complete (nat_eq r level.0) here).1) ∙ sym (ap node_revision e)
    by (Some (FileNode r q text props)) e dir = absurd (true≢false (sym dir))
    by (Some NotPresent) e dir = absurd (true≢false (sym dir))
    by None e dir = absurd (true≢false (sym dir))
