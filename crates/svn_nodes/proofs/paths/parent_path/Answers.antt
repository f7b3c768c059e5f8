use Rattle.std.proofs.Common.{◌≡◌, Some, None, [], ◌∷◌, refl, sym, ◌∙◌}
use Rattle.std.proofs.lemmas.Option.{same_Some}
use Rattle.svn_types.specs.Names.{Path}
use Rattle.svn_types.specs.Paths.{parent, parent_path}
use Rattle.svn_nodes.proofs.paths.parent_path.Goals as goal

some_parent : (p a : Path) → Some a ≡ parent_path p → a ≡ parent p
some_parent [] a e = cc
some_parent (name ∷ p) a e = same_Some a (parent (name ∷ p)) e

no_parent : (p : Path) → None ≡ parent_path p → [] ≡ parent p
no_parent [] e = refl
no_parent (name ∷ p) e = cc

pub returns-in-Some : goal.returns-in-Some
returns-in-Some c = some_parent c.args.path.now c.in-Some.above (sym c.in-Some.is ∙ c.in_ok-above.ensures)

pub returns-in-None : goal.returns-in-None
returns-in-None c = c.root.ensures ∙ no_parent c.args.path.now (sym c.in-None.is ∙ c.in_ok-above.ensures)
