use Rattle.std.proofs.Common.{◌≡◌, sym, ◌∙◌, ◌++◌, ◌∷◌, []}
use Rattle.svn_types.specs.PathKeys.{path_key}
use Rattle.svn_types.proofs.PathKeys.{key_child}
use Rattle.svn_types.proofs.rel_path.RelPath.is_child_of.Goals as goal

pub returns-clause-child : goal.returns-clause-child
returns-clause-child c =
    let below : c.key.result.now ≡ path_key c.args.self.now = c.key.ensures.key in
    let above : c.key-2.result.now ≡ path_key c.args.path.now = c.key-2.ensures.key in
    let last : c.as_str.result.now ≡ c.args.name.now = c.as_str.ensures.value in
    let child = key_child c.args.self.now c.args.path.now c.args.name.now c.key.ensures.plain c.key-2.ensures.plain
    c.as_str.ensures.name in (
      λ t. child.0 (sym below ∙ c.is_one_more.ensures.0 t ∙ (λ i. above i ++ last i ++ 1 ∷ [])),
      λ e. c.is_one_more.ensures.1 (below ∙ child.1 e ∙ (λ i. sym above i ++ sym last i ++ 1 ∷ [])),
    )
