use Rattle.std.proofs.Common.{◌≡◌, Bool, false, [], length, drop, arith, subst, sym, ap, ◌∙◌}
use Rattle.std.proofs.lemmas.List.{drop_all}
use Rattle.svn_lists.proofs.Results.{OnOk_then}
use Rattle.svn_types.specs.Names.{Path}
use Rattle.svn_model.specs.Refusals.{is_repos_file}
use Rattle.std.specs.Prelude.{Some}
use Rattle.svn_answers.specs.Shown.{shown_by}
use Rattle.svn_answers.proofs.TreeOrder.{tree_shown}
use Rattle.svn_answers.proofs.show.write_tree.Goals as goal

pub returns-else-is_file-clause-written : goal.returns-else-is_file-clause-written
returns-else-is_file-clause-written g c =
    let from = c.args.from.now in
    let path : Path = c.args.path.now in
    let root : drop from.front path ≡ [] =
    ap (λ k. drop k path) c.requires.front ∙ drop_all (length path) path (omega arith) in
    let directory : is_repos_file from.repo.now (Some c.args.id) ≡ false = sym c.is_file.ensures ∙ c.if-is_file.false in
    OnOk_then c.write_part.result c.write_part.ensures.written
    (λ part. (
      part.0,
      subst (λ (b : Bool). shown_by b from.repo.now from.rev path c.args.id part.0) (sym directory)
          (tree_shown from.repo.now from.rev path c.args.id c.requires.stands (drop from.front path) root part.0 part.1),
      part.2,
    ))
