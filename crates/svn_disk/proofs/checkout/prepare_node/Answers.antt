use Rattle.std.proofs.Common.{◌≡◌, true, ◌∙◌, rules}
use Rattle.std.specs.Prelude.{Some}
use Rattle.svn_model.specs.Nodes.{is_dir}
use Rattle.svn_disk.proofs.EndsTexts.{count_none, dir_no_text, on_ok}
use Rattle.svn_disk.proofs.checkout.prepare_node.Goals as goal

pub returns-clause-files : goal.returns-clause-files
returns-clause-files g c =
    let h : is_dir (Some c.args.entry.1.now) ≡ true = search rules in
    on_ok c.push_row.result (c.push_row.ensures.files ∙ count_none c.args.entry.1.now c.args.progress.now.files (dir_no_text c.args.entry.1.now h))
