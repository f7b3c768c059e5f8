use Rattle.std.proofs.Common.{refl}
use Rattle.svn_lists.proofs.Results.{OnOk_then}
use Rattle.svn_replies.specs.Answers.{success}
use Rattle.svn_replies.proofs.Appends.{file_appended}
use Rattle.svn_replies.proofs.answers.push_file.Goals as goal

pub returns : goal.returns
unfolding success
returns c =
    let props = c.in_ok-push_props_if.ensures in
    OnOk_then c.push_end.result c.push_end.ensures (λ e. (
      _,
      (props.0, props.1, refl),
      file_appended _ _ _ _ _ _ _ _ _ _ _ _ _ _ _ c.in_ok-push_success.ensures c.in_ok-push_checksum.ensures c.in_ok-push_rev.ensures
          c.in_ok-push_open.ensures props.2 c.in_ok-push_close.ensures e,
    ))
