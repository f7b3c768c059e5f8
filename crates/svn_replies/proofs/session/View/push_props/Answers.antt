use Rattle.std.proofs.Common.{List, ℕ, ◌++◌, codes, ap, ◌∙◌}
use Rattle.svn_lists.proofs.Results.{OnOk_then}
use Rattle.svn_replies.specs.Answers.{pair_bytes}
use Rattle.svn_replies.specs.NodeBytes.{props_bytes}
use Rattle.svn_replies.proofs.Appends.{three_appended}
use Rattle.svn_replies.proofs.session.View.push_props.Goals as goal

pub returns : goal.returns
unfolding props_bytes
returns c =
    let changed = c.push_change_pairs.new.out.items in
    OnOk_then c.push_own_props.result c.push_own_props.ensures
    (λ e. (
      c.in_ok-told.told,
      c.in_ok-told.ensures,
      three_appended _ _ _ _ _ _ _ c.in_ok-push_change_pairs.ensures
          (c.in_ok-push_pair.ensures ∙ ap (λ (uuid : List ℕ). changed ++ pair_bytes (codes "svn:entry:uuid") uuid) c.as_slice.ensures) e,
    ))
