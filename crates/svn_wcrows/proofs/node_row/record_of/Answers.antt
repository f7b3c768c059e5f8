use Rattle.std.proofs.Common.{refl}
use Rattle.svn_wcrows.specs.Rows.{row_with}
use Rattle.svn_wcrows.proofs.RowLemmas.{row_read}
use Rattle.svn_wcrows.proofs.node_row.record_of.Goals as goal

pub returns : goal.returns
returns c =
    row_read c.in_ok-record.field-0 _ _ _ _ _ _ _ _ _ _ _ _ _ _ _ _ _ (row_with c.args.owner c.args.columns.now) c.in_ok-record.ensures.value
    (record {
      w = c.args.owner.wc_id;
      r = c.args.owner.repos_id;
      n = c.args.columns.now.rev;
      p = _;
      q = _;
      there = _;
      kind = _;
      wc_id_is = c.in_ok-number.ensures;
      path_is = c.path.ensures;
      parent_is = c.parent.ensures;
      repos_id_is = c.in_ok-number-2.ensures;
      repos_path_is = c.repos_path.ensures;
      revision_is = c.in_ok-rev.ensures;
      presence_is = c.presence.ensures;
      word_is = c.word.ensures;
      properties_are = c.props.ensures;
      depth_is = c.depth.ensures;
      checksum_is = c.checksum.ensures;
      row_is = refl;
    })
