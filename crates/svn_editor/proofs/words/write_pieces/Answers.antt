use Rattle.std.proofs.Common.{◌++◌, refl}
use Rattle.std.specs.List.{flat_map}
use Rattle.std.proofs.Output.{has_written_append}
use Rattle.svn_editor.specs.Words.{escaped}
use Rattle.svn_editor.proofs.PrintedWords.{behind_piece}
use Rattle.svn_editor.proofs.words.write_pieces.Goals as goal

pub rest-preserved : goal.rest-preserved
rest-preserved g c =
    let inv = c.rest.invariant in
    let piece = c.split_at.result.0.now in
    let behind = c.split_at.result.1.now in (
      inv.0 ++ flat_map escaped piece,
      behind_piece inv.0 c.rest.rest.now piece behind (flat_map escaped c.args.bytes.now) c.split_at.ensures.by_index.0 inv.1,
      λ plain. let before = inv.2 plain in has_written_append _ _ _ _ _ _ before (c.in_ok-write_piece.ensures before.plain refl),
    )
