use Rattle.std.proofs.Common.{◌++◌, refl, ap, map, ◌∙◌}
use Rattle.std.specs.List.{flat_map}
use Rattle.std.proofs.Output.{has_written_append}
use Rattle.std.proofs.lemmas.List.{map-append}
use Rattle.svn_editor.specs.Words.{escaped, path_byte}
use Rattle.svn_editor.proofs.PrintedWords.{behind_piece}
use Rattle.svn_editor.proofs.words.write_names.Goals as goal

pub rest-preserved : goal.rest-preserved
rest-preserved g c =
    let inv = c.rest.invariant in
    let piece = c.split_at.result.0.now in
    let behind = c.split_at.result.1.now in (
      inv.0 ++ flat_map escaped (map path_byte piece),
      behind_piece inv.0 (map path_byte c.rest.rest.now) (map path_byte piece) (map path_byte behind)
          (flat_map escaped (map path_byte c.args.key.now))
          (ap (map path_byte) c.split_at.ensures.by_index.0 ∙ map-append path_byte piece behind) inv.1,
      λ plain. let before = inv.2 plain in has_written_append _ _ _ _ _ _ before (c.in_ok-write_key_piece.ensures before.plain refl),
    )
