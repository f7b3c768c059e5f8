use Rattle.std.proofs.Common.{◌≡◌}
use Rattle.std.specs.List.{list_any}
use Rattle.svn_editor.specs.declared.mode.Mode.TheVariants.{SwitchTo}
use Rattle.svn_model.specs.Effects.{is_settled_deep}
use Rattle.svn_nodes.proofs.ending.is_settled_deep.Given as goal

abbrev pub invariant-loop-path : goal.invariant-loop-path
invariant-loop-path l = list_any (is_settled_deep (SwitchTo l.root)) l.nodes.entries ≡ list_any
    (is_settled_deep (SwitchTo l.root)) l.path-iterator
