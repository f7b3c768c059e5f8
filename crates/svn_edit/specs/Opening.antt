-- What an open or an add does, and what it returns.
--     GivesToken mode parent p t act old nodes answer new nodes2      at a path, to an edit and the nodes of its copy
use Rattle.std.specs.Prelude.{ℕ, List, [], Result, OnOk}
use Rattle.md5.specs.Md5.{md5}
use Rattle.svn_types.specs.Names.{Path}
use Rattle.svn_editor.specs.declared.fault.EditFault.{EditFault}
use Rattle.svn_editor.specs.declared.mode.Mode.{Mode}
use Rattle.svn_editor.specs.Steps.{Action}
use Rattle.svn_model.specs.declared.base_node.BaseNode.{BaseNode}
use Rattle.svn_model.specs.Nodes.{get_in}
use Rattle.svn_model.specs.Effects.{step_fault, step_effect}
use Rattle.svn_edit.specs.declared.pending.Pending.{Pending}
use Rattle.svn_edit.specs.Applying.{Applied, KeepsTarget, MakesBaton}

-- the nodes are what the step alone makes of them, and the token has a baton, with its pool below that one; refused, the nodes stay
pub record GivesToken (mode : Mode) (parent : ℕ) (p : Path) (t : ℕ) (act : Action) (old : Pending) (nodes : List (Path × BaseNode))
    (answer : Result (Unit {0}) EditFault) (new : Pending) (nodes2 : List (Path × BaseNode)) : Type 0 where
  pub opened : OnOk answer (MakesBaton parent p t old new)
  pub keeps : KeepsTarget old new
  pub applied : Applied (step_fault md5 mode [] (get_in nodes) p act)
      (step_effect mode old.target [] (record { path = p; action = act }) (get_in nodes)) nodes answer nodes2
