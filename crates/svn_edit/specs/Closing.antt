-- What the close of a file by its baton does, and what it returns.
--     ClosesFile mode edit b sum nodes answer nodes2      to the nodes of a copy
use Rattle.std.specs.Prelude.{◌≡◌, ℕ, List, Option, Result, OnOk, OnErr, filter_map}
use Rattle.md5.specs.Md5.{md5}
use Rattle.svn_types.specs.Names.{Path}
use Rattle.svn_editor.specs.declared.fault.EditFault.{EditFault}
use Rattle.svn_editor.specs.declared.mode.Mode.{Mode}
use Rattle.svn_editor.specs.Steps.{Action}
use Rattle.svn_model.specs.declared.base_node.BaseNode.{BaseNode}
use Rattle.svn_model.specs.Nodes.{get_in}
use Rattle.svn_model.specs.Effects.{change_in, text_in}
use Rattle.svn_model.specs.Answering.{AnswersCall}
use Rattle.svn_edit.specs.declared.baton.Baton.{Baton}
use Rattle.svn_edit.specs.declared.pending.Pending.{Pending}
use Rattle.svn_nodes.specs.NodeTests.{sum_fault, FileIsClosed}
use Rattle.svn_edit.specs.Applying.{Says}

pub record ClosesFile (mode : Mode) (edit : Pending) (b : Baton) (sum : Option (List ℕ)) (nodes : List (Path × BaseNode))
    (answer : Result (Unit {0}) EditFault) (nodes2 : List (Path × BaseNode)) : Type 0 where
  pub answers : (said : List Action) → Says b edit.pools said
      → AnswersCall (sum_fault md5 sum (filter_map text_in said) (get_in nodes b.path)) answer
  pub closed : OnOk answer ((said : List Action) → Says b edit.pools said
      → FileIsClosed mode edit.target b.path (filter_map change_in said) (filter_map text_in said) nodes nodes2)
  pub refused : OnErr answer (nodes2 ≡ nodes)
