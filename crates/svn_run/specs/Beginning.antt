-- How a run begins.
--     switched_to mode      the path that a switch leads to
--     fault_at h target to root      why no run leads to a target, by the node of the copy's root: no such revision; nothing where the root
--                                    would be; another node there
--     IsBegun nodes mode b      before the first call of a run in that mode: the report, the edit and the nodes are those of the copy
use Rattle.std.specs.Prelude.{◌≡◌, ℕ, true, [], Option, Some, None, option_map}
use Rattle.svn_types.specs.Names.{Path}
use Rattle.svn_drive.specs.Targets.{fault_between}
use Rattle.svn_edit.specs.Carrying.{CarriedOut}
use Rattle.svn_repo.specs.History.{History, look}
use Rattle.svn_editor.specs.declared.mode.Mode.{Mode}
use Rattle.svn_editor.specs.declared.mode.Mode.TheVariants.{Update, SwitchTo}
use Rattle.svn_model.specs.declared.base_node.BaseNode.{BaseNode}
use Rattle.svn_model.specs.Crawl.{crawl}
use Rattle.svn_model.specs.Nodes.{get_in, node_path, node_revision}
use Rattle.svn_wc.specs.Unswitched.{IsUnswitched, IsLevel}
use Rattle.svn_run.specs.declared.outcome.RunFault.{RunFault}
use Rattle.svn_run.specs.declared.whole.Begun.{Begun}
use Rattle.svn_run.specs.UpdateTheorem.{Nodes, run_fault_of}

abbrev pub switched_to : Mode → Option Path
switched_to Update = None
switched_to (SwitchTo to) = Some to

-- where the root is in the target
abbrev pub root_at : Option Path → Path → Path
root_at None kept = kept
root_at (Some to) kept = to

abbrev pub fault_at : History → ℕ → Option Path → Option BaseNode → Option RunFault
fault_at h target to root =
    option_map run_fault_of
    (fault_between h target (look h (node_revision root) (node_path root)) (look h target (root_at to (node_path root))))

pub record IsBegun (nodes : Nodes) (mode : Mode) (b : Begun) : Type 0 where
  pub report : b.report ≡ crawl nodes
  pub same_mode : b.carrier.mode.now ≡ mode
  pub same_nodes : b.carrier.copy.nodes.entries ≡ nodes
  pub begun : CarriedOut mode (get_in nodes) b.carrier.pending nodes []
  pub unswitched : b.known.unswitched ≡ true → IsUnswitched (get_in nodes)
  pub level : b.known.level ≡ true → IsLevel (get_in nodes)
