-- What `nodes` prints of a copy that has to be true, as a statement. It is the contract of the function of its name, which does nothing.
--     IsTargetText h nodes rev text      the lines of the target revision, looked up through the path map of what the copy reports
--     nodes_are_of_the_target      a verdict without an untrue path, and what is told of that copy's nodes after an update: these lines, or that a folder
--         whose path is gone isn't present
use Rattle.std.specs.Prelude.{◌≡◌, ℕ, false, List, [], Option, MatchOption}
use Rattle.svn_types.specs.Names.{Path}
use Rattle.svn_repo.specs.History.{History}
use Rattle.svn_dump.specs.declared.sections.Texts.{Texts}
use Rattle.svn_model.specs.declared.base_node.BaseNode.{BaseNode}
use Rattle.svn_model.specs.declared.base_node.BaseNode.TheVariants.{NotPresent}
use Rattle.svn_model.specs.Nodes.{InPathOrder}
use Rattle.svn_nodes.specs.Lines.{node_lines}
use Rattle.svn_wc.specs.Lines.{copy_text}
use Rattle.svn_wcdb.specs.declared.depth.Takes.TheVariants.{Whole}
use Rattle.svn_disk_audit.specs.Pristine.{Store}
use Rattle.svn_disk_audit.specs.Audits.{IsAudit}
use Rattle.svn_answers.specs.declared.asked.OnDisk.{OnDisk}
use Rattle.svn_answers.specs.declared.telling.Inquiry.{Inquiry}
use Rattle.svn_answers.specs.declared.topic.Topic.TheVariants.{Nodes}
use Rattle.svn_answers.specs.Answers.{Compared, IsTold}
use Rattle.svn_answers.specs.Topics.{AreOfTarget, deleted}

pub record IsTargetText (h : History) (nodes : List (Path × BaseNode)) (rev : Option ℕ) (text : List ℕ) : Type 0 where
  pub target : List (Path × BaseNode)
  pub at : AreOfTarget h nodes rev target
  pub in_order : InPathOrder target
  pub lines : text ≡ copy_text target

-- the nodes after an update of a copy that has to be true
abbrev pub nodes_of_true : Option ℕ → Inquiry
nodes_of_true rev = record { topic = Nodes rev; allow_untrue = false }

abbrev pub nodes_are_of_the_target : Type 0
nodes_are_of_the_target =
    (texts : Texts) (store : Store) (database : List ℕ) (below : Path) (compared : Compared) (rev : Option ℕ) (found : OnDisk) (text : List ℕ)
    → IsAudit Whole texts store compared.history database below found.audited.copy found.audited.untrue.items
    → IsTold compared (nodes_of_true rev) found text
    → MatchOption (deleted compared.history found.audited.copy found.entry (Nodes rev)) (IsTargetText compared.history found.audited.copy rev text)
    (λ name. text ≡ node_lines ([], NotPresent))
