-- What is printed of a working copy, but for the verdict on it.
--     calls_to h nodes rev      the calls of an update of a copy to a revision, or to the newest
--     AreLeft nodes calls left      these nodes are left of a copy's by the calls of an update, path by path
--     AreOfTarget h nodes rev updated      these nodes are the target revision's, looked up through the path map of what the copy reports
--     LeadsToTarget h nodes      the calls of each update of a true copy leave the nodes of its target
--     IsTopicText h nodes topic text      this is what is printed
--     IsTopicFault h nodes topic fault      why nothing is: out of memory, or why the update isn't made
--     deleted h nodes entry topic      the name of the entry that an update deletes: of a folder whose path is gone in the target, where it is an entry
--         of the directory above it
--     IsToldText h nodes entry topic text      this is what is printed of a copy, or of a folder that is deleted as an entry
--     IsToldFault h nodes entry topic fault      why neither is
use Rattle.std.specs.Prelude.{◌≡◌, ◌⊎◌, ℕ, ◌+◌, ◌-◌, ◌<◌, false, List, [], ◌∷◌, ◌++◌, length, map, flat_map, Option, Some, None, MatchOption}
use Rattle.std.specs.Global.{Global}
use Rattle.md5.specs.Md5.{md5}
use Rattle.std.specs.Prelude.{String, string_bytes, string_cmp, IsPermutation, IsSorted}
use Rattle.svn_types.specs.Names.{Path}
use Rattle.svn_repo.specs.History.{History}
use Rattle.svn_editor.specs.declared.call.Call.{Call}
use Rattle.svn_editor.specs.declared.call.Call.TheVariants.{SetTargetRevision, OpenRoot, DeleteEntry, CloseDirectory, CloseEdit}
use Rattle.svn_editor.specs.declared.fault.EditFault.{EditFault}
use Rattle.svn_editor.specs.declared.fault.EditFault.TheVariants.{Memory as NoMemory}
use Rattle.svn_editor.specs.declared.mode.Mode.TheVariants as modes
use Rattle.svn_editor.specs.Lines.{call_line}
use Rattle.svn_report.specs.Lines.{report_text}
use Rattle.svn_model.specs.declared.base_node.BaseNode.{BaseNode}
use Rattle.svn_model.specs.declared.base_node.BaseNode.TheVariants.{NotPresent}
use Rattle.svn_model.specs.declared.drive_fault.DriveFault.{DriveFault}
use Rattle.svn_model.specs.declared.drive_fault.DriveFault.TheVariants as drives
use Rattle.svn_model.specs.Checks.{target_fault}
use Rattle.svn_model.specs.Crawl.{crawl}
use Rattle.svn_model.specs.Effects.{after, refusal}
use Rattle.svn_model.specs.Ends.{call_limit}
use Rattle.svn_model.specs.Follow.{DriveInput}
use Rattle.svn_model.specs.Nodes.{get_in, node_revision, InPathOrder, IsTrueOf}
use Rattle.svn_model.specs.Result.{result}
use Rattle.svn_drive.specs.declared.request.Request.{Request}
use Rattle.svn_drive.specs.Requests.{requested, input_of, drive_for}
use Rattle.svn_audit.specs.declared.lines.NodeChange.TheVariants.{Deleted}
use Rattle.svn_audit.specs.Lines.{update_lines, line_of}
use Rattle.svn_audit.specs.Printing.{line_text}
use Rattle.svn_nodes.specs.Lines.{node_lines}
use Rattle.svn_wc.specs.Lines.{copy_text}
use Rattle.svn_answers.specs.declared.topic.Topic.{Topic}
use Rattle.svn_answers.specs.declared.topic.Topic.TheVariants.{Report, Update, Calls, Nodes}
use Rattle.svn_answers.specs.declared.topic.TopicFault.{TopicFault}
use Rattle.svn_answers.specs.declared.topic.TopicFault.TheVariants.{Drive, Memory, Write}

-- the newest revision, where none is given
abbrev pub or_latest : History → Option ℕ → ℕ
or_latest h None = length h.roots - 1
or_latest h (Some rev) = rev

abbrev pub update_to : History → Option ℕ → Request
update_to h rev = requested (or_latest h rev) modes.Update false None

abbrev pub calls_to : History → List (Path × BaseNode) → Option ℕ → List Call
calls_to h nodes rev = drive_for h (crawl nodes) (update_to h rev)

abbrev pub line : List ℕ → List ℕ
line text = text ++ 10 ∷ []

abbrev pub calls_text : List Call → List ℕ
calls_text calls = flat_map (λ c. line (call_line c)) calls

-- these texts in byte order, a line each
pub record AreSortedLines (texts : List (List ℕ)) (text : List ℕ) : Type 0 where
  pub sorted : List (String Global)
  pub same : IsPermutation texts (map string_bytes sorted)
  pub in_order : IsSorted string_cmp sorted
  pub lines : text ≡ flat_map (λ s. line (string_bytes s)) sorted

-- what calls make of each path of a copy
abbrev pub AreLeft : List (Path × BaseNode) → List Call → List (Path × BaseNode) → Type 0
AreLeft nodes calls left = (p : Path) → get_in left p ≡ after modes.Update (get_in nodes) calls p

-- what the copy reports, and where its update goes
abbrev pub input_to : History → List (Path × BaseNode) → Option ℕ → DriveInput
input_to h nodes rev = input_of h (crawl nodes) (update_to h rev)

-- at each path the node that the target revision has where the path map leads
abbrev pub AreOfTarget : History → List (Path × BaseNode) → Option ℕ → List (Path × BaseNode) → Type 0
AreOfTarget h nodes rev updated = (p : Path) → get_in updated p ≡ result (input_to h nodes rev) p

abbrev pub LeadsToTarget : History → List (Path × BaseNode) → Type 0
LeadsToTarget h nodes =
    IsTrueOf h (get_in nodes) → (rev : Option ℕ) → target_fault (input_to h nodes rev) ≡ None
    → (p : Path) → after modes.Update (get_in nodes) (calls_to h nodes rev) p ≡ result (input_to h nodes rev) p

-- the nodes after an update
pub record AreUpdated (h : History) (nodes : List (Path × BaseNode)) (rev : Option ℕ) (text : List ℕ) : Type 0 where
  pub updated : List (Path × BaseNode)
  pub left : AreLeft nodes (calls_to h nodes rev) updated
  pub target : IsTrueOf h (get_in nodes) → AreOfTarget h nodes rev updated
  pub in_order : InPathOrder updated
  pub lines : text ≡ copy_text updated

abbrev pub IsTopicText : History → List (Path × BaseNode) → Topic → List ℕ → Type 0
IsTopicText h nodes Report text = text ≡ report_text (crawl nodes)
IsTopicText h nodes (Update rev) text = AreSortedLines (map line_text (update_lines (get_in nodes) (calls_to h nodes rev))) text
IsTopicText h nodes (Calls rev) text = text ≡ calls_text (calls_to h nodes rev)
IsTopicText h nodes (Nodes rev) text = AreUpdated h nodes rev text

-- ---- refusals

-- out of memory is one fault, whoever ran out
abbrev pub of_drive : DriveFault → TopicFault
of_drive drives.Memory = Memory
of_drive (drives.Editor NoMemory) = Memory
of_drive fault = Drive fault

-- why no update can be driven: its target, or more calls than can be counted
pub data IsUndriven (h : History) (nodes : List (Path × BaseNode)) (rev : Option ℕ) (fault : DriveFault) : Type 0 where
  bad_target : target_fault (input_to h nodes rev) ≡ Some fault → IsUndriven h nodes rev fault
  too_many : fault ≡ drives.Full → call_limit + 1 < length (calls_to h nodes rev) → IsUndriven h nodes rev fault

-- the first call that the copy refuses, as the calls before have left it
pub record IsRefusedCall (h : History) (nodes : List (Path × BaseNode)) (rev : Option ℕ) (fault : DriveFault) : Type 0 where
  pub before : List Call
  pub call : Call
  pub rest : List Call
  pub calls_are : calls_to h nodes rev ≡ before ++ call ∷ rest
  pub left : List (Path × BaseNode)
  pub is_left : AreLeft nodes before left
  pub why : EditFault
  pub refused : refusal md5 modes.Update before call left ≡ Some why
  pub fault_is : fault ≡ drives.Editor why

abbrev pub IsCallsFault : History → List (Path × BaseNode) → Option ℕ → TopicFault → Type 0
IsCallsFault h nodes rev (Drive fault) = IsUndriven h nodes rev fault
IsCallsFault h nodes rev Write = ⊥
IsCallsFault h nodes rev Memory = Unit {0}

abbrev pub IsNodesFault : History → List (Path × BaseNode) → Option ℕ → TopicFault → Type 0
IsNodesFault h nodes rev (Drive fault) = IsUndriven h nodes rev fault ⊎ IsRefusedCall h nodes rev fault
IsNodesFault h nodes rev Write = ⊥
IsNodesFault h nodes rev Memory = Unit {0}

abbrev pub IsTopicFault : History → List (Path × BaseNode) → Topic → TopicFault → Type 0
IsTopicFault h nodes Report fault = fault ≡ Memory
IsTopicFault h nodes (Update rev) fault = IsCallsFault h nodes rev fault
IsTopicFault h nodes (Calls rev) fault = IsCallsFault h nodes rev fault
IsTopicFault h nodes (Nodes rev) fault = IsNodesFault h nodes rev fault

-- ---- a folder whose path is gone in the target

abbrev pub deleted_by : Option (List ℕ) → Option DriveFault → Option (List ℕ)
deleted_by entry (Some drives.NoRoot) = entry
deleted_by entry _ = None

-- why no update of the folder leads to its target
abbrev pub fault_to : History → List (Path × BaseNode) → Topic → Option DriveFault
fault_to h nodes Report = None
fault_to h nodes (Update rev) = target_fault (input_to h nodes rev)
fault_to h nodes (Calls rev) = target_fault (input_to h nodes rev)
fault_to h nodes (Nodes rev) = target_fault (input_to h nodes rev)

abbrev pub deleted : History → List (Path × BaseNode) → Option (List ℕ) → Topic → Option (List ℕ)
deleted h nodes entry topic = deleted_by entry (fault_to h nodes topic)

-- the calls in the directory above: it is opened at the folder's revision, which the client reports for it
abbrev pub deletion_calls : ℕ → ℕ → List ℕ → List Call
deletion_calls base target name =
    SetTargetRevision target ∷ OpenRoot base 0 ∷ DeleteEntry (name ∷ []) base 0 ∷ CloseDirectory 0 ∷ CloseEdit ∷ []

-- what is printed of the deletion: the folder's line, the calls, or that the folder isn't present
abbrev pub deletion_text : History → ℕ → List ℕ → Topic → List ℕ
deletion_text h base name Report = []
deletion_text h base name (Update rev) = line (line_text (line_of Deleted []))
deletion_text h base name (Calls rev) = calls_text (deletion_calls base (or_latest h rev) name)
deletion_text h base name (Nodes rev) = node_lines ([], NotPresent)

abbrev pub IsToldText : History → List (Path × BaseNode) → Option (List ℕ) → Topic → List ℕ → Type 0
IsToldText h nodes entry topic text =
    MatchOption (deleted h nodes entry topic) (IsTopicText h nodes topic text)
    (λ name. text ≡ deletion_text h (node_revision (get_in nodes [])) name topic)

-- a deletion is no fault
abbrev pub IsToldFault : History → List (Path × BaseNode) → Option (List ℕ) → Topic → TopicFault → Type 0
IsToldFault h nodes entry topic fault = IsTopicFault h nodes topic fault × (fault ≡ Drive drives.NoRoot → entry ≡ None)
