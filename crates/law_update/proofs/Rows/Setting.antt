-- What the worked examples share: short names, and histories as tables of nodes.
use Rattle.std.specs.Prelude.{ℕ, zero, suc, Bool, true, false, List, [], ◌∷◌, ◌++◌, length, take}
use Rattle.svn_types.specs.Names.{Path}
use Rattle.svn_types.specs.declared.kind.Kind.TheVariants.{File, Directory}
use Rattle.svn_types.proofs.NameLemmas.{Name}
use Rattle.svn_repo.specs.History.{History, NodeRow}
use Rattle.svn_report.specs.Reports.{ReportView}
use Rattle.svn_editor.specs.declared.mode.Mode.{Mode}
use Rattle.svn_editor.specs.declared.call.Call.{Call}
use Rattle.svn_editor.specs.declared.fault.EditFault.{EditFault}
use Rattle.svn_model.specs.Follow.{DriveInput}
use Rattle.svn_model.specs.declared.base_node.BaseNode.{BaseNode}
use Rattle.svn_model.specs.declared.base_node.BaseNode.TheVariants.{File as FileNode, Dir as DirNode}
use Rattle.svn_model.specs.Nodes.{WorkingCopy, listed}
use Rattle.svn_model.specs.Crawl.{crawl}
use Rattle.svn_model.specs.Effects.{after, refusals}
use Rattle.svn_editor.specs.declared.call.Call.TheVariants.{SetTargetRevision, CloseEdit}
use Rattle.svn_model.specs.TreeCalls.{tree_calls, late_calls}

abbrev pub a : Name
a = 97 ∷ []

abbrev pub b : Name
b = 98 ∷ []

abbrev pub c : Name
c = 99 ∷ []

abbrev pub d : Name
d = 100 ∷ []

abbrev pub e : Name
e = 101 ∷ []

abbrev pub f : Name
f = 102 ∷ []

abbrev pub g : Name
g = 103 ∷ []

abbrev pub s : Name
s = 115 ∷ []

abbrev pub t : Name
t = 116 ∷ []

abbrev pub x : Name
x = 120 ∷ []

abbrev pub y : Name
y = 121 ∷ []

abbrev pub abc : List ℕ
abc = 97 ∷ 98 ∷ 99 ∷ []

abbrev pub at : Name → Path
at n = n ∷ []

abbrev pub at2 : Name → Name → Path
at2 m n = m ∷ n ∷ []

-- a path of that many names
abbrev pub deep : ℕ → Path
deep zero = []
deep (suc n) = d ∷ deep n

abbrev pub dir : ℕ → List (List ℕ × ℕ) → NodeRow
dir line entries = record { line = line; kind = Directory; text = []; props = []; entries = entries }

abbrev pub dir_with : ℕ → List (List ℕ × List ℕ) → NodeRow
dir_with line props = record { line = line; kind = Directory; text = []; props = props; entries = [] }

abbrev pub file : ℕ → List ℕ → NodeRow
file line text = record { line = line; kind = File; text = text; props = []; entries = [] }

-- the repository with these roots and nodes, each node at the place of its number
abbrev pub history_of : List ℕ → List NodeRow → History
history_of roots nodes = record { roots = roots; nodes = nodes; lines = length nodes }

-- the checksum of the examples is the text itself
abbrev pub sum : List ℕ → List ℕ
sum text = text

abbrev pub ask : Mode → History → ReportView → ℕ → DriveInput
ask mode h r target = record { history = h; report = r; target = target; mode = mode; checksum = sum }

-- the calls of a drive, where no path has more names than the number says
abbrev pub drive_within : ℕ → Bool → DriveInput → List Call
drive_within height late q =
    SetTargetRevision q.target ∷ (tree_calls q late height [] 0 0 ++ (late_calls q late height [] 0 0 ++ (CloseEdit ∷ [])))

-- the drive for what the copy has at these paths
abbrev pub drive : Bool → Mode → History → List Path → WorkingCopy → ℕ → List Call
drive late mode h paths w target = drive_within 5 late (ask mode h (crawl (listed paths w)) target)

-- the copy after the first n of the calls
abbrev pub stopped : Mode → WorkingCopy → ℕ → List Call → WorkingCopy
stopped mode w n calls = after mode w (take n calls)

-- the refusals of the calls, where something is at these paths at most
abbrev pub refused : Mode → List Path → WorkingCopy → List Call → List (Call × EditFault)
refused mode paths w calls = refusals sum mode paths w calls

abbrev pub whole : ℕ → Path → BaseNode
whole r q = DirNode r q true []

abbrev pub partial : ℕ → Path → BaseNode
partial r q = DirNode r q false []

abbrev pub plain : ℕ → Path → List ℕ → BaseNode
plain r q text = FileNode r q text []
