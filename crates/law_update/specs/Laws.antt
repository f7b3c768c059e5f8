-- The laws that join drive and copy, as statements. Each is the contract of the function of its name, which does nothing.
use Rattle.std.specs.Prelude.{◌≡◌, ℕ, Bool, List, None, Some, take, slice_get}
use Rattle.svn_types.specs.Names.{Path}
use Rattle.svn_repo.specs.History.{History}
use Rattle.svn_repo.specs.Readings.{IsHistory}
use Rattle.svn_report.specs.Reports.{ReportView}
use Rattle.svn_report.specs.LawfulReports.{IsReport}
use Rattle.svn_editor.specs.declared.call.Call.{Call}
use Rattle.svn_editor.specs.declared.mode.Mode.{Mode}
use Rattle.svn_model.specs.Checks.{IsCheckable, target_fault}
use Rattle.svn_model.specs.Follow.{DriveInput, target_path}
use Rattle.svn_model.specs.Drive.{IsDrive}
use Rattle.svn_model.specs.declared.base_node.BaseNode.{BaseNode}
use Rattle.svn_model.specs.Nodes.{WorkingCopy, IsWorkingCopy, get_in, InPathOrder, IsTrueOf}
use Rattle.svn_model.specs.Crawl.{crawl}
use Rattle.svn_model.specs.Effects.{after, refusal, AllAccepted}
use Rattle.svn_model.specs.Describes.{Describes}
use Rattle.svn_model.specs.Result.{result}

-- ---- what the laws are about

-- a list of nodes that is a true working copy of the history
pub record IsTrueCopy (h : History) (nodes : List (Path × BaseNode)) : Type 0 where
  pub history : IsHistory h
  pub in_order : InPathOrder nodes
  pub shape : IsWorkingCopy (get_in nodes)
  pub true_of : IsTrueOf h (get_in nodes)

-- the target revision is there, and in it the root of the copy, of its own line
abbrev pub HasTarget : DriveInput → Type 0
HasTarget d = target_fault d ≡ None

-- a request whose report describes a true copy and can be served, as its target can
pub record IsRequestOf (d : DriveInput) (w : WorkingCopy) : Type 0 where
  pub history : IsHistory d.history
  pub shape : IsWorkingCopy w
  pub true_of : IsTrueOf d.history w
  pub report : IsReport d.report
  pub checkable : IsCheckable d.history d.report
  pub describes : Describes d.history d.report w
  pub has_target : HasTarget d

-- what a copy asks for by its crawl, when it is driven to a target
abbrev pub request_of : History → List (Path × BaseNode) → ℕ → Mode → (List ℕ → List ℕ) → DriveInput
request_of h nodes target mode checksum = record { history = h; report = crawl nodes; target = target; mode = mode; checksum = checksum }

-- the request, with another report
abbrev pub reported_again : DriveInput → ReportView → DriveInput
reported_again d r = record { history = d.history; report = r; target = d.target; mode = d.mode; checksum = d.checksum }

-- ---- the crawl

-- what holds of a true copy's crawl
pub record SaysWhatStands (h : History) (nodes : List (Path × BaseNode)) : Type 0 where
  pub report : IsReport (crawl nodes)
  pub checkable : IsCheckable h (crawl nodes)
  pub describes : Describes h (crawl nodes) (get_in nodes)

abbrev pub crawl_says_what_stands : Type 0
crawl_says_what_stands = (h : History) (nodes : List (Path × BaseNode)) → IsTrueCopy h nodes → SaysWhatStands h nodes

-- ---- the drive

-- no call of the drive is refused, and after all of them the copy is the result
pub record Composes (d : DriveInput) (w : WorkingCopy) (calls : List Call) : Type 0 where
  pub accepted : AllAccepted d.checksum d.mode w calls
  pub ends : (p : Path) → after d.mode w calls p ≡ result d p

abbrev pub drive_composes : Type 0
drive_composes =
    (d : DriveInput) (w : WorkingCopy) (late : Bool) (calls : List Call) → IsRequestOf d w → IsDrive d late calls → Composes d w calls

-- each call of the drive is accepted after those before it, whatever list in path order has the copy's nodes
abbrev pub each_call_is_accepted : Type 0
each_call_is_accepted =
    (d : DriveInput) (w : WorkingCopy) (late : Bool) (calls : List Call) (k : ℕ) (call : Call) (nodes : List (Path × BaseNode))
    → IsRequestOf d w
    → IsDrive d late calls
    → slice_get calls k ≡ Some call
    → InPathOrder nodes
    → ((p : Path) → get_in nodes p ≡ after d.mode w (take k calls) p)
    → refusal d.checksum d.mode (take k calls) call nodes ≡ None

-- every prefix of the drive leaves a working copy that is true
abbrev pub prefixes_stay_true : Type 0
prefixes_stay_true =
    (d : DriveInput) (w : WorkingCopy) (late : Bool) (calls : List Call) (n : ℕ)
    → IsRequestOf d w
    → IsDrive d late calls
    → IsWorkingCopy (after d.mode w (take n calls)) × IsTrueOf d.history (after d.mode w (take n calls))

-- A second request, of the copy that a stopped drive left, leads where the first did: each path to its place in the target, and so to
-- the same result, with which each drive of it ends.
pub record Resumes (first second : DriveInput) (left : WorkingCopy) : Type 0 where
  pub asked : IsRequestOf second left
  pub same_paths : (p : Path) → target_path second p ≡ target_path first p
  pub same_result : (p : Path) → result second p ≡ result first p
  pub ends : (late : Bool) (calls : List Call) → IsDrive second late calls → (p : Path) → after first.mode left calls p ≡ result first p

-- wherever the drive stops, each report that describes the copy that it leaves leads to the same target with the same result
abbrev pub stopped_drive_resumes : Type 0
stopped_drive_resumes =
    (d : DriveInput) (w left : WorkingCopy) (late : Bool) (calls : List Call) (n : ℕ) (r : ReportView)
    → IsRequestOf d w
    → IsDrive d late calls
    → ((p : Path) → left p ≡ after d.mode w (take n calls) p)
    → IsReport r
    → IsCheckable d.history r
    → Describes d.history r left
    → Resumes d (reported_again d r) left

-- so does what that copy itself reports
abbrev pub stopped_run_resumes : Type 0
stopped_run_resumes =
    (d : DriveInput) (w : WorkingCopy) (late : Bool) (calls : List Call) (n : ℕ) (nodes : List (Path × BaseNode))
    → IsRequestOf d w
    → IsDrive d late calls
    → InPathOrder nodes
    → ((p : Path) → get_in nodes p ≡ after d.mode w (take n calls) p)
    → Resumes d (reported_again d (crawl nodes)) (get_in nodes)
