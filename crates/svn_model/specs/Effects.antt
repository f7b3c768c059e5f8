-- What each call does to a working copy, given the calls accepted before it.
--     effect mode earlier call w      the copy after the call
--     edit_fault checksum mode earlier call w      why the copy refuses the call, where it is in order
--     after mode w calls      the copy after a list of calls
use Rattle.std.specs.Prelude.{◌≡◌, ℕ, ◌+◌, Bool, true, false, ◌&&◌, not, List, [], ◌∷◌, ◌++◌, length, nat_eq, nat_lt, bytes_eq, Option}
use Rattle.std.specs.Prelude.{Some, None, option_map, if◌then◌else◌}
use Rattle.std.specs.List.{cons_option, list_any}
use Rattle.std.specs.Option.{option_or}
use Rattle.svn_types.specs.declared.kind.Kind.{Kind}
use Rattle.svn_types.specs.declared.kind.Kind.TheVariants.{File, Directory}
use Rattle.svn_types.specs.Names.{Path}
use Rattle.svn_types.specs.Paths.{path_eq, is_within, parent, is_root, last_name}
use Rattle.svn_types.specs.Props.{PropChange, with_changes}
use Rattle.svn_types.specs.Limits.{path_limit, size_limit}
use Rattle.svn_editor.specs.declared.call.Call.{Call}
use Rattle.svn_editor.specs.declared.call.Call.TheVariants.{CloseEdit}
use Rattle.svn_editor.specs.declared.fault.EditFault.{EditFault}
use Rattle.svn_editor.specs.declared.fault.EditFault.TheVariants.{Order, NoEntry, WrongKind, WrongRevision, BaseChecksum, TextChecksum}
use Rattle.svn_editor.specs.declared.fault.EditFault.TheVariants.{EntryExists, TooDeep, TooLong}
use Rattle.svn_editor.specs.Order.{order_fault}
use Rattle.svn_editor.specs.declared.mode.Mode.{Mode}
use Rattle.svn_editor.specs.declared.mode.Mode.TheVariants.{Update, SwitchTo}
use Rattle.svn_editor.specs.Steps.{Action, Delete, Open, Add, Change, Text, Close, Step, step_of, steps_of}
use Rattle.svn_editor.specs.Steps.{target_of}
use Rattle.svn_model.specs.declared.base_node.BaseNode.{BaseNode}
use Rattle.svn_model.specs.declared.base_node.BaseNode.TheVariants.{File as FileNode, Dir as DirNode, NotPresent}
use Rattle.svn_model.specs.Nodes.{WorkingCopy, get_in, InPathOrder, listed, is_present, is_dir, is_file, node_revision, node_path}
use Rattle.svn_model.specs.Nodes.{node_text}

-- ---- what the earlier steps on a path leave for its close

abbrev pub change_in : Action → Option PropChange
change_in (Change kind change) = Some change
change_in _ = None

abbrev pub text_in : Action → Option (List ℕ)
text_in (Text base_md5 text) = Some text
text_in _ = None

abbrev pub changes_at : Path → List Step → List PropChange
changes_at p [] = []
changes_at p (s ∷ steps) = if path_eq s.path p then cons_option (change_in s.action) (changes_at p steps) else changes_at p steps

abbrev pub texts_at : Path → List Step → List (List ℕ)
texts_at p [] = []
texts_at p (s ∷ steps) = if path_eq s.path p then cons_option (text_in s.action) (texts_at p steps) else texts_at p steps

-- the text given, else the one before
abbrev pub text_or : List (List ℕ) → List ℕ → List ℕ
text_or [] text = text
text_or (new ∷ texts) text = new

-- ---- effects, path by path

-- the parent's repository path joined with the name
abbrev pub joined_path : WorkingCopy → Path → Path
joined_path w p = node_path (w (parent p)) ++ last_name p

-- the repository path that an opened node gets: in a switch the one under the parent's
abbrev pub moved_path : Mode → WorkingCopy → Path → Path → Path
moved_path Update w p repos_path = repos_path
moved_path (SwitchTo root) w p repos_path = if is_root p then root else joined_path w p

abbrev pub opened_directory : ℕ → (Path → Path) → Option BaseNode → Option BaseNode
opened_directory target moved (Some (DirNode r q complete props)) = Some (DirNode target (moved q) false (if complete then props else []))
opened_directory target moved other = other

abbrev pub closed_directory : List PropChange → Option BaseNode → Option BaseNode
closed_directory changes (Some (DirNode r q complete props)) = Some (DirNode r q true (with_changes props changes))
closed_directory changes other = other

-- an added file is not present until it is closed
abbrev pub closed_file : ℕ → (Path → Path) → Path → List PropChange → List (List ℕ) → Option BaseNode → Option BaseNode
closed_file target moved joined changes texts (Some (FileNode r q text props)) =
    Some (FileNode target (moved q) (text_or texts text) (with_changes props changes))
closed_file target moved joined changes texts (Some NotPresent) = Some (FileNode target joined (text_or texts []) (with_changes [] changes))
closed_file target moved joined changes texts other = other

abbrev pub added_node : Kind → ℕ → Path → BaseNode
added_node File target joined = NotPresent
added_node Directory target joined = DirNode target joined false []

-- what is at the step's own path after it
abbrev pub stepped : Mode → ℕ → List Step → WorkingCopy → Path → Action → Option BaseNode
stepped mode target earlier w p (Delete revision) = None
stepped mode target earlier w p (Open Directory base) = opened_directory target (moved_path mode w p) (w p)
stepped mode target earlier w p (Add kind) = Some (added_node kind target (joined_path w p))
stepped mode target earlier w p (Close Directory checksum) = closed_directory (changes_at p earlier) (w p)
stepped mode target earlier w p (Close File checksum) =
    closed_file target (moved_path mode w p) (joined_path w p) (changes_at p earlier) (texts_at p earlier) (w p)
stepped mode target earlier w p _ = w p

-- a delete takes what is below away
abbrev pub below_after : Action → Option BaseNode → Option BaseNode
below_after (Delete revision) other = None
below_after _ other = other

abbrev pub step_effect : Mode → ℕ → List Step → Step → WorkingCopy → WorkingCopy
step_effect mode target earlier s w q =
    if path_eq s.path q then stepped mode target earlier w s.path s.action
    else if is_within s.path q then below_after s.action (w q)
    else w q

-- the repository path that the last call gives: in a switch the one under the new root
abbrev pub settled_path : Mode → Path → Path → Path
settled_path Update p repos_path = repos_path
settled_path (SwitchTo root) p repos_path = root ++ p

-- what the last call leaves at a path: a present node with the target revision
abbrev pub settled : Mode → ℕ → Path → Option BaseNode → Option BaseNode
settled mode target p (Some (FileNode r q text props)) = Some (FileNode target (settled_path mode p q) text props)
settled mode target p (Some (DirNode r q complete props)) = Some (DirNode target (settled_path mode p q) complete props)
settled mode target p _ = None

-- a call that is about no path changes nothing
abbrev pub read_effect : Mode → ℕ → List Step → Option Step → WorkingCopy → WorkingCopy
read_effect mode target earlier None w = w
read_effect mode target earlier (Some s) w = step_effect mode target earlier s w

abbrev pub effect : Mode → List Call → Call → WorkingCopy → WorkingCopy
effect mode earlier CloseEdit w = λ p. settled mode (target_of earlier) p (w p)
effect mode earlier c w = read_effect mode (target_of earlier) (steps_of earlier) (step_of earlier c) w

abbrev pub after_from : Mode → List Call → WorkingCopy → List Call → WorkingCopy
after_from mode earlier w [] = w
after_from mode earlier w (c ∷ calls) = after_from mode (earlier ++ c ∷ []) (effect mode earlier c w) calls

abbrev pub after : Mode → WorkingCopy → List Call → WorkingCopy
after mode w calls = after_from mode [] w calls

-- ---- refusals

abbrev pub is_too_long : Option (List ℕ) → Bool
is_too_long None = false
is_too_long (Some v) = nat_lt size_limit (length v)

-- a checksum is given, and is another
abbrev pub is_wrong_sum : Option (List ℕ) → List ℕ → Bool
is_wrong_sum None sum = false
is_wrong_sum (Some given) sum = not (bytes_eq given sum)

abbrev pub has_kind : Kind → Option BaseNode → Bool
has_kind File node = is_file node
has_kind Directory node = is_dir node

abbrev pub step_fault : (List ℕ → List ℕ) → Mode → List Step → WorkingCopy → Path → Action → Option EditFault
step_fault checksum mode earlier w p (Delete revision) =
    if not (is_present (w p)) then Some NoEntry
    else if not (nat_eq (node_revision (w p)) revision) then Some WrongRevision
    else None
step_fault checksum mode earlier w p (Add kind) =
    if is_present (w p) then Some EntryExists
    else if nat_lt path_limit (length (joined_path w p)) then Some TooDeep
    else None
step_fault checksum mode earlier w p (Open kind base) =
    if not (is_present (w p)) then Some NoEntry
    else if not (has_kind kind (w p)) then Some WrongKind
    else if not (nat_eq (node_revision (w p)) base) then Some WrongRevision
    else if nat_lt path_limit (length (moved_path mode w p (node_path (w p)))) then Some TooDeep
    else None
step_fault checksum mode earlier w p (Change kind change) = if is_too_long change.1 then Some TooLong else None
step_fault checksum mode earlier w p (Text base_md5 text) =
    if is_too_long (Some text) then Some TooLong
    else if is_wrong_sum base_md5 (checksum (node_text (w p))) then Some BaseChecksum
    else None
step_fault checksum mode earlier w p (Close File sum) =
    if is_wrong_sum sum (checksum (text_or (texts_at p earlier) (node_text (w p)))) then Some TextChecksum else None
step_fault checksum mode earlier w p (Close Directory sum) = None

abbrev pub read_fault : (List ℕ → List ℕ) → Mode → List Step → WorkingCopy → Option Step → Option EditFault
read_fault checksum mode earlier w None = None
read_fault checksum mode earlier w (Some s) = step_fault checksum mode earlier w s.path s.action

-- the repository path that a switch's last call gives the node would have over 64 names
abbrev pub is_settled_deep : Mode → Path × BaseNode → Bool
is_settled_deep Update node = false
is_settled_deep (SwitchTo root) node = is_present (Some node.1) && nat_lt path_limit (length root + length node.0)

abbrev pub settle_fault : Mode → List (Path × BaseNode) → Option EditFault
settle_fault mode nodes = if list_any (is_settled_deep mode) nodes then Some TooDeep else None

-- the copy is given as its list of nodes; the last call looks at each
abbrev pub edit_fault : (List ℕ → List ℕ) → Mode → List Call → Call → List (Path × BaseNode) → Option EditFault
edit_fault checksum mode earlier CloseEdit nodes = settle_fault mode nodes
edit_fault checksum mode earlier c nodes = read_fault checksum mode (steps_of earlier) (get_in nodes) (step_of earlier c)

-- the order is looked at first
abbrev pub refusal : (List ℕ → List ℕ) → Mode → List Call → Call → List (Path × BaseNode) → Option EditFault
refusal checksum mode earlier c nodes = option_or (option_map Order (order_fault earlier c)) (edit_fault checksum mode earlier c nodes)

-- it is refused by no list of the copy's nodes
abbrev pub IsAccepted : (List ℕ → List ℕ) → Mode → List Call → WorkingCopy → Call → Type 0
IsAccepted checksum mode earlier w c =
    (nodes : List (Path × BaseNode)) → InPathOrder nodes → ((p : Path) → get_in nodes p ≡ w p)
    → refusal checksum mode earlier c nodes ≡ None

abbrev pub AllAcceptedFrom : (List ℕ → List ℕ) → Mode → List Call → WorkingCopy → List Call → Type 0
AllAcceptedFrom checksum mode earlier w [] = Unit {0}
AllAcceptedFrom checksum mode earlier w (c ∷ calls) =
    IsAccepted checksum mode earlier w c × AllAcceptedFrom checksum mode (earlier ++ c ∷ []) (effect mode earlier c w) calls

-- each call of the list is accepted after those before it
abbrev pub AllAccepted : (List ℕ → List ℕ) → Mode → WorkingCopy → List Call → Type 0
AllAccepted checksum mode w calls = AllAcceptedFrom checksum mode [] w calls

-- the refusals of the calls, as if each were made after those before it; the paths are those at which something may be
abbrev pub refusals_from : (List ℕ → List ℕ) → Mode → List Path → List Call → WorkingCopy → List Call → List (Call × EditFault)
refusals_from checksum mode paths earlier w [] = []
refusals_from checksum mode paths earlier w (c ∷ calls) =
    cons_option (option_map (λ f. (c, f)) (refusal checksum mode earlier c (listed paths w)))
    (refusals_from checksum mode paths (earlier ++ c ∷ []) (effect mode earlier c w) calls)

abbrev pub refusals : (List ℕ → List ℕ) → Mode → List Path → WorkingCopy → List Call → List (Call × EditFault)
refusals checksum mode paths w calls = refusals_from checksum mode paths [] w calls
