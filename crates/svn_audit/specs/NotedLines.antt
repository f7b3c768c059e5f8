-- What is held of the calls of an update so far, from which its further lines follow.
use Rattle.std.specs.Prelude.{◌≡◌, ℕ, Bool, false, ◌||◌, List, [], ◌∷◌, length, nat_lt, slice_get, Option, Some, None, if◌then◌else◌}
use Rattle.std.specs.List.{list_any}
use Rattle.svn_types.specs.Names.{Path}
use Rattle.svn_editor.specs.declared.call.Call.{Call}
use Rattle.svn_editor.specs.Calls.{all_given, applies_text}
use Rattle.svn_model.specs.Nodes.{WorkingCopy}
use Rattle.svn_audit.specs.declared.lines.UpdateLine.{UpdateLine}
use Rattle.svn_audit.specs.declared.lines.Opened.{Opened}
use Rattle.svn_audit.specs.declared.lines.Noted.{Noted}
use Rattle.svn_audit.specs.Lines.{opened, opened_path, changes_props, changes, opened_line, update_lines}

-- a node that was just opened or added
abbrev pub new_node : Option Path → Opened
new_node path = record { path = path; text = false; props = false }

-- a node that is given a text, or whose properties are changed
abbrev pub with_text : Bool → Opened → Opened
with_text b n = record n { text = n.text || b }

abbrev pub with_props : Bool → Opened → Opened
with_props b n = record n { props = n.props || b }

-- what is held of token t, by the call that took it and the calls since
abbrev pub node_of : ℕ → List Call → Option Opened
node_of t [] = None
node_of t (c ∷ since) =
    Some (record { path = opened_path c; text = list_any (applies_text t) since; props = list_any (changes_props t) since })

-- the line at the close of a node
abbrev pub line_of_node : WorkingCopy → Bool → Option Opened → List UpdateLine
line_of_node w edited None = []
line_of_node w edited (Some n) = opened_line w n.path n.text n.props edited

-- the lines so far, and of each token what is held of it
pub record IsNoted (w : WorkingCopy) (calls : List Call) (noted : Noted) : Type 0 where
  pub lines : noted.lines.items ≡ update_lines w calls
  pub count : length noted.nodes.items ≡ length (all_given calls)
  pub nodes : (t : ℕ) → slice_get noted.nodes.items t ≡ node_of t (opened calls t)

-- whether something was changed since a token was taken
abbrev pub is_edited : List Call → Bool
is_edited [] = false
is_edited (c ∷ since) = list_any changes since

-- how many tokens were taken before the last change: each of them has a change since
abbrev pub KnowsEdits : List Call → ℕ → Type 0
KnowsEdits calls edited = (t : ℕ) → nat_lt t edited ≡ is_edited (opened calls t)

abbrev pub edited_after : Noted → Call → ℕ
edited_after noted c = if changes c then length noted.nodes.items else noted.edited
