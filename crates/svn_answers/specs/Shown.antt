-- What is printed of a revision.
--     IsShown h rev path text      the lines of what it has at a path and below, as a fresh checkout has it
--     IsShowFault node fault      why it isn't printed, where this node, or none, is at the path
use Rattle.std.specs.Prelude.{◌≡◌, ◌≢◌, ℕ, Bool, true, false, List, [], Option, Some, None}
use Rattle.svn_types.specs.Names.{Path}
use Rattle.svn_repo.specs.History.{History, look}
use Rattle.svn_model.specs.declared.base_node.BaseNode.{BaseNode}
use Rattle.svn_model.specs.Nodes.{WorkingCopy, get_in, InPathOrder, base_node}
use Rattle.svn_model.specs.Builders.{checkout}
use Rattle.svn_model.specs.Refusals.{is_repos_file}
use Rattle.svn_nodes.specs.Lines.{node_lines}
use Rattle.svn_nodes.specs.Standing.{Puts}
use Rattle.svn_wc.specs.Lines.{copy_text}
use Rattle.svn_answers.specs.declared.show.ShowFault.{ShowFault}
use Rattle.svn_answers.specs.declared.show.ShowFault.TheVariants.{Nothing}

-- a directory and all below, in path order
pub record IsTreeShown (h : History) (rev : ℕ) (path : Path) (text : List ℕ) : Type 0 where
  pub nodes : List (Path × BaseNode)
  pub at : (p : Path) → get_in nodes p ≡ checkout h path rev p
  pub in_order : InPathOrder nodes
  pub lines : text ≡ copy_text nodes

-- a file alone
abbrev pub shown_by : Bool → History → ℕ → Path → ℕ → List ℕ → Type 0
shown_by true h rev path id text = text ≡ node_lines ([], base_node h rev path id)
shown_by false h rev path id text = IsTreeShown h rev path text

abbrev pub shown_at : Option ℕ → History → ℕ → Path → List ℕ → Type 0
shown_at None h rev path text = ⊥
shown_at (Some id) h rev path text = shown_by (is_repos_file h (Some id)) h rev path id text

abbrev pub IsShown : History → ℕ → Path → List ℕ → Type 0
IsShown h rev path text = shown_at (look h rev path) h rev path text

-- Nothing where nothing is, and only there
abbrev pub IsShowFault : Option ℕ → ShowFault → Type 0
IsShowFault None fault = fault ≡ Nothing
IsShowFault (Some id) fault = fault ≢ Nothing

-- a part of a copy, which is at a path of it, in path order
pub record IsPartShown (part : WorkingCopy) (at : Path) (text : List ℕ) : Type 0 where
  pub nodes : List (Path × BaseNode)
  pub puts : Puts part at (λ p. None) (get_in nodes)
  pub in_order : InPathOrder nodes
  pub lines : text ≡ copy_text nodes
