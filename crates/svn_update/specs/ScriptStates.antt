-- What a script works on.
--     CopyIsTrue h copy      what the working copy has, if there is one, is what the repository has there
use Rattle.std.specs.Prelude.{List, [], Option, None, IfSome}
use Rattle.svn_types.specs.Names.{Path}
use Rattle.svn_repo.specs.History.{History, new_history}
use Rattle.svn_repo.specs.declared.change.Change.{Change}
use Rattle.svn_model.specs.declared.base_node.BaseNode.{BaseNode}
use Rattle.svn_model.specs.Nodes.{get_in, IsTrueOf}

-- a repository, the changes for its next commit, and the nodes of the working copy, if there is one
pub record ScriptState : Type 0 where
  pub repo : History
  pub pending : List Change
  pub copy : Option (List (Path × BaseNode))

-- the working copy, if there is one, is true of the repository
abbrev pub CopyIsTrue : History → Option (List (Path × BaseNode)) → Type 0
CopyIsTrue h copy = IfSome copy (λ nodes. IsTrueOf h (get_in nodes))

-- a script begins with a repository, and no changes and no working copy
abbrev pub state_on : History → ScriptState
state_on h = record { repo = h; pending = []; copy = None }

-- the repository is a new one where no other is given
abbrev pub new_state : ScriptState
new_state = state_on new_history
