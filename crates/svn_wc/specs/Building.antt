-- How copies are made and changed without an edit.
--     Refuses fault e      the result of a call that isn't done: its fault, or else Memory
--     tree_at h at q r      the tree at q in revision r, put at a path, and nothing else
use Rattle.std.specs.Prelude.{◌≡◌, ℕ, Option, Some, None}
use Rattle.svn_types.specs.Names.{Path}
use Rattle.svn_repo.specs.History.{History}
use Rattle.svn_model.specs.declared.wc_fault.WcFault.{WcFault}
use Rattle.svn_model.specs.declared.wc_fault.WcFault.TheVariants.{Memory}
use Rattle.svn_model.specs.Nodes.{WorkingCopy}
use Rattle.svn_model.specs.Builders.{placed}

abbrev pub Refuses : Option WcFault → WcFault → Type 0
Refuses None e = e ≡ Memory
Refuses (Some fault) e = e ≡ fault

abbrev pub tree_at : History → Path → Path → ℕ → WorkingCopy
tree_at h at q r = placed h (λ p. None) at q r
