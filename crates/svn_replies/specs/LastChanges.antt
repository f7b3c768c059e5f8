-- The last change of a node.
--     IsChange s r p told      the last change of the node at path p of revision r
--     IsChangeOrNone s r p told      the same, or nothing where nothing is there
use Rattle.std.specs.Prelude.{◌≡◌, ℕ, true, codes, is_some, Option, Some, None}
use Rattle.svn_types.specs.Names.{Path}
use Rattle.svn_repo.specs.History.{look}
use Rattle.svn_history.specs.Made.{RootsRise}
use Rattle.svn_history.specs.Changed.{IsLastChange}
use Rattle.svn_wire_calls.specs.declared.entered.Entered.{Entered}
use Rattle.svn_replies.specs.declared.served.Served.{Served}
use Rattle.svn_replies.specs.Values.{value_at}

pub record IsChange (s : Served) (r : ℕ) (p : Path) (told : Entered) : Type 0 where
  pub there : is_some (look s.repo r p) ≡ true
  -- that the roots rise is so of each repository that commits made (it isn't proved)
  pub last : RootsRise s.repo → IsLastChange s.repo s.index.copies.items r p told.rev
  pub date : told.date ≡ value_at s.revisions told.rev (codes "svn:date")
  pub author : told.author ≡ value_at s.revisions told.rev (codes "svn:author")

abbrev pub IsChangeOrNone : Served → ℕ → Path → Option Entered → Type 0
IsChangeOrNone s r p None = look s.repo r p ≡ None
IsChangeOrNone s r p (Some told) = IsChange s r p told
