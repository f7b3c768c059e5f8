-- What the caller's thread took, and what its carrier made of it.
--     IsStep mode t edit nodes u edit' nodes'      one call was taken
--     IsTaken mode w0 i n u left      all calls were taken, up to the last, and left that copy
use Rattle.std.specs.Prelude.{◌≡◌, ◌⊎◌, ℕ, ◌+◌, ◌<◌, true, false, not, List, [], ◌∷◌, ◌++◌, length, take, filter, Option, Some, None}
use Rattle.std.specs.Prelude.{is_some, Ok, Err}
use Rattle.md5.specs.Md5.{md5}
use Rattle.svn_types.specs.Names.{Path}
use Rattle.svn_editor.specs.declared.call.Call.{Call}
use Rattle.svn_editor.specs.declared.fault.EditFault.{EditFault}
use Rattle.svn_editor.specs.Calls.{is_abort}
use Rattle.svn_editor.specs.declared.mode.Mode.{Mode}
use Rattle.svn_edit.specs.declared.pending.Pending.{Pending}
use Rattle.svn_edit.specs.Carrying.{Carries}
use Rattle.svn_link.specs.Calls.{is_over}
use Rattle.svn_link.specs.Ends.{LinkEnd, NoticeEnd}
use Rattle.svn_model.specs.Nodes.{WorkingCopy, get_in}
use Rattle.svn_model.specs.Effects.{after, AllAccepted}
use Rattle.svn_run.specs.declared.taking.Taken.{Taken}
use Rattle.svn_run.specs.UpdateTheorem.{Nodes}

-- the calls that are applied: an `AbortEdit` isn't
abbrev pub unaborted : List Call → List Call
unaborted calls = filter (λ c. not (is_abort c)) calls

-- the call isn't applied: it is an `AbortEdit`, or an earlier one was refused
abbrev pub Skips : Call → Option ℕ → Type 0
Skips c number = (is_abort c ≡ true) ⊎ (is_some number ≡ true)

-- the number reported and the count of accepted calls, with the edit and the copy, before and after a call was taken
pub record Skipped (c : Call) (number : Option ℕ) (accepted : ℕ) (edit : Pending) (nodes : Nodes) (number' : Option ℕ) (accepted' : ℕ)
    (edit' : Pending) (nodes' : Nodes) : Type 0 where
  pub why : Skips c number
  pub same_number : number' ≡ number
  pub same_count : accepted' ≡ accepted
  pub same_edit : edit' ≡ edit
  pub same_nodes : nodes' ≡ nodes

pub record Accepted (mode : Mode) (c : Call) (number : Option ℕ) (accepted : ℕ) (edit : Pending) (nodes : Nodes) (number' : Option ℕ) (accepted' : ℕ)
    (edit' : Pending) (nodes' : Nodes) : Type 0 where
  pub inner : is_abort c ≡ false
  pub untold : number ≡ None
  pub none_told : number' ≡ None
  pub one_more : accepted' ≡ accepted + 1
  pub carried : Carries mode edit nodes c (Ok tt) edit' nodes'

pub record Refused (mode : Mode) (c : Call) (number : Option ℕ) (accepted : ℕ) (edit : Pending) (nodes : Nodes) (number' : Option ℕ) (accepted' : ℕ)
    (edit' : Pending) (nodes' : Nodes) : Type 0 where
  pub inner : is_abort c ≡ false
  pub untold : number ≡ None
  pub told : number' ≡ Some (accepted + 1)
  pub same_count : accepted' ≡ accepted
  pub fault : EditFault
  pub refused : Carries mode edit nodes c (Err fault) edit' nodes'

abbrev pub Offered : Mode → Call → Option ℕ → ℕ → Pending → Nodes → Option ℕ → ℕ → Pending → Nodes → Type 0
Offered m c n a e w n' a' e' w' = Skipped c n a e w n' a' e' w' ⊎ (Accepted m c n a e w n' a' e' w' ⊎ Refused m c n a e w n' a' e' w')

pub record IsStep (mode : Mode) (t : Taken) (edit : Pending) (nodes : Nodes) (u : Taken) (edit' : Pending) (nodes' : Nodes) : Type 0 where
  pub call : Call
  pub calls : u.inbox.calls ≡ t.inbox.calls ++ call ∷ []
  pub link : u.inbox.link ≡ t.inbox.link
  pub notice : u.teller.notice ≡ t.teller.notice
  pub offered : Offered mode call t.teller.number t.accepted edit nodes u.teller.number u.accepted edit' nodes'

-- that many of the calls were accepted: all where no number was reported, else those before the call of that number
abbrev pub IsCounted : Option ℕ → ℕ → ℕ → Type 0
IsCounted None accepted all = accepted ≡ all
IsCounted (Some n) accepted all = (n ≡ accepted + 1) × (accepted < all)

-- what is said of accepted calls holds where the copy accepts each after those before it, which the two threads know once they are joined
pub record IsTaken (mode : Mode) (w0 : WorkingCopy) (i : LinkEnd) (n : NoticeEnd) (u : Taken) (left : Nodes) : Type 0 where
  pub link : u.inbox.link ≡ i.link
  pub notice : u.teller.notice ≡ n.notice
  pub over : is_over u.inbox.calls ≡ true
  pub counted : AllAccepted md5 mode w0 (unaborted u.inbox.calls)
      → IsCounted u.teller.number u.accepted (length (unaborted u.inbox.calls))
  pub copy : AllAccepted md5 mode w0 (unaborted u.inbox.calls) → (p : Path)
      → get_in left p ≡ after mode w0 (take u.accepted (unaborted u.inbox.calls)) p
