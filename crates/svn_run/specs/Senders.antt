-- The driver's ends of the link and of the notice, as an editor.
--     Answered l call answer m      the ends before, the call, its result, and the ends after
use Rattle.std.specs.Prelude.{◌≡◌, ℕ, Bool, ◌&&◌, not, nat_lt, Err, [], ◌∷◌, ◌++◌, length, true, false, Some, Result, MatchResult, ◌^◌, ◌-◌}
use Rattle.svn_editor.specs.Calls.{is_abort}
use Rattle.svn_editor.specs.declared.call.Call.{Call}
use Rattle.svn_editor.specs.declared.call.Call.TheVariants.{AbortEdit}
use Rattle.svn_editor.specs.declared.fault.EditFault.{EditFault}
use Rattle.svn_editor.specs.declared.fault.EditFault.TheVariants.{Order, Late}
use Rattle.svn_editor.specs.declared.fault.OrderFault.TheVariants.{Ended}
use Rattle.svn_link.specs.Calls.{is_over}
use Rattle.svn_link.specs.Ends.{LinkEnd, NoticeEnd}

pub record SenderEnds : Type 0 where
  pub out : LinkEnd
  pub watch : NoticeEnd

-- one more call can be sent
abbrev pub can_send : LinkEnd → Bool
can_send o = not (is_over o.calls) && nat_lt (length o.calls) (2 ^ 64 - 1)

-- why a call wasn't sent: none can be, or that number was seen
abbrev pub IsReason : SenderEnds → EditFault → SenderEnds → Type 0
IsReason l (Order Ended) m = can_send l.out ≡ false
IsReason l (Late n) m = m.watch.number ≡ Some n
IsReason l fault m = ⊥

pub record Answered (l : SenderEnds) (c : Call) (a : Result (Unit {0}) EditFault) (m : SenderEnds) : Type 0 where
  pub link : m.out.link ≡ l.out.link
  pub notice : m.watch.notice ≡ l.watch.notice
  pub sent : MatchResult a (λ _. m.out.calls ≡ l.out.calls ++ c ∷ []) (λ e. (m.out.calls ≡ l.out.calls) × IsReason l e m)
  pub again : (n : ℕ) → l.watch.number ≡ Some n → m.watch.number ≡ Some n
  -- it looks at the notice, and sends none but `AbortEdit` once it saw a number
  pub looked : (n : ℕ) → m.watch.number ≡ Some n → is_abort c ≡ false → a ≡ Err (Late n)

-- where no last call was sent, `AbortEdit` is tried
pub record IsEnded (l m : SenderEnds) : Type 0 where
  pub over : is_over l.out.calls ≡ true → m ≡ l
  pub more : is_over l.out.calls ≡ false → (answer : Result (Unit {0}) EditFault) × Answered l AbortEdit answer m
