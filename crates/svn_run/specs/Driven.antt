-- What the driver's thread sent.
--     IsSent drive limit calls number end      where a last call was sent: the calls are the drive, or its first ones and `AbortEdit`
--     IsDriven drive limit o w d      the ends are those that went in, and that much was sent
use Rattle.std.specs.Prelude.{◌≡◌, ℕ, ◌<◌, true, List, [], ◌∷◌, ◌++◌, length, take, Option, Some, Result, Ok, Err}
use Rattle.svn_editor.specs.declared.call.Call.{Call}
use Rattle.svn_editor.specs.declared.call.Call.TheVariants.{AbortEdit}
use Rattle.svn_editor.specs.declared.fault.EditFault.TheVariants.{Late}
use Rattle.svn_link.specs.Calls.{is_over}
use Rattle.svn_link.specs.Ends.{LinkEnd, NoticeEnd}
use Rattle.svn_model.specs.declared.drive_end.DriveEnd.{DriveEnd}
use Rattle.svn_model.specs.declared.drive_end.DriveEnd.TheVariants.{Closed, Cancelled}
use Rattle.svn_model.specs.declared.drive_fault.DriveFault.{DriveFault}
use Rattle.svn_model.specs.declared.drive_fault.DriveFault.TheVariants.{Editor}
use Rattle.svn_model.specs.Ends.{IsWithin}
use Rattle.svn_run.specs.declared.driving.Driven.{Driven}

module _ (drive : List Call) (limit : Option ℕ) (calls : List Call) where
  -- the first k calls of the drive, which has more, and `AbortEdit`
  pub record IsStopped (k : ℕ) : Type 0 where
    pub part : k < length drive
    pub calls_are : calls ≡ take k drive ++ AbortEdit ∷ []
    pub within : IsWithin limit k

  pub record IsWhole (n : ℕ) : Type 0 where
    pub count : n ≡ length drive
    pub calls_are : calls ≡ drive
    pub within : IsWithin limit n

  -- a driver that stopped on the notice saw that number
  abbrev pub StopsOn : Option ℕ → DriveFault → Type 0
  StopsOn number (Editor (Late n)) = number ≡ Some n
  StopsOn number _ = Unit {0}

  abbrev pub SentAs : Option ℕ → Result DriveEnd DriveFault → Type 0
  SentAs number (Ok (Closed n)) = IsWhole n
  SentAs number (Ok (Cancelled k)) = (limit ≡ Some k) × IsStopped k
  SentAs number (Err fault) = ((k : ℕ) × IsStopped k) × StopsOn number fault

  abbrev pub IsSent : Option ℕ → Result DriveEnd DriveFault → Type 0
  IsSent number end = is_over calls ≡ true → SentAs number end

pub record IsDriven (drive : List Call) (limit : Option ℕ) (o : LinkEnd) (w : NoticeEnd) (d : Driven) : Type 0 where
  pub link : d.outbox.link ≡ o.link
  pub notice : d.watcher.notice ≡ w.notice
  pub sent : IsSent drive limit d.outbox.calls d.watcher.number d.end
