-- What is written to a client, by the bytes that it sends.
--     Comes s phase stream after left read said      these bytes were read, and items of the stream were taken
--     IsServed s input output      the output of a connection whose input is this
use Rattle.std.specs.Prelude.{◌≡◌, ◌⊎◌, ℕ, Bool, true, false, List, [], ◌++◌, map, Option, Ok}
use Rattle.std.specs.Io.KnownBytes.{Appends, Consumes, IsAtEnd}
use Rattle.svn_wire.specs.declared.token.Token.{Token}
use Rattle.svn_wire.specs.Streams.{Waiting, with_bytes}
use Rattle.svn_wire.specs.Sessions.{Heard, items_of, items_in, LeavesOff}
use Rattle.svn_served.specs.declared.connection.Phase.{Phase}
use Rattle.svn_served.specs.declared.connection.Phase.TheVariants.{Greeted, Over}
use Rattle.svn_served.specs.declared.opening.TheConstants.{GREETING}
use Rattle.svn_served.specs.declared.exchange.TheConstants.{CLIENT_LIMITS}
use Rattle.svn_replies.specs.declared.served.Served.{Served}
use Rattle.svn_served.specs.Connection.{Runs}

abbrev pub heard : List (List Token) → List Heard
heard items = map (λ item. Ok item) items

pub record Comes (s : Served) (phase : Phase) (stream : Waiting) (after : Phase) (left : Waiting) (read said : List ℕ) : Type 0 where
  pub items : List (List Token)
  pub runs : Runs s phase items after said
  pub leaves : LeavesOff (with_bytes stream read) (heard items) left

-- nothing more is taken: the client has said so, or its input has ended and no item is left whole
abbrev pub IsDone : Phase → Waiting → Option (List ℕ) → Type 0
IsDone after left remaining = (after ≡ Over) ⊎ ((items_in left ≡ []) × IsAtEnd remaining)

-- more bytes came; or none, at the end
abbrev pub Reads : Bool → Waiting → Waiting → Option (List ℕ) → Option (List ℕ) → Type 0
Reads true old new input input' = (read : List ℕ) × Consumes input input' read × (new ≡ with_bytes old read)
Reads false old new input input' = (new ≡ old) × Consumes input input' [] × IsAtEnd input'

-- there may be more, or it is done
abbrev pub DoneUnless : Bool → Phase → Waiting → Option (List ℕ) → Type 0
DoneUnless true after left remaining = Unit {0}
DoneUnless false after left remaining = IsDone after left remaining

-- what was read was at the front of a reader, and what was said is at the end of a writer
pub record Goes (s : Served) (phase : Phase) (stream : Waiting) (after : Phase) (left : Waiting) (input input' output output' : Option (List ℕ)) : Type 0 where
  pub read : List ℕ
  pub said : List ℕ
  pub comes : Comes s phase stream after left read said
  pub consumed : Consumes input input' read
  pub written : Appends output output' said

-- ---- a whole connection

-- the items that were taken are those of the input, up to where a connection is over
abbrev pub AreTaken : List ℕ → List (List Token) → Phase → Type 0
AreTaken input items after =
    (more : List Heard) × (items_of CLIENT_LIMITS input ≡ heard items ++ more) × ((after ≡ Over) ⊎ (more ≡ []))

pub record IsServed (s : Served) (input output : List ℕ) : Type 0 where
  pub items : List (List Token)
  pub after : Phase
  pub said : List ℕ
  pub taken : AreTaken input items after
  pub runs : Runs s Greeted items after said
  pub written : output ≡ GREETING.now ++ said
