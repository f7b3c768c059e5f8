-- Commands that a report follows.
--     IsWanted s session asked wanted      the result is what is asked for, unless memory ran out
--     AnswersBy s session driving name fields answered old new      before a report no mechanism is asked for, and nothing else is written
use Rattle.std.specs.Prelude.{◌≡◌, ℕ, Bool, true, false, List, [], ◌∷◌, ◌++◌, Option, Some, None, IfSome, Result, Ok, Err}
use Rattle.std.specs.Option.{option_copied}
use Rattle.svn_repo.specs.History.{look}
use Rattle.svn_wire.specs.declared.token.Token.{Token}
use Rattle.svn_served.specs.declared.commands.Answered.{Answered}
use Rattle.svn_served.specs.declared.commands.Answered.TheVariants.{Replied, Wants}
use Rattle.svn_replies.specs.declared.fault.Refused.{Refused}
use Rattle.svn_replies.specs.declared.fault.Refused.TheVariants as refused
use Rattle.svn_served.specs.declared.reporting.Reporting.{Reporting}
use Rattle.svn_replies.specs.declared.served.Served.{Served}
use Rattle.svn_replies.specs.declared.session.Session.{Session}
use Rattle.svn_served.specs.declared.wanted.Asked.{Asked as Held}
use Rattle.svn_served.specs.declared.wanted.Driving.{Driving}
use Rattle.svn_served.specs.declared.wanted.Wanted.{Wanted}
use Rattle.svn_replies.specs.Answers.{no_mechanism}
use Rattle.svn_served.specs.AskedFields.{Asked, asked_by}
use Rattle.svn_replies.specs.Named.{named_rev}
use Rattle.svn_replies.specs.Refusals.{Gives}
use Rattle.svn_commands.specs.Replies.{Replies}
use Rattle.svn_served.specs.Reporting.{begun}
use Rattle.svn_served.specs.Wanting.{wanted_of}

-- what the code holds of the fields
abbrev pub asked_as : Held → Asked
asked_as a = record { rev = a.rev; entry = a.entry.now; recurse = a.recurse; url = option_copied a.url; with_texts = a.with_texts }

-- a name that the root of the target doesn't have, if one was found
abbrev pub IsFree : Served → Option ℕ → Option (List ℕ) → Type 0
IsFree s rev free = (target : ℕ) → named_rev s.repo rev ≡ Ok target → IfSome free (λ name. look s.repo target (name ∷ []) ≡ None)

abbrev pub IsWanted : Served → Session → Asked → Result Wanted Refused → Type 0
IsWanted s session asked result = (free : Option (List ℕ)) × IsFree s asked.rev free × Gives (λ wanted. wanted) result (wanted_of s session free asked)

abbrev pub IsWantedBy : Served → Session → Option Asked → Result Wanted Refused → Type 0
IsWantedBy s session None result = result ≡ Err refused.BadFields
IsWantedBy s session (Some asked) result = IsWanted s session asked result

-- the client isn't told of it
abbrev pub IsUntold : Refused → Type 0
IsUntold (refused.Failed failure) = ⊥
IsUntold _ = Unit {0}

-- no report follows
abbrev pub IsReply : Served → Session → List ℕ → List Token → Result Answered Refused → List ℕ → List ℕ → Type 0
IsReply s session name fields (Ok (Replied reply)) old new = Replies s session name fields (Ok reply) old new
IsReply s session name fields (Ok (Wants wanted)) old new = ⊥
IsReply s session name fields (Err e) old new = Replies s session name fields (Err e) old new

-- the fields aren't those of the command
abbrev pub is_malformed : Result Wanted Refused → Bool
is_malformed (Err refused.BadFields) = true
is_malformed _ = false

-- the report that is begun then, or why none is
abbrev pub Follows : Result Wanted Refused → Result Reporting Refused → Type 0
Follows (Ok wanted) state = Gives (λ r. r) state (begun wanted)
Follows (Err e) state = state ≡ Err e

-- what is answered to such a command: nothing else yet
abbrev pub Asks : Served → Session → Option Asked → Result Answered Refused → List ℕ → List ℕ → Type 0
Asks s session asked (Ok (Wants wanted)) old new = IsWantedBy s session asked wanted × (is_malformed wanted ≡ false) × (new ≡ old ++ no_mechanism)
Asks s session asked (Ok (Replied reply)) old new = ⊥
Asks s session asked (Err e) old new = IsUntold e

abbrev pub AnswersBy : Served → Session → Option Driving → List ℕ → List Token → Result Answered Refused → List ℕ → List ℕ → Type 0
AnswersBy s session (Some driving) name fields answered old new = Asks s session (asked_by driving fields) answered old new
AnswersBy s session None name fields answered old new = IsReply s session name fields answered old new
