-- What comes of a command that is answered at once.
use Rattle.std.proofs.Common.{◌≡◌, List, [], ◌++◌, ℕ, false, true≢false, Option, Some, None, Result, Ok, Err, refl, subst}
use Rattle.svn_wire.specs.declared.token.Token.{Token}
use Rattle.svn_served.specs.declared.commands.Answered.TheVariants as answered
use Rattle.svn_served.specs.declared.connection.Phase.{Phase}
use Rattle.svn_served.specs.declared.connection.Phase.TheVariants as phases
use Rattle.svn_commands.specs.declared.commands.Replied.{Replied}
use Rattle.svn_replies.specs.declared.fault.Refused.{Refused}
use Rattle.svn_replies.specs.declared.fault.Refused.TheVariants as refused
use Rattle.svn_replies.specs.declared.served.Served.{Served}
use Rattle.svn_replies.specs.declared.session.Session.{Session}
use Rattle.svn_served.specs.declared.wanted.Driving.{Driving}
use Rattle.svn_replies.specs.Refusals.{Reason, Gives, reasons}
use Rattle.svn_served.specs.declared.reporting.Reporting.{Reporting}
use Rattle.svn_served.specs.declared.wanted.Wanted.{Wanted}
use Rattle.svn_served.specs.AskedFields.{Asked, asked_by}
use Rattle.svn_served.specs.Asking.{is_malformed, Follows, AnswersBy}
use Rattle.svn_served.specs.Asking as By
use Rattle.svn_served.specs.Reporting.{begun}
use Rattle.svn_served.specs.Connection.{after_reply, IsSentAfter, Asks, AnswersOf, Answers}
use Rattle.svn_replies.specs.Refusals.{IsTold}
use Rattle.svn_served.specs.Wanting.{driving_of, wanted_of}

module _ (s : Served) (session : Session) where
  of_reply : (driving : Option Driving) (name : List ℕ) (fields : List Token) (reply : Replied) (after : Phase) (new sent : List ℕ)
      → AnswersBy s session driving name fields (Ok (answered.Replied reply)) [] new → after ≡ after_reply session reply → IsSentAfter s reply sent
      → AnswersOf s session driving name fields after (new ++ sent)
  of_reply (Some driving) name fields reply after new sent h is follows = absurd h
  of_reply None name fields reply after new sent h is follows = (Ok reply, new, h, (sent, is, follows, refl))

  -- a report follows, or why it can't be served is told at its end
  begins : (read : Result Wanted Reason) (wanted : Result Wanted Refused) (state : Result Reporting Refused) → Gives (λ w. w) wanted read
      → Follows wanted state → Gives (λ r. r) state (reasons read begun)
  begins read (Ok wanted) state h follows = rw h follows
  begins read (Err (refused.Failed failure)) state h follows = rw (h, follows) refl
  begins read (Err refused.BadFields) state h follows = rw (h, follows) refl
  begins read (Err refused.Memory) state h follows = rw follows tt

  asks_for : (asked : Option Asked) (wanted : Result Wanted Refused) (state : Result Reporting Refused) (new : List ℕ)
      → By.Asks s session asked (Ok (answered.Wants wanted)) [] new → Follows wanted state → Asks s session asked (phases.Reporting session state) new
  asks_for None wanted state new h follows =
      let none = subst (λ (w : Result Wanted Refused). is_malformed w ≡ false) h.0 h.1 in absurd (true≢false none)
  asks_for (Some asked) wanted state new h follows =
      (h.0.0, h.0.1, (state, begins (wanted_of s session h.0.0 asked) wanted state h.0.2 follows, refl, h.2))

  of_wants : (driving : Option Driving) (name : List ℕ) (fields : List Token) (wanted : Result Wanted Refused) (state : Result Reporting Refused) (new : List ℕ)
      → AnswersBy s session driving name fields (Ok (answered.Wants wanted)) [] new → Follows wanted state
      → AnswersOf s session driving name fields (phases.Reporting session state) new
  of_wants (Some driving) name fields wanted state new h follows = asks_for (asked_by driving fields) wanted state new h follows
  of_wants None name fields wanted state new h follows = absurd h

  of_refused : (driving : Option Driving) (name : List ℕ) (fields : List Token) (e : Refused) (mid new : List ℕ)
      → AnswersBy s session driving name fields (Err e) [] mid → IsTold e mid new → AnswersOf s session driving name fields (phases.Ready session) new
  of_refused (Some driving) name fields (refused.Failed failure) mid new h told = absurd h
  of_refused (Some driving) name fields refused.BadFields mid new h told = absurd told
  of_refused (Some driving) name fields refused.Memory mid new h told = absurd told
  of_refused None name fields e mid new h told = (Err e, mid, h, (refl, told))

  -- what a command's answer is, once its name and its fields are known
  module _ (c : Option (List ℕ × List Token)) (name : List ℕ) (fields : List Token) (is : Some (name, fields) ≡ c) where
    of_command : (after : Phase) (bytes : List ℕ) → AnswersOf s session (driving_of name) name fields after bytes → Answers s session c after bytes
    of_command after bytes h = subst (λ (x : Option (List ℕ × List Token)). Answers s session x after bytes) is h

    pub answers_reply : (reply : Replied) (after : Phase) (old new sent : List ℕ) → old ≡ []
        → AnswersBy s session (driving_of name) name fields (Ok (answered.Replied reply)) old new → after ≡ after_reply session reply
        → IsSentAfter s reply sent → Answers s session c after (new ++ sent)
    answers_reply reply after old new sent first h is follows =
        let here = subst (λ (l : List ℕ). AnswersBy s session (driving_of name) name fields (Ok (answered.Replied reply)) l new) first h in
        of_command after (new ++ sent) (of_reply (driving_of name) name fields reply after new sent here is follows)

    pub answers_wants : (wanted : Result Wanted Refused) (state : Result Reporting Refused) (old new : List ℕ) → old ≡ []
        → AnswersBy s session (driving_of name) name fields (Ok (answered.Wants wanted)) old new → Follows wanted state
        → Answers s session c (phases.Reporting session state) new
    answers_wants wanted state old new first h follows =
        let here = subst (λ (l : List ℕ). AnswersBy s session (driving_of name) name fields (Ok (answered.Wants wanted)) l new) first h in
        of_command (phases.Reporting session state) new (of_wants (driving_of name) name fields wanted state new here follows)

    pub answers_refused : (e : Refused) (old mid new : List ℕ) → old ≡ [] → AnswersBy s session (driving_of name) name fields (Err e) old mid
        → IsTold e mid new → Answers s session c (phases.Ready session) new
    answers_refused e old mid new first h told =
        let here = subst (λ (l : List ℕ). AnswersBy s session (driving_of name) name fields (Err e) l mid) first h in
        of_command (phases.Ready session) new (of_refused (driving_of name) name fields e mid new here told)
