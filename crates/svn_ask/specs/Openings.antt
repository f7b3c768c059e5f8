-- The opening of a connection, up to the first question.
--     opened speaker step tokens      what the client waits for after an item, and what it writes for it
use Rattle.std.specs.Prelude.{ℕ, Bool, false, ◌&&◌, ◌||◌, List, [], ◌∷◌, ◌++◌, take, codes, bytes_eq, nat_le, Option, Some, None, Result, Ok, Err, if◌then◌else◌}
use Rattle.svn_wire.specs.declared.token.Token.{Token}
use Rattle.svn_wire.specs.declared.token.Token.TheVariants.{Open, Close, Number, Word, Text}
use Rattle.svn_wire.specs.Fields.{command_of}
use Rattle.svn_wire.specs.Writing.{word_bytes, text_bytes}
use Rattle.svn_ask.specs.declared.fault.Reason.{Reason}
use Rattle.svn_ask.specs.declared.fault.Reason.TheVariants.{Malformed, Version, NoMechanism, NotAdmitted, OtherRepository, Failed, Unasked}
use Rattle.svn_ask.specs.declared.opening.Speaker.{Speaker}
use Rattle.svn_ask.specs.declared.opening.Step.{Step}
use Rattle.svn_ask.specs.declared.opening.Step.TheVariants.{Greeting, Mechanisms, Admission, Repository, ReparentMechanisms, Reparented, Opened}
use Rattle.svn_ask.specs.Reading.{◌>>=◌}
use Rattle.svn_ask.specs.Answers.{message_limit}

-- ---- what the server says

-- the first error of a failure
abbrev pub failed : List Token → Result (List Token) Reason
failed (Open ∷ Number code ∷ Text message ∷ ts) = Err (Failed code (take message_limit message))
failed _ = Err Malformed

abbrev pub fields_in : Option (List ℕ × List Token) → Result (List Token) Reason
fields_in None = Err Malformed
fields_in (Some x) =
    if bytes_eq x.0 (codes "success") then Ok x.1
    else if bytes_eq x.0 (codes "failure") then failed x.1
    else Err Malformed

-- the fields of a success
abbrev pub success_fields : List Token → Result (List Token) Reason
success_fields tokens = fields_in (command_of tokens)

-- whether a word is in the list that is open
abbrev pub is_listed : List ℕ → List Token → Bool
is_listed word (Word w ∷ ts) = bytes_eq w word || is_listed word ts
is_listed word _ = false

abbrev pub external : List ℕ
external = codes "EXTERNAL"

abbrev pub anonymous : List ℕ
anonymous = codes "ANONYMOUS"

-- how the client authenticates itself, where the list of mechanisms isn't empty
abbrev pub chosen : List Token → Result (Option (List ℕ)) Reason
chosen (Open ∷ Close ∷ ts) = Ok None
chosen (Open ∷ ts) =
    if is_listed external ts then Ok (Some external)
    else if is_listed anonymous ts then Ok (Some anonymous)
    else Err NoMechanism
chosen _ = Err Malformed

-- a command wants none
abbrev pub unasked_for : Option (List ℕ) → Result ℕ Reason
unasked_for None = Ok 0
unasked_for (Some mechanism) = Err NoMechanism

abbrev pub no_mechanism : List Token → Result ℕ Reason
no_mechanism tokens = success_fields tokens >>= chosen >>= unasked_for

-- ---- what the client says

unfoldable pub response : List ℕ → List ℕ → List ℕ
response url client = codes "( 2 ( edit-pipeline ) " ++ text_bytes url ++ text_bytes client ++ codes "( ) ) "

abbrev pub mechanism_bytes : List ℕ → List ℕ
mechanism_bytes mechanism = codes "( " ++ word_bytes mechanism ++ codes "( 0: ) ) "

abbrev pub reparent : List ℕ → List ℕ
reparent root = codes "( reparent ( " ++ text_bytes root ++ codes ") ) "

-- ---- the steps

abbrev pub Next : Type 0
Next = Result (Step × List ℕ) Reason

-- version 2 is between the least and the highest
abbrev pub greeted : Speaker → List Token → Next
greeted s (Number low ∷ Number high ∷ ts) = if nat_le low 2 && nat_le 2 high then Ok (Mechanisms, response s.url s.client) else Err Version
greeted s _ = Err Malformed

abbrev pub authenticated : Option (List ℕ) → Next
authenticated None = Ok (Repository, [])
authenticated (Some mechanism) = Ok (Admission, mechanism_bytes mechanism)

abbrev pub not_admitted : List Token → Next
not_admitted (Text message ∷ ts) = Err (NotAdmitted (take message_limit message))
not_admitted _ = Err Malformed

abbrev pub admitted : Option (List ℕ × List Token) → Next
admitted None = Err Malformed
admitted (Some x) =
    if bytes_eq x.0 (codes "success") then Ok (Repository, [])
    else if bytes_eq x.0 (codes "failure") then not_admitted x.1
    else Err Malformed

-- the repository is the one that was meant; the connection goes to its root
abbrev pub found : Speaker → List Token → Next
found s (Text uuid ∷ Text root ∷ ts) =
    if bytes_eq uuid s.uuid then (if bytes_eq root s.url then Ok (Opened, []) else Ok (ReparentMechanisms, reparent root))
    else Err OtherRepository
found s _ = Err Malformed

abbrev pub opened : Speaker → Step → List Token → Next
opened s Greeting tokens = success_fields tokens >>= greeted s
opened s Mechanisms tokens = success_fields tokens >>= chosen >>= authenticated
opened s Admission tokens = admitted (command_of tokens)
opened s Repository tokens = success_fields tokens >>= found s
opened s ReparentMechanisms tokens = no_mechanism tokens >>= λ none. Ok (Reparented, [])
opened s Reparented tokens = success_fields tokens >>= λ fields. Ok (Opened, [])
opened s Opened tokens = Err Unasked

-- what is written, after what was written before
abbrev pub onto : {S : Type 0} → List ℕ → Result (S × List ℕ) Reason → Result (S × List ℕ) Reason
onto bytes read = read >>= λ x. Ok (x.0, bytes ++ x.1)
