-- What a server says of a path in a revision.
--     SaidValue      a node as an answer has it, or that there is none
--     answer_of wanted rev tokens      what the answer to a question says: its item, without the one before it about authentication
use Rattle.std.specs.Prelude.{ℕ, Bool, ◌||◌, List, [], ◌∷◌, take, codes, bytes_eq, nat_eq, Option, Some, None, Result, Ok, Err, if◌then◌else◌}
use Rattle.std.specs.List.{starts_with, list_any}
use Rattle.std.specs.Str.{is_utf8}
use Rattle.std.specs.BTreeMap.{insert_entry, is_at}
use Rattle.std.specs.BTreeSet.{insert_key}
use Rattle.hex.specs.Hex.{decode_sized}
use Rattle.hex.specs.declared.error.FromHexError.{FromHexError}
use Rattle.svn_types.specs.declared.kind.Kind.{Kind}
use Rattle.svn_types.specs.declared.kind.Kind.TheVariants as kind
use Rattle.svn_types.specs.declared.fault.PathFault.{PathFault}
use Rattle.svn_types.specs.Names.{name_cmp}
use Rattle.svn_types.specs.NameFaults.{name_fault, prop_name_fault}
use Rattle.svn_types.specs.Pairs.{value_of}
use Rattle.svn_wire.specs.declared.token.Token.{Token}
use Rattle.svn_wire.specs.declared.token.Token.TheVariants.{Open, Close, Number, Word, Text}
use Rattle.svn_wire.specs.Fields.{command_of}
use Rattle.svn_ask.specs.declared.fault.Reason.{Reason}
use Rattle.svn_ask.specs.declared.fault.Reason.TheVariants.{Malformed, NoChecksum, NotAChecksum, OtherRevision, NotUtf8, BadName, NameTwice, BadPropName, PropTwice, Failed}
use Rattle.svn_ask.specs.declared.question.Wanted.{Wanted}
use Rattle.svn_ask.specs.declared.question.Wanted.TheVariants as wanted
use Rattle.svn_ask.specs.declared.said.Said.{Said}
use Rattle.svn_ask.specs.declared.said.Said.TheVariants as said
use Rattle.svn_ask.specs.Reading.{◌>>=◌}
use Rattle.svn_ask.specs.Tuples.{tuples}

abbrev pub Properties : Type 0
Properties = List (List ℕ × List ℕ)

pub data SaidValue : Type 0 where
  file : List ℕ → Properties → SaidValue  -- the MD5 checksum of its text, its properties
  directory : Properties → List (List ℕ) → SaidValue  -- its properties, and the names in it in byte order
  of_kind : Kind → SaidValue  -- a node of this kind, and no more is said
  nothing : SaidValue
  no_directory : SaidValue  -- a file, there or above it
  no_revision : SaidValue

abbrev pub said_value : Said → SaidValue
said_value (said.File sum props) = file sum props
said_value (said.Directory props names) = directory props names.items
said_value (said.OfKind k) = of_kind k
said_value said.Nothing = nothing
said_value said.NoDirectory = no_directory
said_value said.NoRevision = no_revision

-- ---- properties

-- what the server keeps for itself and for its client
abbrev pub is_servers : List ℕ → Bool
is_servers name = starts_with nat_eq name (codes "svn:entry:") || starts_with nat_eq name (codes "svn:wc:")

abbrev pub unless_fault : (PathFault → Reason) → Option PathFault → List ℕ → Result (List ℕ) Reason
unless_fault reason None name = Ok name
unless_fault reason (Some fault) name = Err (reason fault)

abbrev pub prop_name : List ℕ → Result (List ℕ) Reason
prop_name name = unless_fault BadPropName (prop_name_fault name) name

abbrev pub set_once : Option (List ℕ) → Properties → Result Properties Reason
set_once None props = Ok props
set_once (Some value) props = Err PropTwice

abbrev pub prop_set : Properties → List ℕ → List ℕ → Result Properties Reason
prop_set props name value =
    if is_servers name then Ok props
    else prop_name name >>= λ n. set_once (value_of props n) (insert_entry name_cmp props n value)

-- a tuple of a name and a value
abbrev pub with_prop : Properties → List Token → Result Properties Reason
with_prop props (Text name ∷ Text value ∷ ts) = prop_set props name value
with_prop props _ = Err Malformed

-- ---- names

abbrev pub node_name : List ℕ → Result (List ℕ) Reason
node_name name = if is_utf8 name then unless_fault BadName (name_fault name) name else Err NotUtf8

abbrev pub name_put : List (List ℕ) → List ℕ → Result (List (List ℕ)) Reason
name_put names name = if list_any (is_at (name_cmp name)) names then Err NameTwice else Ok (insert_key name_cmp names name)

-- a tuple that begins with a name
abbrev pub with_name : List (List ℕ) → List Token → Result (List (List ℕ)) Reason
with_name names (Text name ∷ ts) = node_name name >>= name_put names
with_name names _ = Err Malformed

-- ---- answers

abbrev pub same_revision : ℕ → ℕ → Result ℕ Reason
same_revision asked rev = if nat_eq rev asked then Ok rev else Err (OtherRevision rev)

abbrev pub sum_or_fault : Result (List ℕ) FromHexError → Result (List ℕ) Reason
sum_or_fault (Ok bytes) = Ok bytes
sum_or_fault (Err e) = Err NotAChecksum

abbrev pub file_of : ℕ → List Token → Result SaidValue Reason
file_of asked (Open ∷ Close ∷ ts) = Err NoChecksum
file_of asked (Open ∷ Text digits ∷ Close ∷ Number rev ∷ Open ∷ ts) = do
  sum ← sum_or_fault (decode_sized digits 16)
  same ← same_revision asked rev
  props ← tuples with_prop 0 [] ts
  Ok (file sum props.0)
file_of asked _ = Err Malformed

abbrev pub with_names : Properties × List Token → Result SaidValue Reason
with_names (props, Open ∷ ts) = tuples with_name 0 [] ts >>= λ names. Ok (directory props names.0)
with_names (props, _) = Err Malformed

abbrev pub directory_of : ℕ → List Token → Result SaidValue Reason
directory_of asked (Number rev ∷ Open ∷ ts) = do
  same ← same_revision asked rev
  props ← tuples with_prop 0 [] ts
  with_names props
directory_of asked _ = Err Malformed

abbrev pub kind_of_word : List ℕ → Result SaidValue Reason
kind_of_word word =
    if bytes_eq word (codes "none") then Ok nothing
    else if bytes_eq word (codes "file") then Ok (of_kind kind.File)
    else if bytes_eq word (codes "dir") then Ok (of_kind kind.Directory)
    else Err Malformed

abbrev pub kind_of : List Token → Result SaidValue Reason
kind_of (Word word ∷ ts) = kind_of_word word
kind_of _ = Err Malformed

abbrev pub success_of : Wanted → ℕ → List Token → Result SaidValue Reason
success_of wanted.File asked ts = file_of asked ts
success_of wanted.Directory asked ts = directory_of asked ts
success_of wanted.Kind asked ts = kind_of ts

-- ---- failures

-- the most bytes of a message that are kept
abbrev pub message_limit : ℕ
message_limit = 1024

-- nothing is there, or no such revision
abbrev pub absence : ℕ → Option SaidValue
absence code =
    if nat_eq code 160013 then Some nothing
    else if nat_eq code 160006 then Some no_revision
    else None

-- no file, or no directory: the second is also said where a file is above the path
abbrev pub other_kind : Wanted → ℕ → Option SaidValue
other_kind wanted.File code =
    if nat_eq code 160017 then Some (of_kind kind.Directory)
    else if nat_eq code 160016 then Some nothing
    else None
other_kind wanted.Directory code = if nat_eq code 160016 then Some no_directory else None
other_kind wanted.Kind code = None

abbrev pub or_failed : ℕ → List ℕ → Option SaidValue → Result SaidValue Reason
or_failed code message None = Err (Failed code (take message_limit message))
or_failed code message (Some value) = Ok value

abbrev pub failure_says : Wanted → ℕ → Option SaidValue → Option SaidValue
failure_says wanted code (Some value) = Some value
failure_says wanted code None = other_kind wanted code

-- the first error of a failure
abbrev pub failure_of : Wanted → List Token → Result SaidValue Reason
failure_of wanted (Open ∷ Number code ∷ Text message ∷ ts) = or_failed code message (failure_says wanted code (absence code))
failure_of wanted _ = Err Malformed

abbrev pub named_answer : Wanted → ℕ → Option (List ℕ × List Token) → Result SaidValue Reason
named_answer wanted asked None = Err Malformed
named_answer wanted asked (Some x) =
    if bytes_eq x.0 (codes "success") then success_of wanted asked x.1
    else if bytes_eq x.0 (codes "failure") then failure_of wanted x.1
    else Err Malformed

abbrev pub answer_of : Wanted → ℕ → List Token → Result SaidValue Reason
answer_of wanted asked tokens = named_answer wanted asked (command_of tokens)
