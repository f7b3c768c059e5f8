-- Headers whose values have a type. Each gives a fault where the value has not its form, or where the header is given twice.
--     number_value, sum_value, true_value      a number; a checksum of so many bytes; whether it is `true`
--     path_of      the path that a value spells
--     kind_value, action_value, source_value      a node's kind, its action, and the source of its copy
use Rattle.std.specs.Prelude.{ℕ, Bool, false, List, [], ◌∷◌, nat_eq, bytes_eq, codes, Option, Some, None, Result, Ok, Err, if◌then◌else◌, unwrap_or}
use Rattle.std.specs.Str.{is_utf8}
use Rattle.hex.specs.Hex.{decode_sized}
use Rattle.hex.specs.declared.error.FromHexError.{FromHexError}
use Rattle.svn_types.specs.declared.kind.Kind.{Kind}
use Rattle.svn_types.specs.declared.kind.Kind.TheVariants.{File, Directory}
use Rattle.svn_types.specs.declared.fault.PathFault.{PathFault}
use Rattle.svn_types.specs.Names.{Path, path_of_text}
use Rattle.svn_types.specs.NameFaults.{path_fault}
use Rattle.svn_dump.specs.declared.fault.Reason.{Reason}
use Rattle.svn_dump.specs.declared.fault.Reason.TheVariants.{NotANumber, NotAChecksum, NotAKind, NotAnAction, HalfSource, BadPath, NotUtf8}
use Rattle.svn_dump.specs.declared.record.Action.{Action}
use Rattle.svn_dump.specs.declared.record.Action.TheVariants.{Add, Change, Delete, Replace}
use Rattle.svn_dump.specs.declared.record.CopySource.{CopySource}
use Rattle.svn_dump.specs.Reading.{◌>>=◌}
use Rattle.svn_digits.specs.Numbers.{number_of}
use Rattle.svn_dump.specs.Headers.{header_value}

-- ---- numbers

abbrev pub number_or_fault : Option ℕ → Result (Option ℕ) Reason
number_or_fault None = Err NotANumber
number_or_fault (Some n) = Ok (Some n)

abbrev pub as_number : Option (List ℕ) → Result (Option ℕ) Reason
as_number None = Ok None
as_number (Some value) = number_or_fault (number_of value)

abbrev pub number_value : List ℕ → List ℕ → Result (Option ℕ) Reason
number_value block name = header_value block name >>= as_number

-- ---- checksums

abbrev pub sum_or_fault : Result (List ℕ) FromHexError → Result (Option (List ℕ)) Reason
sum_or_fault (Ok bytes) = Ok (Some bytes)
sum_or_fault (Err e) = Err NotAChecksum

abbrev pub as_sum : ℕ → Option (List ℕ) → Result (Option (List ℕ)) Reason
as_sum size None = Ok None
as_sum size (Some value) = sum_or_fault (decode_sized value size)

-- hexadecimal digits of either case for so many bytes
abbrev pub sum_value : ℕ → List ℕ → List ℕ → Result (Option (List ℕ)) Reason
sum_value size block name = header_value block name >>= as_sum size

-- ---- flags

abbrev pub is_word : List ℕ → Option (List ℕ) → Bool
is_word word None = false
is_word word (Some value) = bytes_eq value word

abbrev pub true_value : List ℕ → List ℕ → Result Bool Reason
true_value block name = header_value block name >>= λ value. Ok (is_word (codes "true") value)

-- ---- paths

-- a slash at the front is passed over
abbrev pub without_slash : List ℕ → List ℕ
without_slash [] = []
without_slash (b ∷ bs) = if nat_eq b 47 then bs else b ∷ bs

abbrev pub path_or_fault : Option PathFault → Path → Result Path Reason
path_or_fault None path = Ok path
path_or_fault (Some fault) path = Err (BadPath fault)

abbrev pub path_of_bytes : List ℕ → Result Path Reason
path_of_bytes bytes = if is_utf8 bytes then path_or_fault (path_fault (path_of_text bytes)) (path_of_text bytes) else Err NotUtf8

abbrev pub path_of : List ℕ → Result Path Reason
path_of value = path_of_bytes (without_slash value)

-- no path is the root's
abbrev pub path_value : List ℕ → Result Path Reason
path_value block = header_value block (codes "Node-path") >>= λ value. path_of (unwrap_or value [])

-- ---- nodes

abbrev pub kind_of : Option (List ℕ) → Result (Option Kind) Reason
kind_of None = Ok None
kind_of (Some value) =
    if bytes_eq value (codes "file") then Ok (Some File)
    else if bytes_eq value (codes "dir") then Ok (Some Directory)
    else Err NotAKind

abbrev pub kind_value : List ℕ → Result (Option Kind) Reason
kind_value block = header_value block (codes "Node-kind") >>= kind_of

abbrev pub named_action : List ℕ → Option Action
named_action word =
    if bytes_eq word (codes "add") then Some Add
    else if bytes_eq word (codes "change") then Some Change
    else if bytes_eq word (codes "delete") then Some Delete
    else if bytes_eq word (codes "replace") then Some Replace
    else None

abbrev pub action_or_fault : Option Action → Result Action Reason
action_or_fault None = Err NotAnAction
action_or_fault (Some action) = Ok action

abbrev pub action_of : Option (List ℕ) → Result Action Reason
action_of None = Err NotAnAction
action_of (Some word) = action_or_fault (named_action word)

abbrev pub action_value : List ℕ → Result Action Reason
action_value block = header_value block (codes "Node-action") >>= action_of

-- the revision and the path, or neither
abbrev pub source_of : Option ℕ → Option (List ℕ) → Result (Option CopySource) Reason
source_of None None = Ok None
source_of (Some rev) (Some value) = path_of value >>= λ path. Ok (Some (record { rev = rev; path = path }))
source_of None (Some value) = Err HalfSource
source_of (Some rev) None = Err HalfSource

abbrev pub source_value : List ℕ → Result (Option CopySource) Reason
source_value block = do
  rev ← number_value block (codes "Node-copyfrom-rev")
  path ← header_value block (codes "Node-copyfrom-path")
  source_of rev path
