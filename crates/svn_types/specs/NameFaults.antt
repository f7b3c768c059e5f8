-- Which texts are refused as names and paths, and why. The first fault in this order is returned, and Memory comes last.
--     AnswersPath fault value result      the result is that fault, or the value where there is none
--     AnswersBytes bytes result      the result is that of the path which the bytes spell, or NotUtf8 where they are no text
use Rattle.std.specs.Prelude.{◌≡◌, ℕ, true, false, List, [], ◌∷◌, length, nat_lt, nat_eq, Option, Some, None, Result, Ok, Err, if◌then◌else◌, codes}
use Rattle.std.specs.List.{list_all}
use Rattle.std.specs.Option.{option_or}
use Rattle.std.specs.Str.{is_utf8}
use Rattle.svn_types.specs.declared.fault.PathFault.{PathFault}
use Rattle.svn_types.specs.declared.fault.PathFault.TheVariants.{EmptyComponent, Dots, BadCharacter, NameTooLong, TooManyComponents, Memory}
use Rattle.svn_types.specs.declared.fault.PathBytesFault.{PathBytesFault}
use Rattle.svn_types.specs.declared.fault.PathBytesFault.TheVariants as bytes_fault
use Rattle.svn_types.specs.Names.{Path, name_limit, depth_limit, is_plain, is_dots, is_prop_text, path_of_text}

abbrev pub name_fault : List ℕ → Option PathFault
name_fault n =
    if nat_eq (length n) 0 then Some EmptyComponent
    else if is_dots n then Some Dots
    else if nat_lt name_limit (length n) then Some NameTooLong
    else if list_all is_plain n then None
    else Some BadCharacter

abbrev pub prop_name_fault : List ℕ → Option PathFault
prop_name_fault n =
    if nat_eq (length n) 0 then Some EmptyComponent
    else if nat_lt name_limit (length n) then Some NameTooLong
    else if is_prop_text n then None
    else Some BadCharacter

-- that of the first name which has one
abbrev pub names_fault : Path → Option PathFault
names_fault [] = None
names_fault (n ∷ p) = option_or (name_fault n) (names_fault p)

abbrev pub count_fault : ℕ → Option PathFault
count_fault n = if nat_lt depth_limit n then Some TooManyComponents else None

abbrev pub path_fault : Path → Option PathFault
path_fault p = option_or (names_fault p) (count_fault (length p))

abbrev pub AnswersPath : {T : Type 0} → Option PathFault → T → Result T PathFault → Type 0
AnswersPath None value (Ok v) = v ≡ value
AnswersPath None value (Err e) = e ≡ Memory
AnswersPath (Some fault) value (Ok v) = ⊥
AnswersPath (Some fault) value (Err e) = e ≡ fault

-- the same of the path that a text spells
abbrev pub AnswersText : List ℕ → Result Path PathFault → Type 0
AnswersText text result = AnswersPath (path_fault (path_of_text text)) (path_of_text text) result

-- no name is read of bytes that are no text
abbrev pub AnswersBytes : List ℕ → Result Path PathBytesFault → Type 0
AnswersBytes bytes (Ok p) = (is_utf8 bytes ≡ true) × AnswersText bytes (Ok p)
AnswersBytes bytes (Err bytes_fault.NotUtf8) = is_utf8 bytes ≡ false
AnswersBytes bytes (Err (bytes_fault.Path fault)) = (is_utf8 bytes ≡ true) × AnswersText bytes (Err fault)

abbrev pub path_fault_number : PathFault → ℕ
path_fault_number EmptyComponent = 1
path_fault_number Dots = 2
path_fault_number BadCharacter = 3
path_fault_number NameTooLong = 4
path_fault_number TooManyComponents = 5
path_fault_number Memory = 6

abbrev pub path_fault_name : PathFault → List ℕ
path_fault_name EmptyComponent = codes "EmptyComponent"
path_fault_name Dots = codes "Dots"
path_fault_name BadCharacter = codes "BadCharacter"
path_fault_name NameTooLong = codes "NameTooLong"
path_fault_name TooManyComponents = codes "TooManyComponents"
path_fault_name Memory = codes "Memory"
