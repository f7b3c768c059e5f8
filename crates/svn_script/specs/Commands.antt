-- The commands of a script, as their lines spell them.
--     command_of line      the command, or nothing where the line is none
use Rattle.std.specs.Prelude.{ℕ, Bool, false, List, [], ◌∷◌, nat_eq, Option, Some, None, option_map, option_and_then, if◌then◌else◌}
use Rattle.svn_repo.specs.declared.change.Change.TheVariants.{MakeDir, PutFile, SetProp, Remove, CopyFrom}
use Rattle.svn_script.specs.declared.verb.Verb.{Verb}
use Rattle.svn_script.specs.declared.verb.Verb.TheVariants.{Mkdir as MkdirVerb, Put as PutVerb, Prop as PropVerb}
use Rattle.svn_script.specs.declared.verb.Verb.TheVariants.{Unprop as UnpropVerb, Remove as RemoveVerb, Copy as CopyVerb}
use Rattle.svn_script.specs.declared.verb.Verb.TheVariants.{Commit as CommitVerb, Checkout as CheckoutVerb, Place as PlaceVerb}
use Rattle.svn_script.specs.declared.verb.Verb.TheVariants.{Switch as SwitchVerb, Forget as ForgetVerb, Report as ReportVerb}
use Rattle.svn_script.specs.declared.verb.Verb.TheVariants.{Drive as DriveVerb, Update as UpdateVerb, SwitchTo as SwitchToVerb}
use Rattle.svn_script.specs.declared.verb.Verb.TheVariants.{Show as ShowVerb}
use Rattle.svn_script.specs.declared.command.Command.{Command}
use Rattle.svn_script.specs.declared.command.Command.TheVariants.{Nothing, Change, Commit, Checkout, Place, Switch, Forget}
use Rattle.svn_script.specs.declared.command.Command.TheVariants.{Report, Drive, Update, SwitchTo, Show}
use Rattle.svn_digits.specs.Numbers.{number_of}
use Rattle.svn_script.specs.Reading.{words_of, bytes_of, path_of, prop_name_of}
use Rattle.svn_script.specs.Operands.{only_path, two_words, three_words, path_or_root, late_of, ending_of}
use Rattle.svn_script.specs.Verbs.{verb_of}

-- ---- changes for the next commit

-- a path, and the bytes of a text
abbrev pub put_of : List ℕ × List ℕ → Option Command
put_of w = option_and_then (λ path. option_map (λ text. Change (PutFile path text)) (bytes_of w.1)) (path_of w.0)

-- a path, the name of a property, and the bytes of its value
abbrev pub prop_of : List ℕ × List ℕ × List ℕ → Option Command
prop_of w =
    option_and_then (λ path.
    option_and_then (λ name.
    option_map (λ value. Change (SetProp path name (Some value))) (bytes_of w.2)) (prop_name_of w.1)) (path_of w.0)

-- a path, and the name of a property: it is set to no value
abbrev pub unprop_of : List ℕ × List ℕ → Option Command
unprop_of w = option_and_then (λ path. option_map (λ name. Change (SetProp path name None)) (prop_name_of w.1)) (path_of w.0)

-- a revision, the path of a node in it, and the path where it is put
abbrev pub copy_of : List ℕ × List ℕ × List ℕ → Option Command
copy_of w =
    option_and_then (λ rev.
    option_and_then (λ source.
    option_map (λ path. Change (CopyFrom rev source path)) (path_of w.2)) (path_of w.1)) (number_of w.0)

-- ---- the working copy

-- a revision, and the repository path of the copy's root, where it isn't the repository's
abbrev pub checkout_of : List (List ℕ) → Option Command
checkout_of [] = None
checkout_of (rev ∷ words) = option_and_then (λ r. option_map (λ path. Checkout r path) (path_or_root words)) (number_of rev)

-- a path, and the revision that it is put at
abbrev pub place_of : List ℕ × List ℕ → Option Command
place_of w = option_and_then (λ path. option_map (λ rev. Place path rev) (number_of w.1)) (path_of w.0)

-- a path, and what it is switched to: a repository path and a revision
abbrev pub switch_of : List ℕ × List ℕ × List ℕ → Option Command
switch_of w =
    option_and_then (λ path.
    option_and_then (λ from.
    option_map (λ rev. Switch path from rev) (number_of w.2)) (path_of w.1)) (path_of w.0)

-- ---- drives and runs

-- a revision
abbrev pub drive_of : List (List ℕ) → Option Command
drive_of [] = None
drive_of (rev ∷ words) = option_and_then (λ r. option_map (λ late. Drive r late) (late_of words)) (number_of rev)

-- a revision, and how the run may end
abbrev pub update_of : List (List ℕ) → Option Command
update_of [] = None
update_of (rev ∷ words) = option_and_then (λ r. option_map (λ e. Update r e.0 e.1) (ending_of words)) (number_of rev)

-- a repository path, a revision in which the copy's root must have it, and how the run may end
abbrev pub switch_to_of : List (List ℕ) → Option Command
switch_to_of [] = None
switch_to_of (to ∷ []) = None
switch_to_of (to ∷ rev ∷ words) =
    option_and_then (λ path.
    option_and_then (λ r.
    option_map (λ e. SwitchTo path r e.0 e.1) (ending_of words)) (number_of rev)) (path_of to)

-- ---- commands

abbrev pub when_no_word : Command → List (List ℕ) → Option Command
when_no_word c [] = Some c
when_no_word c (w ∷ ws) = None

-- what a command is with the words after its name
abbrev pub with_words : Verb → List (List ℕ) → Option Command
with_words MkdirVerb words = option_map (λ path. Change (MakeDir path)) (only_path words)
with_words PutVerb words = option_and_then put_of (two_words words)
with_words PropVerb words = option_and_then prop_of (three_words words)
with_words UnpropVerb words = option_and_then unprop_of (two_words words)
with_words RemoveVerb words = option_map (λ path. Change (Remove path)) (only_path words)
with_words CopyVerb words = option_and_then copy_of (three_words words)
with_words CommitVerb words = when_no_word Commit words
with_words CheckoutVerb words = checkout_of words
with_words PlaceVerb words = option_and_then place_of (two_words words)
with_words SwitchVerb words = option_and_then switch_of (three_words words)
with_words ForgetVerb words = option_map (λ path. Forget path) (only_path words)
with_words ReportVerb words = when_no_word Report words
with_words DriveVerb words = drive_of words
with_words UpdateVerb words = update_of words
with_words SwitchToVerb words = switch_to_of words
with_words ShowVerb words = when_no_word Show words

abbrev pub command_of_words : List (List ℕ) → Option Command
command_of_words [] = Some Nothing
command_of_words (name ∷ words) = option_and_then (λ verb. with_words verb words) (verb_of name)

-- a line whose first byte is `#`
abbrev pub is_comment : List ℕ → Bool
is_comment [] = false
is_comment (b ∷ bs) = nat_eq b 35

abbrev pub command_of : List ℕ → Option Command
command_of line = if is_comment line then Some Nothing else command_of_words (words_of line)
