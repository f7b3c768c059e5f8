-- Scripts: what their lines do, and what they print.
--     DoesLines s lines old new text      the lines, done one after the other, take the old state to the new one and print the text
--     PrintsFrom s begin script text      the text is one that the whole script prints, run by the settings s from the state begin
--     StopsFrom s begin script n text      line n is no command, and the lines before it print the text
--     Prints s script text, StopsAt s script n text      the same from a new repository
use Rattle.std.specs.Prelude.{◌≡◌, ℕ, ◌+◌, ◌≤◌, Bool, true, false, List, [], ◌∷◌, ◌++◌, length, Option, Some, None, IfSome}
use Rattle.std.specs.Io.KnownBytes.{IsAtEnd}
use Rattle.svn_types.specs.Limits.{script_limit}
use Rattle.svn_script.specs.declared.fault.ScriptFault.{ScriptFault}
use Rattle.svn_script.specs.declared.fault.ScriptFault.TheVariants.{BadLine, TooLong, Read, Write}
use Rattle.svn_script.specs.declared.command_line.Settings.{Settings}
use Rattle.svn_script.specs.declared.command.Command.{Command}
use Rattle.svn_script.specs.Reading.{lines_of}
use Rattle.svn_script.specs.Commands.{command_of}
use Rattle.svn_update.specs.declared.answer.Answer.{Answer}
use Rattle.svn_update.specs.ScriptStates.{ScriptState, new_state}
use Rattle.svn_update.specs.Answers.{answer_text}
use Rattle.svn_update.specs.Commands.{Does}

-- ---- lines

abbrev pub DoesLine : Settings → List ℕ → ScriptState → ScriptState → List ℕ → Type 0
DoesLine s line old new text =
    (c : Command) × (command_of line ≡ Some c) × (a : Answer) × Does s c old new a × (text ≡ answer_text new.copy a)

abbrev pub DoesLines : Settings → List (List ℕ) → ScriptState → ScriptState → List ℕ → Type 0
DoesLines s [] old new text = (new ≡ old) × (text ≡ [])
DoesLines s (line ∷ lines) old new text =
    (mid : ScriptState) × (front : List ℕ) × (back : List ℕ)
    × DoesLine s line old mid front × DoesLines s lines mid new back × (text ≡ front ++ back)

-- ---- whole scripts

abbrev pub PrintsFrom : Settings → ScriptState → List ℕ → List ℕ → Type 0
PrintsFrom s begin script text = (end : ScriptState) × DoesLines s (lines_of script) begin end text

pub record StopsFrom (s : Settings) (begin : ScriptState) (script : List ℕ) (n : ℕ) (text : List ℕ) : Type 0 where
  pub before : List (List ℕ)
  pub line : List ℕ
  pub behind : List (List ℕ)
  pub lines : lines_of script ≡ before ++ line ∷ behind
  pub number : n ≡ length before + 1
  pub bad : command_of line ≡ None
  pub end : ScriptState
  pub done : DoesLines s before begin end text

abbrev pub Prints : Settings → List ℕ → List ℕ → Type 0
Prints s = PrintsFrom s new_state

abbrev pub StopsAt : Settings → List ℕ → ℕ → List ℕ → Type 0
StopsAt s = StopsFrom s new_state

-- a reader was read to its end, and gave no script that is too long
abbrev pub IsReadWhole : Option (List ℕ) → Option (List ℕ) → Type 0
IsReadWhole old new = IsAtEnd new × IfSome old (λ script. length script ≤ script_limit)

-- the fault is of a line or of the output, so the script was read before
abbrev pub is_of_a_line : ScriptFault → Bool
is_of_a_line (BadLine n) = true
is_of_a_line Write = true
is_of_a_line _ = false

-- the script was refused before its first line ran
abbrev pub is_refused_whole : ScriptFault → Bool
is_refused_whole TooLong = true
is_refused_whole Read = true
is_refused_whole _ = false
