-- The number that each fault of a script, and of the words of the command line, is known by, and the exit status.
use Rattle.std.specs.Prelude.{ℕ}
use Rattle.svn_script.specs.declared.fault.ScriptFault.{ScriptFault}
use Rattle.svn_script.specs.declared.fault.ScriptFault.TheVariants.{BadLine, TooLong, Read, Write, Memory}
use Rattle.svn_script.specs.declared.command_line.WordsFault.{WordsFault}
use Rattle.svn_script.specs.declared.command_line.WordsFault.TheVariants.{BadWords, Memory as WordsMemory}

abbrev pub script_fault_number : ScriptFault → ℕ
script_fault_number (BadLine n) = 61
script_fault_number TooLong = 62
script_fault_number Read = 63
script_fault_number Write = 64
script_fault_number Memory = 65

-- the exit status of a program whose script ended so
abbrev pub script_status : ScriptFault → ℕ
script_status (BadLine n) = 2
script_status TooLong = 2
script_status Read = 1
script_status Write = 1
script_status Memory = 1

abbrev pub words_fault_number : WordsFault → ℕ
words_fault_number (BadWords text) = 71
words_fault_number WordsMemory = 72

abbrev pub words_status : WordsFault → ℕ
words_status (BadWords text) = 2
words_status WordsMemory = 1
