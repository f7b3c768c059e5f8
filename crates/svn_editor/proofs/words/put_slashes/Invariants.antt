use Rattle.std.proofs.Common.{◌≡◌, ◌++◌, drop, map, take}
use Rattle.svn_editor.specs.Words.{path_byte}
use Rattle.svn_editor.proofs.words.put_slashes.Given as goal

-- the bytes so far, and the others as they were
abbrev pub invariant-loop-byte : goal.invariant-loop-byte
invariant-loop-byte l = l.text ≡ map path_byte (take l.byte-index l.initial.text) ++ drop l.byte-index l.initial.text
