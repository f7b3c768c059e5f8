use Rattle.std.proofs.Common.{◌≡◌, take}
use Rattle.std.specs.List.{list_all}
use Rattle.svn_editor.specs.Words.{is_shown}
use Rattle.svn_editor.proofs.words.are_shown.Given as goal

-- all bytes so far
abbrev pub invariant-loop-byte : goal.invariant-loop-byte
invariant-loop-byte l = l.all ≡ list_all is_shown (take l.byte-index l.bytes)
