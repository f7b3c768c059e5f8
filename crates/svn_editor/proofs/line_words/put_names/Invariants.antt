use Rattle.std.proofs.Common.{◌≡◌, ◌++◌, drop, map, take}
use Rattle.std.specs.List.{list_all}
use Rattle.svn_editor.specs.Words.{is_shown, path_byte}
use Rattle.svn_editor.proofs.line_words.put_names.Given as goal

-- the bytes so far, and the others as they were
abbrev pub invariant-loop-byte : goal.invariant-loop-byte
invariant-loop-byte g l =
    record {
      text : l.text ≡ map path_byte (take l.byte-index l.initial.text) ++ drop l.byte-index l.initial.text;
      shown : l.all ≡ list_all is_shown (map path_byte (take l.byte-index l.initial.text));
    }
