use Rattle.std.proofs.Common.{◌≡◌, ◌*◌, ◌≤◌, take}
use Rattle.std.specs.List.{flat_map}
use Rattle.std.specs.Str.{IsAscii}
use Rattle.svn_editor.specs.Words.{escaped}
use Rattle.svn_editor.proofs.words.put_escaped.Given as goal

-- what is there of the bytes so far
abbrev pub invariant-loop-byte : goal.invariant-loop-byte
invariant-loop-byte l =
    record {
      bounded : l.len ≤ 3 * l.byte-index;
      text : take l.len l.text ≡ flat_map escaped (take l.byte-index l.piece);
      ascii : IsAscii (flat_map escaped (take l.byte-index l.piece));
    }
