-- The words of node kinds.
use Rattle.std.specs.Prelude.{ℕ, List, codes}
use Rattle.svn_types.specs.declared.kind.Kind.{Kind}
use Rattle.svn_types.specs.declared.kind.Kind.TheVariants.{File, Directory}

abbrev pub kind_word : Kind → List ℕ
kind_word File = codes "file"
kind_word Directory = codes "dir"
