-- How an untrue path is printed.
--     in_place reason      what the repository has in the place of the node
--     untrue_text untrue      the line: the path in the copy, and what is said of its place in the repository
use Rattle.std.specs.Prelude.{ℕ, Bool, true, false, List, [], ◌++◌, codes, if◌then◌else◌}
use Rattle.std.specs.Fmt.{decimal}
use Rattle.svn_types.specs.Names.{Path}
use Rattle.svn_types.specs.declared.kind.Kind.TheVariants.{File, Directory}
use Rattle.svn_editor.specs.Words.{word, path_word}
use Rattle.svn_audit.specs.declared.reason.Reason.{Reason}
use Rattle.svn_audit.specs.declared.reason.Reason.TheVariants.{NoRevision, Nothing, AnotherKind, AnotherText, AnotherProperty, Lacks}
use Rattle.svn_audit.specs.declared.reason.Untrue.{Untrue}

abbrev pub in_place : Reason → List ℕ
in_place NoRevision = codes "nothing"
in_place Nothing = codes "nothing"
in_place (AnotherKind File) = codes "a file"
in_place (AnotherKind Directory) = codes "a directory"
in_place AnotherText = codes "another text"
in_place (AnotherProperty name) = codes "another " ++ word name
in_place (Lacks name) = word name

abbrev pub rest_of : Reason → List ℕ
rest_of NoRevision = []
rest_of Nothing = []
rest_of (AnotherKind kind) = []
rest_of AnotherText = []
rest_of (AnotherProperty name) = []
rest_of (Lacks name) = codes ", which the copy lacks"

abbrev pub is_no_revision : Reason → Bool
is_no_revision NoRevision = true
is_no_revision Nothing = false
is_no_revision (AnotherKind kind) = false
is_no_revision AnotherText = false
is_no_revision (AnotherProperty name) = false
is_no_revision (Lacks name) = false

-- `r3 has x at d, which the copy lacks`
abbrev pub there : ℕ → Path → Reason → List ℕ
there rev place reason = codes "r" ++ decimal rev ++ codes " has " ++ in_place reason ++ codes " at " ++ path_word place ++ rest_of reason

abbrev pub untrue_text : Untrue → List ℕ
untrue_text u =
    path_word u.path ++ codes ": "
    ++ (if is_no_revision u.reason then codes "the history has no r" ++ decimal u.rev else there u.rev u.repos_path u.reason)
