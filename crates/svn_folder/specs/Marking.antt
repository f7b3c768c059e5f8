-- What isn't on the disk yet, as a program keeps it.
--     marks_of unsynced      the marks that it stands for
--     without done marks      the marks that are left once a step is taken
--     without_files paths marks      those that are left once these files are synced
use Rattle.std.specs.Prelude.{true, List, [], ◌∷◌, ◌&&◌, ◌||◌, not}
use Rattle.std.specs.BTreeSet.{contains}
use Rattle.svn_types.specs.Names.{Path, path_cmp}
use Rattle.svn_types.specs.Paths.{path_eq}
use Rattle.svn_folder.specs.declared.unsynced.Unsynced.{Unsynced}
use Rattle.svn_folder.specs.declared.unsynced.Done.{Done}
use Rattle.svn_folder.specs.declared.unsynced.Done.TheVariants.{Nothing, Bytes, Names, Unknown}
use Rattle.svn_folder.specs.Syncing.{Marks}

-- of what is unknown everything is marked
abbrev pub marks_of : Unsynced → Marks
marks_of u = record {
  files = λ p. u.is_unknown || contains path_cmp u.files p;
  directories = λ p. u.is_unknown || contains path_cmp u.directories p;
}

abbrev pub without : Done → Marks → Marks
without Nothing marks = marks
without (Bytes q) marks = record { files = λ p. not (path_eq q p) && marks.files p; directories = marks.directories }
without (Names q) marks = record { files = marks.files; directories = λ p. not (path_eq q p) && marks.directories p }
without Unknown marks = record { files = λ p. true; directories = λ p. true }

abbrev pub without_files : List Path → Marks → Marks
without_files [] marks = marks
without_files (p ∷ paths) marks = without_files paths (without (Bytes p) marks)
