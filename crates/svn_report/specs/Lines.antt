-- The printed lines of a report's entries, and the text of a report.
--     entry_line p e      the line of an entry, without the line feed
--     report_text r      all lines of a report, each with its line feed
use Rattle.std.specs.Prelude.{ℕ, Bool, true, false, List, [], ◌∷◌, ◌++◌, codes}
use Rattle.std.specs.List.{flat_map}
use Rattle.std.specs.Fmt.{decimal}
use Rattle.svn_types.specs.Names.{Path}
use Rattle.svn_editor.specs.Words.{path_word, spaced}
use Rattle.svn_report.specs.declared.entry.ReportEntry.{ReportEntry}
use Rattle.svn_report.specs.declared.entry.ReportEntry.TheVariants.{SetPath, LinkPath, DeletePath}
use Rattle.svn_report.specs.Reports.{ReportView}

abbrev pub start_empty_words : Bool → List (List ℕ)
start_empty_words true = codes "start_empty" ∷ []
start_empty_words false = []

-- what follows the revision in an entry's line
abbrev pub ending : Bool → List ℕ
ending true = codes " start_empty"
ending false = []

abbrev pub entry_words : Path → ReportEntry → List (List ℕ)
entry_words p (SetPath rev start_empty) = codes "set" ∷ path_word p ∷ decimal rev ∷ start_empty_words start_empty
entry_words p (LinkPath repos_path rev start_empty) =
    codes "link" ∷ path_word p ∷ path_word repos_path ∷ decimal rev ∷ start_empty_words start_empty
entry_words p DeletePath = codes "delete" ∷ path_word p ∷ []

abbrev pub entry_line : Path → ReportEntry → List ℕ
entry_line p e = spaced (entry_words p e)

-- the path of the root in the repository, where it is another than the repository's root
abbrev pub root_text : Path → List ℕ
root_text [] = []
root_text (n ∷ p) = spaced (codes "root" ∷ path_word (n ∷ p) ∷ []) ++ 10 ∷ []

abbrev pub entry_text : Path × ReportEntry → List ℕ
entry_text e = entry_line e.0 e.1 ++ 10 ∷ []

abbrev pub report_text : ReportView → List ℕ
report_text r = root_text r.root ++ flat_map entry_text r.entries
