-- How what was passed over of a working copy is printed: `3 local changes, 1 file external`.
--     passed_over_text notes      the sorts that there are any of, each with its number
use Rattle.std.specs.Prelude.{ℕ, Bool, true, false, List, [], ◌∷◌, ◌++◌, nat_eq, codes, if◌then◌else◌}
use Rattle.std.specs.Fmt.{decimal}
use Rattle.std.specs.List.{flat_map}
use Rattle.svn_wcdb.specs.declared.notes.Notes.{Notes}
use Rattle.svn_answers.specs.declared.passed_over.Sort.{Sort}
use Rattle.svn_answers.specs.declared.passed_over.Sort.TheVariants.{Change, External, Actual, Lock, Work, Locked}
use Rattle.svn_answers.specs.declared.passed_over.Count.{Count}

abbrev pub one_of : Sort → List ℕ
one_of Change = codes "local change"
one_of External = codes "file external"
one_of Actual = codes "row of conflicts or local properties"
one_of Lock = codes "working copy lock"
one_of Work = codes "unfinished work item"
one_of Locked = codes "file locked in the repository"

abbrev pub several_of : Sort → List ℕ
several_of Change = codes "local changes"
several_of External = codes "file externals"
several_of Actual = codes "rows of conflicts or local properties"
several_of Lock = codes "working copy locks"
several_of Work = codes "unfinished work items"
several_of Locked = codes "files locked in the repository"

abbrev pub sort_words : Count → List ℕ
sort_words c = if nat_eq c.number 1 then one_of c.sort else several_of c.sort

abbrev pub count_text : Count → List ℕ
count_text c = decimal c.number ++ codes " " ++ sort_words c

-- of each sort
abbrev pub counts : Notes → List Count
counts n =
    record { number = n.changes; sort = Change } ∷ record { number = n.externals; sort = External } ∷ record { number = n.actual; sort = Actual }
    ∷ record { number = n.locks; sort = Lock } ∷ record { number = n.work; sort = Work } ∷ record { number = n.locked; sort = Locked } ∷ []

-- a sort that there is none of isn't printed
abbrev pub count_texts : Count → List (List ℕ)
count_texts c = if nat_eq c.number 0 then [] else count_text c ∷ []

-- a comma and a space
abbrev pub comma_if : Bool → List ℕ
comma_if true = 44 ∷ 32 ∷ []
comma_if false = []

-- a comma between two texts
abbrev pub listed : List (List ℕ) → List ℕ
listed [] = []
listed (t ∷ []) = t
listed (t ∷ u ∷ texts) = t ++ (comma_if true ++ listed (u ∷ texts))

abbrev pub passed_over_text : Notes → List ℕ
passed_over_text notes = listed (flat_map count_texts (counts notes))
