-- What `check` prints of a working copy.
--     source_text word      the word that names it, as it is printed
--     lowest nodes, highest nodes      the least and the greatest revision of the nodes that have one
--     left_out_text left_out      what a sparse copy leaves out: `, 4 directories sparse, 1 entry withheld`, or nothing
--     checked_text word nodes untrue left_out reserved      the line of a true copy, `wc: true: 7 nodes, r2 to r3`, or the line of each untrue path
use Rattle.std.specs.Prelude.{ℕ, min, max, Bool, List, [], ◌∷◌, ◌++◌, length, nat_eq, Option, Some, None, bytes_eq, codes, if◌then◌else◌}
use Rattle.std.specs.Char.{is_ascii_control}
use Rattle.std.specs.Fmt.{decimal}
use Rattle.std.specs.List.{flat_map, list_any}
use Rattle.svn_types.specs.Names.{Path}
use Rattle.svn_editor.specs.Words.{word}
use Rattle.svn_model.specs.declared.base_node.BaseNode.{BaseNode}
use Rattle.svn_model.specs.Nodes.{present_revision}
use Rattle.svn_wcdb.specs.Sparse.{LeftOut}
use Rattle.svn_audit.specs.declared.reason.Untrue.{Untrue}
use Rattle.svn_audit.specs.Reasons.{untrue_text}

-- standard input
abbrev pub is_standard : List ℕ → Bool
is_standard name = bytes_eq name (codes "-")

-- printed on one line: a name with control characters as a word of a script
abbrev pub source_text : List ℕ → List ℕ
source_text name =
    if is_standard name then codes "standard input" else (if list_any is_ascii_control name then word name else name)

-- ---- revisions

-- of two numbers, where they are given
abbrev pub merged : (ℕ → ℕ → ℕ) → Option ℕ → Option ℕ → Option ℕ
merged of_two None b = b
merged of_two (Some a) None = Some a
merged of_two (Some a) (Some b) = Some (of_two a b)

abbrev pub of_all : (ℕ → ℕ → ℕ) → List (Path × BaseNode) → Option ℕ
of_all of_two [] = None
of_all of_two (e ∷ nodes) = merged of_two (present_revision e.1) (of_all of_two nodes)

abbrev pub lowest : List (Path × BaseNode) → Option ℕ
lowest = of_all min

abbrev pub highest : List (Path × BaseNode) → Option ℕ
highest = of_all max

-- 0 where no node has one
abbrev pub or_zero : Option ℕ → ℕ
or_zero None = 0
or_zero (Some n) = n

-- `r3`, or `r2 to r3`
abbrev pub span_text : ℕ → ℕ → List ℕ
span_text first last =
    if nat_eq first last then codes "r" ++ decimal last else codes "r" ++ decimal first ++ codes " to r" ++ decimal last

-- ---- what is left out

-- so many of a sort, of which there may be none, with the words for one and for several
abbrev pub left_out_part : ℕ → List ℕ → List ℕ → List ℕ
left_out_part n one several =
    if nat_eq n 0 then []
    else if nat_eq n 1 then codes ", 1 " ++ one
    else codes ", " ++ decimal n ++ codes " " ++ several

abbrev pub left_out_text : LeftOut → List ℕ
left_out_text l =
    left_out_part (length l.depths) (codes "directory sparse") (codes "directories sparse")
    ++ left_out_part l.excluded (codes "entry excluded") (codes "entries excluded")
    ++ left_out_part l.withheld (codes "entry withheld") (codes "entries withheld")

-- ---- lines

-- that the repository may be another by its UUID
abbrev pub uuid_text : Bool → List ℕ
uuid_text any_uuid = if any_uuid then codes ", whatever its UUID" else []

-- that a dump may not tell what the properties of the repository's root are
abbrev pub root_text : Bool → List ℕ
root_text untold = if untold then codes ", properties of the root as far as the dump tells them" else []

-- what isn't known of a true copy: whether it is of the repository by its UUID, and whether the properties of the root are its own
abbrev pub Reserved : Type 0
Reserved = Bool × Bool

abbrev pub true_line : List ℕ → List (Path × BaseNode) → LeftOut → Reserved → List ℕ
true_line name nodes left_out reserved =
    source_text name ++ codes ": true: " ++ decimal (length nodes) ++ codes " nodes, " ++ span_text (or_zero (lowest nodes)) (or_zero (highest nodes))
    ++ left_out_text left_out ++ uuid_text reserved.0 ++ root_text reserved.1 ++ 10 ∷ []

abbrev pub untrue_line : List ℕ → Untrue → List ℕ
untrue_line name u = source_text name ++ codes ": untrue: " ++ untrue_text u ++ 10 ∷ []

abbrev pub checked_text : List ℕ → List (Path × BaseNode) → List Untrue → LeftOut → Reserved → List ℕ
checked_text name nodes [] left_out reserved = true_line name nodes left_out reserved
checked_text name nodes (u ∷ us) left_out reserved = flat_map (untrue_line name) (u ∷ us)
