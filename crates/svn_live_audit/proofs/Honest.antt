-- What an honest server says is what its history gives.
use Rattle.std.proofs.Common.{◌≡◌, ℕ, ◌<◌, ◌≤◌, Bool, true, false, cond, List, length, Option, Some, None, true≢false, refl, sym, ap, subst, ◌∙◌, arith}
use Rattle.std.specs.Prelude.{nat_lt, IsSome}
use Rattle.std.proofs.lemmas.Bool.Decides.{nat_tests}
use Rattle.std.specs.Map.{keys_of}
use Rattle.md5.specs.Md5.{md5}
use Rattle.svn_types.specs.declared.kind.Kind.{Kind}
use Rattle.svn_types.specs.declared.kind.Kind.TheVariants.{File, Directory}
use Rattle.svn_types.specs.Names.{Path}
use Rattle.svn_repo.specs.History.{NodeRow, History, node_at, look}
use Rattle.svn_repo.specs.Laws.{NodesExist}
use Rattle.svn_model.specs.declared.base_node.BaseNode.{BaseNode}
use Rattle.svn_model.specs.declared.base_node.BaseNode.TheVariants.{File as FileNode, Dir as DirNode, NotPresent}
use Rattle.svn_model.specs.Nodes.{node_revision, node_path}
use Rattle.svn_ask.specs.Answers.{SaidValue}
use Rattle.svn_ask.specs.Answers as said
use Rattle.svn_live_audit.specs.Verdicts.{Gives, GivesAt, SaysAll, asks_about}
use Rattle.svn_live_audit.specs.Honest.{of_file, of_directory, of_row, of_found, row_of, row_at, said_by, HonestAnswersAreGiven}

some_there : {A : Type 0} (o : Option A) → IsSome o → (x : A) × (o ≡ Some x)
some_there None there = absurd (true≢false (sym there))
some_there (Some x) there = (x, refl)

record Given (h : History) (r : ℕ) (q : Path) (node : BaseNode) (value : SaidValue) : Type 0 where
  pub there : GivesAt h r q value
  pub all : SaysAll node value

of_a_file : (h : History) (r n : ℕ) (q : Path) (row : NodeRow) (text : List ℕ) (props : List (List ℕ × List ℕ)) (kind : Kind) → look h r q ≡ Some n
    → node_at h n ≡ Some row → row.kind ≡ kind → Given h r q (FileNode r q text props) (of_file row kind)
of_a_file h r n q row text props File found at is = record { there = (n, row, found, at, (is, refl, refl)); all = tt }
of_a_file h r n q row text props Directory found at is = record { there = (n, row, found, at, is); all = refl }

of_a_directory : (h : History) (r n : ℕ) (q : Path) (row : NodeRow) (props : List (List ℕ × List ℕ)) (kind : Kind) → look h r q ≡ Some n
    → node_at h n ≡ Some row → row.kind ≡ kind → Given h r q (DirNode r q true props) (of_directory row kind)
of_a_directory h r n q row props Directory found at is = record { there = (n, row, found, at, (is, refl, refl)); all = tt }
of_a_directory h r n q row props File found at is = record { there = (n, row, found, at, is); all = refl }

of_a_row : (h : History) (n : ℕ) (row : NodeRow) (node : BaseNode) → asks_about node ≡ true
    → look h (node_revision (Some node)) (node_path (Some node)) ≡ Some n → node_at h n ≡ Some row
    → Given h (node_revision (Some node)) (node_path (Some node)) node (of_row node row)
of_a_row h n row NotPresent asked found at = absurd (true≢false (sym asked))
of_a_row h n row (FileNode r q text props) asked found at = of_a_file h r n q row text props row.kind found at refl
of_a_row h n row (DirNode r q true props) asked found at = of_a_directory h r n q row props row.kind found at refl
of_a_row h n row (DirNode r q false props) asked found at = record { there = (n, row, found, at, refl); all = tt }

nothing_said : (node : BaseNode) → SaysAll node said.nothing
nothing_said NotPresent = tt
nothing_said (FileNode r q text props) = tt
nothing_said (DirNode r q true props) = tt
nothing_said (DirNode r q false props) = tt

no_revision_said : (node : BaseNode) → SaysAll node said.no_revision
no_revision_said NotPresent = tt
no_revision_said (FileNode r q text props) = tt
no_revision_said (DirNode r q true props) = tt
no_revision_said (DirNode r q false props) = tt

of_a_place : (h : History) (node : BaseNode) → NodesExist h → asks_about node ≡ true → (node_revision (Some node)) < length h.roots → (o : Option ℕ)
    → look h (node_revision (Some node)) (node_path (Some node)) ≡ o
    → Given h (node_revision (Some node)) (node_path (Some node)) node (of_found node (row_of h o))
of_a_place h node rows asked within None found = record { there = (found, within); all = nothing_said node }
of_a_place h node rows asked within (Some n) found =
    let row = some_there (node_at h n) (rows (node_revision (Some node)) (node_path (Some node)) n found) in
    subst (λ o. Given h (node_revision (Some node)) (node_path (Some node)) node (of_found node o)) (sym row.1)
    (of_a_row h n row.0 node asked found row.1)

pub honest_answers_are_given : HonestAnswersAreGiven
honest_answers_are_given h p node rows asked = by (nat_lt (node_revision (Some node)) (length h.roots)) refl
  where
    by : (b : Bool) → nat_lt (node_revision (Some node)) (length h.roots) ≡ b
        → Gives h ((p, node), cond b (of_found node (row_at h (node_revision (Some node)) (node_path (Some node)))) said.no_revision)
    by true within =
        let given = of_a_place h node rows asked (grind (arith, nat_tests)) (look h (node_revision (Some node)) (node_path (Some node))) refl in
        record { there = given.there; all = given.all }
    by false past = record { there = grind (arith, nat_tests); all = no_revision_said node }
