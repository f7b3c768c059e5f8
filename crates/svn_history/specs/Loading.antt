-- A dump, loaded: each revision one commit, and empty commits where its numbers have gaps.
--     NodesAt limits texts bytes nodes next rest      the nodes up to the next revision, or to the end
--     IsDump limits texts bytes revisions      the revisions of a dump
--     Loads texts h revisions h', LoadsDump limits texts left h h'      loading the revisions, or those of a dump, leads from h to h'
use Rattle.std.specs.Prelude.{◌≡◌, ℕ, ◌<◌, List, [], ◌∷◌, ◌++◌, length, Option, Some, None, Ok, MatchOption}
use Rattle.svn_repo.specs.declared.change.Change.{Change}
use Rattle.svn_repo.specs.History.{History}
use Rattle.svn_repo.specs.Changes.{IsCommit}
use Rattle.svn_dump.specs.declared.record.NodeRecord.{NodeRecord}
use Rattle.svn_dump.specs.declared.record.Record.{Record}
use Rattle.svn_dump.specs.declared.record.Record.TheVariants.{Other, Revision, Node}
use Rattle.svn_dump.specs.declared.sections.Limits.{Limits}
use Rattle.svn_dump.specs.declared.sections.Texts.{Texts}
use Rattle.svn_dump.specs.Records.{record_at}
use Rattle.svn_history.specs.Steps.{begun}
use Rattle.svn_history.specs.Changes.{revision_changes}

-- ---- the revisions of a dump

-- a revision's number, and what it does to nodes
abbrev pub Revisions : Type 0
Revisions = List (ℕ × List NodeRecord)

-- records one after another from the bytes on, their nodes, and the bytes after them
pub data ReadsNodes (limits : Limits) (texts : Texts) (bytes : List ℕ) : List NodeRecord → List ℕ → Type 0 where
  no_record : ReadsNodes limits texts bytes [] bytes
  one_node : {nodes : List NodeRecord} {rest : List ℕ} (mid : List ℕ) (node : NodeRecord) → ReadsNodes limits texts bytes nodes mid
      → record_at limits texts mid ≡ Ok (Some (Node node), rest) → ReadsNodes limits texts bytes (nodes ++ node ∷ []) rest
  one_other : {nodes : List NodeRecord} {rest : List ℕ} (mid : List ℕ) → ReadsNodes limits texts bytes nodes mid
      → record_at limits texts mid ≡ Ok (Some Other, rest) → ReadsNodes limits texts bytes nodes rest

abbrev pub beginning : Option ℕ → Option Record
beginning None = None
beginning (Some rev) = Some (Revision rev)

-- the nodes up to the next revision, whose number is given, or up to the end
pub record NodesAt (limits : Limits) (texts : Texts) (bytes : List ℕ) (nodes : List NodeRecord) (next : Option ℕ) (rest : List ℕ) : Type 0
  where
    pub mid : List ℕ
    pub reads : ReadsNodes limits texts bytes nodes mid
    pub next_is : record_at limits texts mid ≡ Ok (beginning next, rest)

-- the revisions from one on that began before the bytes
pub data RevisionsAt (limits : Limits) (texts : Texts) : ℕ → List ℕ → Revisions → Type 0 where
  last_revision : {rev : ℕ} {bytes : List ℕ} (nodes : List NodeRecord) (rest : List ℕ) → NodesAt limits texts bytes nodes None rest
      → RevisionsAt limits texts rev bytes ((rev, nodes) ∷ [])
  one_more : {rev : ℕ} {bytes : List ℕ} {revisions : Revisions} (nodes : List NodeRecord) (next : ℕ) (rest : List ℕ)
      → NodesAt limits texts bytes nodes (Some next) rest → RevisionsAt limits texts next rest revisions
      → RevisionsAt limits texts rev bytes ((rev, nodes) ∷ revisions)

-- no node comes before the first revision
pub data IsDump (limits : Limits) (texts : Texts) : List ℕ → Revisions → Type 0 where
  empty_dump : {bytes : List ℕ} (rest : List ℕ) → NodesAt limits texts bytes [] None rest → IsDump limits texts bytes []
  some_revisions : {bytes : List ℕ} {revisions : Revisions} (first : ℕ) (rest : List ℕ) → NodesAt limits texts bytes [] (Some first) rest
      → RevisionsAt limits texts first rest revisions → IsDump limits texts bytes revisions

-- ---- what loading them makes

pub data EmptyCommits : History → History → Type 0 where
  no_commit : {h : History} → EmptyCommits h h
  one_commit : {h h' : History} (mid : History) → EmptyCommits h mid → IsCommit mid h' [] → EmptyCommits h h'

-- empty commits up to the revision before this
pub record FillsGap (rev : ℕ) (h h' : History) : Type 0 where
  pub commits : EmptyCommits h h'
  pub size : length h'.roots ≡ rev

-- revision 0 is there from the beginning, and has no nodes
pub data Loads (texts : Texts) : History → Revisions → History → Type 0 where
  loads_nothing : {h : History} → Loads texts h [] h
  revision_0 : {h h' : History} {revisions : Revisions} → Loads texts h revisions h' → Loads texts h ((0, []) ∷ revisions) h'
  one_revision : {h h' : History} {rev : ℕ} {nodes : List NodeRecord} {revisions : Revisions} (filled mid : History) (changes : List Change)
      → 0 < rev → FillsGap rev h filled → revision_changes texts nodes (begun filled) ≡ Ok changes → IsCommit filled mid changes
      → Loads texts mid revisions h' → Loads texts h ((rev, nodes) ∷ revisions) h'

-- the bytes are a dump, where they are known, and loading its revisions leads from h to h'
pub record LoadsDump (limits : Limits) (texts : Texts) (left : Option (List ℕ)) (h h' : History) : Type 0 where
  pub revisions : Revisions
  pub bytes : MatchOption left (Unit {0}) (λ bytes. IsDump limits texts bytes revisions)
  pub loads : Loads texts h revisions h'
