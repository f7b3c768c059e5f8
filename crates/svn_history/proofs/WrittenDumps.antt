-- What is written of commits, read and loaded.
use Rattle.std.proofs.Common.{◌≡◌, ℕ, ◌+◌, ◌^◌, ◌<◌, ◌≤◌, List, [], ◌∷◌, ◌++◌, length, map, Some, Ok, refl, subst, sym, ap, ◌∙◌, arith, append_assoc, append-nil}
use Rattle.std.specs.List.{All, flat_map}
use Rattle.std.proofs.lemmas.Grind.{flat_map-append}
use Rattle.std.proofs.lemmas.List.Elements.{All-cons, All-nil, All-head, All-tail}
use Rattle.svn_repo.specs.declared.change.Change.{Change}
use Rattle.svn_repo.specs.Changes.{IsCommit, IsRevision}
use Rattle.svn_repo.specs.History.{History}
use Rattle.svn_repo.specs.Laws.{NodesExist}
use Rattle.svn_repo.proofs.Meanings.{exist_after}
use Rattle.svn_dump.specs.declared.record.NodeRecord.{NodeRecord}
use Rattle.svn_dump.specs.declared.record.Record.{Record}
use Rattle.svn_dump.specs.declared.record.Record.TheVariants.{Revision, Node}
use Rattle.svn_dump.specs.declared.sections.Limits.{Limits}
use Rattle.svn_dump.specs.declared.sections.Texts.{Texts}
use Rattle.svn_dump.specs.declared.sections.Texts.TheVariants.{Whole}
use Rattle.svn_dump.specs.Records.{format_at}
use Rattle.svn_dump.specs.Written.{written, revision_record, format_record}
use Rattle.law_dump.specs.Laws.{IsWritable, IsWritableRecord, IsReadAs, written_record, dumps_are_read_back}
use Rattle.svn_history.specs.Steps.{Draft, begun, with_changes, IsMade}
use Rattle.svn_history.specs.Changes.{revision_changes}
use Rattle.svn_history.specs.Loading.{Revisions, ReadsNodes, no_record, one_node, RevisionsAt, last_revision, one_more, IsDump, empty_dump, some_revisions, no_commit as no_empty, Loads, loads_nothing, revision_0 as loads_0, one_revision, LoadsDump}
use Rattle.svn_history.specs.Writing.{records_of}
use Rattle.svn_history.specs.WrittenDumps.{commit_bytes, AreWritable, Writes, no_commit, revision_0, one_commit, WrittenDumpsLoad}
use Rattle.svn_history.proofs.Reloading.{written_commits_load}
use Rattle.svn_history.proofs.SameHistories.{dumps_load_as_one}

-- ---- the records of revisions

abbrev records : Revisions → List Record
records [] = []
records (r ∷ rs) = Revision r.0 ∷ map Node r.1 ++ records rs

bytes_of_nodes : (nodes : List NodeRecord) → flat_map written_record (map Node nodes) ≡ flat_map written nodes
bytes_of_nodes [] = refl
bytes_of_nodes (n ∷ nodes) = ap (λ (l : List ℕ). written n ++ l) (bytes_of_nodes nodes)

bytes_of_one : (r : ℕ × List NodeRecord) (rs : Revisions) → flat_map written_record (records (r ∷ rs))
    ≡ (revision_record r.0 ++ flat_map written r.1) ++ flat_map written_record (records rs)
bytes_of_one r rs =
    ap (λ (l : List ℕ). revision_record r.0 ++ l)
    (flat_map-append written_record (map Node r.1) (records rs)
    ∙ ap (λ (l : List ℕ). l ++ flat_map written_record (records rs)) (bytes_of_nodes r.1))
    ∙ sym (append_assoc (revision_record r.0) (flat_map written r.1) (flat_map written_record (records rs)))

bytes_more : (rs : Revisions) (r : ℕ × List NodeRecord) → flat_map written_record (records (rs ++ r ∷ []))
    ≡ flat_map written_record (records rs) ++ (revision_record r.0 ++ flat_map written r.1)
bytes_more [] r = bytes_of_one r [] ∙ append-nil (revision_record r.0 ++ flat_map written r.1)
bytes_more (q ∷ rs) r =
    bytes_of_one q (rs ++ r ∷ [])
    ∙ ap (λ (l : List ℕ). (revision_record q.0 ++ flat_map written q.1) ++ l) (bytes_more rs r)
    ∙ sym (append_assoc (revision_record q.0 ++ flat_map written q.1) (flat_map written_record (records rs)) (revision_record r.0 ++ flat_map written r.1))
    ∙ ap (λ (l : List ℕ). l ++ (revision_record r.0 ++ flat_map written r.1)) (sym (bytes_of_one q rs))

-- ---- commits, the first one first

data Commits (limits : Limits) : History → Revisions → History → Type 0 where
  end : {h : History} → Commits limits h [] h
  first_0 : {h h' : History} {rs : Revisions} → Commits limits h rs h' → Commits limits h ((0, []) ∷ rs) h'
  first : {h h' : History} {rs : Revisions} (mid : History) (changes : List Change) → IsCommit h mid changes → AreWritable limits h changes
      → Commits limits mid rs h' → Commits limits h ((length h.roots, records_of (begun h) changes) ∷ rs) h'

last : (limits : Limits) (h mid h' : History) (rs : Revisions) (changes : List Change) → Commits limits h rs mid → IsCommit mid h' changes
    → AreWritable limits mid changes → Commits limits h (rs ++ (length mid.roots, records_of (begun mid) changes) ∷ []) h'
last limits h mid h' rs changes end commit writable = first h' changes commit writable end
last limits h mid h' rs changes (first_0 {rs = more} commits) commit writable = first_0 (last limits h mid h' more changes commits commit writable)
last limits h mid h' rs changes (first {rs = more} next some is fit commits) commit writable =
    first next some is fit (last limits next mid h' more changes commits commit writable)

record WrittenOf (limits : Limits) (h : History) (bytes : List ℕ) (h' : History) : Type 0 where
  pub revisions : Revisions
  pub commits : Commits limits h revisions h'
  pub bytes_are : bytes ≡ flat_map written_record (records revisions)

written_of : (limits : Limits) (h h' : History) (bytes : List ℕ) → Writes limits h bytes h' → WrittenOf limits h bytes h'
written_of limits h h' bytes no_commit = record { revisions = []; commits = end; bytes_are = refl }
written_of limits h h' bytes revision_0 =
    record { revisions = (0, []) ∷ []; commits = first_0 end; bytes_are = sym (append-nil (revision_record 0)) }
written_of limits h h' bytes (one_commit {bytes = before} mid changes writes commit writable) =
    let so_far = written_of limits h mid before writes in
    let one : ℕ × List NodeRecord = (length mid.roots, records_of (begun mid) changes) in
    record {
      revisions = so_far.revisions ++ one ∷ [];
      commits = last limits h mid h' so_far.revisions changes so_far.commits commit writable;
      bytes_are =
          ap (λ (l : List ℕ). l ++ commit_bytes mid changes) so_far.bytes_are
          ∙ sym (bytes_more so_far.revisions one);
    }

-- ---- they can be written

grown : (h h' : History) (changes : List Change) → IsCommit h h' changes → length h'.roots ≡ length h.roots + 1
grown h h' changes commit = (let is = commit.1 in is.revisions)

not_fewer : (limits : Limits) (h h' : History) (rs : Revisions) → Commits limits h rs h' → length h.roots ≤ length h'.roots
not_fewer limits h h' rs end = omega arith
not_fewer limits h h' rs (first_0 {rs = more} commits) = not_fewer limits h h' more commits
not_fewer limits h h' rs (first {rs = more} mid changes commit fit commits) =
    let one = grown h mid changes commit in let rest = not_fewer limits mid h' more commits in omega (arith, one, rest)

all_nodes : (limits : Limits) (nodes : List NodeRecord) (rest : List Record) → All (IsWritable limits Whole) nodes
    → All (IsWritableRecord limits Whole) rest → All (IsWritableRecord limits Whole) (map Node nodes ++ rest)
all_nodes limits [] rest h k = k
all_nodes limits (n ∷ nodes) rest h k =
    All-cons (IsWritableRecord limits Whole) (Node n) (map Node nodes ++ rest) (All-head (IsWritable limits Whole) n nodes h)
    (all_nodes limits nodes rest (All-tail (IsWritable limits Whole) n nodes h) k)

all_records : (limits : Limits) (h h' : History) (rs : Revisions) → Commits limits h rs h' → length h'.roots ≤ 2 ^ 64
    → All (IsWritableRecord limits Whole) (records rs)
all_records limits h h' rs end small = All-nil (IsWritableRecord limits Whole)
all_records limits h h' rs (first_0 {rs = more} commits) small =
    All-cons (IsWritableRecord limits Whole) (Revision 0) (records more) (omega arith) (all_records limits h h' more commits small)
all_records limits h h' rs (first {rs = more} mid changes commit fit commits) small =
    let one = grown h mid changes commit in
    let rest = not_fewer limits mid h' more commits in
    let number : length h.roots < 2 ^ 64 = omega (arith, one, rest, small) in
    let nodes = records_of (begun h) changes in
    All-cons (IsWritableRecord limits Whole) (Revision (length h.roots)) (map Node nodes ++ records more) number
    (all_nodes limits nodes (records more) fit (all_records limits mid h' more commits small))

-- ---- they are read as a dump

record NodesRead (limits : Limits) (texts : Texts) (start : List ℕ) (nodes : List NodeRecord) (rest : List Record) : Type 0 where
  pub mid : List ℕ
  pub reads : ReadsNodes limits texts start nodes mid
  pub after : IsReadAs limits texts mid rest

nodes_read : (limits : Limits) (texts : Texts) (start : List ℕ) (done nodes : List NodeRecord) (bytes : List ℕ) (rest : List Record)
    → ReadsNodes limits texts start done bytes → IsReadAs limits texts bytes (map Node nodes ++ rest)
    → NodesRead limits texts start (done ++ nodes) rest
nodes_read limits texts start done [] bytes rest reads h =
    record { mid = bytes; reads = subst (λ (l : List NodeRecord). ReadsNodes limits texts start l bytes) (sym (append-nil done)) reads; after = h }
nodes_read limits texts start done (n ∷ nodes) bytes rest reads h =
    subst (λ (l : List NodeRecord). NodesRead limits texts start l rest) (append_assoc done (n ∷ []) nodes)
    (nodes_read limits texts start (done ++ n ∷ []) nodes h.0 rest (one_node bytes n reads h.1) h.2)

revisions_read : (limits : Limits) (texts : Texts) (rev : ℕ) (nodes : List NodeRecord) (rs : Revisions) (bytes : List ℕ)
    → IsReadAs limits texts bytes (map Node nodes ++ records rs) → RevisionsAt limits texts rev bytes ((rev, nodes) ∷ rs)
revisions_read limits texts rev nodes [] bytes h =
    let read = nodes_read limits texts bytes [] nodes bytes [] no_record h in
    last_revision nodes [] (record { mid = read.mid; reads = read.reads; next_is = read.after })
revisions_read limits texts rev nodes (r ∷ rs) bytes h =
    let read = nodes_read limits texts bytes [] nodes bytes (records (r ∷ rs)) no_record h in
    let after = read.after in
    one_more nodes r.0 after.0 (record { mid = read.mid; reads = read.reads; next_is = after.1 })
    (revisions_read limits texts r.0 r.1 rs after.0 after.2)

dump_read : (limits : Limits) (texts : Texts) (rs : Revisions) (bytes : List ℕ) → IsReadAs limits texts bytes (records rs)
    → IsDump limits texts bytes rs
dump_read limits texts [] bytes h = empty_dump [] (record { mid = bytes; reads = no_record; next_is = h })
dump_read limits texts (r ∷ rs) bytes h =
    some_revisions r.0 h.0 (record { mid = bytes; reads = no_record; next_is = h.1 }) (revisions_read limits texts r.0 r.1 rs h.0 h.2)

-- ---- they are loaded

same_commit : (h h' : History) (changes : List Change) → IsCommit h h' changes
    → IsMade (revision_changes Whole (records_of (begun h) changes)) (begun h) (with_changes (begun h) changes)
    → (cs : List Change) × (revision_changes Whole (records_of (begun h) changes) (begun h) ≡ Ok cs) × IsCommit h h' cs
same_commit h h' changes commit m = (
  m.changes,
  m.made,
  (m.no_fault, subst (λ (d : Draft). IsRevision h h' d.pending) m.after commit.1),
)

loaded : (limits : Limits) (h h' : History) (rs : Revisions) → Commits limits h rs h' → NodesExist h → 1 ≤ length h.roots
    → Loads Whole h rs h'
loaded limits h h' rs end exist some = loads_nothing
loaded limits h h' rs (first_0 {rs = more} commits) exist some = loads_0 (loaded limits h h' more commits exist some)
loaded limits h h' rs (first {rs = more} mid changes commit fit commits) exist some =
    let is = same_commit h mid changes commit (written_commits_load (begun h) changes commit.0) in
    let one = grown h mid changes commit in
    one_revision h mid is.0 (omega (arith, some)) (record { commits = no_empty; size = refl }) is.1 is.2
    (loaded limits mid h' more commits (exist_after h mid changes exist commit)
    (omega (arith, one)))

-- ---- all of it

pub written_dumps_load : dumps_are_read_back → WrittenDumpsLoad
written_dumps_load read_back limits format h h' bytes least most room exist some small writes =
    let from = written_of limits h h' bytes writes in
    let rs = from.revisions in
    let read = read_back limits Whole format (records rs) least most room (all_records limits h h' rs from.commits small) in
    let there = subst (λ (l : List ℕ). (format_at limits (format_record format ++ l) ≡ Ok (format, l)) × IsReadAs limits Whole l (records rs))
    (sym from.bytes_are) (read.0, read.1) in
    let loads : LoadsDump limits Whole (Some bytes) h h' = record {
      revisions = rs;
      bytes = dump_read limits Whole rs bytes there.1;
      loads = loaded limits h h' rs from.commits exist some;
    } in
    (there.0, loads, λ other again. dumps_load_as_one limits Whole bytes h h' other exist loads again)
