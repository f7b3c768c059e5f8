-- What is made of a record is never refused as a read fault, which is a reader's alone.
use Rattle.std.proofs.Common.{◌≡◌, ℕ, Bool, true, false, cond, not, List, [], ◌∷◌, ◌++◌, length, Option, Some, None, Result, Ok, Err, refl, sym, ap, ◌∙◌, true≢false}
use Rattle.std.specs.Prelude.{is_some, nat_lt}
use Rattle.md5.specs.Md5.{md5}
use Rattle.sha1.specs.Sha1.{sha1}
use Rattle.svndiff.specs.declared.fault.SvndiffFault.{SvndiffFault}
use Rattle.svndiff.specs.Results.{renamed}
use Rattle.svndiff.specs.Deltas.{text_of}
use Rattle.svn_types.specs.declared.kind.Kind.{Kind}
use Rattle.svn_types.specs.declared.kind.Kind.TheVariants.{File, Directory}
use Rattle.svn_types.specs.Limits.{size_limit}
use Rattle.svn_types.specs.Names.{Path}
use Rattle.svn_types.specs.Props.{PropChange}
use Rattle.svn_repo.specs.declared.change.Change.{Change}
use Rattle.svn_repo.specs.declared.change.Change.TheVariants.{MakeDir, PutFile, Remove, CopyFrom}
use Rattle.svn_repo.specs.declared.change.CommitFault.{CommitFault}
use Rattle.svn_repo.specs.declared.change.CommitFault.TheVariants as commit
use Rattle.svn_repo.specs.History.{History}
use Rattle.svn_repo.specs.Changes.{change_fault}
use Rattle.svn_repo.specs.Transactions.{text_or_empty}
use Rattle.svn_dump.specs.declared.fault.Reason.{Reason}
use Rattle.svn_dump.specs.declared.fault.Reason.TheVariants.{WrongBaseMd5, WrongBaseSha1, WrongMd5, WrongSha1}
use Rattle.svn_dump.specs.declared.fault.DumpFault.{DumpFault}
use Rattle.svn_dump.specs.declared.fault.DumpFault.TheVariants as dump
use Rattle.svn_dump.specs.declared.record.Action.{Action}
use Rattle.svn_dump.specs.declared.record.Action.TheVariants as actions
use Rattle.svn_dump.specs.declared.record.CopySource.{CopySource}
use Rattle.svn_dump.specs.declared.record.NodeRecord.{NodeRecord}
use Rattle.svn_dump.specs.declared.record.PropSection.{PropSection}
use Rattle.svn_dump.specs.declared.record.Record.{Record}
use Rattle.svn_dump.specs.declared.record.Record.TheVariants.{Other, Revision, Node}
use Rattle.svn_dump.specs.declared.record.TextDelta.{TextDelta}
use Rattle.svn_dump.specs.declared.record.TextSection.{TextSection}
use Rattle.svn_dump.specs.declared.record.TextSection.TheVariants as text
use Rattle.svn_dump.specs.declared.sections.Texts.{Texts}
use Rattle.svn_dump.specs.Reading.{FailsWith}
use Rattle.svn_dump.specs.Sections.{is_given_as}
use Rattle.svn_history.specs.declared.fault.LoadFault.{LoadFault}
use Rattle.svn_history.specs.declared.fault.LoadFault.TheVariants as faults
use Rattle.svn_history.specs.Results.{◌>>=◌, of_dump, of_commit}
use Rattle.svn_history.specs.Steps.{Draft, with_changes, Changes, Step, unless, refused, one, ◌>>◌}
use Rattle.svn_history.specs.Deltas.{decoded, checked, checked_base, text_after}
use Rattle.svn_history.specs.Changes.{at, props_or_none, prop_changes, put_text, put_props, set_prop, set_props, altered_props, alter_props, text_of_file, new_file, creation, addition, alteration, removal, record_changes}
use Rattle.svn_history.specs.Parts.{is_open, node_changes, RefusesRecord, revision_limit, may_begin, next_fault, RefusesNext, bad_number, in_gap}

abbrev is_read_fault : LoadFault → Bool
is_read_fault (faults.Dump dump.Read) = true
is_read_fault e = false

abbrev has_read_fault : {A : Type 0} → Result A LoadFault → Bool
has_read_fault (Ok x) = false
has_read_fault (Err e) = is_read_fault e

abbrev HasNone : {A : Type 0} → Result A LoadFault → Type 0
HasNone made = has_read_fault made ≡ false

then_none : {A B : Type 0} (first : Result A LoadFault) (more : A → Result B LoadFault) → HasNone first → ((x : A) → HasNone (more x))
    → HasNone (first >>= more)
then_none (Ok x) more h k = k x
then_none (Err e) more h k = h

-- ---- texts

checked_none : {A : Type 0} (a b : Bool) (e f : Reason) (x : A)
    → HasNone (cond a (Err (faults.Dump (dump.Refused e))) (cond b (Err (faults.Dump (dump.Refused f))) (Ok x)))
checked_none true b e f x = refl
checked_none false true e f x = refl
checked_none false false e f x = refl

decoded_none : (r : Result (List ℕ) SvndiffFault) → HasNone (renamed faults.Delta r)
decoded_none (Ok bytes) = refl
decoded_none (Err e) = refl

delta_none : (base : List ℕ) (delta : TextDelta) → HasNone (text_after base delta)
delta_none base delta =
    then_none (checked_base delta base) (λ b. decoded b delta.delta >>= checked delta)
    (checked_none (not (is_given_as delta.base_md5 (md5 base))) (not (is_given_as delta.base_sha1 (sha1 base))) WrongBaseMd5 WrongBaseSha1 base)
    (λ b. then_none (decoded b delta.delta) (checked delta) (decoded_none (text_of b delta.delta size_limit))
    (λ bytes. checked_none (not (is_given_as delta.md5 (md5 bytes))) (not (is_given_as delta.sha1 (sha1 bytes))) WrongMd5 WrongSha1 bytes))

-- ---- steps

abbrev NeverFailsSo : Step → Type 0
NeverFailsSo step = (d : Draft) → HasNone (step d)

commit_none : (e : CommitFault) → is_read_fault (of_commit e) ≡ false
commit_none commit.Memory = refl
commit_none e = refl

one_none : (c : Change) → NeverFailsSo (one c)
unfolding one
one_none c d = by (change_fault d.history d.pending c)
  where
    by : (f : Option CommitFault) → HasNone (unless f c)
    by None = refl
    by (Some e) = commit_none e

next_none : (first next : Step) → NeverFailsSo first → NeverFailsSo next → NeverFailsSo (first >> next)
unfolding ◌>>◌
next_none first next h k d =
    let after : List Change → List Change → Changes = λ made more. Ok (made ++ more) in
    then_none (first d) (λ made. next (with_changes d made) >>= after made) (h d)
    (λ made. then_none (next (with_changes d made)) (after made) (k (with_changes d made)) (λ more. refl))

text_none : (path : Path) (section : Option TextSection) → NeverFailsSo (put_text path section)
text_none path None d = refl
text_none path (Some (text.Whole bytes)) d = one_none (PutFile path bytes) d
text_none path (Some (text.Delta delta)) d =
    then_none (text_after (text_or_empty (at d path)) delta) (λ bytes. one (PutFile path bytes) d)
    (delta_none (text_or_empty (at d path)) delta) (λ bytes. one_none (PutFile path bytes) d)

props_none : (path : Path) (changes : List PropChange) → NeverFailsSo (set_props path changes)
props_none path [] d = refl
props_none path (c ∷ changes) d =
    next_none (one (set_prop path c)) (set_props path changes) (one_none (set_prop path c)) (props_none path changes) d

section_none : (path : Path) (section : Option PropSection) → NeverFailsSo (put_props path section)
section_none path section d = props_none path (prop_changes (props_or_none (at d path)) section) d

altered_none : (path : Path) (section : Option PropSection) → NeverFailsSo (alter_props path section)
altered_none path section d = props_none path (altered_props (props_or_none (at d path)) section) d

file_none : (texts : Texts) (node : NodeRecord) → NeverFailsSo (new_file texts node)
file_none texts node d = by (is_some (at d node.path))
  where
    by : (b : Bool) → HasNone (cond b (Err (faults.Commit commit.Exists)) (put_text node.path (Some (text_of_file texts node.text)) d))
    by true = refl
    by false = text_none node.path (Some (text_of_file texts node.text)) d

creation_none : (texts : Texts) (path : Path) (source : Option CopySource) (kind : Option Kind) (action : Action)
    (props : Option PropSection) (section : Option TextSection)
    → NeverFailsSo (creation texts (record { path = path; kind = kind; action = action; source = source; props = props; text = section }))
creation_none texts path (Some source) kind action props section d =
    next_none (one (CopyFrom source.rev source.path path)) (put_text path section) (one_none (CopyFrom source.rev source.path path))
    (text_none path section) d
creation_none texts path None (Some Directory) action props section d =
    next_none (one (MakeDir path)) (put_text path section) (one_none (MakeDir path)) (text_none path section) d
creation_none texts path None (Some File) action props section d =
    file_none texts (record { path = path; kind = Some File; action = action; source = None; props = props; text = section }) d
creation_none texts path None None action props section d = refl

addition_none : (texts : Texts) (node : NodeRecord) → NeverFailsSo (addition texts node)
addition_none texts node =
    next_none (creation texts node) (put_props node.path node.props)
    (creation_none texts node.path node.source node.kind node.action node.props node.text) (section_none node.path node.props)

alteration_none : (node : NodeRecord) → NeverFailsSo (alteration node)
alteration_none node d = by (is_some (at d node.path))
  where
    by : (b : Bool) → HasNone (cond (not b) (Err (faults.Commit commit.Missing))
        ((put_text node.path node.text >> alter_props node.path node.props) d))
    by false = refl
    by true =
        next_none (put_text node.path node.text) (alter_props node.path node.props) (text_none node.path node.text)
        (altered_none node.path node.props) d

action_none : (texts : Texts) (path : Path) (action : Action) (source : Option CopySource) (kind : Option Kind)
    (props : Option PropSection) (section : Option TextSection)
    → NeverFailsSo (record_changes texts (record { path = path; kind = kind; action = action; source = source; props = props; text = section }))
unfolding record_changes
action_none texts path actions.Add source kind props section =
    addition_none texts (record { path = path; kind = kind; action = actions.Add; source = source; props = props; text = section })
action_none texts path actions.Change source kind props section =
    alteration_none (record { path = path; kind = kind; action = actions.Change; source = source; props = props; text = section })
action_none texts path actions.Delete source kind props section = one_none (Remove path)
action_none texts path actions.Replace source kind props section =
    let node : NodeRecord =
    record { path = path; kind = kind; action = actions.Replace; source = source; props = props; text = section } in
    next_none (removal path) (addition texts node) (one_none (Remove path)) (addition_none texts node)

node_none : (texts : Texts) (rev : Option ℕ) (n : NodeRecord) → NeverFailsSo (node_changes texts rev n)
node_none texts rev n d = by (is_open rev)
  where
    by : (b : Bool) → HasNone (cond b (record_changes texts n) (refused faults.NoRevision) d)
    by true = action_none texts n.path n.action n.source n.kind n.props n.text d
    by false = refl

-- ---- what a loader refuses

fails_none : {A : Type 0} (made : Result A LoadFault) → HasNone made → made ≡ Err (faults.Dump dump.Read) → ⊥
fails_none made none is = true≢false (sym (ap has_read_fault is) ∙ none)

-- a record
pub no_record_fault : (texts : Texts) (rev : Option ℕ) (what : Record) (d : Draft) → RefusesRecord texts rev what d (faults.Dump dump.Read) → ⊥
no_record_fault texts rev Other d why = why
no_record_fault texts rev (Node n) d why = fails_none (node_changes texts rev n d) (node_none texts rev n d) why
no_record_fault texts rev (Revision number) d why = why

number_fault : (rev : Option ℕ) (count number : ℕ) → next_fault rev count (Some number) ≡ Some (faults.Dump dump.Read) → ⊥
number_fault rev count number e = by (nat_lt revision_limit number) (may_begin rev count number) e
  where
    by : (a b : Bool) → cond a (Some faults.TooManyRevisions) (cond b None (Some faults.NotRising)) ≡ Some (faults.Dump dump.Read) → ⊥
    by true b e = cc
    by false true e = cc
    by false false e = cc

-- the next revision
pub no_next_fault : (rev next : Option ℕ) (ended h : History) → RefusesNext rev next ended (faults.Dump dump.Read) h → ⊥
no_next_fault rev None ended h (bad_number why same) = cc
no_next_fault rev (Some number) ended h (bad_number why same) = number_fault rev (length ended.roots) number why
no_next_fault rev next ended h (in_gap number is may commits within memory) = cc

-- what a dump's reader refuses is a read fault only where it failed
pub dump_failed : (fault : DumpFault) (old new : Bool) → FailsWith {X = Option Record} old new (Err fault)
    → of_dump fault ≡ faults.Dump dump.Read → new ≡ true
dump_failed dump.Read old new h is = h
dump_failed (dump.Refused reason) old new h is = absurd (cc)
dump_failed dump.Memory old new h is = absurd (cc)
