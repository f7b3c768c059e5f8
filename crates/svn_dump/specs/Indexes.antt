-- The index of a dump: what it says beside its history.
--     date_of index rev, author_of index rev      what the properties of a revision say
--     place_of index sum      where the text with this SHA-1 checksum is
--     rev_after rev what      the revision that began last, after a record
--     NotesCopy rev what old new      the copies after a record: an add or a replace with an earlier source is one more
--     IsNoted found taken old new      what a reader's index is, if it keeps one, after what it read next, when so many bytes were taken
use Rattle.std.specs.Prelude.{◌≡◌, ◌⊎◌, ℕ, ◌-◌, Bool, true, false, ◌&&◌, List, [], ◌∷◌, ◌++◌, nat_lt, Option, Some, None, option_and_then}
use Rattle.std.specs.Ordering.{nat_cmp}
use Rattle.std.specs.Cmp.Lexicographic.{slice_cmp}
use Rattle.std.specs.BTreeMap.{get_by}
use Rattle.svn_dump.specs.declared.record.Action.{Action}
use Rattle.svn_dump.specs.declared.record.Action.TheVariants.{Add, Change, Delete, Replace}
use Rattle.svn_dump.specs.declared.record.CopySource.{CopySource}
use Rattle.svn_dump.specs.declared.record.NodeRecord.{NodeRecord}
use Rattle.svn_dump.specs.declared.record.Record.{Record}
use Rattle.svn_dump.specs.declared.record.Record.TheVariants.{Other, Revision, Node}
use Rattle.svn_dump.specs.declared.copy_note.CopyNote.{CopyNote}
use Rattle.svn_dump.specs.declared.index.DumpIndex.{DumpIndex}
use Rattle.svn_dump.specs.declared.index.TextPlace.{TextPlace}

abbrev pub date_of : DumpIndex → ℕ → Option (List ℕ)
date_of index rev = option_and_then (λ note. note.date) (get_by (nat_cmp rev) index.revisions)

abbrev pub author_of : DumpIndex → ℕ → Option (List ℕ)
author_of index rev = option_and_then (λ note. note.author) (get_by (nat_cmp rev) index.revisions)

abbrev pub place_of : DumpIndex → List ℕ → Option TextPlace
place_of index sum = get_by (slice_cmp nat_cmp sum) index.texts

abbrev pub rev_after : Option ℕ → Record → Option ℕ
rev_after rev Other = rev
rev_after rev (Revision number) = Some number
rev_after rev (Node node) = rev

-- ---- copies

abbrev pub puts : Action → Bool
puts Add = true
puts Change = false
puts Delete = false
puts Replace = true

abbrev pub is_copy : Option ℕ → Action → Option CopySource → Bool
is_copy None action source = false
is_copy (Some rev) action None = false
is_copy (Some rev) action (Some source) = puts action && nat_lt source.rev rev

-- of the revision that began last
pub record IsCopyOf (rev : Option ℕ) (node : NodeRecord) (note : CopyNote) : Type 0 where
  pub rev_is : rev ≡ Some note.rev
  pub path : note.path ≡ node.path
  pub source : node.source ≡ Some note.source

pub data NotesNode (rev : Option ℕ) (node : NodeRecord) (old new : List CopyNote) : Type 0 where
  copy : (note : CopyNote) → is_copy rev node.action node.source ≡ true → IsCopyOf rev node note → new ≡ old ++ note ∷ [] → NotesNode rev node old new
  no_copy : is_copy rev node.action node.source ≡ false → new ≡ old → NotesNode rev node old new

abbrev pub NotesCopy : Option ℕ → Record → List CopyNote → List CopyNote → Type 0
NotesCopy rev Other old new = new ≡ old
NotesCopy rev (Revision number) old new = new ≡ old
NotesCopy rev (Node node) old new = NotesNode rev node old new

-- ---- texts

-- each place that is new is of a text that ends where so many bytes were taken
abbrev pub NotesText : ℕ → DumpIndex → DumpIndex → Type 0
NotesText taken old new =
    (sum : List ℕ) (place : TextPlace) → place_of new sum ≡ Some place → (place_of old sum ≡ Some place) ⊎ (place.begin ≡ taken - place.len)

-- ---- records

pub record NotesRecord (what : Record) (taken : ℕ) (old new : DumpIndex) : Type 0 where
  pub rev : new.rev ≡ rev_after old.rev what
  pub copies : NotesCopy old.rev what old.copies.items new.copies.items
  pub texts : NotesText taken old new

abbrev pub NotedBy : Record → ℕ → Option DumpIndex → Option DumpIndex → Type 0
NotedBy what taken None None = Unit {0}
NotedBy what taken None (Some new) = ⊥
NotedBy what taken (Some old) None = ⊥
NotedBy what taken (Some old) (Some new) = NotesRecord what taken old new

abbrev pub IsNoted : Option Record → ℕ → Option DumpIndex → Option DumpIndex → Type 0
IsNoted None taken old new = new ≡ old
IsNoted (Some what) taken old new = NotedBy what taken old new
