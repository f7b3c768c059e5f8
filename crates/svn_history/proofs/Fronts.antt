-- The front of a dump, read record by record.
use Rattle.std.proofs.Common.{◌≡◌, ℕ, List, Option, Some, None, Ok, refl, subst, sym, ap, ◌∙◌, ◌⊎◌, inl, inr}
use Rattle.std.specs.Prelude.{IsSome, MatchOption}
use Rattle.std.specs.Option.{option_or}
use Rattle.svn_dump.specs.declared.record.Record.{Record}
use Rattle.svn_dump.specs.declared.record.Record.TheVariants.{Other, Revision, Node}
use Rattle.svn_dump.specs.declared.reader.Reader.{Reader}
use Rattle.svn_dump.specs.declared.sections.Limits.{Limits}
use Rattle.svn_dump.specs.declared.sections.Texts.{Texts}
use Rattle.svn_dump.specs.Readers.{left_in, Shows}
use Rattle.svn_dump.specs.Reading.{Reads}
use Rattle.svn_dump.specs.Records.{record_at}
use Rattle.svn_history.specs.declared.front.Front.{Front}
use Rattle.svn_history.specs.declared.loader.Loader.{Loader}
use Rattle.svn_history.specs.Steps.{Draft}
use Rattle.svn_history.specs.Loading.{beginning}
use Rattle.svn_history.specs.Parts.{IfKnown, Takes}
use Rattle.svn_history.specs.Fronts.{uuid_in, ReadsFront, no_record, one_record, HasFront, FrontLoaded}
use Rattle.svn_history.proofs.Parts.{known_same, reads_here}

-- the records of the front that were read, where the bytes are known
abbrev pub FrontSoFar : Limits → Texts → Option (List ℕ) → Option (List ℕ) → Option (List ℕ) → Option (List ℕ) → Type 0
FrontSoFar limits texts given left uuid now = IfKnown left now (λ bytes mid. ReadsFront limits texts given bytes uuid mid)

pub front_begins : (limits : Limits) (texts : Texts) (given left : Option (List ℕ)) → FrontSoFar limits texts given left given left
front_begins limits texts given left = known_same left (λ bytes mid. ReadsFront limits texts given bytes given mid) (λ bytes. no_record)

-- of a reader and a UUID that are the same
pub front_on : {R : Type 0} (remaining : R → Option (List ℕ)) (limits : Limits) (texts : Texts) (given left uuid uuid' : Option (List ℕ))
    (records records' : Reader R) → uuid' ≡ uuid → records' ≡ records → FrontSoFar limits texts given left uuid (left_in remaining records)
    → FrontSoFar limits texts given left uuid' (left_in remaining records')
front_on {R} remaining limits texts given left uuid uuid' records records' same same' h =
    subst (λ (u : Option (List ℕ)). FrontSoFar limits texts given left u (left_in remaining records')) (sym same)
    (subst (λ (r : Reader R). FrontSoFar limits texts given left uuid (left_in remaining r)) (sym same') h)

-- before the first revision a record that is taken is no node
pub other_taken : (texts : Texts) (rev : Option ℕ) (what : Record) (d d' : Draft) → rev ≡ None → Takes texts rev what d d' None → what ≡ Other
other_taken texts rev what d d' none taken = by what (subst (λ (r : Option ℕ). Takes texts r what d d' None) none taken)
  where
    by : (w : Record) → Takes texts None w d d' None → w ≡ Other
    by Other t = refl
    by (Node node) t = (let no = t.1.made in absurd (cc))
    by (Revision number) t = (let no : None ≡ Some number = t.0 in absurd (cc))

pub revision_taken : (texts : Texts) (rev : Option ℕ) (what : Record) (d d' : Draft) (number : ℕ) → Takes texts rev what d d' (Some number)
    → what ≡ Revision number
revision_taken texts rev Other d d' number t = (let no : Some number ≡ None = t.0 in absurd (cc))
revision_taken texts rev (Node node) d d' number t = (let no : Some number ≡ None = t.0 in absurd (cc))
revision_taken texts rev (Revision n) d d' number t = cc

module _ (limits limits' : Limits) (texts texts' : Texts) (given left uuid now next : Option (List ℕ))
    (so_far : FrontSoFar limits texts given left uuid now) (same_limits : limits' ≡ limits) (same_texts : texts' ≡ texts)
    (read : Option Record) (reads : Reads (λ r. r) now next (Ok read) (record_at limits' texts')) where
  pub front_more : (taken begun : ℕ) (block : List ℕ) → read ≡ Some Other → Shows limits' taken now begun block
      → FrontSoFar limits texts given left (option_or (uuid_in block) uuid) next
  unfolding Shows
  front_more taken begun block is shown =
      by left now next so_far
      (reads_here limits limits' texts texts' now next same_limits same_texts (Ok read) (Ok (Some Other)) (ap (λ (x : Option Record). Ok x) is) reads)
      (subst (λ (l : Limits). Shows l taken now begun block) same_limits shown)
    where
      by : (l n x : Option (List ℕ)) → FrontSoFar limits texts given l uuid n → Reads (λ r. r) n x (Ok (Some Other)) (record_at limits texts)
          → Shows limits taken n begun block → FrontSoFar limits texts given l (option_or (uuid_in block) uuid) x
      by None n x f r s = tt
      by (Some bytes) None x f r s = absurd f
      by (Some bytes) (Some mid) None f r s = r
      by (Some bytes) (Some mid) (Some rest) f r s =
          subst (λ (b : List ℕ). ReadsFront limits texts given bytes (option_or (uuid_in b) uuid) rest) (sym s.0) (one_record mid f r)

  pub front_ends : (first : Option ℕ) → read ≡ beginning first
      → MatchOption left (Unit {0}) (λ bytes. HasFront limits texts given bytes uuid first)
  front_ends first is =
      by left now next so_far
      (reads_here limits limits' texts texts' now next same_limits same_texts (Ok read) (Ok (beginning first))
      (ap (λ (x : Option Record). Ok x) is) reads)
    where
      by : (l n x : Option (List ℕ)) → FrontSoFar limits texts given l uuid n
          → Reads (λ r. r) n x (Ok (beginning first)) (record_at limits texts)
          → MatchOption l (Unit {0}) (λ bytes. HasFront limits texts given bytes uuid first)
      by None n x f r = tt
      by (Some bytes) None x f r = absurd f
      by (Some bytes) (Some mid) None f r = absurd r
      by (Some bytes) (Some mid) (Some rest) f r = record { mid = mid; reads = f; rest = rest; first_is = r }

-- ---- one revision after another

-- a front that is known stays
pub kept_more : (first now new : Front) → (IsSome first.first → now ≡ first) → (IsSome now.first → new ≡ now) → IsSome first.first → new ≡ first
kept_more first now new so_far kept known =
    kept (subst (λ (f : Front). IsSome f.first) (sym (so_far known)) known) ∙ so_far known

module _ {R : Type 0} (remaining : R → Option (List ℕ)) (first now : Loader R) where
  abbrev pub IsLoaded : Front → Type 0
  IsLoaded front = first.rev ≡ None → first.front.first ≡ None → FrontLoaded remaining first front.uuid front.first

  -- nothing is loaded yet, or the first revision began
  abbrev pub LoadsFront : Type 0
  LoadsFront = (now ≡ first) ⊎ (IsSome now.front.first × IsLoaded now.front)

  pub loads_front : (new : Front) → LoadsFront
      → (now.rev ≡ None → now.front.first ≡ None → FrontLoaded remaining now new.uuid new.first)
      → (IsSome now.front.first → new ≡ now.front) → IsLoaded new
  loads_front new (inl same) loaded kept = λ none unknown.
      subst (λ (l : Loader R). FrontLoaded remaining l new.uuid new.first) same
      (loaded (ap (λ (l : Loader R). l.rev) same ∙ none) (ap (λ (l : Loader R). l.front.first) same ∙ unknown))
  loads_front new (inr done) loaded kept = λ none unknown.
      subst (λ (f : Front). FrontLoaded remaining first f.uuid f.first) (sym (kept done.0)) (done.1 none unknown)
