-- What is written of a change is loaded as the change.
use Rattle.std.proofs.Common.{◌≡◌, ℕ, Bool, true, false, cond, List, [], ◌∷◌, Option, Some, None, Err, refl, ap, ◌∙◌, true≢false}
use Rattle.std.specs.Prelude.{not, is_some, fold}
use Rattle.std.specs.Option.{option_or}
use Rattle.svn_lists.proofs.Options.{option_or_none}
use Rattle.svn_types.specs.Names.{Path}
use Rattle.svn_types.specs.Props.{changes_between}
use Rattle.svn_repo.specs.declared.change.Change.{Change}
use Rattle.svn_repo.specs.declared.change.Change.TheVariants.{MakeDir, PutFile, SetProp, Remove, CopyFrom}
use Rattle.svn_repo.specs.declared.change.CommitFault.{CommitFault}
use Rattle.svn_repo.specs.declared.change.CommitFault.TheVariants.{Exists, Missing}
use Rattle.svn_repo.specs.Walks.{led}
use Rattle.svn_repo.specs.Trees.{Place, Tree, graft, touch, leaf}
use Rattle.svn_repo.specs.Changes.{change_fault, changes_fault, after_change, new_directory, with_text, value_fault, walk_fault, above_fault, missing_fault}
use Rattle.svn_repo.proofs.Thawing.{rest_below_self}
use Rattle.svn_dump.specs.declared.record.NodeRecord.{NodeRecord}
use Rattle.svn_dump.specs.declared.record.PropSection.TheVariants as props
use Rattle.svn_dump.specs.declared.sections.Texts.TheVariants.{Whole}
use Rattle.svn_history.specs.declared.fault.LoadFault.TheVariants as faults
use Rattle.svn_history.specs.Steps.{Draft, with_changes, Changes, Step, nothing, unless, one, ◌>>◌, IsMade}
use Rattle.svn_history.specs.Changes.{at, props_or_none, put_text, put_props, set_props, new_file, creation, record_changes}
use Rattle.svn_history.specs.Writing.{file_record, record_of, records_of}
use Rattle.svn_history.specs.Laws.{WrittenCommitsLoad}
use Rattle.svn_history.proofs.Stepping.{made_then, made_nothing, made_along}
use Rattle.svn_history.proofs.Altering.{made_alteration}

can_make : (d : Draft) (c : Change) → change_fault d.history d.pending c ≡ None → IsMade (one c) d (with_changes d (c ∷ []))
unfolding one
can_make d c e = record {
  changes = c ∷ [];
  made = ap (λ (f : Option CommitFault). unless f c) e;
  no_fault = ap (λ (f : Option CommitFault). option_or f None) e;
  after = refl;
}

graft_self : (t : Tree) (p : Path) (part : Tree) → graft t p part p ≡ part []
graft_self t p part = ap (λ (r : Option Path). led r part (touch t p p)) (rest_below_self p)

no_props : (p : Path) (d : Draft) → IsMade (put_props p None) d d
no_props p d = record { changes = []; made = refl; no_fault = refl; after = refl }

-- a node without properties is given none
empty_props : (p : Path) (d : Draft) → props_or_none (at d p) ≡ [] → IsMade (put_props p (Some (props.Whole []))) d d
empty_props p d e =
    let F : List (List ℕ × List ℕ) → Changes = λ ps. set_props p (changes_between ps []) d in
    record { changes = []; made = ap F e; no_fault = refl; after = refl }

-- ---- one change

made_directory : (d : Draft) (p : Path) → change_fault d.history d.pending (MakeDir p) ≡ None
    → IsMade (record_changes Whole (record_of d (MakeDir p))) d (with_changes d (MakeDir p ∷ []))
unfolding record_changes
made_directory d p e =
    let d1 = with_changes d (MakeDir p ∷ []) in
    let node = record_of d (MakeDir p) in
    made_then (creation Whole node) (put_props p (Some (props.Whole []))) d d1 d1
    (made_then (one (MakeDir p)) (put_text p None) d d1 d1 (can_make d (MakeDir p) e) (made_nothing d1))
    (empty_props p d1 (ap props_or_none (graft_self d.pending.tree p (leaf (new_directory d.pending.lines)))))

removed : (d : Draft) (p : Path) → change_fault d.history d.pending (Remove p) ≡ None
    → IsMade (record_changes Whole (record_of d (Remove p))) d (with_changes d (Remove p ∷ []))
unfolding record_changes
removed d p e = can_make d (Remove p) e

copied : (d : Draft) (rev : ℕ) (source p : Path) → change_fault d.history d.pending (CopyFrom rev source p) ≡ None
    → IsMade (record_changes Whole (record_of d (CopyFrom rev source p))) d (with_changes d (CopyFrom rev source p ∷ []))
unfolding record_changes
copied d rev source p e =
    let c = CopyFrom rev source p in
    let d1 = with_changes d (c ∷ []) in
    made_then (creation Whole (record_of d c)) (put_props p None) d d1 d1
    (made_then (one c) (put_text p None) d d1 d1 (can_make d c e) (made_nothing d1)) (no_props p d1)

new_props : (line : ℕ) (o : Option Place) (bytes : List ℕ) → is_some o ≡ false → (with_text line o bytes).props ≡ []
new_props line None bytes e = refl
new_props line (Some place) bytes e = absurd (true≢false e)

file_by : (d : Draft) (p : Path) (bytes : List ℕ) → change_fault d.history d.pending (PutFile p bytes) ≡ None → (b : Bool)
    → is_some (d.pending.tree p) ≡ b
    → IsMade (record_changes Whole (file_record p bytes (not b))) d (with_changes d (PutFile p bytes ∷ []))
unfolding record_changes
file_by d p bytes e false is =
    let c = PutFile p bytes in
    let d1 = with_changes d (c ∷ []) in
    let node = file_record p bytes true in
    let F : Bool → Changes = λ b. cond b (Err (faults.Commit Exists)) (one c d) in
    made_then (creation Whole node) (put_props p (Some (props.Whole []))) d d1 d1
    (made_along (new_file Whole node) (one c) d d1 (ap F is) (can_make d c e))
    (empty_props p d1
    (ap props_or_none (graft_self d.pending.tree p (leaf (with_text d.pending.lines (d.pending.tree p) bytes)))
    ∙ new_props d.pending.lines (d.pending.tree p) bytes is))
file_by d p bytes e true is =
    let c = PutFile p bytes in
    let d1 = with_changes d (c ∷ []) in
    made_alteration (file_record p bytes false) d d1 d1 is (can_make d c e) (made_nothing d1)

-- ---- one property

there : (o : Option Place) → missing_fault o ≡ None → is_some o ≡ true
there None e = let bad : Some Missing ≡ None = e in cc
there (Some x) e = refl

prop_set : (d : Draft) (p : Path) (name : List ℕ) (value : Option (List ℕ)) → change_fault d.history d.pending (SetProp p name value) ≡ None
    → IsMade (record_changes Whole (record_of d (SetProp p name value))) d (with_changes d (SetProp p name value ∷ []))
unfolding record_changes
prop_set d p name value can =
    let t = d.pending.tree in
    let c = SetProp p name value in
    let d1 = with_changes d (c ∷ []) in
    let walk = option_or_none (value_fault value) (walk_fault t p) can in
    let way = option_or_none (above_fault t p) (missing_fault (t p)) walk.1 in
    made_alteration (record_of d c) d d d1 (there (t p) way.1) (made_nothing d)
    (made_then (one c) nothing d d1 d1 (can_make d c can) (made_nothing d1))

reloaded : (d : Draft) (c : Change) → change_fault d.history d.pending c ≡ None
    → IsMade (record_changes Whole (record_of d c)) d (with_changes d (c ∷ []))
reloaded d (MakeDir p) e = made_directory d p e
reloaded d (PutFile p bytes) e = file_by d p bytes e (is_some (d.pending.tree p)) refl
reloaded d (SetProp p name value) e = prop_set d p name value e
reloaded d (Remove p) e = removed d p e
reloaded d (CopyFrom rev source p) e = copied d rev source p e

-- ---- all changes

all_reloaded : (start d : Draft) (step : Step) (cs : List Change)
    → changes_fault d.history d.pending cs ≡ None → IsMade step start d
    → IsMade (fold (λ (before : Step) (node : NodeRecord). before >> record_changes Whole node) step (records_of d cs)) start
    (with_changes d cs)
all_reloaded start d step [] e h = h
all_reloaded start d step (c ∷ cs) e h =
    let d1 = with_changes d (c ∷ []) in
    let can = option_or_none (change_fault d.history d.pending c) (changes_fault d.history (after_change d.history d.pending c) cs) e in
    all_reloaded start d1 (step >> record_changes Whole (record_of d c)) cs can.1
    (made_then step (record_changes Whole (record_of d c)) start d d1 h (reloaded d c can.0))

pub written_commits_load : WrittenCommitsLoad
written_commits_load d changes e = all_reloaded d d nothing changes e (made_nothing d)
