-- A call of an applier keeps the copy in its shape, whatever the call and its result.
use Rattle.std.proofs.Common.{◌≡◌, ◌≢◌, ℕ, Bool, true, refl, List, [], ◌∷◌, ◌++◌, sym, ap, subst, ◌∙◌}
use Rattle.std.specs.Prelude.{Result, Ok, Err, OnOk, OnErr, IfErr}
use Rattle.std.specs.BTreeMap.{BTreeMap}
use Rattle.std.specs.Coded.{Coded-set, coded_bool, le_prop}
use Rattle.md5.specs.Md5.{md5}
use Rattle.svn_types.specs.Names.{Path, IsName}
use Rattle.svn_editor.specs.declared.call.Call.{Call}
use Rattle.svn_editor.specs.declared.call.Call.TheVariants.{AbortEdit}
use Rattle.svn_editor.specs.declared.fault.EditFault.{EditFault}
use Rattle.svn_editor.specs.declared.fault.EditFault.TheVariants.{Memory}
use Rattle.svn_editor.specs.Calls.{is_last, is_abort}
use Rattle.svn_editor.specs.declared.mode.Mode.{Mode}
use Rattle.svn_editor.specs.declared.mode.Mode.TheVariants.{Update}
use Rattle.svn_model.specs.declared.base_node.BaseNode.{BaseNode}
use Rattle.svn_model.specs.Nodes.{WorkingCopy, get_in, IsWorkingCopy}
use Rattle.svn_model.specs.Effects.{effect, refusal}
use Rattle.svn_model.specs.Answering.{AnswersCall, WantsInOrder}
use Rattle.law_copy.specs.Laws.{OpensNamed}
use Rattle.law_copy.proofs.Shape.{shaped_first}
use Rattle.svn_edit.specs.declared.edit.Edit.{Edit}
use Rattle.svn_edit.specs.declared.edit.Stage.{Stage}
use Rattle.svn_edit.specs.declared.edit.Stage.TheVariants.{Going, Refused, Ended}
use Rattle.svn_edit.specs.Leaving.{PoolsAfter}
use Rattle.svn_edit.specs.Applying.{StandsAfter, HasEnded, IsRefused, StaysRefused, StaysEnded, LeavesRefused}
use Rattle.svn_edit.proofs.ShapedCalls.{shaped_call}
use Rattle.law_copy.proofs.Appending.{after-more}
use Rattle.svn_wc.specs.Taking.{TakesCall, GoesOn, IsInShape, IncompleteAreOpen}
use Rattle.svn_wc.specs.Unswitched.{IsLevel}
use Rattle.svn_wc.proofs.Completing.{open_more, level_open}

-- ---- the shape is a proposition

IsName-prop : (n : List ℕ) (a b : IsName n) → a ≡ b
IsName-prop n a b i = record {
  not_empty = le_prop a.not_empty b.not_empty i;
  not_dots = Coded-set coded_bool _ _ a.not_dots b.not_dots i;
  bounded = le_prop a.bounded b.bounded i;
  plain = Coded-set coded_bool _ _ a.plain b.plain i;
}

pub IsWorkingCopy-prop : (w : WorkingCopy) (a b : IsWorkingCopy w) → a ≡ b
IsWorkingCopy-prop w a b i = record {
  root = Coded-set coded_bool _ _ a.root b.root i;
  parents = λ p name some. Coded-set coded_bool _ _ (a.parents p name some) (b.parents p name some) i;
  names = λ p name some. IsName-prop name (a.names p name some) (b.names p name some) i;
  repos_paths = λ p present. le_prop (a.repos_paths p present) (b.repos_paths p present) i;
  paths = λ p present. le_prop (a.paths p present) (b.paths p present) i;
}

-- ---- no call yet

pub begun_in_shape : (mode : Mode) (was_level : Bool) (edit : Edit) (nodes : List (Path × BaseNode)) → (was_level ≡ true → IsLevel (get_in nodes))
    → StandsAfter mode (get_in nodes) edit nodes [] → IsWorkingCopy (get_in nodes) → IsInShape mode was_level edit nodes
begun_in_shape mode was_level edit nodes level begun shape going = record {
  start = get_in nodes;
  calls = [];
  stands = begun;
  shape = shaped_first mode (get_in nodes) shape;
  opened = λ was. level_open (get_in nodes) (level was);
}

-- ---- one call

-- what an edit's call says, of the nodes within a copy
pub taken : (mode : Mode) (answer : Result (Unit {0}) EditFault) (old new : Edit) (m m' : BTreeMap Path BaseNode) (c : Call) → OpensNamed c
    → ((w0 : WorkingCopy) (calls : List Call) → StandsAfter mode w0 old m.entries calls
    → AnswersCall (refusal md5 mode calls c m.entries) answer)
    → ((w0 : WorkingCopy) (calls : List Call) → StandsAfter mode w0 old m.entries calls → WantsInOrder calls c answer)
    → OnOk answer ((w0 : WorkingCopy) (calls : List Call) → StandsAfter mode w0 old m.entries calls
    → StandsAfter mode w0 new m'.entries (calls ++ c ∷ []))
    → OnErr answer ((w0 : WorkingCopy) (calls : List Call) → StandsAfter mode w0 old m.entries calls → m'.entries ≡ m.entries)
    → LeavesRefused old.stage answer new
    → (IsRefused old → StaysRefused c answer new × (m' ≡ m))
    → (HasEnded old → StaysEnded old answer new × (m' ≡ m))
    → PoolsAfter mode old m.entries c answer new
    → (is_last c ≡ true → mode ≡ Update → IfErr answer (λ e. e ≢ Memory))
    → (is_abort c ≡ true → IfErr answer (λ e. e ≢ Memory))
    → TakesCall mode old m.entries c answer new m'.entries
taken mode answer old new m m' c named answers in_order accepted refused dead was_refused ended pools last abort = record {
  answers = answers;
  in_order = in_order;
  accepted = accepted;
  shape = shaped_call mode answer old new m.entries m'.entries c named accepted answers;
  refused = refused;
  dead = dead;
  was_refused = λ h. let r = was_refused h in (r.0, ap (λ (x : BTreeMap Path BaseNode). x.entries) r.1);
  ended = λ h. let r = ended h in (r.0, ap (λ (x : BTreeMap Path BaseNode). x.entries) r.1);
  pools = pools;
  last = last;
  abort = abort;
}

not_going : (mode : Mode) (was_level : Bool) (edit : Edit) (stage : Stage) → edit.stage ≡ stage → stage ≢ Going → (nodes : List (Path × BaseNode))
    → IsInShape mode was_level edit nodes
not_going mode was_level edit stage is other nodes going = absurd (other (sym is ∙ going))

ended_otherwise : Ended ≢ Going
ended_otherwise e = cc

refused_otherwise : Refused ≢ Going
refused_otherwise e = cc

refused_still : (mode : Mode) (was_level : Bool) (c : Call) (answer : Result (Unit {0}) EditFault) (new : Edit) → StaysRefused c answer new
    → (nodes : List (Path × BaseNode)) → IsInShape mode was_level new nodes
refused_still mode was_level AbortEdit answer new h nodes = not_going mode was_level new Ended h.1 ended_otherwise nodes
refused_still mode was_level _ answer new h nodes = not_going mode was_level new Refused h.1 refused_otherwise nodes

module _ (mode : Mode) (was_level : Bool) (old new : Edit) (w w' : List (Path × BaseNode)) (c : Call) (named : OpensNamed c) where
  -- the edit goes on
  module _ (accepted : (w0 : WorkingCopy) (calls : List Call) → StandsAfter mode w0 old w calls
      → StandsAfter mode w0 new w' (calls ++ c ∷ []))
      (answers : (w0 : WorkingCopy) (calls : List Call) → StandsAfter mode w0 old w calls
      → AnswersCall (refusal md5 mode calls c w) (Ok tt)) where
    gone_on : GoesOn mode was_level old w → GoesOn mode was_level new w'
    gone_on g = record {
      start = g.start;
      calls = g.calls ++ c ∷ [];
      stands = accepted g.start g.calls g.stands;
      shape = shaped_call mode (Ok tt) old new w w' c named accepted answers g.start g.calls g.stands g.shape;
      opened = λ was.
          let stands = accepted g.start g.calls g.stands in
          subst (λ (v : WorkingCopy). IncompleteAreOpen v (g.calls ++ c ∷ []))
          (ap (effect mode g.calls c) (λ i p. g.stands.copy p i) ∙ sym (after-more mode g.start g.calls c) ∙ (λ i p. sym (stands.copy p) i))
          (open_more md5 mode w g.calls c g.stands.order.lawful (answers g.start g.calls g.stands) (g.opened was));
    }

  pub kept : (answer : Result (Unit {0}) EditFault) → TakesCall mode old w c answer new w' → IsInShape mode was_level old w
      → IsWorkingCopy (get_in w) → IsInShape mode was_level new w' × IsWorkingCopy (get_in w')
  kept answer takes shape before = by old.stage refl answer takes
    where
      same : w' ≡ w → IsWorkingCopy (get_in w')
      same e = subst (λ (nodes : List (Path × BaseNode)). IsWorkingCopy (get_in nodes)) (sym e) before

      by : (stage : Stage) → old.stage ≡ stage → (answer : Result (Unit {0}) EditFault) → TakesCall mode old w c answer new w'
          → IsInShape mode was_level new w' × IsWorkingCopy (get_in w')
      by Going is (Ok done) t = let g = gone_on t.accepted t.answers (shape is) in (λ going. g, g.shape.shape)
      by Going is (Err e) t =
          let g = shape is in
          let dead : LeavesRefused Going (Err e) new = subst (λ (s : Stage). LeavesRefused s (Err e) new) is t.dead in
          (not_going mode was_level new Refused dead refused_otherwise w', same (t.refused g.start g.calls g.stands))
      by Refused is answer t = let r = t.was_refused is in (refused_still mode was_level c answer new r.0 w', same r.1)
      by Ended is answer t =
          let r = t.ended is in (not_going mode was_level new Ended (ap (λ (e : Edit). e.stage) r.0.1 ∙ is) ended_otherwise w', same r.1)
