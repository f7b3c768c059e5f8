-- The close of a file: its text is checked, what was said of it is done, and its baton goes.
use Rattle.std.proofs.Common.{◌≡◌, ◌≢◌, ℕ, Bool, true, false, cond, List, [], ◌∷◌, ◌++◌, refl, sym, ◌∙◌, ap, subst, true≢false}
use Rattle.std.specs.Prelude.{Option, Some, None, Result, Ok, Err, OnOk, OnErr, filter_map}
use Rattle.md5.specs.Md5.{md5}
use Rattle.std.proofs.lemmas.Bool.{eq-eqb, ne_eqb}
use Rattle.svn_lists.proofs.Results.{OnErr_then, OnOk_then, ok_by, OnErr_from}
use Rattle.svn_types.specs.declared.kind.Kind.TheVariants.{File, Directory}
use Rattle.svn_types.specs.Names.{Path}
use Rattle.svn_types.specs.Paths.{path_eq}
use Rattle.svn_types.specs.Props.{PropChange}
use Rattle.svn_pool.specs.Pools.{Entry, pool_at}
use Rattle.svn_editor.specs.declared.call.Call.{Call}
use Rattle.svn_editor.specs.declared.call.Call.TheVariants.{CloseFile}
use Rattle.svn_editor.specs.declared.fault.EditFault.{EditFault}
use Rattle.svn_editor.specs.Calls.{Given, given, path_of, is_of_kind}
use Rattle.svn_editor.specs.declared.mode.Mode.{Mode}
use Rattle.svn_editor.specs.Steps.{Action, Text, Close, Step, steps_of, target_of}
use Rattle.svn_order.proofs.Sound.{other_kind}
use Rattle.svn_types.proofs.PathLemmas.{same_path}
use Rattle.svn_model.specs.declared.base_node.BaseNode.{BaseNode}
use Rattle.svn_model.specs.Nodes.{WorkingCopy, get_in}
use Rattle.svn_model.specs.Effects.{change_in, text_in, texts_at, closed_file, moved_path, joined_path, effect, edit_fault}
use Rattle.svn_model.specs.Said.{says, said_at}
use Rattle.svn_model.specs.Answering.{AnswersCall}
use Rattle.law_copy.proofs.OnePath.{pathed}
use Rattle.law_copy.proofs.StepEffects.{effect_alone}
use Rattle.svn_edit.specs.declared.baton.Baton.{Baton}
use Rattle.svn_edit.specs.declared.pending.Pending.{Pending}
use Rattle.svn_nodes.specs.NodeTests.{sum_fault, FileIsClosed}
use Rattle.svn_edit.specs.Applying.{Applied, KeepsTarget, batons_of, is_open, IsBaton, BatonGone, IsLeaf, Says, Holds, IsNext}
use Rattle.svn_edit.specs.Closing.{ClosesFile}
use Rattle.svn_edit.proofs.Closes.{among_said, changes_are, named_known, named_baton, says_of, gone_holds}

-- the texts on a path are among what is said
pub texts_are : (p : Path) (steps : List Step) → filter_map text_in (said_at p steps) ≡ texts_at p steps
texts_are p = among_said text_in p (texts_at p) refl (λ s steps. refl) quiet
  where
    quiet : (a : Action) → says a ≡ false → text_in a ≡ None
    quiet (Text sum x) h = absurd (true≢false h)
    quiet _ h = refl

-- the file at a path is closed where it is
pub node_closed : (mode : Mode) (rev : ℕ) (at p : Path) (changes : List PropChange) (texts : List (List ℕ))
    (nodes nodes2 : List (Path × BaseNode)) (old new : BaseNode) → at ≡ p → Some old ≡ get_in nodes at
    → Some new ≡ closed_file rev (moved_path mode (get_in nodes) at) (joined_path (get_in nodes) at) changes texts (Some old)
    → ((q : Path) → get_in nodes2 q ≡ cond (path_eq at q) (Some new) (get_in nodes q))
    → FileIsClosed mode rev p changes texts nodes nodes2
node_closed mode rev at p changes texts nodes nodes2 old new same there closed written =
    let w = get_in nodes in
    subst (λ (x : Path). FileIsClosed mode rev x changes texts nodes nodes2) same
    (λ q. written q ∙ ap (λ (v : Option BaseNode). cond (path_eq at q) v (w q))
    (closed ∙ ap (closed_file rev (moved_path mode w at) (joined_path w at) changes texts) there))

-- where nothing is, the close of a file changes nothing
pub nothing_closed : (mode : Mode) (rev : ℕ) (at p : Path) (changes : List PropChange) (texts : List (List ℕ))
    (nodes nodes2 : List (Path × BaseNode)) → at ≡ p → None ≡ get_in nodes at → nodes2 ≡ nodes
    → FileIsClosed mode rev p changes texts nodes nodes2
nothing_closed mode rev at p changes texts nodes nodes2 same none kept q =
    ap (λ ns. get_in ns q) kept ∙ by (path_eq p q) refl
  where
    w : WorkingCopy
    w = get_in nodes

    closed : Option BaseNode → Option BaseNode
    closed = closed_file rev (moved_path mode w p) (joined_path w p) changes texts

    here : None ≡ w p
    here = none ∙ ap w same

    by : (b : Bool) → path_eq p q ≡ b → w q ≡ cond b (closed (w p)) (w q)
    by false e = refl
    by true e = ap w (sym (same_path p q e)) ∙ sym here ∙ ap closed here

-- what is at the path of a baton is closed there
pub node_closes : (mode : Mode) (edit : Pending) (b : Baton) (sum : Option (List ℕ)) (at : Path) (nodes nodes2 : List (Path × BaseNode)) (old new : BaseNode)
    (r : Result (Unit {0}) EditFault) → at ≡ b.path → Some old ≡ get_in nodes at
    → ((said : List Action) → Says b edit.pools said → AnswersCall (sum_fault md5 sum (filter_map text_in said) (Some old)) r)
    → OnOk r ((said : List Action) → Says b edit.pools said → Some new ≡ closed_file edit.target
    (moved_path mode (get_in nodes) at) (joined_path (get_in nodes) at) (filter_map change_in said)
    (filter_map text_in said) (Some old))
    → OnErr r (new ≡ old) → ((q : Path) → get_in nodes2 q ≡ cond (path_eq at q) (Some new) (get_in nodes q))
    → (new ≡ old → nodes2 ≡ nodes) → ClosesFile mode edit b sum nodes r nodes2
node_closes mode edit b sum at nodes nodes2 old new r same there answers closed refused written kept = record {
  answers = λ said s. subst (λ (o : Option BaseNode). AnswersCall (sum_fault md5 sum (filter_map text_in said) o) r)
      (there ∙ ap (get_in nodes) same) (answers said s);
  closed = OnOk_then r closed (λ f said s. node_closed mode edit.target at b.path (filter_map change_in said)
      (filter_map text_in said) nodes nodes2 old new same there (f said s) written);
  refused = OnErr_then r refused kept;
}

-- where nothing is, nothing changes
pub nothing_closes : (mode : Mode) (edit : Pending) (b : Baton) (sum : Option (List ℕ)) (at : Path) (nodes nodes2 : List (Path × BaseNode))
    (r : Result (Unit {0}) EditFault) → at ≡ b.path → None ≡ get_in nodes at → nodes2 ≡ nodes
    → ((said : List Action) → Says b edit.pools said → AnswersCall (sum_fault md5 sum (filter_map text_in said) None) r)
    → ClosesFile mode edit b sum nodes r nodes2
nothing_closes mode edit b sum at nodes nodes2 r same none kept h = record {
  answers = λ said s. subst (λ (o : Option BaseNode). AnswersCall (sum_fault md5 sum (filter_map text_in said) o) r)
      (none ∙ ap (get_in nodes) same) (h said s);
  closed = ok_by r (λ ok said s. nothing_closed mode edit.target at b.path (filter_map change_in said)
      (filter_map text_in said) nodes nodes2 same none kept);
  refused = OnErr_from r kept;
}

applied_parts : (fault : Option EditFault) (w : WorkingCopy) (nodes nodes2 : List (Path × BaseNode)) (r : Result (Unit {0}) EditFault)
    → AnswersCall fault r
    → OnOk r ((p : Path) → get_in nodes2 p ≡ w p) → OnErr r (nodes2 ≡ nodes) → Applied fault w nodes r nodes2
applied_parts fault w nodes nodes2 (Ok done) h f g = (h, f)
applied_parts fault w nodes nodes2 (Err e) h f g = (h, g)

module _ (old new : Pending) (calls : List Call) (t : ℕ) (sum : Option (List ℕ)) (d : Call) (is : d ≡ CloseFile t sum)
    (next : IsNext old calls d) where
  baton : (b : Baton) × (batons_of old t ≡ Some b) × IsBaton old.pools (batons_of old) calls t b
  baton = named_baton old calls (CloseFile t sum) d t File is next refl refl

  -- what the close does to the copy
  pub file_applied : (mode : Mode) (nodes nodes2 : List (Path × BaseNode)) (r : Result (Unit {0}) EditFault)
      → ((b : Baton) → batons_of old t ≡ Some b → ClosesFile mode old b sum nodes r nodes2)
      → Applied (edit_fault md5 mode calls d nodes) (effect mode calls d (get_in nodes)) nodes r nodes2
  file_applied mode nodes nodes2 r closes =
      subst (λ (x : Call). Applied (edit_fault md5 mode calls x nodes) (effect mode calls x (get_in nodes)) nodes r nodes2) (sym is)
      (applied_parts _ _ nodes nodes2 r answered (OnOk_then r h.closed done) h.refused)
    where
      h : ClosesFile mode old baton.0 sum nodes r nodes2
      h = closes baton.0 baton.1

      at : Path
      at = path_of calls t

      said : Says baton.0 old.pools (said_at at (steps_of calls))
      said = says_of old.pools (batons_of old) calls t baton.0 baton.2

      answered : AnswersCall (sum_fault md5 sum (texts_at at (steps_of calls)) (get_in nodes at)) r
      answered =
          subst (λ (l : List (List ℕ)). AnswersCall (sum_fault md5 sum l (get_in nodes at)) r) (texts_are at (steps_of calls))
          (subst (λ (p : Path). AnswersCall (sum_fault md5 sum (filter_map text_in (said_at at (steps_of calls))) (get_in nodes p)) r)
          baton.2.path (h.answers (said_at at (steps_of calls)) said))

      done : ((said : List Action) → Says baton.0 old.pools said → FileIsClosed mode old.target baton.0.path
          (filter_map change_in said) (filter_map text_in said) nodes nodes2)
          → (p : Path) → get_in nodes2 p ≡ effect mode calls (CloseFile t sum) (get_in nodes) p
      done f p =
          f (said_at at (steps_of calls)) said p
          ∙ (λ i. cond (path_eq (baton.2.path i) p)
          (closed_file (next.holds.target i) (moved_path mode (get_in nodes) (baton.2.path i))
          (joined_path (get_in nodes) (baton.2.path i)) (changes_are at (steps_of calls) i) (texts_are at (steps_of calls) i)
          (get_in nodes (baton.2.path i)))
          (get_in nodes p))
          ∙ sym (effect_alone mode (target_of calls) (steps_of calls) at (Close File sum) (get_in nodes) (λ o. refl) p)

  -- no directory is open below a file
  none_below : (u : ℕ) (g : Given) → is_open calls u ≡ true → given calls u ≡ Some g → g.kind ≡ Directory → g.parent ≡ Some t → ⊥
  none_below u g o e k p =
      let x = named_known old calls (CloseFile t sum) d t File is next refl refl in
      true≢false (sym ((pathed calls next.lawful).parents u t g e p) ∙ ap (is_of_kind Directory) x.is
      ∙ other_kind x.given_as.kind File Directory x.kind refl)

  -- and its baton
  pub file_holds : KeepsTarget old new
      → ((b : Baton) (e : Entry) → batons_of old t ≡ Some b → pool_at old.pools b.pool.0 ≡ Some e → IsLeaf old.pools b.pool.0
      → b.pool.0 ≢ old.pools.root → BatonGone t b old.pools (batons_of old) new.pools (batons_of new))
      → Holds new (calls ++ d ∷ [])
  file_holds keeps gone =
      gone_holds old new calls (CloseFile t sum) d t File is next refl refl refl refl refl (eq-eqb t t refl)
      (λ a2 a3. ne_eqb t a2 (λ e. a3 (sym e))) none_below keeps gone
