-- The close of a directory: what was said of it is done, and its baton goes.
use Rattle.std.proofs.Common.{◌≡◌, ◌≢◌, ℕ, Bool, true, false, cond, ◌&&◌, not, List, [], ◌∷◌, ◌++◌, refl, sym, ◌∙◌, ap, subst, true≢false}
use Rattle.std.proofs.lemmas.Option.{none-some, same_Some}
use Rattle.std.specs.Prelude.{Option, Some, None, Result, Ok, Err, OnOk, IfErr, is_some, filter_map}
use Rattle.std.specs.List.{cons_option}
use Rattle.std.proofs.lemmas.Bool.{eq-eqb, ne_eqb}
use Rattle.std.proofs.lemmas.Map.Keys.{any_passes_from_place}
use Rattle.svn_lists.proofs.Results.{at_ok, ok_by}
use Rattle.svn_types.specs.declared.kind.Kind.{Kind}
use Rattle.svn_types.specs.declared.kind.Kind.TheVariants.{File, Directory}
use Rattle.svn_types.specs.Names.{Path}
use Rattle.svn_types.specs.PathKeys.{path_key}
use Rattle.svn_types.specs.Paths.{path_eq}
use Rattle.svn_types.specs.Props.{PropChange}
use Rattle.svn_pool.specs.Pools.{Entry, Pools, pool_at, parent_of, strings_of_pool}
use Rattle.svn_editor.specs.declared.call.Call.{Call}
use Rattle.svn_editor.specs.declared.call.Call.TheVariants.{CloseDirectory, ApplyText}
use Rattle.svn_editor.specs.declared.fault.EditFault.{EditFault}
use Rattle.svn_editor.specs.declared.fault.EditFault.TheVariants.{Memory, TooLong}
use Rattle.svn_editor.specs.Calls.{Given, kind_eq, number_eq, given_by, named_by, given, is_closed, all_given, path_of, is_abort}
use Rattle.svn_editor.specs.Calls.{is_open_in, closes}
use Rattle.svn_editor.specs.declared.mode.Mode.{Mode}
use Rattle.svn_editor.specs.declared.mode.Mode.TheVariants.{Update}
use Rattle.svn_editor.specs.Steps.{Action, Change, Text, Close, Step, steps_of, target_of}
use Rattle.svn_editor.specs.Order.{order_fault}
use Rattle.svn_editor.proofs.Accepted.{IsAccepted, accepted}
use Rattle.svn_order.proofs.Sound.{IsKnown, known}
use Rattle.svn_order.proofs.Lawful.{sound}
use Rattle.svn_model.specs.declared.base_node.BaseNode.{BaseNode}
use Rattle.svn_edit.specs.declared.baton.Baton.{Baton}
use Rattle.svn_edit.specs.declared.pending.Pending.{Pending}
use Rattle.svn_serials.specs.Serials.{get}
use Rattle.svn_serials.proofs.Pairs.{Updates}
use Rattle.svn_edit.specs.declared.baton.Note.{Note}
use Rattle.law_copy.proofs.Appending.{next_target}
use Rattle.law_copy.proofs.OnePath.{noted, pathed}
use Rattle.svn_model.specs.Nodes.{WorkingCopy, get_in}
use Rattle.svn_model.specs.Effects.{change_in, changes_at, closed_directory, is_too_long, step_fault, step_effect, effect, edit_fault}
use Rattle.svn_model.specs.Said.{says, said_at}
use Rattle.svn_edit.specs.Noted.{note_of, strings_of}
use Rattle.svn_edit.specs.Applying.{Applied, BatonSaid, BatonNoted, KeepsTarget, batons_of, is_open, IsBaton, BatonGone, IsLeaf, Says, Holds}
use Rattle.svn_edit.specs.Applying.{IsNext, BatonMap}
use Rattle.svn_model.specs.Answering.{AnswersCall}
use Rattle.law_copy.proofs.StepEffects.{effect_alone, effect_none}
use Rattle.svn_edit.proofs.HeldBatons.{held_leaf, held_gone, held_noted}
use Rattle.svn_edit.proofs.Holding.{holds_by, applied_some}

-- what the steps on a path bring of one kind, what is said of it brings
pub among_said : {B : Type 0} (f : Action → Option B) (p : Path) (at : List Step → List B) → at [] ≡ []
    → ((s : Step) (steps : List Step) → at (s ∷ steps) ≡ cond (path_eq s.path p) (cons_option (f s.action) (at steps)) (at steps))
    → ((a : Action) → says a ≡ false → f a ≡ None) → (steps : List Step) → filter_map f (said_at p steps) ≡ at steps
among_said f p at none more quiet [] = sym none
among_said f p at none more quiet (s ∷ steps) =
    by (path_eq s.path p) (says s.action) refl (among_said f p at none more quiet steps) ∙ sym (more s steps)
  where
    by : (b c : Bool) → says s.action ≡ c → filter_map f (said_at p steps) ≡ at steps
        → filter_map f (cond (b && c) (s.action ∷ said_at p steps) (said_at p steps))
        ≡ cond b (cons_option (f s.action) (at steps)) (at steps)
    by false c e ih = ih
    by true true e ih = ap (cons_option (f s.action)) ih
    by true false e ih = ih ∙ sym (ap (λ o. cons_option o (at steps)) (quiet s.action e))

-- the changes on a path are among what is said
pub changes_are : (p : Path) (steps : List Step) → filter_map change_in (said_at p steps) ≡ changes_at p steps
changes_are p = among_said change_in p (changes_at p) refl (λ s steps. refl) quiet
  where
    quiet : (a : Action) → says a ≡ false → change_in a ≡ None
    quiet (Change k x) h = absurd (true≢false h)
    quiet _ h = refl

module _ (edit : Pending) (calls : List Call) (c d : Call) (m : ℕ) (k : Kind) (is : d ≡ c) (next : IsNext edit calls d)
    (going : is_abort c ≡ false) (named : named_by c ≡ Some (m, k)) where
  pub next_accepted : IsAccepted calls c
  next_accepted = accepted calls c going (ap (order_fault calls) (sym is) ∙ next.in_order)

  -- the token that a call names is open
  pub named_known : IsKnown calls m k
  named_known = known calls c m k next_accepted named

  -- and has a baton
  pub named_baton : (b : Baton) × (batons_of edit m ≡ Some b) × IsBaton edit.pools (batons_of edit) calls m b
  named_baton = by (batons_of edit m) refl
    where
      is_open_now : is_open calls m ≡ true
      is_open_now = λ i. is_some (named_known.is i) && not (named_known.unclosed i)

      by : (o : Option Baton) → batons_of edit m ≡ o → (b : Baton) × (batons_of edit m ≡ Some b)
          × IsBaton edit.pools (batons_of edit) calls m b
      by None e = absurd (true≢false (sym is_open_now ∙ sym (next.holds.batons.opened m) ∙ ap is_some e))
      by (Some b) e = (b, e, next.holds.batons.each m b e)

pub says_of : (pools : Pools) (at : ℕ → Option Baton) (calls : List Call) (t : ℕ) (b : Baton) → IsBaton pools at calls t b
    → Says b pools (said_at (path_of calls t) (steps_of calls))
says_of pools at calls t b is = record {
  notes = is.notes;
  first = path_key (path_of calls t);
  strings = ap strings_of_pool is.pool;
  text =
      is.text;
}

-- a call that closes a token, below which no directory is open
pub gone_holds : (old new : Pending) (calls : List Call) (c d : Call) (t : ℕ) (k : Kind) → d ≡ c → IsNext old calls d
    → is_abort c ≡ false → named_by c ≡ Some (t, k)
    → next_target (target_of calls) c ≡ target_of calls → given_by c ≡ None → noted c ≡ None → closes t c ≡ true
    → ((u : ℕ) → u ≢ t → closes u c ≡ false)
    → ((u : ℕ) (g : Given) → is_open calls u ≡ true → given calls u ≡ Some g → g.kind ≡ Directory → g.parent ≡ Some t → ⊥)
    → KeepsTarget old new
    → ((b : Baton) (e : Entry) → batons_of old t ≡ Some b → pool_at old.pools b.pool.0 ≡ Some e → IsLeaf old.pools b.pool.0
    → b.pool.0 ≢ old.pools.root → BatonGone t b old.pools (batons_of old) new.pools (batons_of new))
    → Holds new (calls ++ d ∷ [])
gone_holds old new calls c d t k is next going named still gives says shut others none_below keeps gone =
    holds_by old new calls c d is next keeps still
    (held_gone old.pools (batons_of old) calls c t baton.0 next.holds.batons none_below baton.1
    (sound calls next.lawful) gives says shut others new.pools (batons_of new)
    (gone baton.0 _ baton.1 baton.2.pool (held_leaf old.pools (batons_of old) calls c t baton.0 next.holds.batons none_below baton.1)
    apart))
  where
    baton : (b : Baton) × (batons_of old t ≡ Some b) × IsBaton old.pools (batons_of old) calls t b
    baton = named_baton old calls c d t k is next going named

    apart : baton.0.pool.0 ≢ old.pools.root
    apart e = none-some _ (sym (ap parent_of next.holds.batons.root) ∙ ap (λ s. parent_of (pool_at old.pools s)) (sym e)
        ∙ ap parent_of baton.2.pool)

module _ (old new : Pending) (calls : List Call) (t : ℕ) (d : Call) (is : d ≡ CloseDirectory t)
    (next : IsNext old calls d) where
  baton : (b : Baton) × (batons_of old t ≡ Some b) × IsBaton old.pools (batons_of old) calls t b
  baton = named_baton old calls (CloseDirectory t) d t Directory is next refl refl

  -- what the close does to the copy
  pub close_applied : (checksum : List ℕ → List ℕ) (mode : Mode) (nodes nodes2 : List (Path × BaseNode)) (r : Result (Unit {0}) EditFault)
      → OnOk r ((b : Baton) (said : List Action) → batons_of old t ≡ Some b → Says b old.pools said
      → (p : Path) → get_in nodes2 p ≡ cond (path_eq b.path p) (closed_directory (filter_map change_in said) (get_in nodes b.path))
      (get_in nodes p))
      → IfErr r (λ e. (e ≡ Memory) × (nodes2 ≡ nodes)) → Applied (edit_fault checksum mode calls d nodes)
      (effect mode calls d (get_in nodes)) nodes r nodes2
  close_applied checksum mode nodes nodes2 r closed bad =
      subst (λ (x : Call). Applied (edit_fault checksum mode calls x nodes) (effect mode calls x (get_in nodes)) nodes r nodes2) (sym is)
      (applied_some None (effect mode calls (CloseDirectory t) (get_in nodes)) nodes nodes2 r refl
      (ok_by r (λ ok. done (at_ok r ok closed))) bad)
    where
      at : Path
      at = path_of calls t

      done : ((b : Baton) (said : List Action) → batons_of old t ≡ Some b → Says b old.pools said
          → (p : Path) → get_in nodes2 p ≡ cond (path_eq b.path p) (closed_directory (filter_map change_in said) (get_in nodes b.path))
          (get_in nodes p))
          → (p : Path) → get_in nodes2 p ≡ effect mode calls (CloseDirectory t) (get_in nodes) p
      done f p =
          f baton.0 (said_at at (steps_of calls)) baton.1 (says_of old.pools (batons_of old) calls t baton.0 baton.2) p
          ∙ (λ i. cond (path_eq (baton.2.path i) p) (closed_directory (changes_are at (steps_of calls) i) (get_in nodes (baton.2.path i)))
          (get_in nodes p))
          ∙ sym (effect_alone mode (target_of calls) (steps_of calls) at (Close Directory None) (get_in nodes) (λ o. refl) p)

  -- no directory in it is open
  none_below : (u : ℕ) (g : Given) → is_open calls u ≡ true → given calls u ≡ Some g → g.kind ≡ Directory → g.parent ≡ Some t → ⊥
  none_below u g o e k p =
      true≢false (sym (any_passes_from_place (is_open_in t calls) (all_given calls) u g e below)
      ∙ (next_accepted old calls (CloseDirectory t) d t Directory is next refl refl).none_below)
    where
      number : g.token ≡ u
      number = (sound calls next.lawful).numbered u g e

      unclosed : is_closed calls g.token ≡ false
      unclosed = ap (is_closed calls) number ∙ by (is_closed calls u) (given calls u) o
        where
          by : (b : Bool) (x : Option Given) → (is_some x && not b) ≡ true → b ≡ false
          by true None h = absurd (true≢false (sym h))
          by true (Some x) h = absurd (true≢false (sym h))
          by false x h = refl

      below : is_open_in t calls g ≡ true
      below = (λ i. (kind_eq (k i) Directory && number_eq (p i) (Some t)) && (kind_eq (k i) Directory && not (unclosed i)))
          ∙ (λ i. (eq-eqb t t refl i) && true)

  -- and its baton
  pub close_holds : KeepsTarget old new
      → ((b : Baton) (e : Entry) → batons_of old t ≡ Some b → pool_at old.pools b.pool.0 ≡ Some e → IsLeaf old.pools b.pool.0
      → b.pool.0 ≢ old.pools.root → BatonGone t b old.pools (batons_of old) new.pools (batons_of new))
      → Holds new (calls ++ d ∷ [])
  close_holds keeps gone =
      gone_holds old new calls (CloseDirectory t) d t Directory is next refl refl refl refl refl (eq-eqb t t refl)
      (λ a2 a3. ne_eqb t a2 (λ e. a3 (sym e))) none_below keeps gone

-- ---- a call that is noted

-- what was said of the baton that a look-up returned
pub noted_of : (t u : ℕ) (note : Note) (strings : List (List ℕ)) (x d : Baton) (pools pools2 : Pools) (m n : BatonMap)
    → u ≡ t → Some x ≡ get m u → BatonSaid note strings x pools d pools2 → Updates m n u (Some d) → (b : Baton)
    → get m t ≡ Some b → BatonNoted t b note strings pools (get m) pools2 (get n)
noted_of t u note strings x d pools pools2 m n key lent said updates b there =
    let written = subst (λ k. Updates m n k (Some d)) key updates in
    record {
      baton = d;
      said = subst (λ (y : Baton). BatonSaid note strings y pools d pools2) (same_Some x b (lent ∙ ap (get m) key ∙ there)) said;
      token = written.here;
      tokens = written.away;
    }

pub applied_same : (fault : Option EditFault) (w : WorkingCopy) (nodes : List (Path × BaseNode)) (r : Result (Unit {0}) EditFault)
    → AnswersCall fault r → ((p : Path) → get_in nodes p ≡ w p) → Applied fault w nodes r nodes
applied_same fault w nodes (Ok done) h same = (h, same)
applied_same fault w nodes (Err e) h same = (h, refl)

pub note_holds : (old new : Pending) (calls : List Call) (c d : Call) (m : ℕ) (k : Kind) (act : Action) → d ≡ c
    → IsNext old calls d → is_abort c ≡ false → named_by c ≡ Some (m, k)
    → next_target (target_of calls) c ≡ target_of calls → given_by c ≡ None → noted c ≡ Some (m, act)
    → ((t : ℕ) → closes t c ≡ false) → KeepsTarget old new
    → ((b : Baton) → batons_of old m ≡ Some b → BatonNoted m b (note_of act) (strings_of act) old.pools (batons_of old) new.pools
    (batons_of new))
    → Holds new (calls ++ d ∷ [])
note_holds old new calls c d m k act is next going named still gives says shut keeps notes =
    let b = named_baton old calls c d m k is next going named in
    holds_by old new calls c d is next keeps still
    (held_noted old.pools (batons_of old) calls c m act b.0 next.holds.batons
    (pathed calls next.lawful) gives says shut b.1 new.pools (batons_of new) (notes b.0 b.1))

-- a change of a property does nothing yet
pub change_applied : (checksum : List ℕ → List ℕ) (mode : Mode) (edit : Pending) (calls : List Call) (c d : Call) (m : ℕ) (k : Kind)
    (x : PropChange) (nodes : List (Path × BaseNode)) (r : Result (Unit {0}) EditFault) → d ≡ c
    → edit_fault checksum mode calls c nodes ≡ step_fault checksum mode (steps_of calls) (get_in nodes) (path_of calls m) (Change k x)
    → effect mode calls c (get_in nodes) ≡ step_effect mode (target_of calls) (steps_of calls)
    (record { path = path_of calls m; action = Change k x }) (get_in nodes)
    → AnswersCall (cond (is_too_long x.1) (Some TooLong) None) r → Applied (edit_fault checksum mode calls d nodes)
    (effect mode calls d (get_in nodes)) nodes r nodes
change_applied checksum mode edit calls c d m k x nodes r is faults effects answers =
    subst (λ (y : Call). Applied (edit_fault checksum mode calls y nodes) (effect mode calls y (get_in nodes)) nodes r nodes) (sym is)
    (applied_same (edit_fault checksum mode calls c nodes) (effect mode calls c (get_in nodes)) nodes r
    (subst (λ (f : Option EditFault). AnswersCall f r) (sym faults) answers)
    (λ p. effect_none mode (target_of calls) (steps_of calls) (path_of calls m) (Change k x) (get_in nodes) (λ o. refl) refl p
    ∙ sym (ap (λ (v : WorkingCopy). v p) effects)))

pub text_applied : (checksum : List ℕ → List ℕ) (mode : Mode) (edit : Pending) (calls : List Call) (t : ℕ) (sum : Option (List ℕ))
    (text : List ℕ) (d : Call) (nodes : List (Path × BaseNode)) (r : Result (Unit {0}) EditFault)
    → d ≡ ApplyText t sum text → IsNext edit calls d
    → ((b : Baton) → batons_of edit t ≡ Some b → AnswersCall (step_fault checksum Update [] (get_in nodes) b.path (Text sum text)) r)
    → Applied (edit_fault checksum mode calls d nodes) (effect mode calls d (get_in nodes)) nodes r nodes
text_applied checksum mode edit calls t sum text d nodes r is next answers =
    let b = named_baton edit calls (ApplyText t sum text) d t File is next refl refl in
    subst (λ (y : Call). Applied (edit_fault checksum mode calls y nodes) (effect mode calls y (get_in nodes)) nodes r nodes) (sym is)
    (applied_same _ (effect mode calls (ApplyText t sum text) (get_in nodes)) nodes r
    (subst (λ (p : Path). AnswersCall (step_fault checksum Update [] (get_in nodes) p (Text sum text)) r) b.2.path (answers b.0 b.1))
    (effect_none mode (target_of calls) (steps_of calls) (path_of calls t) (Text sum text) (get_in nodes) (λ o. refl) refl))
