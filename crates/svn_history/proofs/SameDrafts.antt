-- Drafts that are the same but for the numbers of their nodes: the same records make the same changes of them.
--     SameDraft R d e      the same, where R is what the numbers of the one are in the other
--     changed_same      they stay so with a change
--     revision_agrees      the changes that the records of a revision stand for are the same
use Rattle.std.proofs.Common.{◌≡◌, ℕ, Bool, true, false, cond, List, [], ◌∷◌, ◌++◌, Option, Some, None, Result, Ok, Err, refl, sym, ap, ◌∙◌}
use Rattle.std.specs.Prelude.{option_map, is_some, not, fold}
use Rattle.svn_types.specs.declared.kind.Kind.{Kind}
use Rattle.svn_types.specs.declared.kind.Kind.TheVariants.{File, Directory}
use Rattle.svn_types.specs.Names.{Path}
use Rattle.svn_types.specs.Pairs.{with_value}
use Rattle.svn_types.specs.Props.{PropChange}
use Rattle.svn_repo.specs.declared.change.Change.{Change}
use Rattle.svn_repo.specs.declared.change.Change.TheVariants.{MakeDir, PutFile, SetProp, Remove, CopyFrom}
use Rattle.svn_repo.specs.declared.change.CommitFault.{CommitFault}
use Rattle.svn_repo.specs.declared.change.CommitFault.TheVariants.{Exists, Missing}
use Rattle.svn_repo.specs.Walks.{rest_below, led}
use Rattle.svn_repo.specs.Trees.{Place, Tree, tree_at, touched, touch, is_within, graft, leaf, nothing as no_tree, place_with_prop, with_prop}
use Rattle.svn_repo.specs.Changes.{change_fault, new_directory, with_text, lines_after}
use Rattle.svn_repo.specs.Transactions.{text_or_empty}
use Rattle.svn_dump.specs.declared.record.Action.TheVariants as actions
use Rattle.svn_dump.specs.declared.record.Action.{Action}
use Rattle.svn_dump.specs.declared.record.CopySource.{CopySource}
use Rattle.svn_dump.specs.declared.record.NodeRecord.{NodeRecord}
use Rattle.svn_dump.specs.declared.record.PropSection.{PropSection}
use Rattle.svn_dump.specs.declared.record.TextSection.{TextSection}
use Rattle.svn_dump.specs.declared.record.TextSection.TheVariants as text
use Rattle.svn_dump.specs.declared.sections.Texts.{Texts}
use Rattle.svn_history.specs.declared.fault.LoadFault.{LoadFault}
use Rattle.svn_history.specs.declared.fault.LoadFault.TheVariants as faults
use Rattle.svn_history.specs.Results.{◌>>=◌}
use Rattle.svn_history.specs.Steps.{Draft, with_changes, Changes, Step, nothing, refused, unless, one, ◌>>◌}
use Rattle.svn_history.specs.Deltas.{text_after}
use Rattle.svn_history.specs.Changes.{at, put_text, props_or_none, prop_changes, set_prop, set_props, put_props, altered_props, alter_props, new_file, text_of_file, creation, addition, alteration, removal, record_changes, revision_changes}

-- ---- places and trees

abbrev pub SameNumber : (ℕ → ℕ → Type 0) → Option ℕ → Option ℕ → Type 0
SameNumber R None None = Unit {0}
SameNumber R None (Some n) = ⊥
SameNumber R (Some m) None = ⊥
SameNumber R (Some m) (Some n) = R m n

pub record SamePlace (R : ℕ → ℕ → Type 0) (x y : Place) : Type 0 where
  pub line : x.line ≡ y.line
  pub kind : x.kind ≡ y.kind
  pub text : x.text ≡ y.text
  pub props : x.props ≡ y.props
  pub number : SameNumber R x.number y.number

abbrev pub SamePlaces : (ℕ → ℕ → Type 0) → Option Place → Option Place → Type 0
SamePlaces R None None = Unit {0}
SamePlaces R None (Some y) = ⊥
SamePlaces R (Some x) None = ⊥
SamePlaces R (Some x) (Some y) = SamePlace R x y

abbrev pub SameTree : (ℕ → ℕ → Type 0) → Tree → Tree → Type 0
SameTree R t u = (q : Path) → SamePlaces R (t q) (u q)

pub record SameDraft (R : ℕ → ℕ → Type 0) (d e : Draft) : Type 0 where
  pub lines : d.pending.lines ≡ e.pending.lines
  pub tree : SameTree R d.pending.tree e.pending.tree
  pub past : (r : ℕ) → SameTree R (tree_at d.history r) (tree_at e.history r)

module _ (R : ℕ → ℕ → Type 0) where
  touched_same : (o p : Option Place) → SamePlaces R o p → SamePlaces R (option_map touched o) (option_map touched p)
  touched_same None None s = tt
  touched_same None (Some y) s = absurd s
  touched_same (Some x) None s = absurd s
  touched_same (Some x) (Some y) s = record { line = s.line; kind = s.kind; text = s.text; props = s.props; number = tt }

  graft_same : (t u : Tree) (p : Path) (part other : Tree) → SameTree R t u → SameTree R part other
      → SameTree R (graft t p part) (graft u p other)
  graft_same t u p part other old new q = by (rest_below p q)
    where
      by_touch : (b : Bool) → SamePlaces R (cond b (option_map touched (t q)) (t q)) (cond b (option_map touched (u q)) (u q))
      by_touch true = touched_same (t q) (u q) (old q)
      by_touch false = old q

      by : (o : Option Path) → SamePlaces R (led o part (touch t p q)) (led o other (touch u p q))
      by None = by_touch (is_within q p)
      by (Some rest) = new rest

  leaf_same : (x y : Place) → SamePlace R x y → SameTree R (leaf x) (leaf y)
  leaf_same x y s [] = s
  leaf_same x y s (m ∷ q) = tt

  text_same : (l m : ℕ) (o p : Option Place) (bytes : List ℕ) → l ≡ m → SamePlaces R o p
      → SamePlace R (with_text l o bytes) (with_text m p bytes)
  text_same l m None None bytes e s = record { line = e; kind = refl; text = refl; props = refl; number = tt }
  text_same l m None (Some y) bytes e s = absurd s
  text_same l m (Some x) None bytes e s = absurd s
  text_same l m (Some x) (Some y) bytes e s = record { line = s.line; kind = refl; text = refl; props = s.props; number = tt }

  lines_same : (l m : ℕ) (o p : Option Place) → l ≡ m → SamePlaces R o p → lines_after l o ≡ lines_after m p
  lines_same l m None None e s = ap (λ n. lines_after n None) e
  lines_same l m None (Some y) e s = absurd s
  lines_same l m (Some x) None e s = absurd s
  lines_same l m (Some x) (Some y) e s = e

  prop_same : (o p : Option Place) (name : List ℕ) (value : Option (List ℕ)) → SamePlaces R o p
      → SamePlaces R (option_map (place_with_prop name value) o) (option_map (place_with_prop name value) p)
  prop_same None None name value s = tt
  prop_same None (Some y) name value s = absurd s
  prop_same (Some x) None name value s = absurd s
  prop_same (Some x) (Some y) name value s = record {
    line = s.line;
    kind = s.kind;
    text = s.text;
    props = ap (λ (ps : List (List ℕ × List ℕ)). with_value ps name value) s.props;
    number = tt;
  }

  with_prop_same : (t u : Tree) (p : Path) (name : List ℕ) (value : Option (List ℕ)) → SameTree R t u
      → SameTree R (with_prop t p name value) (with_prop u p name value)
  with_prop_same t u p name value s [] = prop_same (t p) (u p) name value (s p)
  with_prop_same t u p name value s (m ∷ q) = s (p ++ m ∷ q)

  -- ---- changes

  pub changed_same : (d e : Draft) (c : Change) → SameDraft R d e → SameDraft R (with_changes d (c ∷ [])) (with_changes e (c ∷ []))
  changed_same d e (MakeDir p) s = record {
    lines = ap (λ n. lines_after n None) s.lines;
    tree = graft_same d.pending.tree e.pending.tree p (leaf (new_directory d.pending.lines)) (leaf (new_directory e.pending.lines)) s.tree
        (leaf_same (new_directory d.pending.lines) (new_directory e.pending.lines)
        (record { line = s.lines; kind = refl; text = refl; props = refl; number = tt }));
    past = s.past;
  }
  changed_same d e (PutFile p bytes) s =
      let x = with_text d.pending.lines (d.pending.tree p) bytes in
      let y = with_text e.pending.lines (e.pending.tree p) bytes in
      record {
        lines = lines_same d.pending.lines e.pending.lines (d.pending.tree p) (e.pending.tree p) s.lines (s.tree p);
        tree = graft_same d.pending.tree e.pending.tree p (leaf x) (leaf y) s.tree
            (leaf_same x y (text_same d.pending.lines e.pending.lines (d.pending.tree p) (e.pending.tree p) bytes s.lines (s.tree p)));
        past = s.past;
      }
  changed_same d e (SetProp p name value) s = record {
    lines = s.lines;
    tree = graft_same d.pending.tree e.pending.tree p (with_prop d.pending.tree p name value) (with_prop e.pending.tree p name value) s.tree
        (with_prop_same d.pending.tree e.pending.tree p name value s.tree);
    past = s.past;
  }
  changed_same d e (Remove p) s = record {
    lines = s.lines;
    tree = graft_same d.pending.tree e.pending.tree p no_tree no_tree s.tree (λ q. tt);
    past = s.past;
  }
  changed_same d e (CopyFrom rev source p) s = record {
    lines = s.lines;
    tree = graft_same d.pending.tree e.pending.tree p (λ q. tree_at d.history rev (source ++ q)) (λ q. tree_at e.history rev (source ++ q)) s.tree
        (λ q. s.past rev (source ++ q));
    past = s.past;
  }

  pub all_changed_same : (d e : Draft) (cs : List Change) → SameDraft R d e → SameDraft R (with_changes d cs) (with_changes e cs)
  all_changed_same d e [] s = s
  all_changed_same d e (c ∷ cs) s = all_changed_same (with_changes d (c ∷ [])) (with_changes e (c ∷ [])) cs (changed_same d e c s)

  -- ---- steps

  -- whatever changes a step makes of both, they are the same
  abbrev pub Agrees : Step → Type 0
  Agrees step = (d e : Draft) → SameDraft R d e → (cs ds : List Change) → step d ≡ Ok cs → step e ≡ Ok ds → cs ≡ ds

  nothing_agrees : Agrees nothing
  nothing_agrees d e s cs ds a b = cc

  refused_agrees : (fault : LoadFault) → Agrees (refused fault)
  refused_agrees fault d e s cs ds a b = absurd (cc)

  one_agrees : (c : Change) → Agrees (one c)
  unfolding one
  one_agrees c d e s cs ds a b = by (change_fault d.history d.pending c) (change_fault e.history e.pending c) a b
    where
      by : (f g : Option CommitFault) → unless f c ≡ Ok cs → unless g c ≡ Ok ds → cs ≡ ds
      by None None a b = cc
      by None (Some g) a b = absurd (cc)
      by (Some f) g a b = absurd (cc)

  record Parts (first next : Step) (d : Draft) (cs : List Change) : Type 0 where
    pub made : List Change
    pub more : List Change
    pub first_is : first d ≡ Ok made
    pub next_is : next (with_changes d made) ≡ Ok more
    pub all_is : cs ≡ made ++ more

  parts : (first next : Step) (d : Draft) (cs : List Change) → (first >> next) d ≡ Ok cs → Parts first next d cs
  unfolding ◌>>◌
  parts first next d cs e = by (first d) refl e
    where
      by_next : (made : List Change) → first d ≡ Ok made → (r : Changes) → next (with_changes d made) ≡ r
          → (r >>= λ more. Ok (made ++ more)) ≡ Ok cs → Parts first next d cs
      by_next made f (Ok more) n e = record { made = made; more = more; first_is = f; next_is = n; all_is = cc }
      by_next made f (Err fault) n e = absurd (cc)

      by : (r : Changes) → first d ≡ r
          → (r >>= λ made. next (with_changes d made) >>= λ more. Ok (made ++ more)) ≡ Ok cs → Parts first next d cs
      by (Ok made) f e = by_next made f (next (with_changes d made)) refl e
      by (Err fault) f e = absurd (cc)

  then_agrees : (first next : Step) → Agrees first → Agrees next → Agrees (first >> next)
  then_agrees first next f n d e s cs ds a b =
      let x = parts first next d cs a in
      let y = parts first next e ds b in
      let made : x.made ≡ y.made = f d e s x.made y.made x.first_is y.first_is in
      let there : next (with_changes e x.made) ≡ Ok y.more = ap (λ (l : List Change). next (with_changes e l)) made ∙ y.next_is in
      let more : x.more ≡ y.more =
      n (with_changes d x.made) (with_changes e x.made) (all_changed_same d e x.made s) x.more y.more x.next_is there in
      x.all_is ∙ (λ i. made i ++ more i) ∙ sym y.all_is

  -- ---- what the steps of records see

  same_texts : (o p : Option Place) → SamePlaces R o p → text_or_empty o ≡ text_or_empty p
  same_texts None None s = refl
  same_texts None (Some y) s = absurd s
  same_texts (Some x) None s = absurd s
  same_texts (Some x) (Some y) s = s.text

  same_props : (o p : Option Place) → SamePlaces R o p → props_or_none o ≡ props_or_none p
  same_props None None s = refl
  same_props None (Some y) s = absurd s
  same_props (Some x) None s = absurd s
  same_props (Some x) (Some y) s = s.props

  delta_agrees : (path : Path) (r : Result (List ℕ) LoadFault) → Agrees (λ d. r >>= λ bytes. one (PutFile path bytes) d)
  delta_agrees path (Ok bytes) d e s cs ds a b = one_agrees (PutFile path bytes) d e s cs ds a b
  delta_agrees path (Err fault) d e s cs ds a b = absurd (cc)

  text_agrees : (path : Path) (section : Option TextSection) → Agrees (put_text path section)
  text_agrees path None d e s cs ds a b = nothing_agrees d e s cs ds a b
  text_agrees path (Some (text.Whole bytes)) d e s cs ds a b = one_agrees (PutFile path bytes) d e s cs ds a b
  text_agrees path (Some (text.Delta delta)) d e s cs ds a b =
      let F : List ℕ → Changes = λ base. text_after base delta >>= λ bytes. one (PutFile path bytes) e in
      delta_agrees path (text_after (text_or_empty (at d path)) delta) d e s cs ds a
      (ap F (same_texts (at d path) (at e path) (s.tree path)) ∙ b)

  props_agree : (path : Path) (changes : List PropChange) → Agrees (set_props path changes)
  props_agree path [] = nothing_agrees
  props_agree path (c ∷ changes) =
      then_agrees (one (set_prop path c)) (set_props path changes) (one_agrees (set_prop path c)) (props_agree path changes)

  section_agrees : (path : Path) (section : Option PropSection) → Agrees (put_props path section)
  section_agrees path section d e s cs ds a b =
      let F : List (List ℕ × List ℕ) → Changes = λ old. set_props path (prop_changes old section) e in
      props_agree path (prop_changes (props_or_none (at d path)) section) d e s cs ds a
      (ap F (same_props (at d path) (at e path) (s.tree path)) ∙ b)

  altered_agrees : (path : Path) (section : Option PropSection) → Agrees (alter_props path section)
  altered_agrees path section d e s cs ds a b =
      let F : List (List ℕ × List ℕ) → Changes = λ old. set_props path (altered_props old section) e in
      props_agree path (altered_props (props_or_none (at d path)) section) d e s cs ds a
      (ap F (same_props (at d path) (at e path) (s.tree path)) ∙ b)

  file_agrees : (texts : Texts) (node : NodeRecord) → Agrees (new_file texts node)
  file_agrees texts node d e s cs ds a b = by (is_some (at d node.path)) (is_some (at e node.path)) a b
    where
      by : (f g : Bool) → cond f (Err (faults.Commit Exists)) (put_text node.path (Some (text_of_file texts node.text)) d) ≡ Ok cs
          → cond g (Err (faults.Commit Exists)) (put_text node.path (Some (text_of_file texts node.text)) e) ≡ Ok ds → cs ≡ ds
      by true g a b = absurd (cc)
      by false true a b = absurd (cc)
      by false false a b = text_agrees node.path (Some (text_of_file texts node.text)) d e s cs ds a b

  creation_agrees : (texts : Texts) (path : Path) (source : Option CopySource) (kind : Option Kind) (action : Action)
      (props : Option PropSection) (section : Option TextSection)
      → Agrees (creation texts (record { path = path; kind = kind; action = action; source = source; props = props; text = section }))
  creation_agrees texts path (Some source) kind action props section =
      then_agrees (one (CopyFrom source.rev source.path path)) (put_text path section) (one_agrees (CopyFrom source.rev source.path path))
      (text_agrees path section)
  creation_agrees texts path None (Some Directory) action props section =
      then_agrees (one (MakeDir path)) (put_text path section) (one_agrees (MakeDir path)) (text_agrees path section)
  creation_agrees texts path None (Some File) action props section =
      file_agrees texts (record { path = path; kind = Some File; action = action; source = None; props = props; text = section })
  creation_agrees texts path None None action props section = refused_agrees faults.NoKind

  addition_agrees : (texts : Texts) (node : NodeRecord) → Agrees (addition texts node)
  addition_agrees texts node =
      then_agrees (creation texts node) (put_props node.path node.props)
      (creation_agrees texts node.path node.source node.kind node.action node.props node.text)
      (section_agrees node.path node.props)

  alteration_agrees : (node : NodeRecord) → Agrees (alteration node)
  alteration_agrees node d e s cs ds a b = by (is_some (at d node.path)) (is_some (at e node.path)) a b
    where
      by : (f g : Bool)
          → cond (not f) (Err (faults.Commit Missing)) ((put_text node.path node.text >> alter_props node.path node.props) d) ≡ Ok cs
          → cond (not g) (Err (faults.Commit Missing)) ((put_text node.path node.text >> alter_props node.path node.props) e) ≡ Ok ds
          → cs ≡ ds
      by false g a b = absurd (cc)
      by true false a b = absurd (cc)
      by true true a b =
          then_agrees (put_text node.path node.text) (alter_props node.path node.props) (text_agrees node.path node.text)
          (altered_agrees node.path node.props) d e s cs ds a b

  record_agrees : (texts : Texts) (path : Path) (action : Action) (source : Option CopySource) (kind : Option Kind)
      (props : Option PropSection) (section : Option TextSection)
      → Agrees (record_changes texts (record { path = path; kind = kind; action = action; source = source; props = props; text = section }))
  unfolding record_changes
  record_agrees texts path actions.Add source kind props section =
      addition_agrees texts (record { path = path; kind = kind; action = actions.Add; source = source; props = props; text = section })
  record_agrees texts path actions.Change source kind props section =
      alteration_agrees (record { path = path; kind = kind; action = actions.Change; source = source; props = props; text = section })
  record_agrees texts path actions.Delete source kind props section = one_agrees (Remove path)
  record_agrees texts path actions.Replace source kind props section =
      let node : NodeRecord =
      record { path = path; kind = kind; action = actions.Replace; source = source; props = props; text = section } in
      then_agrees (removal path) (addition texts node) (one_agrees (Remove path)) (addition_agrees texts node)

  all_agree : (texts : Texts) (nodes : List NodeRecord) (step : Step) → Agrees step
      → Agrees (fold (λ (before : Step) (node : NodeRecord). before >> record_changes texts node) step nodes)
  all_agree texts [] step h = h
  all_agree texts (n ∷ nodes) step h =
      all_agree texts nodes (step >> record_changes texts n)
      (then_agrees step (record_changes texts n) h (record_agrees texts n.path n.action n.source n.kind n.props n.text))

  pub revision_agrees : (texts : Texts) (nodes : List NodeRecord) → Agrees (revision_changes texts nodes)
  revision_agrees texts nodes = all_agree texts nodes nothing nothing_agrees
