-- What a path's actions are, one after the other: perhaps a delete, then an open or an add, its changes, its text and its close.
use Rattle.std.proofs.Common.{◌≡◌, ℕ, Bool, true, false, ◌&&◌, ◌||◌, not, List, [], ◌∷◌, ◌++◌, refl, sym, ◌∙◌, ap, subst, true≢false}
use Rattle.std.proofs.Common.{append_assoc}
use Rattle.std.proofs.Math.Bool.{or-true}
use Rattle.std.specs.Prelude.{Option, Some, None, is_some, cond, map, bytes_eq}
use Rattle.std.specs.List.{list_any, AllByRecursion}
use Rattle.std.proofs.lemmas.Bool.{and_parts, not-true}
use Rattle.std.proofs.lemmas.List.Folds.{list_any-append}
use Rattle.svn_lists.proofs.Every.{all-append, all_left, all_map, all_part}
use Rattle.svn_lists.proofs.Somewhere.{none_any}
use Rattle.svn_types.specs.Names.{Path}
use Rattle.svn_types.specs.Props.{PropChange, changes_between}
use Rattle.svn_types.specs.declared.kind.Kind.{Kind}
use Rattle.svn_types.specs.declared.kind.Kind.TheVariants.{File, Directory}
use Rattle.svn_repo.specs.Readings.{kind_of, text_of, props_of}
use Rattle.svn_editor.specs.Calls.{kind_eq}
use Rattle.svn_model.specs.Sources.{governing_revision}
use Rattle.svn_editor.specs.Steps.{Action, Delete, Open, Add, Change, Text, Close}
use Rattle.svn_model.specs.Follow.{DriveInput, follow, is_kept, source_node, target_node}
use Rattle.svn_model.specs.Steps.{is_text, is_touched, is_new, is_gone, gone_actions, touched_actions, new_actions, entered_actions}
use Rattle.svn_model.specs.Steps.{text_actions, path_actions, source_props, source_text}

-- ---- tests on actions

abbrev pub is_delete : Action → Bool
is_delete (Delete r) = true
is_delete _ = false

-- an open or an add, also of a kind of node alone
abbrev pub is_entry : Action → Bool
is_entry (Open k r) = true
is_entry (Add k) = true
is_entry _ = false

abbrev pub is_entry_of : Kind → Action → Bool
is_entry_of k (Open l r) = kind_eq k l
is_entry_of k (Add l) = kind_eq k l
is_entry_of k _ = false

-- a change, a text or a close, also of a kind of node alone
abbrev pub is_inner : Action → Bool
is_inner (Change k c) = true
is_inner (Text s t) = true
is_inner (Close k c) = true
is_inner _ = false

abbrev pub inner_of : Kind → Action → Bool
inner_of k (Change l c) = kind_eq k l
inner_of k (Text s t) = kind_eq k File
inner_of k (Close l c) = kind_eq k l
inner_of k _ = false

abbrev pub is_close : Action → Bool
is_close (Close k c) = true
is_close _ = false

abbrev pub is_close_of : Kind → Action → Bool
is_close_of k (Close l c) = kind_eq k l
is_close_of k _ = false

-- a directory's close has no checksum
abbrev pub is_plain : Action → Bool
is_plain (Close Directory (Some c)) = false
is_plain _ = true

-- what is inside a node of that kind
abbrev pub fits_kind : Kind → Action → Bool
fits_kind k (Change l c) = kind_eq k l
fits_kind k (Text s t) = kind_eq k File
fits_kind k (Close l c) = kind_eq k l
fits_kind k _ = true

-- which of two actions at a path comes first
abbrev pub precedes : Action → Action → Bool
precedes (Delete r) (Add k) = true
precedes (Delete r) a = is_inner a
precedes (Open k r) a = inner_of k a
precedes (Add k) a = inner_of k a
precedes (Change k c) a = inner_of k a
precedes (Text s t) (Close k c) = kind_eq File k
precedes (Text s t) _ = false
precedes (Close k c) _ = false

-- the test on kinds
pub kind_eq-same : (k : Kind) → kind_eq k k ≡ true
kind_eq-same File = refl
kind_eq-same Directory = refl

pub same_kinds : (k l : Kind) → kind_eq k l ≡ true → k ≡ l
same_kinds File File h = refl
same_kinds File Directory h = absurd (true≢false (sym h))
same_kinds Directory File h = absurd (true≢false (sym h))
same_kinds Directory Directory h = refl

-- what is inside a node of one kind is inside, and an entry of one kind is an entry
pub inner_is_inner : (k : Kind) (a : Action) → inner_of k a ≡ true → is_inner a ≡ true
inner_is_inner k (Change l c) e = refl
inner_is_inner k (Text s t) e = refl
inner_is_inner k (Close l c) e = refl
inner_is_inner k a e = absurd (true≢false (sym e))

pub entry_of_is_entry : (k : Kind) (a : Action) → is_entry_of k a ≡ true → is_entry a ≡ true
entry_of_is_entry k (Open l r) e = refl
entry_of_is_entry k (Add l) e = refl
entry_of_is_entry k a e = absurd (true≢false (sym e))

-- ---- lists of actions

abbrev pub AllOf : (Action → Bool) → List Action → Type 0
AllOf f acts = AllByRecursion (λ a. f a ≡ true) acts

-- where all pass a test that excludes another, none passes that
none_excluded : (f g : Action → Bool) → ((a : Action) → f a ≡ true → g a ≡ false) → (acts : List Action) → AllOf f acts
    → list_any g acts ≡ false
none_excluded f g e acts h = none_any g acts (all_map (λ a. f a ≡ true) (λ a. g a ≡ false) e acts h)

-- property changes pass a test that each change passes
pub all_changes : (f : Action → Bool) (k : Kind) → ((c : PropChange) → f (Change k c) ≡ true) → (cs : List PropChange)
    → AllOf f (map (Change k) cs)
all_changes f k e [] = tt
all_changes f k e (c ∷ cs) = (e c, all_changes f k e cs)

abbrev pub InTurn : List Action → Type 0
InTurn [] = Unit {0}
InTurn (a ∷ acts) = AllOf (precedes a) acts × InTurn acts

-- before an action that is in turn there was no close
pub none_closed : (xs : List Action) (a : Action) (ys : List Action) → InTurn (xs ++ a ∷ ys) → list_any is_close xs ≡ false
none_closed [] a ys h = refl
none_closed (x ∷ xs) a ys h = by x (all_part (λ a. precedes x a ≡ true) xs a ys h.0) (none_closed xs a ys h.1)
  where
    by : (x : Action) → precedes x a ≡ true → list_any is_close xs ≡ false → (is_close x || list_any is_close xs) ≡ false
    by (Close k c) e ih = absurd (true≢false (sym e))
    by x e ih = ih

-- ---- each path has a course

-- what comes after an open or an add of that kind of node
pub record Body (k : Kind) (inner : List Action) : Type 0 where
  pub of_kind : AllOf (inner_of k) inner
  pub in_turn : InTurn inner
  pub closed : list_any (is_close_of k) inner ≡ true
  pub plain : AllOf is_plain inner

-- the path has a node of that kind in the target
abbrev pub TargetKind : DriveInput → Path → Kind → Type 0
TargetKind d p k = (n : ℕ) × (target_node d p ≡ Some n) × (kind_of d.history n ≡ k)

pub data Course (d : DriveInput) (p : Path) : List Action → Type 0 where
  nothing : Course d p []
  gone_only : (r : ℕ) → is_kept d p ≡ false → Course d p (Delete r ∷ [])
  touched : (k : Kind) (r : ℕ) {inner : List Action} → TargetKind d p k → is_kept d p ≡ true → Body k inner → Course d p (Open k r ∷ inner)
  added : (k : Kind) {inner : List Action} → TargetKind d p k → is_kept d p ≡ false → Body k inner → Course d p (Add k ∷ inner)
  replaced : (r : ℕ) (k : Kind) {inner : List Action} → TargetKind d p k → is_kept d p ≡ false → Body k inner
      → Course d p (Delete r ∷ Add k ∷ inner)

-- changes of properties before a body leave a body
changes_first : (k : Kind) (cs : List PropChange) (tail : List Action) → Body k tail → Body k (map (Change k) cs ++ tail)
changes_first k [] tail b = b
changes_first k (c ∷ cs) tail b =
    let more = changes_first k cs tail b in
    record {
      of_kind = (kind_eq-same k, more.of_kind);
      in_turn = (more.of_kind, more.in_turn);
      closed = more.closed;
      plain = (refl, more.plain);
    }

-- the bodies without changes: a close alone, a text and a close, perhaps a text and a close
directory_close : Body Directory (Close Directory None ∷ [])
directory_close = record { of_kind = (refl, tt); in_turn = (tt, tt); closed = refl; plain = (refl, tt) }

text_and_close : (s : Option (List ℕ)) (t : List ℕ) (c : Option (List ℕ)) → Body File (Text s t ∷ Close File c ∷ [])
text_and_close s t c = record { of_kind = (refl, (refl, tt)); in_turn = ((refl, tt), (tt, tt)); closed = refl; plain = (refl, (refl, tt)) }

texts_first : (d : DriveInput) (old new : List ℕ) (c : Option (List ℕ)) → Body File (text_actions d old new ++ (Close File c ∷ []))
texts_first d old new c = by (bytes_eq old new)
  where
    by : (b : Bool) → Body File (cond b [] (Text (Some (d.checksum old)) new ∷ []) ++ (Close File c ∷ []))
    by true = record { of_kind = (refl, tt); in_turn = (tt, tt); closed = refl; plain = (refl, tt) }
    by false = text_and_close (Some (d.checksum old)) new c

-- what is opened, and what is added
touched_course : (d : DriveInput) (p : Path) (n : ℕ) (k : Kind) → TargetKind d p k → is_kept d p ≡ true → Course d p (touched_actions d p n k)
touched_course d p n Directory z e =
    touched Directory (governing_revision (follow d p).here) z e
    (changes_first Directory (changes_between (source_props d p (source_node d p)) (props_of d.history n))
    (Close Directory None ∷ []) directory_close)
touched_course d p n File z e =
    touched File (governing_revision (follow d p).here) z e
    (subst (Body File) (sym (append_assoc changes texts close))
    (changes_first File (changes_between (source_props d p (source_node d p)) (props_of d.history n)) (texts ++ close)
    (texts_first d (source_text d (source_node d p)) (text_of d.history n) (Some (d.checksum (text_of d.history n))))))
  where
    changes : List Action
    changes = map (Change File) (changes_between (source_props d p (source_node d p)) (props_of d.history n))

    texts : List Action
    texts = text_actions d (source_text d (source_node d p)) (text_of d.history n)

    close : List Action
    close = Close File (Some (d.checksum (text_of d.history n))) ∷ []

new_body : (d : DriveInput) (n : ℕ) (k : Kind) → (inner : List Action) × (new_actions d n k ≡ Add k ∷ inner) × Body k inner
new_body d n Directory =
    (_, refl, changes_first Directory (changes_between [] (props_of d.history n)) (Close Directory None ∷ []) directory_close)
new_body d n File = (
  _,
  refl,
  changes_first File (changes_between [] (props_of d.history n))
      (Text None (text_of d.history n) ∷ Close File (Some (d.checksum (text_of d.history n))) ∷ [])
      (text_and_close None (text_of d.history n) (Some (d.checksum (text_of d.history n)))),
)

-- the actions of each path have a course
pub course_of : (d : DriveInput) (p : Path) → Course d p (path_actions d p)
course_of d p = as_written (target_node d p) (by (is_gone d p) (target_node d p) (is_touched d p) (is_new d p) refl refl refl refl)
  where
    kept_touched : is_touched d p ≡ true → is_kept d p ≡ true
    kept_touched t = (and_parts (is_kept d p) _ t).0

    not_kept_new : is_new d p ≡ true → is_kept d p ≡ false
    not_kept_new n = not-true (is_kept d p) (and_parts (not (is_kept d p)) (is_some (target_node d p)) n).0

    not_kept_gone : is_gone d p ≡ true → is_kept d p ≡ false
    not_kept_gone g =
        not-true (is_kept d p)
        (and_parts (is_some (source_node d p)) (not (is_kept d p))
        (and_parts (is_some (source_node d p) && not (is_kept d p)) (follow d p).parent_is_kept g).0).1

    entered : Option ℕ → Bool → Bool → List Action
    entered None t n = []
    entered (Some m) t n = cond t (touched_actions d p m (kind_of d.history m)) (cond n (new_actions d m (kind_of d.history m)) [])

    by : (g : Bool) (o : Option ℕ) (t n : Bool) → target_node d p ≡ o → is_gone d p ≡ g → is_touched d p ≡ t → is_new d p ≡ n
        → Course d p (cond g (Delete (governing_revision (follow d p).here) ∷ []) [] ++ entered o t n)
    by true None t n z q u v = gone_only (governing_revision (follow d p).here) (not_kept_gone q)
    by false None t n z q u v = nothing
    by true (Some m) true n z q u v = absurd (true≢false (sym (kept_touched u) ∙ not_kept_gone q))
    by false (Some m) true n z q u v = touched_course d p m (kind_of d.history m) (m, z, refl) (kept_touched u)
    by true (Some m) false true z q u v =
        let b = new_body d m (kind_of d.history m) in
        subst (λ l. Course d p (Delete (governing_revision (follow d p).here) ∷ l)) (sym b.1)
        (replaced (governing_revision (follow d p).here) (kind_of d.history m) (m, z, refl) (not_kept_gone q) b.2)
    by false (Some m) false true z q u v =
        let b = new_body d m (kind_of d.history m) in
        subst (Course d p) (sym b.1) (added (kind_of d.history m) (m, z, refl) (not_kept_new v) b.2)
    by true (Some m) false false z q u v = gone_only (governing_revision (follow d p).here) (not_kept_gone q)
    by false (Some m) false false z q u v = nothing

    as_written : (o : Option ℕ)
        → Course d p (cond (is_gone d p) (Delete (governing_revision (follow d p).here) ∷ []) [] ++ entered o (is_touched d p) (is_new d p))
        → Course d p (gone_actions d p ++ entered_actions d p o)
    as_written None s = s
    as_written (Some m) s = s

module _ (d : DriveInput) (p : Path) where
  -- ---- where an action is in a course

  -- what was done at a path after its open or add of a node of that kind
  pub data Begun (k : Kind) (xs : List Action) : Type 0 where
    begun_open : (r : ℕ) (inner : List Action) → is_kept d p ≡ true → xs ≡ Open k r ∷ inner → AllOf (inner_of k) inner → Begun k xs
    begun_add : (before inner : List Action) → is_kept d p ≡ false → xs ≡ before ++ Add k ∷ inner → AllOf (inner_of k) inner → Begun k xs

  -- an action, and what was done at the path before it
  pub data Place (xs : List Action) (a : Action) : Type 0 where
    deleting : (r : ℕ) → is_kept d p ≡ false → xs ≡ [] → a ≡ Delete r → Place xs a
    entering : (k : Kind) (r : ℕ) → is_kept d p ≡ true → xs ≡ [] → a ≡ Open k r → Place xs a
    adding : (k : Kind) → is_kept d p ≡ false → AllOf is_delete xs → a ≡ Add k → Place xs a
    inside : (k : Kind) → TargetKind d p k → Begun k xs → inner_of k a ≡ true → Place xs a

  place_after_add : (k : Kind) (inner before : List Action) → TargetKind d p k → is_kept d p ≡ false → AllOf (inner_of k) inner
      → AllOf is_delete before
      → (xs : List Action) (a : Action) (ys : List Action) → xs ++ a ∷ ys ≡ Add k ∷ inner → Place (before ++ xs) a
  place_after_add k inner before z f h o [] a ys e = adding k f (all-append (λ a. is_delete a ≡ true) before [] o tt) (heads e)
    where
      heads : a ∷ ys ≡ Add k ∷ inner → a ≡ Add k
      heads q = cc
  place_after_add k inner before z f h o (x ∷ xs) a ys e =
      let rest = subst (AllOf (inner_of k)) (sym (tails e)) h in
      inside k z (begun_add before xs f (ap (λ y. before ++ y ∷ xs) (heads e)) (all_left (λ a. inner_of k a ≡ true) xs (a ∷ ys) rest))
      (all_part (λ a. inner_of k a ≡ true) xs a ys rest)
    where
      heads : x ∷ (xs ++ a ∷ ys) ≡ Add k ∷ inner → x ≡ Add k
      heads q = cc

      tails : x ∷ (xs ++ a ∷ ys) ≡ Add k ∷ inner → xs ++ a ∷ ys ≡ inner
      tails q = cc

  pub place_of : (l : List Action) → Course d p l → (xs : List Action) (a : Action) (ys : List Action) → xs ++ a ∷ ys ≡ l → Place xs a
  place_of l nothing [] a ys e = absurd (none e)
    where
      none : a ∷ ys ≡ [] → ⊥
      none q = cc
  place_of l nothing (x ∷ xs) a ys e = absurd (none e)
    where
      none : x ∷ (xs ++ a ∷ ys) ≡ [] → ⊥
      none q = cc
  place_of l (gone_only r f) [] a ys e = deleting r f refl (heads e)
    where
      heads : a ∷ ys ≡ Delete r ∷ [] → a ≡ Delete r
      heads q = cc
  place_of l (gone_only r f) (x ∷ []) a ys e = absurd (none e)
    where
      none : x ∷ a ∷ ys ≡ Delete r ∷ [] → ⊥
      none q = cc
  place_of l (gone_only r f) (x ∷ z ∷ xs) a ys e = absurd (none e)
    where
      none : x ∷ z ∷ (xs ++ a ∷ ys) ≡ Delete r ∷ [] → ⊥
      none q = cc
  place_of l (touched k r {inner} z f b) [] a ys e = entering k r f refl (heads e)
    where
      heads : a ∷ ys ≡ Open k r ∷ inner → a ≡ Open k r
      heads q = cc
  place_of l (touched k r {inner} z f b) (x ∷ xs) a ys e =
      let rest = subst (AllOf (inner_of k)) (sym (tails e)) b.of_kind in
      inside k z (begun_open r xs f (ap (λ y. y ∷ xs) (heads e)) (all_left (λ a. inner_of k a ≡ true) xs (a ∷ ys) rest))
      (all_part (λ a. inner_of k a ≡ true) xs a ys rest)
    where
      heads : x ∷ (xs ++ a ∷ ys) ≡ Open k r ∷ inner → x ≡ Open k r
      heads q = cc

      tails : x ∷ (xs ++ a ∷ ys) ≡ Open k r ∷ inner → xs ++ a ∷ ys ≡ inner
      tails q = cc
  place_of l (added k {inner} z f b) xs a ys e = place_after_add k inner [] z f b.of_kind tt xs a ys e
  place_of l (replaced r k {inner} z f b) [] a ys e = deleting r f refl (heads e)
    where
      heads : a ∷ ys ≡ Delete r ∷ Add k ∷ inner → a ≡ Delete r
      heads q = cc
  place_of l (replaced r k {inner} z f b) (x ∷ xs) a ys e =
      place_after_add k inner (x ∷ []) z f b.of_kind (ap is_delete (heads e), tt) xs a ys (tails e)
    where
      heads : x ∷ (xs ++ a ∷ ys) ≡ Delete r ∷ Add k ∷ inner → x ≡ Delete r
      heads q = cc

      tails : x ∷ (xs ++ a ∷ ys) ≡ Delete r ∷ Add k ∷ inner → xs ++ a ∷ ys ≡ Add k ∷ inner
      tails q = cc

  -- a whole course with an entry is begun
  pub begun_whole : (l : List Action) → Course d p l → list_any is_entry l ≡ true → (k : Kind) × TargetKind d p k × Begun k l
  begun_whole l nothing h = absurd (true≢false (sym h))
  begun_whole l (gone_only r f) h = absurd (true≢false (sym h))
  begun_whole l (touched k r {inner} z f b) h = (k, z, begun_open r inner f refl b.of_kind)
  begun_whole l (added k {inner} z f b) h = (k, z, begun_add [] inner f refl b.of_kind)
  begun_whole l (replaced r k {inner} z f b) h = (k, z, begun_add (Delete r ∷ []) inner f refl b.of_kind)

  -- where it is begun there is an entry of the kind
  pub begun_entry : (k : Kind) (xs : List Action) → Begun k xs → list_any (is_entry_of k) xs ≡ true
  begun_entry k xs (begun_open r inner f e h) =
      ap (list_any (is_entry_of k)) e ∙ ap (λ b. b || list_any (is_entry_of k) inner) (kind_eq-same k)
  begun_entry k xs (begun_add before inner f e h) =
      ap (list_any (is_entry_of k)) e ∙ list_any-append (is_entry_of k) before (Add k ∷ inner)
      ∙ ap (λ b. list_any (is_entry_of k) before || (b || list_any (is_entry_of k) inner)) (kind_eq-same k)
      ∙ or-true (list_any (is_entry_of k) before)

  -- a path that is touched or new is opened or added as the node that it has in the target
  pub entered_entry : (n : ℕ) (k : Kind) → target_node d p ≡ Some n → kind_of d.history n ≡ k → (is_touched d p || is_new d p) ≡ true
      → list_any (is_entry_of k) (path_actions d p) ≡ true
  entered_entry n k t z e =
      list_any-append (is_entry_of k) (gone_actions d p) (entered_actions d p (target_node d p))
      ∙ ap (λ b. list_any (is_entry_of k) (gone_actions d p) || b)
      (ap (λ o. list_any (is_entry_of k) (entered_actions d p o)) t ∙ by (is_touched d p) (is_new d p) e)
      ∙ or-true (list_any (is_entry_of k) (gone_actions d p))
    where
      opens : (k : Kind) → list_any (is_entry_of k) (touched_actions d p n k) ≡ true
      opens File = refl
      opens Directory = refl

      adds : (k : Kind) → list_any (is_entry_of k) (new_actions d n k) ≡ true
      adds File = refl
      adds Directory = refl

      by : (t m : Bool) → (t || m) ≡ true
          → list_any (is_entry_of k)
          (cond t (touched_actions d p n (kind_of d.history n)) (cond m (new_actions d n (kind_of d.history n)) [])) ≡ true
      by true m q = ap (λ l. list_any (is_entry_of k) (touched_actions d p n l)) z ∙ opens k
      by false true q = ap (λ l. list_any (is_entry_of k) (new_actions d n l)) z ∙ adds k
      by false false q = absurd (true≢false (sym q))

  -- ---- what a course says

  -- its actions are in turn
  pub course_in_turn : (l : List Action) → Course d p l → InTurn l
  course_in_turn l nothing = tt
  course_in_turn l (gone_only r f) = (tt, tt)
  course_in_turn l (touched k r z e b) = (b.of_kind, b.in_turn)
  course_in_turn l (added k z e b) = (b.of_kind, b.in_turn)
  course_in_turn l (replaced r k {inner} z e b) =
      ((refl, all_map (λ a. inner_of k a ≡ true) (λ a. precedes (Delete r) a ≡ true) after inner b.of_kind), (b.of_kind, b.in_turn))
    where
      after : (a : Action) → inner_of k a ≡ true → precedes (Delete r) a ≡ true
      after (Add l) q = refl
      after a q = inner_is_inner k a q

  -- its closes of directories have no checksum
  pub course_plain : (l : List Action) → Course d p l → AllOf is_plain l
  course_plain l nothing = tt
  course_plain l (gone_only r f) = (refl, tt)
  course_plain l (touched k r z e b) = (refl, b.plain)
  course_plain l (added k z e b) = (refl, b.plain)
  course_plain l (replaced r k z e b) = (refl, (refl, b.plain))

  -- nothing is deleted where the path is kept
  pub course_kept : (l : List Action) → Course d p l → is_kept d p ≡ true → list_any is_delete l ≡ false
  course_kept l nothing k = refl
  course_kept l (gone_only r f) k = absurd (true≢false (sym k ∙ f))
  course_kept l (touched n r {inner} z f b) k = none_excluded (inner_of n) is_delete no_delete inner b.of_kind
    where
      no_delete : (a : Action) → inner_of n a ≡ true → is_delete a ≡ false
      no_delete (Delete r) q = absurd (true≢false (sym q))
      no_delete a q = refl
  course_kept l (added n z f b) k = absurd (true≢false (sym k ∙ f))
  course_kept l (replaced r n z f b) k = absurd (true≢false (sym k ∙ f))

  -- an entry in front of a body is for its kind
  entry_closed : (k l : Kind) (inner : List Action) → Body k inner → (kind_eq l k || list_any (is_entry_of l) inner) ≡ true
      → (l ≡ k) × (list_any (is_close_of l) inner ≡ true)
  entry_closed k l inner b h = by (kind_eq l k) refl h
    where
      no_entry : (a : Action) → inner_of k a ≡ true → is_entry_of l a ≡ false
      no_entry (Open n r) q = absurd (true≢false (sym q))
      no_entry (Add n) q = absurd (true≢false (sym q))
      no_entry a q = refl

      by : (x : Bool) → kind_eq l k ≡ x → (x || list_any (is_entry_of l) inner) ≡ true → (l ≡ k) × (list_any (is_close_of l) inner ≡ true)
      by true e h = let s = same_kinds l k e in (s, ap (λ n. list_any (is_close_of n) inner) s ∙ b.closed)
      by false e h = absurd (true≢false (sym h ∙ none_excluded (inner_of k) (is_entry_of l) no_entry inner b.of_kind))

  -- a text is for a file
  text_kind : (k : Kind) (inner : List Action) → AllOf (inner_of k) inner → list_any is_text inner ≡ true → k ≡ File
  text_kind k [] h e = absurd (true≢false (sym e))
  text_kind k (Text s t ∷ inner) h e = same_kinds k File h.0
  text_kind k (a ∷ inner) h e = text_kind k inner h.1 e

  -- a body fits its kind
  body_fits : (k n : Kind) (inner : List Action) → k ≡ n → AllOf (inner_of n) inner → AllOf (fits_kind k) inner
  body_fits k n inner e = all_map (λ a. inner_of n a ≡ true) (λ a. fits_kind k a ≡ true) each inner
    where
      each : (a : Action) → inner_of n a ≡ true → fits_kind k a ≡ true
      each (Change l c) q = ap (λ m. kind_eq m l) e ∙ q
      each (Text s t) q = ap (λ m. kind_eq m File) e ∙ q
      each (Close l c) q = ap (λ m. kind_eq m l) e ∙ q
      each a q = refl

  -- what is opened or added is closed, and its kind is the target's
  pub course_closed : (l : List Action) → Course d p l → (k : Kind) → list_any (is_entry_of k) l ≡ true
      → (list_any (is_close_of k) l ≡ true) × TargetKind d p k
  course_closed l nothing k h = absurd (true≢false (sym h))
  course_closed l (gone_only r f) k h = absurd (true≢false (sym h))
  course_closed l (touched n r {inner} z e b) k h = let c = entry_closed n k inner b h in (c.1, subst (TargetKind d p) (sym c.0) z)
  course_closed l (added n {inner} z e b) k h = let c = entry_closed n k inner b h in (c.1, subst (TargetKind d p) (sym c.0) z)
  course_closed l (replaced r n {inner} z e b) k h = let c = entry_closed n k inner b h in (c.1, subst (TargetKind d p) (sym c.0) z)

  -- a file that gets a text is closed
  pub text_closed : (l : List Action) → Course d p l → list_any is_text l ≡ true → list_any (is_close_of File) l ≡ true
  text_closed l nothing h = absurd (true≢false (sym h))
  text_closed l (gone_only r f) h = absurd (true≢false (sym h))
  text_closed l (touched n r {inner} z e b) h = ap (λ k. list_any (is_close_of k) inner) (sym (text_kind n inner b.of_kind h)) ∙ b.closed
  text_closed l (added n {inner} z e b) h = ap (λ k. list_any (is_close_of k) inner) (sym (text_kind n inner b.of_kind h)) ∙ b.closed
  text_closed l (replaced r n {inner} z e b) h = ap (λ k. list_any (is_close_of k) inner) (sym (text_kind n inner b.of_kind h)) ∙ b.closed

  -- all that is done inside is for the kind of node that was entered
  pub course_kind : (l : List Action) → Course d p l → (k : Kind) → list_any (is_entry_of k) l ≡ true → AllOf (fits_kind k) l
  course_kind l nothing k h = absurd (true≢false (sym h))
  course_kind l (gone_only r f) k h = absurd (true≢false (sym h))
  course_kind l (touched n r {inner} z e b) k h = (refl, body_fits k n inner (entry_closed n k inner b h).0 b.of_kind)
  course_kind l (added n {inner} z e b) k h = (refl, body_fits k n inner (entry_closed n k inner b h).0 b.of_kind)
  course_kind l (replaced r n {inner} z e b) k h = (refl, (refl, body_fits k n inner (entry_closed n k inner b h).0 b.of_kind))
