-- A node of a sparse copy has no reason exactly where it is true but for what may be lacking.
use Rattle.std.proofs.Common.{◌≡◌, ◌≢◌, ℕ, Bool, true, false, ◌&&◌, not, cond, List, [], ◌∷◌, ◌++◌, refl, sym, ap, subst, ◌∙◌}
use Rattle.std.proofs.Common.{Option, Some, None, true≢false, append_assoc}
use Rattle.std.specs.Prelude.{bytes_eq, is_none, nat_lt, length, filter_map}
use Rattle.std.specs.List.{cons_option}
use Rattle.std.specs.Option.{is_some, option_or, option_map, option_to_list}
use Rattle.std.specs.Map.{keys_of}
use Rattle.std.specs.Cmp.Lexicographic.{bytes_decides}
use Rattle.std.proofs.lemmas.List.{append-nil}
use Rattle.svn_types.specs.declared.kind.Kind.{Kind}
use Rattle.svn_types.specs.declared.kind.Kind.TheVariants.{File, Directory}
use Rattle.svn_types.specs.Names.{Path}
use Rattle.svn_types.specs.Paths.{path_eq, child}
use Rattle.svn_types.specs.Pairs.{InNameOrder}
use Rattle.svn_types.proofs.PathLemmas.{same_path}
use Rattle.svn_repo.specs.History.{History, look}
use Rattle.svn_repo.specs.Readings.{IsHistory, kind_of, text_of, props_of, entries_of, is_directory}
use Rattle.svn_model.specs.declared.base_node.BaseNode.{BaseNode}
use Rattle.svn_model.specs.declared.base_node.BaseNode.TheVariants.{File as FileNode, Dir as DirNode, NotPresent}
use Rattle.svn_model.specs.Nodes.{WorkingCopy, get_in, InPathOrder, HasEntries, IsTrueFile, IsTrueNode, node_props}
use Rattle.svn_model.specs.Truth.{Properties}
use Rattle.law_copy.proofs.NodeLists.{get_in-first, AllIn, all_in}
use Rattle.svn_audit.specs.declared.reason.Reason.{Reason}
use Rattle.svn_audit.specs.declared.reason.Reason.TheVariants.{NoRevision, Nothing, AnotherKind, AnotherText, AnotherProperty, Lacks}
use Rattle.svn_audit.specs.declared.reason.Untrue.{Untrue}
use Rattle.svn_audit.specs.Untrue.{first_changed, first_lacking, file_reason, whole_reason, dir_reason, missing_reason, found_reason, node_reason, untrue_by}
use Rattle.svn_audit.specs.Sparse.{Lackable, nothing_lacks, HasAllBut, IsTrueDirBut, IsTrueNodeBut, IsTrueBut, WholeCopies, is_missing, first_missing, missing_of, missing_at, unless_lackable, reason_but, untrue_at_but, untrue_but}
use Rattle.svn_audit.proofs.Audits.{has_one}
use Rattle.svn_audit.proofs.Reasons.{unchanged, same_unchanged, AreOrdered, ordered_there}

-- ---- where nothing may be lacking

names_there : (p : Path) (h : History) (w : WorkingCopy) (es : List (List ℕ × ℕ)) → HasAllBut (nothing_lacks p) h w p es → HasEntries w p (keys_of es)
names_there p h w [] t = tt
names_there p h w (e ∷ es) t = (t.0 refl, names_there p h w es t.1)

entries_there : (p : Path) (h : History) (w : WorkingCopy) (es : List (List ℕ × ℕ)) → HasEntries w p (keys_of es) → HasAllBut (nothing_lacks p) h w p es
entries_there p h w [] t = tt
entries_there p h w (e ∷ es) t = (λ free. t.0, entries_there p h w es t.1)

whole_node : (h : History) (w : WorkingCopy) (p : Path) (o : Option BaseNode) → IsTrueNodeBut nothing_lacks h w p o → IsTrueNode h w p o
whole_node h w p None t = tt
whole_node h w p (Some NotPresent) t = tt
whole_node h w p (Some (FileNode r q text props)) t = t
whole_node h w p (Some (DirNode r q complete props)) t = (
  t.0,
  t.1,
  record { kind = t.2.kind; same_props = t.2.same_props; has_entries = λ c. names_there p h w (entries_of h t.0) (t.2.has_entries c) },
)

sparse_node : (h : History) (w : WorkingCopy) (p : Path) (o : Option BaseNode) → IsTrueNode h w p o → IsTrueNodeBut nothing_lacks h w p o
sparse_node h w p None t = tt
sparse_node h w p (Some NotPresent) t = tt
sparse_node h w p (Some (FileNode r q text props)) t = t
sparse_node h w p (Some (DirNode r q complete props)) t = (
  t.0,
  t.1,
  record { kind = t.2.kind; same_props = t.2.same_props; has_entries = λ c. entries_there p h w (entries_of h t.0) (t.2.has_entries c) },
)

pub whole_copies : WholeCopies
whole_copies h w = (λ t p. whole_node h w p (w p) (t p), λ t p. sparse_node h w p (w p) (t p))

-- ---- entries

module _ (may : Kind → Bool) (h : History) (w : WorkingCopy) (p : Path) where
  none_missing : (es : List (List ℕ × ℕ)) → HasAllBut may h w p es → first_missing may h w p es ≡ None
  none_missing [] t = refl
  none_missing (e ∷ es) t =
      ap (λ b. cond b (Some e.0) (first_missing may h w p es)) (here (w (child p e.0)) (may (kind_of h e.1)) t.0) ∙ none_missing es t.1
    where
      here : (o : Option BaseNode) (m : Bool) → (m ≡ false → o ≢ None) → (is_none o && not m) ≡ false
      here (Some b) m n = refl
      here None true n = refl
      here None false n = absurd (n refl refl)

  all_there : (es : List (List ℕ × ℕ)) → first_missing may h w p es ≡ None → HasAllBut may h w p es
  all_there [] k = tt
  all_there (e ∷ es) k = by (is_missing may h w p e) refl k (λ l. all_there es l)
    where
      by : (b : Bool) → is_missing may h w p e ≡ b → cond b (Some e.0) (first_missing may h w p es) ≡ None
          → (first_missing may h w p es ≡ None → HasAllBut may h w p es) → HasAllBut may h w p (e ∷ es)
      by true m l rest = absurd (true≢false (ap is_some l))
      by false m l rest = (
        λ free none. true≢false (sym (ap (λ o. is_none o && not (may (kind_of h e.1))) none ∙ ap not free) ∙ m),
        rest l,
      )

  -- what isn't lacking isn't missing
  lacking_missing : (es : List (List ℕ × ℕ)) → first_lacking w p (keys_of es) ≡ None → first_missing may h w p es ≡ None
  lacking_missing [] k = refl
  lacking_missing (e ∷ es) k = by (is_none (w (child p e.0))) k (λ l. lacking_missing es l)
    where
      by : (b : Bool) → cond b (Some e.0) (first_lacking w p (keys_of es)) ≡ None
          → (first_lacking w p (keys_of es) ≡ None → first_missing may h w p es ≡ None)
          → cond (b && not (may (kind_of h e.1))) (Some e.0) (first_missing may h w p es) ≡ None
      by true l rest = absurd (true≢false (ap is_some l))
      by false l rest = rest l

-- ---- one node

file_kind : (k : Kind) → is_directory k ≡ false → k ≡ File
file_kind File e = refl
file_kind Directory e = absurd (true≢false e)

dir_kind : (k : Kind) → is_directory k ≡ true → k ≡ Directory
dir_kind File e = absurd (true≢false (sym e))
dir_kind Directory e = refl

no_more : (missing : Option (List ℕ)) → option_map Lacks missing ≡ None → missing ≡ None
no_more None k = refl
no_more (Some name) k = absurd (true≢false (ap is_some k))

-- that nothing is in the place is a reason in any case
never_missing : (missing : Option (List ℕ)) (h : History) (r : ℕ) → unless_lackable missing (Some (missing_reason h r)) ≡ None → ⊥
never_missing missing h r k = by (nat_lt r (length h.roots)) k
  where
    by : (b : Bool) → unless_lackable missing (Some (cond b Nothing NoRevision)) ≡ None → ⊥
    by true l = true≢false (ap is_some l)
    by false l = true≢false (ap is_some l)

module _ (lackable : Lackable) (h : History) (w : WorkingCopy) (p : Path) where
  file_true : (missing : Option (List ℕ)) (r : ℕ) (q : Path) (text : List ℕ) (props : Properties) → InNameOrder props
      → (o : Option ℕ) → ((n : ℕ) → o ≡ Some n → InNameOrder (props_of h n)) → look h r q ≡ o
      → unless_lackable missing (found_reason (missing_reason h r) (file_reason h text props) o) ≡ None
      → IsTrueNode h w p (Some (FileNode r q text props))
  file_true missing r q text props one None two e k = absurd (never_missing missing h r k)
  file_true missing r q text props one (Some n) two e k =
      by (is_directory (kind_of h n)) (bytes_eq text (text_of h n)) (first_changed props (props_of h n)) refl refl refl k
    where
      by : (d b : Bool) (c : Option (List ℕ)) → is_directory (kind_of h n) ≡ d → bytes_eq text (text_of h n) ≡ b
          → first_changed props (props_of h n) ≡ c
          → unless_lackable missing (cond d (Some (AnotherKind Directory)) (cond (not b) (Some AnotherText) (option_map AnotherProperty c))) ≡ None
          → IsTrueNode h w p (Some (FileNode r q text props))
      by true b c kd kb kc l = absurd (true≢false (ap is_some l))
      by false false c kd kb kc l = absurd (true≢false (ap is_some l))
      by false true (Some name) kd kb kc l = absurd (true≢false (ap is_some l))
      by false true None kd kb kc l = (
        n,
        e,
        record {
          kind = file_kind (kind_of h n) kd;
          same_text = (bytes_decides text (text_of h n)).0 kb;
          same_props = same_unchanged props (props_of h n) one (two n refl) kc;
        },
      )

  dir_true : (r : ℕ) (q : Path) (complete : Bool) (props : Properties) → InNameOrder props
      → (o : Option ℕ) → ((n : ℕ) → o ≡ Some n → InNameOrder (props_of h n)) → look h r q ≡ o
      → unless_lackable (missing_of (lackable p) h w p o) (found_reason (missing_reason h r) (dir_reason h w p complete props) o) ≡ None
      → IsTrueNodeBut lackable h w p (Some (DirNode r q complete props))
  dir_true r q complete props one None two e k = absurd (never_missing None h r k)
  dir_true r q complete props one (Some n) two e k = by (is_directory (kind_of h n)) complete refl refl k
    where
      missing : Option (List ℕ)
      missing = first_missing (lackable p) h w p (entries_of h n)

      whole : (c l : Option (List ℕ)) → first_changed props (props_of h n) ≡ c → first_lacking w p (keys_of (entries_of h n)) ≡ l
          → unless_lackable missing (option_or (option_map AnotherProperty c) (option_map Lacks l)) ≡ None
          → (props ≡ props_of h n) × HasAllBut (lackable p) h w p (entries_of h n)
      whole (Some name) l kc kl z = absurd (true≢false (ap is_some z))
      whole None None kc kl z = (
        same_unchanged props (props_of h n) one (two n refl) kc,
        all_there (lackable p) h w p (entries_of h n) (lacking_missing (lackable p) h w p (entries_of h n) kl),
      )
      whole None (Some name) kc kl z = (
        same_unchanged props (props_of h n) one (two n refl) kc,
        all_there (lackable p) h w p (entries_of h n) (no_more missing z),
      )

      by : (d c : Bool) → is_directory (kind_of h n) ≡ d → complete ≡ c
          → unless_lackable missing (cond (not d) (Some (AnotherKind File)) (cond c (whole_reason h w p props n) None)) ≡ None
          → IsTrueNodeBut lackable h w p (Some (DirNode r q complete props))
      by false c kd kc z = absurd (true≢false (ap is_some z))
      by true false kd kc z = (
        n,
        e,
        record {
          kind = dir_kind (kind_of h n) kd;
          same_props = λ c. absurd (true≢false (sym c ∙ kc));
          has_entries = λ c. absurd (true≢false (sym c ∙ kc));
        },
      )
      by true true kd kc z =
          let both = whole (first_changed props (props_of h n)) (first_lacking w p (keys_of (entries_of h n))) refl refl z in (
            n,
            e,
            record { kind = dir_kind (kind_of h n) kd; same_props = λ c. both.0; has_entries = λ c. both.1 },
          )

  pub node_true : (node : BaseNode) → InNameOrder (node_props (Some node)) → AreOrdered h node → reason_but lackable h w p node ≡ None
      → IsTrueNodeBut lackable h w p (Some node)
  node_true NotPresent one two k = tt
  node_true (FileNode r q text props) one two k =
      file_true (missing_at lackable h w p (FileNode r q text props)) r q text props one (look h r q) two refl k
  node_true (DirNode r q complete props) one two k = dir_true r q complete props one (look h r q) two refl k

  file_passes : (missing : Option (List ℕ)) (text : List ℕ) (props : Properties) (n : ℕ) → IsTrueFile h n text props
      → unless_lackable missing (file_reason h text props n) ≡ None
  file_passes missing text props n t =
      ap (λ d. unless_lackable missing (cond d (Some (AnotherKind Directory)) (cond (not (bytes_eq text (text_of h n))) (Some AnotherText) changed)))
      (ap is_directory t.kind)
      ∙ ap (λ b. unless_lackable missing (cond (not b) (Some AnotherText) changed)) ((bytes_decides text (text_of h n)).1 t.same_text)
      ∙ ap (λ c. unless_lackable missing (option_map AnotherProperty c)) (same props (props_of h n) t.same_props)
    where
      changed : Option Reason
      changed = option_map AnotherProperty (first_changed props (props_of h n))

      same : (a b : Properties) → a ≡ b → first_changed a b ≡ None
      same a b e = ap (first_changed a) (sym e) ∙ unchanged a

  dir_passes : (complete : Bool) (props : Properties) (n : ℕ) → IsTrueDirBut (lackable p) h n w p complete props
      → unless_lackable (first_missing (lackable p) h w p (entries_of h n)) (dir_reason h w p complete props n) ≡ None
  dir_passes complete props n t =
      ap (λ d. unless_lackable missing (cond (not d) (Some (AnotherKind File)) (cond complete (whole_reason h w p props n) None)))
      (ap is_directory t.kind)
      ∙ by complete t
    where
      missing : Option (List ℕ)
      missing = first_missing (lackable p) h w p (entries_of h n)

      same : (a b : Properties) → a ≡ b → first_changed a b ≡ None
      same a b e = ap (first_changed a) (sym e) ∙ unchanged a

      lacks : (m l : Option (List ℕ)) → m ≡ None → unless_lackable m (option_map Lacks l) ≡ None
      lacks m None k = refl
      lacks m (Some name) k = ap (option_map Lacks) k

      by : (c : Bool) → IsTrueDirBut (lackable p) h n w p c props → unless_lackable missing (cond c (whole_reason h w p props n) None) ≡ None
      by false d = refl
      by true d =
          ap (λ c. unless_lackable missing (option_or (option_map AnotherProperty c) (option_map Lacks (first_lacking w p (keys_of (entries_of h n))))))
          (same props (props_of h n) (d.same_props refl))
          ∙ lacks missing (first_lacking w p (keys_of (entries_of h n))) (none_missing (lackable p) h w p (entries_of h n) (d.has_entries refl))

  pub true_passes : (node : BaseNode) → IsTrueNodeBut lackable h w p (Some node) → reason_but lackable h w p node ≡ None
  true_passes NotPresent t = refl
  true_passes (FileNode r q text props) t =
      ap (λ o. unless_lackable (missing_at lackable h w p (FileNode r q text props)) (found_reason (missing_reason h r) (file_reason h text props) o)) t.1
      ∙ file_passes (missing_at lackable h w p (FileNode r q text props)) text props t.0 t.2
  true_passes (DirNode r q complete props) t =
      ap (λ o. unless_lackable (missing_of (lackable p) h w p o) (found_reason (missing_reason h r) (dir_reason h w p complete props) o)) t.1
      ∙ dir_passes complete props t.0 t.2

-- ---- all nodes

-- the properties of each are in order
abbrev pub AllOrdered : List (Path × BaseNode) → Type 0
AllOrdered [] = Unit {0}
AllOrdered (e ∷ es) = InNameOrder (node_props (Some e.1)) × AllOrdered es

ordered_more : (es : List (Path × BaseNode)) (e : Path × BaseNode) → AllOrdered es → InNameOrder (node_props (Some e.1)) → AllOrdered (es ++ e ∷ [])
ordered_more [] e all one = (one, tt)
ordered_more (f ∷ es) e all one = (all.0, ordered_more es e all.1 one)

module _ (lackable : Lackable) (h : History) (w : WorkingCopy) where
  untrue-append : (xs ys : List (Path × BaseNode)) → untrue_but lackable h w (xs ++ ys) ≡ untrue_but lackable h w xs ++ untrue_but lackable h w ys
  untrue-append [] ys = refl
  untrue-append (x ∷ xs) ys = by (untrue_at_but lackable h w x.0 x.1) (untrue-append xs ys)
    where
      by : (o : Option Untrue) → untrue_but lackable h w (xs ++ ys) ≡ untrue_but lackable h w xs ++ untrue_but lackable h w ys
          → cons_option o (untrue_but lackable h w (xs ++ ys)) ≡ cons_option o (untrue_but lackable h w xs) ++ untrue_but lackable h w ys
      by None e = e
      by (Some u) e = ap (λ us. u ∷ us) e

  -- where none is untrue each is true, and so is what is found in the list
  all_true : IsHistory h → (es : List (Path × BaseNode)) → AllOrdered es → untrue_but lackable h w es ≡ [] → (p : Path)
      → IsTrueNodeBut lackable h w p (get_in es p)
  all_true history [] ordered f p = tt
  all_true history (e ∷ es) ordered f p = by (reason_but lackable h w e.0 e.1) refl f (λ g. all_true history es ordered.1 g p)
    where
      by : (x : Option Reason) → reason_but lackable h w e.0 e.1 ≡ x
          → cons_option (option_map (untrue_by e.0 e.1) x) (untrue_but lackable h w es) ≡ []
          → (untrue_but lackable h w es ≡ [] → IsTrueNodeBut lackable h w p (get_in es p))
          → IsTrueNodeBut lackable h w p (get_in (e ∷ es) p)
      by (Some reason) k g ih = absurd (true≢false (ap has_one g))
      by None k g ih = subst (IsTrueNodeBut lackable h w p) (sym (get_in-first e es p)) (at (path_eq e.0 p) refl (ih g))
        where
          at : (b : Bool) → path_eq e.0 p ≡ b → IsTrueNodeBut lackable h w p (get_in es p)
              → IsTrueNodeBut lackable h w p (cond b (Some e.1) (get_in es p))
          at true z rest =
              subst (λ q. IsTrueNodeBut lackable h w q (Some e.1)) (same_path e.0 p z)
              (node_true lackable h w e.0 e.1 ordered.0 (ordered_there h history e.1) k)
          at false z rest = rest

  none_untrue : IsTrueBut lackable h w → (es : List (Path × BaseNode)) → AllIn w es → untrue_but lackable h w es ≡ []
  none_untrue t [] a = refl
  none_untrue t (e ∷ es) a =
      ap (λ o. cons_option (option_map (untrue_by e.0 e.1) o) (untrue_but lackable h w es))
      (true_passes lackable h w e.0 e.1 (subst (IsTrueNodeBut lackable h w e.0) a.0 (t e.0)))
      ∙ none_untrue t es a.1

-- ---- found one after the other

one_listed : (o : Option Untrue) → cons_option o [] ≡ option_to_list o
one_listed None = refl
one_listed (Some u) = refl

-- what was found among those that were looked at of all
pub record Audited (lackable : Lackable) (h : History) (nodes left : List (Path × BaseNode)) (found : List Untrue) : Type 0 where
  pub done : List (Path × BaseNode)
  pub parts : nodes ≡ done ++ left
  pub all : found ≡ untrue_but lackable h (get_in nodes) done
  pub ordered : AllOrdered done

module _ (lackable : Lackable) (h : History) (nodes : List (Path × BaseNode)) where
  pub audit_begins : Audited lackable h nodes nodes []
  audit_begins = record { done = []; parts = refl; all = refl; ordered = tt }

  pub audit_on : (e : Path × BaseNode) (left : List (Path × BaseNode)) (found : List Untrue) → Audited lackable h nodes (e ∷ left) found
      → InNameOrder (node_props (Some e.1))
      → Audited lackable h nodes left (found ++ option_to_list (untrue_at_but lackable h (get_in nodes) e.0 e.1))
  audit_on e left found s one =
      let w : WorkingCopy = get_in nodes in
      let here : Option Untrue = untrue_at_but lackable h w e.0 e.1 in
      record {
        done = s.done ++ e ∷ [];
        parts = s.parts ∙ sym (append_assoc s.done (e ∷ []) left);
        all =
            ap (λ us. us ++ option_to_list here) s.all ∙ ap (λ us. untrue_but lackable h w s.done ++ us) (sym (one_listed here))
            ∙ sym (untrue-append lackable h w s.done (e ∷ []));
        ordered = ordered_more s.done e s.ordered one;
      }

  all_done : (left : List (Path × BaseNode)) (found : List Untrue) → (s : Audited lackable h nodes left found) → left ≡ [] → nodes ≡ s.done
  all_done left found s none = s.parts ∙ ap (λ l. s.done ++ l) none ∙ append-nil s.done

  pub audit_ends : (left : List (Path × BaseNode)) (found : List Untrue) → Audited lackable h nodes left found → left ≡ []
      → found ≡ untrue_but lackable h (get_in nodes) nodes
  audit_ends left found s none = s.all ∙ ap (untrue_but lackable h (get_in nodes)) (sym (all_done left found s none))

  pub none_is_true : IsHistory h → (left : List (Path × BaseNode)) (found : List Untrue) → Audited lackable h nodes left found → left ≡ []
      → found ≡ [] → IsTrueBut lackable h (get_in nodes)
  none_is_true history left found s none empty p =
      all_true lackable h (get_in nodes) history nodes (subst AllOrdered (sym (all_done left found s none)) s.ordered)
      (sym (audit_ends left found s none) ∙ empty) p

  pub true_has_none : InPathOrder nodes → (left : List (Path × BaseNode)) (found : List Untrue) → Audited lackable h nodes left found → left ≡ []
      → IsTrueBut lackable h (get_in nodes) → found ≡ []
  true_has_none order left found s none t =
      audit_ends left found s none ∙ none_untrue lackable h (get_in nodes) t nodes (all_in nodes order)
