-- The calls of a visit: those of the path itself, of what is below it, and its close.
use Rattle.std.proofs.Common.{◌≡◌, ℕ, suc, ◌+◌, ◌-◌, ◌≤◌, Bool, true, false, ◌&&◌, List, [], ◌∷◌, ◌++◌, length, refl, sym, ◌∙◌, ap}
use Rattle.std.proofs.Common.{append_assoc, append-nil, length-append, arith}
use Rattle.std.specs.Prelude.{Option, Some, None, cond}
use Rattle.svn_types.proofs.NameLemmas.{Name}
use Rattle.svn_types.specs.Names.{Path}
use Rattle.svn_types.specs.Paths.{child}
use Rattle.svn_types.specs.declared.kind.Kind.{Kind}
use Rattle.svn_types.specs.declared.kind.Kind.TheVariants.{File, Directory}
use Rattle.svn_repo.specs.Readings.{is_directory, is_directory_at, kind_of}
use Rattle.svn_editor.specs.declared.call.Call.{Call}
use Rattle.svn_model.specs.Follow.{DriveInput, target_node}
use Rattle.svn_model.specs.Steps.{gone_actions}
use Rattle.svn_model.specs.Tree.{names_below, is_entered, is_late, enters_directory, entry_actions, file_end, first_of, last_of, first_at}
use Rattle.svn_model.specs.Tree.{last_at, first_actions, last_actions}
use Rattle.svn_model.specs.TreeCalls.{calls_at, sizes, size_below, own_size, tree_size, in_turn, calls_below, tree_calls, height_at}
use Rattle.svn_model.specs.TreeCalls.{visit_size, visit_calls}
use Rattle.svn_drive.specs.Walking.{IsEntered, entered_calls, entered_size}
use Rattle.law_drive.proofs.Tokens.{calls_at-append}

-- ---- name by name

sizes-same : (s t : Path → ℕ) (p : Path) → ((m : Name) → s (child p m) ≡ t (child p m)) → (ns : List Name) → sizes s p ns ≡ sizes t p ns
sizes-same s t p h [] = refl
sizes-same s t p h (m ∷ ns) = ap (λ n. n + sizes s p ns) (h m) ∙ ap (λ n. t (child p m) + n) (sizes-same s t p h ns)

in_turn-same : (f g : Path → ℕ → List Call) (s t : Path → ℕ) (p : Path) → ((m : Name) (n : ℕ) → f (child p m) n ≡ g (child p m) n)
    → ((m : Name) → s (child p m) ≡ t (child p m)) → (ns : List Name) (next : ℕ) → in_turn f s p next ns ≡ in_turn g t p next ns
in_turn-same f g s t p h k [] next = refl
in_turn-same f g s t p h k (m ∷ ns) next =
    ap (λ l. l ++ in_turn f s p (next + s (child p m)) ns) (h m next)
    ∙ ap (λ n. g (child p m) next ++ in_turn f s p (next + n) ns) (k m)
    ∙ ap (λ l. g (child p m) next ++ l) (in_turn-same f g s t p h k ns (next + t (child p m)))

module _ (d : DriveInput) where
  -- ---- a visit, opened

  pub visit_size-height : (p : Path) (h : ℕ) → height_at p ≡ h → visit_size d p ≡ tree_size d h p
  unfolding visit_size
  visit_size-height p h e = ap (λ n. tree_size d n p) e

  child_height : (p : Path) (m : Name) → length p ≤ 128 → height_at (child p m) ≡ 128 - length p
  child_height p m l = let one : length (child p m) ≡ length p + 1 = length-append p (m ∷ []) in omega arith

  pub own_height : (p : Path) → length p ≤ 128 → height_at p ≡ suc (128 - length p)
  own_height p l = omega arith

  pub visit_size-open : (p : Path) → length p ≤ 128 → visit_size d p ≡ own_size d p (target_node d p) + size_below d (visit_size d) p
  visit_size-open p l =
      visit_size-height p (suc (128 - length p)) (own_height p l)
      ∙ ap (λ n. own_size d p (target_node d p) + n) (by (enters_directory d p))
    where
      by : (b : Bool)
          → cond b (sizes (tree_size d (128 - length p)) p (names_below d p)) 0 ≡ cond b (sizes (visit_size d) p (names_below d p)) 0
      by true =
          sizes-same (tree_size d (128 - length p)) (visit_size d) p
          (λ m. sym (visit_size-height (child p m) (128 - length p) (child_height p m l))) (names_below d p)
      by false = refl

  -- calls at a height and a visit's are the same below a path, where they are at each path's height
  pub below-open : (calls : ℕ → Path → ℕ → ℕ → List Call) (visit : Path → ℕ → ℕ → List Call)
      → ((p : Path) (parent own h : ℕ) → height_at p ≡ h → visit p parent own ≡ calls h p parent own)
      → (p : Path) (own : ℕ) → length p ≤ 128
      → calls_below d (λ q n. calls (128 - length p) q own n) (tree_size d (128 - length p)) p (own + 1)
      ≡ calls_below d (λ q n. visit q own n) (visit_size d) p (own + 1)
  below-open calls visit at_height p own l = by (enters_directory d p)
    where
      h : ℕ
      h = 128 - length p

      by : (b : Bool)
          → cond b (in_turn (λ q n. calls h q own n) (tree_size d h) p (own + 1) (names_below d p)) []
          ≡ cond b (in_turn (λ q n. visit q own n) (visit_size d) p (own + 1) (names_below d p)) []
      by true =
          in_turn-same (λ q n. calls h q own n) (λ q n. visit q own n) (tree_size d h) (visit_size d) p
          (λ m n. sym (at_height (child p m) own n h (child_height p m l)))
          (λ m. sym (visit_size-height (child p m) h (child_height p m l)))
          (names_below d p) (own + 1)
      by false = refl

  module _ (late : Bool) where
    pub visit_calls-height : (p : Path) (parent own h : ℕ) → height_at p ≡ h
        → visit_calls d late p parent own ≡ tree_calls d late h p parent own
    unfolding visit_calls
    visit_calls-height p parent own h e = ap (λ n. tree_calls d late n p parent own) e

    -- the calls below a path
    abbrev pub under : Path → ℕ → ℕ → List Call
    under p own next = in_turn (λ q n. visit_calls d late q own n) (visit_size d) p next (names_below d p)

    abbrev pub beneath : Path → ℕ → List Call
    beneath p own = calls_below d (λ q n. visit_calls d late q own n) (visit_size d) p (own + 1)

    pub visit_calls-open : (p : Path) (parent own : ℕ) → length p ≤ 128
        → visit_calls d late p parent own
        ≡ calls_at p parent own (first_actions d late p) ++ (beneath p own ++ calls_at p parent own (last_actions d p))
    visit_calls-open p parent own l =
        visit_calls-height p parent own (suc (128 - length p)) (own_height p l)
        ∙ ap (λ x. calls_at p parent own (first_actions d late p) ++ (x ++ calls_at p parent own (last_actions d p)))
        (below-open (tree_calls d late) (visit_calls d late) visit_calls-height p own l)

    -- what comes after the delete
    abbrev pub rest_of : Path → ℕ → ℕ → List Call
    rest_of p parent own =
        calls_at p parent own (first_at d late p (target_node d p)) ++ (beneath p own ++ calls_at p parent own (last_actions d p))

    pub visit_after_delete : (p : Path) (parent own : ℕ) → length p ≤ 128
        → visit_calls d late p parent own ≡ calls_at p parent own (gone_actions d p) ++ rest_of p parent own
    visit_after_delete p parent own l =
        visit_calls-open p parent own l
        ∙ ap (λ x. x ++ (beneath p own ++ calls_at p parent own (last_actions d p)))
        (calls_at-append p parent own (gone_actions d p) (first_at d late p (target_node d p)))
        ∙ append_assoc (calls_at p parent own (gone_actions d p)) (calls_at p parent own (first_at d late p (target_node d p)))
        (beneath p own ++ calls_at p parent own (last_actions d p))

    -- ---- what isn't entered has no more calls

    not_entered : (p : Path) (parent own : ℕ) → is_entered d p ≡ false → rest_of p parent own ≡ []
    not_entered p parent own e =
        ap (λ l. calls_at p parent own l ++ (beneath p own ++ calls_at p parent own (last_actions d p))) (firsts (target_node d p))
        ∙ ap
        (λ b. cond (b && is_directory_at d.history (target_node d p)) (under p own (own + 1)) []
        ++ calls_at p parent own (last_actions d p))
        e
        ∙ ap (λ l. calls_at p parent own l) (lasts (target_node d p))
      where
        firsts : (o : Option ℕ) → first_at d late p o ≡ []
        firsts None = refl
        firsts (Some n) = ap (λ b. cond b (first_of d late p n (kind_of d.history n)) []) e

        lasts : (o : Option ℕ) → last_at d p o ≡ []
        lasts None = refl
        lasts (Some n) = ap (λ b. cond b (last_of (kind_of d.history n)) []) e

    not_there : (p : Path) (parent own : ℕ) → target_node d p ≡ None → rest_of p parent own ≡ []
    not_there p parent own e =
        ap
        (λ o. calls_at p parent own (first_at d late p o)
        ++ (cond (is_entered d p && is_directory_at d.history o) (under p own (own + 1)) []
        ++ calls_at p parent own (last_at d p o)))
        e
        ∙ by (is_entered d p)
      where
        by : (b : Bool) → cond (b && false) (under p own (own + 1)) [] ++ [] ≡ []
        by true = refl
        by false = refl

    pub visit-not_entered : (p : Path) (parent own : ℕ) → length p ≤ 128 → is_entered d p ≡ false
        → visit_calls d late p parent own ≡ calls_at p parent own (gone_actions d p)
    visit-not_entered p parent own l e =
        visit_after_delete p parent own l ∙ ap (λ x. calls_at p parent own (gone_actions d p) ++ x) (not_entered p parent own e)
        ∙ append-nil (calls_at p parent own (gone_actions d p))

    pub visit-not_there : (p : Path) (parent own : ℕ) → length p ≤ 128 → target_node d p ≡ None
        → visit_calls d late p parent own ≡ calls_at p parent own (gone_actions d p)
    visit-not_there p parent own l e =
        visit_after_delete p parent own l ∙ ap (λ x. calls_at p parent own (gone_actions d p) ++ x) (not_there p parent own e)
        ∙ append-nil (calls_at p parent own (gone_actions d p))

    -- ---- what is entered

    entered_rest : (p : Path) (parent own n : ℕ) (k : Kind) → IsEntered d p n k
        → rest_of p parent own ≡ entered_calls d late p parent own n k
    entered_rest p parent own n k e =
        ap
        (λ o. calls_at p parent own (first_at d late p o)
        ++ (cond (is_entered d p && is_directory_at d.history o) (under p own (own + 1)) []
        ++ calls_at p parent own (last_at d p o)))
        e.target
        ∙ ap (λ b. calls_at p parent own (cond b (first_of d late p n (kind_of d.history n)) [])
        ++ (cond (b && is_directory (kind_of d.history n)) (under p own (own + 1)) []
        ++ calls_at p parent own (cond b (last_of (kind_of d.history n)) [])))
        e.entered
        ∙ ap
        (λ z. calls_at p parent own (first_of d late p n z)
        ++ (cond (is_directory z) (under p own (own + 1)) [] ++ calls_at p parent own (last_of z)))
        e.kind
        ∙ by k
      where
        by : (z : Kind)
            → calls_at p parent own (first_of d late p n z)
            ++ (cond (is_directory z) (under p own (own + 1)) [] ++ calls_at p parent own (last_of z))
            ≡ entered_calls d late p parent own n z
        by Directory = refl
        by File =
            append-nil (calls_at p parent own (entry_actions d p n File ++ cond (is_late d late p) [] (file_end d p n)))
            ∙ calls_at-append p parent own (entry_actions d p n File) (cond (is_late d late p) [] (file_end d p n))

    pub visit-entered : (p : Path) (parent own n : ℕ) (k : Kind) → length p ≤ 128 → IsEntered d p n k
        → visit_calls d late p parent own ≡ calls_at p parent own (gone_actions d p) ++ entered_calls d late p parent own n k
    visit-entered p parent own n k l e =
        visit_after_delete p parent own l ∙ ap (λ x. calls_at p parent own (gone_actions d p) ++ x) (entered_rest p parent own n k e)

  -- ---- tokens

  pub size-not_entered : (p : Path) → length p ≤ 128 → is_entered d p ≡ false → visit_size d p ≡ 0
  size-not_entered p l e =
      visit_size-open p l ∙ ap (λ n. n + size_below d (visit_size d) p) (own (target_node d p))
      ∙ ap (λ b. 0 + cond (b && is_directory_at d.history (target_node d p)) (sizes (visit_size d) p (names_below d p)) 0) e
      ∙ refl
    where
      own : (o : Option ℕ) → own_size d p o ≡ 0
      own None = refl
      own (Some n) = ap (λ b. cond b 1 0) e

  pub size-not_there : (p : Path) → length p ≤ 128 → target_node d p ≡ None → visit_size d p ≡ 0
  size-not_there p l e =
      visit_size-open p l
      ∙ ap (λ o. own_size d p o + cond (is_entered d p && is_directory_at d.history o) (sizes (visit_size d) p (names_below d p)) 0) e
      ∙ by (is_entered d p)
    where
      by : (b : Bool) → 0 + cond (b && false) (sizes (visit_size d) p (names_below d p)) 0 ≡ 0
      by true = refl
      by false = refl

  pub size-entered : (p : Path) (n : ℕ) (k : Kind) → length p ≤ 128 → IsEntered d p n k → visit_size d p ≡ entered_size d p k
  size-entered p n k l e =
      visit_size-open p l
      ∙ ap (λ o. own_size d p o + cond (is_entered d p && is_directory_at d.history o) (sizes (visit_size d) p (names_below d p)) 0)
      e.target
      ∙ ap (λ b. cond b 1 0 + cond (b && is_directory (kind_of d.history n)) (sizes (visit_size d) p (names_below d p)) 0) e.entered
      ∙ ap (λ z. 1 + cond (is_directory z) (sizes (visit_size d) p (names_below d p)) 0) e.kind
      ∙ by k
    where
      by : (z : Kind) → 1 + cond (is_directory z) (sizes (visit_size d) p (names_below d p)) 0 ≡ entered_size d p z
      by Directory = refl
      by File = refl
