-- The first steps of a drive, up to some step: which steps of other paths are among them.
use Rattle.std.proofs.Common.{◌≡◌, Bool, true, false, ◌&&◌, not, List, [], ◌∷◌, ◌++◌, refl, sym, ◌∙◌, ap, true≢false, append-nil}
use Rattle.std.specs.Prelude.{cond, map, filter, bytes_eq}
use Rattle.std.specs.List.{list_any, AllByRecursion}
use Rattle.std.specs.declared.cmp.Ordering.{Ordering}
use Rattle.std.specs.declared.cmp.Ordering.TheVariants.{Less, Equal, Greater}
use Rattle.std.specs.Ordering.{is_gt, ordering_then}
use Rattle.std.specs.Cmp.Lexicographic.{slice_cmp, nat_list_cmp_total}
use Rattle.std.specs.FinMap.{slice_cmp-IsAntisymmetric, nat_cmp-IsAntisymmetric}
use Rattle.std.proofs.lemmas.Bool.{false_from_ne_true, and_parts, not-true}
use Rattle.std.proofs.lemmas.Cmp.{tied_itself}
use Rattle.svn_lists.proofs.Equality.{bytes_eq-same, same_bytes}
use Rattle.svn_lists.proofs.Every.{all_map, all_part}
use Rattle.svn_lists.proofs.Somewhere.{each_fails, none_any}
use Rattle.svn_types.specs.Names.{Path, name_cmp}
use Rattle.svn_types.specs.Paths.{path_eq, is_within, is_below}
use Rattle.svn_types.specs.declared.kind.Kind.TheVariants.{File, Directory}
use Rattle.svn_types.proofs.PathLemmas.{same_path}
use Rattle.svn_editor.specs.Steps.{Action, Delete, Open, Add, Change, Text, Close, Step}
use Rattle.svn_model.specs.Follow.{DriveInput}
use Rattle.svn_model.specs.Steps.{Mark, Named, End, mark_cmp, key, key_of, comes_after, has_text, InKeyOrder}
use Rattle.law_drive.proofs.Courses.{is_delete, is_entry}
use Rattle.law_update.proofs.States.{is_at, actions_at}

-- ---- keys of paths that are below one another

longer_key : (p q : Path) (x : List Mark) → is_within p q ≡ true → path_eq p q ≡ false
    → is_gt (slice_cmp mark_cmp (map Named q ++ x) (map Named p)) ≡ true
longer_key [] [] x h k = absurd (true≢false k)
longer_key [] (n ∷ q) x h k = refl
longer_key (m ∷ p) [] x h k = absurd (true≢false (sym h))
longer_key (m ∷ p) (n ∷ q) x h k =
    let parts = and_parts (bytes_eq m n) (is_within p q) h in
    let same : name_cmp n m ≡ Equal = ap (λ y. name_cmp y m) (sym (same_bytes m n parts.0)) ∙ tied_itself nat_list_cmp_total m in
    ap (λ o. is_gt (ordering_then o (slice_cmp mark_cmp (map Named q ++ x) (map Named p)))) same
    ∙ longer_key p q x parts.1 (sym (ap (λ b. b && path_eq p q) parts.0) ∙ k)

late_key : (p : Path) (k : List Mark) → is_gt (slice_cmp mark_cmp (End ∷ k) (map Named p)) ≡ true
late_key [] k = refl
late_key (m ∷ p) k = refl

pub key_above : (d : DriveInput) (late : Bool) (p q : Path) (a : Action) → is_below p q ≡ true
    → is_gt (slice_cmp mark_cmp (key d late q a) (map Named p)) ≡ true
key_above d late p q a b = by_action a
  where
    parts : (is_within p q ≡ true) × (not (path_eq p q) ≡ true)
    parts = and_parts (is_within p q) (not (path_eq p q)) b

    apart : path_eq p q ≡ false
    apart = not-true (path_eq p q) parts.1

    plain : is_gt (slice_cmp mark_cmp (map Named q) (map Named p)) ≡ true
    plain = ap (λ k. is_gt (slice_cmp mark_cmp k (map Named p))) (sym (append-nil (map Named q))) ∙ longer_key p q [] parts.0 apart

    either : (x : Bool) → is_gt (slice_cmp mark_cmp (cond x (End ∷ map Named q) (map Named q)) (map Named p)) ≡ true
    either true = late_key p (map Named q)
    either false = plain

    by_action : (a : Action) → is_gt (slice_cmp mark_cmp (key d late q a) (map Named p)) ≡ true
    by_action (Delete r) = plain
    by_action (Open k r) = plain
    by_action (Add k) = plain
    by_action (Change k c) = plain
    by_action (Text s t) = either late
    by_action (Close Directory c) = longer_key p q (End ∷ []) parts.0 apart
    by_action (Close File c) = either (late && has_text d q)

-- ---- what is before and after the next step

pub before_next : (d : DriveInput) (late : Bool) (done : List Step) (s : Step) (rest : List Step) → InKeyOrder d late (done ++ s ∷ rest)
    → AllByRecursion (λ t. comes_after d late t s ≡ false) done
before_next d late [] s rest h = tt
before_next d late (t ∷ done) s rest h = (
  all_part (λ u. comes_after d late t u ≡ false) done s rest (each_fails (comes_after d late t) (done ++ s ∷ rest) h.0),
  before_next d late done s rest h.1,
)

pub after_next : (d : DriveInput) (late : Bool) (done : List Step) (s : Step) (rest : List Step) → InKeyOrder d late (done ++ s ∷ rest)
    → AllByRecursion (λ u. comes_after d late s u ≡ false) rest
after_next d late [] s rest h = each_fails (comes_after d late s) rest h.0
after_next d late (t ∷ done) s rest h = after_next d late done s rest h.1

-- no step below the path of a step whose key is its path has been taken
pub none_below_next : (d : DriveInput) (late : Bool) (done : List Step) (s : Step) (q : Path)
    → AllByRecursion (λ t. comes_after d late t s ≡ false) done
    → key_of d late s ≡ map Named s.path → is_below s.path q ≡ true → filter (is_at q) done ≡ []
none_below_next d late [] s q h k b = refl
none_below_next d late (t ∷ done) s q h k b = by (is_at q t) refl (none_below_next d late done s q h.1 k b)
  where
    by : (x : Bool) → is_at q t ≡ x → filter (is_at q) done ≡ [] → cond x (t ∷ filter (is_at q) done) (filter (is_at q) done) ≡ []
    by true e ih =
        let after : comes_after d late t s ≡ true =
        ap (λ y. is_gt (slice_cmp mark_cmp (key_of d late t) y)) k
        ∙ key_above d late s.path t.path t.action (ap (is_below s.path) (same_path t.path q e) ∙ b) in
        absurd (true≢false (sym after ∙ h.0))
    by false e ih = ih

-- ---- the steps of the path above

-- the key of the action is the path itself
abbrev pub is_main : Action → Bool
is_main (Close k c) = false
is_main (Text s t) = false
is_main _ = true

pub main_key : (d : DriveInput) (late : Bool) (p : Path) (a : Action) → is_main a ≡ true → key d late p a ≡ map Named p
main_key d late p (Delete r) h = refl
main_key d late p (Open k r) h = refl
main_key d late p (Add k) h = refl
main_key d late p (Change k c) h = refl
main_key d late p (Text s t) h = absurd (true≢false (sym h))
main_key d late p (Close k c) h = absurd (true≢false (sym h))

abbrev pub NoneMain : List Action → Type 0
NoneMain acts = AllByRecursion (λ a. is_main a ≡ false) acts

-- of the steps above the next one's path those with the path as key have all been taken
pub none_main_left : (d : DriveInput) (late : Bool) (s : Step) (rest : List Step) (p : Path) → is_below p s.path ≡ true
    → AllByRecursion (λ u. comes_after d late s u ≡ false) rest → NoneMain (actions_at p rest)
none_main_left d late s [] p b h = tt
none_main_left d late s (u ∷ rest) p b h = by (is_at p u) refl (none_main_left d late s rest p b h.1)
  where
    by_main : (x : Bool) → is_at p u ≡ true → is_main u.action ≡ x → is_main u.action ≡ false
    by_main true e m =
        let after : comes_after d late s u ≡ true =
        ap (λ y. is_gt (slice_cmp mark_cmp (key_of d late s) y)) (main_key d late u.path u.action m ∙ ap (map Named) (same_path u.path p e))
        ∙ key_above d late p s.path s.action b in
        absurd (true≢false (sym after ∙ h.0))
    by_main false e m = m

    by : (x : Bool) → is_at p u ≡ x → NoneMain (actions_at p rest)
        → NoneMain (map (λ (s : Step). s.action) (cond x (u ∷ filter (is_at p) rest) (filter (is_at p) rest)))
    by true e ih = (by_main (is_main u.action) e refl, ih)
    by false e ih = ih

-- where no main action is left there is none of a kind of main actions
pub none_left : (f : Action → Bool) → ((a : Action) → f a ≡ true → is_main a ≡ true) → (acts : List Action) → NoneMain acts
    → list_any f acts ≡ false
none_left f main acts n =
    none_any f acts
    (all_map (λ a. is_main a ≡ false) (λ a. f a ≡ false) (λ a e. false_from_ne_true (f a) (λ q. true≢false (sym (main a q) ∙ e))) acts n)

pub delete_is_main : (a : Action) → is_delete a ≡ true → is_main a ≡ true
delete_is_main (Delete r) e = refl
delete_is_main a e = absurd (true≢false (sym e))

pub entry_is_main : (a : Action) → is_entry a ≡ true → is_main a ≡ true
entry_is_main (Open k r) e = refl
entry_is_main (Add k) e = refl
entry_is_main a e = absurd (true≢false (sym e))

-- where one path comes before another and isn't above it, all that begins with the one comes before all that begins with the other
pub apart_keys : (p q : Path) (x y : List Mark) → slice_cmp name_cmp p q ≡ Less → is_within p q ≡ false
    → slice_cmp mark_cmp (map Named p ++ x) (map Named q ++ y) ≡ Less
apart_keys [] q x y h k = absurd (true≢false k)
apart_keys (m ∷ p) [] x y h k = cc
apart_keys (m ∷ p) (n ∷ q) x y h k = by (name_cmp m n) refl h (apart_keys p q x y)
  where
    by : (o : Ordering) → name_cmp m n ≡ o → ordering_then o (slice_cmp name_cmp p q) ≡ Less
        → (slice_cmp name_cmp p q ≡ Less → is_within p q ≡ false → slice_cmp mark_cmp (map Named p ++ x) (map Named q ++ y) ≡ Less)
        → ordering_then o (slice_cmp mark_cmp (map Named p ++ x) (map Named q ++ y)) ≡ Less
    by Less c e ih = refl
    by Greater c e ih = e
    by Equal c e ih =
        let one = slice_cmp-IsAntisymmetric nat_cmp-IsAntisymmetric m n c in
        ih e (sym (ap (λ b. b && is_within p q) (ap (bytes_eq m) (sym one) ∙ bytes_eq-same m)) ∙ k)
