-- There is one list of steps with the steps of each path, in order of the keys.
use Rattle.std.proofs.Common.{◌≡◌, Bool, true, false, List, [], ◌∷◌, refl, sym, ◌∙◌, ap}
use Rattle.std.specs.Prelude.{filter, cond}
use Rattle.std.specs.List.{list_any}
use Rattle.svn_lists.proofs.Filters.{filter_head_fails}
use Rattle.svn_types.specs.Names.{Path}
use Rattle.svn_types.specs.Paths.{path_eq}
use Rattle.svn_types.proofs.PathLemmas.{path_eq-same}
use Rattle.svn_editor.specs.Steps.{Step}
use Rattle.svn_model.specs.Follow.{DriveInput}
use Rattle.svn_model.specs.Steps.{comes_after, InKeyOrder}
use Rattle.svn_model.specs.Drive.{calls_of}
use Rattle.law_drive.specs.Laws.{drive_is_determined}
use Rattle.law_drive.proofs.Keys.{same_place}

abbrev is_at : Path → Step → Bool
is_at p s = path_eq s.path p

-- where one step heads both lists, the rests are filtered alike
rests_alike : (p : Path) (s t : Step) (xs ys : List Step) → s ≡ t → filter (is_at p) (s ∷ xs) ≡ filter (is_at p) (t ∷ ys)
    → filter (is_at p) xs ≡ filter (is_at p) ys
rests_alike p s t xs ys e h = by (is_at p s) (is_at p t) (ap (is_at p) e) h
  where
    by : (a b : Bool) → a ≡ b
        → cond a (s ∷ filter (is_at p) xs) (filter (is_at p) xs) ≡ cond b (t ∷ filter (is_at p) ys) (filter (is_at p) ys)
        → filter (is_at p) xs ≡ filter (is_at p) ys
    by true true q h = cc
    by false false q h = h
    by true false q h = cc
    by false true q h = cc

-- a list filtered at the path of its head has that head
own_head : (s : Step) (xs : List Step) → filter (is_at s.path) (s ∷ xs) ≡ s ∷ filter (is_at s.path) xs
own_head s xs = ap (λ b. cond b (s ∷ filter (is_at s.path) xs) (filter (is_at s.path) xs)) (path_eq-same s.path)

-- the heads are one step
heads : (d : DriveInput) (late : Bool) (s t : Step) (xs ys : List Step) → ((p : Path) → filter (is_at p) (s ∷ xs) ≡ filter (is_at p) (t ∷ ys))
    → list_any (comes_after d late s) xs ≡ false → list_any (comes_after d late t) ys ≡ false → s ≡ t
heads d late s t xs ys e h k = by (is_at t.path s) (is_at s.path t) refl refl (e t.path ∙ own_head t ys) (sym (e s.path) ∙ own_head s xs)
  where
    by : (a b : Bool) → is_at t.path s ≡ a → is_at s.path t ≡ b
        → cond a (s ∷ filter (is_at t.path) xs) (filter (is_at t.path) xs) ≡ t ∷ filter (is_at t.path) ys
        → cond b (t ∷ filter (is_at s.path) ys) (filter (is_at s.path) ys) ≡ s ∷ filter (is_at s.path) xs
        → s ≡ t
    by true b p q u v = cc
    by false true p q u v = cc
    by false false p q u v =
        let place = same_place d late s t (filter_head_fails (is_at t.path) (comes_after d late s) xs t (filter (is_at t.path) ys) u h)
        (filter_head_fails (is_at s.path) (comes_after d late t) ys s (filter (is_at s.path) xs) v k) in
        let same : is_at t.path s ≡ true = ap (λ r. path_eq r t.path) place ∙ path_eq-same t.path in
        cc

one : (d : DriveInput) (late : Bool) (xs ys : List Step) → ((p : Path) → filter (is_at p) xs ≡ filter (is_at p) ys) → InKeyOrder d late xs
    → InKeyOrder d late ys → xs ≡ ys
one d late [] [] e h k = refl
one d late [] (t ∷ ys) e h k = let f = e t.path ∙ own_head t ys in cc
one d late (s ∷ xs) [] e h k = let f = sym (e s.path) ∙ own_head s xs in cc
one d late (s ∷ xs) (t ∷ ys) e h k =
    let same = heads d late s t xs ys e h.0 k.0 in
    let rest = one d late xs ys (λ p. rests_alike p s t xs ys same (e p)) h.1 k.1 in
    λ i. same i ∷ rest i

pub one_drive : drive_is_determined
one_drive d late xs ys h k =
    let same =
    one d late h.steps k.steps
    (λ p. h.of_each_path.at_each_path p ∙ sym (k.of_each_path.at_each_path p)) h.of_each_path.in_order k.of_each_path.in_order in
    h.numbered_calls ∙ ap (calls_of d.target) same ∙ sym k.numbered_calls
