-- What is at each path after the first steps of a drive, path by path.
use Rattle.std.proofs.Common.{ℕ, ◌≡◌, Bool, true, false, ◌&&◌, ◌||◌, not, List, [], ◌∷◌, ◌++◌, refl, sym, ◌∙◌, ap, true≢false}
use Rattle.std.proofs.Common.{append_assoc, append-nil}
use Rattle.std.proofs.Math.Bool.{and-false, or-false, or-true}
use Rattle.std.specs.Prelude.{Option, Some, None, cond, map, filter, filter_map}
use Rattle.std.specs.List.{list_any, cons_option}
use Rattle.std.proofs.lemmas.List.{map-append}
use Rattle.std.proofs.lemmas.List.Elements.{filter-append}
use Rattle.std.proofs.lemmas.List.Folds.{list_any-append}
use Rattle.svn_types.specs.Names.{Path}
use Rattle.svn_types.specs.Paths.{path_eq, is_within, is_below}
use Rattle.svn_types.specs.Props.{PropChange}
use Rattle.svn_types.specs.declared.kind.Kind.TheVariants.{File, Directory}
use Rattle.svn_types.proofs.PathLemmas.{same_path, path_eq-same}
use Rattle.svn_editor.specs.Steps.{Action, Delete, Open, Add, Change, Text, Close, Step, steps_at}
use Rattle.svn_model.specs.Follow.{DriveInput, target_path}
use Rattle.svn_model.specs.Steps.{IsDriveOf, path_actions}
use Rattle.svn_model.specs.declared.base_node.BaseNode.{BaseNode}
use Rattle.svn_model.specs.Nodes.{WorkingCopy}
use Rattle.svn_model.specs.Effects.{change_in, text_in, changes_at, texts_at, opened_directory, closed_directory, closed_file, added_node}
use Rattle.svn_model.specs.Effects.{stepped, below_after, step_effect}
use Rattle.law_drive.proofs.Courses.{is_delete}

abbrev pub is_at : Path → Step → Bool
is_at p s = path_eq s.path p

abbrev pub actions_at : Path → List Step → List Action
actions_at p steps = map (λ (s : Step). s.action) (filter (is_at p) steps)

-- ---- the state of a path, by its own actions alone

abbrev pub changes_in : List Action → List PropChange
changes_in = filter_map change_in

abbrev pub texts_in : List Action → List (List ℕ)
texts_in = filter_map text_in

abbrev pub act : DriveInput → Path → List Action → Action → Option BaseNode → Option BaseNode
act d p before (Delete r) found = None
act d p before (Open Directory r) found = opened_directory d.target (λ q. target_path d p) found
act d p before (Add k) found = Some (added_node k d.target (target_path d p))
act d p before (Close Directory c) found = closed_directory (changes_in before) found
act d p before (Close File c) found =
    closed_file d.target (λ q. target_path d p) (target_path d p) (changes_in before) (texts_in before) found
act d p before _ found = found

abbrev pub acted : DriveInput → Path → List Action → Option BaseNode → List Action → Option BaseNode
acted d p before found [] = found
acted d p before found (a ∷ acts) = acted d p (before ++ a ∷ []) (act d p before a found) acts

-- a step above the path takes it away
abbrev pub is_deleted_above : List Step → Path → Bool
is_deleted_above steps p = list_any (λ s. is_delete s.action && is_below s.path p) steps

abbrev pub base : WorkingCopy → List Step → Path → Option BaseNode
base w steps p = cond (is_deleted_above steps p) None (w p)

abbrev pub state : DriveInput → WorkingCopy → List Step → Path → Option BaseNode
state d w steps p = acted d p [] (base w steps p) (actions_at p steps)

pub acted-append : (d : DriveInput) (p : Path) (before xs ys : List Action) (found : Option BaseNode)
    → acted d p before found (xs ++ ys) ≡ acted d p (before ++ xs) (acted d p before found xs) ys
acted-append d p before [] ys found = ap (λ b. acted d p b found ys) (sym (append-nil before))
acted-append d p before (x ∷ xs) ys found =
    acted-append d p (before ++ x ∷ []) xs ys (act d p before x found)
    ∙ ap (λ b. acted d p b (acted d p (before ++ x ∷ []) (act d p before x found) xs) ys) (append_assoc before (x ∷ []) xs)

-- ---- the steps of one path

pub actions_at-append : (p : Path) (xs ys : List Step) → actions_at p (xs ++ ys) ≡ actions_at p xs ++ actions_at p ys
actions_at-append p xs ys =
    ap (map (λ (s : Step). s.action)) (filter-append (is_at p) xs ys)
    ∙ map-append (λ (s : Step). s.action) (filter (is_at p) xs) (filter (is_at p) ys)

actions-steps_at : (p : Path) (acts : List Action) → map (λ (s : Step). s.action) (steps_at p acts) ≡ acts
actions-steps_at p [] = refl
actions-steps_at p (a ∷ acts) = ap (λ (l : List Action). a ∷ l) (actions-steps_at p acts)

pub actions_at-drive : (d : DriveInput) (late : Bool) (steps : List Step) → IsDriveOf d late steps → (p : Path)
    → actions_at p steps ≡ path_actions d p
actions_at-drive d late steps k p = ap (map (λ (s : Step). s.action)) (k.at_each_path p) ∙ actions-steps_at p (path_actions d p)

-- a list of what each step at the path says is one of what the path's actions say
said_at : {X : Type 0} (said : List Step → List X) (say : Action → Option X) (p : Path) → said [] ≡ []
    → ((s : Step) (steps : List Step) → said (s ∷ steps) ≡ cond (path_eq s.path p) (cons_option (say s.action) (said steps)) (said steps))
    → (steps : List Step) → said steps ≡ filter_map say (actions_at p steps)
said_at said say p none more [] = none
said_at said say p none more (s ∷ steps) = more s steps ∙ by (path_eq s.path p) (said_at said say p none more steps)
  where
    by : (b : Bool) → said steps ≡ filter_map say (actions_at p steps)
        → cond b (cons_option (say s.action) (said steps)) (said steps)
        ≡ filter_map say (map (λ (s : Step). s.action) (cond b (s ∷ filter (is_at p) steps) (filter (is_at p) steps)))
    by true ih = ap (cons_option (say s.action)) ih
    by false ih = ih

pub changes_at-actions : (p : Path) (steps : List Step) → changes_at p steps ≡ changes_in (actions_at p steps)
changes_at-actions p = said_at (changes_at p) change_in p refl (λ s steps. refl)

pub texts_at-actions : (p : Path) (steps : List Step) → texts_at p steps ≡ texts_in (actions_at p steps)
texts_at-actions p = said_at (texts_at p) text_in p refl (λ s steps. refl)

-- the actions of a path, cut after the first steps of a drive
pub path_cut : (d : DriveInput) (late : Bool) (steps rest : List Step) → IsDriveOf d late (steps ++ rest) → (p : Path)
    → actions_at p steps ++ actions_at p rest ≡ path_actions d p
path_cut d late steps rest drive p = sym (actions_at-append p steps rest) ∙ actions_at-drive d late (steps ++ rest) drive p

-- and those of the path of a step, cut at the step
pub step_cut : (d : DriveInput) (late : Bool) (done : List Step) (s : Step) (rest : List Step) → IsDriveOf d late (done ++ s ∷ rest)
    → actions_at s.path done ++ s.action ∷ actions_at s.path rest ≡ path_actions d s.path
step_cut d late done s rest drive =
    ap (λ b. actions_at s.path done ++ map (λ (t : Step). t.action) (cond b (s ∷ filter (is_at s.path) rest) (filter (is_at s.path) rest)))
    (sym (path_eq-same s.path))
    ∙ path_cut d late done (s ∷ rest) drive s.path

-- ---- one more step

-- what the step does at its own path is what the path's own actions say
abbrev pub FitsAt : DriveInput → WorkingCopy → List Step → Step → Type 0
FitsAt d w' done s = stepped d.mode d.target done w' s.path s.action ≡ act d s.path (actions_at s.path done) s.action (w' s.path)

own_path_not_below : (p : Path) → is_below p p ≡ false
own_path_not_below p = ap (λ b. is_within p p && not b) (path_eq-same p) ∙ and-false (is_within p p)

pub state-more : (d : DriveInput) (w w' : WorkingCopy) (done : List Step) (s : Step)
    → ((p : Path) → w' p ≡ state d w done p)
    → FitsAt d w' done s
    → ((p : Path) → is_below s.path p ≡ true → is_delete s.action ≡ true → actions_at p done ≡ [])
    → (p : Path) → step_effect d.mode d.target done s w' p ≡ state d w (done ++ s ∷ []) p
state-more d w w' done s stands fits below p = by (path_eq s.path p) (is_within s.path p) refl refl
  where
    longer : state d w (done ++ s ∷ []) p
        ≡ acted d p [] (cond (is_deleted_above done p || (is_delete s.action && is_below s.path p)) None (w p))
        (actions_at p done ++ actions_at p (s ∷ []))
    longer =
        ap (λ b. acted d p [] (cond b None (w p)) (actions_at p (done ++ s ∷ [])))
        (list_any-append (λ t. is_delete t.action && is_below t.path p) done (s ∷ [])
        ∙ ap (λ b. is_deleted_above done p || b) (or-false (is_delete s.action && is_below s.path p)))
        ∙ ap (acted d p [] (cond (is_deleted_above done p || (is_delete s.action && is_below s.path p)) None (w p)))
        (actions_at-append p done (s ∷ []))

    -- elsewhere nothing changes
    elsewhere : path_eq s.path p ≡ false → (is_delete s.action && is_below s.path p) ≡ false → state d w (done ++ s ∷ []) p ≡ w' p
    elsewhere e b =
        longer
        ∙ ap (λ x. acted d p [] (cond (is_deleted_above done p || x) None (w p)) (actions_at p done ++ actions_at p (s ∷ []))) b
        ∙ ap (λ x. acted d p [] (cond x None (w p)) (actions_at p done ++ actions_at p (s ∷ []))) (or-false (is_deleted_above done p))
        ∙ ap (λ x. acted d p [] (base w done p) (actions_at p done ++ map (λ (s : Step). s.action) (cond x (s ∷ []) []))) e
        ∙ ap (acted d p [] (base w done p)) (append-nil (actions_at p done))
        ∙ sym (stands p)

    by : (a b : Bool) → path_eq s.path p ≡ a → is_within s.path p ≡ b
        → cond a (stepped d.mode d.target done w' s.path s.action) (cond b (below_after s.action (w' p)) (w' p))
        ≡ state d w (done ++ s ∷ []) p
    by true b e i =
        let at = same_path s.path p e in
        let below_own : (is_delete s.action && is_below s.path p) ≡ false =
        ap (λ q. is_delete s.action && is_below s.path q) (sym at) ∙ ap (λ x. is_delete s.action && x) (own_path_not_below s.path)
        ∙ and-false (is_delete s.action) in
        fits ∙ ap (λ q. act d q (actions_at q done) s.action (w' q)) at
        ∙ ap (act d p (actions_at p done) s.action) (stands p)
        ∙ sym (acted-append d p [] (actions_at p done) (s.action ∷ []) (base w done p))
        ∙ ap (λ x. acted d p [] (base w done p) (actions_at p done ++ map (λ (s : Step). s.action) (cond x (s ∷ []) []))) (sym e)
        ∙ ap (λ x. acted d p [] (cond x None (w p)) (actions_at p done ++ actions_at p (s ∷ []))) (sym (or-false (is_deleted_above done p)))
        ∙ ap (λ x. acted d p [] (cond (is_deleted_above done p || x) None (w p)) (actions_at p done ++ actions_at p (s ∷ [])))
        (sym below_own)
        ∙ sym longer
    by false false e i =
        sym (elsewhere e (ap (λ x. is_delete s.action && (x && not (path_eq s.path p))) i ∙ and-false (is_delete s.action)))
    by false true e i = by_delete (is_delete s.action) refl
      where
        is_lower : is_below s.path p ≡ true
        is_lower = ap (λ x. x && not (path_eq s.path p)) i ∙ ap not e

        kept_below : (a : Action) → is_delete a ≡ false → below_after a (w' p) ≡ w' p
        kept_below (Delete r) q = absurd (true≢false q)
        kept_below (Open k r) q = refl
        kept_below (Add k) q = refl
        kept_below (Change k c) q = refl
        kept_below (Text b t) q = refl
        kept_below (Close k c) q = refl

        gone_below : (a : Action) → is_delete a ≡ true → below_after a (w' p) ≡ None
        gone_below (Delete r) q = refl
        gone_below (Open k r) q = absurd (true≢false (sym q))
        gone_below (Add k) q = absurd (true≢false (sym q))
        gone_below (Change k c) q = absurd (true≢false (sym q))
        gone_below (Text b t) q = absurd (true≢false (sym q))
        gone_below (Close k c) q = absurd (true≢false (sym q))

        by_delete : (x : Bool) → is_delete s.action ≡ x → below_after s.action (w' p) ≡ state d w (done ++ s ∷ []) p
        by_delete false q = kept_below s.action q ∙ sym (elsewhere e (ap (λ x. x && is_below s.path p) q))
        by_delete true q =
            gone_below s.action q
            ∙ sym (longer
            ∙ ap (λ x. acted d p [] (cond (is_deleted_above done p || (x && is_below s.path p)) None (w p))
            (actions_at p done ++ actions_at p (s ∷ []))) q
            ∙ ap (λ x. acted d p [] (cond (is_deleted_above done p || x) None (w p)) (actions_at p done ++ actions_at p (s ∷ []))) is_lower
            ∙ ap (λ x. acted d p [] (cond x None (w p)) (actions_at p done ++ actions_at p (s ∷ []))) (or-true (is_deleted_above done p))
            ∙ ap (λ x. acted d p [] None (x ++ actions_at p (s ∷ []))) (below p is_lower q)
            ∙ ap (λ x. acted d p [] None (map (λ (s : Step). s.action) (cond x (s ∷ []) []))) e)
