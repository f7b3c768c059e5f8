use Rattle.std.proofs.Common.{rules, ◌≡◌, ◌<◌, suc, List, [], ◌∷◌, ◌++◌, length, append-nil, sym, ◌∙◌, ap, subst, arith}
use Rattle.std.specs.List.{AllByRecursion}
use Rattle.svn_lists.proofs.Every.{all-append}
use Rattle.svn_types.specs.Paths.{child}
use Rattle.svn_model.specs.Tree.{names_below}
use Rattle.svn_types.proofs.NameLemmas.{Name}
use Rattle.svn_drive.specs.declared.child_names.Below.{Below}
use Rattle.svn_drive.specs.NamesLeft.{TakesChild, names_left}
use Rattle.svn_drive.specs.Children.{IsChild, names_of}
use Rattle.svn_drive.specs.Walking.{IsIdle, request_of}
use Rattle.svn_drive.proofs.NamesLeft.{none_left, left_step, step_under, step_kept}
use Rattle.svn_drive.proofs.SkippedNames.{walk_same, walk_then, walk_skips, kept_last}
use Rattle.svn_drive.proofs.walk.Walk.children.Goals as goal

pub is_idle_child-requires-clause-below : goal.is_idle_child-requires-clause-below
is_idle_child-requires-clause-below c =
    let taken : TakesChild c.names.left c.in-Some.below.name.now c.in-Some.below c.take_first.new.self = search rules in
    step_under (request_of c.args.self.now) c.args.place.now c.names.left c.in-Some.below.name.now c.in-Some.below c.take_first.new.self
    c.names.invariant.left taken

-- one name fewer is left
pub names-smaller : goal.names-smaller
names-smaller c =
    let taken : TakesChild c.names.left c.in-Some.below.name.now c.in-Some.below c.take_first.new.self = search rules in
    let step : length (names_left c.names.left) ≡ suc (length (names_left c.take_first.new.self)) =
    ap length
    (left_step (request_of c.args.self.now) c.args.place.now c.names.left c.in-Some.below.name.now c.in-Some.below c.take_first.new.self
    c.names.invariant.left taken) in
    let less : length (names_left c.take_first.new.self) < length (names_left c.names.left) = omega (arith, step) in
    less

pub names-smaller-then-is_idle_child : goal.names-smaller-then-is_idle_child
names-smaller-then-is_idle_child c =
    let taken : TakesChild c.names.left c.in-Some.below.name.now c.in-Some.below c.take_first.new.self = search rules in
    let step : length (names_left c.names.left) ≡ suc (length (names_left c.take_first.new.self)) =
    ap length
    (left_step (request_of c.args.self.now) c.args.place.now c.names.left c.in-Some.below.name.now c.in-Some.below c.take_first.new.self
    c.names.invariant.left taken) in
    let less : length (names_left c.take_first.new.self) < length (names_left c.names.left) = omega (arith, step) in
    less

pub names-init : goal.names-init
names-init c =
    let d = request_of c.args.self.now in
    let none : c.new-children.result.items ≡ [] = c.new-children.ensures.items in
    record {
      left = c.names_left-left.ensures.under;
      same =
          walk_same d c.args.place.now.here.path (names_below d c.args.place.now.here.path)
          (names_of c.new-children.result.items ++ names_left c.names_left-left.result)
          (sym c.names_left-left.ensures.all ∙ ap (λ (l : List Below). names_of l ++ names_left c.names_left-left.result) (sym none));
      under = subst (AllByRecursion (IsChild d c.args.place.now)) (sym none) tt;
    }

pub names-preserved : goal.names-preserved
names-preserved c =
    let taken : TakesChild c.names.left c.in-Some.below.name.now c.in-Some.below c.take_first.new.self = search rules in
    let d = request_of c.args.self.now in
    let inv = c.names.invariant in
    let n : Name = c.in-Some.below.name.now in
    let done : List Name = names_of c.names.children.items in
    let step : names_left c.names.left ≡ n ∷ names_left c.take_first.new.self =
    left_step d c.args.place.now c.names.left n c.in-Some.below c.take_first.new.self inv.left taken in
    let pushed : c.push.new.self.items ≡ c.names.children.items ++ c.in-Some.below ∷ [] = search rules in
    record {
      left = step_kept d c.args.place.now c.names.left n c.in-Some.below c.take_first.new.self inv.left taken;
      same =
          walk_then d c.args.place.now.here.path (names_below d c.args.place.now.here.path) (done ++ names_left c.names.left)
          (names_of c.push.new.self.items ++ names_left c.take_first.new.self) inv.same
          (walk_same d c.args.place.now.here.path (done ++ names_left c.names.left)
          (names_of c.push.new.self.items ++ names_left c.take_first.new.self)
          (ap (λ (l : List Name). done ++ l) step
          ∙ ap (λ (m : Name). done ++ m ∷ names_left c.take_first.new.self) (sym taken.named)
          ∙ kept_last c.names.children.items c.in-Some.below (names_left c.take_first.new.self)
          ∙ ap (λ (l : List Below). names_of l ++ names_left c.take_first.new.self) (sym pushed)));
      under =
          subst (AllByRecursion (IsChild d c.args.place.now)) (sym pushed)
          (all-append (IsChild d c.args.place.now) c.names.children.items (c.in-Some.below ∷ []) inv.under (
            record {
              under =
                  step_under d c.args.place.now c.names.left n c.in-Some.below c.take_first.new.self inv.left taken;
              room = c.is_idle_child.ensures.room c.if-is_idle_child.false;
            },
            tt,
          ));
    }

-- a name that is passed over
pub names-preserved-then-is_idle_child : goal.names-preserved-then-is_idle_child
names-preserved-then-is_idle_child c =
    let taken : TakesChild c.names.left c.in-Some.below.name.now c.in-Some.below c.take_first.new.self = search rules in
    let d = request_of c.args.self.now in
    let inv = c.names.invariant in
    let n : Name = c.in-Some.below.name.now in
    let done : List Name = names_of c.names.children.items in
    let step : names_left c.names.left ≡ n ∷ names_left c.take_first.new.self =
    left_step d c.args.place.now c.names.left n c.in-Some.below c.take_first.new.self inv.left taken in
    let idle : IsIdle d (child c.args.place.now.here.path n) =
    subst (λ (m : Name). IsIdle d (child c.args.place.now.here.path m)) taken.named
    (c.is_idle_child.ensures.idle c.if-is_idle_child.true) in
    record {
      left = step_kept d c.args.place.now c.names.left n c.in-Some.below c.take_first.new.self inv.left taken;
      same =
          walk_then d c.args.place.now.here.path (names_below d c.args.place.now.here.path) (done ++ names_left c.names.left)
          (done ++ names_left c.take_first.new.self) inv.same
          (walk_then d c.args.place.now.here.path (done ++ names_left c.names.left) (done ++ n ∷ names_left c.take_first.new.self)
          (done ++ names_left c.take_first.new.self)
          (walk_same d c.args.place.now.here.path (done ++ names_left c.names.left) (done ++ n ∷ names_left c.take_first.new.self)
          (ap (λ (l : List Name). done ++ l) step))
          (walk_skips d c.args.place.now.here.path done n (names_left c.take_first.new.self) idle));
      under = inv.under;
    }

pub returns : goal.returns
returns c =
    let d = request_of c.args.self.now in
    let inv = c.names.invariant in
    let done : List Name = names_of c.names.children.items in
    let none : names_left c.names.left ≡ [] = none_left c.names.left (search rules) in
    record {
      same =
          walk_then d c.args.place.now.here.path (names_below d c.args.place.now.here.path) (done ++ names_left c.names.left) done inv.same
          (walk_same d c.args.place.now.here.path (done ++ names_left c.names.left) done
          (ap (λ (l : List Name). done ++ l) none ∙ append-nil done));
      under = inv.under;
    }
