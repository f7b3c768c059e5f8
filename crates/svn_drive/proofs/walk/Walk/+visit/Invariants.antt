use Rattle.std.proofs.Common.{◌≡◌, ◌-◌, ◌*◌, ◌+◌, ◌++◌, List, length}
use Rattle.std.specs.List.{AllByRecursion}
use Rattle.svn_editor.specs.declared.call.Call.{Call}
use Rattle.svn_editor.specs.Editing.{Leads}
use Rattle.svn_model.specs.Ends.{Makes}
use Rattle.svn_model.specs.Tree.{names_below}
use Rattle.svn_model.specs.TreeCalls.{in_turn, sizes, visit_calls, visit_size}
use Rattle.svn_drive.specs.Children.{IsChild, names_of}
use Rattle.svn_drive.specs.Waiting.{waiting, visit_late}
use Rattle.svn_drive.specs.Walking.{IsKnown, request_of, late_texts_of, limit_of}
use Rattle.svn_drive.proofs.walk.Walk.+visit.Given as goal

-- a path has at most 128 names, and a place comes before those below it
abbrev pub decreases-visit : goal.decreases-visit
decreases-visit g l = 3 * (129 - length l.place.now.here.path) + 2

abbrev pub decreases-visit_entered : goal.decreases-visit_entered
decreases-visit_entered g l = 3 * (129 - length l.place.now.here.path) + 1

abbrev pub decreases-visit_below : goal.decreases-visit_below
decreases-visit_below g l = 3 * (129 - length l.place.now.here.path)

-- what was called so far, and what is left, are together the calls of all names, and so is what waits
abbrev pub invariant-visit_below-loop-below : goal.invariant-visit_below-loop-below
invariant-visit_below-loop-below g l =
    let d = request_of l.self in
    let calls = in_turn (λ q n. visit_calls d (late_texts_of l.self) q l.token n) (visit_size d) l.place.here.path in
    let lates = in_turn (λ q n. visit_late d (late_texts_of l.self) q l.token n) (visit_size d) l.place.here.path in
    let size = sizes (visit_size d) l.place.here.path in
    let left = names_of l.below-iterator.rest.items in
    let all = names_below d l.place.here.path in
    (done : List Call)
    × Leads g.E.Editor.answers done l.initial.editor l.editor
    × Makes (limit_of l.self) l.initial.progress.made (length done) l.progress.made
    × (done ++ calls l.progress.next left ≡ calls l.initial.progress.next all)
    × (l.progress.next + size left ≡ l.initial.progress.next + size all)
    × (waiting l.self.repo.now l.later.items ++ lates l.progress.next left
    ≡ waiting l.self.repo.now l.initial.later.items ++ lates l.initial.progress.next all)
    × AllByRecursion (IsChild d l.place) l.below-iterator.rest.items
    × IsKnown d l.place l.known
