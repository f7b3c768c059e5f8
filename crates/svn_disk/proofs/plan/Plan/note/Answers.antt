use Rattle.std.proofs.Common.{◌≡◌, Some, subst, sym}
use Rattle.std.specs.BTreeMap.{is_at}
use Rattle.std.specs.Map.{lookup}
use Rattle.std.specs.Option.{option_copied}
use Rattle.svn_types.specs.Names.{Path, path_cmp}
use Rattle.svn_model.specs.Nodes.{get_in}
use Rattle.svn_disk.specs.Changes.{IsPlanned}
use Rattle.svn_disk.proofs.EachChange.{is_change_at, planned_here, stay_planned}
use Rattle.svn_disk.proofs.plan.Plan.note.Goals as goal

planned : goal.returns-clause-planned
planned c =
    let old = c.args.self.now.was.now in
    let new = c.args.self.now.wanted.now in
    let more = c.insert.new.self.entries in
    let p = c.args.path.now in
    planned_here old new more p c.in-Some.change
    (subst (λ (q : Path). lookup (is_at (path_cmp q)) more ≡ Some c.in-Some.change) c.in_ok-clone.ensures.cases c.in_ok-insert.ensures.updates.1)
    (is_change_at (get_in old p) (get_in new p) (option_copied c.get.result) (option_copied c.get-2.result) c.in-Some.change c.get.ensures c.get-2.ensures
    c.in-Some.ensures.some)

pub returns-clause-planned : goal.returns-clause-planned
returns-clause-planned c = planned c

pub returns-clause-stay : goal.returns-clause-stay
returns-clause-stay c =
    let old = c.args.self.now.was.now in
    let new = c.args.self.now.wanted.now in
    let more = c.insert.new.self.entries in
    let here : IsPlanned old new more c.in_ok-clone.field-0 = subst (IsPlanned old new more) (sym c.in_ok-clone.ensures.cases) (planned c) in
    stay_planned old new c.args.self.now.changes.entries more c.in_ok-clone.field-0 c.in-Some.change c.in_ok-insert.ensures.updates.0 (λ was. here)
