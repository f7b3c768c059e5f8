use Rattle.std.proofs.Common.{◌≡◌, List, inr, min, length, subst, sym, ◌∙◌, arith, rules}
use Rattle.std.specs.Prelude.{codes}
use Rattle.svn_types.specs.Names.{Path}
use Rattle.svn_model.specs.declared.base_node.BaseNode.{BaseNode}
use Rattle.svn_wcrows.specs.Copies.{StandsFor}
use Rattle.svn_disk.specs.Places.{is_either}
use Rattle.svn_disk.specs.Crashes.{IsOneOf, IsWhole, IsSafe, AreOfNodes, Breaks, Leads}
use Rattle.svn_disk.proofs.Going.{goes_more}
use Rattle.svn_disk.proofs.Running.{runs_more, runs_along}
use Rattle.svn_disk.proofs.Changing.{inside_keeps, inside_stops, work_outside}
use Rattle.svn_disk.proofs.Replacing.{one_none}
use Rattle.svn_disk.specs.Spared.{texts_of_either}
use Rattle.svn_disk.specs.Finding.{has_word}
use Rattle.svn_disk.proofs.Sparing.{inside_keeps_in, inside_stops_in, goes_in_more, spares_more}
use Rattle.svn_disk.specs.Tasks.{removals_in, makings_in, work_nodes}
use Rattle.svn_disk.specs.Crashes.{AreNodesOf}
use Rattle.svn_disk.specs.Ends.{Turns, AreCopied, AreReady, AreCarried, EachDone}
use Rattle.svn_disk.proofs.Ends.{ends_more}
use Rattle.svn_disk.proofs.EndsDone.{few_left, carried_done}
use Rattle.svn_disk.proofs.bringing.Bringing.change.Goals as goal

pub put-requires-clause-image : goal.put-requires-clause-image
put-requires-clause-image g c =
    subst (λ (xs : List (Path × BaseNode)). StandsFor xs c.in_ok-image.image.items) (sym (c.after.ensures.nodes ∙ c.next.ensures.nodes)) c.in_ok-image.ensures.image

pub carry_on-requires-clause-outside : goal.carry_on-requires-clause-outside
carry_on-requires-clause-outside g c =
    work_outside c.args.self.now.existing.now.copy c.args.self.now.wanted.now.copy c.args.task.now.work.items c.requires.task

pub returns-in_err-known-clause-crash : goal.returns-in_err-known-clause-crash
returns-in_err-known-clause-crash g c = λ sync old are.
    let stops = one_none old c.args.ready.images.nodes.items (g.F.Folder.past c.args.folder.now.folder) in search rules

pub returns-in_err-image-clause-crash : goal.returns-in_err-image-clause-crash
returns-in_err-image-clause-crash g c = λ sync old are.
    let stops = one_none old c.args.ready.images.nodes.items (g.F.Folder.past c.args.folder.now.folder) in search rules

pub returns-in_err-first-clause-crash : goal.returns-in_err-first-clause-crash
returns-in_err-first-clause-crash g c = λ sync old are.
    let stops = one_none old c.args.ready.images.nodes.items (g.F.Folder.past c.args.folder.now.folder) in search rules

pub returns-in_err-databases-clause-crash : goal.returns-in_err-databases-clause-crash
returns-in_err-databases-clause-crash g c = λ sync old are.
    let stops = one_none old c.args.ready.images.nodes.items (g.F.Folder.past c.args.folder.now.folder) in search rules

pub returns-in_err-put-clause-steps : goal.returns-in_err-put-clause-steps
returns-in_err-put-clause-steps g c =
    let stops = inside_stops (codes ".svn") (is_either c.args.self.now.existing.now.copy c.args.self.now.wanted.now.copy) c.in_err-put.ensures.steps.1 in search rules

pub returns-in_err-put-clause-crash : goal.returns-in_err-put-clause-crash
returns-in_err-put-clause-crash g c = λ sync old are.
    let stops = subst (λ (xs : List (Path × BaseNode)). Breaks (IsSafe (codes ".svn") old) (IsOneOf old xs) (g.F.Folder.past c.args.folder.now.folder)
    (g.F.Folder.past c.put.new.folder.folder)) (c.after.ensures.nodes ∙ c.next.ensures.nodes) (c.in_err-put.ensures.crash sync old are).1 in search rules

pub returns-clause-steps : goal.returns-clause-steps
returns-clause-steps g c =
    let free = is_either c.args.self.now.existing.now.copy c.args.self.now.wanted.now.copy in
    goes_more (g.F.Folder.past c.carry_on.new.folder.folder) c.carry_on.result (inside_keeps (codes ".svn") free c.in_ok-put.ensures.steps.0)
    (c.carry_on.ensures.steps free c.requires.task)

pub returns-clause-crash : goal.returns-clause-crash
returns-clause-crash g c = λ sync old are.
    let new = c.args.ready.images.nodes.items in
    let put = subst (λ (xs : List (Path × BaseNode)). Leads (IsSafe (codes ".svn") old) (IsOneOf old xs) (IsSafe (codes ".svn") xs)
    (g.F.Folder.past c.args.folder.now.folder) (g.F.Folder.past c.put.new.folder.folder)) (c.after.ensures.nodes ∙ c.next.ensures.nodes)
    (c.in_ok-put.ensures.crash sync old are).0 in
    let images = subst (λ (xs : List (Path × BaseNode)). AreOfNodes xs c.in_ok-databases.databases) c.next.ensures.nodes c.in_ok-databases.ensures.images in
    runs_more (IsSafe (codes ".svn") new) (g.F.Folder.past c.carry_on.new.folder.folder) c.carry_on.result put
    (runs_along (IsSafe (codes ".svn") new) (IsSafe (codes ".svn") new) (IsSafe (codes ".svn") new) (IsSafe (codes ".svn") new) (IsWhole (codes ".svn") new)
    (IsOneOf old new) (λ s safe. safe) (λ left whole. inr whole) (λ s safe. safe) (g.F.Folder.past c.put.new.folder.folder)
    (g.F.Folder.past c.carry_on.new.folder.folder) c.carry_on.result (c.carry_on.ensures.crash sync new images))

pub returns-in_err-put-clause-spares : goal.returns-in_err-put-clause-spares
returns-in_err-put-clause-spares g c =
    let known = texts_of_either c.args.self.now.existing.now.tables.pristine.items c.args.self.now.wanted.now.copy in
    let stops = inside_stops_in known (codes ".svn") (g.F.Folder.past c.args.folder.now.folder) (g.F.Folder.past c.put.new.folder.folder) c.in_err-put.ensures.steps.1 in
    search rules

pub returns-clause-spares : goal.returns-clause-spares
returns-clause-spares g c =
    let known = texts_of_either c.args.self.now.existing.now.tables.pristine.items c.args.self.now.wanted.now.copy in
    goes_in_more (g.F.Folder.past c.carry_on.new.folder.folder) c.carry_on.result
    (inside_keeps_in known (codes ".svn") (g.F.Folder.past c.args.folder.now.folder) (g.F.Folder.past c.put.new.folder.folder) c.in_ok-put.ensures.steps.0)
    (spares_more (has_word c.in_ok-known.known) known c.in_ok-known.ensures (codes ".svn") (g.F.Folder.past c.put.new.folder.folder)
    (g.F.Folder.past c.carry_on.new.folder.folder) c.carry_on.result c.carry_on.ensures.spares)

pub returns-clause-ends : goal.returns-clause-ends
returns-clause-ends g c = λ parted distinct are files noted.
    let copy = c.args.self.now.wanted.now.copy in
    let task = c.args.task.now in
    let work = makings_in task in
    let counted = c.len-count.ensures in
    let whole = task.work.ok.0 in
    let few = few_left (min task.removals (length task.work.items)) task.work.items (omega (arith, counted, whole)) in
    let same = subst (AreNodesOf copy) (sym (c.after.ensures.nodes ∙ c.next.ensures.nodes)) are in
    ends_more (AreCarried (codes ".svn") (removals_in task) work)
    (λ a x. AreCopied (codes ".svn") 0 (work_nodes copy work) a → EachDone copy task.work.items task.work.items x) (g.F.Folder.past c.carry_on.new.folder.folder)
    c.carry_on.result
    (λ a b x ready carried copied.
    carried_done copy (min task.removals (length task.work.items)) task.work.items b x parted.removals parted.makings files (ready copied) carried)
    (c.in_ok-put.ensures.ends copy work few same noted) (c.carry_on.ensures.ends distinct)
