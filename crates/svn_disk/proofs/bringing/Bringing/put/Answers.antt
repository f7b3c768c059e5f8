use Rattle.std.proofs.Common.{List, inl, subst, rules}
use Rattle.std.specs.Prelude.{codes, OnOk}
use Rattle.svn_types.specs.Names.{Path}
use Rattle.svn_types.proofs.NameLemmas.{Name}
use Rattle.svn_model.specs.declared.base_node.BaseNode.{BaseNode}
use Rattle.svn_folder.specs.States.{Seen}
use Rattle.svn_folder.specs.Files.{is_sync}
use Rattle.svn_disk.specs.Goes.{Goes, Keeps, Stops}
use Rattle.svn_disk.specs.Places.{is_inside}
use Rattle.svn_disk.specs.Crashes.{IsWhole, IsOneOf, IsSafe, IsBoth, Leads}
use Rattle.svn_disk.proofs.Going.{goes_more, keeps_more, stops_more, stops_there, keeps_wider, stops_wider}
use Rattle.svn_disk.proofs.Placing.{sync_inside}
use Rattle.svn_disk.proofs.Running.{runs_more, leads_more, breaks_more, breaks_there, leads_along, breaks_along}
use Rattle.svn_folder.specs.States.{seen}
use Rattle.svn_disk.specs.Goes.{IsAlways}
use Rattle.svn_disk.specs.Tasks.{work_nodes}
use Rattle.svn_disk.specs.Crashes.{IsTextIn}
use Rattle.svn_disk.specs.Ends.{Turns, EachNoted, AreCopied, AreReady, IsSame, IsExchanged}
use Rattle.svn_disk.proofs.Ends.{turns_known, ends_more, keeps_turns}
use Rattle.svn_disk.proofs.EndsCopy.{syncs_same}
use Rattle.svn_disk.proofs.EndsDone.{exchanged_more}
use Rattle.svn_disk.proofs.EndsChange.{ready_now, ready_exchanged}
use Rattle.svn_disk.proofs.bringing.Bringing.put.Goals as goal

one_of : (old new : List (Path × BaseNode)) (left : Seen) → IsWhole (codes ".svn") old left → IsOneOf old new left
one_of old new left whole = inl whole

-- ---- its steps

pub returns-in_err-settle_all-clause-steps : goal.returns-in_err-settle_all-clause-steps
returns-in_err-settle_all-clause-steps g c =
    let stops = stops_wider is_sync (is_inside (codes ".svn")) (sync_inside (codes ".svn")) (g.F.Folder.past c.args.folder.now.folder)
    (g.F.Folder.past c.settle_all.new.folder.folder) c.in_err-settle_all.ensures.steps.1 in search rules

pub returns-in_err-make_database-clause-steps : goal.returns-in_err-make_database-clause-steps
returns-in_err-make_database-clause-steps g c =
    let settled = keeps_wider is_sync (is_inside (codes ".svn")) (sync_inside (codes ".svn")) (g.F.Folder.past c.args.folder.now.folder)
    (g.F.Folder.past c.settle_all.new.folder.folder) c.in_ok-settle_all.ensures.steps.0 in
    let stops = stops_more settled
    (subst (λ (n : Name). Stops (is_inside n) (g.F.Folder.past c.settle_all.new.folder.folder) (g.F.Folder.past c.make_database.new.folder.folder)) c.requires.name
    c.in_err-make_database.ensures.steps.1) in search rules

pub returns-in_err-_lock-clause-steps : goal.returns-in_err-_lock-clause-steps
returns-in_err-_lock-clause-steps g c =
    let settled = keeps_wider is_sync (is_inside (codes ".svn")) (sync_inside (codes ".svn")) (g.F.Folder.past c.args.folder.now.folder)
    (g.F.Folder.past c.settle_all.new.folder.folder) c.in_ok-settle_all.ensures.steps.0 in
    let stops = stops_there (keeps_more settled
    (subst (λ (n : Name). Keeps (is_inside n) (g.F.Folder.past c.settle_all.new.folder.folder) (g.F.Folder.past c.make_database.new.folder.folder)) c.requires.name
    c.in_ok-make_database.ensures.steps.0)) in search rules

pub returns-clause-steps : goal.returns-clause-steps
returns-clause-steps g c =
    let settled = keeps_wider is_sync (is_inside (codes ".svn")) (sync_inside (codes ".svn")) (g.F.Folder.past c.args.folder.now.folder)
    (g.F.Folder.past c.settle_all.new.folder.folder) c.in_ok-settle_all.ensures.steps.0 in
    goes_more (g.F.Folder.past c.put_database.new.folder.folder) c.put_database.result
    (keeps_more settled
    (subst (λ (n : Name). Keeps (is_inside n) (g.F.Folder.past c.settle_all.new.folder.folder) (g.F.Folder.past c.make_database.new.folder.folder)) c.requires.name
    c.in_ok-make_database.ensures.steps.0))
    (subst (λ (n : Name). Goes (is_inside n) (g.F.Folder.past c.make_database.new.folder.folder) c.put_database.result
    (g.F.Folder.past c.put_database.new.folder.folder)) c.requires.name c.put_database.ensures.steps)

-- ---- a crash

pub returns-in_err-settle_all-clause-crash : goal.returns-in_err-settle_all-clause-crash
returns-in_err-settle_all-clause-crash g c = λ sync old are.
    let new = c.args.ready.now.images.nodes.items in
    let stops = breaks_along (λ s safe. safe) (one_of old new)
    (c.in_err-settle_all.ensures.crash sync old are).1 in search rules

pub returns-in_err-make_database-clause-crash : goal.returns-in_err-make_database-clause-crash
returns-in_err-make_database-clause-crash g c = λ sync old are.
    let new = c.args.ready.now.images.nodes.items in
    let settled = leads_along (λ s safe. safe) (one_of old new) (λ s both. both)
    (subst (λ (xs : List (Path × BaseNode)). Leads (IsSafe (codes ".svn") old) (IsWhole (codes ".svn") old) (IsBoth old xs) (g.F.Folder.past c.args.folder.now.folder)
    (g.F.Folder.past c.settle_all.new.folder.folder)) c.deref.ensures.value (c.in_ok-settle_all.ensures.crash sync old are).0) in
    let stops = breaks_more settled (c.in_err-make_database.ensures.crash sync c.requires.name old new c.requires.image).1 in search rules

pub returns-in_err-_lock-clause-crash : goal.returns-in_err-_lock-clause-crash
returns-in_err-_lock-clause-crash g c = λ sync old are.
    let new = c.args.ready.now.images.nodes.items in
    let settled = leads_along (λ s safe. safe) (one_of old new) (λ s both. both)
    (subst (λ (xs : List (Path × BaseNode)). Leads (IsSafe (codes ".svn") old) (IsWhole (codes ".svn") old) (IsBoth old xs) (g.F.Folder.past c.args.folder.now.folder)
    (g.F.Folder.past c.settle_all.new.folder.folder)) c.deref.ensures.value (c.in_ok-settle_all.ensures.crash sync old are).0) in
    let stops = breaks_there (leads_more settled (c.in_ok-make_database.ensures.crash sync c.requires.name old new c.requires.image).0) in search rules

pub returns-clause-crash : goal.returns-clause-crash
returns-clause-crash g c = λ sync old are.
    let new = c.args.ready.now.images.nodes.items in
    let settled = leads_along (λ s safe. safe) (one_of old new) (λ s both. both)
    (subst (λ (xs : List (Path × BaseNode)). Leads (IsSafe (codes ".svn") old) (IsWhole (codes ".svn") old) (IsBoth old xs) (g.F.Folder.past c.args.folder.now.folder)
    (g.F.Folder.past c.settle_all.new.folder.folder)) c.deref.ensures.value (c.in_ok-settle_all.ensures.crash sync old are).0) in
    runs_more (IsSafe (codes ".svn") new) (g.F.Folder.past c.put_database.new.folder.folder) c.put_database.result
    (leads_more settled (c.in_ok-make_database.ensures.crash sync c.requires.name old new c.requires.image).0)
    (c.put_database.ensures.crash sync c.requires.name old new)

-- ---- what is there in the end

pub returns-clause-ends : goal.returns-clause-ends
returns-clause-ends g c = λ copy work few are noted.
    let nodes = work_nodes copy work in
    let now = g.F.Folder.past c.settle_all.new.folder.folder in
    let m = c.args.self.now.admin.now.name in
    let coming = subst (λ (xs : List (Path × BaseNode)). IsAlways (λ s. EachNoted c.args.ready.now.sizes.entries (IsTextIn (codes ".svn") (seen s)) xs) now)
    c.deref.ensures.value c.in_ok-settle_all.ensures.coming in
    let settled = keeps_turns IsSame is_sync (g.F.Folder.past c.args.folder.now.folder) now syncs_same c.in_ok-settle_all.ensures.steps.0 in
    let replaced = subst (λ (n : Name). OnOk c.put_database.result (Turns (IsExchanged n) now (g.F.Folder.past c.put_database.new.folder.folder))) c.requires.name
    (ends_more (IsExchanged m) (IsExchanged m) (g.F.Folder.past c.put_database.new.folder.folder) c.put_database.result (exchanged_more m)
    c.in_ok-make_database.ensures.ends c.put_database.ensures.ends) in
    ends_more (IsExchanged (codes ".svn")) (λ a b. AreCopied (codes ".svn") 0 nodes a → AreReady (codes ".svn") 0 nodes b)
    (g.F.Folder.past c.put_database.new.folder.folder) c.put_database.result
    (λ a b x ready exchanged copied. ready_exchanged copy work b x few exchanged (ready copied))
    (turns_known (λ s. EachNoted c.args.ready.now.sizes.entries (IsTextIn (codes ".svn") (seen s)) c.args.ready.now.images.nodes.items) IsSame
    (λ a b. AreCopied (codes ".svn") 0 nodes a → AreReady (codes ".svn") 0 nodes b) (g.F.Folder.past c.args.folder.now.folder) now coming
    (λ a s each same copied. ready_now c.args.ready.now.sizes.entries copy c.args.ready.now.images.nodes.items work a (seen s) are noted each same copied) settled)
    replaced
