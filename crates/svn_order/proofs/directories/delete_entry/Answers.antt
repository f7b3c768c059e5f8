use Rattle.std.proofs.Common.{sym, ◌∙◌, true≢false, arith}
use Rattle.svn_order.specs.Directories.{InsertsDeleted, entry_name}
use Rattle.svn_order.proofs.Changes.{entry_set, entry_beyond}
use Rattle.svn_order.proofs.directories.delete_entry.Goals as goal

pub returns-in_ok-insert_deleted : goal.returns-in_ok-insert_deleted
returns-in_ok-insert_deleted c = λ h.
    entry_set InsertsDeleted c.args.directories.now.items c.args.path.now c.in-Some.above.now c.in-Some.name.now c.index_mut.result.now
    c.insert_deleted.new.directory c.in-Some.ensures (omega arith) c.index_mut.ensures.value c.in_ok-insert_deleted.ensures.shown
    c.in_ok-insert_deleted.ensures

pub returns-else-place-len : goal.returns-else-place-len
returns-else-place-len c = λ h.
    entry_beyond (InsertsDeleted (entry_name c.args.path.now)) c.args.directories.now.items c.args.path.now c.in-Some.above.now
    c.in-Some.name.now c.in-Some.ensures (omega arith)

pub returns-in_default : goal.returns-in_default
returns-in_default c = λ h. absurd (true≢false (sym c.in_default.ensures ∙ h))
