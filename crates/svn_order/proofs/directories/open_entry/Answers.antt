use Rattle.std.proofs.Common.{sym, ◌∙◌, true≢false, arith}
use Rattle.svn_order.specs.Directories.{InsertsOpened, entry_name}
use Rattle.svn_order.proofs.Changes.{entry_set, entry_beyond}
use Rattle.svn_order.proofs.directories.open_entry.Goals as goal

pub returns-in_ok-insert_opened : goal.returns-in_ok-insert_opened
returns-in_ok-insert_opened c = λ h.
    entry_set InsertsOpened c.args.directories.now.items c.args.path.now c.in-Some.above.now c.in-Some.name.now c.index_mut.result.now
    c.insert_opened.new.directory c.in-Some.ensures (omega arith) c.index_mut.ensures.value c.in_ok-insert_opened.ensures.shown
    c.in_ok-insert_opened.ensures

pub returns-else-place-len : goal.returns-else-place-len
returns-else-place-len c = λ h.
    entry_beyond (InsertsOpened (entry_name c.args.path.now)) c.args.directories.now.items c.args.path.now c.in-Some.above.now
    c.in-Some.name.now c.in-Some.ensures (omega arith)

pub returns-in_default : goal.returns-in_default
returns-in_default c = λ h. absurd (true≢false (sym c.in_default.ensures ∙ h))
