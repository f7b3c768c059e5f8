use Rattle.svn_folder.specs.Marking.{marks_of}
use Rattle.svn_folder.specs.Syncing.{AreWithin}
use Rattle.svn_folder.proofs.Unsyncing.{within_chain, file_made}
use Rattle.svn_folder.proofs.unsynced.Unsynced.begin_file.Goals as goal

pub returns-clause-enough : goal.returns-clause-enough
returns-clause-enough c =
    let old = marks_of c.args.self.now in
    let named = marks_of c.mark_name.new.self in
    let all = marks_of c.mark_bytes.new.self in
    let more : AreWithin old named = c.in_ok-mark_name.ensures.more in
    let rest : AreWithin named all = c.in_ok-mark_bytes.ensures.more in
    file_made old all (within_chain old named all more rest) c.args.path.now ((rest _).1 c.in_ok-mark_name.ensures.marked) c.in_ok-mark_bytes.ensures.marked
