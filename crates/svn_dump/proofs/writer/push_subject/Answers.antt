use Rattle.std.proofs.Common.{codes, ap}
use Rattle.std.proofs.lemmas.Result.{on_ok_weaker}
use Rattle.svn_types.specs.PathTexts.{path_text}
use Rattle.svn_dump.specs.Written.{line, kind_line, action_word, source_lines}
use Rattle.svn_dump.proofs.Appends.{four_appended, same_piece}
use Rattle.svn_dump.proofs.writer.push_subject.Goals as goal

pub returns : goal.returns
returns c =
    let node = c.args.node.now in
    let action = line (codes "Node-action") (action_word node.action) in
    on_ok_weaker c.push_source.result
    (λ source. four_appended c.args.out.now.items (line (codes "Node-path") (path_text node.path)) (kind_line node.kind) action (source_lines node.source)
    c.push_path_line.new.out.items c.push_kind.new.out.items c.push_line.new.out.items c.push_source.new.out.items
    c.in_ok-push_path_line.ensures c.in_ok-push_kind.ensures
    (same_piece c.push_kind.new.out.items c.push_line.new.out.items (line (codes "Node-action") c.word_of.result.now) action c.in_ok-push_line.ensures
    (ap (line (codes "Node-action")) c.word_of.ensures)) source)
    c.push_source.ensures
