use Rattle.svn_dump.proofs.RecordLemmas.{whole_node}
use Rattle.svn_dump.proofs.reader.read_node.Goals as goal

pub returns-clause-bytes : goal.returns-clause-bytes
returns-clause-bytes g c =
    whole_node c.args.keeping.limits c.args.keeping.texts c.args.headers.now (g.S.Input.remaining c.args.source.now) (g.S.Input.remaining c.read_prop_section.new.source)
    (g.S.Input.remaining c.read_text_section.new.source) c.in_ok-node.node c.in_ok-shape.shape c.in_ok-node-2.field-0 c.in_ok-node-3.field-0
    c.in_ok-node.ensures c.in_ok-shape.ensures c.in_ok-node-2.ensures.bytes c.in_ok-node-3.ensures.bytes
