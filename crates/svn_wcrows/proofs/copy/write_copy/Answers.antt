use Rattle.std.proofs.Common.{◌∙◌, ap, sym}
use Rattle.svn_wcrows.proofs.NodeEquality.{same_nodes}
use Rattle.svn_wcdb.specs.Bases.{seen_base, base_tree_of}
use Rattle.svn_wcrows.proofs.copy.write_copy.Goals as goal

pub returns-then-eq : goal.returns-then-eq
returns-then-eq c =
    record {
      written = c.in_ok-bytes.ensures;
      stands = record {
        base = seen_base c.in-Ok.tree;
        read = ap base_tree_of (sym c.deref.ensures.value) ∙ c.in-Ok.ensures;
        nodes_are = sym c.as_slice.ensures.value ∙ same_nodes c.as_slice.result.now c.args.nodes.now (sym c.if-eq.ensures);
      };
    }
