use Rattle.std.proofs.Common.{append-nil}
use Rattle.svn_types.proofs.PathKeys.{path_key-append, plain_append}
use Rattle.svn_types.proofs.rel_path.RelPath.joined.Goals as goal

pub invariant_of-pieces-clause-key : goal.invariant_of-pieces-clause-key
invariant_of-pieces-clause-key c =
    rw (c.components.ensures.names, c.components-2.ensures.names, c.key.ensures.key, c.key-2.ensures.key, path_key-append) (append-nil _)

pub invariant_of-pieces-clause-plain : goal.invariant_of-pieces-clause-plain
invariant_of-pieces-clause-plain c =
    rw (c.components.ensures.names, c.components-2.ensures.names)
    (plain_append c.args.self.now c.args.below.now c.key.ensures.plain c.key-2.ensures.plain)
