use Rattle.std.proofs.Common.{refl}
use Rattle.svn_types.proofs.PathKeys.{path_key-child, plain_child}
use Rattle.svn_types.proofs.path_parts.PathParts.child.Goals as goal

pub invariant_of-pieces-clause-key : goal.invariant_of-pieces-clause-key
invariant_of-pieces-clause-key c =
    rw (c.from_ref.ensures.value, c.requires.key, c.as_str.ensures.value, path_key-child) refl

pub invariant_of-pieces-clause-plain : goal.invariant_of-pieces-clause-plain
invariant_of-pieces-clause-plain c =
    rw c.from_ref.ensures.value (plain_child c.args.above.now c.args.last.now c.requires.plain c.as_str.ensures.name)
