use Rattle.std.proofs.Common.{ℕ, ◌+◌, List, ◌++◌, drop}
use Rattle.svn_wcdb.specs.declared.table.TableRow.{TableRow}
use Rattle.svn_image.specs.Items.{AreSchemaRows}
use Rattle.svn_image.proofs.schema.push_items.Given as goal

-- the rows so far are the schema's, if those of the other items follow
abbrev pub invariant-loop-i : goal.invariant-loop-i
invariant-loop-i l =
    (more : List ℕ) (others : List TableRow) → AreSchemaRows (l.i + 1) (drop l.i l.items) more others
    → AreSchemaRows 1 l.items (l.roots.items ++ more) (l.rows.items ++ others)
