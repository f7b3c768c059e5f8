use Rattle.std.proofs.Common.{refl}
use Rattle.svn_wcrows.specs.declared.tables.Table.TheVariants.{Repository, Wcroot, Pristine, ActualNode, Lock, WorkQueue, WcLock, Nodes, Externals}
use Rattle.svn_wcrows.proofs.database.items_of.Goals as goal

pub returns : goal.returns
returns c Repository = record { place = 0; item = c.table.result; found = refl; is_table = c.table.ensures }
returns c Wcroot = record { place = 5; item = c.table-2.result; found = refl; is_table = c.table-2.ensures }
returns c Pristine = record { place = 8; item = c.table-3.result; found = refl; is_table = c.table-3.ensures }
returns c ActualNode = record { place = 11; item = c.table-4.result; found = refl; is_table = c.table-4.ensures }
returns c Lock = record { place = 14; item = c.table-5.result; found = refl; is_table = c.table-5.ensures }
returns c WorkQueue = record { place = 16; item = c.table-6.result; found = refl; is_table = c.table-6.ensures }
returns c WcLock = record { place = 17; item = c.table-7.result; found = refl; is_table = c.table-7.ensures }
returns c Nodes = record { place = 19; item = c.table-8.result; found = refl; is_table = c.table-8.ensures }
returns c Externals = record { place = 28; item = c.table-9.result; found = refl; is_table = c.table-9.ensures }
