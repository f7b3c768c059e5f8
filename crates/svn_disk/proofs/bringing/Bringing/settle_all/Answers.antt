use Rattle.std.proofs.Common.{List, subst, rules}
use Rattle.std.specs.Prelude.{codes, OnOk}
use Rattle.svn_types.specs.Names.{Path}
use Rattle.svn_types.proofs.NameLemmas.{Name}
use Rattle.svn_model.specs.declared.base_node.BaseNode.{BaseNode}
use Rattle.svn_folder.specs.States.{seen}
use Rattle.svn_disk.specs.Goes.{IsAlways}
use Rattle.svn_disk.specs.Crashes.{EachText, IsTextIn}
use Rattle.svn_disk.specs.Ends.{EachNoted}
use Rattle.svn_disk.proofs.Going.{goes_there}
use Rattle.svn_disk.proofs.Replacing.{settled_runs, syncs_breaks}
use Rattle.svn_disk.proofs.bringing.Bringing.settle_all.Goals as goal

pub returns-clause-steps : goal.returns-clause-steps
returns-clause-steps g c = goes_there c.read_texts.result c.in_ok-settle.ensures.steps.0

pub returns-in_err-settle-clause-crash : goal.returns-in_err-settle-clause-crash
returns-in_err-settle-clause-crash g c = λ sync old are.
    let stops = syncs_breaks old (g.F.Folder.past c.args.folder.now.folder) (g.F.Folder.past c.settle.new.folder.folder) c.in_err-settle.ensures.steps.1 in search rules

pub returns-clause-crash : goal.returns-clause-crash
returns-clause-crash g c = λ sync old are.
    settled_runs old c.args.nodes.now (g.F.Folder.past c.args.folder.now.folder) (g.F.Folder.past c.settle.new.folder.folder) c.read_texts.result
    c.in_ok-settle.ensures.steps.0 (c.in_ok-settle.ensures.synced sync)
    (λ given.
    subst (λ (n : Name). IsAlways (λ s. EachText (IsTextIn n (seen s)) old → EachText (IsTextIn n (seen s)) c.args.nodes.now)
    (g.F.Folder.past c.settle.new.folder.folder)) c.requires (given old are))
    c.read_texts.ensures.texts

pub returns-clause-coming : goal.returns-clause-coming
returns-clause-coming g c =
    subst (λ (n : Name). OnOk c.read_texts.result (IsAlways (λ s. EachNoted c.args.sizes.now.entries (IsTextIn n (seen s)) c.args.nodes.now)
    (g.F.Folder.past c.settle.new.folder.folder))) c.requires c.read_texts.ensures.coming
