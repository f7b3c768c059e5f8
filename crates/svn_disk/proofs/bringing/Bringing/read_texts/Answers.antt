use Rattle.std.proofs.Common.{List, subst, sym}
use Rattle.std.proofs.lemmas.List.{nil_from_length}
use Rattle.svn_types.specs.Names.{Path}
use Rattle.svn_model.specs.declared.base_node.BaseNode.{BaseNode}
use Rattle.svn_folder.specs.States.{seen}
use Rattle.svn_folder.specs.Steps.{run}
use Rattle.svn_disk.specs.Crashes.{IsTextIn}
use Rattle.svn_disk.specs.Ends.{EachNoted}
use Rattle.svn_disk.proofs.Copies.{next_missing, none_missing}
use Rattle.svn_disk.proofs.bringing.Bringing.read_texts.Goals as goal

pub nodes-init : goal.nodes-init
nodes-init g c = record { texts = λ old are s steps known olds all. all; coming = λ s steps known all. all }

pub nodes-preserved : goal.nodes-preserved
nodes-preserved g c = record {
  texts = λ old are.
      next_missing (λ s. IsTextIn c.args.self.now.admin.now.name (seen s)) (g.F.Folder.past c.args.folder.now) old c.args.nodes.now c.nodes.rest.now c.in-Some.after.now
      c.in-Some.first.now c.in-Some.ensures.cases.0 (c.in_ok-refuse_no_text.ensures.texts old are) (c.nodes.invariant.texts old are);
  coming = λ s steps known rest.
      c.nodes.invariant.coming s steps known
      (subst (λ (xs : List (Path × BaseNode)). EachNoted c.args.sizes.now.entries (IsTextIn c.args.self.now.admin.now.name (seen (run s steps))) xs)
      (sym c.in-Some.ensures.cases.0) (λ noted. c.in_ok-refuse_no_text.ensures.coming noted s steps known, rest));
}

pub returns-clause-texts : goal.returns-clause-texts
returns-clause-texts g c = λ old are.
    none_missing (λ s. IsTextIn c.args.self.now.admin.now.name (seen s)) (g.F.Folder.past c.args.folder.now) old c.args.nodes.now c.nodes.rest.now
    (nil_from_length c.nodes.rest.now c.in_default.ensures.cases) (c.nodes.invariant.texts old are)

pub returns-clause-coming : goal.returns-clause-coming
returns-clause-coming g c = λ s steps known.
    c.nodes.invariant.coming s steps known
    (subst (λ (xs : List (Path × BaseNode)). EachNoted c.args.sizes.now.entries (IsTextIn c.args.self.now.admin.now.name (seen (run s steps))) xs)
    (sym (nil_from_length c.nodes.rest.now c.in_default.ensures.cases)) tt)
