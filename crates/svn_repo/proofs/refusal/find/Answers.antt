use Rattle.std.proofs.Common.{◌≡◌, Some, length, refl, sym, ◌∙◌, arith}
use Rattle.std.specs.List.{slice_get}
use Rattle.std.proofs.lemmas.Option.{slice_get_read}
use Rattle.svn_repo.specs.Stored.{rows}
use Rattle.svn_repo.proofs.Faults.{led_file, led_directory, leads_on}
use Rattle.svn_repo.proofs.refusal.find.Goals as goal

pub returns-in-File-clause-fault : goal.returns-in-File-clause-fault
returns-in-File-clause-fault c = λ base.
    let here : slice_get c.args.nodes.now c.in-Some.id ≡ Some c.index-nodes-id.result =
    slice_get_read c.args.nodes.now (length c.args.nodes.now) c.in-Some.id c.index-nodes-id.result refl
    (c.loop-name.invariant.inside c.in-Some.id c.in-Some.is) (rw c.id.view_is at c.index-nodes-id.is) in
    sym (led_file base c.args.nodes.now c.loop-name.at c.in-Some.id c.index-nodes-id.result c.args.names.now c.loop-name.name-index
    c.name-item.result _ (c.loop-name.invariant.led base) c.in-Some.is here c.name-item.is (omega arith) (sym c.in-File.ensures))

pub loop-name-preserved : goal.loop-name-preserved
loop-name-preserved c =
    let here : slice_get c.args.nodes.now c.in-Some.id ≡ Some c.index-nodes-id.result =
    slice_get_read c.args.nodes.now (length c.args.nodes.now) c.in-Some.id c.index-nodes-id.result refl
    (c.loop-name.invariant.inside c.in-Some.id c.in-Some.is) (rw c.id.view_is at c.index-nodes-id.is) in
    record {
      led = λ base. rw c.child-at.ensures (led_directory base c.args.nodes.now c.loop-name.at c.in-Some.id c.index-nodes-id.result
          c.args.names.now c.loop-name.name-index c.name-item.result _ (c.loop-name.invariant.led base) c.in-Some.is here c.name-item.is
          (omega arith) (sym c.in-Directory.ensures));
      inside = λ n e. c.requires.closed c.in-Some.id n c.name-item.result (sym c.child-at.ensures ∙ e);
      leads = rw c.child-at.ensures (leads_on (rows c.args.nodes.now) c.loop-name.at c.in-Some.id c.args.names.now c.loop-name.name-index
          c.name-item.result _ c.loop-name.invariant.leads c.in-Some.is c.name-item.is (omega arith));
    }
