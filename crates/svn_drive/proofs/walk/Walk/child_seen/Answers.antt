use Rattle.std.proofs.Common.{rules, ◌∙◌}
use Rattle.svn_drive.specs.Walking.{request_of}
use Rattle.svn_drive.proofs.ChildPlaces.{Parts, child_followed, child_source, child_target}
use Rattle.svn_drive.proofs.walk.Walk.child_seen.Goals as goal

pub with_touched-requires : goal.with_touched-requires
with_touched-requires c =
    let x : Parts (request_of c.args.self.now) c.args.above.now c.args.below.now.name.now =
    record {
      here = c.args.here;
      src = c.child_source-source.result;
      beneath = c.copied-beneath.result;
      there = c.candidate-there.result;
      is_kept = c.all_hold-is_kept.result;
      target = c.target_of-target.result;
      here-is = c.requires.here;
      src-is = c.child_source-source.ensures.source;
      beneath-is = c.copied-beneath.ensures ∙ c.requires.below.target;
      there-is = c.candidate-there.ensures;
      is_kept-is = search rules;
      target-is = c.target_of-target.ensures;
    } in
    record {
      followed = child_followed (request_of c.args.self.now) c.args.above.now c.args.below.now.name.now c.requires.at x;
      start = search rules;
      source = child_source (request_of c.args.self.now) c.args.above.now c.args.below.now.name.now c.requires.at x;
      target = child_target (request_of c.args.self.now) c.args.above.now c.args.below.now.name.now c.requires.at x;
      below = c.requires.reported;
    }
