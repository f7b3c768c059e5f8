use Rattle.svn_name_map.proofs.Zipped.{joined_names}
use Rattle.svn_name_map.proofs.run.with_name.Goals as goal

pub returns : goal.returns
returns c =
    joined_names c.args.names.now c.args.place c.args.name c.split_at.result.0.now c.split_at.result.1.now c.in_ok-all.all.items
    c.extend_with_clones.new.self.items c.push.new.self.items c.extend_with_clones-2.new.self.items c.split_at.ensures.front
    c.split_at.ensures.back c.in_ok-all.ensures.items c.in_ok-extend_with_clones.ensures.items c.in_ok-push.ensures.items
    c.in_ok-extend_with_clones-2.ensures.items
