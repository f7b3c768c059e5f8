use Rattle.std.proofs.Common.{◌≡◌, ◌∙◌, ◌∷◌, [], List, ap}
use Rattle.std.specs.List.{slice_get}
use Rattle.std.proofs.lemmas.Option.{slice_get_within}
use Rattle.svn_lists.proofs.Places.{slice_get-append}
use Rattle.svn_repo.specs.declared.store.Node.{Node}
use Rattle.svn_repo.proofs.store.push_child.Goals as goal

pub put_child-requires : goal.put_child-requires
put_child-requires c =
    let old = c.args.nodes.now.items in
    let at = c.args.at in
    let l = c.requires in
    let pushed : slice_get c.push.new.self.items at ≡ slice_get old at =
    ap (λ (v : List Node). slice_get v at) c.in_ok-push.ensures.items
    ∙ slice_get-append old (c.args.node ∷ []) at (slice_get_within old at l.0 l.2) in
    (l.0, l.1, pushed ∙ l.2, l.3)
