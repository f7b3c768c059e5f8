use Rattle.std.proofs.Common.{◌≡◌, [], ◌∷◌, ◌++◌, List, refl, sym, ap, subst, ◌∙◌, append-nil, append_assoc}
use Rattle.std.specs.Vec.Iter.{into_iter_items}
use Rattle.svn_types.specs.Names.{Path}
use Rattle.svn_model.specs.declared.base_node.BaseNode.{BaseNode}
use Rattle.svn_disk_audit.specs.Pristine.{Store, AreKeptAs}
use Rattle.svn_disk_audit.specs.Keeping.{HasRead}
use Rattle.svn_disk_audit.proofs.KeptTexts.{nothing_left, kept_more}
use Rattle.svn_disk_audit.proofs.keeping.keep_texts.Goals as goal

pub loop-path-init : goal.loop-path-init
loop-path-init g c =
    let store = g.E.Examiner.text_at c.args.examiner.now in
    record {
      done = [];
      all = c.into_iter-path-iterator.ensures.into_iter_gives.0;
      kept = subst (λ (l : List (Path × BaseNode)). AreKeptAs c.args.texts store [] l) (sym c.new-kept.ensures.items) tt;
      read = c.in_ok-keeper.ensures.read store;
      texts = c.in_ok-keeper.ensures.texts;
      same = refl;
    }

pub keep_node-requires : goal.keep_node-requires
keep_node-requires g c =
    let inv = c.loop-path.invariant in
    subst (λ (s : Store). HasRead s c.loop-path.keeper) (sym inv.same) inv.read

pub loop-path-preserved : goal.loop-path-preserved
loop-path-preserved g c =
    let inv = c.loop-path.invariant in
    let store = g.E.Examiner.text_at c.args.examiner.now in
    let e : Path × BaseNode = (c.in-Some.path, c.in-Some.node) in
    record {
      done = inv.done ++ e ∷ [];
      all = append_assoc inv.done (e ∷ []) (into_iter_items c.next.new.self)
          ∙ ap (λ (l : List (Path × BaseNode)). inv.done ++ l) (sym c.in-Some.ensures.steps.0) ∙ inv.all;
      kept = kept_more c.args.texts c.loop-path.keeper.reader.texts store (g.E.Examiner.text_at c.loop-path.examiner) inv.done c.loop-path.kept.items
          c.push.new.self.items c.in-Some.path c.in-Some.node c.in_ok-node.node inv.texts inv.same c.in_ok-push.ensures.items inv.kept
          c.in_ok-node.ensures.node;
      read = subst (λ (s : Store). HasRead s c.keep_node.new.self) inv.same c.in_ok-node.ensures.read;
      texts = c.keep_node.ensures.texts ∙ inv.texts;
      same = c.keep_node.ensures.same ∙ inv.same;
    }

pub returns-clause-kept : goal.returns-clause-kept
returns-clause-kept g c =
    let inv = c.loop-path.invariant in
    let none = nothing_left (into_iter_items c.loop-path.path-iterator)
    (sym c.loop-path.path-iterator.rest.ok.0 ∙ c.in-None.ensures.steps.0) in
    let done : inv.done ≡ c.args.nodes.items =
    sym (append-nil inv.done) ∙ ap (λ (l : List (Path × BaseNode)). inv.done ++ l) (sym none) ∙ inv.all in
    subst (λ (l : List (Path × BaseNode)). AreKeptAs c.args.texts (g.E.Examiner.text_at c.args.examiner.now) l c.loop-path.kept.items) done inv.kept
