use Rattle.std.proofs.Common.{◌≡◌, ℕ, ◌∷◌, [], ◌++◌, Some, length, List, Option, ap, arith, rules, subst, sym, ◌∙◌}
use Rattle.std.specs.Option.{option_and_then}
use Rattle.svn_lists.proofs.Options.{and_then_same}
use Rattle.svn_repo.specs.declared.store.Node.{Node}
use Rattle.svn_repo.specs.Stored.{rows}
use Rattle.svn_repo.specs.Trees.{Place, place_at}
use Rattle.svn_repo.specs.Drafts.{PutsChild}
use Rattle.svn_repo.specs.Changes.{with_text}
use Rattle.std.proofs.lemmas.Option.{slice_get_within}
use Rattle.svn_repo.proofs.EntryWrites.{puts_pushed, shape_put}
use Rattle.svn_repo.proofs.Keeping.{kept_through, kept_put, kept_push}
use Rattle.svn_repo.proofs.Thawing.{place_from_shape}
use Rattle.svn_repo.proofs.commit.put_text.Goals as goal

pub returns-clause-ok : goal.returns-clause-ok
returns-clause-ok c =
    let old = c.args.nodes.now.items in
    let mid = c.put_child.new.nodes.items in
    let at = c.args.at in
    let name = c.args.name.now in
    let node = c.in_ok-node.node in
    let index : c.len-index.result ≡ length old = search rules in
    let put : PutsChild old mid at name (Some (length old)) =
    subst (λ (k : ℕ). PutsChild old mid at name (Some k)) index c.in_ok-old.ensures.ok in
    record {
      node = node;
      childless = c.in_ok-node.ensures.childless;
      place = λ base. c.in_ok-node.ensures.place base
          ∙ ap (λ (o : Option Place). with_text c.args.lines o c.args.text.now)
          (and_then_same (place_at (rows mid) base) (place_at (rows old) base) c.in_ok-old.old
          (λ m e. place_from_shape mid old base m (shape_put old mid at name (Some (length old)) put m))
          ∙ ap (option_and_then (place_at (rows old) base)) c.in_ok-old.ensures.found);
      put = subst (λ (v : List Node). PutsChild (old ++ node ∷ []) v at name (Some (length old))) (sym c.in_ok-push.ensures.items)
          (puts_pushed old mid node at name (Some (length old)) (slice_get_within old at c.requires.listing.0 c.requires.listing.2) put);
    }

pub returns-clause-kept : goal.returns-clause-kept
returns-clause-kept c = λ base fresh inside.
    let old = c.args.nodes.now.items in
    let mid = c.put_child.new.nodes.items in
    let size = c.in_ok-old.ensures.size in
    kept_through base old mid c.push.new.self.items (kept_put base c.args.at old mid fresh size c.in_ok-old.ensures.others)
    (kept_push base mid c.push.new.self.items c.in_ok-node.node (omega (arith, inside, size)) c.in_ok-push.ensures.items)
