use Rattle.std.proofs.Common.{◌≡◌, ℕ, ◌+◌, ◌-◌, ◌≤◌, ◌<◌, Some, length, refl, arith, subst, sym, ap, ◌∙◌}
use Rattle.std.specs.List.{slice_get}
use Rattle.std.specs.Option.{option_map}
use Rattle.std.proofs.lemmas.Grind.{common_steps}
use Rattle.std.proofs.lemmas.Option.{slice_get_read}
use Rattle.svn_lists.proofs.Places.{take_from_places, slice_get-set_other}
use Rattle.svn_repo.specs.History.{entries_at}
use Rattle.svn_repo.specs.Stored.{row_of, rows, entries_of}
use Rattle.svn_repo.specs.Heights.{height_from, IsOrdered}
use Rattle.svn_repo.proofs.Tallest.{AreDone, done_more}
use Rattle.svn_repo.proofs.heights.add_heights.Goals as goal

pub nodes-preserved : goal.nodes-preserved
nodes-preserved c =
    let inv = c.nodes.invariant in
    let nodes = c.args.nodes.now in
    let hs = c.nodes.heights.items in
    let base = c.len-base.result in
    let n : ℕ = c.nodes.n - 1 in
    let step : c.nodes.n ≡ n + 1 = omega arith in
    let inside : n < length nodes = omega arith in
    let here : slice_get nodes n ≡ Some c.index-nodes-n.result =
    slice_get_read nodes (length nodes) n c.index-nodes-n.result refl inside c.index-nodes-n.is in
    let entries : entries_of c.index-nodes-n.result.content ≡ entries_at (rows nodes n) =
    ap (λ o. entries_at (option_map row_of o)) (sym here) in
    let value : c.height_of.result ≡ height_from hs 0 (entries_at (rows nodes n)) =
    c.height_of.ensures ∙ ap (λ xs. height_from xs 0 (entries_of c.index-nodes-n.result.content)) c.deref.ensures.value
    ∙ ap (height_from hs 0) entries in
    let ordered : IsOrdered nodes base = subst (IsOrdered nodes) (sym inv.base_is) c.requires.ordered in
    let done : AreDone base (n + 1) hs (rows nodes) = subst (λ k. AreDone base k hs (rows nodes)) step inv.done in
    record {
      size = grind (arith, common_steps, inv.size);
      base_is = inv.base_is;
      low = omega arith;
      high = omega arith;
      same = λ m below. slice_get-set_other hs n c.height_of.result m (λ e. absurd (omega arith)) ∙ inv.same m below;
      done = done_more base nodes hs n c.height_of.result ordered (omega arith) inside inv.size done value;
    }

pub returns-clause-kept : goal.returns-clause-kept
returns-clause-kept c =
    let inside : length c.args.heights.now.items ≤ length c.args.nodes.now = c.requires.ordered.inside in
    take_from_places c.args.heights.now.items c.nodes.heights.items (omega (arith, c.nodes.invariant.size)) c.nodes.invariant.same
