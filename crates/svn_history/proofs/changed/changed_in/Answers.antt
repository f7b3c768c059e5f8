use Rattle.std.proofs.Common.{◌≡◌, ◌≢◌, ◌<◌, [], Some, sym, subst, rules}
use Rattle.svn_types.proofs.PathLemmas.{same_path, path_eq_from}
use Rattle.svn_types.specs.Names.{Path}
use Rattle.svn_history.specs.Changed.{IsChangedIn, latest_copy, copied, below_copy}
use Rattle.svn_history.proofs.changed.changed_in.Goals as goal

pub returns-then-eq-clause-changed : goal.returns-then-eq-clause-changed
returns-then-eq-clause-changed c =
    let below : c.copies.path ≢ [] = λ e. let root = c.is_root.ensures.1 e in cc in
    let latest : latest_copy c.args.copies.now c.copies.rev c.copies.path ≡ Some c.in-Some.copy.now = sym c.in-Some.ensures.latest in
    let newer : c.args.made < c.in-Some.copy.now.rev = search rules in
    let same : c.in-Some.copy.now.path ≡ c.copies.path = same_path c.in-Some.copy.now.path c.copies.path (sym (c.if-eq.ensures)) in
    c.copies.invariant c.in-Some.copy.now.rev (copied c.in-Some.copy.now below latest newer same)

pub copies-preserved : goal.copies-preserved
copies-preserved c = λ changed h.
    let copy = c.in-Some.copy.now in
    let path = c.copies.path in
    let below : path ≢ [] = λ e. let root = c.is_root.ensures.1 e in cc in
    let latest : latest_copy c.args.copies.now c.copies.rev path ≡ Some copy = sym c.in-Some.ensures.latest in
    let newer : c.args.made < copy.rev = search rules in
    let other : copy.path ≢ path = λ e. let same = path_eq_from copy.path path e in cc in
    c.copies.invariant changed (below_copy copy below latest newer other
    (subst (λ (p : Path). IsChangedIn c.args.copies.now c.args.made copy.source.rev p changed) c.in_ok-path-2.ensures.path h))
