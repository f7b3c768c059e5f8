use Rattle.std.proofs.Common.{◌∙◌, ◌++◌, ◌∷◌, [], Option, ap, sym, subst}
use Rattle.std.specs.Option.{is_some}
use Rattle.svn_types.specs.Names.{Path}
use Rattle.svn_types.specs.Paths.{parent}
use Rattle.svn_types.proofs.PathLemmas.{parent-child}
use Rattle.svn_repo.specs.History.{child_in}
use Rattle.svn_repo.specs.Stored.{rows}
use Rattle.svn_repo.specs.Drafts.{IsFound, IsGrafted, tree_in}
use Rattle.svn_repo.specs.Trees.{Place, leaf}
use Rattle.svn_repo.specs.Changes.{with_text}
use Rattle.svn_repo.proofs.Faults.{way_above}
use Rattle.svn_repo.proofs.Keeping.{kept_through}
use Rattle.svn_repo.proofs.Making.{found_above, made_grafted, thawed_above}
use Rattle.svn_repo.proofs.Standing.{by_walk}
use Rattle.svn_repo.proofs.commit.put_file.Goals as goal

pub thaw_path-requires-clause-way : goal.thaw_path-requires-clause-way
thaw_path-requires-clause-way c =
    (way_above (tree_in c.args.draft.base c.args.nodes.now.items c.args.draft.root) c.args.names.now c.split_path.result.1.now
    c.split_path.result.0.now c.split_path.ensures c.requires.above).0

pub thaw_path-requires-clause-near : goal.thaw_path-requires-clause-near
thaw_path-requires-clause-near c = subst (λ (p : Path). IsFound c.args.nodes.now.items c.args.draft.root p c.args.near)
    (ap parent c.split_path.ensures ∙ parent-child c.split_path.result.1.now c.split_path.result.0.now) c.requires.near

pub put_text-requires-clause-listing : goal.put_text-requires-clause-listing
put_text-requires-clause-listing c =
    thawed_above c.args.draft.base c.args.nodes.now.items c.thaw_path.new.nodes.items c.args.draft.root c.in_ok-root.root c.in_ok-root.at
    c.args.names.now c.split_path.result.1.now c.split_path.result.0.now c.split_path.ensures c.requires.above c.in_ok-root.ensures.ok.1

pub returns-clause-ok : goal.returns-clause-ok
returns-clause-ok c =
    let base = c.args.draft.base in
    let old = c.args.nodes.now.items in
    let mid = c.thaw_path.new.nodes.items in
    let new = c.put_text.new.nodes.items in
    let from = c.args.draft.root in
    let top = c.in_ok-root.root in
    let above = c.split_path.result.1.now in
    let last = c.split_path.result.0.now in
    let thawed = c.in_ok-root.ensures.ok.1 in
    let puts = c.in_ok-existed.ensures.ok in
    let grafted = made_grafted base old mid new from top c.in_ok-root.at above last puts.node thawed puts.childless puts.put
    c.in_ok-root.ensures.ok.0 in
    let place = puts.place base ∙ ap (λ (o : Option Place). with_text c.args.draft.lines o c.args.text.now)
    (found_above base old mid from top c.in_ok-root.at above last thawed) in
    subst (λ (p : Path). IsGrafted base old new from top p (leaf (with_text c.args.draft.lines (tree_in base old from p) c.args.text.now)))
    (sym c.split_path.ensures)
    (subst (λ (p : Place). IsGrafted base old new from top (above ++ last ∷ []) (leaf p)) place grafted)

pub returns-clause-existed : goal.returns-clause-existed
returns-clause-existed c =
    let base = c.args.draft.base in
    let mid = c.thaw_path.new.nodes.items in
    let thawed = c.in_ok-root.ensures.ok.1 in
    let at = c.in_ok-root.at in
    let last = c.split_path.result.0.now in
    c.in_ok-existed.ensures.existed
    ∙ by_walk base mid (child_in (rows mid at) last) (λ n e. thawed.draft.closed at n last e)
    ∙ ap is_some (found_above base c.args.nodes.now.items mid c.args.draft.root c.in_ok-root.root at c.split_path.result.1.now last thawed)
    ∙ ap (λ (p : Path). is_some (tree_in base c.args.nodes.now.items c.args.draft.root p)) (sym c.split_path.ensures)

pub returns-in_err-existed-clause-kept : goal.returns-in_err-existed-clause-kept
returns-in_err-existed-clause-kept c =
    kept_through c.args.draft.base c.args.nodes.now.items c.thaw_path.new.nodes.items c.put_text.new.nodes.items c.thaw_path.ensures.kept
    (c.put_text.ensures.kept c.args.draft.base c.in_ok-root.ensures.ok.1.fresh c.in_ok-root.ensures.ok.1.draft.base_in)

pub returns-clause-kept : goal.returns-clause-kept
returns-clause-kept c =
    kept_through c.args.draft.base c.args.nodes.now.items c.thaw_path.new.nodes.items c.put_text.new.nodes.items c.thaw_path.ensures.kept
    (c.put_text.ensures.kept c.args.draft.base c.in_ok-root.ensures.ok.1.fresh c.in_ok-root.ensures.ok.1.draft.base_in)
