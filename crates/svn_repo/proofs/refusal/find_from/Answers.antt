use Rattle.std.proofs.Common.{◌≡◌, ◌<◌, ◌-◌, Some, length, refl, rules, sym, ap, ◌∙◌}
use Rattle.std.specs.List.{slice_get}
use Rattle.std.specs.Option.{option_copied}
use Rattle.std.proofs.lemmas.Option.{slice_get_read}
use Rattle.svn_types.specs.Paths.{parent}
use Rattle.svn_types.proofs.PathLemmas.{split_at_last}
use Rattle.svn_types.specs.declared.kind.Kind.TheVariants.{Directory}
use Rattle.svn_repo.specs.History.{walk}
use Rattle.svn_repo.specs.Stored.{rows, kind_of}
use Rattle.svn_repo.specs.Drafts.{tree_in}
use Rattle.svn_repo.specs.Changes.{above_fault}
use Rattle.svn_repo.proofs.Known.{above_last, walk_last}
use Rattle.svn_repo.proofs.Thawing.{in_range}
use Rattle.svn_repo.proofs.refusal.find_from.Goals as goal

pub offset_bounds-nodes-at-inside : goal.offset_bounds-nodes-at-inside
offset_bounds-nodes-at-inside c =
    let known = c.requires.near c.in-Some-Some.at c.in-Some-Some.is-0 in
    let inside : c.in-Some-Some.at < length c.args.nodes.now =
    in_range c.args.nodes.now c.requires.closed c.args.root c.in-Some-Some.at (parent c.args.names.now) c.requires.root_in known in
    let index : c.at.inside.index < length c.args.nodes.now = rw c.at.view_is inside in
    search rules

pub bounds-nodes-at-inside : goal.bounds-nodes-at-inside
bounds-nodes-at-inside c =
    let known = c.requires.near c.in-Some-Some.at c.in-Some-Some.is-0 in
    let inside : c.in-Some-Some.at < length c.args.nodes.now =
    in_range c.args.nodes.now c.requires.closed c.args.root c.in-Some-Some.at (parent c.args.names.now) c.requires.root_in known in
    rw c.at.view_is inside

pub returns-then-eq-clause-found : goal.returns-then-eq-clause-found
returns-then-eq-clause-found c =
    let names = c.args.names.now in
    let nodes = c.args.nodes.now in
    let name = c.in-Some-Some.name.now in
    let known = c.requires.near c.in-Some-Some.at c.in-Some-Some.is-0 in
    let last : slice_get names (length names - 1) ≡ Some name = sym c.last.ensures.value ∙ ap option_copied c.in-Some-Some.is-1 in
    let under = rw c.at.view_is at c.child.ensures in
    under ∙ sym (ap (walk (rows nodes) c.args.root) (split_at_last names name last)
    ∙ walk_last nodes c.args.root c.in-Some-Some.at (parent names) name known)

pub returns-then-eq-clause-above : goal.returns-then-eq-clause-above
returns-then-eq-clause-above c = λ base.
    let names = c.args.names.now in
    let nodes = c.args.nodes.now in
    let name = c.in-Some-Some.name.now in
    let known = c.requires.near c.in-Some-Some.at c.in-Some-Some.is-0 in
    let last : slice_get names (length names - 1) ≡ Some name = sym c.last.ensures.value ∙ ap option_copied c.in-Some-Some.is-1 in
    let inside : c.in-Some-Some.at < length nodes =
    in_range nodes c.requires.closed c.args.root c.in-Some-Some.at (parent names) c.requires.root_in known in
    let here : slice_get nodes c.in-Some-Some.at ≡ Some c.index-nodes-at.result =
    slice_get_read nodes (length nodes) c.in-Some-Some.at c.index-nodes-at.result refl inside (rw c.at.view_is at c.index-nodes-at.is) in
    let kind : kind_of c.index-nodes-at.result.content ≡ Directory = search rules in
    ap (above_fault (tree_in base nodes c.args.root)) (split_at_last names name last)
    ∙ above_last base nodes c.args.root c.in-Some-Some.at c.index-nodes-at.result (parent names) name known here kind
